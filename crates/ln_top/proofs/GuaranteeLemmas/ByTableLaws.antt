-- What `run`, `emit` and `list` print, from the words, the bytes of the files and the status, follows from the ends of the steps and their clauses.
use Rattle.std.proofs.Common.{◌≡◌, ◌⊎◌, inl, inr, arith, ℕ, suc, ◌-◌, ◌^◌, ◌≤ℤ◌, ◌<◌, ℤ, pos, length, take, Bool, true, false}
use Rattle.std.proofs.Common.{List, [], ◌∷◌, ◌++◌, Option, Some, None, append_assoc, refl, ap, sym, ◌∙◌, subst}
use Rattle.std.specs.Prelude.{◌≢◌, IfSome, Result, All, map, AllPairs, MatchOption, unwrap_or, if◌then◌else◌, ◌==◌, Err, option_map, Ok}
use Rattle.std.proofs.lemmas.Option.{none-some, same_Some}
use Rattle.std.proofs.lemmas.List.Elements.{All-cons, All-contains, All-head, All-nil, All-tail}
use Rattle.std.proofs.lemmas.List.{get_or-take, get_or_default, length-take, take_all}
use Rattle.ln_base.specs.Outside.{Rose, Shelf, Shown, bytes_of}
use Rattle.ln_base.proofs.Texts.Lines.{snoc_same}
use Rattle.ln_algebra.specs.Orders.{BySmallest}
use Rattle.ln_lex.specs.declared.token.Token.{Token}
use Rattle.ln_syntax.specs.Raw.{Item}
use Rattle.ln_syntax.specs.File.{Spelt}
use Rattle.ln_lex.proofs.OneAnswer.{one_list}
use Rattle.ln_syntax.proofs.Spellings.OneSpelling.{one_spelling}
use Rattle.ln_parse.specs.Says.{ItemsSay}
use Rattle.ln_parse.specs.Text.{TextOf}
use Rattle.ln_parse.proofs.Settling.OneAnswer.{one_table}
use Rattle.ln_tree.specs.Row.{AreWithin, InRange, Row}
use Rattle.ln_tree.specs.Table.{PredOf, TableOf}
use Rattle.ln_rows.specs.Header.{columns_of}
use Rattle.ln_rows.specs.Left.{Records, records_in}
use Rattle.ln_rows.specs.Number.{number_in, within}
use Rattle.ln_rows.specs.Record.{Column, SiteIndex, Variable, columns, fault_or, first_fault, in_column, indices, said, values}
use Rattle.ln_rows.specs.Record.{differing, read_row, unless_fault}
use Rattle.ln_rows.specs.declared.record.RowStop.TheVariants.{Fields}
use Rattle.ln_order.specs.Order.{IsFirstEqual, first_equal, index_at}
use Rattle.ln_order.proofs.Listing.OrderLemmas.{first_equal_is}
use Rattle.ln_code.proofs.Following.Known.{le_test}
use Rattle.ln_base.specs.Decimal.{integer_value}
use Rattle.ln_tree.specs.declared.shape.VarInfo.{VarInfo}
use Rattle.ln_tree.specs.Variables.{starts_site}
use Rattle.ln_watch.specs.Panel.{State}
use Rattle.ln_top.specs.Target.Line.{decider_text, sign_text}
use Rattle.ln_top.specs.declared.frame.status.End.{End}
use Rattle.ln_top.specs.declared.frame.status.End.TheVariants as end
use Rattle.ln_top.specs.declared.frame.status.Status.{Status}
use Rattle.ln_top.specs.declared.frame.status.Status.TheVariants as status
use Rattle.ln_top.specs.Frame.Given.{Given, gives, named}
use Rattle.ln_top.specs.Frame.Said.{put_both, line}
use Rattle.ln_top.specs.Signs.Run.{HasRecords}
use Rattle.ln_top.specs.declared.words.Command.{Command}
use Rattle.ln_top.specs.declared.words.Command.TheVariants.{Emit, List as ListCommand, Run}
use Rattle.ln_top.specs.Emitted.{CallsArePerturbed, CallsPerturbedSign, PutC}
use Rattle.ln_top.specs.Causes as cause
use Rattle.ln_top.specs.Causes.{Ends, EndsExactly, IsSettled}
use Rattle.ln_base.specs.Lines.{joined}
use Rattle.ln_tree.specs.declared.pred.Pred.{Pred}
use Rattle.ln_tree.specs.Table.{pred_of}
use Rattle.ln_code.specs.Kept.{IsProgram}
use Rattle.ln_code.specs.Part.{Part}
use Rattle.ln_code.specs.Verdict.{IsVerdict}
use Rattle.ln_code.specs.declared.verdict.Verdict.{Verdict}
use Rattle.ln_due.proofs.Verdicts.UniqueLemmas.{due-sign}
use Rattle.ln_code.proofs.Verdicts.Machine.{programs-run, rows-have}
use Rattle.ln_compile.specs.Accepted.{AreSound, IsSound, root_of}
use Rattle.ln_compile.specs.Compiled.{AreProgramsOf, IsProgramOf}
use Rattle.ln_compile.proofs.Listing.FilteredLemmas.{programs_answer}
use Rattle.ln_cert.specs.Listing.{texts_of}
use Rattle.ln_cert.specs.Written.{listing_of}
use Rattle.ln_cemit.specs.Emitted.{AreKept}
use Rattle.ln_top.specs.Texts.Text.{prints}
use Rattle.ln_top.specs.Texts.Listing.{ListSaid}
use Rattle.ln_top.proofs.TextsLemmas.EmitLaws.{AreNamed}
use Rattle.ln_top.specs.Frame.Said.{Count, Said, status_of}
use Rattle.ln_top.specs.declared.frame.status.Early.{Early}
use Rattle.ln_top.proofs.FrameLemmas.Grounded.{IsGrounded}
use Rattle.ln_top.proofs.Theorem.EmittedLaws.{emitted, names_given}
use Rattle.ln_top.proofs.Steps.TopLaws.{Carried, by_work, exactly}
use Rattle.ln_top.proofs.Theorem.HeadlineLaws.{headline, never_zero}
use Rattle.ln_top.specs.Listed.{GivesPerturbedSign}
use Rattle.ln_top.specs.Perturbed.{IsSignOn}
use Rattle.ln_top.specs.Headline as head
use Rattle.ln_top.specs.Headline.{HasPerturbedSign, HavePerturbedSigns, PutSigns, SignsArePerturbed}
use Rattle.ln_top.specs.Target.Target.{OnRows}
use Rattle.ln_top.specs.Plan.{Plan, plan_of}
use Rattle.ln_top.specs.Signature.{Asks}
use Rattle.ln_top.specs.Steps as step
use Rattle.ln_top.specs.Steps.{Compiles, Each, Finds, Prepares, Reads, WhereGiven}
use Rattle.ln_top.proofs.GuaranteeLemmas.ByTable as by_table
use Rattle.ln_top.proofs.GuaranteeLemmas.ByTable.{AreSignLines, no_line, a_line, BeginsWithSign, EmitWritesC, FieldsSay}
use Rattle.ln_top.proofs.GuaranteeLemmas.ByTable.{IsPartFor, ListWritesListing, WritesC, WritesLines, WritesListing, RunWritesSigns, Tells}

-- ---- the table
-- bytes that are a text tell its table alone
one_told : (bytes : List ℕ) (u t : TableOf) → TextOf bytes u → Tells bytes t → u ≡ t
one_told bytes u t a k =
    let q = one_list bytes k.tokens a.tokens k.lexed a.lexed in
    let spelt = subst (λ (w : List Token). Spelt w k.items) q k.spelt in
    let says = subst (λ (w : List Token). ItemsSay bytes w k.items t) q k.says in
    let e = one_spelling a.tokens k.items a.items spelt a.spelt in
    one_table bytes u t a (record {
      tokens = a.tokens;
      lexed = a.lexed;
      few = a.few;
      shallow = a.shallow;
      items = a.items;
      spelt = a.spelt;
      clean = a.clean;
      says = subst (λ (w : List Item). ItemsSay bytes a.tokens w t) e says;
    })

table_is : (bytes : List ℕ) (u t : TableOf) → Compiles bytes (gives u) → Tells bytes t → u ≡ t
table_is bytes u t (step.accepted _ a) k = one_told bytes u t a.accepted.text k

-- ---- what the steps give
read_is : (shelf : Shelf) (limit : ℕ) (name bytes known : List ℕ) → Reads (Some shelf) limit name (gives bytes)
    → bytes_of name shelf ≡ Some known → bytes ≡ known
read_is shelf limit name bytes known (step.there _ m l) e = same_Some bytes known (sym m ∙ e)

pred_is : (table : List PredOf) (name : List ℕ) (p q : PredOf) → Finds table name (gives p) → named name table ≡ Some q → p ≡ q
pred_is table name p q (step.found _ f) e = same_Some p q (sym f ∙ e)

preds_are : (table : List PredOf) (name : List ℕ) (preds : List PredOf) (p : PredOf) → Each (Finds table) (name ∷ []) (gives preds)
    → named name table ≡ Some p → preds ≡ p ∷ []
preds_are table name preds p (step.goes q f (step.goes qs g h)) e =
    let a : q ≡ p = pred_is table name q p f e in
    let b : qs ≡ [] = cc in
    let c : preds ≡ q ∷ qs = cc in
    c ∙ ap (λ x. q ∷ x) b ∙ ap (λ x. x ∷ []) a

texts_are : (shelf : Shelf) (limit : ℕ) (name : List ℕ) (texts : List (List ℕ)) (text : List ℕ)
    → Each (Reads (Some shelf) limit) (name ∷ []) (gives texts) → bytes_of name shelf ≡ Some text → texts ≡ text ∷ []
texts_are shelf limit name texts text (step.goes x f (step.goes xs g h)) e =
    let a : x ≡ text = read_is shelf limit name x text f e in
    let b : xs ≡ [] = cc in
    let c : texts ≡ x ∷ xs = cc in
    c ∙ ap (λ y. x ∷ y) b ∙ ap (λ y. y ∷ []) a

-- the plan of the words `run FILE NAME ROWS`
abbrev pub run_plan : List ℕ → List ℕ → List ℕ → Plan
run_plan file name rows = record { source = file; names = name ∷ []; files = rows ∷ []; command = Run }

record AreGiven (t : TableOf) (p : PredOf) (text : List ℕ) (g : Given) : Type 0 where
  table : g.table ≡ t
  preds : g.preds ≡ p ∷ []
  texts : g.texts ≡ text ∷ []

are_given : (shelf : Shelf) (file name rows source text : List ℕ) (t : TableOf) (p : PredOf) (g : Given)
    → bytes_of file shelf ≡ Some source → bytes_of rows shelf ≡ Some text → Tells source t → named name t.preds ≡ Some p
    → Prepares (run_plan file name rows) (Some shelf) (gives g) → AreGiven t p text g
are_given shelf file name rows source text t p g a b k f
    (step.goes bytes r (step.goes table c (step.goes preds n (step.goes _ y (step.goes texts x h))))) =
    let s : bytes ≡ source = read_is shelf _ file bytes source r a in
    let same : table ≡ t = table_is bytes table t c (subst (λ (z : List ℕ). Tells z t) (sym s) k) in
    let e : g ≡ record { table = table; preds = preds; texts = texts } = cc in
    record {
      table = ap (λ (z : Given). z.table) e ∙ same;
      preds = ap (λ (z : Given). z.preds) e ∙ preds_are table.preds name preds p n (ap (λ (z : TableOf). named name z.preds) same ∙ f);
      texts = ap (λ (z : Given). z.texts) e ∙ texts_are shelf _ rows texts text x b;
    }

-- ---- the end
abbrev is_of_rows : End → Bool
is_of_rows end.Done = true
is_of_rows end.Rows = true
is_of_rows e = false

-- a command that asks nothing of its predicates and ends so was given what its steps prepare
was_given : (words : List (List ℕ)) (shelf : Shelf) (plan : Plan) (e : End) → plan_of words ≡ Some plan
    → ((preds : List PredOf) → Asks plan.command preds) → is_of_rows e ≡ true → Ends words (Some shelf) e
    → (g : Given) × Prepares plan (Some shelf) (gives g)
was_given words shelf plan e f r w (cause.usage n i) = absurd (none-some plan (sym n ∙ f))
was_given words shelf plan e f r w (cause.long_source p n h i) = absurd (cc)
was_given words shelf plan e f r w (cause.refused p bytes k place n a h i) = absurd (cc)
was_given words shelf plan e f r w (cause.no_predicate p table h n i) = absurd (cc)
was_given words shelf plan e f r w (cause.unsuited p table preds h n o i) =
    absurd (o (subst (λ (z : Plan). Asks z.command preds) (sym (same_Some p plan (sym h.form ∙ f))) (r preds)))
was_given words shelf plan e f r w (cause.long_file p table preds h n y l i) = absurd (cc)
was_given words shelf plan e f r w (cause.worked p g n x h) =
    (g, subst (λ (z : Plan). Prepares z (Some shelf) (gives g)) (same_Some p plan (sym n ∙ f)) x)

-- ---- rows
record IsRead (k : ℕ) (cs : List Column) (fields : List (List ℕ)) (index zs : List ℤ) : Type 0 where
  size : length fields ≡ length cs
  fault : first_fault k cs fields ≡ None
  index_is : indices cs fields ≡ index
  values_are : values cs fields ≡ zs

at_site : (i : VarInfo) (is : List VarInfo) → starts_site i ≡ true → SiteIndex ∷ Variable i ∷ columns is ≡ columns (i ∷ is)
at_site i is e = sym (ap (λ (b : Bool). if b then SiteIndex ∷ Variable i ∷ columns is else Variable i ∷ columns is) e)

at_next : (i : VarInfo) (is : List VarInfo) → starts_site i ≡ false → Variable i ∷ columns is ≡ columns (i ∷ is)
at_next i is e = sym (ap (λ (b : Bool). if b then SiteIndex ∷ Variable i ∷ columns is else Variable i ∷ columns is) e)

number_ok : (lo hi z : ℤ) (field : List ℕ) → integer_value field ≡ Some z → lo ≤ℤ z → z ≤ℤ hi → number_in lo hi field ≡ Ok z
number_ok lo hi z field e a b = ap (within lo hi) e ∙ rw (le_test lo z a, le_test z hi b) refl

said_is : (z : ℤ) (field : List ℕ) → integer_value field ≡ Some z → said field ≡ z
said_is z field e = ap (λ o. unwrap_or o (pos 0)) e

abbrev IsIndex : ℤ → Type 0
IsIndex z = (pos 0 ≤ℤ z) × (z ≤ℤ pos (2 ^ 63 - 1))

-- a value in its range is read, after the columns behind it
value_read : (k : ℕ) (i : VarInfo) (cs : List Column) (g : List ℕ) (fields : List (List ℕ)) (z : ℤ) (index zs : List ℤ)
    → integer_value g ≡ Some z → i.lo ≤ℤ z → z ≤ℤ i.hi → IsRead (suc k) cs fields index zs
    → IsRead k (Variable i ∷ cs) (g ∷ fields) index (z ∷ zs)
value_read k i cs g fields z index zs e a b r = record {
  size = ap suc r.size;
  fault = ap (λ x. fault_or (in_column k x) (first_fault (suc k) cs fields)) (number_ok i.lo i.hi z g e a b) ∙ r.fault;
  index_is = r.index_is;
  values_are = ap (λ x. x ∷ values cs fields) (said_is z g e) ∙ ap (λ x. z ∷ x) r.values_are;
}

index_read : (k : ℕ) (cs : List Column) (f : List ℕ) (fields : List (List ℕ)) (n : ℤ) (index zs : List ℤ) → integer_value f ≡ Some n
    → IsIndex n → IsRead (suc k) cs fields index zs → IsRead k (SiteIndex ∷ cs) (f ∷ fields) (n ∷ index) zs
index_read k cs f fields n index zs e a r = record {
  size = ap suc r.size;
  fault = ap (λ x. fault_or (in_column k x) (first_fault (suc k) cs fields)) (number_ok (pos 0) (pos (2 ^ 63 - 1)) n f e a.0 a.1) ∙ r.fault;
  index_is = ap (λ x. x ∷ indices cs fields) (said_is n f e) ∙ ap (λ x. n ∷ x) r.index_is;
  values_are = r.values_are;
}

is_read : (k : ℕ) {vars : List VarInfo} {fields : List (List ℕ)} {index zs : List ℤ} → FieldsSay vars fields index zs
    → All IsIndex index → AreWithin vars zs → IsRead k (columns vars) fields index zs
is_read k by_table.none a w = record { size = refl; fault = refl; index_is = refl; values_are = refl }
is_read k (by_table.site {i = i} {is = is} {f = f} {g = g} {fields = fields} {n = n} {z = z} {index = index} {values = zs} s x y h) a w =
    subst (λ cs. IsRead k cs (f ∷ g ∷ fields) (n ∷ index) (z ∷ zs)) (at_site i is s)
    (index_read k (Variable i ∷ columns is) f (g ∷ fields) n index (z ∷ zs) x (All-head IsIndex n index a)
    (value_read (suc k) i (columns is) g fields z index zs y w.0 w.1
    (is_read (suc (suc k)) h (All-tail IsIndex n index a) w.2)))
is_read k (by_table.next {i = i} {is = is} {g = g} {fields = fields} {z = z} {index = index} {values = zs} s y h) a w =
    subst (λ cs. IsRead k cs (g ∷ fields) index (z ∷ zs)) (at_next i is s)
    (value_read k i (columns is) g fields z index zs y w.0 w.1 (is_read (suc k) h a w.2))

eqb-same : (m n : ℕ) → m ≡ n → (m == n) ≡ true
eqb-same m n e = grind (e, arith)

not_equal : (zs : List ℤ) (k : ℕ) → AllPairs (λ y z. y ≢ z) zs → IsFirstEqual zs k → ⊥
not_equal zs k h m =
    let e = m.earlier in
    let below : e.0 < k = omega (arith, e.1, length-take k zs) in
    h e.0 k (pos 0) below m.within
    (get_or_default zs e.0 (pos 0) (index_at zs k) (omega (arith, below, m.within)) ∙ sym (get_or-take k zs e.0 (index_at zs k) below) ∙ e.2)

none_equal : (zs : List ℤ) → AllPairs (λ y z. y ≢ z) zs → first_equal zs ≡ None
none_equal zs h = go (first_equal zs) (first_equal_is zs)
  where
    go : (o : Option ℕ) → MatchOption o (AllPairs (λ y z. y ≢ z) zs) (λ k. IsFirstEqual zs k) → o ≡ None
    go None m = refl
    go (Some k) m = absurd (not_equal zs k h m)

row_read : (sites : ℕ) (vars : List VarInfo) (fields : List (List ℕ)) (row : Row) → FieldsSay vars fields row.index row.values
    → InRange sites vars row → read_row sites vars fields ≡ Ok row
row_read sites vars fields row h range =
    let r = is_read 0 h range.indices range.values in
    let cs = columns vars in
    let made : Row = record { index = take sites (indices cs fields); values = values cs fields } in
    let same : take sites (indices cs fields) ≡ row.index = ap (take sites) r.index_is ∙ take_all sites row.index (omega (arith, range.size)) in
    let is : made ≡ row = (λ j. record { index = same j; values = r.values_are j }) in
    let differ : first_equal made.index ≡ None = ap first_equal same ∙ none_equal row.index range.differ in
    let whole : (length fields == length cs) ≡ true = eqb-same (length fields) (length cs) r.size in
    ap (λ (b : Bool). if b then unless_fault cs made (first_fault 0 cs fields) else Err Fields) whole
    ∙ ap (unless_fault cs made) r.fault ∙ ap (differing cs made) differ ∙ ap Ok is

-- ---- the lines
begins : (p : PredOf) (row : Row) (text body : List ℕ) → text ≡ line body → HasPerturbedSign BySmallest p row text
    → BeginsWithSign p row body
begins p row text body e h = record {
  sign = h.verdict.sign;
  perturbed = h.perturbed;
  never_zero = h.never_zero;
  rest = decider_text h.verdict.by;
  is = snoc_same body (sign_text h.verdict.sign ++ 32 ∷ decider_text h.verdict.by) (sym e ∙ h.text_is);
}

are_lines : (p : PredOf) {records : Records} {lines : List ℕ} → HavePerturbedSigns BySmallest p records lines → AreSignLines p records lines
are_lines p head.none = no_line
are_lines p (head.more {fields = fields} {rest = rest} text texts one f h) =
    let e : text ++ texts ≡ one.body ++ 10 ∷ texts = ap (λ (x : List ℕ). x ++ texts) one.is ∙ append_assoc one.body (10 ∷ []) texts in
    subst (λ (x : List ℕ). AreSignLines p (fields ∷ rest) x) (sym e)
    (a_line one.body one.none
    (λ row r i. begins p row text one.body one.is (f row (row_read p.sites p.vars fields row r i))) (are_lines p h))

put_out : (lines err : List ℕ) (was : Option Shown)
    → option_map (λ (s : Shown). s.out) (put_both lines err was) ≡ option_map (λ (s : Shown). s.out ++ lines) was
put_out lines err None = refl
put_out lines err (Some s) = refl

put_lines : (p : PredOf) (records : Records) (boxes : List State) (was now : Option Shown) → PutSigns BySmallest p records boxes was now
    → WritesLines p records was now
put_lines p records boxes was now h = record {
  lines = h.lines;
  are = are_lines p h.signs;
  out = ap (option_map (λ (s : Shown). s.out)) h.shown ∙ put_out h.lines h.err was;
}

-- ---- the status
settled : (result : Status) → (result ≡ status.Done) ⊎ (result ≡ status.Rows) → IsSettled result
settled result (inl e) = record { read = λ f. cc; write = λ f. cc; memory = λ f. cc }
settled result (inr e) = record { read = λ f. cc; write = λ f. cc; memory = λ f. cc }

-- a command whose status is done or rows was given what its steps prepare
given_by : (words : List (List ℕ)) (shelf : Shelf) (plan : Plan) (result : Status) (reads puts : Type 0) → plan_of words ≡ Some plan
    → ((preds : List PredOf) → Asks plan.command preds) → (result ≡ status.Done) ⊎ (result ≡ status.Rows)
    → EndsExactly words shelf result reads puts → (g : Given) × Prepares plan (Some shelf) (gives g)
given_by words shelf plan result reads puts f r (inl e) ends = was_given words shelf plan end.Done f r refl ((ends end.Done).only e)
given_by words shelf plan result reads puts f r (inr e) ends = was_given words shelf plan end.Rows f r refl ((ends end.Rows).only e)

-- the source of such a command has a table
pub source_text : (words : List (List ℕ)) (shelf : Shelf) (plan : Plan) (result : Status) (reads puts : Type 0) (source : List ℕ)
    → plan_of words ≡ Some plan → ((preds : List PredOf) → Asks plan.command preds) → (result ≡ status.Done) ⊎ (result ≡ status.Rows)
    → EndsExactly words shelf result reads puts → bytes_of plan.source shelf ≡ Some source → (t : TableOf) × TextOf source t
source_text words shelf plan result reads puts source f r d ends a =
    let given = given_by words shelf plan result reads puts f r d ends in
    has_text given.0 given.1
  where
    has_text : (g : Given) → Prepares plan (Some shelf) (gives g) → (t : TableOf) × TextOf source t
    has_text g (step.goes bytes b (step.goes table (step.accepted _ c) h)) =
        let s : bytes ≡ source = read_is shelf _ plan.source bytes source b a in
        (table, subst (λ (z : List ℕ). TextOf z table) s c.accepted.text)

has_records : (t : TableOf) (p : PredOf) (text : List ℕ) (records : Records) (g : Given) → AreGiven t p text g
    → records_in text ≡ columns_of t p ∷ records → HasRecords g p (columns_of t p) (columns_of t p ∷ records)
has_records t p text records g h e = record {
  others = [];
  pred = h.preds;
  columns = ap (λ (z : TableOf). columns_of z p) (sym h.table);
  rows = text;
  text = h.texts;
  are = e;
}

by_run : (words : List (List ℕ)) (shelf : Shelf) (boxes : List State) (result : Status) (reads puts : Type 0) (was now : Option Shown)
    → EndsExactly words shelf result reads puts → (IsSettled result → SignsArePerturbed words shelf boxes was now)
    → RunWritesSigns words shelf result was now
by_run words shelf boxes result reads puts was now ends signs = λ file name rows source text t p records w a b k f x d.
    let plan = run_plan file name rows in
    let form : plan_of words ≡ Some plan = ap plan_of w in
    let given = given_by words shelf plan result reads puts form (λ preds. tt) d ends in
    let are = are_given shelf file name rows source text t p given.0 a b k f given.1 in
    put_lines p records boxes was now
    (signs (settled result d) plan given.0 form refl given.1 p (columns_of t p) records (has_records t p text records given.0 are x))

-- ---- `emit` and `list`
-- the plan of the words of a command with a file alone
abbrev pub text_plan : Command → List ℕ → Plan
text_plan c file = record { source = file; names = []; files = []; command = c }

table_given : (shelf : Shelf) (c : Command) (file source : List ℕ) (t : TableOf) (g : Given) → bytes_of file shelf ≡ Some source
    → Tells source t → Prepares (text_plan c file) (Some shelf) (gives g) → g.table ≡ t
table_given shelf c file source t g a k (step.goes bytes r (step.goes table x (step.goes preds n (step.goes _ y (step.goes texts z h))))) =
    let s : bytes ≡ source = read_is shelf _ file bytes source r a in
    let same : table ≡ t = table_is bytes table t x (subst (λ (z : List ℕ). Tells z t) (sym s) k) in
    let e : g ≡ record { table = table; preds = preds; texts = texts } = cc in
    ap (λ (z : Given). z.table) e ∙ same

put_calls : (preds : List PredOf) (was now : Option Shown) → PutC preds was now → WritesC preds was now
put_calls preds was now h = record {
  bytes = h.bytes;
  file = h.file;
  text = h.text;
  calls = λ p row has range.
      let c = All-contains (OnRows (CallsPerturbedSign h.file)) preds p h.signs has row range in
      record { sign = c.sign; counts = c.counts; called = c.called; perturbed = c.perturbed; never_zero = c.never_zero };
  out = ap (option_map (λ (s : Shown). s.out)) h.shown ∙ put_out h.bytes [] was;
}

by_emit : (words : List (List ℕ)) (shelf : Shelf) (result : Status) (reads puts : Type 0) (was now : Option Shown)
    → EndsExactly words shelf result reads puts → (IsSettled result → CallsArePerturbed words shelf was now)
    → EmitWritesC words shelf result was now
by_emit words shelf result reads puts was now ends signs = λ file source t w a k d.
    let plan = text_plan Emit file in
    let form : plan_of words ≡ Some plan = ap plan_of w in
    let given = given_by words shelf plan result reads puts form (λ preds. tt) (inl d) ends in
    let same = table_given shelf Emit file source t given.0 a k given.1 in
    put_calls t.preds was now
    (subst (λ (z : TableOf). PutC z.preds was now) same (signs (settled result (inl d)) plan given.0 form refl given.1))

-- the program of a predicate is a part for it
is_part : (p : Pred) (c : Part) → IsProgramOf (pred_of p) c → IsProgram c → IsSound (pred_of p)
    → (let q : PredOf = pred_of p in q.shape_name ≡ q.name) → IsPartFor (pred_of p) c
is_part p c o k sound named = record {
  name = o.name ∙ named;
  sites = o.sites;
  vars = o.vars;
  rows = λ row range. gives_sign row range (there row range);
}
  where
    there : (row : Row) → InRange p.shape.sites p.shape.vars row → InRange c.shape.sites c.shape.vars row
    there row range = rw (o.sites, o.vars) range

    sign : (row : Row) → InRange p.shape.sites p.shape.vars row → (v : Verdict) → IsVerdict c row v → IsSignOn BySmallest (pred_of p) row v.sign
    sign row range v m =
        let d = programs_answer (pred_of p) c row v k o range m in
        due-sign BySmallest p.shape.vars (root_of (pred_of p)) row d.filtering v d.due

    gives_sign : (row : Row) → InRange p.shape.sites p.shape.vars row → InRange c.shape.sites c.shape.vars row
        → GivesPerturbedSign (pred_of p) c row
    gives_sign row range h =
        let a = rows-have c row (programs-run c k) h in
        record {
          verdict = a.0;
          answers = a.1;
          perturbed = sign row range;
          never_zero = λ v m all. never_zero p row range sound all v.sign (sign row range v m);
        }

abbrev IsPair : PredOf × Part → Type 0
IsPair x = IsPartFor x.0 x.1

record ArePaired (preds : List PredOf) (programs : List Part) : Type 0 where
  pairs : List (PredOf × Part)
  of : map (λ x. x.0) pairs ≡ preds
  to : map (λ x. x.1) pairs ≡ programs
  are : All IsPair pairs

paired : (ps : List Pred) (cs : List Part) → AreProgramsOf (map pred_of ps) cs → AreKept cs → AreSound (map pred_of ps)
    → AreNamed (map pred_of ps) → ArePaired (map pred_of ps) cs
paired [] [] a k s n = record { pairs = []; of = refl; to = refl; are = All-nil IsPair }
paired [] (c ∷ cs) a k s n = absurd a
paired (p ∷ ps) [] a k s n = absurd a
paired (p ∷ ps) (c ∷ cs) a k s n =
    let r = paired ps cs a.1 k.1 s.1 n.1 in
    record {
      pairs = (pred_of p, c) ∷ r.pairs;
      of = ap (λ x. pred_of p ∷ x) r.of;
      to = ap (λ x. c ∷ x) r.to;
      are = All-cons IsPair (pred_of p, c) r.pairs (is_part p c a.0 k.0 s.0 n.0) r.are;
    }

put_parts : (g : Given) (a : Said) (was now : Option Shown) → IsGrounded g → ListSaid g a → now ≡ put_both a.out a.err was
    → WritesListing g.table.preds was now
put_parts g a was now i (prints text c) q =
    let preds : map pred_of i.table.preds ≡ g.table.preds = ap (λ (t : TableOf). t.preds) i.is in
    let r = paired i.table.preds c.programs (rw preds c.are_programs) c.kept (rw preds i.sound) (rw preds (names_given g i)) in
    let lines : text ≡ joined (texts_of 2 (listing_of (map (λ x. x.1) r.pairs))) =
    c.text.text ∙ (λ j. joined (texts_of (c.second j) (c.lines j))) ∙ ap (λ x. joined (texts_of 2 (listing_of x))) (sym r.to) in
    record {
      parts = r.pairs;
      of = r.of ∙ preds;
      are = r.are;
      out = ap (option_map (λ (s : Shown). s.out)) q ∙ put_out text [] was ∙ ap (λ (x : List ℕ). option_map (λ (s : Shown). s.out ++ x) was) lines;
    }

by_list : (words : List (List ℕ)) (shelf : Shelf) (result : Status) (reads puts : Type 0) (was now : Option Shown)
    → EndsExactly words shelf result reads puts
    → (IsSettled result → WhereGiven words shelf ListCommand (λ g. WritesListing g.table.preds was now))
    → ListWritesListing words shelf result was now
by_list words shelf result reads puts was now ends signs = λ file source t w a k d.
    let plan = text_plan ListCommand file in
    let form : plan_of words ≡ Some plan = ap plan_of w in
    let given = given_by words shelf plan result reads puts form (λ preds. tt) (inl d) ends in
    let same = table_given shelf ListCommand file source t given.0 a k given.1 in
    subst (λ (z : TableOf). WritesListing z.preds was now) same (signs (settled result (inl d)) plan given.0 form refl given.1)

-- ---- the clauses
-- of `run`
pub run_by_table : {words : List (List ℕ)} {told : Option Shelf} {boxes : List State} {reads : Type 0} {puts : Count} {r : Result End Early}
    {result : Status} {was now : Option Shown} → result ≡ status_of r → Carried words told boxes reads puts r was now
    → IfSome told (λ shelf. RunWritesSigns words shelf result was now)
run_by_table {told = None} e h = tt
run_by_table {words = words} {told = Some shelf} {boxes = boxes} {reads = reads} {puts = puts} {r = r} {result = result} {was = was} {now = now} e h =
    by_run words shelf boxes result reads (Rose puts.before puts.after) was now (exactly words shelf boxes reads puts r result was now e h)
    (λ s. by_work Run _ e h (λ k i w. headline k i (w s)))

-- of `emit`
pub emit_by_table : {words : List (List ℕ)} {told : Option Shelf} {boxes : List State} {reads : Type 0} {puts : Count} {r : Result End Early}
    {result : Status} {was now : Option Shown} → result ≡ status_of r → Carried words told boxes reads puts r was now
    → IfSome told (λ shelf. EmitWritesC words shelf result was now)
emit_by_table {told = None} e h = tt
emit_by_table {words = words} {told = Some shelf} {boxes = boxes} {reads = reads} {puts = puts} {r = r} {result = result} {was = was} {now = now} e h =
    by_emit words shelf result reads (Rose puts.before puts.after) was now (exactly words shelf boxes reads puts r result was now e h)
    (λ s. by_work Emit _ e h (λ k i w. emitted k i (w s)))

-- of `list`
pub list_by_table : {words : List (List ℕ)} {told : Option Shelf} {boxes : List State} {reads : Type 0} {puts : Count} {r : Result End Early}
    {result : Status} {was now : Option Shown} → result ≡ status_of r → Carried words told boxes reads puts r was now
    → IfSome told (λ shelf. ListWritesListing words shelf result was now)
list_by_table {told = None} e h = tt
list_by_table {words = words} {told = Some shelf} {boxes = boxes} {reads = reads} {puts = puts} {r = r} {result = result} {was = was} {now = now} e h =
    by_list words shelf result reads (Rose puts.before puts.after) was now (exactly words shelf boxes reads puts r result was now e h)
    (λ s. by_work ListCommand _ e h (λ k i w. let x = w s in put_parts k x.said was now i.grounded x.owed x.shown))
