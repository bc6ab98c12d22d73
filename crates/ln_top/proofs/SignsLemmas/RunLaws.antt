-- The records of a rows file: whether all are rows, where work on them ends, and that they are one.
use Rattle.std.proofs.Common.{◌≡◌, ℕ, ◌&&◌, Bool, true, false, true≢false, List, [], ◌∷◌, ◌++◌, refl, ap, sym, ◌∙◌, subst}
use Rattle.std.proofs.Common.{Result, Ok, Err, All}
use Rattle.std.proofs.lemmas.List.Elements.{All-nil, All-cons, All-head, All-tail}
use Rattle.ln_tree.specs.Row.{Row}
use Rattle.ln_tree.specs.Table.{PredOf}
use Rattle.ln_rows.specs.Left.{Records, records_in}
use Rattle.ln_rows.specs.Record.{read_row}
use Rattle.ln_rows.specs.declared.record.RowStop.{RowStop}
use Rattle.ln_top.specs.declared.frame.status.End.{End}
use Rattle.ln_top.specs.Frame.Given.{Given}
use Rattle.ln_rows.specs.Header.{columns_of, IsWrongHeader}
use Rattle.ln_top.specs.Target.Line.{is_read, is_row}
use Rattle.ln_top.specs.Frame.Lines.{all_good}
use Rattle.ln_top.specs.Frame.Work as kind_of
use Rattle.ln_top.specs.Frame.Work.{IsWorkEnd}
use Rattle.ln_top.specs.Signs.Run as run
use Rattle.ln_top.specs.Signs.Run.{RunEnds, HasRecords, IsRow, IsNoRow, end_of}
use Rattle.ln_rows.proofs.HeaderLaws.{tail_same}

-- a record that is a row in range, and one that isn't
as_row : (p : PredOf) (fields : List (List ℕ)) (o : Result Row RowStop) → read_row p.sites p.vars fields ≡ o
    → is_read o ≡ true → IsRow p fields
as_row p fields (Ok row) e s = record { row = row; read = e }
as_row p fields (Err stop) e s = absurd (true≢false (sym s))

as_no_row : (p : PredOf) (fields : List (List ℕ)) (o : Result Row RowStop) → read_row p.sites p.vars fields ≡ o
    → is_read o ≡ false → IsNoRow p fields
as_no_row p fields (Ok row) e s = absurd (true≢false s)
as_no_row p fields (Err stop) e s = record { stop = stop; read = e }

row_is : (p : PredOf) (fields : List (List ℕ)) → IsRow p fields → is_row p fields ≡ true
row_is p fields h = ap is_read h.read

no_row_is : (p : PredOf) (fields : List (List ℕ)) → IsNoRow p fields → is_row p fields ≡ false
no_row_is p fields h = ap is_read h.read

-- both tests of a true pair are true
pub and_left : (a b : Bool) → (a && b) ≡ true → a ≡ true
and_left true b e = refl
and_left false b e = absurd (true≢false (sym e))

-- the second one
pub and_right : (a b : Bool) → (a && b) ≡ true → b ≡ true
and_right true b e = e
and_right false b e = absurd (true≢false (sym e))

-- records that all are rows
all_are : (p : PredOf) (records : Records) → all_good (is_row p) records ≡ true → All (IsRow p) records
all_are p [] e = All-nil (IsRow p)
all_are p (fields ∷ rest) e =
    All-cons (IsRow p) fields rest (as_row p fields (read_row p.sites p.vars fields) refl
    (and_left (is_row p fields) (all_good (is_row p) rest) e))
    (all_are p rest (and_right (is_row p fields) (all_good (is_row p) rest) e))

all_is : (p : PredOf) (records : Records) → All (IsRow p) records → all_good (is_row p) records ≡ true
all_is p [] h = refl
all_is p (fields ∷ rest) h =
    ap (λ b. b && all_good (is_row p) rest) (row_is p fields (All-head (IsRow p) fields rest h)) ∙ all_is p rest
    (All-tail (IsRow p) fields rest h)

-- an invalid record among records
record NoRowAmong (p : PredOf) (records : Records) : Type 0 where
  before : Records
  fields : List (List ℕ)
  after : Records
  stands : records ≡ before ++ fields ∷ after
  none : IsNoRow p fields

some_is_none : (p : PredOf) (records : Records) → all_good (is_row p) records ≡ false → NoRowAmong p records
some_is_none p [] e = absurd (true≢false e)
some_is_none p (fields ∷ rest) e = by_first (is_row p fields) refl e (some_is_none p rest)
  where
    by_first : (b : Bool) → is_row p fields ≡ b → (b && all_good (is_row p) rest) ≡ false
        → (all_good (is_row p) rest ≡ false → NoRowAmong p rest) → NoRowAmong p (fields ∷ rest)
    by_first true f g h =
        let s = h g in record {
          before = fields ∷ s.before;
          fields = s.fields;
          after = s.after;
          stands = ap (λ rs. fields ∷ rs) s.stands;
          none = s.none;
        }
    by_first false f g h = record {
      before = [];
      fields = fields;
      after = rest;
      stands = refl;
      none = as_no_row p fields (read_row p.sites p.vars fields) refl f;
    }

not_all : (p : PredOf) (before after : Records) (fields : List (List ℕ)) → IsNoRow p fields
    → all_good (is_row p) (before ++ fields ∷ after) ≡ false
not_all p [] after fields n = ap (λ b. b && all_good (is_row p) after) (no_row_is p fields n)
not_all p (f ∷ fs) after fields n = and_false (is_row p f) (all_good (is_row p) (fs ++ fields ∷ after)) (not_all p fs after fields n)
  where
    and_false : (a b : Bool) → b ≡ false → (a && b) ≡ false
    and_false true b e = e
    and_false false b e = refl

-- records after the right header end so
pub ends_by : (p : PredOf) (names : List (List ℕ)) (records : Records) (g : Given) → HasRecords g p names (names ∷ records)
    → RunEnds g (end_of (all_good (is_row p) records))
ends_by p names records g h = by_good (all_good (is_row p) records) refl
  where
    by_good : (b : Bool) → all_good (is_row p) records ≡ b → RunEnds g (end_of b)
    by_good true e = run.done p names records h (all_are p records e)
    by_good false e =
        let s = some_is_none p records e in
        run.refused p names s.before s.after s.fields (subst (λ (rs : Records). HasRecords g p names (names ∷ rs)) s.stands h) s.none

-- what is given has the records of its one file
pub has_records : {g : Given} {p : PredOf} {others : List PredOf} {names : List (List ℕ)} {rows : List ℕ} → g.preds ≡ p ∷ others
    → names ≡ columns_of g.table p → g.texts ≡ rows ∷ [] → HasRecords g p names (records_in rows)
has_records {others = others} {rows = rows} pred columns text =
    record { others = others; pred = pred; columns = columns; rows = rows; text = text; are = refl }

-- two ways to see what is given have the same predicate, the same names of columns and the same records
pub same_given : {g : Given} {p q : PredOf} {names others : List (List ℕ)} {rs ss : Records} → HasRecords g p names rs
    → HasRecords g q others ss → (p ≡ q) × (names ≡ others) × (rs ≡ ss)
same_given {g = g} {p = p} {q = q} h k =
    let pred : p ≡ q = cc (h.pred, k.pred) in (pred, h.columns ∙ ap (columns_of g.table) pred ∙ sym k.columns, cc (h.text, k.text, h.are, k.are))

-- the header is right or wrong
pub wrong_right : {P : Type 0} {g : Given} {p q : PredOf} {names others : List (List ℕ)} {rs rest : Records}
    → HasRecords g p names rs → IsWrongHeader names rs → HasRecords g q others (others ∷ rest) → P
wrong_right {names = names} h w k = let same = same_given h k in absurd (subst (IsWrongHeader names) same.2 w (sym same.1))

-- two ways to see the records after the right header end alike
ends_alike : {g : Given} {p q : PredOf} {names others : List (List ℕ)} {rs ss : Records} → HasRecords g p names (names ∷ rs)
    → HasRecords g q others (others ∷ ss) → end_of (all_good (is_row p) rs) ≡ end_of (all_good (is_row q) ss)
ends_alike {q = q} {rs = rs} h k =
    let same = same_given h k in
    ap (λ r. end_of (all_good (is_row r) rs)) same.0 ∙ ap (λ xs. end_of (all_good (is_row q) xs)) (tail_same same.2)

ends_as : {g : Given} {p : PredOf} {names : List (List ℕ)} {rs : Records} (e : End) → RunEnds g e → HasRecords g p names (names ∷ rs)
    → e ≡ end_of (all_good (is_row p) rs)
ends_as e (run.wrong q others ss h x) k = wrong_right h x k
ends_as e (run.done q others ss h x) k = sym (ap end_of (all_is q ss x)) ∙ ends_alike h k
ends_as e (run.refused q others bs as' fields h x) k = sym (ap end_of (not_all q bs as' fields x)) ∙ ends_alike h k

-- they end in one way
pub one : (g : Given) (a b : End) → RunEnds g a → RunEnds g b → a ≡ b
one g a b (run.done p names rs h x) y = sym (ap end_of (all_is p rs x)) ∙ sym (ends_as b y h)
one g a b (run.refused p names bs as' fields h x) y = sym (ap end_of (not_all p bs as' fields x)) ∙ sym (ends_as b y h)
one g a b (run.wrong p names rs h x) (run.done q others ss k y) = wrong_right h x k
one g a b (run.wrong p names rs h x) (run.wrong q others ss k y) = refl
one g a b (run.wrong p names rs h x) (run.refused q others cs ds other k y) = refl

-- by an end of works
pub kind : (g : Given) (e : End) → RunEnds g e → IsWorkEnd e
kind g e (run.done p names rs h x) = kind_of.done
kind g e (run.wrong p names rs h x) = kind_of.rows
kind g e (run.refused p names bs as' fields h x) = kind_of.rows
