-- Which texts have no line feed.
use Rattle.std.proofs.Common.{◌≡◌, ◌≢◌, ℕ, zero, suc, ◌+◌, ◌/◌, ◌%◌, ◌==◌, nat_lt, not}
use Rattle.std.proofs.Common.{cond, Bool, true, false, true≢false, List, [], ◌∷◌, ◌++◌, codes, map, Option, Some, None}
use Rattle.std.proofs.Common.{Result, Ok, Err, refl, ap, sym, ◌∙◌, subst, arith, decimal}
use Rattle.std.specs.Prelude.{All, slice_get, slice_index_or}
use Rattle.std.proofs.lemmas.Bool.{and_parts}
use Rattle.std.proofs.lemmas.List.Elements.{All-append, All-cons, All-head, All-nil, All-tail}
use Rattle.std.specs.Fmt.{digits, digits_onto, digit_glyph}
use Rattle.ln_base.specs.Words.{is_word, is_keyword, is_letter, is_name_byte, every}
use Rattle.ln_base.specs.declared.sign.Sign.{Sign}
use Rattle.ln_base.specs.declared.sign.Sign.TheVariants.{Minus, Zero, Plus}
use Rattle.ln_tree.specs.declared.name.Name.{Name}
use Rattle.ln_tree.specs.declared.items.Arg.{Arg}
use Rattle.ln_tree.specs.declared.items.Arg.TheVariants.{Site as IsSite, Param as IsParam}
use Rattle.ln_tree.specs.declared.items.Coord.{Coord}
use Rattle.ln_tree.specs.declared.items.Site.{Site}
use Rattle.ln_tree.specs.declared.items.Param.{Param}
use Rattle.ln_tree.specs.declared.table.Table.{Table}
use Rattle.ln_tree.specs.declared.pred.Pred.{Pred}
use Rattle.ln_tree.specs.Names.{name_bytes}
use Rattle.ln_tree.specs.Table.{PredOf, pred_of}
use Rattle.ln_rows.specs.Columns.{coord_column, site_columns, param_columns, arg_columns, column_names}
use Rattle.ln_rows.specs.declared.record.RowStop.{RowStop}
use Rattle.ln_rows.specs.declared.record.RowStop.TheVariants.{Fields, Number, Range, Index}
use Rattle.ln_code.specs.declared.verdict.Verdict.{Verdict}
use Rattle.ln_code.specs.declared.verdict.By.{By}
use Rattle.ln_code.specs.declared.verdict.By.TheVariants.{Filter, Stage, Nothing}
use Rattle.ln_top.specs.Frame.Source.{view}
use Rattle.ln_top.specs.Frame.Given.{Given}
use Rattle.ln_rows.specs.Header.{columns_of}
use Rattle.ln_top.specs.Target.Line.{sign_text, decider_text, stop_text, said_text}
use Rattle.ln_top.specs.Headline.{NoFeed}
use Rattle.ln_rows.proofs.HeaderLaws.{columns_like}

-- one text after another
pub behind : (xs ys : List ℕ) → NoFeed xs → NoFeed ys → NoFeed (xs ++ ys)
behind = All-append (λ b. b ≢ 10)

-- a byte before a text
pub before : (b : ℕ) (bs : List ℕ) → b ≢ 10 → NoFeed bs → NoFeed (b ∷ bs)
before = All-cons (λ b. b ≢ 10)

-- digits
glyph : (d : ℕ) → digit_glyph false d ≢ 10
glyph d = by_test (nat_lt d 10)
  where
    by_test : (b : Bool) → cond b (48 + d) (87 + d) ≢ 10
    by_test true e = absurd (omega (arith, e))
    by_test false e = absurd (omega (arith, e))

digits_feed : (k n : ℕ) (acc : List ℕ) → NoFeed acc → NoFeed (digits_onto k 10 false n acc)
digits_feed zero n acc f = f
digits_feed (suc k) n acc f = by_test (n / 10 == 0) (digits_feed k (n / 10) (digit_glyph false (n % 10) ∷ acc) more)
  where
    more : NoFeed (digit_glyph false (n % 10) ∷ acc)
    more = before (digit_glyph false (n % 10)) acc (glyph (n % 10)) f

    by_test : (b : Bool) → NoFeed (digits_onto k 10 false (n / 10) (digit_glyph false (n % 10) ∷ acc))
        → NoFeed (cond b (digit_glyph false (n % 10) ∷ acc) (digits_onto k 10 false (n / 10) (digit_glyph false (n % 10) ∷ acc)))
    by_test true g = more
    by_test false g = g

digits_are : (n : ℕ) → digits_onto 64 10 false n [] ≡ digits 10 false n
unfolding digits
digits_are n = refl

decimal_feed : (n : ℕ) → NoFeed (decimal n)
decimal_feed n = subst NoFeed (digits_are n) (digits_feed 64 n [] (All-nil (λ b. b ≢ 10)))

-- one byte isn't a line feed
pub other : (b : ℕ) → nat_lt 10 b ≡ true → b ≢ 10
other b e f = true≢false (sym e ∙ ap (nat_lt 10) f)

-- bytes that pass a test, which a line feed doesn't
every_feed : (p : ℕ → Bool) → p 10 ≡ false → (bs : List ℕ) → every p bs ≡ true → NoFeed bs
every_feed p f [] e = All-nil (λ b. b ≢ 10)
every_feed p f (b ∷ bs) e =
    let k = and_parts (p b) (every p bs) e in
    before b bs (λ i. true≢false (sym k.0 ∙ ap p i ∙ f)) (every_feed p f bs k.1)

above : (bs : List ℕ) → every (nat_lt 10) bs ≡ true → NoFeed bs
above bs e = every_feed (nat_lt 10) refl bs e

-- the text of a sign has no line feed
pub sign_feed : (s : Sign) → NoFeed (sign_text s)
sign_feed Minus = above (codes "-") refl
sign_feed Zero = above (codes "0") refl
sign_feed Plus = above (codes "+") refl

-- the text of a decider has no line feed
pub decider_feed : (by : By) → NoFeed (decider_text by)
decider_feed Filter = above (codes "F") refl
decider_feed (Stage place) = decimal_feed place
decider_feed Nothing = above (codes "-") refl

-- names
word_feed : (bs : List ℕ) → is_word bs ≡ true → NoFeed bs
word_feed [] e = All-nil (λ b. b ≢ 10)
word_feed (b ∷ bs) e =
    let k = and_parts (is_letter b) (every is_name_byte bs) e in
    before b bs (λ i. true≢false (sym k.0 ∙ ap is_letter i)) (every_feed is_name_byte refl bs k.1)

name_feed : (n : Name) → NoFeed (name_bytes n)
name_feed n = word_feed (name_bytes n) (and_parts (is_word (name_bytes n)) (not (is_keyword (name_bytes n))) n.named).0

-- each text has none
abbrev pub HaveNoFeed : List (List ℕ) → Type 0
HaveNoFeed = All NoFeed

coords_feed : (n : Name) (cs : List Coord) → HaveNoFeed (map (coord_column n) cs)
coords_feed n [] = All-nil NoFeed
coords_feed n (c ∷ cs) =
    All-cons NoFeed (coord_column n c) (map (coord_column n) cs)
    (behind (name_bytes n) (46 ∷ name_bytes c.name) (name_feed n) (before 46 (name_bytes c.name) (other 46 refl) (name_feed c.name))) (coords_feed n cs)

site_feed : (n : Name) (o : Option Site) → HaveNoFeed (site_columns n o)
site_feed n None = All-cons NoFeed (name_bytes n) [] (name_feed n) (All-nil NoFeed)
site_feed n (Some t) = All-cons NoFeed (name_bytes n) (map (coord_column n) t.coords) (name_feed n) (coords_feed n t.coords)

param_feed : (o : Option Param) → HaveNoFeed (param_columns o)
param_feed None = All-nil NoFeed
param_feed (Some p) = All-cons NoFeed (name_bytes p.name) [] (name_feed p.name) (All-nil NoFeed)

arg_feed : (sites : List Site) (params : List Param) (a : Arg) → HaveNoFeed (arg_columns sites params a)
arg_feed sites params (IsSite n t) = site_feed n (slice_get sites t)
arg_feed sites params (IsParam p) = param_feed (slice_get params p)

args_feed : (sites : List Site) (params : List Param) (args : List Arg) → HaveNoFeed (column_names sites params args)
args_feed sites params [] = All-nil NoFeed
args_feed sites params (a ∷ as') =
    All-append NoFeed (arg_columns sites params a) (column_names sites params as') (arg_feed sites params a) (args_feed sites params as')

-- the columns of what is given stand for those of a table in memory
pub columns_no_feed : (g : Given) (q : Pred) (p : PredOf) (names : List (List ℕ)) (t : Table) → view t ≡ g.table
    → pred_of q ≡ p → names ≡ columns_of g.table p → HaveNoFeed names
columns_no_feed g q p names t e f n =
    let same : column_names t.sites t.params q.args ≡ names = columns_like t.sites t.params q.args
    ∙ ap (λ v. columns_of v (pred_of q)) e ∙ ap (columns_of g.table) f ∙ sym n in
    subst HaveNoFeed same (args_feed t.sites t.params q.args)

nth : (names : List (List ℕ)) (k : ℕ) → HaveNoFeed names → NoFeed (slice_index_or names k [])
nth [] k f = All-nil (λ b. b ≢ 10)
nth (n ∷ ns) zero f = All-head NoFeed n ns f
nth (n ∷ ns) (suc k) f = nth ns k (All-tail NoFeed n ns f)

-- the text of a refused record has no line feed where the names of the columns have none
pub stop_feed : (names : List (List ℕ)) (s : RowStop) → HaveNoFeed names → NoFeed (stop_text names s)
stop_feed names Fields f = above (codes "! fields") refl
stop_feed names (Number k) f = behind (codes "! number ") (slice_index_or names k []) (above (codes "! number ") refl) (nth names k f)
stop_feed names (Range k) f = behind (codes "! range ") (slice_index_or names k []) (above (codes "! range ") refl) (nth names k f)
stop_feed names (Index k) f = behind (codes "! index ") (slice_index_or names k []) (above (codes "! index ") refl) (nth names k f)

-- what is said of a record is one line
pub said_no_feed : (names : List (List ℕ)) (said : Result Verdict RowStop) → HaveNoFeed names → NoFeed (said_text names said)
said_no_feed names (Ok v) f = behind (sign_text v.sign) (32 ∷ decider_text v.by) (sign_feed v.sign)
    (before 32 (decider_text v.by) (other 32 refl) (decider_feed v.by))
said_no_feed names (Err s) f = stop_feed names s f
