-- The worked source declares what it is said to declare.
use Rattle.std.proofs.Common.{◌≡◌, ◌⊎◌, inl, inr, ℕ, zero, suc, arith, ◌<◌, ◌≤◌, ◌^◌, Bool, true, false, refl, ap, sym, ◌∙◌, subst}
use Rattle.std.proofs.Common.{Option, Some, None, ℤ, pos, ◌≤ℤ◌}
use Rattle.std.specs.Prelude.{◌≢◌, ◌&&◌, ◌==◌, not, nat_lt, All, Contains, List, [], ◌∷◌, ◌++◌, codes, neg_ℤ, slice_index_or}
use Rattle.std.proofs.lemmas.Bool.{and_parts, ltb-true, not-true}
use Rattle.std.proofs.lemmas.Bool.Decides.{nat_tests}
use Rattle.std.proofs.lemmas.Int.{ints}
use Rattle.std.proofs.lemmas.List.Elements.{All-cons, All-nil}
use Rattle.ln_base.specs.Decimal.{integer_value, natural_value}
use Rattle.ln_base.specs.Words.{every, is_name}
use Rattle.ln_lex.specs.Tokens.{in_comment}
use Rattle.ln_algebra.proofs.Examples.WorkedValues.{signs_of_orientation}
use Rattle.ln_algebra.specs.Earlier.{Sites}
use Rattle.ln_algebra.specs.Sign.{IsPerturbedSign}
use Rattle.ln_algebra.specs.Tree.{Tree, Input, Mul, Sub}
use Rattle.ln_algebra.specs.Worked.{orientation, owner_in}
use Rattle.ln_top.specs.Guarantee as told
use Rattle.ln_top.specs.Guarantee.{AreItems, AreRanged, AreRowFields, HasSign, HasWords, PredArgument, OfType, Ranged, sites_after}
use Rattle.ln_top.specs.Guarantee.{SaysTree, NameScope, Word, inputs, is_among, is_source_word, numbered_inputs}
use Rattle.ln_top.specs.Sources.{CollinearIsPlus, OrientationIsDeclared, collinear_fields, collinear_indices, collinear_values, orientation_of_points}
use Rattle.ln_top.specs.Sources.{orientation_source, plane_point, thousand}
use Rattle.ln_top.proofs.GuaranteeLemmas.Tokens.{front_token}

-- ---- bytes in pieces
-- a space, a line feed, the bytes of a comment after its slashes, or a token
data Piece : Type 0 where
  Space : Piece
  Feed : Piece
  Comment : List ℕ → Piece
  Token : Word → Piece

abbrev bytes_in : List Piece → List ℕ
bytes_in [] = []
bytes_in (Space ∷ ps) = 32 ∷ bytes_in ps
bytes_in (Feed ∷ ps) = 10 ∷ bytes_in ps
bytes_in (Comment t ∷ ps) = 47 ∷ 47 ∷ (t ++ bytes_in ps)
bytes_in (Token w ∷ ps) = w ++ bytes_in ps

abbrev words_in : List Piece → List Word
words_in [] = []
words_in (Space ∷ ps) = words_in ps
words_in (Feed ∷ ps) = words_in ps
words_in (Comment t ∷ ps) = words_in ps
words_in (Token w ∷ ps) = w ∷ words_in ps

-- is the token longer by the next byte?
abbrev goes_on : Word → List ℕ → Bool
goes_on w [] = false
goes_on w (b ∷ bs) = is_source_word (w ++ b ∷ [])

abbrev ends_line : List Piece → Bool
ends_line [] = true
ends_line (Feed ∷ ps) = true
ends_line (p ∷ ps) = false

-- each token is one and ends where it has to, and each comment ends with its line
abbrev are_right : List Piece → Bool
are_right [] = true
are_right (Space ∷ ps) = are_right ps
are_right (Feed ∷ ps) = are_right ps
are_right (Comment t ∷ ps) = every in_comment t && (ends_line ps && are_right ps)
are_right (Token w ∷ ps) = is_source_word w && (not (goes_on w (bytes_in ps)) && are_right ps)

comment_bytes : (t : List ℕ) → every in_comment t ≡ true → All (λ b. (b < 128) × (b ≢ 10)) t
comment_bytes [] h = All-nil (λ b. (b < 128) × (b ≢ 10))
comment_bytes (b ∷ bs) h =
    let q = and_parts (in_comment b) (every in_comment bs) h in
    All-cons (λ b. (b < 128) × (b ≢ 10)) b bs (byte q.0) (comment_bytes bs q.1)
  where
    byte : in_comment b ≡ true → (b < 128) × (b ≢ 10)
    byte e =
        let p = and_parts (nat_lt b 128) (not (b == 10)) e in
        (ltb-true b 128 p.0, λ z. let n = p.1 in absurd (grind (arith, nat_tests, n, z)))

line_ends : (ps : List Piece) → ends_line ps ≡ true → (bytes_in ps ≡ []) ⊎ ((rest : List ℕ) × (bytes_in ps ≡ 10 ∷ rest))
line_ends [] h = inl refl
line_ends (Space ∷ ps) h = absurd (cc)
line_ends (Feed ∷ ps) h = inr (bytes_in ps, refl)
line_ends (Comment t ∷ ps) h = absurd (cc)
line_ends (Token w ∷ ps) h = absurd (cc)

-- a token that the next byte doesn't go on is the longest
longest : (w bs : List ℕ) → is_source_word w ≡ true → not (goes_on w bs) ≡ true → (more rest : List ℕ) → more ++ rest ≡ bs
    → is_source_word (w ++ more) ≡ true → more ≡ []
longest [] bs t n more rest e h = absurd (cc)
longest (c ∷ cs) bs t n [] rest e h = refl
longest (c ∷ cs) bs t n (b ∷ more) rest e h =
    let goes : goes_on (c ∷ cs) bs ≡ true = ap (goes_on (c ∷ cs)) (sym e) ∙ front_token c cs b more h in
    absurd (let s = not-true (goes_on (c ∷ cs) bs) n in let x : true ≡ false = sym goes ∙ s in cc)

are_words : (ps : List Piece) → are_right ps ≡ true → HasWords (bytes_in ps) (words_in ps)
are_words [] h = told.none
are_words (Space ∷ ps) h = told.blank (0, omega arith, refl) (are_words ps h)
are_words (Feed ∷ ps) h = told.blank (2, omega arith, refl) (are_words ps h)
are_words (Comment t ∷ ps) h =
    let q = and_parts (every in_comment t) (ends_line ps && are_right ps) h in
    let r = and_parts (ends_line ps) (are_right ps) q.1 in
    told.comment t (comment_bytes t q.0) (line_ends ps r.0) (are_words ps r.1)
are_words (Token w ∷ ps) h =
    let q = and_parts (is_source_word w) (not (goes_on w (bytes_in ps)) && are_right ps) h in
    let r = and_parts (not (goes_on w (bytes_in ps))) (are_right ps) q.1 in
    told.word w q.0 (longest w (bytes_in ps) q.0 r.0) (are_words ps r.1)

-- ---- the orientation of three points
abbrev pieces : List Piece
pieces =
    Comment (codes " + says that p, q, r turn left (counterclockwise), - that they turn right: the signs of CGAL's orientation and of Shewchuk's orient2d.") ∷
    Feed ∷ Token (codes "site") ∷ Space ∷ Token (codes "point") ∷ Space ∷ Token (codes "{") ∷ Space ∷ Token (codes "x") ∷ Token (codes ":") ∷
    Space ∷ Token (codes "-") ∷ Token (codes "1000") ∷ Space ∷ Token (codes "..") ∷ Space ∷ Token (codes "1000") ∷ Token (codes ";") ∷ Space ∷
    Token (codes "y") ∷ Token (codes ":") ∷ Space ∷ Token (codes "-") ∷ Token (codes "1000") ∷ Space ∷ Token (codes "..") ∷ Space ∷
    Token (codes "1000") ∷ Token (codes ";") ∷ Space ∷ Token (codes "}") ∷ Feed ∷ Token (codes "predicate") ∷ Space ∷ Token (codes "orient") ∷
    Token (codes "(") ∷ Token (codes "p") ∷ Token (codes ":") ∷ Space ∷ Token (codes "point") ∷ Token (codes ",") ∷ Space ∷ Token (codes "q") ∷
    Token (codes ":") ∷ Space ∷ Token (codes "point") ∷ Token (codes ",") ∷ Space ∷ Token (codes "r") ∷ Token (codes ":") ∷ Space ∷
    Token (codes "point") ∷ Token (codes ")") ∷ Space ∷ Token (codes "{") ∷ Space ∷ Token (codes "sign") ∷ Space ∷ Token (codes "(") ∷
    Token (codes "p") ∷ Token (codes ".") ∷ Token (codes "x") ∷ Space ∷ Token (codes "-") ∷ Space ∷ Token (codes "r") ∷ Token (codes ".") ∷
    Token (codes "x") ∷ Token (codes ")") ∷ Token (codes "*") ∷ Token (codes "(") ∷ Token (codes "q") ∷ Token (codes ".") ∷ Token (codes "y") ∷
    Space ∷ Token (codes "-") ∷ Space ∷ Token (codes "r") ∷ Token (codes ".") ∷ Token (codes "y") ∷ Token (codes ")") ∷ Space ∷ Token (codes "-") ∷
    Space ∷ Token (codes "(") ∷ Token (codes "p") ∷ Token (codes ".") ∷ Token (codes "y") ∷ Space ∷ Token (codes "-") ∷ Space ∷ Token (codes "r") ∷
    Token (codes ".") ∷ Token (codes "y") ∷ Token (codes ")") ∷ Token (codes "*") ∷ Token (codes "(") ∷ Token (codes "q") ∷ Token (codes ".") ∷
    Token (codes "x") ∷ Space ∷ Token (codes "-") ∷ Space ∷ Token (codes "r") ∷ Token (codes ".") ∷ Token (codes "x") ∷ Token (codes ")") ∷
    Token (codes ";") ∷ Space ∷ Token (codes "}") ∷ Feed ∷ []

pieces_are : bytes_in pieces ≡ orientation_source
pieces_are = refl

abbrev point_words : List Word
point_words =
    codes "x" ∷ codes ":" ∷ codes "-" ∷ codes "1000" ∷ codes ".." ∷ codes "1000" ∷ codes ";" ∷ codes "y" ∷ codes ":" ∷ codes "-" ∷ codes "1000"
    ∷ codes ".." ∷ codes "1000" ∷ codes ";" ∷ []

a_thousand : (name : Word) (ws : List Word) (rs : List Ranged) → is_name name ≡ true → AreRanged ws rs
    → AreRanged (name ∷ codes ":" ∷ codes "-" ∷ codes "1000" ∷ codes ".." ∷ codes "1000" ∷ codes ";" ∷ ws) (thousand name ∷ rs)
a_thousand name ws rs n h =
    told.more {l = codes "-" ∷ codes "1000" ∷ []} {h = codes "1000" ∷ []} {ws = ws} {r = thousand name} {rs = rs} n (told.minus (codes "1000") refl)
    (told.plain (codes "1000") refl) h

coords : AreRanged point_words plane_point.coords
coords =
    a_thousand (codes "x") (codes "y" ∷ codes ":" ∷ codes "-" ∷ codes "1000" ∷ codes ".." ∷ codes "1000" ∷ codes ";" ∷ []) (thousand (codes "y") ∷ []) refl
    (a_thousand (codes "y") [] [] refl told.none)

abbrev args_words : List Word
args_words =
    codes "p" ∷ codes ":" ∷ codes "point" ∷ codes "," ∷ codes "q" ∷ codes ":" ∷ codes "point" ∷ codes "," ∷ codes "r" ∷ codes ":" ∷ codes "point"
    ∷ codes ")" ∷ []

arguments : told.AreArguments (plane_point ∷ []) [] args_words orientation_of_points.args
arguments =
    told.more (told.site {n = codes "p"} {t = plane_point} refl (0, omega arith, refl))
    (told.more (told.site {n = codes "q"} {t = plane_point} refl (0, omega arith, refl))
    (told.last (told.site {n = codes "r"} {t = plane_point} refl (0, omega arith, refl))))

abbrev scope : NameScope
scope = numbered_inputs 0 (inputs orientation_of_points.args)

abbrev dotted : Word → Word → List Word
dotted n x = n ∷ codes "." ∷ x ∷ []

-- ( A - B ), for two coordinates
abbrev less_words : List Word → List Word → List Word
less_words us ws = codes "(" ∷ ((us ++ codes "-" ∷ ws) ++ codes ")" ∷ [])

difference : (us ws : List Word) (e f : Tree) → Contains scope (us, e) → Contains scope (ws, f) → SaysTree scope told.Unary (less_words us ws) (Sub e f)
difference us ws e f a b =
    told.base (told.atom (told.parens {ws = us ++ codes "-" ∷ ws} {e = Sub e f} (told.less {us = us} {ws = ws}
    (told.term (told.factor (told.base (told.atom (told.name a))))) (told.factor (told.base (told.atom (told.name b)))))))

product : (us ws : List Word) (e f : Tree) → SaysTree scope told.Unary us e → SaysTree scope told.Unary ws f
    → SaysTree scope told.Term (us ++ codes "*" ∷ ws) (Mul e f)
product us ws e f a b = told.times {us = us} {ws = ws} (told.factor a) b

abbrev left_words : List Word
left_words =
    less_words (dotted (codes "p") (codes "x")) (dotted (codes "r") (codes "x"))
    ++ codes "*" ∷ less_words (dotted (codes "q") (codes "y")) (dotted (codes "r") (codes "y"))

abbrev right_words : List Word
right_words =
    less_words (dotted (codes "p") (codes "y")) (dotted (codes "r") (codes "y"))
    ++ codes "*" ∷ less_words (dotted (codes "q") (codes "x")) (dotted (codes "r") (codes "x"))

root : SaysTree scope told.Sum (left_words ++ codes "-" ∷ right_words) orientation_of_points.root
root =
    told.less {us = left_words} {ws = right_words}
    (told.term (product (less_words (dotted (codes "p") (codes "x")) (dotted (codes "r") (codes "x")))
    (less_words (dotted (codes "q") (codes "y")) (dotted (codes "r") (codes "y"))) (Sub (Input 0) (Input 4)) (Sub (Input 3) (Input 5))
    (difference (dotted (codes "p") (codes "x")) (dotted (codes "r") (codes "x")) (Input 0) (Input 4) (0, omega arith, refl) (4, omega arith, refl))
    (difference (dotted (codes "q") (codes "y")) (dotted (codes "r") (codes "y")) (Input 3) (Input 5) (3, omega arith, refl) (5, omega arith, refl))))
    (product (less_words (dotted (codes "p") (codes "y")) (dotted (codes "r") (codes "y")))
    (less_words (dotted (codes "q") (codes "x")) (dotted (codes "r") (codes "x"))) (Sub (Input 1) (Input 5)) (Sub (Input 2) (Input 4))
    (difference (dotted (codes "p") (codes "y")) (dotted (codes "r") (codes "y")) (Input 1) (Input 5) (1, omega arith, refl) (5, omega arith, refl))
    (difference (dotted (codes "q") (codes "x")) (dotted (codes "r") (codes "x")) (Input 2) (Input 4) (2, omega arith, refl) (4, omega arith, refl)))

items : AreItems [] [] (words_in pieces) (orientation_of_points ∷ [])
items =
    told.site {t = plane_point} {ws = point_words} {rest = _} refl coords (λ e. cc)
    (told.predicate {p = orientation_of_points} {scope = scope} {args = args_words} {lets = []} {ws = left_words ++ codes "-" ∷ right_words} {rest = []} refl
    arguments told.none root told.none)

-- the source declares the orientation of three points
pub orientation_is_declared : OrientationIsDeclared
orientation_is_declared = record {
  words = words_in pieces;
  are = subst (λ (bs : List ℕ). HasWords bs (words_in pieces)) pieces_are (are_words pieces refl);
  items = items;
}

-- ---- three points on a line
in_thousand : (n : ℕ) → n ≤ 1000 → (neg_ℤ (pos 1000) ≤ℤ pos n) × (pos n ≤ℤ pos 1000)
in_thousand n h = (grind (arith, nat_tests, ints, h), grind (arith, nat_tests, ints, h))

few : (n : ℕ) → n ≤ 1000 → n < 2 ^ 63
few n h = grind (arith, nat_tests, h)

-- a point of this index, with both coordinates this number
one_point : (s f g : Word) (n k : ℕ) {args : List PredArgument} {fs : List (List ℕ)} {ns : List ℕ} {zs : List ℤ} → natural_value f ≡ Some n
    → integer_value g ≡ Some (pos k) → n ≤ 1000 → k ≤ 1000 → AreRowFields args fs ns zs
    → AreRowFields (OfType s plane_point ∷ args) (f ∷ g ∷ g ∷ fs) (n ∷ ns) (pos k ∷ pos k ∷ zs)
one_point s f g n k {args = args} {fs = fs} {ns = ns} {zs = zs} e d h l rest =
    let r = in_thousand k l in
    told.site {s = s} {t = plane_point} {args = args} {f = f} {gs = g ∷ g ∷ []} {fs = fs} {n = n} {ns = ns} {ys = pos k ∷ pos k ∷ []} {zs = zs} e
    (few n h) (told.more d r.0 r.1 (told.more d r.0 r.1 told.none)) rest

collinear_row : AreRowFields orientation_of_points.args collinear_fields collinear_indices collinear_values
collinear_row =
    one_point (codes "p") (codes "1") (codes "0") 1 0 refl refl (omega arith) (omega arith)
    (one_point (codes "q") (codes "2") (codes "1") 2 1 refl refl (omega arith) (omega arith)
    (one_point (codes "r") (codes "3") (codes "2") 3 2 refl refl (omega arith) (omega arith) told.none))

indices_differ : (i j d : ℕ) → i < j → j < 3 → slice_index_or collinear_indices i d ≡ slice_index_or collinear_indices j d → ⊥
indices_differ zero zero d l b e = omega (arith, l)
indices_differ zero (suc zero) d l b e = omega (arith, e)
indices_differ zero (suc (suc zero)) d l b e = omega (arith, e)
indices_differ zero (suc (suc (suc j))) d l b e = omega (arith, b)
indices_differ (suc zero) zero d l b e = omega (arith, l)
indices_differ (suc zero) (suc zero) d l b e = omega (arith, l)
indices_differ (suc zero) (suc (suc zero)) d l b e = omega (arith, e)
indices_differ (suc zero) (suc (suc (suc j))) d l b e = omega (arith, b)
indices_differ (suc (suc i)) j d l b e = omega (arith, l, b)

owner_at : (os : List (Option ℕ)) (v : ℕ) → owner_in os v ≡ slice_index_or os v None
owner_at [] v = refl
owner_at (o ∷ os) zero = refl
owner_at (o ∷ os) (suc v) = owner_at os v

collinear_sign : HasSign orientation_of_points collinear_indices collinear_values (pos 1)
collinear_sign =
    subst (λ (s : Sites). IsPerturbedSign 6 s (λ v. slice_index_or collinear_values v (pos 0)) orientation (pos 1))
    (λ i. record { site = λ v. owner_at (sites_after 0 orientation_of_points.args) v i; index = λ k. slice_index_or collinear_indices k 0 })
    signs_of_orientation.0

-- three points on a line have the sign plus
pub collinear_is_plus : CollinearIsPlus
collinear_is_plus = (collinear_row, indices_differ, collinear_sign)
