-- A line is one call, and line k of what is written is the meaning of call k.
use Rattle.std.proofs.Common.{◌≡◌, ℕ, zero, suc, ◌+◌, ◌<◌, ℤ, pos, negsuc, List, [], ◌∷◌, ◌++◌, length, take, drop, codes, Option, Some, None}
use Rattle.std.proofs.Common.{refl, sym, ap, ◌∙◌, subst, arith, append_assoc}
use Rattle.std.specs.Prelude.{◌↔◌, All, decimal}
use Rattle.std.specs.Fmt.{signed_decimal}
use Rattle.std.proofs.Math.Seq.{take-append_seam, drop-append_seam}
use Rattle.std.proofs.lemmas.List.{length-append}
use Rattle.std.proofs.lemmas.List.Elements.{All-head, All-tail}
use Rattle.ln_base.proofs.Texts.Numbers.{empty, signed_injective}
use Rattle.ln_csyn.specs.Meaning.{CCall, CMeaning, Signed, Undefined}
use Rattle.ln_csyn.specs.Tree.{Fun}
use Rattle.ln_cmean.specs.Carrying.Calls.{AreMeanings, IsCall, IsMeaning, IsWord, after_lines, commas, first, later, listed, meaning_words, next, none}
use Rattle.ln_cmean.specs.Carrying.Laws.{IsSaid}
use Rattle.ln_cmean.proofs.Carrying.CallLaws.{Free, after_seam, decimal_free, free_both, remains_word, signed_free, small, span_before}

-- ---- one call

-- where two texts begin with a number each, and a list goes on, the numbers are one and so are the lists
abbrev Parts : ℤ → List ℤ → ℤ → List ℤ → Type 0
Parts y ys z zs = (y ≡ z) × (commas ys ≡ commas zs)

part : (y z : ℤ) (ys zs : List ℤ) → All IsWord (y ∷ ys) → All IsWord (z ∷ zs) → listed (y ∷ ys) ≡ listed (z ∷ zs) → Parts y ys z zs
part y z ys zs a b e =
    let fy = All-head IsWord y ys a in
    let fz = All-head IsWord z zs b in
    let rest = signed_decimal y ++ commas ys in
    let one = remains_word rest (record { number = y; numbers = ys; fits = fy; fit = All-tail IsWord y ys a; text = refl }) in
    let two = remains_word rest (record { number = z; numbers = zs; fits = fz; fit = All-tail IsWord z zs b; text = e }) in
    let words : signed_decimal y ≡ signed_decimal z = sym one ∙ two in (
      signed_injective y z (small y fy) (small z fz) words,
      sym (drop-append_seam (signed_decimal y) (commas ys)) ∙ (λ i. drop (length (words i)) (e i)) ∙ drop-append_seam (signed_decimal z) (commas zs),
    )

-- two lists of numbers with one text, a comma before each number, are one
one_commas : (ys zs : List ℤ) → All IsWord ys → All IsWord zs → commas ys ≡ commas zs → ys ≡ zs
one_commas [] [] a b e = refl
one_commas [] (z ∷ zs) a b e = let n = ap length e in absurd (omega (arith, n))
one_commas (y ∷ ys) [] a b e = let n = ap length e in absurd (omega (arith, n))
one_commas (y ∷ ys) (z ∷ zs) a b e =
    let p = part y z ys zs a b (ap (drop 1) e) in
    (λ i. p.0 i ∷ one_commas ys zs (All-tail IsWord y ys a) (All-tail IsWord z zs b) p.1 i)

-- a number has a text
some_text : (z : ℤ) → IsWord z → length (signed_decimal z) ≡ 0 → ⊥
some_text (pos n) f e = empty (decimal n) n (omega arith) e refl
some_text (negsuc n) f e = absurd (omega (arith, e))

no_text : (z : ℤ) (zs : List ℤ) → All IsWord (z ∷ zs) → [] ≡ listed (z ∷ zs) → ⊥
no_text z zs a e = some_text z (All-head IsWord z zs a) (nothing (signed_decimal z) (commas zs) e)
  where
    nothing : (a b : List ℕ) → [] ≡ a ++ b → length a ≡ 0
    nothing [] b e = refl
    nothing (x ∷ xs) b e = let n = ap length e in absurd (omega (arith, n))

-- so are two with a comma between any two numbers
one_list : (ys zs : List ℤ) → All IsWord ys → All IsWord zs → listed ys ≡ listed zs → ys ≡ zs
one_list [] [] a b e = refl
one_list [] (z ∷ zs) a b e = absurd (no_text z zs b e)
one_list (y ∷ ys) [] a b e = absurd (no_text y ys a (sym e))
one_list (y ∷ ys) (z ∷ zs) a b e =
    let p = part y z ys zs a b e in
    (λ i. p.0 i ∷ one_commas ys zs (All-tail IsWord y ys a) (All-tail IsWord z zs b) p.1 i)

-- no line is two calls
pub one_call : (line name name2 : List ℕ) (index index2 values values2 : List ℤ) → IsCall line name index values → IsCall line name2 index2 values2
    → (name ≡ name2) × (index ≡ index2) × (values ≡ values2)
one_call line name name2 index index2 values values2 a b =
    let e : name ∷ (listed index ∷ (listed values ∷ [])) ≡ name2 ∷ (listed index2 ∷ (listed values2 ∷ [])) = sym a.three ∙ b.three in
    (ap (at 0) e, one_list index index2 a.index_fits b.index_fits (ap (at 1) e), one_list values values2 a.values_fit b.values_fit (ap (at 2) e))
  where
    at : ℕ → List (List ℕ) → List ℕ
    at k [] = []
    at zero (w ∷ ws) = w
    at (suc k) (w ∷ ws) = at k ws

-- a text whose first line is a call isn't empty
pub call_there : (text name : List ℕ) (index values : List ℤ) → IsCall (first text) name index values → 0 < length text
call_there [] name index values c = let n = ap length c.three in absurd (omega (arith, n))
call_there (b ∷ bs) name index values c = omega arith

-- ---- line k

-- what is written for a meaning is one line
meaning_free : (m : Option CMeaning) → Free 10 (meaning_words m)
meaning_free (Some (Signed z k)) = free_both 10 (signed_decimal z) (32 ∷ (decimal k.wide ++ (32 ∷ decimal k.calls))) (signed_free 10 z (omega arith))
    (free_both 10 (32 ∷ []) (decimal k.wide ++ (32 ∷ decimal k.calls)) refl
    (free_both 10 (decimal k.wide) (32 ∷ decimal k.calls) (decimal_free 10 k.wide (omega arith))
    (free_both 10 (32 ∷ []) (decimal k.calls) refl (decimal_free 10 k.calls (omega arith)))))
meaning_free (Some (Undefined l)) = free_both 10 (codes "undefined") (32 ∷ decimal l) refl
    (free_both 10 (32 ∷ []) (decimal l) refl (decimal_free 10 l (omega arith)))
meaning_free None = refl

first_seam : (w rest : List ℕ) → Free 10 w → first (w ++ (10 ∷ rest)) ≡ w
first_seam w rest f = ap (λ n. take n (w ++ (10 ∷ rest))) (span_before 10 w rest f) ∙ take-append_seam w (10 ∷ rest)

later_seam : (w rest : List ℕ) → Free 10 w → later (w ++ (10 ∷ rest)) ≡ rest
later_seam w rest f = ap (λ n. drop (suc n) (w ++ (10 ∷ rest))) (span_before 10 w rest f) ∙ after_seam w 10 rest

after_none : (k : ℕ) → after_lines k [] ≡ []
after_none zero = refl
after_none (suc k) = ap later (after_none k)

after_one : (k : ℕ) (text : List ℕ) → after_lines (suc k) text ≡ after_lines k (later text)
after_one zero text = refl
after_one (suc k) text = ap later (after_one k text)

-- the output begins with its first line
seam : (fs : List Fun) (line out rest : List ℕ) (m : IsMeaning fs line out)
    → out ++ rest ≡ meaning_words (CCall fs m.name m.index m.values) ++ (10 ∷ rest)
seam fs line out rest m =
    let w = meaning_words (CCall fs m.name m.index m.values) in ap (λ x. x ++ rest) m.meaning ∙ append_assoc w (10 ∷ []) rest

-- what follows it
gone : (fs : List Fun) (line out rest : List ℕ) → IsMeaning fs line out → later (out ++ rest) ≡ rest
gone fs line out rest m =
    let w = CCall fs m.name m.index m.values in ap later (seam fs line out rest m) ∙ later_seam (meaning_words w) rest (meaning_free w)

-- so what follows the first k lines more
gone_after : (fs : List Fun) (line out rest : List ℕ) (k : ℕ) → IsMeaning fs line out → after_lines (suc k) (out ++ rest) ≡ after_lines k rest
gone_after fs line out rest k m = after_one k (out ++ rest) ∙ ap (after_lines k) (gone fs line out rest m)

-- line k of what is written is the meaning of the call that is line k of the text
pub line_said : (fs : List Fun) (text out : List ℕ) → AreMeanings fs text out → (k : ℕ) → 0 < length (after_lines k text)
    → IsSaid fs (first (after_lines k text)) (first (after_lines k out))
line_said fs text out none k h = let n = ap length (after_none k) in absurd (omega (arith, n))
line_said fs text out (next {out = o} {rest = rest} some m others) zero h =
    let w = CCall fs m.name m.index m.values in record {
      name = m.name;
      index = m.index;
      values = m.values;
      call = m.call;
      is = ap first (seam fs (first text) o rest m) ∙ first_seam (meaning_words w) rest (meaning_free w);
    }
line_said fs text out (next {out = o} {rest = rest} some m others) (suc k) h =
    let left = gone_after fs (first text) o rest k m in
    let there = subst (λ (x : List ℕ). 0 < length x) (after_one k text) h in
    let said = line_said fs (later text) rest others k there in
    subst (λ (x : List ℕ). IsSaid fs (first x) (first (after_lines (suc k) (o ++ rest)))) (sym (after_one k text))
    (subst (λ (x : List ℕ). IsSaid fs (first (after_lines k (later text))) (first x)) (sym left) said)

-- what is written has as many lines as the text
pub as_many : (fs : List Fun) (text out : List ℕ) → AreMeanings fs text out → (k : ℕ)
    → (0 < length (after_lines k text)) ↔ (0 < length (after_lines k out))
as_many fs text out none k = (λ h. h, λ h. h)
as_many fs text out (next {out = o} {rest = rest} some m others) zero =
    let w = meaning_words (CCall fs m.name m.index m.values) in
    let e : length (o ++ rest) ≡ length w + suc (length rest) = ap length (seam fs (first text) o rest m) ∙ length-append w (10 ∷ rest) in
    (λ h. omega (arith, e), λ h. some)
as_many fs text out (next {out = o} {rest = rest} some m others) (suc k) =
    let both = as_many fs (later text) rest others k in (
      λ h. subst (λ (x : List ℕ). 0 < length x) (sym (gone_after fs (first text) o rest k m))
          (both.0 (subst (λ (x : List ℕ). 0 < length x) (after_one k text) h)),
      λ h. subst (λ (x : List ℕ). 0 < length x) (sym (after_one k text))
          (both.1 (subst (λ (x : List ℕ). 0 < length x) (gone_after fs (first text) o rest k m) h)),
    )
