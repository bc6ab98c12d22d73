-- A word cut at a byte that is in it.
use Rattle.std.proofs.Common.{◌≡◌, ℕ, suc, ◌+◌, ◌-◌, ◌≤◌, ◌<◌, ◌^◌, ◌==◌, Bool, true, false, List, [], ◌∷◌, ◌++◌, length, take, drop, refl}
use Rattle.std.proofs.Common.{sym, ap, ◌∙◌, subst, arith, ne_eqb}
use Rattle.std.specs.Prelude.{if◌then◌else◌, decimal}
use Rattle.std.specs.Str.Parse.{AllDigits}
use Rattle.std.proofs.lemmas.Bool.{eqb-true}
use Rattle.std.proofs.lemmas.Bool.Decides.{nat_tests}
use Rattle.std.proofs.lemmas.Str.Parse.{digit_from_value}
use Rattle.std.proofs.lemmas.Fmt.{decimal_is_IsNumeral_wide}
use Rattle.ln_base.specs.Lines.{span_to}
use Rattle.ln_base.specs.Exponents.{IsExponent, exponent_word}
use Rattle.ln_base.proofs.Texts.Numbers.{decimal_injective}

front_free : (stop : ℕ) (w : List ℕ) → span_to stop (take (span_to stop w) w) ≡ length (take (span_to stop w) w)
front_free stop [] = refl
front_free stop (b ∷ bs) = by (b == stop) refl (front_free stop bs)
  where
    by : (t : Bool) → (b == stop) ≡ t → span_to stop (take (span_to stop bs) bs) ≡ length (take (span_to stop bs) bs) →
        span_to stop (take (if t then 0 else suc (span_to stop bs)) (b ∷ bs)) ≡ length (take (if t then 0 else suc (span_to stop bs)) (b ∷ bs))
    by true e h = refl
    by false e h = rw e (ap suc h)

around : (stop : ℕ) (w : List ℕ) → span_to stop w < length w → w ≡ take (span_to stop w) w ++ stop ∷ drop (suc (span_to stop w)) w
around stop [] h = absurd (omega arith)
around stop (b ∷ bs) h = by (b == stop) (eqb-true b stop) h (around stop bs)
  where
    by : (t : Bool) → (t ≡ true → b ≡ stop) → (if t then 0 else suc (span_to stop bs)) < suc (length bs) →
        (span_to stop bs < length bs → bs ≡ take (span_to stop bs) bs ++ stop ∷ drop (suc (span_to stop bs)) bs) →
        b ∷ bs ≡ take (if t then 0 else suc (span_to stop bs)) (b ∷ bs) ++ stop ∷ drop (suc (if t then 0 else suc (span_to stop bs))) (b ∷ bs)
    by true e h f = ap (λ x. x ∷ bs) (e refl)
    by false e h f = ap (λ x. b ∷ x) (f (omega arith))

-- a word is what is before its first `^`, the `^` and what is after it, and no `^` is in the first part
pub cut_here : (w a b : List ℕ) (hat : ℕ) → hat ≡ 0 + span_to 94 (drop 0 w) → hat < length w → a ≡ take (hat - 0) (drop 0 w)
    → b ≡ drop (hat + 1) w → (w ≡ a ++ 94 ∷ b) × (span_to 94 a ≡ length a)
cut_here w a b hat e h p q =
    let s : hat ≡ span_to 94 w = omega arith in
    let l : a ≡ take (span_to 94 w) w = p ∙ ap (λ n. take n w) {x = hat - 0} {y = span_to 94 w} (omega arith) in
    let r : b ≡ drop (suc (span_to 94 w)) w = q ∙ ap (λ n. drop n w) {x = hat + 1} {y = suc (span_to 94 w)} (omega arith) in
    rw (l, r) (around 94 w (omega arith), front_free 94 w)

no_self : (n : ℕ) → (n == n) ≡ false → ⊥
no_self n r = grind (arith, nat_tests, r)

tail_free : (stop b : ℕ) (bs : List ℕ) → span_to stop (b ∷ bs) ≡ suc (length bs) → (b ≡ stop → ⊥) × (span_to stop bs ≡ length bs)
tail_free stop b bs h = by (b == stop) refl h
  where
    by : (t : Bool) → (b == stop) ≡ t → (if t then 0 else suc (span_to stop bs)) ≡ suc (length bs) → (b ≡ stop → ⊥) × (span_to stop bs ≡ length bs)
    by true e h = absurd (omega arith)
    by false e h = ((λ q. let r : (stop == stop) ≡ false = subst (λ (x : ℕ). (x == stop) ≡ false) q e in no_self stop r), omega arith)

same_cut : (stop : ℕ) (a b x y : List ℕ) → a ++ stop ∷ b ≡ x ++ stop ∷ y → span_to stop a ≡ length a → span_to stop x ≡ length x → (a ≡ x) × (b ≡ y)
same_cut stop [] b [] y e f g = (refl, let h : stop ∷ b ≡ stop ∷ y = e in cc)
same_cut stop [] b (c ∷ x) y e f g = absurd ((tail_free stop c x g).0 (let h : stop ∷ b ≡ c ∷ (x ++ stop ∷ y) = e in cc))
same_cut stop (c ∷ a) b [] y e f g = absurd ((tail_free stop c a f).0 (let h : c ∷ (a ++ stop ∷ b) ≡ stop ∷ y = e in cc))
same_cut stop (c ∷ a) b (d ∷ x) y e f g =
    let h : c ∷ (a ++ stop ∷ b) ≡ d ∷ (x ++ stop ∷ y) = e in
    let k : c ≡ d = cc in
    let t : a ++ stop ∷ b ≡ x ++ stop ∷ y = cc in
    let r = same_cut stop a b x y t (tail_free stop c a f).1 (tail_free stop d x g).1 in
    ((λ i. k i ∷ r.0 i), r.1)

digits_free : (ds : List ℕ) → AllDigits 10 ds → span_to 94 ds ≡ length ds
digits_free [] d = refl
digits_free (c ∷ cs) d = let k = digit_from_value c d.0 in rw (ne_eqb c 94 (λ e. omega arith)) (ap suc (digits_free cs d.1))

decimal_free : (n : ℕ) → n < 2 ^ 128 → span_to 94 (decimal n) ≡ length (decimal n)
decimal_free n h = let w : n < 10 ^ 64 = omega arith in digits_free (decimal n) (decimal_is_IsNumeral_wide n w).0.1

has_hat : (a b : List ℕ) → span_to 94 (a ++ 94 ∷ b) ≡ length (a ++ 94 ∷ b) → ⊥
has_hat [] b h = absurd (omega arith)
has_hat (c ∷ a) b h = has_hat a b (tail_free 94 c (a ++ 94 ∷ b) h).1

-- ---- words that are no exponents
-- a word without `^` isn't the word of any exponent
pub no_hat : (w : List ℕ) → span_to 94 w ≡ length w → (p : ℕ × ℕ) → IsExponent p → w ≡ exponent_word p → ⊥
no_hat w h p q e = has_hat (decimal p.0) (decimal p.1) (subst (λ (x : List ℕ). span_to 94 x ≡ length x) e h)

-- where an exponent's word is cut at its first `^`, the parts are the texts of the variable and of the exponent
pub parts : (w a b : List ℕ) (p : ℕ × ℕ) → w ≡ a ++ 94 ∷ b → span_to 94 a ≡ length a → IsExponent p → w ≡ exponent_word p
    → (a ≡ decimal p.0) × (b ≡ decimal p.1)
parts w a b p s f q e = same_cut 94 a b (decimal p.0) (decimal p.1) (sym s ∙ e) f (decimal_free p.0 (omega (arith, q.0)))

-- a word whose part before the first `^` is no number up to 167 is no exponent
pub no_left : (w a b : List ℕ) → w ≡ a ++ 94 ∷ b → span_to 94 a ≡ length a → ((n : ℕ) → n ≤ 167 → a ≡ decimal n → ⊥) → (p : ℕ × ℕ)
    → IsExponent p → w ≡ exponent_word p → ⊥
no_left w a b s f g p q e = g p.0 q.0 (parts w a b p s f q e).0

-- a word whose part after the first `^` is no number up to 127 is no exponent
pub no_right : (w a b : List ℕ) → w ≡ a ++ 94 ∷ b → span_to 94 a ≡ length a → ((n : ℕ) → n ≤ 127 → b ≡ decimal n → ⊥) → (p : ℕ × ℕ)
    → IsExponent p → w ≡ exponent_word p → ⊥
no_right w a b s f g p q e = g p.1 q.2 (parts w a b p s f q e).1

-- a word whose part after the first `^` is 0 is no exponent
pub no_power : (w a b : List ℕ) (n : ℕ) → w ≡ a ++ 94 ∷ b → span_to 94 a ≡ length a → b ≡ decimal n → n ≡ 0 → (p : ℕ × ℕ) → IsExponent p
    → w ≡ exponent_word p → ⊥
no_power w a b n s f d z p q e =
    omega (arith, q.1, decimal_injective p.1 0 (omega (arith, q.2)) (omega arith) (sym (parts w a b p s f q e).1 ∙ d ∙ ap decimal z))

-- exponents with the same word are the same
pub same_exponent : (p q : ℕ × ℕ) → IsExponent p → IsExponent q → exponent_word p ≡ exponent_word q → p ≡ q
same_exponent p q a b e =
    let h = same_cut 94 (decimal p.0) (decimal p.1) (decimal q.0) (decimal q.1) e (decimal_free p.0 (omega (arith, a.0)))
    (decimal_free q.0 (omega (arith, b.0))) in
    let x = decimal_injective p.0 q.0 (omega (arith, a.0)) (omega (arith, b.0)) h.0 in
    let y = decimal_injective p.1 q.1 (omega (arith, a.2)) (omega (arith, b.2)) h.1 in
    λ i. (x i, y i)
