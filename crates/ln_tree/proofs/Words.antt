-- Pairs that are compared as numbers.
use Rattle.std.proofs.Common.{◌≡◌, ℕ, ◌+◌, ◌≤◌, ◌==◌, ◌∙◌, true, zero, suc, [], ◌∷◌, refl, sym, arith, length, take, drop}
use Rattle.std.proofs.lemmas.Bool.Decides.{nat_tests}
use Rattle.std.proofs.lemmas.List.{drop-drop, length-drop}
use Rattle.ln_tree.specs.Exps.{AreBytes, Pairs, pairs_number, same_pairs}

-- first pairs with one number are the same
alike : (n : ℕ) (xs ys : Pairs) → n ≤ length xs → n ≤ length ys → AreBytes (take n xs) → AreBytes (take n ys)
    → pairs_number (take n xs) ≡ pairs_number (take n ys) → same_pairs (drop n xs) (drop n ys) ≡ same_pairs xs ys
alike zero xs ys k l a b h = refl
alike (suc n) [] ys k l a b h = absurd (omega (arith, k))
alike (suc n) (x ∷ xs) [] k l a b h = absurd (omega (arith, l))
alike (suc n) (x ∷ xs) (y ∷ ys) k l a b h =
    let low : x.0 ≡ y.0 = omega (arith, a.0, a.1, b.0, b.1, h) in
    let high : x.1 ≡ y.1 = omega (arith, a.0, a.1, b.0, b.1, h) in
    let more : pairs_number (take n xs) ≡ pairs_number (take n ys) = omega (arith, a.0, a.1, b.0, b.1, h) in
    alike n xs ys (omega (arith, k)) (omega (arith, l)) a.2 b.2 more ∙ sym (step low high)
  where
    is : (n : ℕ) → (n == n) ≡ true
    is n = grind (arith, nat_tests)

    step : x.0 ≡ y.0 → x.1 ≡ y.1 → same_pairs (x ∷ xs) (y ∷ ys) ≡ same_pairs xs ys
    step e f = rw (e, f, is y.0, is y.1) refl

-- so are those from place i on
pub alike_at : (n i : ℕ) (xs ys : Pairs) → n + i ≤ length xs → length xs ≡ length ys → AreBytes (take n (drop i xs))
    → AreBytes (take n (drop i ys)) → pairs_number (take n (drop i xs)) ≡ pairs_number (take n (drop i ys))
    → same_pairs (drop (i + n) xs) (drop (i + n) ys) ≡ same_pairs (drop i xs) (drop i ys)
alike_at n i xs ys k l a b h =
    rw (← drop-drop n i xs, ← drop-drop n i ys)
    (alike n (drop i xs) (drop i ys) (omega (arith, k, length-drop i xs)) (omega (arith, k, l, length-drop i ys)) a b h)
