-- Numbers of several words, of 127 bits each.
use Rattle.std.specs.Prelude.{◌≡◌, ℕ, zero, suc, ◌+◌, ◌*◌, ◌/◌, ◌%◌, ◌<◌, ◌≤◌, ◌^◌, All, List, [], ◌∷◌, length, refl}
use Rattle.std.proofs.Common.{arith, ap, ◌∙◌}
use Rattle.std.proofs.Math.Nat.{add-mul-div_left, add-mul-mod_self_left, div-eq_of_lt, mod-eq_of_lt}
use Rattle.std.proofs.lemmas.List.Elements.{All-head, All-tail}

-- the number of these words, the lowest first
abbrev pub value : List ℕ → ℕ
value [] = 0
value (w ∷ ws) = w + 2 ^ 127 * value ws

-- the words of a number, as many as are wanted
abbrev pub digits : ℕ → ℕ → List ℕ
digits zero k = []
digits (suc n) k = (k % 2 ^ 127) ∷ digits n (k / 2 ^ 127)

-- n words
abbrev pub AreWords : ℕ → List ℕ → Type 0
AreWords n ws = (length ws ≡ n) × All (λ w. w < 2 ^ 127) ws

-- the words of their number
pub digits-value : (n : ℕ) (ws : List ℕ) → AreWords n ws → digits n (value ws) ≡ ws
digits-value zero [] h = refl
digits-value zero (w ∷ ws) h = absurd (omega (arith, h.0))
digits-value (suc n) [] h = absurd (omega (arith, h.0))
digits-value (suc n) (w ∷ ws) h =
    let l : w < 2 ^ 127 = All-head (λ z. z < 2 ^ 127) w ws h.1 in
    let q : (w + 2 ^ 127 * value ws) / 2 ^ 127 ≡ value ws =
    omega (arith, add-mul-div_left w (value ws) {y = 2 ^ 127} (omega arith), div-eq_of_lt l) in
    let m : (w + 2 ^ 127 * value ws) % 2 ^ 127 ≡ w = add-mul-mod_self_left w (2 ^ 127) (value ws) ∙ mod-eq_of_lt l in
    rw (q, m) (ap (λ z. w ∷ z) (digits-value n ws (omega (arith, h.0), All-tail (λ z. z < 2 ^ 127) w ws h.1)))

-- a field that begins at this bit has at least 7 bits in its word, unless that is the highest of n
pub record IsPlace (n shift : ℕ) : Type 0 where
  pub within : shift / 127 < n
  pub room : shift / 127 + 1 < n → shift % 127 ≤ 120

-- half of the numbers of n words
abbrev pub half : ℕ → ℕ
half zero = 0
half (suc n) = 2 ^ (127 * n + 126)

-- as many fields of 7 bits lie below this bit, each in one word
abbrev pub fields_below : ℕ → ℕ
fields_below n = n / 127 * 18 + n % 127 / 7
