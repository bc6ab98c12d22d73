-- Numbers of up to 128 bits in decimal.
use Rattle.std.proofs.Common.{◌≡◌, ℕ, zero, suc, ◌+◌, ◌-◌, ◌*◌, ◌/◌, ◌%◌, ◌^◌, ◌<◌, ◌≤◌, ℤ, pos, negsuc, unsigned_abs, List, [], ◌∷◌, ◌++◌}
use Rattle.std.proofs.Common.{length, get_or, drop, refl, sym, ap, ◌∙◌, subst, arith, append_assoc, append-nil, drop-cons, length-append}
use Rattle.std.proofs.Math.ListN.{get_or-append}
use Rattle.std.specs.Fmt.{decimal, signed_decimal}
use Rattle.std.specs.Str.Parse.{AllDigits, digits_value_after, digits_value}
use Rattle.std.specs.Char.{digit_value}
use Rattle.std.proofs.lemmas.Str.Parse.{digit_from_value}
use Rattle.std.proofs.lemmas.Str.{digit_value_digit}
use Rattle.std.proofs.lemmas.Fmt.{decimal_is_IsNumeral_wide, decimal_digit, decimal_step_wide, decimal_by_steps_wide}

le_value_after : (n : ℕ) (ds : List ℕ) → n ≤ digits_value_after 10 n ds
le_value_after n [] = omega arith
le_value_after n (c ∷ cs) = omega (arith, le_value_after (n * 10 + digit_value c) cs)

decimal_value_after : (n : ℕ) (ds : List ℕ) → 0 < n → AllDigits 10 ds → digits_value_after 10 n ds < 2 ^ 128
    → decimal (digits_value_after 10 n ds) ≡ decimal n ++ ds
decimal_value_after n [] some d small = sym (append-nil (decimal n))
decimal_value_after n (c ∷ cs) some d small =
    let m : ℕ = n * 10 + digit_value c in
    let k = digit_value_digit c (digit_from_value c d.0) in
    let front : m / 10 ≡ n = omega (arith, d.0) in
    let end : 48 + m % 10 ≡ c = omega (arith, d.0) in
    decimal_value_after m cs (omega arith) d.1 small
    ∙ ap (λ x. x ++ cs) (decimal_step_wide m (omega arith) (omega (arith, le_value_after m cs)) ∙ (λ i. decimal (front i) ++ (end i ∷ [])))
    ∙ append_assoc (decimal n) (c ∷ []) cs

decimal_value_digits : (ds : List ℕ) → AllDigits 10 ds → 0 < length ds → (get_or ds 0 0 ≡ 48 → length ds ≡ 1) → digits_value 10 ds < 2 ^ 128
    → decimal (digits_value 10 ds) ≡ ds
decimal_value_digits [] d some lead small = absurd (omega arith)
decimal_value_digits (c ∷ []) d some lead small =
    let k = digit_value_digit c (digit_from_value c d.0) in
    decimal_digit (0 * 10 + digit_value c) (omega (arith, d.0)) ∙ ap (λ x. x ∷ []) (omega arith)
decimal_value_digits (c ∷ e ∷ cs) d some lead small =
    let k = digit_value_digit c (digit_from_value c d.0) in
    let no : c ≡ 48 → ⊥ = λ z. omega (arith, lead z) in
    let is : 48 + (0 * 10 + digit_value c) ≡ c = omega arith in
    decimal_value_after (0 * 10 + digit_value c) (e ∷ cs) (omega arith) d.1 small
    ∙ ap (λ x. x ++ (e ∷ cs)) (decimal_digit (0 * 10 + digit_value c) (omega (arith, d.0)) ∙ ap (λ x. x ∷ []) is)

wide : (n : ℕ) → n < 2 ^ 128 → n < 10 ^ 64
wide n h = omega arith

-- a word of digits without a leading zero is the text of its value
pub number_is : (w : List ℕ) (n : ℕ) → AllDigits 10 w → n ≡ digits_value_after 10 0 w → n < 2 ^ 128 → 0 < length w
    → (get_or w 0 0 ≡ 48 → length w ≡ 1) → w ≡ decimal n
number_is w n d e small some lead = sym (ap decimal e ∙ decimal_value_digits w d some lead (omega arith))

-- an empty word is the text of no number
pub empty : (w : List ℕ) (n : ℕ) → n < 2 ^ 128 → length w ≡ 0 → w ≡ decimal n → ⊥
empty w n h l e = let p = (decimal_is_IsNumeral_wide n (wide n h)).0.0 in let q : length w ≡ length (decimal n) = ap length e in omega arith

abbrev Leads : ℕ → List ℕ → Type 0
Leads n ds = (0 < length ds) × (0 < n → 48 < get_or ds 0 0) × (n ≡ 0 → length ds ≡ 1)

leads : (n : ℕ) → n < 10 ^ 64 → Leads n (decimal n)
leads n h = decimal_by_steps_wide Leads
    (λ m l. (omega arith, λ a. omega arith, λ z. refl))
    (λ m ds l h. (
      omega (arith, length-append ds ((48 + m % 10) ∷ [])),
      λ a. let e : get_or (ds ++ ((48 + m % 10) ∷ [])) 0 0 ≡ get_or ds 0 0 = get_or-append ds ((48 + m % 10) ∷ []) 0 0 h.0 in omega (arith, h.1 (omega arith)),
      λ z. absurd (omega arith),
    ))
    n h

-- a word of two or more bytes that begins with 0 is the text of no number
pub leading : (w : List ℕ) (n : ℕ) → n < 2 ^ 128 → get_or w 0 0 ≡ 48 → 1 < length w → w ≡ decimal n → ⊥
leading w n h z l e =
    let p : Leads n w = subst (λ (x : List ℕ). Leads n x) (sym e) (leads n (wide n h)) in
    by n p
  where
    by : (n : ℕ) → Leads n w → ⊥
    by zero p = omega (arith, p.2 refl)
    by (suc n) p = omega (arith, p.1 (omega arith))

-- a word that is no digits, or whose value is over the limit, is the text of no number up to that limit
pub no_digits : (w : List ℕ) (n most : ℕ) → n < 2 ^ 128 → n ≤ most → (AllDigits 10 w → most < digits_value_after 10 0 w) → w ≡ decimal n → ⊥
no_digits w n most h l f e =
    let p = decimal_is_IsNumeral_wide n (wide n h) in
    let d : AllDigits 10 w = subst (λ (x : List ℕ). AllDigits 10 x) (sym e) p.0.1 in
    let v : digits_value 10 w ≡ n = ap (digits_value 10) e ∙ p.1 in
    omega (arith, f d)

-- where one more digit takes the value of the first digits over the limit, the value of the word is over it
pub too_large : (w : List ℕ) (i n most : ℕ) → i < length w → 48 ≤ get_or w i 0 → get_or w i 0 ≤ 57
    → digits_value_after 10 n (drop i w) ≡ digits_value_after 10 0 w → most < n * 10 + (get_or w i 0 - 48) → most < digits_value_after 10 0 w
too_large w i n most h a b same l =
    let e = drop-cons w i 0 h in
    let k = digit_value_digit (get_or w i 0) (a, b) in
    let s : digits_value_after 10 n (get_or w i 0 ∷ drop (suc i) w) ≡ digits_value_after 10 0 w = ap (digits_value_after 10 n) (sym e) ∙ same in
    omega (arith, le_value_after (n * 10 + digit_value (get_or w i 0)) (drop (suc i) w))

-- numbers with the same decimal text are equal
pub decimal_injective : (m n : ℕ) → m < 2 ^ 128 → n < 2 ^ 128 → decimal m ≡ decimal n → m ≡ n
decimal_injective m n p q e = sym (decimal_is_IsNumeral_wide m (wide m p)).1 ∙ ap (digits_value 10) e ∙ (decimal_is_IsNumeral_wide n (wide n q)).1

-- the text of a natural number doesn't begin with a minus sign
pub no_minus : (n : ℕ) (ds : List ℕ) → n < 2 ^ 128 → decimal n ≡ 45 ∷ ds → ⊥
no_minus n ds h e = omega (arith, digit_from_value 45 (subst (AllDigits 10) e (decimal_is_IsNumeral_wide n (wide n h)).0.1).0)

-- a signed number's word that begins with a minus sign is that sign and the text of a number above 0
pub minus_word : (w : List ℕ) (z : ℤ) → 0 < length w → get_or w 0 0 ≡ 45 → unsigned_abs z < 2 ^ 127 → w ≡ signed_decimal z
    → (m : ℕ) × (m + 1 < 2 ^ 127) × (drop 1 w ≡ decimal (m + 1))
minus_word [] z l e h s = absurd (omega arith)
minus_word (b ∷ bs) (pos n) l e h s = absurd (no_minus n bs (omega arith) (let q : 45 ≡ b = sym e in cc))
minus_word (b ∷ bs) (negsuc n) l e h s = let q : suc n ≡ n + 1 = omega arith in (n, omega arith, ap (drop 1) s ∙ ap decimal q)

-- a word that is no number after its minus sign is the text of no signed number
pub no_number : (w : List ℕ) (z : ℤ) → 0 < length w → get_or w 0 0 ≡ 45 → unsigned_abs z < 2 ^ 127
    → ((n : ℕ) → n ≤ 170141183460469231731687303715884105727 → drop 1 w ≡ decimal n → ⊥) → w ≡ signed_decimal z → ⊥
no_number w z l e h f s = let r = minus_word w z l e h s in f (r.0 + 1) (omega (arith, r.1)) r.2

-- `-0` is the text of no signed number
pub no_zero : (w : List ℕ) (z : ℤ) → 0 < length w → get_or w 0 0 ≡ 45 → unsigned_abs z < 2 ^ 127 → drop 1 w ≡ decimal 0 → w ≡ signed_decimal z → ⊥
no_zero w z l e h f s = let r = minus_word w z l e h s in omega (arith, decimal_injective (r.0 + 1) 0 (omega (arith, r.1)) (omega arith) (sym r.2 ∙ f))

-- the first byte of a number is a digit
pub no_byte : (n b : ℕ) (ds : List ℕ) → n < 2 ^ 128 → decimal n ≡ b ∷ ds → (48 ≤ b) × (b ≤ 57)
no_byte n b ds h e = let w : n < 10 ^ 64 = omega arith in digit_from_value b (subst (AllDigits 10) e (decimal_is_IsNumeral_wide n w).0.1).0

-- signed numbers with the same text are equal
pub signed_injective : (y z : ℤ) → unsigned_abs y < 2 ^ 127 → unsigned_abs z < 2 ^ 127 → signed_decimal y ≡ signed_decimal z → y ≡ z
signed_injective (pos m) (pos n) p q e = ap pos (decimal_injective m n (omega arith) (omega arith) e)
signed_injective (pos m) (negsuc n) p q e = absurd (no_minus m _ (omega arith) e)
signed_injective (negsuc m) (pos n) p q e = absurd (no_minus n _ (omega arith) (sym e))
signed_injective (negsuc m) (negsuc n) p q e =
    let f : decimal (suc m) ≡ decimal (suc n) = cc in
    let g = decimal_injective (suc m) (suc n) (omega arith) (omega arith) f in
    let h : m ≡ n = omega arith in ap negsuc h
