-- The value of digits, and the text of a number.
use Rattle.std.proofs.Common.{◌≡◌, ℕ, suc, ◌+◌, ◌-◌, ◌*◌, ◌%◌, ◌^◌, ◌<◌, ◌≤◌, min, Bool, true, false, ◌&&◌, nat_lt, List, [], ◌∷◌, ◌++◌}
use Rattle.std.proofs.Common.{length, get_or, take, decimal, ℤ, pos, negsuc, unsigned_abs, Some, refl, ap, sym, subst, ◌∙◌, arith}
use Rattle.std.proofs.Common.{length-append, lt-ltb, pow-suc, ne_eqb, true≢false}
use Rattle.std.specs.Fmt.{signed_decimal}
use Rattle.std.specs.List.{list_all}
use Rattle.std.specs.Char.{is_ascii_digit}
use Rattle.std.specs.Str.{all_ascii_digits}
use Rattle.std.proofs.lemmas.Fmt.{decimal_is_IsNumeral_wide, decimal_digit, decimal_by_steps_wide, decimal-digits_value}
use Rattle.std.proofs.lemmas.Str.Parse.{IsNumeralModel, numerals_by_weight, tells_all_ascii_digits}
use Rattle.std.proofs.lemmas.List.{take_more}
use Rattle.std.proofs.Math.ListN.{get_or-append}
use Rattle.std.proofs.Math.Nat.{mul-le-mul_right, pow-le-pow_right}
use Rattle.std.proofs.lemmas.Bool.Decides.{nat_tests}
use Rattle.ln_base.specs.Decimal.{is_digits, decimal_value, natural_value, integer_value, IsPlain}

-- a running value that stays at c takes one more digit
pub capped_digit : (v d c : ℕ) → min (min (min v c * 10) c + d) c ≡ min (10 * v + d) c
capped_digit v d c = grind arith

-- one more digit after digits
pub value_behind : (ds : List ℕ) (d : ℕ) → decimal_value (ds ++ d ∷ []) ≡ 10 * decimal_value ds + (d - 48)
value_behind [] d = omega arith
value_behind (x ∷ xs) d =
    let long : length (xs ++ d ∷ []) ≡ suc (length xs) = omega (arith, length-append xs (d ∷ [])) in
    rw (long, pow-suc 10 (length xs), value_behind xs d) (omega arith)

-- the value of one digit more of a list
pub value_more : (xs : List ℕ) (i c n : ℕ) → i < length xs → n ≡ min (decimal_value (take i xs)) c
    → min (min (n * 10) c + (get_or xs i 0 - 48)) c ≡ min (decimal_value (take (i + 1) xs)) c
value_more xs i c n h e = rw (take_more xs i 0 h, value_behind (take i xs) (get_or xs i 0), e) (capped_digit _ _ c)

-- all of these digits are digits in std's word
all_same : (ds : List ℕ) → all_ascii_digits ds ≡ list_all is_ascii_digit ds
all_same [] = refl
all_same (d ∷ ds) = ap (λ (b : Bool). is_ascii_digit d && b) (all_same ds)

-- the value by places is std's value of digits
own : IsNumeralModel (λ ds. all_ascii_digits ds ≡ true) decimal_value
own = numerals_by_weight _ tells_all_ascii_digits decimal_value (record { empty = refl; more = λ c cs r. refl })

-- the text of a number below 10^64, read back, has that number as its value
pub value_of_text : (n : ℕ) → n < 10 ^ 64 → decimal_value (decimal n) ≡ n
value_of_text n h = let k = decimal_is_IsNumeral_wide n h in own.same (decimal n) k.0.1 ∙ k.1

-- the text of a number below 10^64 is one or more digits
pub text_is_digits : (n : ℕ) → n < 10 ^ 64 → is_digits (decimal n) ≡ true
text_is_digits n h =
    let k = decimal_is_IsNumeral_wide n h in
    rw (lt-ltb 0 (length (decimal n)) k.0.0, ← all_same (decimal n), own.from (decimal n) k.0.1) refl

both_true : (a b : Bool) → (a && b) ≡ true → (a ≡ true) × (b ≡ true)
both_true true b h = (refl, h)
both_true false b h = absurd (cc)

-- n digits write a number below 10^n
digit_most : (d : ℕ) → is_ascii_digit d ≡ true → d - 48 ≤ 9
digit_most d h = grind (arith, nat_tests, h)

one_place : (d p v q : ℕ) → d ≤ 9 → v < p → q ≡ p * 10 → d * p + v < q
one_place d p v q h k e =
    let most : d * p ≤ 9 * p = mul-le-mul_right p h in
    omega (arith, most, k, e)

-- n digits write a number below 10^n
pub value_below : (ds : List ℕ) → list_all is_ascii_digit ds ≡ true → decimal_value ds < 10 ^ length ds
value_below [] h = omega arith
value_below (d ∷ ds) h =
    let k = both_true (is_ascii_digit d) (list_all is_ascii_digit ds) h in
    one_place (d - 48) (10 ^ length ds) (decimal_value ds) (10 ^ suc (length ds)) (digit_most d k.0) (value_below ds k.1) (pow-suc 10 (length ds))

-- at most n digits
pub value_within : (ds : List ℕ) (n : ℕ) → is_digits ds ≡ true → length ds ≤ n → decimal_value ds < 10 ^ n
value_within ds n h l =
    let k = both_true (list_all is_ascii_digit ds) (nat_lt 0 (length ds)) h in
    let below = value_below ds k.0 in
    let ten : 0 < 10 = omega arith in
    let wide : 10 ^ length ds ≤ 10 ^ n = pow-le-pow_right ten l in
    omega (arith, below, wide)

some_length : (ds : List ℕ) → nat_lt 0 (length ds) ≡ true → 0 < length ds
some_length ds h = grind (arith, nat_tests, h)

-- plain digits are the text of their value
pub text_of_value : (ds : List ℕ) → IsPlain ds → decimal_value ds < 2 ^ 64 → decimal (decimal_value ds) ≡ ds
text_of_value ds h small =
    let k = both_true (list_all is_ascii_digit ds) (nat_lt 0 (length ds)) h.0 in
    decimal-digits_value own ds (all_same ds ∙ k.0) (some_length ds k.1) h.1 small

-- a text that begins with a zero is that of zero
by_zero : (n : ℕ) → n < 10 ^ 64 → (0 < length (decimal n)) × (get_or (decimal n) 0 0 ≡ 48 → n ≡ 0)
by_zero = decimal_by_steps_wide (λ m ds. (0 < length ds) × (get_or ds 0 0 ≡ 48 → m ≡ 0)) (λ m l. (omega arith, λ a. omega arith))
    (λ m ds l h. (
      omega (arith, length-append ds ((48 + m % 10) ∷ [])),
      λ a. let z = h.1 (sym (get_or-append ds ((48 + m % 10) ∷ []) 0 0 h.0) ∙ a) in omega arith,
    ))

-- the text of a number below 10^64 has no leading zero
pub text_is_plain : (n : ℕ) → n < 10 ^ 64 → IsPlain (decimal n)
text_is_plain n h = (text_is_digits n h, λ a. ap (λ m. length (decimal m)) ((by_zero n h).1 a) ∙ ap length (decimal_digit 0 (omega arith)))

-- the text of a number below 10^64 is read as that number
pub text_is_natural : (n : ℕ) → n < 10 ^ 64 → natural_value (decimal n) ≡ Some n
text_is_natural n h = rw (text_is_digits n h, value_of_text n h) refl

-- no digit is a minus sign
no_minus : (b : ℕ) (bs : List ℕ) → is_digits (b ∷ bs) ≡ true → b ≡ 45 → ⊥
no_minus b bs h e = let k : is_digits (45 ∷ bs) ≡ true = subst (λ (x : ℕ). is_digits (x ∷ bs) ≡ true) e h in true≢false (sym k)

-- digits alone are a number that isn't negative
pub digits_alone : (ds : List ℕ) → is_digits ds ≡ true → integer_value ds ≡ Some (pos (decimal_value ds))
digits_alone [] h = absurd (cc)
digits_alone (b ∷ bs) h = rw (ne_eqb b 45 (no_minus b bs h), h) refl

-- the text of a signed number of magnitude below 10^64 is read as that number
pub text_is_integer : (z : ℤ) → unsigned_abs z < 10 ^ 64 → integer_value (signed_decimal z) ≡ Some z
text_is_integer (pos n) h = rw (digits_alone (decimal n) (text_is_digits n h), value_of_text n h) refl
text_is_integer (negsuc n) h = rw (text_is_natural (suc n) h) refl
