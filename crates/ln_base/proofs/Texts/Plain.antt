-- Words of numbers have neither space nor line feed.
use Rattle.std.proofs.Common.{◌≡◌, ℕ, suc, ◌<◌, ◌^◌, ◌==◌, Bool, true, false, ℤ, pos, negsuc, unsigned_abs, List, [], ◌∷◌, ◌++◌, map, refl, arith, ne_eqb}
use Rattle.std.specs.Prelude.{if◌then◌else◌, decimal}
use Rattle.std.specs.Fmt.{signed_decimal}
use Rattle.std.specs.Str.Parse.{AllDigits}
use Rattle.std.proofs.lemmas.Str.Parse.{digit_from_value}
use Rattle.std.proofs.lemmas.Fmt.{decimal_is_IsNumeral_wide}
use Rattle.ln_base.specs.Exponents.{Each, IsExponent, exponent_word}
use Rattle.ln_base.specs.Lines.{is_plain}
use Rattle.ln_base.proofs.Texts.Words.{ArePlain}

-- a plain word with a byte before it that is neither space nor line feed is plain
pub byte_plain : (b : ℕ) (bs : List ℕ) → (b ≡ 32 → ⊥) → (b ≡ 10 → ⊥) → is_plain bs ≡ true → is_plain (b ∷ bs) ≡ true
byte_plain b bs f g h = rw (ne_eqb b 32 f, ne_eqb b 10 g) h

-- a word of digits is plain
pub digits_plain : (ds : List ℕ) → AllDigits 10 ds → is_plain ds ≡ true
digits_plain [] d = refl
digits_plain (c ∷ cs) d = let r = digit_from_value c d.0 in byte_plain c cs (λ e. omega arith) (λ e. omega arith) (digits_plain cs d.1)

-- the decimal text of a number is plain
pub decimal_plain : (n : ℕ) → n < 2 ^ 128 → is_plain (decimal n) ≡ true
decimal_plain n h = let w : n < 10 ^ 64 = omega arith in digits_plain (decimal n) (decimal_is_IsNumeral_wide n w).0.1

-- the text of a signed number is plain
pub signed_plain : (z : ℤ) → unsigned_abs z < 2 ^ 127 → is_plain (signed_decimal z) ≡ true
signed_plain (pos n) h = decimal_plain n (omega arith)
signed_plain (negsuc n) h = decimal_plain (suc n) (omega arith)

-- a plain word after a plain word makes a plain word
pub append_plain : (a b : List ℕ) → is_plain a ≡ true → is_plain b ≡ true → is_plain (a ++ b) ≡ true
append_plain [] b p q = q
append_plain (c ∷ cs) b p q = by (c == 32) (c == 10) p (λ r. append_plain cs b r q)
  where
    by : (t u : Bool) → (if t then false else if u then false else is_plain cs) ≡ true → (is_plain cs ≡ true → is_plain (cs ++ b) ≡ true)
        → (if t then false else if u then false else is_plain (cs ++ b)) ≡ true
    by true u p f = absurd (cc)
    by false true p f = absurd (cc)
    by false false p f = f p

-- two lists of plain words, one after the other, are a list of plain words
pub plain_append : (xs ys : List (List ℕ)) → ArePlain xs → ArePlain ys → ArePlain (xs ++ ys)
plain_append [] ys p q = q
plain_append (x ∷ xs) ys p q = (p.0, plain_append xs ys p.1 q)

-- a list is written with plain words where each element of its kind has one
pub plain_map : {A : Type 0} (f : A → List ℕ) (P : A → Type 0) → ((x : A) → P x → is_plain (f x) ≡ true) → (xs : List A) → Each P xs → ArePlain (map f xs)
plain_map f P g [] p = tt
plain_map f P g (x ∷ xs) p = (g x p.0, plain_map f P g xs p.1)

-- the word of an exponent is plain
pub exponent_plain : (p : ℕ × ℕ) → IsExponent p → is_plain (exponent_word p) ≡ true
exponent_plain p q = append_plain (decimal p.0) (94 ∷ decimal p.1) (decimal_plain p.0 (omega (arith, q.0))) (decimal_plain p.1 (omega (arith, q.2)))
