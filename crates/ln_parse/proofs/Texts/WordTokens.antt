-- Names and numbers as tokens.
use Rattle.std.proofs.Common.{◌≡◌, ℕ, ◌<◌, ◌≤◌, ◌^◌, ◌||◌, not, Bool, true, false, List, [], ◌∷◌, length, Some, refl, ap, arith, codes}
use Rattle.std.specs.Prelude.{bytes_eq, if◌then◌else◌}
use Rattle.std.specs.Fmt.{decimal}
use Rattle.std.specs.Str.Parse.{AllDigits}
use Rattle.std.proofs.lemmas.Fmt.{decimal_is_IsNumeral_wide}
use Rattle.std.proofs.lemmas.Str.Parse.{tells_digits}
use Rattle.std.proofs.lemmas.Bool.{and_parts}
use Rattle.std.proofs.lemmas.Bool.Decides.{nat_tests}
use Rattle.ln_base.specs.Words.{is_digit, is_letter, is_name_byte, every, is_name, is_word, is_keyword}
use Rattle.ln_lex.specs.declared.token.Kind.{Kind}
use Rattle.ln_lex.specs.declared.token.Kind.TheVariants.{Name, Number, Site, Param, Predicate, Let, Sign}
use Rattle.ln_lex.specs.Tokens.{kind_of, word_kind}

digit : (c : ℕ) → 48 ≤ c → c ≤ 57 → is_digit c ≡ true
digit c a b = grind (arith, nat_tests)

no_letter : (c : ℕ) → 48 ≤ c → c ≤ 57 → is_letter c ≡ false
no_letter c a b = grind (arith, nat_tests)

all_digits : (ds : List ℕ) → AllDigits 10 ds → every is_digit ds ≡ true
all_digits [] h = refl
all_digits (c ∷ cs) h = let p = tells_digits.parts c cs h in rw (digit c p.0.0 p.0.1, all_digits cs p.1) refl

numeral_kind : (ds : List ℕ) → 0 < length ds → AllDigits 10 ds → kind_of ds ≡ Some Number
numeral_kind [] l h = absurd (omega arith)
numeral_kind (c ∷ cs) l h = let p = tells_digits.parts c cs h in rw (no_letter c p.0.0 p.0.1, digit c p.0.0 p.0.1, all_digits cs p.1) refl

-- the digits of a number are a NUMBER
pub number_kind : (n : ℕ) → n < 10 ^ 64 → kind_of (decimal n) ≡ Some Number
number_kind n h = let p = (decimal_is_IsNumeral_wide n h).0 in numeral_kind (decimal n) p.0 p.1

no_keyword : (s p q l g : Bool) → not (s || p || q || l || g) ≡ true
    → (if s then Site else if p then Param else if q then Predicate else if l then Let else if g then Sign else Name) ≡ Name
no_keyword true p q l g h = absurd (cc)
no_keyword false true q l g h = absurd (cc)
no_keyword false false true l g h = absurd (cc)
no_keyword false false false true g h = absurd (cc)
no_keyword false false false false true h = absurd (cc)
no_keyword false false false false false h = refl

-- a name is a NAME
pub name_kind : (t : List ℕ) → is_name t ≡ true → kind_of t ≡ Some Name
name_kind [] h = absurd (cc)
name_kind (b ∷ bs) h =
    let p = and_parts (is_word (b ∷ bs)) (not (is_keyword (b ∷ bs))) h in
    let q = and_parts (is_letter b) (every is_name_byte bs) p.0 in
    let k : word_kind (b ∷ bs) ≡ Name = no_keyword (bytes_eq (b ∷ bs) (codes "site")) (bytes_eq (b ∷ bs) (codes "param"))
    (bytes_eq (b ∷ bs) (codes "predicate")) (bytes_eq (b ∷ bs) (codes "let")) (bytes_eq (b ∷ bs) (codes "sign")) p.1 in
    rw (q.0, q.1) (ap (λ (w : Kind). Some w) k)
