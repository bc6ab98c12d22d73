-- The names of declarations differ and are free.
use Rattle.std.proofs.Common.{◌≡◌, ℕ, ◌<◌, ◌^◌, ◌==◌, true, false, List, [], ◌∷◌, refl, ◌∙◌, arith}
use Rattle.std.specs.Prelude.{decimal, bytes_eq}
use Rattle.std.specs.List.{list_all}
use Rattle.std.specs.Char.{is_ascii_digit}
use Rattle.std.proofs.lemmas.Bool.{and_parts, eqb-false, eqb-true, false_from_ne_true}
use Rattle.std.proofs.lemmas.Fmt.{decimal_injective}
use Rattle.std.proofs.lemmas.Slice.Eq.{bytes_eq-Decides}
use Rattle.ln_base.proofs.DecimalLemmas.{text_is_digits}
use Rattle.ln_base.specs.Words.{is_name_byte, every}
use Rattle.ln_csyn.specs.Words.{among, is_c_name}
use Rattle.ln_csyn.proofs.Writing.Spells.{digits_every}
use Rattle.ln_csyn.proofs.Writing.Laying.{every_digit_name}
use Rattle.ln_cemit.specs.Conditions.{is_free}
use Rattle.ln_cemit.specs.Names.{decl_name, all_begin, NamesServe}

is_word_name : (ds : List ℕ) → every is_name_byte ds ≡ true → is_c_name (110 ∷ ds) ≡ true
is_word_name ds h = rw h refl

-- no name that begins with l is one that begins with another byte
pub apart : (names : List (List ℕ)) (d : ℕ) (ds : List ℕ) → (d == 108) ≡ false → all_begin names ≡ true → among names (d ∷ ds) ≡ false
apart [] d ds o h = refl
apart ([] ∷ xs) d ds o h = cc
apart ((b ∷ bs) ∷ xs) d ds o h =
    let p = and_parts (b == 108) (all_begin xs) h in
    let f : bytes_eq (d ∷ ds) (b ∷ bs) ≡ false = false_from_ne_true (bytes_eq (d ∷ ds) (b ∷ bs))
    (λ q. let r : d ∷ ds ≡ b ∷ bs = (bytes_eq-Decides (d ∷ ds) (b ∷ bs)).0 q in let e : d ≡ b = cc in eqb-false d 108 o (e ∙ eqb-true b 108 p.0)) in
    rw (f, apart xs d ds o p.1) refl

tail_same : (xs ys : List ℕ) → 110 ∷ xs ≡ 110 ∷ ys → xs ≡ ys
tail_same xs ys e = cc

-- the names of declarations differ, and are free beside functions whose names begin with l
pub names_serve : NamesServe
names_serve names top small h = (
  λ m n p q e. decimal_injective m n (omega (arith, p, small)) (omega (arith, q, small)) (tail_same (decimal m) (decimal n) e),
  λ n lt. free n (omega (arith, lt, small)),
)
  where
    free : (n : ℕ) → n < 10 ^ 64 → is_free names (decl_name n) ≡ true
    free n lt =
        let d = and_parts (list_all is_ascii_digit (decimal n)) _ (text_is_digits n lt) in
        rw (is_word_name (decimal n) (every_digit_name (decimal n) (digits_every (decimal n) d.0)), apart names 110 (decimal n) refl h) refl
