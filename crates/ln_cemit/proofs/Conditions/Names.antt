-- Names are equal exactly where they pass the comparison letter by letter.
use Rattle.std.proofs.Common.{◌≡◌, ℕ, true, false, List, [], ◌∷◌, refl}
use Rattle.std.specs.Prelude.{nat_eq}
use Rattle.std.proofs.lemmas.Bool.{and_parts, eq-eqb, eqb-true, false_from_ne_true}
use Rattle.ln_csyn.specs.Meaning.{same_name}

-- a name passes the comparison with itself
pub name_self : (x : List ℕ) → same_name x x ≡ true
name_self [] = refl
name_self (a ∷ as') = let e = name_self as' in rw (eq-eqb a a refl) e

name_true : (x y : List ℕ) → same_name x y ≡ true → x ≡ y
name_true [] [] h = refl
name_true [] (b ∷ bs) h = cc
name_true (a ∷ as') [] h = cc
name_true (a ∷ as') (b ∷ bs) h =
    let p = and_parts (nat_eq a b) (same_name as' bs) h in
    let e = eqb-true a b p.0 in
    let f = name_true as' bs p.1 in cc

-- names that differ don't pass the comparison
pub name_false : (x y : List ℕ) → (x ≡ y → ⊥) → same_name x y ≡ false
name_false x y h = false_from_ne_true (same_name x y) (λ e. h (name_true x y e))
