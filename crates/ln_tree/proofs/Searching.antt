-- What loops over variables find.
use Rattle.std.proofs.Common.{◌≡◌, ℕ, ◌+◌, ◌<◌, ◌≤◌, Bool, true, false, not, List, length, get_or, drop, Option, Some, None}
use Rattle.std.proofs.Common.{refl, ap, sym, ◌∙◌, true≢false, drop-cons, add-one}
use Rattle.std.specs.Prelude.{position, is_some, is_none}
use Rattle.std.specs.List.{position_from, list_all}
use Rattle.std.proofs.lemmas.List.{drop_all}
use Rattle.std.proofs.lemmas.Iterator.Adapters.{position_from-zero}

-- what has no value, by what has one
pub none_by : (o : Option ℕ) (r : Bool) → is_some o ≡ not r → r ≡ is_none o
none_by None true e = refl
none_by None false e = absurd (true≢false (sym e))
none_by (Some s) true e = absurd (true≢false e)
none_by (Some s) false e = refl

-- the first place is found
pub place_found : {X : Type 0} (p : X → Bool) (xs : List X) (i : ℕ) (d : X) → i < length xs → p (get_or xs i d) ≡ true
    → position_from p i (drop i xs) ≡ position_from p 0 xs → Some i ≡ position p xs
place_found p xs i d l h e = sym (rw (drop-cons xs i d, h) refl) ∙ e ∙ sym (position_from-zero p xs)

-- there is no place
pub no_place : {X : Type 0} (p : X → Bool) (xs : List X) (i : ℕ) → length xs ≤ i → position_from p i (drop i xs) ≡ position_from p 0 xs → None ≡ position p xs
no_place p xs i l e = sym (ap (position_from p i) (drop_all i xs l)) ∙ e ∙ sym (position_from-zero p xs)

-- a test of all elements: one fails, this one passes, all pass
pub all_broken : {X : Type 0} (p : X → Bool) (xs : List X) (i : ℕ) (d : X) → i < length xs → p (get_or xs i d) ≡ false
    → list_all p (drop i xs) ≡ list_all p xs → false ≡ list_all p xs
all_broken p xs i d l h e = sym (rw (drop-cons xs i d, h) refl) ∙ e

-- the step of a loop that tests all elements: this one passes
pub all_on : {X : Type 0} (p : X → Bool) (xs : List X) (i : ℕ) (d : X) → i < length xs → p (get_or xs i d) ≡ true
    → list_all p (drop i xs) ≡ list_all p xs → list_all p (drop (i + 1) xs) ≡ list_all p xs
all_on p xs i d l h e = rw add-one (sym (rw (drop-cons xs i d, h) refl) ∙ e)

-- the end of a loop that tests all elements: all pass
pub all_passed : {X : Type 0} (p : X → Bool) (xs : List X) (i : ℕ) → length xs ≤ i → list_all p (drop i xs) ≡ list_all p xs → true ≡ list_all p xs
all_passed p xs i l e = sym (ap (list_all p) (drop_all i xs l)) ∙ e
