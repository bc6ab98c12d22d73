-- Three arguments of one type.
use Rattle.std.proofs.Common.{◌≡◌, ℕ, Bool, false, List, [], ◌∷◌, length, map, refl, Some, Option, arith, get_or, sym}
use Rattle.std.specs.Prelude.{slice_get, slice_index_or}
use Rattle.std.proofs.lemmas.Option.{slice_get_read}
use Rattle.ln_tree.specs.declared.items.Arg.{Arg}
use Rattle.ln_tree.specs.declared.pred.Pred.{Pred}
use Rattle.ln_tree.specs.Table.{PredOf, arg_of, pred_of}
use Rattle.ln_top.specs.Judges.Three.{is_one_of_three, is_three, one_type, type_of}
use Rattle.ln_compile.specs.Compiled.{AreNumbered}
use Rattle.ln_compile.proofs.Numbers.{one_numbered, one_within}

-- three arguments, or fewer or more
pub not_three : (xs : List Arg) → (length xs ≡ 3 → ⊥) → false ≡ is_three (map arg_of xs)
not_three [] h = refl
not_three (x ∷ []) h = refl
not_three (x ∷ y ∷ []) h = refl
not_three (x ∷ y ∷ z ∷ []) h = absurd (h refl)
not_three (x ∷ y ∷ z ∷ w ∷ rest) h = refl

-- three arguments, each read
pub are_three : (xs : List Arg) (a b c : Arg) (s t u : Option ℕ) (r : Bool) → length xs ≡ 3 → a ≡ get_or xs 0 a → b ≡ get_or xs 1 b
    → c ≡ get_or xs 2 c → s ≡ type_of (arg_of a) → t ≡ type_of (arg_of b) → u ≡ type_of (arg_of c) → r ≡ one_type s t u
    → r ≡ is_three (map arg_of xs)
are_three (x ∷ y ∷ z ∷ []) a b c s t u r l i j k p q w e = rw (sym i, sym j, sym k, sym p, sym q, sym w) e
are_three [] a b c s t u r l i j k p q w e = absurd (omega (arith, l))
are_three (x ∷ []) a b c s t u r l i j k p q w e = absurd (omega (arith, l))
are_three (x ∷ y ∷ []) a b c s t u r l i j k p q w e = absurd (omega (arith, l))
are_three (x ∷ y ∷ z ∷ v ∷ rest) a b c s t u r l i j k p q w e = absurd (omega (arith, l))

-- one number: its predicate is tested
pub one_tested : (preds : List Pred) (numbers : List ℕ) (ps : List PredOf) (p : Pred) (r : Bool) → length numbers ≡ 1
    → AreNumbered (map pred_of preds) numbers ps → p ≡ slice_index_or preds (slice_index_or numbers 0 0) p
    → r ≡ is_three (map arg_of p.args) → r ≡ is_one_of_three ps
one_tested preds numbers ps p r l h e t =
    let there : slice_get preds (slice_index_or numbers 0 0) ≡ Some p =
    slice_get_read preds (length preds) (slice_index_or numbers 0 0) p refl (one_within preds numbers ps h l) e in
    rw (one_numbered preds numbers ps p h l there) t
