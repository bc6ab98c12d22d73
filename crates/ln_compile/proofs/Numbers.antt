-- Predicates by their numbers: the numbers are within, and each is that of the predicate in memory that stands for it.
use Rattle.std.proofs.Common.{◌≡◌, ℕ, ◌<◌, List, [], ◌∷◌, length, map, Some, option_map, ap, sym, ◌∙◌, subst, arith}
use Rattle.std.specs.Prelude.{All, slice_get, slice_index_or}
use Rattle.std.proofs.lemmas.List.{length-map}
use Rattle.std.proofs.lemmas.List.Elements.{All-nil, All-cons}
use Rattle.std.proofs.lemmas.Option.{same_Some, slice_get-map, slice_get_within}
use Rattle.ln_tree.specs.declared.pred.Pred.{Pred}
use Rattle.ln_tree.specs.Table.{PredOf, pred_of}
use Rattle.ln_compile.specs.Compiled.{AreNumbered}

-- a number that has a predicate is within
pub within_at : (ps : List Pred) (i : ℕ) (p : PredOf) → slice_get (map pred_of ps) i ≡ Some p → i < length ps
within_at ps i p e = subst (λ n. i < n) (length-map ps pred_of) (slice_get_within (map pred_of ps) i p e)

-- the predicate with its number
pub number_at : (ps : List Pred) (i : ℕ) (p : Pred) → slice_get ps i ≡ Some p → slice_get (map pred_of ps) i ≡ Some (pred_of p)
number_at ps i p e = slice_get-map pred_of ps i ∙ ap (option_map pred_of) e

-- and the predicate in memory with this number stands for it
pub same_at : (ps : List Pred) (i : ℕ) (p : Pred) (q : PredOf) → slice_get ps i ≡ Some p
    → slice_get (map pred_of ps) i ≡ Some q → q ≡ pred_of p
same_at ps i p q e f = sym (same_Some (pred_of p) q (sym (number_at ps i p e) ∙ f))

-- what holds of a predicate in memory holds of the one with its number
pub holds_at : (P : PredOf → Type 0) (ps : List Pred) (i : ℕ) (p : Pred) → slice_get ps i ≡ Some p → P (pred_of p) → (q : PredOf)
    → slice_get (map pred_of ps) i ≡ Some q → P q
holds_at P ps i p e h q f = subst P (sym (same_at ps i p q e f)) h

-- the numbers are within
pub numbers_within : (ps : List Pred) (is : List ℕ) (preds : List PredOf) → AreNumbered (map pred_of ps) is preds
    → All (λ i. i < length ps) is
numbers_within ps [] preds h = All-nil (λ i. i < length ps)
numbers_within ps (i ∷ is) [] h = absurd h
numbers_within ps (i ∷ is) (p ∷ preds) h = All-cons (λ i. i < length ps) i is (within_at ps i p h.0) (numbers_within ps is preds h.1)

-- the one number is within, and is that of the one predicate
pub one_within : (ps : List Pred) (numbers : List ℕ) (preds : List PredOf) → AreNumbered (map pred_of ps) numbers preds
    → length numbers ≡ 1 → slice_index_or numbers 0 0 < length ps
one_within ps [] preds h l = absurd (omega (arith, l))
one_within ps (i ∷ []) [] h l = absurd h
one_within ps (i ∷ []) (p ∷ rest) h l = within_at ps i p h.0
one_within ps (i ∷ j ∷ rest) preds h l = absurd (omega (arith, l))

-- where there is one number, its predicate is the only one given
pub one_numbered : (ps : List Pred) (numbers : List ℕ) (preds : List PredOf) (p : Pred)
    → AreNumbered (map pred_of ps) numbers preds → length numbers ≡ 1 → slice_get ps (slice_index_or numbers 0 0) ≡ Some p
    → preds ≡ pred_of p ∷ []
one_numbered ps [] preds p h l e = absurd (omega (arith, l))
one_numbered ps (i ∷ []) [] p h l e = absurd h
one_numbered ps (i ∷ []) (q ∷ []) p h l e = ap (λ x. x ∷ []) (same_at ps i p q e h.0)
one_numbered ps (i ∷ []) (q ∷ r ∷ rest) p h l e = absurd h.1
one_numbered ps (i ∷ j ∷ rest) preds p h l e = absurd (omega (arith, l))
