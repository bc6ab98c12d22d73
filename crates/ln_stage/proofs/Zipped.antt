-- What is said of the predicates of a table, one by one, as a loop goes over them.
use Rattle.std.proofs.Common.{◌≡◌, ℕ, ◌+◌, ◌<◌, zero, suc, List, [], ◌∷◌, ◌++◌, map, take, get_or, ap, sym, subst, ◌∙◌, arith}
use Rattle.std.specs.Prelude.{length, slice_get, Some}
use Rattle.std.specs.List.{AllZip}
use Rattle.std.proofs.lemmas.Slice.Zip.{all_zipped_more}
use Rattle.std.proofs.lemmas.List.{map-append, take_more}
use Rattle.ln_tree.specs.declared.pred.Pred.{Pred}
use Rattle.ln_tree.specs.Table.{PredOf, pred_of}
use Rattle.ln_stage.specs.Sound.{AreSound, IsSound}

front-more : (preds : List Pred) (i : ℕ) (p : Pred) → i < length preds → p ≡ get_or preds i p
    → map pred_of (take (i + 1) preds) ≡ map pred_of (take i preds) ++ pred_of p ∷ []
front-more preds i p h e = ap (map pred_of) (take_more preds i p h ∙ ap (λ q. take i preds ++ q ∷ []) (sym e)) ∙ map-append pred_of (take i preds) (p ∷ [])

-- the step of a loop over the predicates: one thing more, of the next predicate
pub zipped-more : {X : Type 0} (R : PredOf → X → Type 0) (preds : List Pred) (i : ℕ) (p : Pred) (xs ys : List X) (x : X) → i < length preds
    → p ≡ get_or preds i p → ys ≡ xs ++ x ∷ [] → R (pred_of p) x → AllZip R (map pred_of (take i preds)) xs → AllZip R (map pred_of (take (i + 1) preds)) ys
zipped-more R preds i p xs ys x h e q r a =
    let f : map pred_of (take i preds) ++ pred_of p ∷ [] ≡ map pred_of (take (i + 1) preds) = sym (front-more preds i p h e) in
    subst (λ (ps : List PredOf). AllZip R ps ys) f (rw q (all_zipped_more R (map pred_of (take i preds)) xs (pred_of p) x a r))

-- what is said of the predicates, of one by its number
pub zipped-at : {X : Type 0} (R : PredOf → X → Type 0) (preds : List Pred) (xs : List X) (i : ℕ) (p : Pred) (x : X) → AllZip R (map pred_of preds) xs
    → i < length preds → p ≡ get_or preds i p → x ≡ get_or xs i x → R (pred_of p) x
zipped-at R [] xs i p x a h e f = absurd (omega (arith, h))
zipped-at R (q ∷ ps) [] i p x a h e f = absurd a
zipped-at R (q ∷ ps) (y ∷ ys) zero p x a h e f = subst (λ (r : Pred). R (pred_of r) x) (sym e) (subst (R (pred_of q)) (sym f) a.0)
zipped-at R (q ∷ ps) (y ∷ ys) (suc i) p x a h e f = zipped-at R ps ys i p x a.1 (omega (arith, h)) e f

-- each predicate of an accepted source has no fault
pub sound-of : (ps : List Pred) (k : ℕ) (p : Pred) → AreSound (map pred_of ps) → slice_get ps k ≡ Some p → IsSound (pred_of p)
sound-of [] k p h e = cc
sound-of (q ∷ ps) zero p h e = let z : q ≡ p = cc in subst (λ (x : Pred). IsSound (pred_of x)) z h.0
sound-of (q ∷ ps) (suc k) p h e = sound-of ps k p h.1 e
