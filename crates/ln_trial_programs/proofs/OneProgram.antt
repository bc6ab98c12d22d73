-- Lists of one, and the one program of a source.
use Rattle.std.proofs.Common.{◌≡◌, List, [], ◌∷◌, length, map, ap, sym, subst, arith}
use Rattle.std.proofs.Common.{get_or}
use Rattle.ln_tree.specs.declared.pred.Pred.{Pred}
use Rattle.ln_tree.specs.Table.{pred_of}
use Rattle.ln_code.specs.Part.{Part}
use Rattle.ln_compile.specs.Compiled.{AreProgramsOf}

-- a list of one is that item
pub one_item : {A : Type 0} (xs : List A) (x : A) → length xs ≡ 1 → x ≡ get_or xs 0 x → xs ≡ x ∷ []
one_item [] x n e = absurd (omega (arith, n))
one_item {A = A} (y ∷ []) x n e = ap (λ (z : A). z ∷ []) (sym e)
one_item (y ∷ z ∷ xs) x n e = absurd (omega (arith, n))

-- the one program of the one predicate is over its sites and variables
pub one_program : (preds : List Pred) (parts : List Part) (pred : Pred) (part : Part) → preds ≡ pred ∷ [] → parts ≡ part ∷ []
    → AreProgramsOf (map pred_of preds) parts → (part.shape.sites ≡ pred.shape.sites) × (part.shape.vars ≡ pred.shape.vars)
one_program preds parts pred part e f a =
    let one : AreProgramsOf (map pred_of (pred ∷ [])) parts = subst (λ (ps : List Pred). AreProgramsOf (map pred_of ps) parts) e a in
    let o : AreProgramsOf (map pred_of (pred ∷ [])) (part ∷ []) = subst (AreProgramsOf (map pred_of (pred ∷ []))) f one in
    (o.0.sites, o.0.vars)
