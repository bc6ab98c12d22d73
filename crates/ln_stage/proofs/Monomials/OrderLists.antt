-- The lists of all orders by numbers of vectors: that of an order is its stage list, and vectors that are equal have the same lists.
use Rattle.std.proofs.Common.{◌≡◌, ℕ, ◌<◌, List, [], ◌∷◌, length, map, get_or, ◌∙◌, ap, arith, subst, sym, refl}
use Rattle.std.proofs.Math.ListN.{get_or-map as at-map}
use Rattle.std.proofs.lemmas.List.{get_or-map, length-map}
use Rattle.ln_algebra.specs.Orders.{Before, Rank}
use Rattle.ln_algebra.specs.Stage.{IsMonomial, IsStageListBy}
use Rattle.ln_algebra.specs.Terms.{IsNormalOf}
use Rattle.ln_algebra.specs.Tree.{Tree}
use Rattle.ln_algebra.proofs.Walking.Stages.{stage_list-to}
use Rattle.ln_tree.specs.declared.shape.VarInfo.{VarInfo}
use Rattle.ln_tree.specs.Exps.{Pairs, vector}
use Rattle.ln_order.specs.Orders.{IsOrderOf, orders_of}
use Rattle.ln_order.specs.Rows.{OrderStages}
use Rattle.ln_order.specs.Sites.{sites_of}
use Rattle.ln_order.proofs.Listing.Placing.{place-of}
use Rattle.ln_poly.specs.Sparse.{Sparse, terms_of}
use Rattle.ln_stage.specs.StageList.{IsMonomialOf}
use Rattle.ln_stage.specs.Lists.{AreStageListsIn}
use Rattle.ln_stage.specs.Staged.{Staged, block_vector, vectors_of}
use Rattle.ln_stage.proofs.Monomials.LawLemmas.{of_tree, to_tree}

-- where the lists L of all orders, with a vector for each number, are the stage lists of a normal polynomial, that of an order is the stage
-- list of the expression
pub order-stages : (rank : Rank) (sites : ℕ) (vars : List VarInfo) (g : ℕ → List ℕ) (L : List ℕ → List ℕ) (e : Tree) (f : Sparse)
    (places list : List ℕ) → IsNormalOf (length vars) e (terms_of (length vars) f)
    → AreStageListsIn rank sites vars f (map (λ ks. map g ks) (map L (orders_of sites))) → IsOrderOf sites places → list ≡ L places
    → OrderStages rank vars e places (map g list)
order-stages rank sites vars g L e f places list normal c o l =
    let n : ℕ = length vars in
    let Here : List ℕ → List (List ℕ) → Type 0 =
    λ q ls. IsStageListBy (Before rank (sites_of vars q)) n (sites_of vars q) (IsMonomialOf n f) ls in
    let lists : List (List ℕ) = map L (orders_of sites) in
    let i = place-of sites places o in
    let b : i.number < length lists = omega (arith, i.within, length-map (orders_of sites) L) in
    let own : get_or lists i.number [] ≡ L places = get_or-map L (orders_of sites) i.number [] [] i.within ∙ ap L i.here in
    let here : get_or (map (λ ks. map g ks) lists) i.number [] ≡ map g list =
    get_or-map (λ ks. map g ks) lists i.number [] [] b ∙ ap (λ ks. map g ks) (own ∙ sym l) in
    let s = c.each i.number (omega (arith, b, length-map lists (λ ks. map g ks))) in
    let t : Here places (get_or (map (λ ks. map g ks) lists) i.number []) =
    subst (λ (q : List ℕ). Here q (get_or (map (λ ks. map g ks) lists) i.number [])) i.here s in
    stage_list-to (Before rank (sites_of vars places)) n (sites_of vars places) (IsMonomialOf n f) (IsMonomial n e)
    (to_tree n e f normal) (of_tree n e f normal) (map g list) (subst (λ (q : List (List ℕ)). Here places q) here t)

-- ---- exponents with the same vectors
same-at : (n : ℕ) (exps' exps : List Pairs) → map (vector n) exps' ≡ map (vector n) exps → (i : ℕ) → block_vector n exps' i ≡ block_vector n exps i
same-at n exps' exps e i = sym (at-map (vector n) exps' i []) ∙ ap (λ z. get_or z i (vector n [])) e ∙ at-map (vector n) exps i []

map-same : {A B : Type 0} (g h : A → B) (xs : List A) → ((x : A) → g x ≡ h x) → map g xs ≡ map h xs
map-same g h [] e = refl
map-same g h (x ∷ xs) e = let r : map g xs ≡ map h xs = map-same g h xs e in ap (λ z. z ∷ map g xs) (e x) ∙ ap (λ z. h x ∷ z) r

-- exponents with the vectors of the stages have the stages' lists
pub same-vectors : (n : ℕ) (st : Staged) (exps : List Pairs) → map (vector n) exps ≡ map (vector n) st.exps
    → map (λ list. map (block_vector n exps) list) st.lists ≡ vectors_of n st
same-vectors n st exps e =
    map-same (λ list. map (block_vector n exps) list) (λ list. map (block_vector n st.exps) list) st.lists
    (λ list. map-same (block_vector n exps) (block_vector n st.exps) list (same-at n exps st.exps e))
