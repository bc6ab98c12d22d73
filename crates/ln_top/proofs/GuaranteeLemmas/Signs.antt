-- The perturbed sign of a predicate of a table is that of the predicate that the words declare, where variables and root agree.
use Rattle.std.proofs.Common.{◌≡◌, ℕ, zero, suc, length, ℤ, pos, Option, None, refl, ap, sym, ◌∙◌, subst}
use Rattle.std.specs.Prelude.{List, [], ◌∷◌, map, slice_index_or, unsigned_abs}
use Rattle.std.proofs.lemmas.List.{length-map}
use Rattle.ln_base.specs.declared.sign.Sign.{Sign}
use Rattle.ln_algebra.specs.Earlier.{Sites}
use Rattle.ln_algebra.specs.Sign.{IsPerturbedSign}
use Rattle.ln_algebra.specs.Tree.{Tree}
use Rattle.ln_algebra.specs.Orders.{BySmallest}
use Rattle.ln_tree.specs.declared.shape.VarInfo.{VarInfo}
use Rattle.ln_tree.specs.Table.{PredOf}
use Rattle.ln_due.specs.Due.{sign_number}
use Rattle.ln_order.specs.Order.{index_at}
use Rattle.ln_order.specs.Sites.{row_sites, site_of}
use Rattle.ln_compile.specs.Accepted.{root_of}
use Rattle.ln_top.specs.Perturbed.{IsSignOn}
use Rattle.ln_top.specs.Guarantee.{HasSign, Predicate, sites_after}

-- the predicate of the table has the variables and the root of the declared one
pub record Agrees (q : PredOf) (p : Predicate) : Type 0 where
  pub sites : map (λ (i : VarInfo). i.site) q.vars ≡ sites_after 0 p.args
  pub root : root_of q ≡ p.root

site_at : (vars : List VarInfo) (v : ℕ) → site_of vars v ≡ slice_index_or (map (λ (i : VarInfo). i.site) vars) v None
site_at [] v = refl
site_at (i ∷ is) zero = refl
site_at (i ∷ is) (suc v) = site_at is v

index_is : (ns : List ℕ) (k : ℕ) → unsigned_abs (index_at (map pos ns) k) ≡ slice_index_or ns k 0
index_is [] k = refl
index_is (n ∷ ns) zero = refl
index_is (n ∷ ns) (suc k) = index_is ns k

-- so its perturbed sign is the declared one's
pub sign_there : (q : PredOf) (p : Predicate) (ns : List ℕ) (zs : List ℤ) (sign : Sign) → Agrees q p
    → IsSignOn BySmallest q (record { index = map pos ns; values = zs }) sign → HasSign p ns zs (sign_number sign)
sign_there q p ns zs sign a h =
    let n : length q.vars ≡ length (sites_after 0 p.args) = sym (length-map q.vars (λ (i : VarInfo). i.site)) ∙ ap length a.sites in
    let site : (v : ℕ) → site_of q.vars v ≡ slice_index_or (sites_after 0 p.args) v None = λ v. site_at q.vars v
    ∙ ap (λ (xs : List (Option ℕ)). slice_index_or xs v None) a.sites in
    let sites : row_sites q.vars (map pos ns) ≡ record { site = λ v. slice_index_or (sites_after 0 p.args) v None; index = λ k. slice_index_or ns k 0 } =
    (λ i. record { site = λ v. site v i; index = λ k. index_is ns k i }) in
    subst (λ (e : Tree). IsPerturbedSign (length (sites_after 0 p.args))
    (record { site = λ v. slice_index_or (sites_after 0 p.args) v None; index = λ k. slice_index_or ns k 0 })
    (λ v. slice_index_or zs v (pos 0)) e (sign_number sign)) a.root
    (subst (λ (s : Sites). IsPerturbedSign (length (sites_after 0 p.args)) s (λ v. slice_index_or zs v (pos 0)) (root_of q) (sign_number sign)) sites
    (subst (λ (m : ℕ). IsPerturbedSign m (row_sites q.vars (map pos ns)) (λ v. slice_index_or zs v (pos 0)) (root_of q) (sign_number sign)) n h))
