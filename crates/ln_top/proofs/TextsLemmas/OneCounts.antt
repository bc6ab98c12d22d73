-- The stage count of a predicate is one, and so is what `check` says.
use Rattle.std.proofs.Common.{◌≡◌, ℕ, ◌<◌, List, [], ◌∷◌, ◌++◌, map, length, refl, ap, sym, ◌∙◌, subst, get_or, true}
use Rattle.std.specs.Prelude.{slice_index_or}
use Rattle.std.proofs.lemmas.List.{ext_get_or}
use Rattle.std.proofs.lemmas.List.Elements.{Contains-get_or}
use Rattle.ln_algebra.specs.Earlier.{IndicesDiffer}
use Rattle.ln_algebra.proofs.Ordering.Unique.{stage_list-unique}
use Rattle.ln_tree.specs.declared.pred.Pred.{Pred}
use Rattle.ln_tree.specs.declared.shape.VarInfo.{VarInfo}
use Rattle.ln_tree.specs.Table.{pred_of}
use Rattle.ln_tree.specs.Variables.{is_laid_out}
use Rattle.ln_order.specs.Orders.{IsOrderOf, orders_of}
use Rattle.ln_order.specs.Sites.{sites_of}
use Rattle.ln_order.proofs.Signs.SitesLemmas.{each-there, kept, place-one}
use Rattle.ln_order.proofs.Listing.OrdersLemmas.{member-is}
use Rattle.ln_poly.specs.Sparse.{Sparse}
use Rattle.ln_poly.specs.Expansion.{IsNormal}
use Rattle.ln_stage.specs.Lists.{AreStageLists, stage_count}
use Rattle.ln_stage.proofs.Monomials.LawLemmas.{lists-of-trees}
use Rattle.ln_compile.specs.Accepted.{root_of}
use Rattle.ln_compile.specs.Compiled.{IsStageCount}
use Rattle.ln_top.specs.Frame.Said.{line}
use Rattle.ln_top.specs.Texts.Check.{AreCounts, count_text}
use Rattle.ln_top.specs.Texts.Check as counts

-- ---- stage counts
-- the sites of an order differ in their places
order_differs : (sites : ℕ) (vars : List VarInfo) (order : List ℕ) → is_laid_out sites vars ≡ true → IsOrderOf sites order
    → IndicesDiffer (sites_of vars order)
order_differs sites vars order laid o = record {
  differ =
      λ v w s t a b e. place-one order s t (each-there sites order s o ((kept sites vars laid).below v s a))
      (each-there sites order t o ((kept sites vars laid).below w t b)) e;
}

module _ (p : Pred) (f g : Sparse) (h : IsNormal (length p.shape.vars) (root_of (pred_of p)) f)
    (k : IsNormal (length p.shape.vars) (root_of (pred_of p)) g) where
  lists_one : (xs ys : List (List (List ℕ))) → AreStageLists p.shape.sites p.shape.vars f xs
      → AreStageLists p.shape.sites p.shape.vars g ys → xs ≡ ys
  lists_one xs ys l m = ext_get_or [] xs ys (l.size ∙ sym m.size) one
    where
      order : ℕ → List ℕ
      order j = slice_index_or (orders_of p.shape.sites) j []

      one : (j : ℕ) → j < length xs → get_or xs j [] ≡ get_or ys j []
      one j i =
          let is = member-is p.shape.sites (order j) (Contains-get_or (orders_of p.shape.sites) j []
          (subst (λ (n : ℕ). j < n) l.size i)) in
          let differ = order_differs p.shape.sites p.shape.vars (order j) p.shape.kept is in
          let left = (lists-of-trees (length p.shape.vars) (sites_of p.shape.vars (order j)) (root_of (pred_of p)) f
          (get_or xs j []) h.normal).0 (l.each j i) in
          let right = (lists-of-trees (length p.shape.vars) (sites_of p.shape.vars (order j)) (root_of (pred_of p)) g
          (get_or ys j []) k.normal).0 (m.each j (subst (λ (n : ℕ). j < n) (l.size ∙ sym m.size) i)) in
          stage_list-unique (length p.shape.vars) (sites_of p.shape.vars (order j)) (root_of (pred_of p)) (get_or xs j [])
          (get_or ys j []) differ left right

one_count : (p : Pred) (m n : ℕ) → IsStageCount (pred_of p) m → IsStageCount (pred_of p) n → m ≡ n
one_count p m n c d =
    c.count ∙ ap stage_count (lists_one p c.poly d.poly c.normal d.normal c.lists d.lists c.are_lists d.are_lists) ∙ sym d.count

-- the predicates of a table require one text
pub one_counts : (ps : List Pred) {a b : List ℕ} → AreCounts (map pred_of ps) a → AreCounts (map pred_of ps) b → a ≡ b
one_counts [] counts.none counts.none = refl
one_counts (p ∷ ps) (counts.more q qs m xs c a) (counts.more r rs n ys d b) =
    ap (λ z. line (count_text (pred_of p) z) ++ xs) (one_count p m n c d) ∙ ap (λ zs. line (count_text (pred_of p) n) ++ zs)
    (one_counts ps a b)
