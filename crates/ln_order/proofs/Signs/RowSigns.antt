-- A row in range: its indices differ, its stages are those of the order of its sites, and it has one sign.
use Rattle.std.proofs.Common.{◌≡◌, ◌⊎◌, inl, inr, ℕ, ◌<◌, List, [], ◌∷◌, length, refl, sym, arith, ℤ, pos, ◌≤ℤ◌, unsigned_abs, Option}
use Rattle.std.specs.Prelude.{All, Some}
use Rattle.std.proofs.lemmas.Bool.{cases_order}
use Rattle.std.proofs.lemmas.Int.{ints}
use Rattle.ln_algebra.proofs.Ordering.Admissible.{both-admissible}
use Rattle.ln_algebra.proofs.Ordering.First.{first-or-zero}
use Rattle.ln_algebra.proofs.Ordering.Unique.{first-unique-in, sign-unique-in}
use Rattle.ln_algebra.specs.Earlier.{Earlier, IsOver, IsSortedIn, Sites}
use Rattle.ln_algebra.specs.Orders.{Before, ByDegree, BySmallest, Rank}
use Rattle.ln_algebra.specs.Sign.{IsFirstIn, IsSignIn, perturbed, sign_of}
use Rattle.ln_algebra.specs.Stage.{IsStageIn, IsStageListIn}
use Rattle.ln_algebra.specs.Tree.{Tree}
use Rattle.ln_tree.specs.Row.{values}
use Rattle.ln_order.specs.Order.{index_at}
use Rattle.ln_order.specs.Rows.{OrdersDiffer, RowFirstIsUnique, RowSignExists, RowSignIsUnique, RowsDiffer, StagesAreThoseOfRows}
use Rattle.ln_order.specs.Sites.{row_sites, site_of, sites_of}
use Rattle.ln_order.proofs.Signs.RowsLemmas.{orders-rows}
use Rattle.ln_order.proofs.Signs.SitesLemmas.{each-there, kept, place-one}

-- indices are from 0 on
same_index : (y z : ℤ) → pos 0 ≤ℤ y → pos 0 ≤ℤ z → unsigned_abs y ≡ unsigned_abs z → y ≡ z
same_index y z a b e = omega (arith, ints, a, b, e)

-- the indices of a row in range differ
pub rows-differ : RowsDiffer
rows-differ s row r = record { differ = λ v w a b p q e. one a b (below v a p) (below w b q) e } where
  below : (v t : ℕ) → site_of s.vars v ≡ Some t → t < length row.index
  below v t q = omega (arith, (kept s.sites s.vars s.kept).below v t q, r.size)

  one : (a b : ℕ) → a < length row.index → b < length row.index → unsigned_abs (index_at row.index a) ≡ unsigned_abs (index_at row.index b) → a ≡ b
  one a b h k e = by_case (cases_order a b) where
    same : index_at row.index a ≡ index_at row.index b
    same = same_index (index_at row.index a) (index_at row.index b) (r.indices a (pos 0) h).0 (r.indices b (pos 0) k).0 e

    by_case : (a ≡ b) ⊎ ((a < b) ⊎ (b < a)) → a ≡ b
    by_case (inl q) = q
    by_case (inr (inl l)) = absurd (r.differ a b (pos 0) l k same)
    by_case (inr (inr l)) = absurd (r.differ b a (pos 0) l h (sym same))

-- ---- the same sites with other indices, which give the same order of vectors
module _ (site : ℕ → Option ℕ) (i j : ℕ → ℕ) where
  abbrev From : Sites
  From = record { site = site; index = i }

  abbrev To : Sites
  To = record { site = site; index = j }

  -- vectors over the variables of sites are the same
  over-moves : (n : ℕ) (a : List ℕ) → IsOver n From a → IsOver n To a
  over-moves n a o = record { size = o.size; of_sites = o.of_sites }

  -- what keeps Earlier keeps either order
  before-moves : ((a b : List ℕ) → Earlier From a b → Earlier To a b) → (rank : Rank) (a b : List ℕ) → Before rank From a b → Before rank To a b
  before-moves h BySmallest a b l = h a b l
  before-moves h ByDegree a b (inl l) = inl l
  before-moves h ByDegree a b (inr l) = inr (l.0, h a b l.1)

-- lists in one order are lists in another that holds wherever it does
pub order-moves : (order other : List ℕ → List ℕ → Type 0) → ((a b : List ℕ) → order a b → other a b) → (list : List (List ℕ))
    → IsSortedIn order list → IsSortedIn other list
order-moves order other h [] o = tt
order-moves order other h (a ∷ list) o = (λ b k. h a b (o.0 b k), order-moves order other h list o.1)

-- so are stages, where the one order of vectors holds wherever the other does
stage-moves : (order other : List ℕ → List ℕ → Type 0) (site : ℕ → Option ℕ) (i j : ℕ → ℕ) (n : ℕ) (e : Tree) (a : List ℕ) →
    ((a b : List ℕ) → other a b → order a b) → IsStageIn order n (From site i j) e a → IsStageIn other n (To site i j) e a
stage-moves order other site i j n e a h s = record {
  over = over-moves site i j n a s.over;
  covered = s.covered;
  before_cut = λ b o l k. s.before_cut b (over-moves site j i n b o) l (h b a k);
}

-- and stage lists, where the two are the same
stage_list-moves : (order other : List ℕ → List ℕ → Type 0) (site : ℕ → Option ℕ) (i j : ℕ → ℕ) (n : ℕ) (e : Tree) (list : List (List ℕ)) →
    ((a b : List ℕ) → order a b → other a b) → ((a b : List ℕ) → other a b → order a b) →
    IsStageListIn order n (From site i j) e list → IsStageListIn other n (To site i j) e list
stage_list-moves order other site i j n e list to from l = record {
  stages = λ a k. stage-moves order other site i j n e a from (l.stages a k);
  all = λ a s. l.all a (stage-moves other order site j i n e a to s);
  in_order = order-moves order other to list l.in_order;
}

-- the stage list of the order of a row's sites is that of the row's own indices
pub row-stages : StagesAreThoseOfRows
row-stages rank s row places e list r p l =
    let whole : All (λ z. pos 0 ≤ℤ z) row.index = λ k d h. (r.indices k d h).0 in
    let same = λ (a b : List ℕ). orders-rows s.sites s.vars row.index places a b s.kept r.size whole p in
    let i : ℕ → ℕ = (sites_of s.vars places).index in
    let j : ℕ → ℕ = (row_sites s.vars row.index).index in
    stage_list-moves (Before rank (sites_of s.vars places)) (Before rank (row_sites s.vars row.index)) (site_of s.vars) i j (length s.vars) e list
    (before-moves (site_of s.vars) i j (λ a b. (same a b).1) rank) (before-moves (site_of s.vars) j i (λ a b. (same a b).0) rank) l

-- the sites of an order have places of their own
pub orders-differ : OrdersDiffer
orders-differ k vars o h p = record {
  differ = λ v w s t a b e. place-one o s t (each-there k o s p ((kept k vars h).below v s a)) (each-there k o t p ((kept k vars h).below w t b)) e;
}

-- a row in range has one first vector
pub row_first-unique : RowFirstIsUnique
row_first-unique rank s e row a b r =
    let sites : Sites = row_sites s.vars row.index in
    first-unique-in (length s.vars) sites (Before rank sites) (both-admissible rank (length s.vars) sites (rows-differ s row r)) (values row.values) e a b

-- and one sign
pub row_sign-unique : RowSignIsUnique
row_sign-unique rank s e row y z r =
    let sites : Sites = row_sites s.vars row.index in
    sign-unique-in (length s.vars) sites (Before rank sites) (both-admissible rank (length s.vars) sites (rows-differ s row r)) (values row.values) e y z

-- an expression has a sign in any order: that of the first coefficient that isn't 0, or 0 where all are
sign-exists : (n : ℕ) (sites : Sites) (before : List ℕ → List ℕ → Type 0) (x : ℕ → ℤ) (e : Tree) →
    ((a : List ℕ) × IsFirstIn before n sites x e a) ⊎ ((b : List ℕ) → IsOver n sites b → perturbed sites x e b ≡ pos 0) →
    (y : ℤ) × IsSignIn before n sites x e y
sign-exists n sites before x e (inl f) = (sign_of (perturbed sites x e f.0), inl (f.0, f.1, refl))
sign-exists n sites before x e (inr all) = (pos 0, inr ((λ a f. f.nonzero (all a f.over)), refl))

-- so a row in range has one
pub row_sign-exists : RowSignExists
row_sign-exists rank s e row r =
    let sites : Sites = row_sites s.vars row.index in
    sign-exists (length s.vars) sites (Before rank sites) (values row.values) e
    (first-or-zero (length s.vars) sites (Before rank sites) (both-admissible rank (length s.vars) sites (rows-differ s row r)) (values row.values) e)
