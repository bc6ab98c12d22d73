-- What is found at a prefix: its segment, and whether the cut ended the lists there.
use Rattle.std.specs.Prelude.{◌≡◌, ℕ, ◌<◌, ◌≤◌, Bool, false, List, [], ◌∷◌, length, take, slice_index_or}
use Rattle.std.proofs.Common.{zero, suc}
use Rattle.std.specs.List.{range_with_len}
use Rattle.ln_algebra.specs.Vector.{zeros}
use Rattle.ln_tree.specs.declared.shape.VarInfo.{VarInfo}
use Rattle.ln_poly.specs.Sparse.{Sparse}
use Rattle.ln_order.specs.Prefixes.{prefixes_of}
use Rattle.ln_order.specs.Sites.{ranking_of}
use Rattle.ln_stage.specs.FirstSight.{prefix_walk, shared_count}
use Rattle.ln_stage.specs.Kept.{IsStep, all_rows, numbers_by, tallied_by}
use Rattle.ln_stage.specs.SiteWalk.{front_walk}
use Rattle.ln_stage.specs.Tally.{Tallied}

-- the segment of a prefix, as the walk lists it
unfoldable pub segment_at : List VarInfo → Sparse → List ℕ → List (List ℕ)
segment_at vars f p = prefix_walk 127 vars (all_rows (length vars) f) p

-- is the cut in the segment of the prefix or in one before it?
unfoldable pub is_cut_at : List VarInfo → Sparse → List ℕ → Bool
is_cut_at vars f p = (front_walk 127 vars (all_rows (length vars) f) p).1

-- where `cut` says this of each prefix, is it in one before it?
abbrev pub cut_before : (List ℕ → Bool) → List ℕ → Bool
cut_before cut [] = false
cut_before cut (x ∷ p) = cut (take (length p) (x ∷ p))

-- what is kept by length has this for the first n prefixes of p
abbrev pub AreCuts : (List ℕ → Bool) → ℕ → List ℕ → List Bool → Type 0
AreCuts cut n p cuts = (j : ℕ) → j < n → slice_index_or cuts j false ≡ cut (take j p)

-- what is kept for the length before n
abbrev pub cut_in : List Bool → ℕ → Bool
cut_in cuts zero = false
cut_in cuts (suc n) = slice_index_or cuts n false

-- and at the first of these prefixes
abbrev pub AreCutsFor : (List ℕ → Bool) → List (List ℕ) → List Bool → Type 0
AreCutsFor cut [] cuts = Unit {0}
AreCutsFor cut (p ∷ ps) cuts = AreCuts cut (length p) p cuts

-- a walk at a prefix starts from these: the variables of its sites by rising infinitesimal, the places of all terms, and no exponent
pub record IsStart (vars : List VarInfo) (f : Sparse) (p vs kept exps : List ℕ) : Type 0 where
  pub ranking : vs ≡ ranking_of vars p
  pub all : kept ≡ range_with_len 0 (length f)
  pub none : exps ≡ zeros (length vars)
  pub step : IsStep f vs kept exps
  pub few : length exps ≤ 168
  pub few_vars : length vs ≤ 168

-- all prefixes of orders of k sites are listed, where L has a list at each: these are the numbers in each list, how many there are in
-- all lists of orders, at most `most`, and what is kept
pub record AreListed (L : List ℕ → List (List ℕ)) (k n : ℕ) (f : Sparse) (t : Tallied) (most : ℕ) (segs : List (List ℕ)) (c : ℕ)
    (u : Tallied) : Type 0 where
  pub segments : segs ≡ numbers_by L n f t (prefixes_of k)
  pub count : c ≡ shared_count k L (prefixes_of k)
  pub within : c ≤ most
  pub tally : u ≡ tallied_by L n f t (prefixes_of k)
