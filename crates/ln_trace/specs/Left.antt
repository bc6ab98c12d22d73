-- Defines the rest of the list of an order after a place in it.
use Rattle.std.specs.Prelude.{ℕ, ◌≤◌, List, length, map, take, drop, slice_index_or, []}
use Rattle.ln_tree.specs.Exps.{Pairs}
use Rattle.ln_order.specs.Prefixes.{segments_from}
use Rattle.ln_stage.specs.Staged.{Staged, segment_of}
use Rattle.ln_trace.specs.declared.pointer.Spot.{Spot}

-- the exponents of the blocks with these numbers
abbrev pub exps_at : Staged → List ℕ → List Pairs
exps_at st list = map (λ i. slice_index_or st.exps i []) list

-- the remaining numbers
abbrev pub numbers_at : Staged → List ℕ → ℕ → ℕ → List ℕ
numbers_at st places sites at = drop at (segments_from (segment_of st) places sites)

-- the remaining members
abbrev pub left_at : Staged → List ℕ → Spot → List Pairs
left_at st places p = exps_at st (numbers_at st places p.sites p.at)

-- the place is one in the segment of a prefix of the order, or its end
pub record IsSpot (st : Staged) (places : List ℕ) (p : Spot) : Type 0 where
  pub sites : p.sites ≤ length places
  pub at : p.at ≤ length (segment_of st (take p.sites places))
