-- What is kept while stages are listed.
use Rattle.std.specs.Prelude.{◌≡◌, ℕ, ◌+◌, ◌<◌, ◌⊎◌, ◌==◌, List, [], ◌∷◌, ◌++◌, length, if◌then◌else◌}
use Rattle.std.specs.List.{position_or_len}
use Rattle.ln_algebra.specs.Walk.{Found}
use Rattle.ln_tree.specs.Exps.{Pairs, same_pairs}
use Rattle.ln_poly.specs.Packed.{pairs_from}
use Rattle.ln_poly.specs.Sparse.{Sparse}
use Rattle.ln_stage.specs.Lists.{covering}
use Rattle.ln_stage.specs.declared.stop.StageStop.{StageStop}
use Rattle.ln_stage.specs.declared.stop.StageStop.TheVariants.{Zero, Stages, NoMemory}

-- the distinct exponents so far in order of first sight, the numbers of the list at hand, how many stages so far in all lists,
-- the weight of the distinct ones, and the limits of count and weight
pub record Tallied : Type 0 where
  pub exps : List Pairs
  pub list : List ℕ
  pub count : ℕ
  pub weight : ℕ
  pub most : ℕ
  pub heavy : ℕ

-- the number of these exponents, which is the next one where they are new
abbrev pub number_in : List Pairs → Pairs → ℕ
number_in exps a = position_or_len (same_pairs a) exps

-- these exponents at the end, unless they are there already
abbrev pub put_exps : List Pairs → Pairs → List Pairs
put_exps [] a = a ∷ []
put_exps (b ∷ bs) a = if same_pairs a b then b ∷ bs else b ∷ put_exps bs a

-- one stage more, which this many monomials cover
abbrev pub see : ℕ → Tallied → Pairs → Tallied
see cover t a = record {
  exps = put_exps t.exps a;
  list = t.list ++ number_in t.exps a ∷ [];
  count = t.count + 1;
  weight = if number_in t.exps a == length t.exps then t.weight + cover else t.weight;
  most = t.most;
  heavy = t.heavy;
}

-- the count exceeds its limit, or the weight does
abbrev pub IsOver : Tallied → Type 0
IsOver t = (t.most < t.count) ⊎ (t.heavy < t.weight)

-- the pairs of a vector: its variables with an exponent that isn't 0
abbrev pub pairs_of : List ℕ → Pairs
pairs_of a = pairs_from 0 a

-- several stages more
abbrev pub see_all : ℕ → Sparse → Tallied → List (List ℕ) → Tallied
see_all n f t [] = t
see_all n f t (a ∷ as') = see_all n f (see (covering n f a) t (pairs_of a)) as'

-- what is found after u ends as what is found after t does: the same is kept, and the cut ends both or neither
pub record EndsAs (n : ℕ) (f : Sparse) (u : Tallied) (rest : Found) (t : Tallied) (all : Found) : Type 0 where
  pub seen : see_all n f u rest.0 ≡ see_all n f t all.0
  pub cut : rest.1 ≡ all.1

-- a new list is begun
abbrev pub next_list : Tallied → Tallied
next_list t = record { exps = t.exps; list = []; count = t.count; weight = t.weight; most = t.most; heavy = t.heavy }

-- listing stopped: only because memory ran out, or where this is so
abbrev pub IsStoppedBy : StageStop → Type 0 → Type 0
IsStoppedBy Zero P = ⊥
IsStoppedBy Stages P = P
IsStoppedBy (NoMemory _) P = Unit {0}
