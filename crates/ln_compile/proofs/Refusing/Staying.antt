-- What is accepted by weights is accepted.
use Rattle.std.proofs.Common.{ℕ, ◌≤◌, List, [], ◌∷◌, length, arith}
use Rattle.std.specs.List.{AllByRecursion}
use Rattle.ln_algebra.specs.Weights.{weighted_sum}
use Rattle.ln_tree.specs.Table.{PredOf, TableOf}
use Rattle.ln_bound.specs.Light.{most}
use Rattle.ln_bound.specs.Value.{weights}
use Rattle.ln_bound.proofs.Measures.LoadLaws.{old_nodes}
use Rattle.ln_poly.specs.Sparse.{terms_of}
use Rattle.ln_poly.proofs.Loads.Sizing.{light-root}
use Rattle.ln_compile.specs.Accepted.{Accepted, AreSound, IsHeavyFault, IsSound}
use Rattle.ln_compile.specs.Weighed.{AcceptedByWeight, AreSoundByWeight, IsFitPred, IsSoundByWeight}
use Rattle.ln_compile.proofs.Refusing.TextFits.{text-fits}

-- a predicate none of whose nodes has too large a weight isn't too large as a whole
whole-light : (p : PredOf) → IsFitPred p → IsSoundByWeight p → IsHeavyFault p → ⊥
whole-light p f s h =
    let l : weighted_sum (weights p.vars) (terms_of (length p.vars) h.poly) ≤ most =
    light-root p.vars (length p.lets) p.lets p.root h.poly f.lets f.root s.light h.normal in
    let k = h.heavy in
    absurd (omega (arith, l, k))

-- a predicate without a fault by weight has no fault
pub stays-sound : (p : PredOf) → IsFitPred p → IsSoundByWeight p → IsSound p
stays-sound p f s = record {
  light = old_nodes p.vars (length p.lets) p.lets p.root f.lets f.root s.light;
  few = s.few;
  whole = whole-light p f s;
  nonzero = s.nonzero;
  staged = s.staged;
}

stay-sound : (ps : List PredOf) → AllByRecursion IsFitPred ps → AreSoundByWeight ps → AreSound ps
stay-sound [] f s = tt
stay-sound (p ∷ ps) f s = (stays-sound p f.0 s.0, stay-sound ps f.1 s.1)

-- a source that is accepted by weight is accepted
pub stays-accepted : (bytes : List ℕ) (t : TableOf) → AcceptedByWeight bytes t → Accepted bytes t
stays-accepted bytes t a = record { text = a.text; sound = stay-sound t.preds (text-fits bytes t a.text) a.sound }
