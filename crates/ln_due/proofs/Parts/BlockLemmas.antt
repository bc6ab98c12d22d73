-- The blocks of a list have the perturbed coefficients at their stages.
use Rattle.std.proofs.Common.{◌≡◌, ℕ, ◌<◌, zero, suc, List, [], ◌∷◌, length, get_or, refl, sym, ◌∙◌, ap, arith, subst, inl, inr}
use Rattle.std.specs.Prelude.{All, Some, slice_get}
use Rattle.std.proofs.Math.IntN.{ℤ}
use Rattle.std.proofs.lemmas.List.{get_or-map}
use Rattle.std.proofs.lemmas.List.Elements.{All-contains, All-head, All-tail}
use Rattle.std.proofs.lemmas.Option.{slice_get-get_or}
use Rattle.ln_algebra.proofs.Vectors.Zeros.{derived-zeros}
use Rattle.ln_algebra.specs.Earlier.{IsOver, Sites}
use Rattle.ln_algebra.specs.Orders.{Rank}
use Rattle.ln_algebra.specs.Sign.{perturbed}
use Rattle.ln_algebra.specs.Terms.{IsNormalOf, Term, derived}
use Rattle.ln_algebra.specs.Tree.{Tree}
use Rattle.ln_algebra.specs.Vector.{In}
use Rattle.ln_tree.specs.Exps.{vector}
use Rattle.ln_tree.specs.Row.{AreWithin, values}
use Rattle.ln_bound.specs.Value.{value}
use Rattle.ln_code.proofs.Verdicts.Machine.{no_code}
use Rattle.ln_code.proofs.Following.Means.{blocks_mean}
use Rattle.ln_code.specs.Carried.{Carries, CarriesDerivative, Runs, stage_at, vectors}
use Rattle.ln_code.specs.Law.{BlockMeans}
use Rattle.ln_code.specs.Part.{Code, Part}
use Rattle.ln_code.specs.Rules.{Known}
use Rattle.ln_due.specs.DueLaw.{HasValue, PlainBlocksCarryTheWhole}
use Rattle.ln_poly.proofs.Expansions.Normals.{vector-none}
use Rattle.ln_due.proofs.Parts.CoefficientLemmas.{derivative-value}
use Rattle.ln_due.proofs.Parts.InputsLemmas.{known_inputs}

-- two names of one value
pub some-same : {A : Type 0} (a b : A) → Some a ≡ Some b → a ≡ b
some-same a b e = cc

-- each block of a list has its coefficient
abbrev pub Computes : Part → Tree → List ℤ → Sites → List ℕ → Type 0
Computes p e zs sites [] = Unit {0}
Computes p e zs sites (k ∷ ks) = HasValue p k zs (perturbed sites (values zs) e (stage_at p k)) × Computes p e zs sites ks

module _ (p : Part) (e : Tree) (f : List Term) (zs : List ℤ) (sites : Sites) (program : Runs p) (rank : Rank) (carries : Carries rank p e f)
    (row : AreWithin p.shape.vars zs) where
  -- a block has the coefficient at its exponents
  block-coefficient : (k : ℕ) → k < length p.blocks → IsOver (length p.shape.vars) sites (stage_at p k)
      → HasValue p k zs (perturbed sites (values zs) e (stage_at p k))
  block-coefficient k h o =
      let n : ℕ = length p.shape.vars in
      let c : Code = get_or p.blocks k no_code in
      let there : slice_get p.blocks k ≡ Some c = slice_get-get_or p.blocks k no_code h in
      let d : CarriesDerivative p.shape.vars f c = carries.blocks k no_code h in
      let m : BlockMeans p.shape.vars zs c = blocks_mean p.shape.vars zs c row (program.blocks k no_code h) in
      let same : m.what ≡ d.what = some-same m.what d.what (sym m.known ∙ d.known) in
      let at : stage_at p k ≡ vector n c.exps = ap (vector n) (get_or-map (λ (b : Code). b.exps) p.blocks k no_code [] h) in
      let v : value (values zs) [] d.what.tree ≡ perturbed sites (values zs) e (vector n c.exps) =
      derivative-value n sites (values zs) e d.what.tree f (vector n c.exps) carries.inputs carries.normal
      (known_inputs p.shape.vars c d.what d.known) d.derivative (subst (IsOver n sites) at o) in
      record {
        block = c;
        there = there;
        value = m.answer ∙ ap (λ (w : Known). Some (value (values zs) [] w.tree)) same ∙ ap Some (v ∙ ap (perturbed sites (values zs) e) (sym at));
      }

  -- so does each block of a list of stages
  pub list-computes : (ks : List ℕ) → All (λ k. k < length p.blocks) ks
      → ((a : List ℕ) → In (vectors p ks) a → IsOver (length p.shape.vars) sites a) → Computes p e zs sites ks
  list-computes [] h o = tt
  list-computes (k ∷ ks) h o = (
    block-coefficient k (All-head (λ i. i < length p.blocks) k ks h) (o (stage_at p k) (inl refl)),
    list-computes ks (All-tail (λ i. i < length p.blocks) k ks h) (λ a i. o a (inr i)),
  )

  -- the same by place in the list
  pub computes-at : (ks : List ℕ) (k : ℕ) → Computes p e zs sites ks → k < length ks
      → HasValue p (get_or ks k 0) zs (perturbed sites (values zs) e (get_or (vectors p ks) k []))
  computes-at [] k c h = absurd (omega arith)
  computes-at (i ∷ ks) zero c h = c.0
  computes-at (i ∷ ks) (suc k) c h = computes-at ks k c.1 (omega arith)

-- a block without exponents has the polynomial of the whole
pub plain-whole : PlainBlocksCarryTheWhole
plain-whole rank p e f c h i q =
    let n : ℕ = length p.shape.vars in
    let d : CarriesDerivative p.shape.vars f c = All-contains (CarriesDerivative p.shape.vars f) p.blocks c h.blocks i in
    let z : derived (vector n c.exps) f ≡ f = ap (λ a. derived (vector n a) f) q ∙ ap (λ a. derived a f) (vector-none 0 n) ∙ derived-zeros n f h.normal.over in
    (d.what, d.known, subst (λ (g : List Term). IsNormalOf n d.what.tree g) z d.derivative)
