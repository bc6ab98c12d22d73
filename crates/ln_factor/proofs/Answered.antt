-- The product of the verdicts' signs is the perturbed sign of the product.
use Rattle.std.proofs.Common.{◌≡◌, ℕ, zero, suc, ◌<◌, List, [], ◌∷◌, length, refl, sym, ◌∙◌, arith, Some}
use Rattle.std.specs.Prelude.{All, slice_get}
use Rattle.std.proofs.lemmas.List.Elements.{All-head, All-tail}
use Rattle.ln_algebra.specs.Orders.{Rank}
use Rattle.ln_algebra.specs.Product.{multiplied_numbers}
use Rattle.ln_algebra.specs.Tree.{Tree}
use Rattle.ln_tree.specs.declared.shape.VarInfo.{VarInfo}
use Rattle.ln_code.specs.Part.{Part}
use Rattle.ln_code.specs.RowOf.{row_of}
use Rattle.ln_code.specs.declared.row.Row.{Row}
use Rattle.ln_code.specs.declared.verdict.Verdict.{Verdict}
use Rattle.ln_factor.specs.Several.{AreAnswered, IsAnswered}
use Rattle.ln_factor.proofs.SeveralLemmas.{signs-multiply}
use Rattle.ln_factor.specs.Factors.{AreCarried, AreOver, AreVerdicts, IsFactor, IsRowOfFactors, IsSignOfProduct, numbers_of}

-- ---- the factors after the first
behind : (ps : List Part) (i : ℕ) (is : List ℕ) (k : ℕ) (p : Part) → IsFactor ps is k p → IsFactor ps (i ∷ is) (suc k) p
behind ps i is k p f = record { place = f.place; named = f.named; there = f.there }

some-at : (ps : List Part) (i : ℕ) → i < length ps → (p : Part) × (slice_get ps i ≡ Some p)
some-at [] i h = absurd (omega arith)
some-at (p ∷ ps) zero h = (p, refl)
some-at (p ∷ ps) (suc i) h = some-at ps i (omega arith)

module _ (rank : Rank) (sites : ℕ) (vars : List VarInfo) (r : Row) (ps : List Part) where
  answered : (which : List ℕ) (es : List Tree) (vs : List Verdict) → All (λ i. i < length ps) which → IsRowOfFactors ps which r
      → AreOver sites vars ps which → AreCarried rank ps which es → AreVerdicts ps which r vs
      → (fs : List Part) × AreAnswered rank vars (row_of sites vars r) fs es vs
  answered [] [] [] pl ro ov ca ve = ([], tt)
  answered [] [] (v ∷ vs) pl ro ov ca ve = absurd (omega (arith, ve.size))
  answered [] (e ∷ es) vs pl ro ov ca ve = absurd ca
  answered (i ∷ is) [] vs pl ro ov ca ve = absurd ca
  answered (i ∷ is) (e ∷ es) [] pl ro ov ca ve = absurd (omega (arith, ve.size))
  answered (i ∷ is) (e ∷ es) (v ∷ vs) pl ro ov ca ve =
      let here = some-at ps i (All-head (λ j. j < length ps) i is pl) in
      let f : IsFactor ps (i ∷ is) 0 here.0 = record { place = i; named = refl; there = here.1 } in
      let carried = ca.0 here.0 here.1 in
      let a = ro.alike 0 here.0 f in
      let b = ov 0 here.0 f in
      let s : sites ≡ ro.sites = sym b.0 ∙ a.0 in
      let t : vars ≡ ro.vars = sym b.1 ∙ a.1 in
      let one : IsAnswered rank vars (row_of sites vars r) here.0 e v = record {
        runs = carried.runs;
        polynomial = carried.polynomial;
        carries = carried.carries;
        same = b.1;
        within = rw (a.0, a.1, s, t) ro.range;
        verdict = rw (b.0, b.1) at (ve.each 0 here.0 v f refl);
      } in
      let ih = answered is es vs (All-tail (λ j. j < length ps) i is pl)
      (record { sites = ro.sites; vars = ro.vars; alike = λ k p g. ro.alike (suc k) p (behind ps i is k p g); range = ro.range })
      (λ k p g. ov (suc k) p (behind ps i is k p g)) ca.1
      (record { size = omega (arith, ve.size); each = λ k p u g q. ve.each (suc k) p u (behind ps i is k p g) q }) in
      (here.0 ∷ ih.0, (one, ih.1))

-- on a row of all factors the product of the signs of their verdicts is the perturbed sign of their product
pub product-perturbed : (ps : List Part) (which : List ℕ) (r : Row) (vs : List Verdict) → All (λ i. i < length ps) which
    → IsRowOfFactors ps which r → AreVerdicts ps which r vs → IsSignOfProduct ps which r (multiplied_numbers (numbers_of vs))
product-perturbed ps which r vs pl ro ve rank sites vars e es ov ca =
    let a = answered rank sites vars r ps which (e ∷ es) vs pl ro ov ca ve in
    signs-multiply rank vars (row_of sites vars r) a.0 e es vs a.1
