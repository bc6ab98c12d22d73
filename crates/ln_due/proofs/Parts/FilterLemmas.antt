-- Where a filter decides, its sign is the perturbed sign.
use Rattle.std.proofs.Common.{◌≡◌, ◌≢◌, ◌⊎◌, inl, inr, ℕ, ◌<◌, zero, suc, List, [], length, refl, sym, ◌∙◌, ap, arith, subst, unsigned_abs, ◌<ℤ◌}
use Rattle.std.specs.Prelude.{IfSome, Option, Some}
use Rattle.std.proofs.Math.IntN.{ℤ, pos, negsuc}
use Rattle.std.proofs.lemmas.Int.{ints}
use Rattle.ln_algebra.proofs.Ordering.Admissible.{asymmetric, both-admissible}
use Rattle.ln_algebra.proofs.Walking.Cut.{degree-small, of_sites}
use Rattle.ln_algebra.proofs.Expanded.Expansion.{length-zeros}
use Rattle.ln_algebra.proofs.Walking.Stages.{zeros-get}
use Rattle.ln_algebra.proofs.Vectors.Zeros.{is_zero-zeros}
use Rattle.ln_algebra.specs.Earlier.{IndicesDiffer, IsOver, Sites}
use Rattle.ln_algebra.specs.Orders.{Before, IsAdmissible, Rank}
use Rattle.ln_algebra.specs.Sign.{IsFirstIn, IsSignIn, perturbed}
use Rattle.ln_algebra.specs.Sign as algebra
use Rattle.ln_algebra.specs.Terms.{Term}
use Rattle.ln_algebra.specs.Tree.{Tree}
use Rattle.ln_algebra.specs.Vector.{zeros}
use Rattle.ln_tree.specs.Row.{AreWithin, values}
use Rattle.ln_bound.proofs.Trees.Plain.{plain}
use Rattle.ln_bound.specs.Value.{value}
use Rattle.ln_code.proofs.Verdicts.Machine.{filter-follows}
use Rattle.ln_code.proofs.Following.Means.{filters_mean}
use Rattle.ln_code.specs.Carried.{Carries, CarriesWhole, Runs}
use Rattle.ln_code.specs.Exact.{Held}
use Rattle.ln_code.specs.FilterRules.{FilterKnown}
use Rattle.ln_code.specs.Law.{FilterMeans}
use Rattle.ln_code.specs.Part.{FilterCode, Part, filter_value}
use Rattle.ln_code.specs.Verdict.{sign_of}
use Rattle.ln_due.specs.Due.{sign_number}
use Rattle.ln_due.proofs.Parts.BlockLemmas.{some-same}
use Rattle.ln_due.proofs.Parts.CoefficientLemmas.{normal-value}
use Rattle.ln_due.proofs.Parts.InputsLemmas.{filter_known-inputs}

-- ---- signs
-- a number above 0
positive : (v : ℤ) → pos 0 <ℤ v → (pos 1 ≡ algebra.sign_of v) × (v ≢ pos 0)
positive (pos zero) h = absurd (omega (arith, ints, h))
positive (pos (suc n)) h = (refl, λ q. cc)
positive (negsuc n) h = absurd (omega (arith, ints, h))

-- a number below 0
negative : (v : ℤ) → v <ℤ pos 0 → (negsuc 0 ≡ algebra.sign_of v) × (v ≢ pos 0)
negative (pos zero) h = absurd (omega (arith, ints, h))
negative (pos (suc n)) h = absurd (omega (arith, ints, h))
negative (negsuc n) h = (refl, λ q. cc)

-- what is above its error has the sign of the value, which isn't 0
sign-agrees : (z v : ℤ) (e : ℕ) → e < unsigned_abs z → (e < unsigned_abs z → pos 0 <ℤ z → pos 0 <ℤ v)
    → (e < unsigned_abs z → z <ℤ pos 0 → v <ℤ pos 0) → (sign_number (sign_of z) ≡ algebra.sign_of v) × (v ≢ pos 0)
sign-agrees (pos zero) v e h p m = absurd (omega (arith, ints, h))
sign-agrees (pos (suc n)) v e h p m = positive v (p h (omega (arith, ints)))
sign-agrees (negsuc n) v e h p m = negative v (m h (omega (arith, ints)))

-- ---- a plain value that isn't 0 decides
module _ (n : ℕ) (sites : Sites) (before : List ℕ → List ℕ → Type 0) (order : IsAdmissible n sites before) where
  -- no vector is earlier than that of zeros
  pub none-earlier : (b : List ℕ) → IsOver n sites b → before b (zeros n) → ⊥
  none-earlier b o l = by_case (order.zero_first b o) where
    by_case : (b ≡ zeros n) ⊎ before (zeros n) b → ⊥
    by_case (inl q) = order.irreflexive (zeros n) (subst (λ (c : List ℕ). before c (zeros n)) q l)
    by_case (inr k) = asymmetric n sites before order b (zeros n) l k

  -- so it is the first where its coefficient isn't 0
  pub zeros-first : (x : ℕ → ℤ) (e : Tree) → perturbed sites x e (zeros n) ≢ pos 0 → IsFirstIn before n sites x e (zeros n)
  zeros-first x e d = record {
    over = record { size = length-zeros n; of_sites = λ v h. zeros-get n v };
    small = degree-small sites x e (zeros n) d;
    nonzero = d;
    zero_before = λ b o l k. absurd (none-earlier b o k);
  }

-- above its error the filter's number has the perturbed sign
pub decided-sign : (rank : Rank) (p : Part) (e : Tree) (f : List Term) (zs : List ℤ) (sites : Sites) (c : FilterCode) (left : Held) →
    Runs p → IndicesDiffer sites → Carries rank p e f → AreWithin p.shape.vars zs →
    p.filter ≡ Some c → filter_value zs c ≡ Some left → left.error < unsigned_abs left.number →
    IsSignIn (Before rank sites) (length p.shape.vars) sites (values zs) e (sign_number (sign_of left.number))
decided-sign rank p e f zs sites c left program differ carries row here a above =
    let n : ℕ = length p.shape.vars in
    let x : ℕ → ℤ = values zs in
    let w : CarriesWhole p.shape.vars f c = subst (λ (o : Option FilterCode). IfSome o (CarriesWhole p.shape.vars f)) here carries.filter in
    let m : FilterMeans p.shape.vars zs c = filters_mean p.shape.vars zs c row (filter-follows p c program here) in
    let same : m.left ≡ left = some-same m.left left (sym m.answer ∙ a) in
    let known : m.what ≡ w.what = some-same m.what w.what (sym m.known ∙ w.known) in
    let v : value x [] m.what.tree ≡ perturbed sites x e (zeros n) =
    ap (λ (k : FilterKnown). value x [] k.tree) known
    ∙ normal-value n x w.what.tree f (filter_known-inputs p.shape.vars c w.what w.known) w.whole
    ∙ sym (normal-value n x e f carries.inputs carries.normal)
    ∙ sym (plain (of_sites sites) x e (zeros n) (is_zero-zeros n)) in
    let h : m.left.error < unsigned_abs m.left.number = subst (λ (k : Held). k.error < unsigned_abs k.number) (sym same) above in
    let s = sign-agrees m.left.number (value x [] m.what.tree) m.left.error h m.plus m.minus in
    let d : perturbed sites x e (zeros n) ≢ pos 0 = λ q. s.1 (v ∙ q) in
    inl (
      zeros n,
      zeros-first n sites (Before rank sites) (both-admissible rank n sites differ) x e d,
      ap (λ (k : Held). sign_number (sign_of k.number)) (sym same) ∙ s.0 ∙ ap algebra.sign_of v,
    )
