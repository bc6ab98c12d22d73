-- What the machine finds along a list of blocks: the first whose value isn't 0.
use Rattle.std.proofs.Common.{◌≡◌, ◌≢◌, ◌⊎◌, inl, inr, ℕ, ◌+◌, zero, suc, List, [], ◌∷◌, ◌++◌, length, refl, sym, ◌∙◌, ap, arith}
use Rattle.std.specs.Prelude.{Option, Some, slice_get}
use Rattle.std.proofs.Math.IntN.{ℤ, pos, negsuc}
use Rattle.ln_base.specs.declared.sign.Sign.TheVariants.{Zero}
use Rattle.ln_algebra.proofs.Expanded.Normal.{zero_cases}
use Rattle.ln_algebra.specs.Earlier.{Sites}
use Rattle.ln_algebra.specs.Sign.{perturbed}
use Rattle.ln_algebra.specs.Tree.{Tree}
use Rattle.ln_algebra.specs.Vector.{In}
use Rattle.ln_tree.specs.Row.{values}
use Rattle.ln_code.specs.Carried.{stage_at, vectors}
use Rattle.ln_code.specs.Part.{Part, block_value, wide_in}
use Rattle.ln_code.specs.Verdict.{along, settled, sign_of}
use Rattle.ln_code.specs.declared.verdict.By.TheVariants.{Nothing, Stage}
use Rattle.ln_code.specs.declared.verdict.Verdict.{Verdict}
use Rattle.ln_due.specs.DueLaw.{HasValue}
use Rattle.ln_due.proofs.Parts.BlockLemmas.{Computes, some-same}

-- each vector has coefficient 0
abbrev pub AreZero : Sites → (ℕ → ℤ) → Tree → List (List ℕ) → Type 0
AreZero sites x e [] = Unit {0}
AreZero sites x e (a ∷ list) = (perturbed sites x e a ≡ pos 0) × AreZero sites x e list

-- so has each member
pub zero-at : (sites : Sites) (x : ℕ → ℤ) (e : Tree) (list : List (List ℕ)) (a : List ℕ) → AreZero sites x e list → In list a → perturbed sites x e a ≡ pos 0
zero-at sites x e [] a z i = absurd i
zero-at sites x e (b ∷ list) a z (inl q) = ap (perturbed sites x e) q ∙ z.0
zero-at sites x e (b ∷ list) a z (inr i) = zero-at sites x e list a z.1 i

-- the verdict is that of the first vector of the list whose coefficient isn't 0, where the list begins at this place and after this many calls
pub record Stops (sites : Sites) (x : ℕ → ℤ) (e : Tree) (list : List (List ℕ)) (place entered : ℕ) (v : Verdict) : Type 0 where
  pub before : List (List ℕ)
  pub here : List ℕ
  pub after : List (List ℕ)
  pub all : list ≡ before ++ here ∷ after
  pub zeros : AreZero sites x e before
  pub nonzero : perturbed sites x e here ≢ pos 0
  pub sign : v.sign ≡ sign_of (perturbed sites x e here)
  pub by : v.by ≡ Stage (place + length before)
  pub calls : v.calls ≡ entered + (length before + 1)

-- the verdict is that of a list without such a vector
pub record Ends (sites : Sites) (x : ℕ → ℤ) (e : Tree) (list : List (List ℕ)) (entered : ℕ) (v : Verdict) : Type 0 where
  pub zeros : AreZero sites x e list
  pub sign : v.sign ≡ Zero
  pub by : v.by ≡ Nothing
  pub calls : v.calls ≡ entered + length list

-- a value that isn't 0 decides
pub settled-other : (z : ℤ) (place wide entered : ℕ) (rest : Option Verdict) → z ≢ pos 0
    → settled z place wide entered rest ≡ Some (record { sign = sign_of z; by = Stage place; wide = wide; calls = entered })
settled-other (pos zero) place wide entered rest h = absurd (h refl)
settled-other (pos (suc n)) place wide entered rest h = refl
settled-other (negsuc n) place wide entered rest h = refl

-- 0 doesn't
pub settled-zero : (z : ℤ) (place wide entered : ℕ) (rest : Option Verdict) → z ≡ pos 0 → settled z place wide entered rest ≡ rest
settled-zero z place wide entered rest h = rw h refl

module _ (p : Part) (e : Tree) (zs : List ℤ) (sites : Sites) where
  abbrev x : ℕ → ℤ
  x = values zs

  -- one block more
  turn : (k : ℕ) (ks : List ℕ) (place wide entered : ℕ) (h : HasValue p k zs (perturbed sites x e (stage_at p k))) →
      along zs p.blocks (k ∷ ks) place wide entered
      ≡ settled (perturbed sites x e (stage_at p k)) place (wide + wide_in h.block.ops) (entered + 1)
      (along zs p.blocks ks (place + 1) (wide + wide_in h.block.ops) (entered + 1))
  turn k ks place wide entered h =
      let g : slice_get p.blocks k ≡ Some h.block = h.there in
      let u : block_value zs h.block ≡ Some (perturbed sites x e (stage_at p k)) = h.value in
      rw (g, u) refl

  -- the verdict is that of the first vector whose coefficient isn't 0, or there is none
  pub along-finds : (ks : List ℕ) (place wide entered : ℕ) (v : Verdict) → Computes p e zs sites ks → along zs p.blocks ks place wide entered ≡ Some v →
      Stops sites x e (vectors p ks) place entered v ⊎ Ends sites x e (vectors p ks) entered v
  along-finds [] place wide entered v c q =
      let r : record { sign = Zero; by = Nothing; wide = wide; calls = entered } ≡ v = some-same _ v q in
      inr (record {
        zeros = tt;
        sign = ap (λ (w : Verdict). w.sign) (sym r);
        by = ap (λ (w : Verdict). w.by) (sym r);
        calls = ap (λ (w : Verdict). w.calls) (sym r) ∙ omega arith;
      })
  along-finds (k ∷ ks) place wide entered v c q =
      by_case (zero_cases (perturbed sites x e (stage_at p k))) (along-finds ks (place + 1) (wide + wide_in c.0.block.ops) (entered + 1) v c.1)
    where
      step : settled (perturbed sites x e (stage_at p k)) place (wide + wide_in c.0.block.ops) (entered + 1)
          (along zs p.blocks ks (place + 1) (wide + wide_in c.0.block.ops) (entered + 1)) ≡ Some v
      step = sym (turn k ks place wide entered c.0) ∙ q

      further : (perturbed sites x e (stage_at p k) ≡ pos 0) →
          Stops sites x e (vectors p ks) (place + 1) (entered + 1) v ⊎ Ends sites x e (vectors p ks) (entered + 1) v →
          Stops sites x e (vectors p (k ∷ ks)) place entered v ⊎ Ends sites x e (vectors p (k ∷ ks)) entered v
      further y (inl s) = inl (record {
        before = stage_at p k ∷ s.before;
        here = s.here;
        after = s.after;
        all = ap (λ (t : List (List ℕ)). stage_at p k ∷ t) s.all;
        zeros = (y, s.zeros);
        nonzero = s.nonzero;
        sign = s.sign;
        by = s.by ∙ ap Stage (omega arith);
        calls = s.calls ∙ omega arith;
      })
      further y (inr t) = inr (record { zeros = (y, t.zeros); sign = t.sign; by = t.by; calls = t.calls ∙ omega arith })

      by_case : (perturbed sites x e (stage_at p k) ≡ pos 0) ⊎ (perturbed sites x e (stage_at p k) ≡ pos 0 → ⊥) →
          (along zs p.blocks ks (place + 1) (wide + wide_in c.0.block.ops) (entered + 1) ≡ Some v →
          Stops sites x e (vectors p ks) (place + 1) (entered + 1) v ⊎ Ends sites x e (vectors p ks) (entered + 1) v) →
          Stops sites x e (vectors p (k ∷ ks)) place entered v ⊎ Ends sites x e (vectors p (k ∷ ks)) entered v
      by_case (inl y) ih = further y (ih (sym (settled-zero (perturbed sites x e (stage_at p k)) place (wide + wide_in c.0.block.ops)
          (entered + 1) (along zs p.blocks ks (place + 1) (wide + wide_in c.0.block.ops) (entered + 1)) y) ∙ step))
      by_case (inr d) ih =
          let r : record { sign = sign_of (perturbed sites x e (stage_at p k)); by = Stage place; wide = wide + wide_in c.0.block.ops; calls = entered + 1 }
          ≡ v =
          some-same _ v (sym (settled-other (perturbed sites x e (stage_at p k)) place (wide + wide_in c.0.block.ops) (entered + 1)
          (along zs p.blocks ks (place + 1) (wide + wide_in c.0.block.ops) (entered + 1)) d) ∙ step) in
          inl (record {
            before = [];
            here = stage_at p k;
            after = vectors p ks;
            all = refl;
            zeros = tt;
            nonzero = d;
            sign = ap (λ (w : Verdict). w.sign) (sym r);
            by = ap (λ (w : Verdict). w.by) (sym r) ∙ ap Stage (omega arith);
            calls = ap (λ (w : Verdict). w.calls) (sym r) ∙ omega arith;
          })
