-- The machine's verdict, and the same step by step.
use Rattle.std.proofs.Common.{◌≡◌, ◌≢◌, ◌⊎◌, inl, inr, ℕ, ◌+◌, ◌<◌, ◌≤◌, zero, suc, List, [], ◌∷◌, length, refl, sym, ◌∙◌, ap, arith, subst, Bool, true, false}
use Rattle.std.specs.Prelude.{Option, Some, None, slice_get, nat_lt, unsigned_abs}
use Rattle.std.proofs.lemmas.Bool.{le-ltb, lt-ltb, ltb-false, ltb-true}
use Rattle.std.proofs.Math.IntN.{ℤ, pos}
use Rattle.ln_base.specs.declared.sign.Sign.{Sign}
use Rattle.ln_base.specs.declared.sign.Sign.TheVariants.{Zero}
use Rattle.ln_algebra.proofs.Expanded.Normal.{zero_cases}
use Rattle.ln_code.specs.declared.verdict.By.{By}
use Rattle.ln_code.specs.declared.verdict.By.TheVariants.{Filter, Nothing, Stage}
use Rattle.ln_code.specs.declared.verdict.Verdict.{Verdict}
use Rattle.ln_code.specs.Engine.{next}
use Rattle.ln_code.specs.Exact.{Held}
use Rattle.ln_code.specs.Part.{Code, FilterCode, block_value, filter_value, wide_at, wide_in}
use Rattle.ln_code.specs.Verdict.{IsVerdict, along, decides, settled, sign_of, through}
use Rattle.ln_code.proofs.Following.Known.{next_some}
use Rattle.ln_due.specs.Steps.{BlocksTell, FilterDecides, IsTold, Tell, VerdictsAreTold, value_at, wide_of_first}
use Rattle.ln_due.proofs.Verdicts.AlongLemmas.{settled-other, settled-zero}
use Rattle.ln_due.proofs.Parts.BlockLemmas.{some-same}

zero-plus : (k : ℕ) → 0 + k ≡ k
zero-plus k = omega arith

-- ---- along a list that begins at a place, after wide operations and calls
-- block k of it decides
record Here (zs : List ℤ) (blocks : List Code) (list : List ℕ) (place wide entered k : ℕ) (v : Verdict) : Type 0 where
  before : (i : ℕ) → i < k → value_at zs blocks list i ≡ Some (pos 0)
  number : ℤ
  value : value_at zs blocks list k ≡ Some number
  nonzero : number ≢ pos 0
  sign : v.sign ≡ sign_of number
  by : v.by ≡ Stage (place + k)
  calls : v.calls ≡ entered + (k + 1)
  wides : v.wide ≡ wide + wide_of_first blocks list (k + 1)

-- none does
record Nowhere (zs : List ℤ) (blocks : List Code) (list : List ℕ) (wide entered : ℕ) (v : Verdict) : Type 0 where
  zeros : (i : ℕ) → i < length list → value_at zs blocks list i ≡ Some (pos 0)
  sign : v.sign ≡ Zero
  by : v.by ≡ Nothing
  calls : v.calls ≡ entered + length list
  wides : v.wide ≡ wide + wide_of_first blocks list (length list)

abbrev Found : List ℤ → List Code → List ℕ → ℕ → ℕ → ℕ → Verdict → Type 0
Found zs blocks list place wide entered v = ((k : ℕ) × Here zs blocks list place wide entered k v) ⊎ Nowhere zs blocks list wide entered v

-- a verdict is its parts
verdict-same : (s : Sign) (b : By) (w c : ℕ) (u : Verdict) → u.sign ≡ s → u.by ≡ b → u.wide ≡ w → u.calls ≡ c
    → record { sign = s; by = b; wide = w; calls = c } ≡ u
verdict-same s b w c u e f g h = rw (← e, ← f, ← g, ← h) refl

module _ (zs : List ℤ) (blocks : List Code) where
  -- the operations at 128 bits of a block that is there
  wide-is : (n : ℕ) (c : Code) → slice_get blocks n ≡ Some c → wide_at blocks n ≡ wide_in c.ops
  wide-is n c h = rw h refl

  -- one block more before: its wide operations
  wide-more : (n : ℕ) (ns : List ℕ) (k : ℕ) → wide_of_first blocks (n ∷ ns) (suc k + 1) ≡ wide_at blocks n + wide_of_first blocks ns (k + 1)
  wide-more n ns k = let e : suc k + 1 ≡ suc (k + 1) = omega arith in rw e refl

  -- and its value
  value-is : (n : ℕ) (ns : List ℕ) (c : Code) (z : ℤ) → slice_get blocks n ≡ Some c → block_value zs c ≡ Some z → value_at zs blocks (n ∷ ns) 0 ≡ Some z
  value-is n ns c z h q = rw (h, q) refl

  -- 0 first, and then on
  after-zero : (n : ℕ) (ns : List ℕ) (k : ℕ) → value_at zs blocks (n ∷ ns) 0 ≡ Some (pos 0)
      → ((i : ℕ) → i < k → value_at zs blocks ns i ≡ Some (pos 0)) → (i : ℕ) → i < suc k → value_at zs blocks (n ∷ ns) i ≡ Some (pos 0)
  after-zero n ns k h b zero l = h
  after-zero n ns k h b (suc i) l = b i (omega (arith, l))

  tell : (list : List ℕ) (place wide entered : ℕ) (v : Verdict) → along zs blocks list place wide entered ≡ Some v → Found zs blocks list place wide entered v
  tell [] place wide entered v q =
      let r : record { sign = Zero; by = Nothing; wide = wide; calls = entered } ≡ v = some-same _ v q in
      inr (record {
        zeros = λ i l. absurd (omega (arith, l));
        sign = ap (λ (w : Verdict). w.sign) (sym r);
        by = ap (λ (w : Verdict). w.by) (sym r);
        calls = ap (λ (w : Verdict). w.calls) (sym r) ∙ omega arith;
        wides = ap (λ (w : Verdict). w.wide) (sym r) ∙ omega arith;
      })
  tell (n ∷ ns) place wide entered v q = at_block (λ w. tell ns (place + 1) w (entered + 1) v) (next_some (slice_get blocks n) _ v q) where
    at_value : ((w : ℕ) → along zs blocks ns (place + 1) w (entered + 1) ≡ Some v → Found zs blocks ns (place + 1) w (entered + 1) v)
        → (c : Code) (z : ℤ) → slice_get blocks n ≡ Some c → block_value zs c ≡ Some z
        → settled z place (wide + wide_in c.ops) (entered + 1) (along zs blocks ns (place + 1) (wide + wide_in c.ops) (entered + 1)) ≡ Some v
        → (z ≡ pos 0) ⊎ (z ≢ pos 0) → Found zs blocks (n ∷ ns) place wide entered v
    at_value go c z h g s (inl y) = on (go (wide + wide_in c.ops) (sym (settled-zero z place (wide + wide_in c.ops) (entered + 1) _ y) ∙ s)) where
      first : value_at zs blocks (n ∷ ns) 0 ≡ Some (pos 0)
      first = value-is n ns c z h g ∙ ap Some y

      w : wide_at blocks n ≡ wide_in c.ops
      w = wide-is n c h

      on : Found zs blocks ns (place + 1) (wide + wide_in c.ops) (entered + 1) v → Found zs blocks (n ∷ ns) place wide entered v
      on (inl (k, f)) = inl (
        suc k,
        record {
          before = after-zero n ns k first f.before;
          number = f.number;
          value = f.value;
          nonzero = f.nonzero;
          sign = f.sign;
          by = f.by ∙ ap Stage (omega arith);
          calls = omega (arith, f.calls);
          wides = omega (arith, f.wides, w, wide-more n ns k);
        },
      )
      on (inr f) = inr (record {
        zeros = after-zero n ns (length ns) first f.zeros;
        sign = f.sign;
        by = f.by;
        calls = omega (arith, f.calls);
        wides = omega (arith, f.wides, w);
      })
    at_value go c z h g s (inr d) =
        let r : record { sign = sign_of z; by = Stage place; wide = wide + wide_in c.ops; calls = entered + 1 } ≡ v =
        some-same _ v (sym (settled-other z place (wide + wide_in c.ops) (entered + 1) _ d) ∙ s) in
        let w : wide_at blocks n ≡ wide_in c.ops = wide-is n c h in
        inl (
          0,
          record {
            before = λ i l. absurd (omega (arith, l));
            number = z;
            value = value-is n ns c z h g;
            nonzero = d;
            sign = ap (λ (u : Verdict). u.sign) (sym r);
            by = ap (λ (u : Verdict). u.by) (sym r) ∙ ap Stage (omega arith);
            calls = ap (λ (u : Verdict). u.calls) (sym r) ∙ omega arith;
            wides = ap (λ (u : Verdict). u.wide) (sym r) ∙ omega (arith, w);
          },
        )

    at_block : ((w : ℕ) → along zs blocks ns (place + 1) w (entered + 1) ≡ Some v → Found zs blocks ns (place + 1) w (entered + 1) v)
        → (c : Code) × (slice_get blocks n ≡ Some c) × (next (block_value zs c) (λ z. settled z place (wide + wide_in c.ops) (entered + 1)
        (along zs blocks ns (place + 1) (wide + wide_in c.ops) (entered + 1))) ≡ Some v) → Found zs blocks (n ∷ ns) place wide entered v
    at_block go (c, h, s) = let r = next_some (block_value zs c) _ v s in at_value go c r.0 h r.1 r.2 (zero_cases r.0)

  -- ---- and back
  -- what follows from the value of the first block
  front : (n : ℕ) (ns : List ℕ) (z : ℤ) → value_at zs blocks (n ∷ ns) 0 ≡ Some z → (c : Code) × (slice_get blocks n ≡ Some c) × (block_value zs c ≡ Some z)
  front n ns z h = next_some (slice_get blocks n) (λ c. block_value zs c) z h

  step : (n : ℕ) (ns : List ℕ) (c : Code) (z : ℤ) (place wide entered : ℕ) → slice_get blocks n ≡ Some c
      → block_value zs c ≡ Some z → along zs blocks (n ∷ ns) place wide entered
      ≡ settled z place (wide + wide_in c.ops) (entered + 1) (along zs blocks ns (place + 1) (wide + wide_in c.ops) (entered + 1))
  step n ns c z place wide entered h g = rw (h, g) refl

  back : (list : List ℕ) (place wide entered : ℕ) (v : Verdict) → Found zs blocks list place wide entered v → along zs blocks list place wide entered ≡ Some v
  back [] place wide entered v (inl (k, f)) = absurd (let e : None ≡ Some f.number = f.value in cc)
  back [] place wide entered v (inr f) = ap Some (verdict-same Zero Nothing wide entered v f.sign f.by (f.wides ∙ omega arith) (f.calls ∙ omega arith))
  back (n ∷ ns) place wide entered v (inl (zero, f)) = let r = front n ns f.number f.value in here r.0 r.1 r.2 where
    here : (c : Code) → slice_get blocks n ≡ Some c → block_value zs c ≡ Some f.number → along zs blocks (n ∷ ns) place wide entered ≡ Some v
    here c h g =
        let w : wide_at blocks n ≡ wide_in c.ops = wide-is n c h in
        step n ns c f.number place wide entered h g ∙ settled-other f.number place (wide + wide_in c.ops) (entered + 1) _ f.nonzero
        ∙ ap Some (verdict-same (sign_of f.number) (Stage place) (wide + wide_in c.ops) (entered + 1) v f.sign
        (f.by ∙ ap Stage (omega arith)) (f.wides ∙ omega (arith, w)) (f.calls ∙ omega arith))
  back (n ∷ ns) place wide entered v (inl (suc k, f)) =
      let r = front n ns (pos 0) (f.before 0 (omega arith)) in
      on (λ w. back ns (place + 1) w (entered + 1) v) r.0 r.1 r.2
    where
      on : ((w : ℕ) → Found zs blocks ns (place + 1) w (entered + 1) v → along zs blocks ns (place + 1) w (entered + 1) ≡ Some v) → (c : Code)
          → slice_get blocks n ≡ Some c → block_value zs c ≡ Some (pos 0) → along zs blocks (n ∷ ns) place wide entered ≡ Some v
      on go c h g =
          let w : wide_at blocks n ≡ wide_in c.ops = wide-is n c h in
          step n ns c (pos 0) place wide entered h g
          ∙ go (wide + wide_in c.ops) (inl (
            k,
            record {
              before = λ i l. f.before (suc i) (omega (arith, l));
              number = f.number;
              value = f.value;
              nonzero = f.nonzero;
              sign = f.sign;
              by = f.by ∙ ap Stage (omega arith);
              calls = omega (arith, f.calls);
              wides = omega (arith, f.wides, w, wide-more n ns k);
            },
          ))
  back (n ∷ ns) place wide entered v (inr f) =
      let r = front n ns (pos 0) (f.zeros 0 (omega arith)) in
      on (λ w. back ns (place + 1) w (entered + 1) v) r.0 r.1 r.2
    where
      on : ((w : ℕ) → Found zs blocks ns (place + 1) w (entered + 1) v → along zs blocks ns (place + 1) w (entered + 1) ≡ Some v) → (c : Code)
          → slice_get blocks n ≡ Some c → block_value zs c ≡ Some (pos 0) → along zs blocks (n ∷ ns) place wide entered ≡ Some v
      on go c h g =
          let w : wide_at blocks n ≡ wide_in c.ops = wide-is n c h in
          step n ns c (pos 0) place wide entered h g
          ∙ go (wide + wide_in c.ops) (inr (record {
            zeros = λ i l. f.zeros (suc i) (omega (arith, l));
            sign = f.sign;
            by = f.by;
            calls = omega (arith, f.calls);
            wides = omega (arith, f.wides, w);
          }))

  -- ---- from the beginning of a list
  tells : (list : List ℕ) (entered : ℕ) (v : Verdict) → along zs blocks list 0 0 entered ≡ Some v → BlocksTell zs blocks list entered v v.by
  tells list entered v q = by_case (tell list 0 0 entered v q) where
    by_case : Found zs blocks list 0 0 entered v → BlocksTell zs blocks list entered v v.by
    by_case (inl (k, f)) = subst (BlocksTell zs blocks list entered v) (sym (f.by ∙ ap Stage (zero-plus k)))
        (record { before = f.before; number = f.number; value = f.value; nonzero = f.nonzero; sign = f.sign; calls = f.calls; wide = omega (arith, f.wides) })
    by_case (inr f) =
        subst (BlocksTell zs blocks list entered v) (sym f.by) (record { zeros = f.zeros; sign = f.sign; calls = f.calls; wide = omega (arith, f.wides) })

  told : (list : List ℕ) (entered : ℕ) (v : Verdict) → BlocksTell zs blocks list entered v v.by → along zs blocks list 0 0 entered ≡ Some v
  told list entered v t = by_case v.by refl t where
    by_case : (b : By) → v.by ≡ b → BlocksTell zs blocks list entered v b → along zs blocks list 0 0 entered ≡ Some v
    by_case Filter q t = absurd t
    by_case (Stage k) q t = back list 0 0 entered v (inl (
      k,
      record {
        before = t.before;
        number = t.number;
        value = t.value;
        nonzero = t.nonzero;
        sign = t.sign;
        by = q ∙ ap Stage (sym (zero-plus k));
        calls = t.calls;
        wides = omega (arith, t.wide);
      },
    ))
    by_case Nothing q t = back list 0 0 entered v (inr (record { zeros = t.zeros; sign = t.sign; by = q; calls = t.calls; wides = omega (arith, t.wide) }))

-- ---- the filter
by-error : (left : Held) (rest : Option Verdict) (v : Verdict) → decides left rest ≡ Some v
    → FilterDecides left v ⊎ ((unsigned_abs left.number ≤ left.error) × (rest ≡ Some v))
by-error left rest v q = by_case (nat_lt left.error (unsigned_abs left.number)) refl where
  by_case : (t : Bool) → nat_lt left.error (unsigned_abs left.number) ≡ t → FilterDecides left v ⊎ ((unsigned_abs left.number ≤ left.error) × (rest ≡ Some v))
  by_case true e =
      let r : record { sign = sign_of left.number; by = Filter; wide = 0; calls = 1 } ≡ v =
      some-same _ v (let h : decides left rest ≡ Some v = q in rw e at h) in
      inl (record {
        above = ltb-true left.error (unsigned_abs left.number) e;
        sign = ap (λ (u : Verdict). u.sign) (sym r);
        by = ap (λ (u : Verdict). u.by) (sym r);
        calls = ap (λ (u : Verdict). u.calls) (sym r);
        wide = ap (λ (u : Verdict). u.wide) (sym r);
      })
  by_case false e = inr (ltb-false left.error (unsigned_abs left.number) e, let h : decides left rest ≡ Some v = q in rw e at h)

from-filter : (left : Held) (rest : Option Verdict) (v : Verdict) → FilterDecides left v → decides left rest ≡ Some v
from-filter left rest v f = rw (lt-ltb left.error (unsigned_abs left.number) f.above)
    (ap Some (verdict-same (sign_of left.number) Filter 0 1 v f.sign f.by f.wide f.calls))

from-blocks : (left : Held) (rest : Option Verdict) (v : Verdict) → unsigned_abs left.number ≤ left.error → rest ≡ Some v → decides left rest ≡ Some v
from-blocks left rest v h q = rw (le-ltb left.error (unsigned_abs left.number) h) q

-- ---- the whole
through-tells : (f : Option FilterCode) (zs : List ℤ) (blocks : List Code) (list : List ℕ) (v : Verdict) → through f zs blocks list ≡ Some v
    → Tell f zs blocks list v
through-tells None zs blocks list v q = tells zs blocks list 0 v q
through-tells (Some f) zs blocks list v q = let r = next_some (filter_value zs f) _ v q in (r.0, r.1, by_case r.0 (by-error r.0 _ v r.2)) where
  by_case : (left : Held) → FilterDecides left v ⊎ ((unsigned_abs left.number ≤ left.error) × (along zs blocks list 0 0 1 ≡ Some v))
      → FilterDecides left v ⊎ ((unsigned_abs left.number ≤ left.error) × BlocksTell zs blocks list 1 v v.by)
  by_case left (inl d) = inl d
  by_case left (inr b) = inr (b.0, tells zs blocks list 1 v b.1)

through-told : (f : Option FilterCode) (zs : List ℤ) (blocks : List Code) (list : List ℕ) (v : Verdict) → Tell f zs blocks list v
    → through f zs blocks list ≡ Some v
through-told None zs blocks list v t = told zs blocks list 0 v t
through-told (Some f) zs blocks list v (left, e, inl d) = rw e (from-filter left _ v d)
through-told (Some f) zs blocks list v (left, e, inr b) = rw e (from-blocks left _ v b.0 (told zs blocks list 1 v b.1))

-- a verdict is the machine's exactly where it is the one that the steps give
pub verdicts-are-told : VerdictsAreTold
verdicts-are-told part row v = (to, from) where
  to : IsVerdict part row v → IsTold part row v
  to h = record {
    places = h.places;
    order = h.order;
    list = h.list;
    chosen = h.chosen;
    told = through-tells part.filter row.values part.blocks h.list v h.answered;
  }

  from : IsTold part row v → IsVerdict part row v
  from h = record {
    places = h.places;
    order = h.order;
    list = h.list;
    chosen = h.chosen;
    answered = through-told part.filter row.values part.blocks h.list v h.told;
  }
