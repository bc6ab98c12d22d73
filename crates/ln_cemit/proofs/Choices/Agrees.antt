-- The first sign that isn't 0 along a list, against the machine's verdict.
use Rattle.std.proofs.Common.{◌≡◌, ◌≢◌, inl, inr, ℕ, zero, suc, ◌+◌, Bool, true, false, List, [], ◌∷◌, ◌++◌, map, refl, sym, ap, ◌∙◌, subst}
use Rattle.std.proofs.Common.{arith, ℤ, pos, negsuc, unsigned_abs}
use Rattle.std.specs.Prelude.{Option, Some, None, nat_lt, slice_get, if◌then◌else◌}
use Rattle.std.proofs.lemmas.Bool.Decides.{nat_tests}
use Rattle.ln_algebra.specs.Walk.{Member}
use Rattle.ln_base.specs.declared.sign.Sign.TheVariants.{Minus, Zero, Plus}
use Rattle.ln_code.specs.declared.verdict.Verdict.{Verdict}
use Rattle.ln_code.specs.declared.verdict.By.TheVariants.{Filter, Stage, Nothing}
use Rattle.ln_code.specs.Exact.{Held}
use Rattle.ln_code.specs.Part.{Code, FilterCode, block_value, filter_value, wide_in}
use Rattle.ln_code.specs.Verdict.{along, decides, settled, through}
use Rattle.ln_code.specs.Verdict as machine
use Rattle.ln_csyn.specs.Meaning.{Counts, Said, is_zero, entered}
use Rattle.ln_cemit.specs.Checked.{sign_of, plus}
use Rattle.ln_cemit.specs.Choose.{first_of_signs}
use Rattle.ln_cemit.specs.Chosen.{decided}
use Rattle.ln_cemit.specs.Emit.{wide_lines}
use Rattle.ln_cemit.specs.Emitted.{sign_as_number}
use Rattle.ln_cemit.specs.Law as law
use Rattle.ln_cemit.specs.Ways.{block_lines}
use Rattle.ln_cemit.specs.Whole.{first_of, moved}

-- ---- what each function returns
-- the value that a block returned; 0 where there is none
abbrev pub value_or : Option ℤ → ℤ
value_or None = pos 0
value_or (Some z) = z

-- the sign of a block's value on a row; 0 where there is no block
abbrev pub block_sign : List ℤ → Option Code → ℤ
block_sign zs None = pos 0
block_sign zs (Some c) = sign_of (value_or (block_value zs c))

-- the sign of what a filter leaves, where it decides; else 0
abbrev pub held_sign : Option Held → ℤ
held_sign None = pos 0
held_sign (Some h) = law.decided h

-- what the function with this number returns on a row
abbrev pub signs : List ℤ → Option FilterCode → List Code → ℕ → ℤ
signs zs None cs b = block_sign zs (slice_get cs b)
signs zs (Some f) cs zero = held_sign (filter_value zs f)
signs zs (Some f) cs (suc b) = block_sign zs (slice_get cs b)

-- how many operations at 128 bits the function of a block makes; 0 where there is no block
abbrev pub wide_of : Option Code → ℕ
wide_of None = 0
wide_of (Some c) = wide_lines (block_lines c)

-- the counts after a call of the function with this number
abbrev pub afters : Option FilterCode → List Code → ℕ → Counts → Counts
afters None cs b = plus (wide_of (slice_get cs b))
afters (Some f) cs zero = λ k. k
afters (Some f) cs (suc b) = plus (wide_of (slice_get cs b))

-- ---- blocks
-- the block is there and has a value
pub record Valued (zs : List ℤ) (cs : List Code) (b : ℕ) : Type 0 where
  pub code : Code
  pub value : ℤ
  pub there : slice_get cs b ≡ Some code
  pub is : block_value zs code ≡ Some value

-- the machine's verdict has this sign, after this many calls more
pub record Agrees (o : Option Verdict) (d : ℤ × ℕ) (calls : ℕ) : Type 0 where
  pub verdict : Verdict
  pub is : o ≡ Some verdict
  pub sign : sign_as_number verdict.sign ≡ d.0
  pub count : verdict.calls ≡ calls + d.1
  pub by : verdict.by ≢ Filter

-- one block more, whose value is z
one_more : (z : ℤ) (place wide calls : ℕ) (rest : Option Verdict) (d : ℤ × ℕ) → Agrees rest d (calls + 1)
    → Agrees (settled z place wide (calls + 1) rest) (if is_zero (sign_of z) then (d.0, suc d.1) else (sign_of z, 1)) calls
one_more (pos zero) place wide calls rest d h = record { verdict = h.verdict; is = h.is; sign = h.sign; count = omega (arith, h.count); by = h.by }
one_more (pos (suc n)) place wide calls rest d h =
    record { verdict = record { sign = Plus; by = Stage place; wide = wide; calls = calls + 1 }; is = refl; sign = refl; count = refl; by = λ e. cc }
one_more (negsuc n) place wide calls rest d h =
    record { verdict = record { sign = Minus; by = Stage place; wide = wide; calls = calls + 1 }; is = refl; sign = refl; count = refl; by = λ e. cc }

module _ (zs : List ℤ) (cs : List Code) where
  abbrev sign_at : ℕ → ℤ
  sign_at b = block_sign zs (slice_get cs b)

  -- where the blocks of a list have values, the verdict along it has the first sign that isn't 0, and counts the calls up to there
  pub along_agrees : (ns : List ℕ) (place wide calls : ℕ) → ((n : ℕ) → Member ns n → Valued zs cs n)
      → Agrees (along zs cs ns place wide calls) (decided sign_at ns) calls
  along_agrees [] place wide calls h =
      record { verdict = record { sign = Zero; by = Nothing; wide = wide; calls = calls }; is = refl; sign = refl; count = omega arith; by = λ e. cc }
  along_agrees (n ∷ ns) place wide calls h =
      let v = h n (inl refl) in
      let ih = along_agrees ns (place + 1) (wide + wide_in v.code.ops) (calls + 1) (λ m i. h m (inr i)) in
      let s : sign_at n ≡ sign_of v.value = ap (block_sign zs) v.there ∙ ap (λ o. sign_of (value_or o)) v.is in
      let r = one_more v.value place (wide + wide_in v.code.ops) calls (along zs cs ns (place + 1) (wide + wide_in v.code.ops) (calls + 1))
      (decided sign_at ns) ih in
      let t : along zs cs (n ∷ ns) place wide calls ≡ settled v.value place (wide + wide_in v.code.ops) (calls + 1)
      (along zs cs ns (place + 1) (wide + wide_in v.code.ops) (calls + 1)) = rw (v.there, v.is) refl in
      let u : decided sign_at (n ∷ ns) ≡ (if is_zero (sign_of v.value) then ((decided sign_at ns).0, suc (decided sign_at ns).1) else (sign_of v.value, 1))
      = ap (λ (z : ℤ). if is_zero z then ((decided sign_at ns).0, suc (decided sign_at ns).1) else (z, 1)) s in
      record {
        verdict = r.verdict;
        is = t ∙ r.is;
        sign = r.sign ∙ sym (ap (λ (x : ℤ × ℕ). x.0) u);
        count = r.count ∙ ap (λ (x : ℤ × ℕ). calls + x.1) (sym u);
        by = r.by;
      }

-- ---- numbers of functions against numbers of blocks
decided-map : (s : ℕ → ℤ) (ns : List ℕ) → decided s (map suc ns) ≡ decided (λ b. s (suc b)) ns
decided-map s [] = refl
decided-map s (n ∷ ns) = ap (λ (d : ℤ × ℕ). if is_zero (s (suc n)) then (d.0, suc d.1) else (s (suc n), 1)) (decided-map s ns)

-- ---- the filter
is-zero-sign : (z : ℤ) (e : ℕ) → nat_lt e (unsigned_abs z) ≡ true → is_zero (sign_of z) ≡ false
is-zero-sign (pos zero) e h = absurd (never e h) where
  never : (e : ℕ) → nat_lt e 0 ≡ true → ⊥
  never e h = grind (arith, nat_tests)
is-zero-sign (pos (suc n)) e h = refl
is-zero-sign (negsuc n) e h = refl

same-sign : (z : ℤ) → sign_as_number (machine.sign_of z) ≡ sign_of z
same-sign (pos zero) = refl
same-sign (pos (suc n)) = refl
same-sign (negsuc n) = refl

-- the machine's verdict has this sign, with this many calls; where the filter decides, the first function's sign isn't 0
record Answers (o : Option Verdict) (d : ℤ × ℕ) (first : ℤ) : Type 0 where
  pub verdict : Verdict
  pub is : o ≡ Some verdict
  pub sign : sign_as_number verdict.sign ≡ d.0
  pub count : verdict.calls ≡ d.1
  pub quiet : verdict.by ≡ Filter → is_zero first ≡ false

-- the filter first, and then what the rest agrees on
filter_answers : (left : Held) (b : Bool) → nat_lt left.error (unsigned_abs left.number) ≡ b → (rest : Option Verdict) (d : ℤ × ℕ) → Agrees rest d 1
    → Answers (decides left rest) (if is_zero (law.decided left) then (d.0, suc d.1) else (law.decided left, 1)) (law.decided left)
filter_answers left true e rest d h =
    let z = is-zero-sign left.number left.error e in
    rw (e, z) (record {
      verdict = record { sign = machine.sign_of left.number; by = Filter; wide = 0; calls = 1 };
      is = refl;
      sign = same-sign left.number;
      count = refl;
      quiet = λ q. z;
    })
filter_answers left false e rest d h =
    rw e (record { verdict = h.verdict; is = h.is; sign = h.sign; count = omega (arith, h.count); quiet = λ q. absurd (h.by q) })

-- where the first function decides, it makes no wide operation
first_narrow : (zs : List ℤ) (f : FilterCode) (cs : List Code) (rest : List ℕ) (z : ℤ) (j : Counts) → is_zero (signs zs (Some f) cs 0) ≡ false
    → first_of_signs (signs zs (Some f) cs) (afters (Some f) cs) (0 ∷ rest) (record { wide = 0; calls = 0 }) ≡ Said z j → j.wide ≡ 0
first_narrow zs f cs rest z j h e =
    let r : Said (signs zs (Some f) cs 0) (entered (record { wide = 0; calls = 0 })) ≡ Said z j = rw h at e in
    counts (signs zs (Some f) cs 0) z (entered (record { wide = 0; calls = 0 })) j r refl
  where
    counts : (y z : ℤ) (i j : Counts) → Said y i ≡ Said z j → i.wide ≡ 0 → j.wide ≡ 0
    counts y z i j e h = let q : i ≡ j = cc in subst (λ (k : Counts). k.wide ≡ 0) q h

-- what a filter leaves, where there is one
abbrev pub Leaves : List ℤ → Option FilterCode → Type 0
Leaves zs None = Unit {0}
Leaves zs (Some f) = (left : Held) × (filter_value zs f ≡ Some left)

-- the machine's verdict has the first sign that isn't 0, with its calls, and no wide operation where the filter decides
pub record Same (zs : List ℤ) (f : Option FilterCode) (cs : List Code) (ns : List ℕ) : Type 0 where
  pub verdict : Verdict
  pub is : through f zs cs ns ≡ Some verdict
  pub sign : sign_as_number verdict.sign ≡ (decided (signs zs f cs) (first_of f ++ moved f ns)).0
  pub count : verdict.calls ≡ (decided (signs zs f cs) (first_of f ++ moved f ns)).1
  pub narrow : verdict.by ≡ Filter → (z : ℤ) (j : Counts)
      → first_of_signs (signs zs f cs) (afters f cs) (first_of f ++ moved f ns) (record { wide = 0; calls = 0 }) ≡ Said z j → j.wide ≡ 0

-- where the filter leaves a number and the blocks have values, the machine's verdict is as `Same` has it
pub both_same : (zs : List ℤ) (f : Option FilterCode) (cs : List Code) (ns : List ℕ) → Leaves zs f → ((n : ℕ) → Member ns n → Valued zs cs n) → Same zs f cs ns
both_same zs None cs ns l h =
    let a = along_agrees zs cs ns 0 0 0 h in
    record { verdict = a.verdict; is = a.is; sign = a.sign; count = omega (arith, a.count); narrow = λ q. absurd (a.by q) }
both_same zs (Some f) cs ns l h =
    let a = filter_answers l.0 (nat_lt l.0.error (unsigned_abs l.0.number)) refl (along zs cs ns 0 0 1) (decided (sign_at zs cs) ns)
    (along_agrees zs cs ns 0 0 1 h) in
    let t : through (Some f) zs cs ns ≡ decides l.0 (along zs cs ns 0 0 1) = rw l.1 refl in
    let s : signs zs (Some f) cs 0 ≡ law.decided l.0 = ap held_sign l.1 in
    let u : decided (signs zs (Some f) cs) (0 ∷ map suc ns)
    ≡ (if is_zero (law.decided l.0) then ((decided (sign_at zs cs) ns).0, suc (decided (sign_at zs cs) ns).1) else (law.decided l.0, 1))
    = ap (λ (z : ℤ). if is_zero z then ((decided (signs zs (Some f) cs) (map suc ns)).0, suc (decided (signs zs (Some f) cs) (map suc ns)).1) else (z, 1)) s
    ∙ ap (λ (d : ℤ × ℕ). if is_zero (law.decided l.0) then (d.0, suc d.1) else (law.decided l.0, 1)) (decided-map (signs zs (Some f) cs) ns) in
    record {
      verdict = a.verdict;
      is = t ∙ a.is;
      sign = a.sign ∙ sym (ap (λ (d : ℤ × ℕ). d.0) u);
      count = a.count ∙ sym (ap (λ (d : ℤ × ℕ). d.1) u);
      narrow = λ q z j e. first_narrow zs f cs (map suc ns) z j (ap is_zero s ∙ a.quiet q) e;
    }
