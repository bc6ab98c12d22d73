-- Factors at their places, and one more verdict filled in.
use Rattle.std.proofs.Common.{
  ◌≡◌,
  ◌⊎◌,
  inl,
  inr,
  ℕ,
  zero,
  suc,
  ◌+◌,
  ◌<◌,
  List,
  [],
  ◌∷◌,
  length,
  get_or,
  set,
  refl,
  sym,
  ◌∙◌,
  ap,
  subst,
  arith,
  Some,
}
use Rattle.std.specs.Prelude.{slice_get}
use Rattle.std.proofs.lemmas.Bool.{cases_eq, cases_lt}
use Rattle.std.proofs.lemmas.List.{get_or-set_same}
use Rattle.std.proofs.Math.ListN.{length-set}
use Rattle.std.proofs.lemmas.Option.{slice_get-get_or, slice_get_within}
use Rattle.ln_tree.specs.Row.{InRange}
use Rattle.ln_code.specs.Memory.{MadeFor}
use Rattle.ln_code.specs.Part.{Part}
use Rattle.ln_code.specs.RowOf.{row_of}
use Rattle.ln_code.specs.Verdict.{IsVerdict}
use Rattle.ln_code.specs.declared.row.Row.{Row}
use Rattle.ln_code.specs.declared.scratch.Scratch.{Scratch}
use Rattle.ln_code.specs.declared.verdict.Verdict.{Verdict}
use Rattle.ln_factor.specs.Factors.{AreMadeFor, AreVerdicts, IsFactor, IsRowOfFactors}

-- ---- lists
set-same : {A : Type 0} (xs : List A) (k : ℕ) (x : A) → k < length xs → slice_get (set xs k x) k ≡ Some x
set-same xs k x h = slice_get-get_or (set xs k x) k x (omega (arith, h, length-set xs k x)) ∙ ap Some (get_or-set_same xs k x x h)

set-other : {A : Type 0} (xs : List A) (k j : ℕ) (x : A) → (j ≡ k → ⊥) → slice_get (set xs k x) j ≡ slice_get xs j
set-other [] k j x d = refl
set-other (y ∷ xs) zero zero x d = absurd (d refl)
set-other (y ∷ xs) zero (suc j) x d = refl
set-other (y ∷ xs) (suc k) zero x d = refl
set-other (y ∷ xs) (suc k) (suc j) x d = set-other xs k j x (λ e. d (ap suc e))

-- what holds of each at its place holds where one is set of which it holds
set-each : {A : Type 0} (P : ℕ → A → Type 0) (xs : List A) (k : ℕ) (x : A) → k < length xs → P k x
    → ((j : ℕ) (y : A) → (j ≡ k → ⊥) → slice_get xs j ≡ Some y → P j y) → (j : ℕ) (y : A) → slice_get (set xs k x) j ≡ Some y → P j y
set-each P xs k x h here others j y e = by (cases_eq j k) where
  by : (j ≡ k) ⊎ (j ≡ k → ⊥) → P j y
  by (inr d) = others j y d (sym (set-other xs k j x d) ∙ e)
  by (inl q) =
      let n : Some x ≡ Some y = sym (set-same xs k x h) ∙ subst (λ (i : ℕ). slice_get (set xs k x) i ≡ Some y) q e in
      let w : x ≡ y = cc in
      subst (λ (i : ℕ). P i y) (sym q) (subst (P k) w here)

-- ---- the factor at hand
module _ (ps : List Part) (which : List ℕ) (r : Row) (k : ℕ) (h : k < length which) where
  -- the program at the place that is named
  pub factor-here : (p : Part) → slice_get ps (get_or which k 0) ≡ Some p → IsFactor ps which k p
  factor-here p e = record { place = get_or which k 0; named = slice_get-get_or which k 0 h; there = e }

  place-here : (p : Part) → IsFactor ps which k p → slice_get ps (get_or which k 0) ≡ Some p
  place-here p f =
      let n : Some f.place ≡ Some (get_or which k 0) = sym f.named ∙ slice_get-get_or which k 0 h in
      let q : f.place ≡ get_or which k 0 = cc in
      rw (← q) f.there

  -- the scratch of the factor at hand is made for it
  pub made-here : (ss : List Scratch) (s : Scratch) → AreMadeFor ps which ss → (p : Part) → slice_get ps (get_or which k 0) ≡ Some p
      → MadeFor p (get_or ss k s)
  made-here ss s m p e = m.made k p (get_or ss k s) (factor-here p e) (slice_get-get_or ss k s (omega (arith, h, m.size)))

  -- the row is in range for the factor at hand
  pub range-here : IsRowOfFactors ps which r → (p : Part) → slice_get ps (get_or which k 0) ≡ Some p
      → InRange p.shape.sites p.shape.vars (row_of p.shape.sites p.shape.vars r)
  range-here o p e = let a = o.alike k p (factor-here p e) in rw (a.0, a.1) o.range

  -- its scratch is changed, and stays made for it
  pub made-more : (ss : List Scratch) (s : Scratch) → AreMadeFor ps which ss
      → ((p : Part) → slice_get ps (get_or which k 0) ≡ Some p → MadeFor p s) → AreMadeFor ps which (set ss k s)
  made-more ss s m new = record {
    size = length-set ss k s ∙ m.size;
    made = λ j p t f e. set-each (λ i u. IsFactor ps which i p → MadeFor p u) ss k s (omega (arith, h, m.size))
        (λ g. new p (place-here p g)) (λ i u d z g. m.made i p u g z) j t e f;
  }

  -- the verdicts at the first n places are those of the factors on the row
  abbrev pub AreFilled : ℕ → List Verdict → Type 0
  AreFilled n vs = (j : ℕ) (p : Part) (v : Verdict) → j < n → IsFactor ps which j p → slice_get vs j ≡ Some v
      → IsVerdict p (row_of p.shape.sites p.shape.vars r) v

  -- the verdict of the factor at hand is filled in, after those before it
  pub filled-more : (vs : List Verdict) (v : Verdict) → length vs ≡ length which → AreFilled k vs
      → ((p : Part) → slice_get ps (get_or which k 0) ≡ Some p → IsVerdict p (row_of p.shape.sites p.shape.vars r) v)
      → AreFilled (k + 1) (set vs k v)
  filled-more vs v size old new j p u l f e =
      set-each (λ i w. i < k + 1 → IsFactor ps which i p → IsVerdict p (row_of p.shape.sites p.shape.vars r) w) vs k v (omega (arith, h, size))
      (λ m g. new p (place-here p g)) (λ i w d z m g. old i p w (omega (arith, m, d)) g z) j u e l f

-- all are filled in
pub all-filled : (ps : List Part) (which : List ℕ) (r : Row) (n : ℕ) (vs : List Verdict) → length vs ≡ length which → (n < length which → ⊥)
    → ((j : ℕ) (p : Part) (v : Verdict) → j < n → IsFactor ps which j p → slice_get vs j ≡ Some v
    → IsVerdict p (row_of p.shape.sites p.shape.vars r) v) → AreVerdicts ps which r vs
all-filled ps which r n vs size past each = record {
  size = size;
  each = λ j p v f e. each j p v
      (within j (slice_get_within which j f.place f.named)) f e;
} where
  within : (j : ℕ) → j < length which → j < n
  within j l = elim (cases_lt n (length which)) [ inl m ↦ absurd (past m) | inr m ↦ omega (arith, l, m) ]
