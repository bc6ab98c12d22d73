-- Proves what decides a row on which the value of a predicate isn't 0.
use Rattle.std.proofs.Common.{◌≡◌, ◌≢◌, ◌⊎◌, inl, inr, ℕ, ◌+◌, List, ap, ◌∙◌, arith, subst}
use Rattle.std.proofs.Math.IntN.{ℤ, pos}
use Rattle.ln_algebra.specs.Earlier.{Sites}
use Rattle.ln_algebra.specs.Orders.{Rank}
use Rattle.ln_algebra.specs.Tree.{Tree}
use Rattle.ln_tree.specs.declared.shape.Shape.{Shape}
use Rattle.ln_tree.specs.declared.shape.VarInfo.{VarInfo}
use Rattle.ln_tree.specs.Row.{InRange, Row}
use Rattle.ln_tree.specs.Table.{PredOf}
use Rattle.ln_code.specs.declared.verdict.Verdict.{Verdict}
use Rattle.ln_code.specs.declared.verdict.By.{By}
use Rattle.ln_code.specs.declared.verdict.By.TheVariants.{Filter, Nothing, Stage}
use Rattle.ln_due.specs.Due.{Decided, Due, Filtering, IsDecidedBy, IsOwedByStages, NoFilter, Undecided}
use Rattle.ln_due.specs.Plain.{IsPlain}
use Rattle.ln_due.proofs.Verdicts.PlainLemmas.{plain-decides}
use Rattle.ln_compile.specs.Accepted.{root_of}
use Rattle.ln_compile.specs.Filtered.{IsDueIn}
use Rattle.ln_top.specs.ByValue.{Takes, ValuesDecide, plain_value}

-- of the filter and the first stage, what decides by a stage list is the first stage, with one block
first_stage : (before : List ℕ → List ℕ → Type 0) (n : ℕ) (sites : Sites) (x : ℕ → ℤ) (e : Tree) (list : List (List ℕ)) (by : By) (blocks : ℕ)
    → IsDecidedBy before n sites x e list by blocks → (by ≡ Filter) ⊎ (by ≡ Stage 0) → (by ≡ Stage 0) × (blocks ≡ 1)
first_stage before n sites x e list Filter blocks d o = absurd d
first_stage before n sites x e list (Stage place) blocks d (inl q) = absurd (cc)
first_stage before n sites x e list (Stage place) blocks d (inr q) =
    let z : place ≡ 0 = cc in
    (q, omega (arith, z, d.3))
first_stage before n sites x e list Nothing blocks d (inl q) = absurd (cc)
first_stage before n sites x e list Nothing blocks d (inr q) = absurd (cc)

by_stage : (rank : Rank) (vars : List VarInfo) (e : Tree) (row : Row) (entered : ℕ) (v : Verdict) → IsOwedByStages rank vars e row entered v
    → (v.by ≡ Filter) ⊎ (v.by ≡ Stage 0) → (v.by ≡ Stage 0) × (v.calls ≡ entered + 1)
by_stage rank vars e row entered v h o =
    let f = first_stage _ _ _ _ _ h.list v.by h.blocks h.decided o in
    (f.0, h.calls ∙ ap (λ (k : ℕ). entered + k) f.1)

taken : (rank : Rank) (vars : List VarInfo) (e : Tree) (row : Row) (f : Filtering) (v : Verdict) → Due rank f vars e row v
    → (v.by ≡ Filter) ⊎ (v.by ≡ Stage 0) → Takes f v.by v.calls v.wide
taken rank vars e row NoFilter v h o = by_stage rank vars e row 0 v h o
taken rank vars e row Decided v h o = (h.by, h.calls, h.wide)
taken rank vars e row Undecided v h o = by_stage rank vars e row 1 v h o

-- where the variables and the sites are those of a shape
value_decides : (rank : Rank) (s : Shape) (p : PredOf) (row : Row) (v : Verdict) → p.vars ≡ s.vars → p.sites ≡ s.sites
    → InRange p.sites p.vars row → plain_value p row ≢ pos 0 → IsDueIn rank p row v → IsPlain (plain_value p row) v
value_decides rank s p row v vars sites range d h =
    let r = rw (sites, vars) at range in
    plain-decides rank s (root_of p) row h.filtering v r d (subst (λ (w : List VarInfo). Due rank h.filtering w (root_of p) row v) vars h.due)

-- the verdict comes from the filter or from block 0, by what the filter does
pub by_value : ValuesDecide
by_value rank s p row v vars sites range d h =
    let z = value_decides rank s p row v vars sites range d h in
    record { sign_is = z.sign; filtering = h.filtering; does = h.does; takes = taken rank p.vars (root_of p) row h.filtering v h.due z.by }
