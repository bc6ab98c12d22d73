-- The laws, from their parts.
use Rattle.std.proofs.Common.{◌≡◌, ◌⊎◌, inl, inr, ℕ, ◌<◌, ◌≤◌, List, length, refl, sym, ◌∙◌, ap, subst, unsigned_abs}
use Rattle.std.specs.Prelude.{Option, Some, None}
use Rattle.std.proofs.Math.IntN.{ℤ, pos}
use Rattle.std.proofs.lemmas.Bool.{cases_lt}
use Rattle.std.proofs.lemmas.List.{length-map}
use Rattle.std.proofs.lemmas.List.Elements.{All-contains}
use Rattle.ln_base.specs.declared.sign.Sign.{Sign}
use Rattle.ln_algebra.proofs.Ordering.Admissible.{both-admissible}
use Rattle.ln_algebra.proofs.Walking.Along.{sign-along-in}
use Rattle.ln_algebra.proofs.Walking.Cut.{first-stage-in}
use Rattle.ln_algebra.proofs.Ordering.First.{nonzero-first-in}
use Rattle.ln_algebra.proofs.Expanded.Normal.{zero_cases}
use Rattle.ln_algebra.specs.Earlier.{Sites}
use Rattle.ln_algebra.specs.Orders.{Before, Rank}
use Rattle.ln_algebra.specs.Sign.{perturbed}
use Rattle.ln_algebra.specs.Terms.{Term}
use Rattle.ln_algebra.specs.Tree.{Tree}
use Rattle.ln_algebra.specs.Vector.{In}
use Rattle.ln_tree.specs.Row.{AreWithin, InRange, Row, values}
use Rattle.ln_order.proofs.Signs.RowSigns.{row-stages, rows-differ}
use Rattle.ln_order.specs.Order.{IsOrder}
use Rattle.ln_order.specs.Rows.{OrderStages, RowFirst, RowSign, RowStages}
use Rattle.ln_order.specs.Sites.{row_sites, sites_of}
use Rattle.ln_code.proofs.Filters.Filtering.{decides-above, decides-within, through-decides}
use Rattle.ln_code.proofs.Verdicts.Machine.{filter-follows, list-within}
use Rattle.ln_code.proofs.Following.Means.{blocks_mean, filters_mean}
use Rattle.ln_code.specs.Carried.{Carries, Runs, stage_at, vectors}
use Rattle.ln_code.specs.Kept.{FollowsRules}
use Rattle.ln_code.specs.Law.{FilterMeans}
use Rattle.ln_code.specs.Lists.{IsListOf}
use Rattle.ln_code.specs.Part.{FilterCode, Part}
use Rattle.ln_code.specs.Verdict.{IsVerdict, along, sign_of, through}
use Rattle.ln_code.specs.declared.verdict.By.TheVariants.{Filter}
use Rattle.ln_code.specs.declared.verdict.Verdict.{Verdict}
use Rattle.ln_due.specs.Due.{Decided, Filtering, IsOwedByStages, NoFilter, Undecided, sign_number}
use Rattle.ln_due.specs.DueLaw.{BlocksRun, CutLosesNothing, FilterDoes, SignsArePerturbed, StagesAreCoefficients, VerdictsAreDue}
use Rattle.ln_due.proofs.Verdicts.AlongLemmas.{Ends, Stops, along-finds}
use Rattle.ln_due.proofs.Parts.BlockLemmas.{computes-at, list-computes, some-same}
use Rattle.ln_due.proofs.Verdicts.DueLemmas.{Owed, end-owed, stop-owed}
use Rattle.ln_due.proofs.Parts.FilterLemmas.{decided-sign}
use Rattle.ln_due.proofs.Verdicts.UniqueLemmas.{due-sign}

-- each block of a list has the coefficient at its stage
pub stages-coefficients : StagesAreCoefficients
stages-coefficients rank p e f places list row program carries l r =
    let sites : Sites = sites_of p.shape.vars places in
    let s : OrderStages rank p.shape.vars e places (vectors p list) = carries.lists places list l in
    let c = list-computes p e f row.values sites program rank carries r.values list (list-within p places list program l) (λ a i. (s.stages a i).over) in
    record {
      stages = vectors p list;
      are_stages = s;
      size = length-map list (stage_at p);
      coefficients = λ k h. computes-at p e f row.values sites program rank carries r.values list k c h;
    }

-- the first vector is in the list, or all coefficients in it are 0
pub cut-nothing : CutLosesNothing
cut-nothing rank p e f places list row carries r o l =
    by_sign (sign-along-in (length p.shape.vars) (row_sites p.shape.vars row.index) (Before rank (row_sites p.shape.vars row.index)) (both-admissible rank
    (length p.shape.vars) (row_sites p.shape.vars row.index) (rows-differ p.shape row r)) (values row.values) e carries.inputs (vectors p list) stages)
  where
    stages : RowStages rank p.shape.vars e row (vectors p list)
    stages = row-stages rank p.shape row places e (vectors p list) r o (carries.lists places list l)

    all_zero : ((a : List ℕ) → RowFirst rank p.shape.vars e row a → ⊥) → (a : List ℕ) → In (vectors p list) a →
        (perturbed (row_sites p.shape.vars row.index) (values row.values) e a ≡ pos 0)
        ⊎ (perturbed (row_sites p.shape.vars row.index) (values row.values) e a ≡ pos 0 → ⊥) →
        perturbed (row_sites p.shape.vars row.index) (values row.values) e a ≡ pos 0
    all_zero lacks a i (inl z) = z
    all_zero lacks a i (inr d) =
        let first = nonzero-first-in (length p.shape.vars) (row_sites p.shape.vars row.index) (Before rank (row_sites p.shape.vars row.index))
        (both-admissible rank (length p.shape.vars) (row_sites p.shape.vars row.index) (rows-differ p.shape row r)) (values row.values) e a
        (stages.stages a i).over d in
        absurd (lacks first.0 first.1)

    by_sign : {t : ℤ} → RowSign rank p.shape.vars e row t →
        ((a : List ℕ) × RowFirst rank p.shape.vars e row a × In (vectors p list) a)
        ⊎ (((a : List ℕ) → RowFirst rank p.shape.vars e row a → ⊥)
        × ((a : List ℕ) → In (vectors p list) a → perturbed (row_sites p.shape.vars row.index) (values row.values) e a ≡ pos 0))
    by_sign (inl u) = inl (
      u.0,
      u.1,
      stages.all u.0 (first-stage-in (length p.shape.vars) (row_sites p.shape.vars row.index) (Before rank (row_sites p.shape.vars row.index))
          (values row.values) e carries.inputs u.0 u.1),
    )
    by_sign (inr u) = inr (u.0, λ a i. all_zero u.0 a i (zero_cases (perturbed (row_sites p.shape.vars row.index) (values row.values) e a)))

-- each block runs
pub blocks-run : BlocksRun
blocks-run p c row program i r = blocks_mean p.shape.vars row.values c r.values (All-contains (FollowsRules p.shape.vars) p.blocks c program.blocks i)

-- what the blocks of the list of a row's order return, after this many calls, is what the stages require on the row
pub along-owed : (rank : Rank) (p : Part) (e : Tree) (f : List Term) (places list : List ℕ) (row : Row) (before : ℕ) (v : Verdict) →
    Runs p → Carries rank p e f → InRange p.shape.sites p.shape.vars row →
    IsOrder row.index places → IsListOf p places list → along row.values p.blocks list 0 0 before ≡ Some v → IsOwedByStages rank p.shape.vars e row before v
along-owed rank p e f places list row before v program carries r o l run =
    record { sign = owed.sign; list = vectors p list; stages = stages; blocks = owed.blocks; decided = owed.decided; calls = owed.calls }
  where
    stages : RowStages rank p.shape.vars e row (vectors p list)
    stages = row-stages rank p.shape row places e (vectors p list) r o (carries.lists places list l)

    found : Stops (row_sites p.shape.vars row.index) (values row.values) e (vectors p list) 0 before v
        ⊎ Ends (row_sites p.shape.vars row.index) (values row.values) e (vectors p list) before v
    found = along-finds p e row.values (row_sites p.shape.vars row.index) list 0 0 before v (list-computes p e f row.values
        (row_sites p.shape.vars row.index) program rank carries r.values list (list-within p places list program l) (λ a i. (stages.stages a i).over)) run

    owed : Owed (length p.shape.vars) (row_sites p.shape.vars row.index) (values row.values) e carries.inputs (Before rank (row_sites p.shape.vars row.index))
        (both-admissible rank (length p.shape.vars) (row_sites p.shape.vars row.index) (rows-differ p.shape row r)) (vectors p list) v before
    owed = elim found [
      | inl s ↦ stop-owed (length p.shape.vars) (row_sites p.shape.vars row.index)
          (values row.values) e carries.inputs (Before rank (row_sites p.shape.vars row.index))
          (both-admissible rank (length p.shape.vars) (row_sites p.shape.vars row.index) (rows-differ p.shape row r)) (vectors p list) v before stages s
      | inr s ↦ end-owed (length p.shape.vars) (row_sites p.shape.vars row.index)
          (values row.values) e carries.inputs (Before rank (row_sites p.shape.vars row.index))
          (both-admissible rank (length p.shape.vars) (row_sites p.shape.vars row.index) (rows-differ p.shape row r)) (vectors p list) v before stages s
    ]

-- the machine of a part whose filter is known
answered-with : (p : Part) (row : Row) (v : Verdict) (o : Option FilterCode) (m : IsVerdict p row v) → p.filter ≡ o
    → through o row.values p.blocks m.list ≡ Some v
answered-with p row v o m h = subst (λ (q : Option FilterCode). through q row.values p.blocks m.list ≡ Some v) h m.answered

-- the machine's verdict is the required one
pub verdicts-due : VerdictsAreDue
verdicts-due rank p e f row NoFilter v program carries r does m =
    along-owed rank p e f m.places m.list row 0 v program carries r m.order m.chosen (answered-with p row v None m does)
verdicts-due rank p e f row Undecided v program carries r (c, left, here, a, within) m =
    let run : along row.values p.blocks m.list 0 0 1 ≡ Some v =
    sym (decides-within left (along row.values p.blocks m.list 0 0 1) within) ∙ sym (through-decides row.values c left p.blocks m.list a)
    ∙ answered-with p row v (Some c) m here in
    along-owed rank p e f m.places m.list row 1 v program carries r m.order m.chosen run
verdicts-due rank p e f row Decided v program carries r (c, left, here, a, above) m =
    let q : record { sign = sign_of left.number; by = Filter; wide = 0; calls = 1 } ≡ v =
    some-same _ v (sym (decides-above left (along row.values p.blocks m.list 0 0 1) above)
    ∙ sym (through-decides row.values c left p.blocks m.list a) ∙ answered-with p row v (Some c) m here) in
    let s : sign_of left.number ≡ v.sign = ap (λ (w : Verdict). w.sign) q in
    record {
      sign = subst (λ (t : Sign). RowSign rank p.shape.vars e row (sign_number t)) s
          (decided-sign rank p e f row.values (row_sites p.shape.vars row.index) c left program (rows-differ p.shape row r) carries r.values here a above);
      by = ap (λ (w : Verdict). w.by) (sym q);
      calls = ap (λ (w : Verdict). w.calls) (sym q);
      wide = ap (λ (w : Verdict). w.wide) (sym q);
    }

-- a filter decides on a row in range, or it doesn't, or there is none
filter-does : (p : Part) (zs : List ℤ) → Runs p → AreWithin p.shape.vars zs → (o : Option FilterCode) → p.filter ≡ o → (does : Filtering) × FilterDoes p zs does
filter-does p zs program row None here = (NoFilter, here)
filter-does p zs program row (Some c) here = by_case (cases_lt m.left.error (unsigned_abs m.left.number)) where
  m : FilterMeans p.shape.vars zs c
  m = filters_mean p.shape.vars zs c row (filter-follows p c program here)

  by_case : (m.left.error < unsigned_abs m.left.number) ⊎ (unsigned_abs m.left.number ≤ m.left.error) → (does : Filtering) × FilterDoes p zs does
  by_case (inl h) = (Decided, (c, m.left, here, m.answer, h))
  by_case (inr h) = (Undecided, (c, m.left, here, m.answer, h))

-- and its sign is the perturbed sign
pub signs-perturbed : SignsArePerturbed
signs-perturbed rank p e f row v program carries r m =
    let d = filter-does p row.values program r.values p.filter refl in
    due-sign rank p.shape.vars e row d.0 v (verdicts-due rank p e f row d.0 v program carries r d.1 m)
