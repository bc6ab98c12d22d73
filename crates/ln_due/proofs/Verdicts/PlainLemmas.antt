-- A value that isn't 0 decides, by the filter or by the first stage.
use Rattle.std.proofs.Common.{◌≡◌, ◌≢◌, inl, inr, ℕ, List, [], length, sym, ◌∙◌, ap, subst}
use Rattle.std.proofs.Math.IntN.{ℤ, pos}
use Rattle.ln_algebra.proofs.Ordering.Admissible.{both-admissible}
use Rattle.ln_algebra.proofs.Ordering.Unique.{first-unique-in}
use Rattle.ln_algebra.proofs.Walking.Cut.{of_sites}
use Rattle.ln_algebra.proofs.Vectors.Zeros.{is_zero-zeros}
use Rattle.ln_algebra.specs.Earlier.{IsOver, Sites}
use Rattle.ln_algebra.specs.Orders.{Before, IsAdmissible, Rank}
use Rattle.ln_algebra.specs.Sign.{IsFirstIn, IsSignIn, perturbed, sign_of}
use Rattle.ln_algebra.specs.Tree.{Tree}
use Rattle.ln_algebra.specs.Vector.{In, zeros}
use Rattle.ln_tree.specs.declared.shape.VarInfo.{VarInfo}
use Rattle.ln_tree.specs.Row.{Row, values}
use Rattle.ln_bound.proofs.Trees.Plain.{plain}
use Rattle.ln_bound.specs.Value.{value}
use Rattle.ln_order.proofs.Signs.RowSigns.{rows-differ}
use Rattle.ln_order.specs.Sites.{row_sites}
use Rattle.ln_code.specs.declared.verdict.By.{By}
use Rattle.ln_code.specs.declared.verdict.By.TheVariants.{Filter, Nothing, Stage}
use Rattle.ln_code.specs.declared.verdict.Verdict.{Verdict}
use Rattle.ln_due.specs.Due.{Decided, IsDecidedBy, IsOwedByStages, IsPositionIn, NoFilter, Undecided, sign_number}
use Rattle.ln_due.specs.Plain.{IsPlain, PlainValuesDecide, ZerosHaveTheValue}
use Rattle.ln_due.proofs.Parts.FilterLemmas.{none-earlier, zeros-first}
use Rattle.ln_due.proofs.Verdicts.DueLemmas.{position-none}
use Rattle.ln_due.proofs.Verdicts.UniqueLemmas.{position-unique}

-- the coefficient at zeros is the value
pub zeros-value : ZerosHaveTheValue
zeros-value n sites x e = plain (of_sites sites) x e (zeros n) (is_zero-zeros n)

module _ (n : ℕ) (sites : Sites) (before : List ℕ → List ℕ → Type 0) (order : IsAdmissible n sites before) (x : ℕ → ℤ) (e : Tree)
    (d : value x [] e ≢ pos 0) where
  -- the first vector is that of zeros
  first : IsFirstIn before n sites x e (zeros n)
  first = zeros-first n sites before order x e (λ q. d (sym (zeros-value n sites x e) ∙ q))

  is-zeros : (a : List ℕ) → IsFirstIn before n sites x e a → a ≡ zeros n
  is-zeros a f = first-unique-in n sites before order x e a (zeros n) f first

  -- the sign is the value's
  plain-sign : (y : ℤ) → IsSignIn before n sites x e y → y ≡ sign_of (value x [] e)
  plain-sign y (inl h) = h.2 ∙ ap (λ (b : List ℕ). sign_of (perturbed sites x e b)) (is-zeros h.0 h.1) ∙ ap sign_of (zeros-value n sites x e)
  plain-sign y (inr h) = absurd (h.0 (zeros n) first)

  -- no member of a list over the variables of sites is earlier
  plain-decider : (list : List (List ℕ)) → ((b : List ℕ) → In list b → IsOver n sites b) → (b : By) (k : ℕ)
      → IsDecidedBy before n sites x e list b k → b ≡ Stage 0
  plain-decider list o Filter k h = absurd h
  plain-decider list o (Stage place) k h =
      let at : IsPositionIn before list (zeros n) place = subst (λ (a : List ℕ). IsPositionIn before list a place) (is-zeros h.0 h.1) h.2 in
      let none : IsPositionIn before list (zeros n) 0 = position-none before list (zeros n) (λ b i l. none-earlier n sites before order b (o b i) l) in
      ap Stage (position-unique before list (zeros n) place 0 at none)
  plain-decider list o Nothing k h = absurd (h.0 (zeros n) first)

  -- what the stages owe
  plain-stages : (v : Verdict) (list : List (List ℕ)) (blocks : ℕ) → IsSignIn before n sites x e (sign_number v.sign) →
      ((b : List ℕ) → In list b → IsOver n sites b) → IsDecidedBy before n sites x e list v.by blocks → IsPlain (value x [] e) v
  plain-stages v list blocks s o h = record { sign = plain-sign (sign_number v.sign) s; by = inr (plain-decider list o v.by blocks h) }

-- the verdict of the stages
module _ (rank : Rank) (vars : List VarInfo) (e : Tree) (row : Row)
    (order : IsAdmissible (length vars) (row_sites vars row.index) (Before rank (row_sites vars row.index))) (d : value (values row.values) [] e ≢ pos 0) where
  by-stages : (entered : ℕ) (v : Verdict) → IsOwedByStages rank vars e row entered v → IsPlain (value (values row.values) [] e) v
  by-stages entered v h =
      plain-stages (length vars) (row_sites vars row.index) (Before rank (row_sites vars row.index)) order
      (values row.values) e d v h.list h.blocks h.sign (λ b i. (h.stages.stages b i).over) h.decided

-- the required verdict
pub plain-decides : PlainValuesDecide
plain-decides rank s e row NoFilter v r d h =
    by-stages rank s.vars e row (both-admissible rank (length s.vars) (row_sites s.vars row.index) (rows-differ s row r)) d 0 v h
plain-decides rank s e row Undecided v r d h =
    by-stages rank s.vars e row (both-admissible rank (length s.vars) (row_sites s.vars row.index) (rows-differ s row r)) d 1 v h
plain-decides rank s e row Decided v r d h = record {
  sign = plain-sign (length s.vars) (row_sites s.vars row.index) (Before rank (row_sites s.vars row.index))
      (both-admissible rank (length s.vars) (row_sites s.vars row.index) (rows-differ s row r)) (values row.values) e d (sign_number v.sign) h.sign;
  by = inl h.by;
}
