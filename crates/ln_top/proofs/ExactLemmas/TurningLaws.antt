-- The calls of C of one order mean the perturbed signs.
use Rattle.std.proofs.Common.{◌≡◌, ℕ, ℤ, pos, negsuc, suc, zero, ◌<◌, ◌≤◌, List, [], ◌∷◌, length, take, map, refl, ap, sym, ◌∙◌, subst}
use Rattle.std.proofs.Common.{arith, Option, None, Some}
use Rattle.std.specs.Prelude.{option_map, slice_get}
use Rattle.std.specs.List.{range_with_len}
use Rattle.std.proofs.lemmas.Option.{slice_get-map}
use Rattle.ln_algebra.specs.Orders.{BySmallest}
use Rattle.ln_algebra.specs.Terms.{Term, power_of}
use Rattle.ln_algebra.specs.Tree.{InputsBelow, Tree}
use Rattle.ln_tree.specs.declared.pred.Pred.{Pred}
use Rattle.ln_tree.specs.declared.shape.VarInfo.{VarInfo}
use Rattle.ln_tree.specs.Names.{name_bytes}
use Rattle.ln_tree.specs.Row.{InRange, Row}
use Rattle.ln_tree.specs.Table.{PredOf, pred_of}
use Rattle.ln_order.specs.Exchanged.{IndicesRise, NeighboursTurn, inversions}
use Rattle.ln_order.specs.Order.{IsOrder}
use Rattle.ln_order.specs.Rows.{RowSign}
use Rattle.ln_order.proofs.Exchanging.RowSigns.{sign-along-steps}
use Rattle.ln_order.proofs.Exchanging.Sorting.{rising-in-order, rows-sort}
use Rattle.ln_stage.specs.declared.symmetry.Symmetry.{Symmetry}
use Rattle.ln_stage.specs.declared.symmetry.Symmetry.TheVariants as symmetry
use Rattle.ln_stage.specs.Symmetry.{neighbour_partners}
use Rattle.ln_code.specs.Carried.{Carries, Runs}
use Rattle.ln_code.specs.Kept.{IsProgram}
use Rattle.ln_code.specs.OneOrder.{in_one_order, list_in_turn, past_all}
use Rattle.ln_code.specs.Part.{Code, Part, without_filter}
use Rattle.ln_code.specs.declared.verdict.Verdict.{Verdict}
use Rattle.ln_code.specs.Verdict.{IsVerdict}
use Rattle.ln_code.proofs.OneOrder.{one-order-decides}
use Rattle.ln_due.specs.Due.{sign_number}
use Rattle.ln_due.proofs.Verdicts.Composition.{signs-perturbed}
use Rattle.ln_compile.specs.Accepted.{IsSound, root_of}
use Rattle.ln_compile.specs.Compiled.{IsProgramOf}
use Rattle.ln_compile.specs.Symmetry.{IsSymmetryAt, IsSymmetryOf}
use Rattle.ln_csyn.specs.Tree.{Fun}
use Rattle.ln_csyn.specs.Meaning.{CCall, Signed}
use Rattle.ln_cemit.specs.declared.entry.Entry.{Entry}
use Rattle.ln_cemit.specs.declared.entry.Entry.TheVariants.{Alternating, EveryRow, Symmetric}
use Rattle.ln_cemit.specs.Emitted.{EntrySays}
use Rattle.ln_cemit.specs.Names.{entry_name}
use Rattle.ln_cemit.specs.Whole.{part_name}
use Rattle.ln_top.proofs.TextsLemmas.EmitLaws.{same_number}
use Rattle.ln_top.proofs.Theorem.HeadlineLaws.{never_zero}
use Rattle.ln_top.specs.ExactSigns.{MeansSign}
use Rattle.ln_top.specs.OneOrder.{EntrySigns, HasEntry, HasEntryAt, RisingSigns}
use Rattle.ln_top.specs.OneOrder.{SortsToSign}
use Rattle.ln_top.specs.OneOrder.{entry_for, few_sites, keeps, no_symmetry, reduced, turns}

-- ---- what a function is for
-- the predicate of a number is the table's
pred_there : (preds : List Pred) (i : ℕ) (q : Pred) (p : PredOf) → slice_get preds i ≡ Some q → slice_get (map pred_of preds) i ≡ Some p → pred_of q ≡ p
pred_there preds i q p e f = inside (sym (sym (slice_get-map pred_of preds i) ∙ f) ∙ ap (option_map pred_of) e) where
  inside : {p r : PredOf} → Some p ≡ Some r → r ≡ p
  inside e = cc

-- fewer than two sites
pub few_at : (preds : List Pred) (i : ℕ) (q : Pred) → slice_get preds i ≡ Some q → q.shape.sites < 2 → HasEntryAt (map pred_of preds) i EveryRow
few_at preds i q e h p f = subst (λ (r : PredOf). HasEntry r EveryRow) (pred_there preds i q p e f) (few_sites h)

entry_is : (p : PredOf) (o : Option Symmetry) → 2 ≤ p.sites → IsSymmetryOf p o → HasEntry p (entry_for o)
entry_is p (Some symmetry.Alternating) h s = turns h s
entry_is p (Some symmetry.Symmetric) h s = keeps h s
entry_is p None h s = no_symmetry s

-- two sites or more, by the symmetry
pub entry_at : (preds : List Pred) (i : ℕ) (q : Pred) (o : Option Symmetry) → slice_get preds i ≡ Some q → 2 ≤ q.shape.sites
    → IsSymmetryAt (map pred_of preds) i o → HasEntryAt (map pred_of preds) i (entry_for o)
entry_at preds i q o e h s p f = entry_is p o (subst (λ (r : PredOf). 2 ≤ r.sites) (pred_there preds i q p e f) h) (s p f)

-- ---- the program of one order
-- it has the predicate's name
pub name_reduced : (n : Entry) (c : Part) → part_name (reduced n c) ≡ part_name c
name_reduced EveryRow c = refl
name_reduced Alternating c = refl
name_reduced Symmetric c = refl

-- no filter
pub bare_reduced : (n : Entry) (c : Part) → (reduced n c).filter ≡ None
bare_reduced EveryRow c = refl
bare_reduced Alternating c = refl
bare_reduced Symmetric c = refl

-- and no more blocks
few_taken : (t : ℕ) (cs : List Code) → length (take t cs) ≤ length cs
few_taken zero cs = omega arith
few_taken (suc t) [] = omega arith
few_taken (suc t) (c ∷ cs) = omega (arith, few_taken t cs)

-- nor has the whole of it
pub few_reduced : (n : Entry) (c : Part) → length (reduced n c).blocks ≤ length c.blocks
few_reduced EveryRow c = omega arith
few_reduced Alternating c = few_taken (past_all (list_in_turn c)) c.blocks
few_reduced Symmetric c = few_taken (past_all (list_in_turn c)) c.blocks

-- ---- calls
-- a program without its filter carries what the program carries, and runs
bare_carries : (c : Part) (e : Tree) (f : List Term) → Carries BySmallest c e f → Carries BySmallest (without_filter c) e f
bare_carries c e f k = record {
  inputs = k.inputs;
  normal = k.normal;
  lists = λ places list h. k.lists places list (record { order = h.order; list_is = h.list_is });
  blocks = k.blocks;
  filter = tt;
}

bare_runs : (c : Part) → IsProgram c → Runs (without_filter c)
bare_runs c k = record { blocks = k.blocks; filter = tt; prefixes = k.prefixes; named = k.named }

-- the call on a row on which its part decides as a program without its filter means the perturbed sign
pub call_sign : (file : List Fun) (p : Pred) (n : Entry) (c q : Part) (row : Row) → IsProgram c → IsProgramOf (pred_of p) c
    → name_bytes p.shape.name ≡ name_bytes p.name → IsSound (pred_of p) → InRange p.shape.sites p.shape.vars row → part_name q ≡ part_name c
    → (InRange c.shape.sites c.shape.vars row → (v : Verdict) → IsVerdict q row v → IsVerdict (without_filter c) row v)
    → EntrySays file (record { entry = n; part = q }) row → MeansSign file (entry_name n (name_bytes p.name)) (pred_of p) row
call_sign file p n c q row k o name sound range same decides s =
    let there : InRange c.shape.sites c.shape.vars row = rw (o.sites, o.vars) range in
    let due : RowSign BySmallest c.shape.vars (root_of (pred_of p)) row (sign_number s.verdict.sign) =
    signs-perturbed BySmallest (without_filter c) (root_of (pred_of p)) _ row s.verdict (bare_runs c k)
    (bare_carries c (root_of (pred_of p)) _ o.carries) there (decides there s.verdict s.machine) in
    let sign : RowSign BySmallest p.shape.vars (root_of (pred_of p)) row (sign_number s.verdict.sign) =
    subst (λ (vs : List VarInfo). RowSign BySmallest vs (root_of (pred_of p)) row (sign_number s.verdict.sign)) o.vars due in
    record {
      sign = s.verdict.sign;
      counts = s.counts;
      called =
          subst (λ (x : List ℕ). CCall file (entry_name n x) row.index row.values ≡ Some
          (Signed (sign_number s.verdict.sign) s.counts)) (same ∙ o.name ∙ name)
          (s.called ∙ ap (λ z. Some (Signed z s.counts)) (same_number s.verdict.sign));
      perturbed = sign;
      never_zero = λ all. never_zero p row range sound all s.verdict.sign sign;
    }

-- on a row whose indices rise the part of one order decides so
rising_turn : (c : Part) (row : Row) → InRange c.shape.sites c.shape.vars row → IndicesRise row → IsOrder row.index (range_with_len 0 c.shape.sites)
rising_turn c row there rises = subst (λ m. IsOrder row.index (range_with_len 0 m)) there.size (rising-in-order row.index rises)

-- so each row has its sign by the call on the row with its sites sorted
rising_signs : (file : List Fun) (p : Pred) (n : Entry) (c : Part) (s : ℤ)
    → NeighboursTurn p.shape.sites p.shape.vars (neighbour_partners p.shape.vars) s (root_of (pred_of p)) → IsProgram c → IsProgramOf (pred_of p) c
    → name_bytes p.shape.name ≡ name_bytes p.name → IsSound (pred_of p)
    → ((row : Row) → InRange c.shape.sites c.shape.vars row → EntrySays file (record { entry = n; part = in_one_order c }) row)
    → RisingSigns file (entry_name n (name_bytes p.name)) (pred_of p) s
rising_signs file p n c s t k o name sound says = record { rising = rising; sorted = sorted } where
  rising : (row : Row) → InRange p.shape.sites p.shape.vars row → IndicesRise row → MeansSign file (entry_name n (name_bytes p.name)) (pred_of p) row
  rising row range rises =
      call_sign file p n c (in_one_order c) row k o name sound range refl (λ there v. one-order-decides c k row v (rising_turn c row there rises))
      (says row (rw (o.sites, o.vars) range))

  sorted : (row : Row) → InRange p.shape.sites p.shape.vars row → SortsToSign file (entry_name n (name_bytes p.name)) (pred_of p) s row
  sorted row range =
      let to = rows-sort p.shape.sites p.shape.vars (neighbour_partners p.shape.vars) s row (λ j l. (t j l).0) range in
      let m = rising to.sorted to.range to.rises in
      let inputs : InputsBelow (length p.shape.vars) (root_of (pred_of p)) =
      subst (λ (vs : List VarInfo). InputsBelow (length vs) (root_of (pred_of p))) o.vars o.carries.inputs in
      record {
        to = to;
        sign = m.sign;
        counts = m.counts;
        called = m.called;
        perturbed = sign-along-steps BySmallest p.shape.sites p.shape.vars (root_of (pred_of p)) (neighbour_partners p.shape.vars) s
            (power_of s (inversions row.index)) row to.sorted (sign_number m.sign) inputs t to.steps m.perturbed;
      }

-- the calls of a predicate's function, by what it is for
pub entry_signs : (file : List Fun) (p : Pred) (n : Entry) (c : Part) → HasEntry (pred_of p) n → IsProgram c → IsProgramOf (pred_of p) c
    → name_bytes p.shape.name ≡ name_bytes p.name → IsSound (pred_of p)
    → ((row : Row) → InRange (reduced n c).shape.sites (reduced n c).shape.vars row → EntrySays file (record { entry = n; part = reduced n c }) row)
    → EntrySigns file (pred_of p) n
entry_signs file p EveryRow c h k o name sound says = λ row range.
    call_sign file p EveryRow c (without_filter c) row k o name sound range refl (λ there v d. d) (says row (rw (o.sites, o.vars) range))
entry_signs file p Alternating c (turns l t) k o name sound says = rising_signs file p Alternating c (negsuc 0) t k o name sound says
entry_signs file p Symmetric c (keeps l t) k o name sound says = rising_signs file p Symmetric c (pos 1) t k o name sound says
