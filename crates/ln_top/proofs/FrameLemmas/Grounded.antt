-- What is given stands for a table in memory.
use Rattle.std.proofs.Common.{◌≡◌, ℕ, Bool, true, false, cond, find, bytes_eq, List, [], ◌∷◌, Option, Some, None, option_map, ap, ◌∙◌}
use Rattle.std.proofs.Common.{subst}
use Rattle.std.proofs.lemmas.Option.{none-some, same_Some}
use Rattle.ln_tree.specs.declared.table.Table.{Table}
use Rattle.ln_tree.specs.declared.pred.Pred.{Pred}
use Rattle.ln_tree.specs.Table.{TableOf, PredOf, pred_of}
use Rattle.ln_parse.specs.ReadsBack.{Every}
use Rattle.ln_compile.specs.Accepted.{AreSound}
use Rattle.ln_top.specs.Frame.Source.{view}
use Rattle.ln_top.specs.Frame.Given.{Given, named}
use Rattle.ln_top.proofs.FrameLemmas.FindLaws.{named_in, named_like}

-- each of these predicates is the first of some name
abbrev pub AreFound : List PredOf → List PredOf → Type 0
AreFound table [] = Unit {0}
AreFound table (p ∷ ps) = ((name : List ℕ) × (named name table ≡ Some p)) × AreFound table ps

-- what is given stands for a table in memory, whose predicates have no fault
pub record IsGrounded (g : Given) : Type 0 where
  pub table : Table
  pub is : view table ≡ g.table
  pub sound : AreSound g.table.preds
  pub found : AreFound g.table.preds g.preds

-- what holds of each predicate of the table holds of those that were found
found_if : (Q : PredOf → Type 0) (test : PredOf → Bool) (p x : PredOf) (ps : List PredOf) (v : Bool) → Q x
    → (find test ps ≡ Some p → Q p) → cond v (Some x) (find test ps) ≡ Some p → Q p
found_if Q test p x ps true q h f = subst Q (same_Some x p f) q
found_if Q test p x ps false q h f = h f

found_has : (Q : PredOf → Type 0) (name : List ℕ) (ps : List PredOf) (p : PredOf) → Every Q ps → named name ps ≡ Some p → Q p
found_has Q name [] p h f = absurd (none-some p f)
found_has Q name (x ∷ ps) p h f =
    found_if Q (λ q. bytes_eq q.name name) p x ps (bytes_eq x.name name) h.0 (found_has Q name ps p h.1) f

-- and so of all of them
pub each_found : (Q : PredOf → Type 0) (table ps : List PredOf) → Every Q table → AreFound table ps → Every Q ps
each_found Q table [] h f = tt
each_found Q table (p ∷ ps) h f = (found_has Q f.0.0 table p h f.0.1, each_found Q table ps h f.1)

-- a predicate of it is in memory
by_named : (p : PredOf) (o : Option Pred) → option_map pred_of o ≡ Some p → (q : Pred) × (pred_of q ≡ p)
by_named p None e = absurd (none-some p e)
by_named p (Some q) e = (q, same_Some (pred_of q) p e)

-- the first of the given predicates is in memory
pub in_memory : (g : Given) (p : PredOf) (rest : List PredOf) → IsGrounded g → g.preds ≡ p ∷ rest
    → (q : Pred) × (pred_of q ≡ p)
in_memory g p rest h e =
    let found : AreFound g.table.preds (p ∷ rest) = subst (AreFound g.table.preds) e h.found in
    by_named p (named_in found.0.0 h.table.preds) (named_like found.0.0 h.table.preds
    ∙ ap (λ (t : TableOf). named found.0.0 t.preds) h.is ∙ found.0.1)
