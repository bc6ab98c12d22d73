use Rattle.std.proofs.Common.{◌≡◌, ◌+◌, ◌≤◌, length, drop}
use Rattle.ln_csyn.specs.Meaning.{runs}
use Rattle.ln_cmean.specs.Answered.{tally}
use Rattle.ln_cmean.specs.Room.{IsNoSmaller, IsExtended, slots_in}
use Rattle.ln_cmean.specs.Slots.{seen}
use Rattle.ln_csyn.specs.View.{body_tree}
use Rattle.ln_cmean.specs.Scene.{scene_of}
use Rattle.ln_cmean.proofs.body.+run.Given as goal

abbrev pub invariant-run-stmts : goal.invariant-run-stmts
invariant-run-stmts g l = record {
  going : runs (scene_of (g.C.Calls.given l.calls) l.inputs) (seen l.fn.s) (body_tree l.stmts) (tally l.fn.counts)
      ≡ runs (scene_of (g.C.Calls.given l.calls) l.inputs) (seen l.s) (body_tree (drop l.stmt-index l.stmts)) (tally l.counts);
  capacity : IsNoSmaller l.fn.s l.s;
  front : IsExtended l.fn.s l.s;
  slots_left : length l.s.slots.items + slots_in (body_tree (drop l.stmt-index l.stmts)) ≤ length l.fn.s.slots.items + slots_in (body_tree l.stmts);
}
