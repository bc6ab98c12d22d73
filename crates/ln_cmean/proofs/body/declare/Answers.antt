use Rattle.std.proofs.Common.{None, ◌∙◌, arith, rules}
use Rattle.std.specs.Prelude.{FitsSigned}
use Rattle.std.specs.Int.{w128}
use Rattle.std.proofs.lemmas.Int.{to_z-of_z}
use Rattle.ln_cmean.specs.Answered.{tally}
use Rattle.ln_cmean.specs.Slots.{seen}
use Rattle.ln_cmean.specs.Scene.{scene_of}
use Rattle.ln_csyn.specs.View.{expr_tree}
use Rattle.ln_cmean.proofs.Slots.{declared, not_declared, seen_same}
use Rattle.ln_cmean.proofs.Runs.{front_set}
use Rattle.ln_cmean.proofs.body.declare.Goals as goal

pub returns-in-Ok-clause-meaning : goal.returns-in-Ok-clause-meaning
returns-in-Ok-clause-meaning g c = λ rest.
    let old = c.args.s.now in
    let e = seen_same c.open.new.s c.wanted_value.new.s c.in-Ok.ensures.same ∙ c.open.ensures.seen in
    let fits : FitsSigned w128 c.in-Ok.number = search rules in
    let a = simp to_z-of_z at (c.settle.ensures.seen (record { name = c.args.name.now; kind = c.args.of.now.kind; number = None }) (seen old) e) in
    declared (scene_of (g.C.Calls.given c.args.calls.now) c.args.inputs.now) c.args.of.now.line c.args.of.now.kind c.args.name.now
    (expr_tree c.args.of.now.expr.now) rest (seen old) (seen c.open.new.s) (seen c.settle.new.s) (tally c.args.counts.now)
    (tally c.wanted_value.new.counts) c.in-Ok.number c.open.ensures.seen a c.in-Ok.ensures.meaning

pub returns-in-Err-clause-meaning : goal.returns-in-Err-clause-meaning
returns-in-Err-clause-meaning g c = λ rest.
    not_declared (scene_of (g.C.Calls.given c.args.calls.now) c.args.inputs.now) c.args.of.now.line c.in-Err.l c.args.of.now.kind c.args.name.now
    (expr_tree c.args.of.now.expr.now) rest (seen c.args.s.now) (seen c.open.new.s) (tally c.args.counts.now) c.open.ensures.seen c.in-Err.ensures.meaning

pub wanted_value-requires : goal.wanted_value-requires
wanted_value-requires g c = record {
  based = omega (arith, c.requires.based, c.open.ensures.front.base_front, c.open.ensures.room);
  fit = omega (arith, c.requires.fit, c.open.ensures.room, c.open.ensures.capacity);
}

pub returns-in-Ok-clause-front : goal.returns-in-Ok-clause-front
returns-in-Ok-clause-front g c =
    front_set c.args.s.now c.open.new.s c.wanted_value.new.s c.settle.new.s c.open.ensures.front c.open.ensures.room c.in-Ok.ensures.same
    c.settle.ensures.base c.settle.ensures.before
