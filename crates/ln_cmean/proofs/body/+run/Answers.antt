use Rattle.std.proofs.Common.{◌≡◌, length, arith}
use Rattle.std.proofs.lemmas.Result.{on_ok_weaker}
use Rattle.ln_cmean.specs.Answered.{tally}
use Rattle.ln_cmean.specs.Room.{slots_in}
use Rattle.ln_cmean.specs.Scene.{scene_of}
use Rattle.ln_cmean.specs.Slots.{seen}
use Rattle.ln_cmean.proofs.Runs.{front_then, going_on, left_on, left_same, same_front, same_then, went_all}
use Rattle.ln_cmean.proofs.body.+run.Goals as goal

pub run-stmts-preserved : goal.run-stmts-preserved
run-stmts-preserved g t c =
    let at = c.stmts.s in
    let new = c.step.new.s in
    let ss = c.args.stmts.now in
    let i = c.stmts.stmt-index in
    let item = c.stmt-item.result in
    record {
      going = going_on (scene_of (g.C.Calls.given c.args.calls.now) c.args.inputs.now) ss i item _ (seen at) (seen new)
          (tally c.stmts.counts) (tally c.step.new.counts) c.step.result c.in-Ok-Went.field-0 c.stmts-test.true c.stmt-item.is
          c.stmts.invariant.going c.step.ensures.meaning c.in-Ok-Went.is c.in-Ok-Went.field-0-is;
      capacity = omega (arith, c.stmts.invariant.capacity, c.step.ensures.capacity);
      front = front_then c.args.s.now at new c.stmts.invariant.front c.in-Ok-Went.ensures.front;
      slots_left = left_on slots_in ss i item (length at.slots.items) (length new.slots.items) _ c.stmts-test.true c.stmt-item.is
          c.stmts.invariant.slots_left (λ rest. c.in-Ok-Went.ensures.room rest);
    }

pub run-returns-clause-same : goal.run-returns-clause-same
run-returns-clause-same g t c =
    let n : c.len-slots.result ≡ length c.args.s.now.slots.items = omega (arith, c.len-slots.ensures, c.args.s.now.slots.ok.0) in
    left_same c.args.s.now c.stmts.s c.leave-2.new.s _ n c.stmts.invariant.front c.leave-2.ensures.base c.leave-2.ensures.slots

pub step-returns-in-Group-clause-front : goal.step-returns-in-Group-clause-front
step-returns-in-Group-clause-front g t c = on_ok_weaker c.run.result (same_front c.args.s.now c.run.new.s) c.run.ensures.same

pub run-returns-in-Ok-Said-clause-same : goal.run-returns-in-Ok-Said-clause-same
run-returns-in-Ok-Said-clause-same g t c =
    let n : c.len-slots.result ≡ length c.args.s.now.slots.items = omega (arith, c.len-slots.ensures, c.args.s.now.slots.ok.0) in
    let f = front_then c.args.s.now c.stmts.s c.step.new.s c.stmts.invariant.front c.in-Ok-Said.ensures.front in
    left_same c.args.s.now c.step.new.s c.leave.new.s _ n f c.leave.ensures.base c.leave.ensures.slots

pub run-returns-clause-meaning : goal.run-returns-clause-meaning
run-returns-clause-meaning g t c =
    went_all (scene_of (g.C.Calls.given c.args.calls.now) c.args.inputs.now) c.args.stmts.now c.stmts.stmt-index _ (seen c.stmts.s)
    (tally c.stmts.counts) (omega (arith, c.stmts-test.false)) c.stmts.invariant.going

pub step-wanted_value-requires : goal.step-wanted_value-requires
step-wanted_value-requires g t c = record { based = c.requires.1.based; fit = omega (arith, c.requires.1.fit) }

pub step-wanted_value-requires-in-Return : goal.step-wanted_value-requires-in-Return
step-wanted_value-requires-in-Return g t c = record { based = c.requires.1.based; fit = omega (arith, c.requires.1.fit) }

pub step-returns-then-number-eq0-clause-front : goal.step-returns-then-number-eq0-clause-front
step-returns-then-number-eq0-clause-front g t c = same_front c.args.s.now c.wanted_value.new.s c.in-Ok.ensures.same

pub step-returns-else-number-eq0-clause-front : goal.step-returns-else-number-eq0-clause-front
step-returns-else-number-eq0-clause-front g t c =
    on_ok_weaker c.run-else-number-eq0.result (λ p. same_front _ _ (same_then _ _ _ c.in-Ok.ensures.same p)) c.run-else-number-eq0.ensures.same

pub step-returns-in-Ok-wanted_value-clause-front : goal.step-returns-in-Ok-wanted_value-clause-front
step-returns-in-Ok-wanted_value-clause-front g t c = same_front c.args.s.now c.wanted_value-in-Return.new.s c.in-Ok-wanted_value.ensures.same
