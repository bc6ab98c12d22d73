-- Answers to the goals of `put_lines` in src/body.rt.
use Rattle.std.proofs.Common.{rules, ◌≡◌, false, true, refl, arith}
use Rattle.std.proofs.lemmas.Result.{IfOk-weaker}
use Rattle.ln_cemit.proofs.Writing.Loops.{line_step, lines_end, loop_end, loop_goes, loop_named, loop_step, loop_stop, unread_is}
use Rattle.ln_cemit.proofs.body.put_lines.Goals as goal

pub returns-then-not-more : goal.returns-then-not-more
returns-then-not-more c =
    let m : c.in_ok-more.more ≡ false = search rules in
    let l = line_step _ _ c.args.ops.now c.args.ways.now c.ops.i _ _ c.requires (omega arith) refl refl in
    let u = unread_is _ c.args.ops.now c.behind.result.now c.args.ways.now c.ops.i c.ops.stack.items c.unread-idle.result c.requires
    c.behind.ensures (rw c.as_slice.ensures.value at c.unread-idle.ensures) in
    loop_stop c.in_ok-more.more _ m (loop_step c.args.e _ c.ops.i c.ops.stack.items c.ops.locals c.in_ok-more.more _ _ _
    c.put_operation.new.stack.items c.put_operation.new.locals c.unread-idle.result l u c.ops.invariant.goes c.in_ok-more.ensures.put)

pub ops-preserved : goal.ops-preserved
ops-preserved c =
    let m : c.in_ok-more.more ≡ true = search rules in
    let l = line_step _ _ c.args.ops.now c.args.ways.now c.ops.i _ _ c.requires (omega arith) refl refl in
    let u = unread_is _ c.args.ops.now c.behind.result.now c.args.ways.now c.ops.i c.ops.stack.items c.unread-idle.result c.requires
    c.behind.ensures (rw c.as_slice.ensures.value at c.unread-idle.ensures) in
    record {
      size = c.in_ok-more.ensures.size;
      goes = loop_named c.unread-idle.result _ (loop_goes c.in_ok-more.more _ m
          (loop_step c.args.e _ c.ops.i c.ops.stack.items c.ops.locals c.in_ok-more.more _ _ _ c.put_operation.new.stack.items
          c.put_operation.new.locals c.unread-idle.result l u c.ops.invariant.goes c.in_ok-more.ensures.put)) c.in_ok-put_may_name.ensures;
    }

pub returns : goal.returns
returns c = IfOk-weaker c.put_sign.result _ _ (λ _ p. loop_end c.args.e _ c.ops.i c.ops.stack.items c.ops.locals
    (lines_end c.args.ops.now c.args.ways.now c.ops.i (omega arith)) c.ops.invariant.goes (rw c.as_slice-2.ensures.value at p)) c.put_sign.ensures
