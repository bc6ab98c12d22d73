use Rattle.std.proofs.Common.{string_bytes, rules, sym}
use Rattle.ln_top.proofs.Steps.Prepared.{looking_more, looking_all, looking_stops, left_more, left_none, refused_halts}
use Rattle.ln_top.proofs.prepare.numbers.Goals as goal

pub returns-in_default-clause-err : goal.returns-in_default-clause-err
returns-in_default-clause-err c =
    let l = left_more string_bytes c.args.names.now c.names.name-index c.name-item.result c.names-test.true c.name-item.is in
    looking_stops c.args.c.now.table.preds _ _ _ _ _ c.names.invariant.0 l (sym (rw c.as_str.ensures.value at c.in_default.ensures))

pub returns-in_err-push-clause-err : goal.returns-in_err-push-clause-err
returns-in_err-push-clause-err c = refused_halts _ _ c.from_residual.result c.from_residual.ensures.1

pub names-preserved : goal.names-preserved
names-preserved c =
    let l = left_more string_bytes c.args.names.now c.names.name-index c.name-item.result c.names-test.true c.name-item.is in (
      looking_more c.args.c.now.table.preds _ _ _ _ _ _ _ c.names.invariant.0 l
          (sym (rw c.as_str.ensures.value at c.in-Some.ensures)) (search rules),
      search rules,
    )

pub returns-clause-ok : goal.returns-clause-ok
returns-clause-ok c = looking_all _ _ _ _ c.names.invariant.0 (left_none string_bytes c.args.names.now c.names.name-index (search rules))
