use Rattle.std.proofs.lemmas.Result.{on_ok_weaker, IfErr-weaker}
use Rattle.ln_syntax.specs.Raw.{items}
use Rattle.ln_names.specs.Visits.{file_visits}
use Rattle.ln_names.proofs.FirstFault.{is_clean, stops_names}
use Rattle.ln_names.proofs.walk.check_names.Goals as goal

pub returns-clause-ok : goal.returns-clause-ok
returns-clause-ok c = on_ok_weaker c.file_nodes.result (is_clean c.args.bytes.now (file_visits c.args.ts.now (items c.args.its.now))) c.file_nodes.ensures.fine

pub returns-clause-err : goal.returns-clause-err
returns-clause-err c = IfErr-weaker c.file_nodes.result _ _ (stops_names c.args.bytes.now c.args.ts.now (items c.args.its.now)) c.file_nodes.ensures.err
