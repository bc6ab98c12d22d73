use Rattle.std.proofs.Common.{List, ℕ, sym, subst}
use Rattle.std.proofs.lemmas.Result.{IfOk-weaker}
use Rattle.ln_tree.specs.Table.{table_of}
use Rattle.ln_parse.specs.Spanless.{IsTextUpToSpans}
use Rattle.ln_parse.proofs.Wholes.HasTable.{has_table}
use Rattle.ln_parse.proofs.Wholes.TableWhole.{table_is_whole}
use Rattle.ln_parse.proofs.printer.print.Goals as goal

pub returns-clause-table : goal.returns-clause-table
returns-clause-table c =
    let t = c.args.t.now in
    let u = table_of t.sites t.params t.preds in
    IfOk-weaker c.canonical_text.result _ _ (λ v k. subst (λ (w : List ℕ). IsTextUpToSpans w u) (sym k)
    (has_table u (table_is_whole t.sites t.params t.preds t.kept t.whole))) c.canonical_text.ensures
