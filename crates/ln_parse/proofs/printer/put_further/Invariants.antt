use Rattle.std.proofs.Common.{drop, map}
use Rattle.ln_base.specs.Lines.{Leaves}
use Rattle.ln_tree.specs.Table.{arg_of, table_of}
use Rattle.ln_parse.specs.Canonical.{further, each, text_of}
use Rattle.ln_parse.proofs.printer.put_further.Given as goal

abbrev pub invariant-args-2 : goal.invariant-args-2
invariant-args-2 l =
    let t = table_of l.t.sites l.t.params l.t.preds in
    Leaves text_of l.initial.out.items l.out.items (each (further t) (map arg_of (drop l.a-index l.list))) (each (further t) (map arg_of l.list))
