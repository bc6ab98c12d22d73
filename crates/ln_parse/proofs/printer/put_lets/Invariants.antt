use Rattle.std.proofs.Common.{map}
use Rattle.ln_base.specs.Lines.{Leaves}
use Rattle.ln_parse.specs.Written.{formula, table_of, pred_of, naming}
use Rattle.ln_tree.specs.Names.{name_bytes}
use Rattle.ln_parse.specs.Canonical.{lets, text_of}
use Rattle.ln_parse.proofs.printer.put_lets.Given as goal

abbrev pub invariant-lets : goal.invariant-lets
invariant-lets l =
    let n = naming (table_of l.t.sites l.t.params l.t.preds) (pred_of l.p) in
    Leaves text_of l.initial.out.items l.out.items
    (lets n (map name_bytes l.name-iterator.a.rest.now) (map formula l.name-iterator.b.rest.now))
    (lets n (map name_bytes l.p.let_names) (map formula l.p.lets))
