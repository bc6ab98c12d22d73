use Rattle.std.proofs.Common.{drop, map}
use Rattle.ln_base.specs.Lines.{Leaves}
use Rattle.ln_tree.specs.Table.{param_of}
use Rattle.ln_parse.specs.Canonical.{param, each, text_of}
use Rattle.ln_parse.proofs.printer.put_params.Given as goal

abbrev pub invariant-params : goal.invariant-params
invariant-params l = Leaves text_of l.initial.out.items l.out.items (each param (map param_of (drop l.p-index l.params))) (each param (map param_of l.params))
