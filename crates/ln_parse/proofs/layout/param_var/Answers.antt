use Rattle.std.proofs.Common.{refl, sym, append-nil}
use Rattle.std.proofs.lemmas.Option.{slice_get_past}
use Rattle.ln_tree.specs.Table.{param_of}
use Rattle.ln_parse.proofs.Texts.Putting.{missing}
use Rattle.ln_parse.proofs.layout.param_var.Goals as goal

pub returns-in-None : goal.returns-in-None
returns-in-None c =
    let h = c.in-None.ensures.lookup in
    rw (missing param_of c.args.params.now c.args.p _ refl (sym (slice_get_past c.args.params.now c.args.p h.3))) (sym (append-nil c.args.vars.now))
