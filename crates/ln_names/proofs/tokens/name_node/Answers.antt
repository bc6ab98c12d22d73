use Rattle.std.proofs.Common.{sym, ◌∙◌}
use Rattle.ln_names.specs.Resolve.{visible}
use Rattle.ln_names.proofs.Names.{name_let, name_param, name_unknown}
use Rattle.ln_names.proofs.tokens.name_node.Goals as goal

pub returns-in-Some-clause-fine : goal.returns-in-Some-clause-fine
returns-in-Some-clause-fine c =
    (name_let c.args.bytes.now (visible c.args.seen) c.args.before c.args.at (sym c.long_name.ensures ∙ c.if-long_name.false)
    c.if-before-eq2048.false c.in-Some.j (sym c.let_place.ensures.place ∙ c.in-Some.is)).0

pub returns-in-Some-arg_at-clause-fine : goal.returns-in-Some-arg_at-clause-fine
returns-in-Some-arg_at-clause-fine c =
    (name_param c.args.bytes.now (visible c.args.seen) c.args.before c.args.at (sym c.long_name.ensures ∙ c.if-long_name.false)
    c.if-before-eq2048.false c.in-Some-arg_at.a (sym c.let_place.ensures.place ∙ c.in_default.is) (sym c.arg_at.ensures.place ∙ c.in-Some-arg_at.is)).0

pub returns-in-None-clause-err : goal.returns-in-None-clause-err
returns-in-None-clause-err c =
    name_unknown c.args.bytes.now (visible c.args.seen) c.args.before c.args.at (sym c.long_name.ensures ∙ c.if-long_name.false)
    c.if-before-eq2048.false (sym c.let_place.ensures.place ∙ c.in_default.is) (sym c.arg_at.ensures.place ∙ c.in-None.is)
