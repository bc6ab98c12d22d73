use Rattle.std.proofs.Common.{List, ap, sym, ◌∙◌}
use Rattle.ln_syntax.specs.declared.raw.RawCoord.{RawCoord}
use Rattle.ln_names.specs.Resolve.{visible, coord_place}
use Rattle.ln_names.proofs.Names.{no_arg, coord_found, no_coord}
use Rattle.ln_names.proofs.tokens.input_coord.Goals as goal

pub returns-in_default-clause-err : goal.returns-in_default-clause-err
returns-in_default-clause-err c =
    no_arg c.args.bytes.now (visible c.args.seen) c.args.arg c.args.at (sym c.long_name.ensures ∙ c.if-long_name.false) (sym c.arg_at.ensures.place
    ∙ c.in_default.is)

pub returns-in-Some-coord_at-clause-fine : goal.returns-in-Some-coord_at-clause-fine
returns-in-Some-coord_at-clause-fine c =
    (coord_found c.args.bytes.now (visible c.args.seen) c.args.arg c.args.at (sym c.long_name.ensures ∙ c.if-long_name.false) c.in-Some.a c.in-Some-coord_at.c
    (sym c.arg_at.ensures.place ∙ c.in-Some.is)
    (ap (λ (cs : List RawCoord). coord_place c.args.bytes.now cs c.args.at) (sym c.arg_coords.ensures) ∙ sym c.coord_at.ensures.place
    ∙ c.in-Some-coord_at.is)).0

pub returns-in-None-clause-err : goal.returns-in-None-clause-err
returns-in-None-clause-err c =
    no_coord c.args.bytes.now (visible c.args.seen) c.args.arg c.args.at (sym c.long_name.ensures ∙ c.if-long_name.false)
    (ap (λ (cs : List RawCoord). coord_place c.args.bytes.now cs c.args.at) (sym c.arg_coords.ensures) ∙ sym c.coord_at.ensures.place ∙ c.in-None.is)
