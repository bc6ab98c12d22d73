use Rattle.std.proofs.Common.{◌≡◌, ◌&&◌, drop}
use Rattle.std.specs.List.{position_from}
use Rattle.ln_syntax.specs.Raw.{same}
use Rattle.ln_names.specs.Resolve.{is_arg}
use Rattle.ln_names.proofs.resolve.arg_at.Given as goal

abbrev pub invariant-each : goal.invariant-each
invariant-each l = position_from (λ x. is_arg l.kind x && same l.bytes x.name l.at) l.i (drop l.i l.args)
    ≡ position_from (λ x. is_arg l.kind x && same l.bytes x.name l.at) 0 l.args
