use Rattle.std.proofs.Common.{◌≡◌, take}
use Rattle.std.specs.List.{count_by}
use Rattle.ln_names.specs.Resolve.{is_arg}
use Rattle.ln_names.proofs.tokens.count_args.Given as goal

abbrev pub invariant-each : goal.invariant-each
invariant-each l = l.n ≡ count_by (is_arg l.kind) (take l.a-index l.before)
