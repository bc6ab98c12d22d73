use Rattle.std.proofs.Common.{◌≡◌, take}
use Rattle.std.specs.List.{count_by}
use Rattle.ln_syntax.specs.Raw.{items}
use Rattle.ln_names.specs.Resolve.{is_of_kind}
use Rattle.ln_names.proofs.tokens.count.Given as goal

abbrev pub invariant-each : goal.invariant-each
invariant-each l = l.n ≡ count_by (is_of_kind l.kind) (take l.i-index (items l.before))
