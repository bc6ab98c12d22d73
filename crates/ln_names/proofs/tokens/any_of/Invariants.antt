use Rattle.std.proofs.Common.{◌≡◌, ◌&&◌, drop}
use Rattle.std.specs.List.{list_any}
use Rattle.ln_syntax.specs.Raw.{item, item_name, same}
use Rattle.ln_names.specs.Resolve.{is_of_kind}
use Rattle.ln_names.proofs.tokens.any_of.Given as goal

abbrev pub invariant-each : goal.invariant-each
invariant-each l = list_any (λ x. is_of_kind l.kind (item x) && same l.bytes (item_name (item x)) l.at) (drop l.i-index l.before)
    ≡ list_any (λ x. is_of_kind l.kind (item x) && same l.bytes (item_name (item x)) l.at) l.before
