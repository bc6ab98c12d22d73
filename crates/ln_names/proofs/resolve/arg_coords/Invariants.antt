use Rattle.std.proofs.Common.{◌≡◌, drop, ◌&&◌}
use Rattle.std.specs.List.{find}
use Rattle.ln_syntax.specs.Raw.{same}
use Rattle.ln_names.specs.Rules.{is_site_arg}
use Rattle.ln_names.proofs.resolve.arg_coords.Given as goal

abbrev pub invariant-loop-a : goal.invariant-loop-a
invariant-loop-a l =
    find (λ a. is_site_arg a && same l.bytes a.name l.at) (drop l.a-index l.args) ≡ find (λ a. is_site_arg a && same l.bytes a.name l.at) l.args
