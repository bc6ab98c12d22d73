use Rattle.std.proofs.Common.{◌≡◌, ◌≤◌, drop}
use Rattle.std.specs.List.{filter_map, position_from}
use Rattle.ln_syntax.specs.Raw.{item, same}
use Rattle.ln_parse.specs.Says.{name_if}
use Rattle.ln_parse.proofs.layout.number_of.Given as goal

abbrev pub invariant-items : goal.invariant-items
invariant-items l =
    (position_from (λ n. same l.bytes n l.at) l.n (filter_map (λ i. name_if l.is_param (item i)) (drop l.it-index l.before))
    ≡ position_from (λ n. same l.bytes n l.at) 0 (filter_map (λ i. name_if l.is_param (item i)) l.before)) × (l.n ≤ l.it-index)
