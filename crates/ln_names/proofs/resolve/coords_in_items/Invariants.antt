use Rattle.std.proofs.Common.{◌≡◌, drop, ◌&&◌}
use Rattle.std.specs.List.{find}
use Rattle.ln_syntax.specs.Raw.{same, item, item_name, is_site}
use Rattle.ln_names.proofs.resolve.coords_in_items.Given as goal

abbrev pub invariant-loop-i : goal.invariant-loop-i
invariant-loop-i l =
    find (λ i. is_site (item i) && same l.bytes (item_name (item i)) l.kind) (drop l.i-index l.its)
    ≡ find (λ i. is_site (item i) && same l.bytes (item_name (item i)) l.kind) l.its
