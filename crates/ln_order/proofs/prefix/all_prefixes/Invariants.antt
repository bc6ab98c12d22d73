use Rattle.std.proofs.Common.{◌≡◌, map}
use Rattle.ln_order.specs.Fronts.{front_places}
use Rattle.ln_order.specs.Prefixes.{prefixes_of}
use Rattle.ln_order.proofs.prefix.all_prefixes.Given as goal

abbrev pub invariant-sites : goal.invariant-sites
invariant-sites l = map front_places l.all ≡ prefixes_of l.sites
