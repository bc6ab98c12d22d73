use Rattle.std.proofs.Common.{◌≡◌, map, take}
use Rattle.ln_parse.specs.Says.{coord_of, ranged}
use Rattle.ln_parse.proofs.build.site.Given as goal

abbrev pub invariant-coords : goal.invariant-coords
invariant-coords l = map coord_of l.coords ≡ map (λ k. ranged l.bytes k.name k.range) (take l.c-index l.raw)
