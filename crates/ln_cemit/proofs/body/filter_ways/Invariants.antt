use Rattle.std.proofs.Common.{◌≡◌, ◌++◌, drop, map}
use Rattle.ln_cemit.specs.Ways.{filter_way}
use Rattle.ln_cemit.proofs.body.filter_ways.Given as goal

abbrev pub invariant-triples : goal.invariant-triples
invariant-triples l = l.ways.items ++ map filter_way (drop l.t-index l.triples) ≡ map filter_way l.triples
