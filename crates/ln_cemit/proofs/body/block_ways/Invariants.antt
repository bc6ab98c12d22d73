use Rattle.std.proofs.Common.{◌≡◌, ◌++◌, drop, map}
use Rattle.ln_interval.specs.View.{range}
use Rattle.ln_cemit.specs.Ways.{block_way}
use Rattle.ln_cemit.proofs.body.block_ways.Given as goal

abbrev pub invariant-pairs : goal.invariant-pairs
invariant-pairs l = l.ways.items ++ map block_way (map range (drop l.p-index l.pairs)) ≡ map block_way (map range l.pairs)
