-- Answers to the goals of `filter_ways` in src/body.rt.
use Rattle.std.proofs.Common.{arith, map, refl}
use Rattle.ln_cemit.specs.Ways.{filter_way}
use Rattle.ln_cemit.proofs.Writing.Gathers.{collected, collects}
use Rattle.ln_cemit.proofs.body.filter_ways.Goals as goal

pub triples-preserved : goal.triples-preserved
triples-preserved c = collects filter_way c.triples.ways.items c.push.new.self.items (map filter_way c.args.triples.now) c.args.triples.now
    c.triples.t-index _ _ c.triples-test.true refl c.in_ok-push.ensures.items c.triples.invariant

pub returns : goal.returns
returns c = collected filter_way c.triples.ways.items (map filter_way c.args.triples.now) c.args.triples.now c.triples.t-index (omega arith) c.triples.invariant
