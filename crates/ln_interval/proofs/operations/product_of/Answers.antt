-- What the search leaves open in `product_of`.
use Rattle.std.proofs.Common.{arith}
use Rattle.ln_interval.specs.View.{range}
use Rattle.ln_interval.proofs.Ends.{corner, plain, corners, small, of_both}
use Rattle.ln_interval.proofs.operations.product_of.Goals as goal

pub times-a-requires : goal.times-a-requires
times-a-requires c =
    let f = plain c.args.p.low c.args.p.low_small in
    let g = plain c.args.q.low c.args.q.low_small in
    rw (f, g) (corner _ _ _ _ (omega arith) (omega arith) c.requires)

pub times-b-requires : goal.times-b-requires
times-b-requires c =
    let f = plain c.args.p.low c.args.p.low_small in
    let g = plain c.args.q.high c.args.q.high_small in
    rw (f, g) (corner _ _ _ _ (omega arith) (omega arith) c.requires)

pub times-c-requires : goal.times-c-requires
times-c-requires c =
    let f = plain c.args.p.high c.args.p.high_small in
    let g = plain c.args.q.low c.args.q.low_small in
    rw (f, g) (corner _ _ _ _ (omega arith) (omega arith) c.requires)

pub times-d-requires : goal.times-d-requires
times-d-requires c =
    let f = plain c.args.p.high c.args.p.high_small in
    let g = plain c.args.q.high c.args.q.high_small in
    rw (f, g) (corner _ _ _ _ (omega arith) (omega arith) c.requires)

pub of_ends-requires-clause-ordered : goal.of_ends-requires-clause-ordered
of_ends-requires-clause-ordered c =
    let e = corners (range c.args.p) (range c.args.q) c.times-a.result c.times-b.result c.times-c.result c.times-d.result c.least_of.result c.greatest_of.result
    (small c.args.p.low c.args.p.high c.args.p.low_small c.args.p.high_small) (small c.args.q.low c.args.q.high c.args.q.low_small c.args.q.high_small)
    c.requires c.times-a.ensures c.times-b.ensures c.times-c.ensures c.times-d.ensures c.least_of.ensures c.greatest_of.ensures in
    e.ordered

pub of_ends-requires-clause-low_small : goal.of_ends-requires-clause-low_small
of_ends-requires-clause-low_small c =
    let e = corners (range c.args.p) (range c.args.q) c.times-a.result c.times-b.result c.times-c.result c.times-d.result c.least_of.result c.greatest_of.result
    (small c.args.p.low c.args.p.high c.args.p.low_small c.args.p.high_small) (small c.args.q.low c.args.q.high c.args.q.low_small c.args.q.high_small)
    c.requires c.times-a.ensures c.times-b.ensures c.times-c.ensures c.times-d.ensures c.least_of.ensures c.greatest_of.ensures in
    e.low_small

pub of_ends-requires-clause-high_small : goal.of_ends-requires-clause-high_small
of_ends-requires-clause-high_small c =
    let e = corners (range c.args.p) (range c.args.q) c.times-a.result c.times-b.result c.times-c.result c.times-d.result c.least_of.result c.greatest_of.result
    (small c.args.p.low c.args.p.high c.args.p.low_small c.args.p.high_small) (small c.args.q.low c.args.q.high c.args.q.low_small c.args.q.high_small)
    c.requires c.times-a.ensures c.times-b.ensures c.times-c.ensures c.times-d.ensures c.least_of.ensures c.greatest_of.ensures in
    e.high_small

pub returns : goal.returns
returns c =
    let e = corners (range c.args.p) (range c.args.q) c.times-a.result c.times-b.result c.times-c.result c.times-d.result c.least_of.result c.greatest_of.result
    (small c.args.p.low c.args.p.high c.args.p.low_small c.args.p.high_small) (small c.args.q.low c.args.q.high c.args.q.low_small c.args.q.high_small)
    c.requires c.times-a.ensures c.times-b.ensures c.times-c.ensures c.times-d.ensures c.least_of.ensures c.greatest_of.ensures in
    of_both (range c.args.p) (range c.args.q) c.least_of.result c.greatest_of.result c.of_ends.result.low c.of_ends.result.high e
    c.of_ends.ensures.low c.of_ends.ensures.high
