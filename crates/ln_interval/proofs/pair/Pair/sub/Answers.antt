-- What the search leaves open in `sub`.
use Rattle.ln_interval.specs.View.{range}
use Rattle.ln_interval.proofs.Ends.{plain}
use Rattle.ln_interval.proofs.Magnitudes.{difference_ordered}
use Rattle.ln_interval.proofs.pair.Pair.sub.Goals as goal

pub of_ends-requires-clause-ordered : goal.of_ends-requires-clause-ordered
of_ends-requires-clause-ordered c =
    let p = c.in-Some-Some.ensures in
    let q = c.in-Some-Some.ensures' in
    let f = plain c.in-Some-Some.low p.1 in
    let g = plain c.in-Some-Some.high q.1 in
    let o = difference_ordered (range c.args.self) (range c.args.o) c.args.self.ordered c.args.o.ordered in
    rw (
      f,
      g,
      p.0,
      q.0,
      plain c.args.self.low c.args.self.low_small,
      plain c.args.self.high c.args.self.high_small,
      plain c.args.o.low c.args.o.low_small,
      plain c.args.o.high c.args.o.high_small,
    ) o
