-- What the rules promise of every row in range.
use Rattle.std.proofs.Common.{[], arith}
use Rattle.ln_bound.specs.Value.{value, values}
use Rattle.ln_code.specs.Law.{BlocksMean, FiltersMean}
use Rattle.ln_code.proofs.Engines.Runs.{block_runs, filter_runs}
use Rattle.ln_code.proofs.Filters.Near.{decides_positive, decides_negative}
use Rattle.std.specs.Prelude.{pos}

-- a block that follows the rules has the value of what they know, on each row in range
pub blocks_mean : BlocksMean
blocks_mean vars zs c h r =
    let b = block_runs vars zs c c.depth (λ k. pos 0) r h (omega arith) in
    record { what = b.what; known = b.known; answer = b.exactly; within = b.fits.held; fits = b.fits.narrow }

-- a filter that follows the rules leaves a number that stands for the value of what they know, on each row in range
pub filters_mean : FiltersMean
filters_mean vars zs f h r =
    let b = filter_runs vars zs f f.depth (λ k. pos 0) r h (omega arith) in
    let e = b.holds.error in
    let s = b.holds.holds.stands in
    record {
      what = b.what;
      known = b.known;
      left = b.left;
      answer = b.exactly;
      stands = s;
      error = e;
      plus = λ d g. decides_positive b.what.triple b.left.number (value (values zs) [] b.what.tree) (rw e at d) g s;
      minus = λ d g. decides_negative b.what.triple b.left.number (value (values zs) [] b.what.tree) (rw e at d) g s;
    }
