-- Answers to the goals of `put_ends` in src/put.rt.
use Rattle.std.proofs.lemmas.Int.{to_z-of_z}
use Rattle.std.proofs.Common.{rules}
use Rattle.std.specs.Int.{w128}
use Rattle.std.specs.Prelude.{FitsSigned}
use Rattle.ln_cert.proofs.Writing.Wrote.{ends_put}
use Rattle.ln_cert.proofs.put.put_ends.Goals as goal

pub returns : goal.returns
returns c =
    let low : FitsSigned w128 c.args.low = search rules in
    let high : FitsSigned w128 c.args.high = search rules in
    ends_put c.args.out.now.items c.put_signed.new.out.items c.put_signed-2.new.out.items c.args.low c.args.high _ _ c.in_ok-put_signed.ensures
    (to_z-of_z w128 c.args.low low) c.in_ok-put_signed-2.ensures (to_z-of_z w128 c.args.high high)
