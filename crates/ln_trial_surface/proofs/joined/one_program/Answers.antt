-- Answers to the goals of `one_program` in src/joined.rt.
use Rattle.std.proofs.Common.{◌≡◌}
use Rattle.ln_trial_surface.specs.One.{one_code}
use Rattle.ln_trial_surface.proofs.OneIsProgram.{one-program}
use Rattle.ln_trial_surface.proofs.joined.one_program.Goals as goal

pub join-requires : goal.join-requires
join-requires c =
    let b : c.in-Some.block ≡ one_code = rw c.in-Some.is at c.in_ok-block.ensures in
    rw (c.in_ok-shape.ensures, c.in_ok-filter.ensures, c.in_ok-segments.ensures, c.in_ok-alone.ensures, c.in_ok-blocks.ensures, b)
    (one-program c.args.s.now c.requires)
