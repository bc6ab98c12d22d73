use Rattle.std.proofs.Common.{arith}
use Rattle.ln_cmean.proofs.need.made_for.Goals as goal

pub returns : goal.returns
returns c =
    record {
      named = c.in_ok-names.ensures;
      fit = omega (arith, c.in_ok-stack.ensures, c.saturating_add.ensures, c.most-need.ensures, c.in_ok-stack.field-0.slots.small);
    }
