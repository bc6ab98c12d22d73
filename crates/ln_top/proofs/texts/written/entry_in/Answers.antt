-- Answers to the goals of `entry_in` in src/texts/written.rt.
use Rattle.ln_top.proofs.texts.written.entry_in.Goals as goal

pub returns-in-OneOrder : goal.returns-in-OneOrder
returns-in-OneOrder c = rw c.in-OneOrder.is c.entry_of.ensures
