-- Answers to the goals of `finds_the_order` in src/two.rt.
use Rattle.ln_cemit.proofs.Choices.Orders.{finds-the-order}
use Rattle.ln_cemit.proofs.two.finds_the_order.Goals as goal

pub returns : goal.returns
returns c = finds-the-order
