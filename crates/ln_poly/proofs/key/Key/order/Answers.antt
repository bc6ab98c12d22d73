use Rattle.std.proofs.Common.{refl}
use Rattle.ln_poly.proofs.Packing.Words.{order-decided}
use Rattle.ln_poly.proofs.key.Key.order.Goals as goal

pub returns-then-self-i : goal.returns-then-self-i
returns-then-self-i g c =
    order-decided g.row.N c.words.k _ _ _ _ _ _ c.self.invariant c.other.invariant c.self.view_is c.other.view_is c.words-test.true refl c.words.invariant
    c.if-self-i.true c.cmp.ensures
