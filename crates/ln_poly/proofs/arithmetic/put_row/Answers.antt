use Rattle.std.proofs.Common.{arith}
use Rattle.ln_poly.proofs.TermLists.Products.{powers-at, product-room, row-end, row-step}
use Rattle.ln_poly.proofs.arithmetic.put_row.Goals as goal

pub loop-t-init : goal.loop-t-init
loop-t-init c = rw c.requires.empty tt

pub put_product-requires-clause-room : goal.put_product-requires-clause-room
put_product-requires-clause-room c = product-room c.args.g.now c.args.s.now c.t-item.result c.loop-t.t-index (omega arith) c.t-item.is c.requires.room

pub loop-t-preserved : goal.loop-t-preserved
loop-t-preserved c = row-step _ _ c.args.g.now c.args.s.now _ c.loop-t.t-index c.loop-t.invariant (omega arith) c.t-item.is c.in_ok-put_product.ensures

pub put_product-requires-clause-powers : goal.put_product-requires-clause-powers
put_product-requires-clause-powers c = powers-at c.args.s.now c.args.g.now c.loop-t.t-index c.t-item.result c.requires.powers c.loop-t-test.true c.t-item.is

pub returns : goal.returns
returns c = row-end _ c.args.s.now c.args.g.now c.loop-t.t-index (omega arith) c.loop-t.invariant
