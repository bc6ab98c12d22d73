-- Answers to the goals of `put_orders` in src/write.rt.
use Rattle.std.proofs.Common.{arith}
use Rattle.ln_order.specs.Places.{order_places}
use Rattle.ln_cert.proofs.Writing.Programmed.{more_orders, no_orders, order_at}
use Rattle.ln_cert.proofs.write.put_orders.Goals as goal

pub put_order_line-requires-clause-order : goal.put_order_line-requires-clause-order
put_order_line-requires-clause-order c =
    order_at c.args.p.now.shape.sites c.args.orders.now c.orders.o-index c.o-item.result c.orders-test.true c.o-item.is c.requires.all

pub put_order_line-requires-clause-list : goal.put_order_line-requires-clause-list
put_order_line-requires-clause-list c = c.requires.kept.lists (order_places c.o-item.result)
    (order_at c.args.p.now.shape.sites c.args.orders.now c.orders.o-index c.o-item.result c.orders-test.true c.o-item.is c.requires.all)

pub orders-preserved : goal.orders-preserved
orders-preserved c = more_orders c.args.p.now c.args.out.now.items c.orders.out.items c.put_order_line.new.out.items c.args.orders.now
    c.orders.o-index c.o-item.result c.orders-test.true c.o-item.is c.orders.invariant c.in_ok-put_order_line.ensures

pub returns : goal.returns
returns c = no_orders c.args.p.now c.args.out.now.items c.orders.out.items c.args.orders.now c.orders.o-index (omega arith) c.orders.invariant
