-- Answers to the goals of `put_all_orders` in src/write.rt.
use Rattle.std.proofs.lemmas.Result.{IfOk-weaker}
use Rattle.std.proofs.Common.{◌∙◌, ap, subst}
use Rattle.ln_tree.specs.declared.shape.Shape.{Shape}
use Rattle.ln_tree.proofs.KeptLemmas.{laid_out}
use Rattle.ln_order.specs.Orders.{orders_of}
use Rattle.ln_cert.specs.Written.{WroteParts, order_lines}
use Rattle.ln_cert.proofs.write.put_all_orders.Goals as goal

pub all_orders-requires : goal.all_orders-requires
all_orders-requires c = (laid_out c.shape.result.now.sites c.shape.result.now.vars c.shape.result.now.kept).few_sites

pub put_orders-requires-clause-all : goal.put_orders-requires-clause-all
put_orders-requires-clause-all c = rw c.as_slice.ensures (c.in_ok-orders.ensures ∙ ap (λ (s : Shape). orders_of s.sites) c.shape.ensures)

pub put_orders-requires-clause-few : goal.put_orders-requires-clause-few
put_orders-requires-clause-few c = c.requires.few

pub put_orders-requires-clause-kept : goal.put_orders-requires-clause-kept
put_orders-requires-clause-kept c = c.requires.kept

pub returns : goal.returns
returns c = IfOk-weaker c.put_orders.result _ _ (λ _ p. subst (λ os. WroteParts c.args.out.now.items c.put_orders.new.out.items (order_lines c.args.p.now os))
    (rw c.as_slice.ensures (c.in_ok-orders.ensures ∙ ap (λ (s : Shape). orders_of s.sites) c.shape.ensures)) p) c.put_orders.ensures
