use Rattle.std.proofs.Common.{refl, subst, ℕ}
use Rattle.ln_order.specs.Orders.{IsOrderOf}
use Rattle.ln_order.proofs.Signs.RowsLemmas.{order-places}
use Rattle.ln_order.proofs.Listing.OrderExists.{order-exists}
use Rattle.ln_code.specs.Lists.{list_of}
use Rattle.ln_code.proofs.run.run_row.Goals as goal

pub returns-clause-verdict : goal.returns-clause-verdict
returns-clause-verdict c =
    let x = order-exists _ c.requires.row.differ in
    record {
      places = x.0;
      order = x.1;
      list = list_of c.args.p.now x.0;
      chosen = record { order = subst (λ (n : ℕ). IsOrderOf n x.0) c.requires.row.size (order-places _ x.0 x.1); list_is = refl };
      answered = (let v = rw (c.from.ensures, c.len.ensures, c.shape-shape.ensures) at c.run_through.ensures.verdict in v x.0 x.1);
    }
