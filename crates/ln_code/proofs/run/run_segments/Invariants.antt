use Rattle.std.proofs.Common.{◌≡◌, ◌≤◌, ◌+◌, take, length, ℕ, List}
use Rattle.ln_order.specs.Order.{IsOrder}
use Rattle.ln_order.specs.Places.{order_places}
use Rattle.ln_code.specs.Lists.{list_from, list_of}
use Rattle.ln_code.specs.Met.{IsMet}
use Rattle.ln_code.specs.Verdict.{along}
use Rattle.ln_code.specs.Memory.{MadeFor}
use Rattle.ln_code.proofs.run.run_segments.Given as goal

abbrev pub invariant-prefixes : goal.invariant-prefixes
invariant-prefixes l = record {
  made : MadeFor l.p l.s;
  size : length (order_places l.order) ≡ length l.indices;
  within : l.j ≤ l.sites + 1;
  front : (o : List ℕ) → IsOrder l.indices o → l.j ≤ l.sites → take l.j (order_places l.order) ≡ take l.j o;
  met : (o : List ℕ) → IsOrder l.indices o → IsMet l.values l.p.blocks (along l.values l.p.blocks (list_of l.p o) 0 0 l.entered) (list_from l.p o l.j) l.met;
}
