use Rattle.std.proofs.Common.{◌≡◌, ◌≤◌, ◌+◌, ◌++◌}
use Rattle.std.specs.List.{range_with_len}
use Rattle.ln_order.specs.Places.{order_places}
use Rattle.ln_code.specs.Lists.{list_from}
use Rattle.ln_code.specs.OneOrder.{list_in_turn}
use Rattle.ln_code.proofs.program.Program.list_in_turn.Given as goal

abbrev pub invariant-sites : goal.invariant-sites
invariant-sites l = record {
  within : l.j ≤ l.sites + 1;
  places : order_places l.order ≡ range_with_len 0 l.self.shape.sites;
  sites : l.sites ≡ l.self.shape.sites;
  list : l.list.items ++ list_from l.self (range_with_len 0 l.self.shape.sites) l.j ≡ list_in_turn l.self;
}
