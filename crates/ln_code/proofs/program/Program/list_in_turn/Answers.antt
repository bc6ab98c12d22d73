use Rattle.std.proofs.Common.{◌≡◌, ap, ◌∙◌, arith, length}
use Rattle.std.proofs.lemmas.List.FromFn.{length-range_with_len}
use Rattle.ln_order.specs.Places.{order_places}
use Rattle.ln_code.proofs.program.Program.list_in_turn.Goals as goal

pub segment-requires-clause-order : goal.segment-requires-clause-order
segment-requires-clause-order c = ap length c.sites.invariant.places ∙ length-range_with_len 0 c.args.self.now.shape.sites

pub segment-requires-clause-within : goal.segment-requires-clause-within
segment-requires-clause-within c =
    let e : length (order_places c.of_arguments-order.result) ≡ c.args.self.now.shape.sites =
    ap length c.sites.invariant.places ∙ length-range_with_len 0 c.args.self.now.shape.sites in
    omega (arith, e, c.sites-test.true, c.sites.invariant.sites)
