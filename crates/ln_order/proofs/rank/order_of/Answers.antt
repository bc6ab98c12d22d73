use Rattle.ln_order.proofs.Signs.RankLemmas.{are_places, sorted_is_order, front_places}
use Rattle.ln_order.proofs.rank.order_of.Goals as goal

pub of-requires-clause-each : goal.of-requires-clause-each
of-requires-clause-each c =
    let q = are_places _ c.sort_by_index.new.places c.requires c.sort_by_index.ensures.permutation in
    rw (front_places _ c.sort_by_index.new.places _ q.0) q.1

pub returns-clause-ok : goal.returns-clause-ok
returns-clause-ok c =
    let q = are_places _ c.sort_by_index.new.places c.requires c.sort_by_index.ensures.permutation in
    rw (c.of.ensures, front_places _ c.sort_by_index.new.places _ q.0) (sorted_is_order c.args.indices.now c.sort_by_index.new.places
    c.requires c.sort_by_index.ensures.permutation c.sort_by_index.ensures.sorted c.in_default.ensures.first)
