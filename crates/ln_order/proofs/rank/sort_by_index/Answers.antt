use Rattle.std.proofs.Common.{◌≡◌, rules}
use Rattle.std.proofs.lemmas.Fn.{always_returns_same}
use Rattle.ln_order.specs.Order.{index_at}
use Rattle.ln_order.proofs.rank.sort_by_index.Goals as goal

pub returns-clause-sorted : goal.returns-clause-sorted
returns-clause-sorted c = c.sort_unstable_by_key.ensures.sorted (index_at c.args.indices.now)
    (always_returns_same _ (λ a r. r ≡ index_at c.args.indices.now a.0.now) _ (λ a r q k. search rules))
