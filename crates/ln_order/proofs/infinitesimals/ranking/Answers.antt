use Rattle.std.proofs.Common.{◌≡◌, arith}
use Rattle.std.proofs.lemmas.Result.{IfOk-weaker}
use Rattle.ln_order.specs.Places.{order_places}
use Rattle.ln_order.specs.Sites.{ranking_of}
use Rattle.ln_order.proofs.Signs.RankingLemmas.{ranking-is}
use Rattle.ln_order.proofs.infinitesimals.ranking.Goals as goal

pub returns-clause-ranked : goal.returns-clause-ranked
returns-clause-ranked c =
    let s = c.args.s.now in
    IfOk-weaker c.ranked.result (λ vs. vs ≡ ranking_of s.vars (order_places c.args.o.now)) _
    (λ vs e. rw e (ranking-is s.sites s.vars _ s.kept (omega (arith, c.requires)) c.places.ensures.each))
    (rw (← c.places.ensures.value) c.ranked.ensures)
