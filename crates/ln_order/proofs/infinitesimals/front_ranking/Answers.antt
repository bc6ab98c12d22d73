use Rattle.ln_order.proofs.infinitesimals.front_ranking.Goals as goal

pub returns : goal.returns
returns c = rw (← c.places.ensures.value) c.ranked.ensures
