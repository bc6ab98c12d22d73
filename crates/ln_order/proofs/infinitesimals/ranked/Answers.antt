use Rattle.std.proofs.Common.{arith, length, refl}
use Rattle.ln_order.proofs.Signs.RankingLemmas.{all-passed}
use Rattle.ln_order.proofs.Signs.SitesLemmas.{kept}
use Rattle.ln_order.proofs.infinitesimals.ranked.Goals as goal

pub put_vars-requires : goal.put_vars-requires
put_vars-requires c = let s = c.args.s.now in rw c.as_slice-vars.ensures (kept s.sites s.vars s.kept).few_vars

pub returns : goal.returns
returns c = rw (c.from_vec.ensures, c.sites.invariant, all-passed c.args.places.now (length c.args.places.now) c.sites.k (omega arith), c.as_slice-vars.ensures)
    refl
