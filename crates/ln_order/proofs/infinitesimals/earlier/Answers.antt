use Rattle.std.proofs.Common.{◌∙◌, refl, sym, arith, length}
use Rattle.ln_order.proofs.Signs.RankingLemmas.{along-more, tested-here, tested-nowhere}
use Rattle.ln_order.proofs.Signs.SitesLemmas.{kept}
use Rattle.ln_order.proofs.infinitesimals.earlier.Goals as goal

pub at_site-requires-clause-few : goal.at_site-requires-clause-few
at_site-requires-clause-few c = let s = c.args.s.now in rw c.as_slice-vars.ensures (kept s.sites s.vars s.kept).few_vars

pub returns-in_default : goal.returns-in_default
returns-in_default c =
    let s = c.args.s.now in
    tested-here s.sites s.vars _ c.args.a.now c.args.b.now s.kept (omega (arith, c.requires)) c.places-places.ensures.each c.as_slice-vars.result.now
    c.places-places.result.now c.pairs.result.now c.pairs-in-sites.result.now (length c.places-places.result.now) c.sites.k c.at_site.result c.eq.result
    c.as_slice-vars.ensures c.places-places.ensures.value c.pairs.ensures.value c.pairs-in-sites.ensures.value refl
    (omega arith) c.sites.invariant c.at_site.ensures c.in_default.not-Equal c.eq.ensures

pub sites-preserved : goal.sites-preserved
sites-preserved c =
    let e = c.in-Equal.ensures in
    along-more c.as_slice-vars.result.now c.places-places.result.now (length c.places-places.result.now) c.sites.k c.args.a.now c.args.b.now refl
    (omega arith) c.sites.invariant
    ∙ sym (rw (c.pairs.ensures.value, c.pairs-in-sites.ensures.value) at e)

pub returns : goal.returns
returns c =
    let s = c.args.s.now in
    tested-nowhere s.sites s.vars _ c.args.a.now c.args.b.now s.kept
    (omega (arith, c.requires)) c.places-places.ensures.each c.as_slice-vars.result.now c.places-places.result.now
    (length c.places-places.result.now) c.sites.k c.as_slice-vars.ensures c.places-places.ensures.value (omega arith) c.sites.invariant
