use Rattle.std.proofs.Common.{◌∙◌, ap, length, refl, sym}
use Rattle.std.proofs.lemmas.Result.{err_from_is_err_and}
use Rattle.ln_order.specs.Fronts.{front_places}
use Rattle.ln_order.proofs.Listing.FrontLemmas.{prefix-size}
use Rattle.ln_stage.specs.Tally.{see_all}
use Rattle.ln_stage.proofs.Degrees.GradedLists.{at-whole, graded-seen, whole-size}
use Rattle.ln_stage.proofs.Walks.VisitLemmas.{first-is, last-is, last-within, start-is, start-size}
use Rattle.ln_stage.proofs.Walks.WalkLemmas.{none-length, some-length}
use Rattle.ln_stage.proofs.visits.visit_from.Goals as goal

pub layers-requires-clause-step : goal.layers-requires-clause-step
layers-requires-clause-step c =
    let w = start-is c.as_slice-vars.ensures c.as_slice-kept.ensures.value c.as_slice-exps.ensures.value c.requires.start in
    w.step

pub layers-requires-clause-few : goal.layers-requires-clause-few
layers-requires-clause-few c =
    let w = start-is c.as_slice-vars.ensures c.as_slice-kept.ensures.value c.as_slice-exps.ensures.value c.requires.start in
    w.few

pub layers-requires-clause-vars : goal.layers-requires-clause-vars
layers-requires-clause-vars c =
    let w = start-is c.as_slice-vars.ensures c.as_slice-kept.ensures.value c.as_slice-exps.ensures.value c.requires.start in
    w.few_vars

pub returns-then-by_degree-clause-ok : goal.returns-then-by_degree-clause-ok
returns-then-by_degree-clause-ok c =
    let w = start-is c.as_slice-vars.ensures c.as_slice-kept.ensures.value c.as_slice-exps.ensures.value c.requires.start in
    let whole = at-whole c.args.s.now.sites c.args.s.now.vars c.args.f.now (front_places c.args.p.now)
    (whole-size c.args.by_degree c.if-by_degree.true c.requires.whole (prefix-size c.args.s.now.sites (front_places c.args.p.now) c.requires.prefix)) in
    rw c.if-by_degree.true (record {
      seen = c.in_ok-layers.ensures.seen ∙ graded-seen c.args.tally.now w
          ∙ ap (see_all (length c.args.s.now.vars) c.args.f.now c.args.tally.now) (sym whole);
      cut = refl;
    })

pub returns-in_err-layers-clause-err : goal.returns-in_err-layers-clause-err
returns-in_err-layers-clause-err c =
    let w = start-is c.as_slice-vars.ensures c.as_slice-kept.ensures.value c.as_slice-exps.ensures.value c.requires.start in
    let whole = at-whole c.args.s.now.sites c.args.s.now.vars c.args.f.now (front_places c.args.p.now)
    (whole-size c.args.by_degree c.if-by_degree.true c.requires.whole (prefix-size c.args.s.now.sites (front_places c.args.p.now) c.requires.prefix)) in
    let p = err_from_is_err_and c.from_residual.result c.from_residual.ensures.1 in
    rw (p.1, p.2, c.if-by_degree.true, whole, ← graded-seen c.args.tally.now w) c.in_err-layers.ensures.err

pub walk-requires-clause-step : goal.walk-requires-clause-step
walk-requires-clause-step c =
    let w = start-is c.as_slice-vars.ensures c.as_slice-kept.ensures.value c.as_slice-exps.ensures.value c.requires.start in
    w.step

pub walk-requires-clause-few : goal.walk-requires-clause-few
walk-requires-clause-few c =
    let w = start-is c.as_slice-vars.ensures c.as_slice-kept.ensures.value c.as_slice-exps.ensures.value c.requires.start in
    w.few

pub returns-then-is_empty-clause-ok : goal.returns-then-is_empty-clause-ok
returns-then-is_empty-clause-ok c =
    let w = start-is c.as_slice-vars.ensures c.as_slice-kept.ensures.value c.as_slice-exps.ensures.value c.requires.start in
    let e = first-is c.args.s.now.vars c.args.f.now w c.places-sites.ensures.value (none-length _ c.if-is_empty.ensures) in
    rw (c.if-by_degree.false, ← start-size w, ← e) c.walk.ensures.ok

pub returns-then-is_empty-clause-err : goal.returns-then-is_empty-clause-err
returns-then-is_empty-clause-err c =
    let w = start-is c.as_slice-vars.ensures c.as_slice-kept.ensures.value c.as_slice-exps.ensures.value c.requires.start in
    let e = ap (λ z. z.0) (first-is c.args.s.now.vars c.args.f.now w c.places-sites.ensures.value (none-length _ c.if-is_empty.ensures)) in
    rw (c.if-by_degree.false, ← start-size w, ← e) c.walk.ensures.err

pub walk_site-requires-clause-step : goal.walk_site-requires-clause-step
walk_site-requires-clause-step c =
    let w = start-is c.as_slice-vars.ensures c.as_slice-kept.ensures.value c.as_slice-exps.ensures.value c.requires.start in
    w.step

pub walk_site-requires-clause-few : goal.walk_site-requires-clause-few
walk_site-requires-clause-few c =
    let w = start-is c.as_slice-vars.ensures c.as_slice-kept.ensures.value c.as_slice-exps.ensures.value c.requires.start in
    w.few

pub walk_site-requires-clause-within : goal.walk_site-requires-clause-within
walk_site-requires-clause-within c =
    let w = start-is c.as_slice-vars.ensures c.as_slice-kept.ensures.value c.as_slice-exps.ensures.value c.requires.start in
    rw c.len.ensures (last-within c.args.s.now.vars c.args.f.now w c.places-sites.ensures.value (some-length _ c.if-is_empty.ensures) c.in_ok-last.ensures)

pub returns-clause-ok : goal.returns-clause-ok
returns-clause-ok c =
    let w = start-is c.as_slice-vars.ensures c.as_slice-kept.ensures.value c.as_slice-exps.ensures.value c.requires.start in
    let e = last-is c.args.s.now.vars c.args.f.now w c.places-sites.ensures.value (some-length _ c.if-is_empty.ensures) c.in_ok-last.ensures
    (rw c.if-by_degree.false at c.requires.before) in
    rw (c.if-by_degree.false, ← start-size w, ← e, ← c.len.ensures) c.walk_site.ensures.ok

pub returns-clause-err : goal.returns-clause-err
returns-clause-err c =
    let w = start-is c.as_slice-vars.ensures c.as_slice-kept.ensures.value c.as_slice-exps.ensures.value c.requires.start in
    let e = ap (λ z. z.0) (last-is c.args.s.now.vars c.args.f.now w c.places-sites.ensures.value (some-length _ c.if-is_empty.ensures) c.in_ok-last.ensures
    (rw c.if-by_degree.false at c.requires.before)) in
    rw (c.if-by_degree.false, ← start-size w, ← e, ← c.len.ensures) c.walk_site.ensures.err
