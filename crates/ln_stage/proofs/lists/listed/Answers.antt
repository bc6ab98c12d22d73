use Rattle.std.proofs.Common.{◌∙◌, ◌-◌, ap, arith, length, map}
use Rattle.std.proofs.lemmas.List.{drop_all}
use Rattle.std.proofs.lemmas.Result.{err_from_is_err_and}
use Rattle.ln_order.proofs.Listing.FrontLemmas.{prefix-size}
use Rattle.ln_order.proofs.Signs.SitesLemmas.{kept}
use Rattle.ln_order.specs.Fronts.{front_places}
use Rattle.ln_order.specs.Orders.{orders_of}
use Rattle.ln_stage.specs.Graded.{cut_by}
use Rattle.ln_stage.proofs.Results.ListedLemmas.{at-prefix, cuts-begin, cuts-follow, more-prefixes, up-begins, up-ends, up-goes, up-over, up-passes}
use Rattle.ln_stage.proofs.lists.listed.Goals as goal

pub prefixes-init : goal.prefixes-init
prefixes-init c = record {
  so_far = up-begins c.requires.empty c.new-segments.ensures;
  cuts = cuts-begin (cut_by c.args.by_degree c.args.s.now.sites c.args.s.now.vars c.args.f.now) _ c.args.s.now.sites _ c.requires.prefixes;
}

pub segment-requires-clause-prefix : goal.segment-requires-clause-prefix
segment-requires-clause-prefix c =
    at-prefix c.args.prefixes.now c.args.s.now.sites c.prefixes.p-index c.p-item.result c.requires.prefixes (omega arith) c.p-item.is

pub segment-requires-clause-cuts : goal.segment-requires-clause-cuts
segment-requires-clause-cuts c =
    rw (more-prefixes c.args.prefixes.now c.prefixes.p-index c.p-item.result (omega arith) c.p-item.is) at c.prefixes.invariant.cuts

pub returns-in_err-list-clause-err : goal.returns-in_err-list-clause-err
returns-in_err-list-clause-err c =
    let m = more-prefixes c.args.prefixes.now c.prefixes.p-index c.p-item.result (omega arith) c.p-item.is in
    let p = err_from_is_err_and c.from_residual.result c.from_residual.ensures.1 in
    rw (p.1, p.2, ← c.requires.prefixes) (up-over c.prefixes.invariant.so_far m _ _ c.in_err-list.ensures.err)

pub overflow_sub-left : goal.overflow_sub-left
overflow_sub-left c = omega (
  arith,
  ap length c.places.ensures.value,
  prefix-size c.args.s.now.sites (front_places c.p-item.result)
      (at-prefix c.args.prefixes.now c.args.s.now.sites c.prefixes.p-index c.p-item.result c.requires.prefixes (omega arith) c.p-item.is),
)

pub orders-requires : goal.orders-requires
orders-requires c = let s = c.args.s.now in omega (arith, (kept s.sites s.vars s.kept).few_sites)

pub returns-in_err-more-clause-err : goal.returns-in_err-more-clause-err
returns-in_err-more-clause-err c =
    let m = more-prefixes c.args.prefixes.now c.prefixes.p-index c.p-item.result (omega arith) c.p-item.is in
    let p = err_from_is_err_and c.from_residual-in_err-more.result c.from_residual-in_err-more.ensures.1 in
    let n = c.orders.ensures.value ∙ ap (λ z. length (orders_of (c.args.s.now.sites - length z))) c.places.ensures.value in
    rw (p.1, p.2, ← c.requires.prefixes)
    (up-passes c.prefixes.invariant.so_far m c.in_ok-list.ensures.list c.len-stages.ensures n _ _ c.in_err-more.ensures.err)

pub prefixes-preserved : goal.prefixes-preserved
prefixes-preserved c =
    let m = more-prefixes c.args.prefixes.now c.prefixes.p-index c.p-item.result (omega arith) c.p-item.is in
    let n = c.orders.ensures.value ∙ ap (λ z. length (orders_of (c.args.s.now.sites - length z))) c.places.ensures.value in
    let s = c.args.s.now in
    record {
      so_far = up-goes c.prefixes.invariant.so_far m c.in_ok-list.ensures.list c.len-stages.ensures n c.in_ok-list.ensures.rest c.in_ok-push.ensures.ok
          c.in_ok-more.ensures.ok c.in_ok-more.ensures.within;
      cuts = cuts-follow (cut_by c.args.by_degree s.sites s.vars c.args.f.now) c.args.prefixes.now s.sites c.prefixes.p-index c.p-item.result
          c.segment.new.cuts (kept s.sites s.vars s.kept).few_sites c.requires.prefixes (omega arith) c.p-item.is c.in_ok-list.ensures.cuts;
    }

pub returns-clause-ok : goal.returns-clause-ok
returns-clause-ok c = up-ends c.prefixes.invariant.so_far (ap (map front_places) (drop_all c.prefixes.p-index c.args.prefixes.now (omega arith)))
    c.requires.prefixes
