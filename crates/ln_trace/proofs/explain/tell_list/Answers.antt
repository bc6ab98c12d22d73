use Rattle.std.proofs.Common.{◌≡◌, ◌≤◌, ◌<◌, ap, arith, length}
use Rattle.std.proofs.lemmas.Result.{IfOk-weaker}
use Rattle.ln_tree.specs.declared.shape.Shape.{Shape}
use Rattle.ln_tree.proofs.KeptLemmas.{laid_out}
use Rattle.ln_order.specs.Places.{order_places}
use Rattle.ln_code.specs.Lists.{list_of}
use Rattle.ln_code.specs.RowOf.{row_of}
use Rattle.ln_trace.proofs.BlockLaw.{list-end, list-on, list_told, nothing-on}
use Rattle.ln_trace.proofs.explain.tell_list.Goals as goal

pub overflow_add-j-end : goal.overflow_add-j-end
overflow_add-j-end c =
    let h : c.shape.result.now.sites ≤ 5 = (laid_out c.shape.result.now.sites c.shape.result.now.vars c.shape.result.now.kept).few_sites in
    omega (arith, h)

pub prefixes-init : goal.prefixes-init
prefixes-init c =
    let p = c.args.p.now in
    record {
      made = c.requires.made;
      within = omega arith;
      on = nothing-on p (row_of p.shape.sites p.shape.vars c.args.r.now).values (list_of p (order_places c.args.order.now)) c.args.out.now.items;
    }

pub returns-then-branch-clause-told : goal.returns-then-branch-clause-told
returns-then-branch-clause-told c =
    let p = c.args.p.now in
    let o = order_places c.args.order.now in
    let e : c.shape.result.now.sites ≡ p.shape.sites = ap (λ (s : Shape). s.sites) c.shape.ensures in
    let h : c.prefixes.j ≤ length o = omega (arith, e, c.requires.order, c.prefixes-test.true) in
    list_told p (row_of p.shape.sites p.shape.vars c.args.r.now).values o c.segment.result.now (list_of p o) c.args.out.now.items c.prefixes.out.items
    c.tell_segment.new.out.items c.prefixes.j h c.segment.ensures.value c.prefixes.invariant.on (c.in_ok-tell_segment.ensures.all c.if-branch.true)

pub prefixes-preserved : goal.prefixes-preserved
prefixes-preserved c =
    let p = c.args.p.now in
    let o = order_places c.args.order.now in
    let e : c.shape.result.now.sites ≡ p.shape.sites = ap (λ (s : Shape). s.sites) c.shape.ensures in
    let h : c.prefixes.j ≤ length o = omega (arith, e, c.requires.order, c.prefixes-test.true) in
    record {
      made = c.tell_segment.ensures.made;
      within = omega (arith, c.prefixes-test.true);
      on = list-on p (row_of p.shape.sites p.shape.vars c.args.r.now).values o c.segment.result.now (list_of p o) c.args.out.now.items c.prefixes.out.items
          c.tell_segment.new.out.items c.prefixes.j h c.segment.ensures.value c.prefixes.invariant.on (c.in_ok-tell_segment.ensures.on c.if-branch.false);
    }

pub returns-clause-told : goal.returns-clause-told
returns-clause-told c =
    let p = c.args.p.now in
    let o = order_places c.args.order.now in
    let e : c.shape.result.now.sites ≡ p.shape.sites = ap (λ (s : Shape). s.sites) c.shape.ensures in
    let h : length o < c.prefixes.j = omega (arith, e, c.requires.order, c.prefixes-test.false) in
    IfOk-weaker c.put_sign.result _ _ (λ x w. list-end p (row_of p.shape.sites p.shape.vars c.args.r.now).values o (list_of p o)
    c.args.out.now.items c.prefixes.out.items c.put_sign.new.out.items c.prefixes.j h c.prefixes.invariant.on w) c.put_sign.ensures
