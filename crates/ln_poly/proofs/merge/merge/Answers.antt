use Rattle.std.proofs.Common.{FitsSigned, ap, arith, get_or, of_z, rules, sym, to_z, ◌∙◌}
use Rattle.std.proofs.lemmas.Int.{to_z-of_z}
use Rattle.std.proofs.lemmas.List.{take_rest}
use mir.Syntax.{w128}
use Rattle.ln_poly.proofs.Sorting.Steps.{merging-both, merging-end, merging-first, merging-neither, merging-second}
use Rattle.ln_poly.proofs.merge.merge.Goals as goal
use Rattle.ln_poly.proofs.merge.merge.Goals.{else-both-test, else-c-ne0, then-both-test+else-j-g, then-c-ne0}

pub both-preserved-in-Less : goal.both-preserved-in-Less
both-preserved-in-Less g c = merging-first g.K.Ordered.IsBefore c.args.out.now c.both.out c.args.f.now c.both.f c.args.g.now c.both.g c.both.i
    c.both.j c.both.k _ _ c.index-f-i.is c.index-g-j.is c.both.invariant c.both-test.true c.if-j-g.true c.requires.long _ _ _ c.in-Less.ensures c.pass.ensures

pub both-preserved-in-Greater : goal.both-preserved-in-Greater
both-preserved-in-Greater g c = merging-second g.K.Ordered.IsBefore c.args.out.now c.both.out c.args.f.now c.both.f c.args.g.now c.both.g c.both.i
    c.both.j c.both.k _ _ c.index-f-i.is c.index-g-j.is c.both.invariant c.both-test.true c.if-j-g.true c.requires.long _ _ _
    c.in-Greater.ensures c.pass-in-Greater.ensures

pub both-preserved : goal.both-preserved
both-preserved g c =
    let fits : FitsSigned w128 c.sum_of-c.result = search rules in
    let back = to_z-of_z w128 c.sum_of-c.result fits in
    elim c.if-c-ne0.branch [
      | then-c-ne0 w ↦ rw (w.out-is, w.f-is, w.k-is) (
          merging-both g.K.Ordered.IsBefore c.args.out.now c.both.out c.args.f.now c.both.f c.args.g.now c.both.g c.both.i c.both.j c.both.k _ _
          c.index-f-i.is c.index-g-j.is c.both.invariant c.both-test.true c.if-j-g.true c.requires.long c.sum_of-c.result _ _ _ _ _
          c.in-Equal.ensures c.sum_of-c.ensures (λ e. w.if-c-ne0.true (ap (of_z w128) e))
          (w.pass_with.ensures ∙ ap (λ z. ((get_or c.both.f c.both.i w.index-f-i-then-c-ne0.result).0, z)) back))
      | else-c-ne0 w ↦ rw (w.out-is, w.f-is, w.k-is) (
          merging-neither g.K.Ordered.IsBefore c.args.out.now c.both.out c.args.f.now c.both.f c.args.g.now c.both.g c.both.i c.both.j c.both.k _ _
          c.index-f-i.is c.index-g-j.is c.both.invariant c.both-test.true c.if-j-g.true c.requires.long c.sum_of-c.result _ _
          c.in-Equal.ensures c.sum_of-c.ensures (sym back ∙ ap (to_z w128) w.if-c-ne0.false))
    ]

pub returns-clause-merge : goal.returns-clause-merge
returns-clause-merge g c = merging-end g.K.Ordered.IsBefore c.args.out.now c.both.out c.put_rest.new.out c.put_rest-2.new.out c.args.f.now c.both.f
    c.args.g.now c.both.g _ _ c.both.i c.both.j c.both.k c.both.invariant
    (elim c.both-test.branch [
      | then-both-test+else-j-g w ↦ λ _ r. omega (arith, r, w.if-j-g.false)
      | else-both-test w ↦ λ l _. omega (arith, l, w.both-test.false)
    ])
    (take_rest c.both.f c.both.i) (take_rest c.both.g c.both.j) c.put_rest.ensures.rest c.put_rest-2.ensures.rest
