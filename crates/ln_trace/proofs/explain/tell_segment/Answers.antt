use Rattle.std.proofs.Common.{◌++◌, get_or, refl}
use Rattle.ln_code.specs.RowOf.{row_of}
use Rattle.ln_trace.proofs.BlockLaw.{nothing-on, segment-end, segment-on, segment-told}
use Rattle.ln_trace.proofs.explain.tell_segment.Goals as goal

pub numbers-init : goal.numbers-init
numbers-init c =
    let p = c.args.p.now in
    record {
      made = c.requires.made;
      on = λ rest. nothing-on p (row_of p.shape.sites p.shape.vars c.args.r.now).values (c.args.segment.now ++ rest) c.args.out.now.items;
    }

pub tell_block-requires-clause-number : goal.tell_block-requires-clause-number
tell_block-requires-clause-number c = c.requires.named c.numbers.number-index 0 c.numbers-test.true

pub returns-then-branch-clause-all : goal.returns-then-branch-clause-all
returns-then-branch-clause-all c = λ q.
    let p = c.args.p.now in
    segment-told p (row_of p.shape.sites p.shape.vars c.args.r.now).values c.args.segment.now c.args.out.now.items c.numbers.out.items
    c.tell_block.new.out.items c.numbers.number-index (get_or c.args.segment.now c.numbers.number-index 0) c.numbers-test.true refl
    c.numbers.invariant.on (c.in_ok-tell_block.ensures.all c.if-branch.true)

pub numbers-preserved : goal.numbers-preserved
numbers-preserved c =
    let p = c.args.p.now in
    record {
      made = c.tell_block.ensures.made;
      on = segment-on p (row_of p.shape.sites p.shape.vars c.args.r.now).values c.args.segment.now c.args.out.now.items c.numbers.out.items
          c.tell_block.new.out.items c.numbers.number-index (get_or c.args.segment.now c.numbers.number-index 0) c.numbers-test.true refl
          c.numbers.invariant.on (c.in_ok-tell_block.ensures.on c.if-branch.false);
    }

pub returns-clause-on : goal.returns-clause-on
returns-clause-on c = λ q.
    let p = c.args.p.now in
    segment-end p (row_of p.shape.sites p.shape.vars c.args.r.now).values c.args.segment.now c.args.out.now.items c.numbers.out.items
    c.numbers.number-index c.numbers-test.false c.numbers.invariant.on
