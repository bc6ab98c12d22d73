use Rattle.ln_compile.proofs.Making.ProgramLemmas.{few-blocks, is-program, is-program-of}
use Rattle.ln_compile.proofs.program.program.Goals as goal

pub filter-requires : goal.filter-requires
filter-requires c = rw c.pred-p.ensures.value (record { light = c.pred-p.ensures.kept.expanded.sound.light })

pub join-requires : goal.join-requires
join-requires c =
    let a = c.args.a.now in let k = c.pred-p.ensures.kept in let e = rw c.pred-p.ensures.value at c.in_ok-filter.ensures in
    rw (c.in_ok-shape.ensures, c.pred-p.ensures.value, c.in_ok-segments.ensures, c.stages.ensures)
    (is-program a.pred a.poly a.stages k c.in_ok-blocks.blocks c.in_ok-blocks.ensures c.in_ok-filter.filter e.filter e.rules
    (e.whole a.poly k.expanded.normal) e.small (e.pushes k.expanded.sound.few))

pub returns-clause-program : goal.returns-clause-program
returns-clause-program c =
    let a = c.args.a.now in let k = c.pred-p.ensures.kept in let e = rw c.pred-p.ensures.value at c.in_ok-filter.ensures in
    rw (c.join.ensures, c.in_ok-shape.ensures, c.pred-p.ensures.value, c.in_ok-segments.ensures, c.stages.ensures)
    (is-program-of a.pred a.poly a.stages k c.in_ok-blocks.blocks c.in_ok-blocks.ensures c.in_ok-filter.filter e.filter e.rules
    (e.whole a.poly k.expanded.normal) e.small (e.pushes k.expanded.sound.few))

pub returns-clause-small : goal.returns-clause-small
returns-clause-small c =
    let a = c.args.a.now in let k = c.pred-p.ensures.kept in let e = rw c.pred-p.ensures.value at c.in_ok-filter.ensures in
    rw c.join.ensures (few-blocks a.pred a.poly a.stages k c.in_ok-blocks.blocks c.in_ok-blocks.ensures c.in_ok-filter.filter e.filter e.rules
    (e.whole a.poly k.expanded.normal) e.small (e.pushes k.expanded.sound.few))
