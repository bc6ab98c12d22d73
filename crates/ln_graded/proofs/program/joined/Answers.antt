use Rattle.std.proofs.Common.{length}
use Rattle.ln_algebra.specs.Orders.{ByDegree}
use Rattle.ln_stage.specs.Staged.{vectors_of}
use Rattle.ln_stage.proofs.Sights.Members as members
use Rattle.ln_graded.proofs.Joining.{is-graded, is-program, is-within}
use Rattle.ln_graded.proofs.program.joined.Goals as goal

pub blocks_after-made-requires-clause-block : goal.blocks_after-made-requires-clause-block
blocks_after-made-requires-clause-block c = c.requires.begins.block

pub blocks_after-made-requires-clause-plain : goal.blocks_after-made-requires-clause-plain
blocks_after-made-requires-clause-plain c = c.requires.begins.plain

pub blocks_after-made-requires-clause-begins : goal.blocks_after-made-requires-clause-begins
blocks_after-made-requires-clause-begins c =
    let s = c.args.s.now in let st = c.args.st in
    rw c.all_exps.ensures (members.first-exps ByDegree s.sites s.vars c.args.f.now (vectors_of (length s.vars) st) c.requires.stages.lists st.exps
    c.requires.stages.first_sight c.requires.poly.form c.requires.poly.below c.requires.poly.some)

pub blocks_after-made-requires-clause-exps : goal.blocks_after-made-requires-clause-exps
blocks_after-made-requires-clause-exps c = rw c.all_exps.ensures c.requires.stages.below

pub blocks_after-made-requires-clause-sites : goal.blocks_after-made-requires-clause-sites
blocks_after-made-requires-clause-sites c =
    let s = c.args.s.now in let st = c.args.st in
    rw c.all_exps.ensures
    (members.of-sites ByDegree s.sites s.vars c.args.f.now (vectors_of (length s.vars) st) c.requires.stages.lists st.exps c.requires.stages.first_sight)

pub join-requires : goal.join-requires
join-requires c =
    let r = c.requires in let g = c.args.begin in
    rw (c.in_ok-shape.ensures, c.into_segments-segments.ensures) (is-program c.args.s.now c.args.f.now g.0 g.1 c.args.st c.in_ok-blocks.blocks
    r.poly r.begins r.stages r.weight (rw c.all_exps.ensures at c.in_ok-blocks.ensures))

pub returns-clause-program : goal.returns-clause-program
returns-clause-program c =
    let r = c.requires in let g = c.args.begin in
    rw (c.join.ensures, c.in_ok-shape.ensures, c.into_segments-segments.ensures) (is-graded c.args.s.now c.args.f.now g.0 g.1 c.args.st c.in_ok-blocks.blocks
    r.poly r.begins r.stages r.weight (rw c.all_exps.ensures at c.in_ok-blocks.ensures))

pub returns-clause-within : goal.returns-clause-within
returns-clause-within c =
    let r = c.requires in let g = c.args.begin in
    rw (c.join.ensures, c.in_ok-shape.ensures, c.into_segments-segments.ensures) (is-within c.args.s.now c.args.f.now g.0 g.1 c.args.st c.in_ok-blocks.blocks
    r.poly r.begins r.stages r.weight (rw c.all_exps.ensures at c.in_ok-blocks.ensures))
