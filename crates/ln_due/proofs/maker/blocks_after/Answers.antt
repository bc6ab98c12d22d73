use Rattle.std.proofs.Common.{arith}
use Rattle.ln_due.proofs.Derivatives.Gathering.{blocks-begin, blocks-end, blocks-more}
use Rattle.ln_due.proofs.maker.blocks_after.Goals as goal

pub blocks-2-init : goal.blocks-2-init
blocks-2-init g c =
    let r = c.requires in
    blocks-begin (g.M.BlockMaker.makes c.args.s.now.vars c.args.f.now) c.args.s.now.vars c.args.f.now c.args.first c.args.exps.now c.new-blocks.result
    c.push.new.self c.new-blocks.ensures c.in_ok-push.ensures.ok r.begins.0 r.begins.1 r.plain r.block

pub blocks-2-preserved : goal.blocks-2-preserved
blocks-2-preserved g c =
    let e = c.in_ok-block.ensures in
    blocks-more (g.M.BlockMaker.makes c.args.s.now.vars c.args.f.now) c.args.s.now.vars c.args.f.now c.args.first c.args.exps.now c.blocks-2.i
    c.blocks-2.blocks c.push-in-blocks-2.new.self c.in_ok-block.block _ (omega (arith, c.blocks-2-test.true)) c.index-exps-i.is
    c.in_ok-push-2.ensures.ok e.exps e.block e.made e.few c.blocks-2.invariant

pub returns : goal.returns
returns g c =
    blocks-end (g.M.BlockMaker.makes c.args.s.now.vars c.args.f.now) c.args.s.now.vars c.args.f.now c.args.first c.args.exps.now c.blocks-2.i c.blocks-2.blocks
    (omega (arith, c.blocks-2-test.false)) c.blocks-2.invariant
