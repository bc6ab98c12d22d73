use Rattle.std.proofs.Common.{◌≡◌, ◌≢◌, FitsSigned, pos, rules, ◌∙◌}
use Rattle.std.proofs.lemmas.Int.{to_z-of_z}
use mir.Syntax.{w128}
use Rattle.ln_tree.specs.Exps.{IsRising}
use Rattle.ln_code.specs.RowOf.{row_of}
use Rattle.ln_code.specs.Verdict.{sign_of}
use Rattle.ln_trace.specs.Explain.{BlockTells}
use Rattle.ln_code.proofs.Verdicts.Calls.{its_block}
use Rattle.ln_trace.proofs.BlockLaw.{block-tells, other-told, zero-on}
use Rattle.ln_trace.proofs.explain.tell_block.Goals as goal

pub block_value-z-requires-clause-block : goal.block_value-z-requires-clause-block
block_value-z-requires-clause-block c = its_block c.args.p.now.blocks c.args.number c.index-blocks-number.result c.requires.number
    (rw c.blocks-2.ensures.value at c.index-blocks-number.is)

pub returns-in_ok-put_sign-in-Some-clause-all : goal.returns-in_ok-put_sign-in-Some-clause-all
returns-in_ok-put_sign-in-Some-clause-all c = λ q rest.
    let p = c.args.p.now in
    let zs = (row_of p.shape.sites p.shape.vars c.args.r.now).values in
    let z = c.block_value-z.result in
    let f : FitsSigned w128 z = search rules in
    let rising : IsRising c.pairs.result.now = rw c.pairs.ensures.value c.pairs.ensures.rising in
    let b : BlockTells p zs c.args.number c.pairs.result.now z =
    block-tells p zs c.args.number c.index-blocks-number.result c.pairs.result.now z c.blocks-2.ensures.kept c.requires.number
    (rw c.blocks-2.ensures.value at c.index-blocks-number.is) (c.pairs.ensures.value ∙ c.exps.ensures) rising c.block_value-z.ensures.value in
    let d : (z ≢ pos 0) × (c.in-Some.sign ≡ sign_of z) = rw (to_z-of_z w128 z f) at c.in-Some.ensures in
    let a = rw (to_z-of_z w128 z f) at c.in_ok-put_at.ensures in
    let s = rw d.1 at c.in_ok-put_sign-in-Some.ensures in
    other-told p zs c.args.number c.pairs.result.now z c.args.out.now.items c.put_at.new.out.items c.put_sign.new.out.items b d.0 a s rest

pub returns-in-None-clause-on : goal.returns-in-None-clause-on
returns-in-None-clause-on c = λ q rest.
    let p = c.args.p.now in
    let zs = (row_of p.shape.sites p.shape.vars c.args.r.now).values in
    let z = c.block_value-z.result in
    let f : FitsSigned w128 z = search rules in
    let rising : IsRising c.pairs.result.now = rw c.pairs.ensures.value c.pairs.ensures.rising in
    let b : BlockTells p zs c.args.number c.pairs.result.now z =
    block-tells p zs c.args.number c.index-blocks-number.result c.pairs.result.now z c.blocks-2.ensures.kept c.requires.number
    (rw c.blocks-2.ensures.value at c.index-blocks-number.is) (c.pairs.ensures.value ∙ c.exps.ensures) rising c.block_value-z.ensures.value in
    let d : z ≡ pos 0 = rw (to_z-of_z w128 z f) at c.in-None.ensures in
    let a = rw (to_z-of_z w128 z f) at c.in_ok-put_at.ensures in
    zero-on p zs c.args.number c.pairs.result.now z c.args.out.now.items c.put_at.new.out.items b d a rest
