use Rattle.std.proofs.Common.{◌∙◌, ◌≡◌, FitsSigned, ap, length, refl, rules, sym}
use Rattle.std.specs.Prelude.{Some}
use Rattle.std.proofs.lemmas.Int.{to_z-of_z}
use mir.Syntax.{w128}
use Rattle.ln_code.proofs.Verdicts.Calls.{block_gives, made_again}
use Rattle.ln_code.proofs.run.value_of.Goals as goal

pub run_block-requires-clause-answers : goal.run_block-requires-clause-answers
run_block-requires-clause-answers c =
    let b = block_gives c.args.block.now c.args.values.now c.as_mut_slice-2.result.now c.requires.program c.requires.made c.requires.row
    c.requires.block c.as_mut_slice.ensures.value in
    rw (c.ops.ensures, b.1) refl

pub returns-clause-value : goal.returns-clause-value
returns-clause-value c =
    let f : FitsSigned w128 c.run_block.result = search rules in
    let b = block_gives c.args.block.now c.args.values.now c.as_mut_slice-2.result.now c.requires.program c.requires.made c.requires.row
    c.requires.block c.as_mut_slice.ensures.value in
    rw (to_z-of_z w128 c.run_block.result f) (b.2 ∙ sym b.1 ∙ (rw c.ops.ensures at c.run_block.ensures.value))

pub returns-clause-made : goal.returns-clause-made
returns-clause-made c =
    made_again c.args.p.now c.args.s.now _ _ c.requires.made (c.run_block.ensures.size ∙ ap length c.as_mut_slice.ensures.value)
    (c.run_block.ensures.locals ∙ ap length c.as_mut_slice-2.ensures.value)
