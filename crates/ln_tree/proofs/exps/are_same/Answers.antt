use Rattle.std.proofs.Common.{◌∙◌, sym, arith}
use Rattle.ln_tree.proofs.Words.{alike_at}
use Rattle.ln_tree.proofs.exps.are_same.Goals as goal

pub fours-preserved : goal.fours-preserved
fours-preserved c = (
  omega (arith, c.fours-test.true),
  alike_at 4 c.fours.i _ _ (omega (arith, c.fours-test.true)) c.if-n-b.false c.four_at.ensures.bytes c.four_at-in-fours.ensures.bytes
      (sym c.four_at.ensures.value ∙ c.if-four_at.false ∙ c.four_at-in-fours.ensures.value) ∙ c.fours.invariant.1,
)
