use Rattle.std.proofs.Common.{ap, arith, length}
use Rattle.std.proofs.lemmas.List.{get_or-replicate, length_push}
use Rattle.ln_poly.proofs.Derivations.Lowering.{column-pushed}
use Rattle.ln_poly.proofs.binomials.Binomials.new.Goals as goal

pub columns-init : goal.columns-init
columns-init c = record {
  column = λ j h. get_or-replicate 128 j 1 0 h;
  size = ap length c.new-columns.ensures.items;
  each = λ j d h. absurd (omega (arith, h));
}

pub raise-requires-clause-column : goal.raise-requires-clause-column
raise-requires-clause-column c = λ j h. c.columns.invariant.column j (omega (arith, h))

pub columns-smaller : goal.columns-smaller
columns-smaller c = omega (arith, c.columns-test.true)

pub columns-preserved : goal.columns-preserved
columns-preserved c =
    let i = c.columns.invariant in
    record {
      column = λ j h. c.raise.ensures j (omega (arith, h));
      size = omega (arith, ap length c.in_ok-push.ensures.items, length_push c.columns.columns.items c.columns.c, i.size);
      each = column-pushed _ _ c.columns.c _ c.in_ok-push.ensures.items i.size i.column i.each;
    }
