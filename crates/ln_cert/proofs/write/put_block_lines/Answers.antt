-- Answers to the goals of `put_block_lines` in src/write.rt.
use Rattle.std.proofs.lemmas.Result.{IfOk-weaker}
use Rattle.std.proofs.Common.{[], ◌∷◌, map, subst}
use Rattle.ln_tree.specs.Exps.{IsRising}
use Rattle.ln_code.specs.Part.{lines_of}
use Rattle.ln_cert.specs.declared.part.Part.TheVariants.{Block}
use Rattle.ln_cert.specs.Written.{WroteParts, range_line}
use Rattle.ln_cert.proofs.Writing.Programmed.{block_each, block_vars}
use Rattle.ln_cert.proofs.Writing.Wrote.{block_wrote}
use Rattle.ln_cert.proofs.write.put_block_lines.Goals as goal

pub put_block_head-requires-clause-of_vars : goal.put_block_head-requires-clause-of_vars
put_block_head-requires-clause-of_vars c = rw c.exps.ensures (block_vars c.args.b.now c.requires.rules)

pub put_range_lines-requires-clause-rules : goal.put_range_lines-requires-clause-rules
put_range_lines-requires-clause-rules c = rw (c.ops.ensures, c.pairs-pairs.ensures.value) (block_each c.args.b.now c.requires.rules c.pairs-pairs.ensures.kept)

pub returns-clause-wrote : goal.returns-clause-wrote
returns-clause-wrote c = IfOk-weaker c.put_end.result _ _ (λ _ p. block_wrote c.args.n c.args.b.now c.args.out.now.items c.put_end.new.out.items (record {
  after_head = c.put_block_head.new.out.items;
  after_lines = c.put_range_lines.new.out.items;
  head = subst (λ z. WroteParts c.args.out.now.items c.put_block_head.new.out.items (Block c.args.n z ∷ [])) c.exps.ensures
      c.in_ok-put_block_head.ensures.wrote;
  lines = subst (λ z. WroteParts c.put_block_head.new.out.items c.put_range_lines.new.out.items (map range_line z))
      (λ i. lines_of (c.ops.ensures i) (c.pairs-pairs.ensures.value i)) c.in_ok-put_range_lines.ensures;
  end = p;
})) c.put_end.ensures

pub returns-clause-listable : goal.returns-clause-listable
returns-clause-listable c =
    let r : IsRising c.args.b.now.exps = rw c.exps.ensures at c.in_ok-put_block_head.ensures.rising in
    IfOk-weaker c.put_end.result _ _ (λ _ _. record { rising = r; shallow = c.pairs-pairs.ensures.kept.shallow }) c.put_end.ensures
