-- Answers to the goals of `put_part` in src/write.rt.
use Rattle.std.proofs.Common.{[], ◌∷◌, subst}
use Rattle.std.proofs.lemmas.Result.{IfOk-weaker}
use Rattle.ln_tree.specs.declared.shape.Shape.{Shape}
use Rattle.ln_tree.specs.Names.{name_bytes}
use Rattle.ln_tree.proofs.KeptLemmas.{few_vars}
use Rattle.ln_cert.specs.declared.part.Part.TheVariants.{Predicate}
use Rattle.ln_cert.specs.Written.{AreListableBlocks, WroteParts, blocks_lines}
use Rattle.ln_cert.proofs.Writing.Programmed.{for_blocks, one_behind, program_wrote}
use Rattle.ln_cert.proofs.write.put_part.Goals as goal

pub put_filter-requires : goal.put_filter-requires
put_filter-requires c = few_vars c.args.p.now.shape.sites c.args.p.now.shape.vars c.args.p.now.shape.kept

pub put_blocks-requires-clause-few : goal.put_blocks-requires-clause-few
put_blocks-requires-clause-few c = rw c.blocks-blocks.ensures.value c.requires.few

pub put_blocks-requires-clause-rules : goal.put_blocks-requires-clause-rules
put_blocks-requires-clause-rules c = rw c.blocks-blocks.ensures.value
    (for_blocks c.args.p.now c.blocks-blocks.ensures.kept (few_vars c.args.p.now.shape.sites c.args.p.now.shape.vars c.args.p.now.shape.kept))

pub put_all_orders-requires-clause-few : goal.put_all_orders-requires-clause-few
put_all_orders-requires-clause-few c = c.requires.few

pub put_all_orders-requires-clause-kept : goal.put_all_orders-requires-clause-kept
put_all_orders-requires-clause-kept c = c.blocks-blocks.ensures.kept

pub returns-clause-listable : goal.returns-clause-listable
returns-clause-listable c =
    let blocks : AreListableBlocks c.args.p.now.blocks = rw c.blocks-blocks.ensures.value at c.in_ok-put_blocks.ensures.listable in
    IfOk-weaker c.put_done.result _ _ (λ _ _. record { blocks = blocks; filter = c.in_ok-put_filter.ensures.shallow }) c.put_done.ensures

pub returns-clause-listed : goal.returns-clause-listed
returns-clause-listed c = IfOk-weaker c.put_done.result _ _ (λ _ p. one_behind c.args.out.now.items c.put_done.new.out.items c.args.p.now
    (program_wrote c.args.p.now c.args.out.now.items c.put_done.new.out.items c.blocks-blocks.ensures.kept (record {
      after_name = c.put_name.new.out.items;
      after_filter = c.put_filter.new.out.items;
      after_blocks = c.put_blocks.new.out.items;
      after_orders = c.put_all_orders.new.out.items;
      name = subst (λ (s : Shape). WroteParts c.args.out.now.items c.put_name.new.out.items (Predicate (name_bytes s.name) ∷ []))
          c.shape.ensures c.in_ok-put_name.ensures;
      filter = c.in_ok-put_filter.ensures.wrote;
      blocks = subst (λ cs. WroteParts c.put_filter.new.out.items c.put_blocks.new.out.items (blocks_lines 0 cs))
          c.blocks-blocks.ensures.value c.in_ok-put_blocks.ensures.wrote;
      orders = c.in_ok-put_all_orders.ensures;
      done = p;
    }))) c.put_done.ensures
