use Rattle.std.proofs.Common.{ap, option_map, ◌∙◌, refl}
use Rattle.std.proofs.lemmas.Option.{slice_get-map}
use Rattle.ln_tree.specs.Table.{pred_of}
use Rattle.ln_compile.proofs.Listing.FilteredLemmas.{answers_for}
use Rattle.ln_top.proofs.target.Target.new.Goals as goal

pub returns-clause-names : goal.returns-clause-names
returns-clause-names c = rw c.table.ensures refl

pub invariant_of-result : goal.invariant_of-result
invariant_of-result c =
    let there = slice_get-map pred_of c.args.c.now.table.preds _ ∙ ap (option_map pred_of) c.pred.ensures in
    record { kept = c.blocks-blocks.ensures.kept; answers = answers_for _ _ (c.in_ok-program.ensures.program _ there) }

pub returns-clause-belongs : goal.returns-clause-belongs
returns-clause-belongs c =
    let there = slice_get-map pred_of c.args.c.now.table.preds _ ∙ ap (option_map pred_of) c.pred.ensures in
    record { kept = c.blocks-blocks.ensures.kept; answers = answers_for _ _ (c.in_ok-program.ensures.program _ there) }
