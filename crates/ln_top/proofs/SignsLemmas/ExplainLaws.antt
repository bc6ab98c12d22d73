-- `explain`: a record has one text of lines, and so what it requires is one.
use Rattle.std.proofs.Common.{ℕ, List, [], ap}
use Rattle.ln_order.proofs.Signs.RowSigns.{rows-differ}
use Rattle.ln_tree.specs.declared.pred.Pred.{Pred}
use Rattle.ln_tree.specs.Table.{pred_of}
use Rattle.ln_rows.proofs.Fields.RangeLemmas.{row_in_range}
use Rattle.ln_trace.specs.Signs.{RowsDiffer}
use Rattle.ln_trace.specs.Text.{first_line, text_of_lines}
use Rattle.ln_trace.proofs.OneTelling.{explains-one}
use Rattle.ln_top.specs.declared.frame.asked.Asked.TheVariants.{Nothing}
use Rattle.ln_top.specs.Frame.Subject.{subject_of}
use Rattle.ln_top.proofs.FrameLemmas.Laws.{IsLawful, shape_objects}
use Rattle.ln_top.specs.Signs.Explain.{ExplainLine, explain_work}
use Rattle.ln_top.proofs.SignsLemmas.RowsLaws.{HasOneLine, lawful_rows, one_line, unseen}

-- the sites of a row that is read have indices of their own
pub rows_differ : (q : Pred) → RowsDiffer (subject_of (pred_of q))
rows_differ q fields row read =
    rows-differ q.shape row (row_in_range q.shape.sites q.shape.vars fields row q.shape.kept read)

-- a record has one text
one_explained : (q : Pred) (names : List (List ℕ)) → HasOneLine ExplainLine (pred_of q) names
one_explained q names n fields x y a b =
    one_line (λ s t d e. unseen (ap text_of_lines (explains-one (subject_of (pred_of q)) n fields (rows_differ q) s t d e)))

-- the laws of a work hold for `explain`
pub lawful : IsLawful Nothing explain_work
lawful = lawful_rows Nothing first_line (λ preds. ExplainLine) (λ boxes. []) shape_objects (λ g i s q others f. one_explained q)
