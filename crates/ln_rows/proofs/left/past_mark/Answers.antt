use Rattle.std.proofs.Common.{true, false, rules, sym, ◌∙◌}
use Rattle.std.proofs.lemmas.List.{take_rest}
use Rattle.ln_rows.proofs.Records.RowsLemmas.{no_mark, mark_by}
use Rattle.ln_rows.proofs.left.past_mark.Goals as goal

pub returns-then-bytes-lt3 : goal.returns-then-bytes-lt3
returns-then-bytes-lt3 c = sym (no_mark _ (search rules))

pub returns-then-is_mark : goal.returns-then-is_mark
returns-then-is_mark c = take_rest _ 3 ∙ sym (mark_by _ true (search rules) (search rules))

pub returns-else-is_mark : goal.returns-else-is_mark
returns-else-is_mark c = sym (mark_by _ false (search rules) (search rules))
