use Rattle.std.proofs.Common.{◌+◌, ◌<◌, ◌^◌, length, rules, sym, ◌∙◌}
use Rattle.ln_rows.proofs.Records.RowsLemmas.{no_bytes, left_ends, left_takes, left_reads}
use Rattle.ln_rows.proofs.left.Left.try_take.Goals as goal

pub returns-then-is_empty : goal.returns-then-is_empty
returns-then-is_empty c =
    left_ends _ _ _ _ c.self.view_is c.in_default.is c.past_ends-text.ensures (no_bytes _ (sym c.is_empty.ensures ∙ c.if-is_empty.true))

pub returns-in-Some-2 : goal.returns-in-Some-2
returns-in-Some-2 c =
    let small : length c.past_ends-text.result.now + 1 < 2 ^ 64 = search rules in
    left_takes _ _ _ _ c.self.view_is c.in_default.is c.past_ends-text.ensures _ _ _ small (rw c.in-Some-2.is at c.in_ok-rest.ensures)

pub returns : goal.returns
returns c =
    left_reads _ _ _ _ c.self.view_is c.in_default.is c.past_ends-text.ensures _ _ _ _ _
    (c.insert-quoted.ensures.value ∙ c.in_ok-new.ensures) c.next-2.ensures
