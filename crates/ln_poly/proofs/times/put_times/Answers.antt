use Rattle.std.proofs.lemmas.Result.{on_ok_weaker}
use Rattle.ln_poly.proofs.Sorting.Concatenated.{concatenated-times, turned-times}
use Rattle.ln_poly.proofs.times.put_times.Goals as goal

pub returns-then-are_low : goal.returns-then-are_low
returns-then-are_low c = on_ok_weaker c.concatenated.result (concatenated-times _ _ _) (rw c.pairs-second.ensures.value at c.concatenated.ensures)

pub returns-then-are_low-2 : goal.returns-then-are_low-2
returns-then-are_low-2 c =
    on_ok_weaker c.concatenated-then-are_low-2.result (turned-times _ _ _) (rw c.pairs-first.ensures.value at c.concatenated-then-are_low-2.ensures)
