use Rattle.std.proofs.Common.{arith}
use Rattle.ln_top.proofs.JudgesLemmas.ThreeLaws.{one_tested}
use Rattle.ln_top.proofs.judges.three.one_of_three.Goals as goal

pub returns-in-len1 : goal.returns-in-len1
returns-in-len1 c = λ ps num.
    one_tested c.args.preds.now c.args.numbers.now ps _ _ (omega (arith, c.in-len1.len_at_least, c.in-len1.len_below)) num
    c.index-preds-i.is c.three_of_one.ensures
