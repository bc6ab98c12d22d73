use Rattle.std.proofs.Common.{◌<◌, ◌^◌, rules, sym}
use Rattle.ln_top.proofs.Steps.WordsLaws.{number_fits, number_there}
use Rattle.ln_top.proofs.words.number.Goals as goal

pub overflow_cast-result : goal.overflow_cast-result
overflow_cast-result c =
    let digits = rw c.as_bytes-digits.ensures.value at c.if-all_digits.ensures in
    let value = rw c.as_bytes-digits.ensures.value at c.unsigned.ensures in
    let small : c.unsigned.result < 2 ^ 64 = number_fits c.args.word.now _ (sym digits) (search rules) value in
    search rules

pub returns-then-digits-le18 : goal.returns-then-digits-le18
returns-then-digits-le18 c =
    let digits = rw c.as_bytes-digits.ensures.value at c.if-all_digits.ensures in
    let value = rw c.as_bytes-digits.ensures.value at c.unsigned.ensures in
    number_there c.args.word.now _ (sym digits) (search rules) value
