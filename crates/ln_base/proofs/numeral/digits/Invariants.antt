use Rattle.std.proofs.Common.{◌≡◌, ◌≤◌, drop}
use Rattle.std.specs.Str.Parse.{AllDigits, digits_value_after}
use Rattle.ln_base.proofs.numeral.digits.Given as goal

abbrev pub invariant-digits : goal.invariant-digits
invariant-digits l = record {
  small : l.n ≤ l.most;
  same : digits_value_after 10 l.n (drop l.i l.word) ≡ digits_value_after 10 0 l.word;
  up : AllDigits 10 (drop l.i l.word) → AllDigits 10 l.word;
  down : AllDigits 10 l.word → AllDigits 10 (drop l.i l.word);
}
