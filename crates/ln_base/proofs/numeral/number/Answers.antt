use Rattle.std.proofs.Common.{◌≡◌, ◌<◌, ◌≤◌, ◌^◌, ℕ, length, get_or, arith, Option, Some, None, IfSome, IfNone, decimal, List}
use Rattle.std.specs.Str.Parse.{AllDigits, digits_value_after}
use Rattle.ln_base.proofs.Texts.Numbers.{empty, leading, no_digits, number_is}
use Rattle.ln_base.proofs.numeral.number.Goals as goal
use Rattle.ln_base.proofs.numeral.number.Goals.{else-word-eq48-via-then-word-eq48+else-word-gt1, else-word-eq48-via-else-word-eq48}

pub returns-then-word-eq0-clause-none : goal.returns-then-word-eq0-clause-none
returns-then-word-eq0-clause-none c = λ n h. empty c.args.word.now n (omega arith) (omega arith)

pub returns-then-word-gt1-clause-none : goal.returns-then-word-gt1-clause-none
returns-then-word-gt1-clause-none c = λ n h. leading c.args.word.now n (omega arith) c.if-word-eq48.true c.if-word-gt1.true

some : (w : List ℕ) (most : ℕ) (o : Option ℕ) → most < 2 ^ 128 → 0 < length w → (get_or w 0 0 ≡ 48 → length w ≡ 1)
    → IfSome o (λ n. (n ≤ most) × AllDigits 10 w × (n ≡ digits_value_after 10 0 w)) → IfSome o (λ n. (n ≤ most) × (w ≡ decimal n))
some w most None m l h f = tt
some w most (Some n) m l h f = (f.0, number_is w n f.1 f.2 (omega (arith, f.0)) l h)

none : (w : List ℕ) (most : ℕ) (o : Option ℕ) → most < 2 ^ 128 → IfNone o (AllDigits 10 w → most < digits_value_after 10 0 w)
    → IfNone o ((n : ℕ) → n ≤ most → w ≡ decimal n → ⊥)
none w most (Some n) m f = tt
none w most None m f = λ n h e. no_digits w n most (omega arith) h f e

pub returns-clause-some : goal.returns-clause-some
returns-clause-some c = some c.args.word.now c.args.most c.digits.result (omega arith) (omega arith) (elim c.else-word-eq48.branch [
  | else-word-eq48-via-then-word-eq48+else-word-gt1 w ↦ λ e. omega arith
  | else-word-eq48-via-else-word-eq48 w ↦ λ e. absurd (w.if-word-eq48.false e)
]) c.digits.ensures.some

pub returns-clause-none : goal.returns-clause-none
returns-clause-none c = none c.args.word.now c.args.most c.digits.result (omega arith) c.digits.ensures.none
