-- Proves facts of writes, one after the other, and of where one of them fails.
use Rattle.std.proofs.Common.{◌≡◌, ℕ, ◌+◌, ◌≤◌, List, ◌++◌, length, take, refl, ◌∙◌, arith, Option}
use Rattle.std.proofs.Common.{Result, Ok, Err, OnErr, OnOk, length-append}
use Rattle.std.proofs.lemmas.List.{take-append-le}
use Rattle.std.proofs.Math.Seq.{take-append-add}
use Rattle.ln_base.specs.Outside.{Shown, appended}
use Rattle.ln_base.specs.declared.outside.Port.{Port}
use Rattle.ln_base.proofs.Kept.{appended-twice}
use Rattle.ln_watch.specs.Panel.{FailsAfter}

-- the first of two writes fails
pub fails_first : (port : Port) (xs ys : List ℕ) (was now : Option Shown) → FailsAfter port xs was now
    → FailsAfter port (xs ++ ys) was now
fails_first port xs ys was now f =
    record { n = f.n; within = omega (arith, length-append xs ys, f.within); shown = rw (take-append-le f.n xs ys f.within) f.shown }

-- the second of two writes fails
pub fails_behind : (port : Port) (xs ys : List ℕ) (was between now : Option Shown) → between ≡ appended port xs was
    → FailsAfter port ys between now → FailsAfter port (xs ++ ys) was now
fails_behind port xs ys was between now e f =
    record {
      n = length xs + f.n;
      within = omega (arith, length-append xs ys, f.within);
      shown = f.shown ∙ rw (e, appended-twice, ← take-append-add xs ys f.n) refl;
    }

-- where the second of two writes succeeds, the bytes of both are written
pub puts_second : {T E : Type 0} (r : Result T E) (port : Port) (xs ys : List ℕ) (was between now : Option Shown)
    → between ≡ appended port xs was → OnOk r (now ≡ appended port ys between) → OnOk r (now ≡ appended port (xs ++ ys) was)
puts_second (Ok x) port xs ys was between now e f = f ∙ rw (e, appended-twice) refl
puts_second (Err x) port xs ys was between now e f = tt

-- what the contract of `put` says of a failure, as a fact of what was written
pub fails_second : {T E : Type 0} (r : Result T E) (port : Port) (xs ys : List ℕ) (was between now : Option Shown)
    → between ≡ appended port xs was
    → OnErr r ((n : ℕ) × (n ≤ length ys) × (now ≡ appended port (take n ys) between))
    → OnErr r (FailsAfter port (xs ++ ys) was now)
fails_second (Ok x) port xs ys was between now e f = tt
fails_second (Err x) port xs ys was between now e f =
    fails_behind port xs ys was between now e (record { n = f.0; within = f.1; shown = f.2 })
