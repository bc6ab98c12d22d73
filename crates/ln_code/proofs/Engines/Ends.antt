-- Where a run of the processor ends.
use Rattle.std.proofs.Common.{◌≡◌, ℕ, ℤ, ◌≤◌, true, List, [], length, drop, refl, zero, suc, ap}
use Rattle.std.proofs.lemmas.List.{drop_all}
use Rattle.std.specs.Prelude.{Some, is_some, IsSome}
use Rattle.ln_code.specs.declared.op.Op.{Op}
use Rattle.ln_code.specs.declared.op.Triple.{Triple}
use Rattle.ln_code.specs.Engine.{Engine, Line, run, only, answer}
use Rattle.ln_code.specs.Memory.{seen, at, plain, shifted}

only_seen : (buf : List ℤ) (top : ℕ) → is_some (only (seen buf top)) ≡ true → only (seen buf top) ≡ Some (at buf 0)
only_seen buf zero h = cc
only_seen buf (suc zero) h = refl
only_seen buf (suc (suc n)) h = cc

-- where nothing remains to be run, the result is the lowest number of the stack
ends : (e : Engine ℕ ℤ (ℕ → ℤ)) (rest lines : List (Line ℕ)) (buf : List ℤ) (top : ℕ) (l m : ℕ → ℤ) → rest ≡ [] →
    run e rest (record { stack = seen buf top; locals = m }) ≡ run e lines (record { stack = []; locals = l }) →
    IsSome (answer e l lines) → answer e l lines ≡ Some (at buf 0)
ends e rest lines buf top l m d r a =
    let q : Some (record { stack = seen buf top; locals = m }) ≡ run e lines (record { stack = []; locals = l }) = rw d at r in
    let s : is_some (only (seen buf top)) ≡ true = rw (← q) at a in
    rw (← q) (only_seen buf top s)

-- after the last operation of a block, its result is the lowest number of the stack
pub block_ends : (e : Engine ℕ ℤ (ℕ → ℤ)) (ops : List Op) (i : ℕ) (buf : List ℤ) (top : ℕ) (l m : ℕ → ℤ) → length ops ≤ i →
    run e (plain (drop i ops)) (record { stack = seen buf top; locals = m }) ≡ run e (plain ops) (record { stack = []; locals = l }) →
    IsSome (answer e l (plain ops)) → answer e l (plain ops) ≡ Some (at buf 0)
block_ends e ops i buf top l m h r a =
    let d : drop i ops ≡ [] = drop_all i ops h in
    ends e (plain (drop i ops)) (plain ops) buf top l m (ap plain d) r a

-- the same of a filter
pub filter_ends : (e : Engine ℕ ℤ (ℕ → ℤ)) (ops : List Op) (ts : List Triple) (i : ℕ) (buf : List ℤ) (top : ℕ) (l m : ℕ → ℤ) → length ops ≤ i →
    run e (shifted (drop i ops) (drop i ts)) (record { stack = seen buf top; locals = m }) ≡ run e (shifted ops ts) (record { stack = []; locals = l }) →
    IsSome (answer e l (shifted ops ts)) → answer e l (shifted ops ts) ≡ Some (at buf 0)
filter_ends e ops ts i buf top l m h r a =
    let d : drop i ops ≡ [] = drop_all i ops h in
    let f : shifted (drop i ops) (drop i ts) ≡ [] = rw d refl in
    ends e (shifted (drop i ops) (drop i ts)) (shifted ops ts) buf top l m f r a
