-- Defines what goes to a stream, and what is passed over in a file, where the bytes of a writer or a reader are known.
use Rattle.std.specs.Prelude.{◌≡◌, ℕ, ◌≤◌, List, length, take, drop, Option, None, Some, Result, MatchResult}
use Rattle.std.specs.Io.KnownBytes.{Appends, Keeps}
use Rattle.ln_base.specs.declared.outside.Port.{Port}
use Rattle.ln_base.specs.declared.outside.Port.TheVariants.{Out, Err as ErrPort}

-- the first k of the bytes that were left, or all of them, are passed over
abbrev pub Passes : Option (List ℕ) → Option (List ℕ) → ℕ → Type 0
Passes None new k = Unit {0}
Passes (Some xs) None k = ⊥
Passes (Some xs) (Some ys) k = ys ≡ drop k xs

-- some first part of the bytes is appended
abbrev pub AppendsFront : Option (List ℕ) → Option (List ℕ) → List ℕ → Type 0
AppendsFront old new bs = (n : ℕ) × (n ≤ length bs) × Appends old new (take n bs)

-- of two writers one has what was done to it, and the other stays
abbrev pub OnPort : (Option (List ℕ) → Option (List ℕ) → Type 0) → Port → (out out_now err err_now : Option (List ℕ)) → Type 0
OnPort Does Out out out_now err err_now = Does out out_now × Keeps err err_now
OnPort Does ErrPort out out_now err err_now = Keeps out out_now × Does err err_now

-- as many bytes as were returned are appended to the stream's writer; at a fault a prefix of the bytes is
abbrev pub Goes : {E : Type 0} → Result ℕ E → List ℕ → Port → (out out_now err err_now : Option (List ℕ)) → Type 0
Goes result bs port out out_now err err_now =
    MatchResult result
    (λ n. OnPort (λ old new. Appends old new (take n bs)) port out out_now err err_now)
    (λ _. OnPort (λ old new. AppendsFront old new bs) port out out_now err err_now)
