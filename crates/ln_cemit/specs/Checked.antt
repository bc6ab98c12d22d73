-- The machine as C has it: a value has a width, which it fits, and no operand is wider than its operation. It lies between the
-- rules and the meaning of the C.
use Rattle.std.specs.Prelude.{◌≡◌, ℕ, zero, suc, ◌<◌, ◌&&◌, true, ℤ, pos, neg_ℤ, unsigned_abs, nat_lt}
use Rattle.std.specs.Prelude.{length, List, [], Option, Some, None, slice_get, if◌then◌else◌, negsuc}
use Rattle.ln_bound.specs.declared.fitted.Width.{Width}
use Rattle.ln_bound.specs.declared.fitted.Width.TheVariants.{W64}
use Rattle.ln_bound.specs.Widths.{wider, no_wider}
use Rattle.ln_code.specs.Engine.{Engine, Line, when, next, answer}
use Rattle.ln_code.specs.Numbers.{result_of, cut_by, fits, with_local, no_locals}
use Rattle.ln_csyn.specs.Meaning.{Scene, Counts, Said, next as one_more, runs}
use Rattle.ln_cemit.specs.declared.slot.Way.{Way}
use Rattle.ln_cemit.specs.Emit.{emitted, wide_lines}

-- a value of the machine: a number and its width
pub record Sized : Type 0 where
  pub number : ℤ
  pub width : Width

-- the number with this width, where it fits it
abbrev pub sized : Width → ℤ → Option Sized
sized w z = when (fits w z) (record { number = z; width = w })

-- the machine as C has it, on the values of a row: it stops where a number doesn't fit its width or an operand is too wide
abbrev pub checked : List ℤ → Engine Way Sized (ℕ → Option Sized)
checked zs = record {
  push = λ c a. sized a.width (cut_by a.shift c);
  input = λ v a. next (slice_get zs v) (λ z. sized a.width z);
  again = λ x a. sized (wider x.width a.width) x.number;
  two = λ t w a x y. if no_wider x.width w && no_wider y.width w then sized w (result_of t x.number y.number) else None;
  minus = λ w a x. if no_wider x.width w then sized w (neg_ℤ x.number) else None;
  cut = λ n a x. if no_wider x.width W64 then sized W64 (cut_by n x.number) else None;
  got = λ l j. l j;
  put = with_local;
  room = λ n. true;
}

-- the sign of an integer: -1, 0 or 1
abbrev pub sign_of : ℤ → ℤ
sign_of (pos zero) = pos 0
sign_of (pos (suc n)) = pos 1
sign_of (negsuc n) = negsuc 0

-- the sign of a number above e in absolute value, else 0
abbrev pub sign_above : ℕ → ℤ → ℤ
sign_above e x = if nat_lt e (unsigned_abs x) then sign_of x else pos 0

-- n more
abbrev pub ups : ℕ → ℕ → ℕ
ups zero w = w
ups (suc n) w = one_more (ups n w)

-- the counts with n more wide operations
abbrev pub plus : ℕ → Counts → Counts
plus n k = record { wide = ups n k.wide; calls = k.calls }

-- the error makes no wide operation: there is none, or the number is 64 bits wide
pub data Quiet : ℕ → Width → Type 0 where
  without : {w : Width} → Quiet 0 w
  narrow : {e : ℕ} → fits W64 (pos e) ≡ true → Quiet e W64

-- the names of the declarations below this number differ
abbrev pub AreNames : (ℕ → List ℕ) → ℕ → Type 0
AreNames name top = (m n : ℕ) → m < top → n < top → name m ≡ name n → m ≡ n

-- Where the machine as C has it has a result, the emitted body returns its sign, and no line fails.
abbrev pub EmittedMeans : Type 0
EmittedMeans =
    (name : ℕ → List ℕ) (e : ℕ) (s : Scene) (xs : List (Line Way)) (x : Sized) (k : Counts)
    → AreNames name (length xs) → Quiet e x.width → answer (checked s.values) no_locals xs ≡ Some x
    → runs s [] (emitted name e xs 0 [] no_locals) k ≡ Said (sign_above e x.number) (plus (wide_lines xs) k)
