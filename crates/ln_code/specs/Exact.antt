-- What a block and a filter mean: the machine over unbounded integers. It has no result where a value is outside its
-- operation's range, in a filter above its bound, or leaves its width.
use Rattle.std.specs.Prelude.{ℕ, ◌&&◌, nat_le, true, ℤ, neg_ℤ, unsigned_abs, List, Option, None, slice_get}
use Rattle.ln_interval.specs.Range.{Range}
use Rattle.ln_bound.specs.Sound.{holds}
use Rattle.ln_bound.specs.declared.fitted.Width.{Width}
use Rattle.ln_bound.specs.declared.fitted.Width.TheVariants.{W64, W128}
use Rattle.ln_code.specs.declared.op.Triple.{Triple}
use Rattle.ln_code.specs.Engine.{Engine, when, next}
use Rattle.ln_code.specs.Numbers.{result_of, cut_by, fits, with_local}

-- z, where it is in the range and fits the width
abbrev pub within : Range → Width → ℤ → Option ℤ
within p w z = when (holds p z && fits w z) z

-- a block on a row with these values
abbrev pub exact : List ℤ → Engine Range ℤ (ℕ → Option ℤ)
exact zs = record {
  push = λ c p. within p W128 c;
  input = λ v p. next (slice_get zs v) (λ z. within p W128 z);
  again = λ z p. within p W128 z;
  two = λ t w p y z. within p w (result_of t y z);
  minus = λ w p z. within p w (neg_ℤ z);
  cut = λ n p z. None;
  got = λ l j. l j;
  put = with_local;
  room = λ k. true;
}

-- a truncated number, with the error of the operation that pushed it
pub record Held : Type 0 where
  pub number : ℤ
  pub error : ℕ

-- z, where it is at most H and fits 64 bits
abbrev pub held : Triple → ℤ → Option Held
held a z = when (nat_le (unsigned_abs z) a.h && fits W64 z) (record { number = z; error = a.e })

-- a filter is 64 bits wide throughout
abbrev pub held_at : Width → Triple → ℤ → Option Held
held_at W64 a z = held a z
held_at W128 a z = None

-- a filter on a row with these values; a number is pushed divided by the 2^k of its triple
abbrev pub exact_filter : List ℤ → Engine Triple Held (ℕ → Option Held)
exact_filter zs = record {
  push = λ c a. held a (cut_by a.k c);
  input = λ v a. next (slice_get zs v) (λ z. held a z);
  again = λ y a. held a y.number;
  two = λ t w a y z. held_at w a (result_of t y.number z.number);
  minus = λ w a y. held_at w a (neg_ℤ y.number);
  cut = λ n a y. held a (cut_by n y.number);
  got = λ l j. l j;
  put = with_local;
  room = λ k. true;
}
