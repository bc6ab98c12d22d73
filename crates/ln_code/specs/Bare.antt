-- The processor, which checks nothing: its operands fit the width of the operation, a local that was never set has some value,
-- and the stack has n places.
use Rattle.std.specs.Prelude.{ℕ, ◌==◌, ◌&&◌, nat_le, ℤ, neg_ℤ, List, Some, slice_get, if◌then◌else◌}
use Rattle.ln_code.specs.Engine.{Engine, when}
use Rattle.ln_code.specs.Numbers.{result_of, cut_by, fits}

-- on a row with these values; k is by which power of 2 a pushed number is divided, in a block 0
abbrev pub bare : List ℤ → ℕ → Engine ℕ ℤ (ℕ → ℤ)
bare zs places = record {
  push = λ c k. Some (cut_by k c);
  input = λ v k. slice_get zs v;
  again = λ z k. Some z;
  two = λ t w k y z. when (fits w y && (fits w z && fits w (result_of t y z))) (result_of t y z);
  minus = λ w k z. when (fits w z) (neg_ℤ z);
  cut = λ n k z. Some (cut_by n z);
  got = λ l j. Some (l j);
  put = λ l j z k. if k == j then z else l k;
  room = λ k. nat_le k places;
}
