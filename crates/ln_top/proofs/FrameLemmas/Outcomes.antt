-- Equal options have equal values.
use Rattle.std.proofs.Common.{◌≡◌, Some}

-- equal options that are Some have equal values
pub some_same : {A : Type 0} (a b : A) → Some a ≡ Some b → a ≡ b
some_same a b e = cc
