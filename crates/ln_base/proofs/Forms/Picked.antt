-- One word out of two.
use Rattle.std.proofs.Common.{◌≡◌, Bool, true, false, Option, Some, None, refl}
use Rattle.std.specs.Prelude.{if◌then◌else◌}

-- two that are there are one where what holds them is
pub some : {A : Type 0} {a b : A} → Some a ≡ Some b → a ≡ b
some e = cc

-- where what is chosen is this, it is so of it, if it is so on either way
pub pick : {A : Type 0} (P : A → Type 0) (t : Bool) (a b : Option A) (k : A) → (t ≡ true → a ≡ Some k → P k) → (b ≡ Some k → P k)
    → (if t then a else b) ≡ Some k → P k
pick P true a b k f g e = f refl e
pick P false a b k f g e = g e

-- nothing is never this, so on that way there is nothing to show
pub none : {A : Type 0} (P : A → Type 0) (k : A) → None ≡ Some k → P k
none P k e = absurd (cc)
