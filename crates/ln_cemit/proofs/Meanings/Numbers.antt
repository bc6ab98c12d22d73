-- Numbers, and the types that have them.
use Rattle.std.proofs.Common.{◌≡◌, ℕ, zero, suc, ◌+◌, ◌^◌, ◌≤◌, true, refl, ap, ◌∙◌, arith}
use Rattle.std.specs.Prelude.{ℤ, pos, negsuc, unsigned_abs}
use Rattle.std.proofs.lemmas.Bool.{leb-true, le-leb, lt-ltb}
use Rattle.ln_bound.specs.declared.fitted.Width.{Width}
use Rattle.ln_bound.specs.declared.fitted.Width.TheVariants.{W64, W128}
use Rattle.ln_bound.specs.Widths.{limit, wider, no_wider}
use Rattle.ln_code.specs.Numbers.{fits}
use Rattle.ln_csyn.specs.declared.tree.CType.{CType}
use Rattle.ln_csyn.specs.Meaning.{Counts, has, given, is_same, counted, next, Gives}
use Rattle.ln_cemit.specs.Emit.{type_of, wide_at}
use Rattle.ln_cemit.specs.Checked.{ups, plus}

-- what fits is at most the limit
pub within : (w : Width) (x : ℤ) → fits w x ≡ true → unsigned_abs x ≤ limit w
within w x h = leb-true (unsigned_abs x) (limit w) h

-- what is at most the limit fits
pub fits_from : (w : Width) (x : ℤ) → unsigned_abs x ≤ limit w → fits w x ≡ true
fits_from w x h = le-leb (unsigned_abs x) (limit w) h

-- what is at most the limit of a width fits its type in C
pub room : (w : Width) (x : ℤ) → unsigned_abs x ≤ limit w → has (type_of w) x ≡ true
room W64 (pos n) h = lt-ltb n (2 ^ 63) (omega arith)
room W64 (negsuc n) h = lt-ltb n (2 ^ 63) (omega arith)
room W128 (pos n) h = lt-ltb n (2 ^ 127) (omega arith)
room W128 (negsuc n) h = lt-ltb n (2 ^ 127) (omega arith)

-- a width is no wider than the wider one of it and another
pub wider_than : (u w : Width) → no_wider u (wider u w) ≡ true
wider_than W64 w = refl
wider_than W128 w = refl

-- a width is no wider than itself
pub no_wider_self : (w : Width) → no_wider w w ≡ true
no_wider_self W64 = refl
no_wider_self W128 = refl

-- along an equation
pub moved : (u v w : Width) → u ≡ v → no_wider v w ≡ true → no_wider u w ≡ true
moved u v w e h = rw e h

-- the type in C of a width is the same as itself
pub same_type : (w : Width) → is_same (type_of w) (type_of w) ≡ true
same_type W64 = refl
same_type W128 = refl

-- m + n more are m more, and then n more
pub ups_add : (m n w : ℕ) → ups (m + n) w ≡ ups n (ups m w)
ups_add m zero w = let e : m + 0 ≡ m = omega arith in ap (λ i. ups i w) e
ups_add m (suc n) w = let e : m + suc n ≡ suc (m + n) = omega arith in ap (λ i. ups i w) e ∙ ap next (ups_add m n w)

-- counts with m + n more wide operations are those with m more, and then n more
pub plus_add : (m n : ℕ) (k : Counts) → plus (m + n) k ≡ plus n (plus m k)
plus_add m n k = ap (λ (v : ℕ). record { wide = v; calls = k.calls }) (ups_add m n k.wide)

-- an operation in the type of a width is counted as a wide one where the width is 128 bits
pub counted_is : (w : Width) (k : Counts) → counted (type_of w) k ≡ plus (wide_at w) k
counted_is W64 k = refl
counted_is W128 k = refl

-- a number that fits a type is a value of it
pub given_is : (t : CType) (x : ℤ) (k : Counts) → has t x ≡ true → given t x k ≡ Gives t x k
given_is t x k h = rw h

-- a number within the limit of a width is a value of its type in C
pub cast_is : (w : Width) (x : ℤ) (k : Counts) → unsigned_abs x ≤ limit w → given (type_of w) x k ≡ Gives (type_of w) x k
cast_is w x k h = given_is (type_of w) x k (room w x h)
