-- What a loop counts that goes over a list.
use Rattle.std.proofs.Common.{◌≡◌, ℕ, ◌+◌, ◌<◌, ◌≤◌, Bool, true, false, List, length, get_or, take, arith, refl}
use Rattle.std.specs.List.{count_by}
use Rattle.std.specs.Int.{from_bool}
use Rattle.std.proofs.lemmas.List.{length-take}
use Rattle.std.proofs.lemmas.List.Sums.{count_by_more_no, count_by_more_yes, count_by-le-length}

counted_by : {X : Type 0} (p : X → Bool) (xs : List X) (i n : ℕ) (d : X) (hit : Bool) → i < length xs → n ≡ count_by p (take i xs)
    → p (get_or xs i d) ≡ hit → n + from_bool hit ≡ count_by p (take (i + 1) xs)
counted_by p xs i n d true l e h = rw (count_by_more_yes p xs i d l h, e) refl
counted_by p xs i n d false l e h = rw (count_by_more_no p xs i d l h, e) (omega arith)

-- one element more
pub counted_more : {X : Type 0} (p : X → Bool) (xs : List X) (i n m : ℕ) (d : X) → i < length xs → n ≡ count_by p (take i xs)
    → m ≡ from_bool (p (get_or xs i d)) → n + m ≡ count_by p (take (i + 1) xs)
counted_more p xs i n m d l e h = rw h (counted_by p xs i n d (p (get_or xs i d)) l e refl)

counted_within : {X : Type 0} (p : X → Bool) (xs : List X) (i n : ℕ) → n ≡ count_by p (take i xs) → n ≤ length xs
counted_within p xs i n e =
    let most : count_by p (take i xs) ≤ length (take i xs) = count_by-le-length p (take i xs) in
    omega (arith, most, e, length-take i xs)

-- one element more is within them
pub counted_fits : {X : Type 0} (p : X → Bool) (xs : List X) (i n m : ℕ) (d : X) → i < length xs → n ≡ count_by p (take i xs)
    → m ≡ from_bool (p (get_or xs i d)) → n + m ≤ length xs
counted_fits p xs i n m d l e h = counted_within p xs (i + 1) (n + m) (counted_more p xs i n m d l e h)
