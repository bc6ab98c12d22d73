-- The first index that an earlier one equals, place by place.
use Rattle.std.proofs.Common.{◌≡◌, ◌≢◌, ℕ, suc, ◌+◌, ◌<◌, ◌≤◌, Bool, true, false, List, [], ◌∷◌, ◌++◌, length, get_or, take, drop, ℤ, pos}
use Rattle.std.proofs.Common.{Option, Some, None, refl, sym, subst, arith, add-one, drop-cons, append_assoc, length-append}
use Rattle.std.specs.Prelude.{MatchOption, Contains, All, AllPairs, if◌then◌else◌}
use Rattle.std.proofs.Math.Seq.{take-append_seam}
use Rattle.std.proofs.lemmas.Bool.{or_parts, both_ways}
use Rattle.std.proofs.lemmas.Bool.Decides.{Decides-int_eq}
use Rattle.std.proofs.lemmas.List.Elements.{All-nil, All-cons}
use Rattle.std.proofs.lemmas.List.Folds.{Any-from_list_any}
use Rattle.std.proofs.lemmas.List.Quantifiers.{all_pairs_push}
use Rattle.std.specs.List.{list_any}
use Rattle.std.specs.Ordering.{int_eq}
use Rattle.std.proofs.lemmas.List.{take_more, append-nil, drop_all}
use Rattle.ln_order.specs.Order.{equal_behind, first_equal, IsFirstEqual}

-- an index that comes before is the first such
pub found_here : (zs : List ℤ) (k : ℕ) (d : ℤ) → k < length zs → list_any (λ y. int_eq y (get_or zs k d)) (take k zs) ≡ true
    → equal_behind (take k zs) k (drop k zs) ≡ Some k
found_here zs k d h e = rw (drop-cons zs k d, e) refl

-- after the last index there is none
pub none_behind : (zs : List ℤ) (k : ℕ) → length zs ≤ k → equal_behind (take k zs) k (drop k zs) ≡ None
none_behind zs k h = rw (drop_all k zs h) refl

-- one that doesn't come before is skipped
pub passed_by : (zs : List ℤ) (k : ℕ) (d : ℤ) → k < length zs → list_any (λ y. int_eq y (get_or zs k d)) (take k zs) ≡ false
    → equal_behind (take (k + 1) zs) (k + 1) (drop (k + 1) zs) ≡ equal_behind (take k zs) k (drop k zs)
passed_by zs k d h e = rw (drop-cons zs k d, e, take_more zs k d h, add-one) refl

-- an index that isn't among these differs from each
differs : (before : List ℤ) (z : ℤ) → list_any (λ y. int_eq y z) before ≡ false → All (λ y. y ≢ z) before
differs [] z h = All-nil (λ y. y ≢ z)
differs (y ∷ ys) z h =
    let p = or_parts (int_eq y z) (list_any (λ x. int_eq x z) ys) h in
    All-cons (λ x. x ≢ z) y ys (λ e. both_ways (int_eq y z) p.0 ((Decides-int_eq y z).1 e)) (differs ys z p.1)

-- one that is among them is one of them
among : (before : List ℤ) (z : ℤ) → list_any (λ y. int_eq y z) before ≡ true → Contains before z
among before z h =
    let p = Any-from_list_any (λ y. int_eq y z) before h in
    (p.0, p.2, subst (λ (x : ℤ). get_or before p.0 x ≡ x) ((Decides-int_eq p.1 z).0 p.4) p.3)

get_or_here : (before : List ℤ) (z : ℤ) (zs : List ℤ) → get_or (before ++ z ∷ zs) (length before) (pos 0) ≡ z
get_or_here [] z zs = refl
get_or_here (y ∷ ys) z zs = get_or_here ys z zs

-- what is said of the whole, from a place on
Told : List ℤ → Option ℕ → Type 0
Told zs o = MatchOption o (AllPairs (λ y z. y ≢ z) zs) (λ k. IsFirstEqual zs k)

told_more : (before : List ℤ) (k : ℕ) (z : ℤ) (zs : List ℤ) (b : Bool) → length before ≡ k → AllPairs (λ y z. y ≢ z) before
    → list_any (λ y. int_eq y z) before ≡ b
    → (b ≡ false → Told (before ++ z ∷ zs) (equal_behind (before ++ z ∷ []) (suc k) zs))
    → Told (before ++ z ∷ zs) (if b then Some k else equal_behind (before ++ z ∷ []) (suc k) zs)
unfolding Told
told_more before k z zs true size differ e more =
    let here : get_or (before ++ z ∷ zs) (length before) (pos 0) ≡ z = get_or_here before z zs in
    let front : take (length before) (before ++ z ∷ zs) ≡ before = take-append_seam before (z ∷ zs) in
    rw (← size) (record {
      within = omega (arith, length-append before (z ∷ zs));
      earlier = rw (front, here) (among before z e);
      differ = rw front differ;
    })
told_more before k z zs false size differ e more = more refl

told : (before : List ℤ) (k : ℕ) (zs : List ℤ) → length before ≡ k → AllPairs (λ y z. y ≢ z) before → Told (before ++ zs) (equal_behind before k zs)
unfolding Told
told before k [] size differ = rw append-nil differ
told before k (z ∷ zs) size differ =
    told_more before k z zs (list_any (λ y. int_eq y z) before) size differ refl
    (λ e. let long : length (before ++ z ∷ []) ≡ suc k = omega (arith, length-append before (z ∷ [])) in
    rw append_assoc at (told (before ++ z ∷ []) (suc k) zs long (all_pairs_push (λ x y. x ≢ y) before z differ (λ j d l. differs before z e j d l))))

-- the first place whose index an earlier place has is exactly that, and where there is none the indices differ
pub first_equal_is : (zs : List ℤ) → MatchOption (first_equal zs) (AllPairs (λ y z. y ≢ z) zs) (λ k. IsFirstEqual zs k)
unfolding Told
first_equal_is zs = told [] 0 zs refl (λ i j d l m. absurd (omega arith))

-- the same of a result that is the first such place, or none
pub first_equal_says : (zs : List ℤ) (o : Option ℕ) → o ≡ first_equal zs → MatchOption o (AllPairs (λ y z. y ≢ z) zs) (λ k. IsFirstEqual zs k)
first_equal_says zs o e = subst (λ (x : Option ℕ). MatchOption x (AllPairs (λ y z. y ≢ z) zs) (λ k. IsFirstEqual zs k)) (sym e) (first_equal_is zs)
