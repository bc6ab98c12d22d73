-- The search of a chain for a name: what it passes over has other names.
use Rattle.std.proofs.Common.{◌≡◌, ℕ, zero, suc, ◌+◌, ◌-◌, ◌<◌, ◌≤◌, true, false, List, [], ◌∷◌, length, drop, reverse, get_or, Some, refl, sym, ap}
use Rattle.std.proofs.Common.{◌∙◌, subst, arith, inl, inr}
use Rattle.std.specs.Prelude.{nat_eq, slice_get}
use Rattle.std.proofs.lemmas.List.{drop-drop, drop_more, length-drop, length-reverse, get_or-reverse}
use Rattle.std.proofs.lemmas.Option.{get_or_from_slice_get}
use Rattle.std.proofs.lemmas.Bool.{cases_lt, cond_both, eqb-false, eqb-true, false_from_ne_true}
use Rattle.ln_csyn.specs.Meaning.{Counts, find, number_in, same_name}
use Rattle.ln_cmean.specs.declared.slot.Slot.{Slot}
use Rattle.ln_cmean.specs.Chains.{bucket_of, last_in, IsLinked}
use Rattle.ln_cmean.specs.Slots.{seen_from}
use Rattle.ln_cmean.proofs.Chains.{last_within, linked_fewer}
use Rattle.ln_cmean.proofs.Named.{name_is}

-- the outermost n declarations
abbrev pub bottom : ℕ → List Slot → List Slot
bottom n ds = drop (length ds - n) ds

bottom_all : (ds : List Slot) → bottom (length ds) ds ≡ ds
bottom_all ds = let n : length ds - length ds ≡ 0 = omega arith in rw n refl

bottom_more : (d : Slot) (ds : List Slot) (n : ℕ) → n ≤ length ds → bottom n (d ∷ ds) ≡ bottom n ds
bottom_more d ds n l = let m : suc (length ds) - n ≡ suc (length ds - n) = omega arith in rw m refl

bottom_of : (ds : List Slot) (m n : ℕ) → m ≤ n → n ≤ length ds → bottom m (bottom n ds) ≡ bottom m ds
bottom_of ds m n l w =
    let i : (length ds - n) + (length (bottom n ds) - m) ≡ length ds - m = omega (arith, length-drop (length ds - n) ds) in
    drop-drop (length (bottom n ds) - m) (length ds - n) ds ∙ ap (λ j. drop j ds) i

-- the declaration at a place, and those before it
bottom_at : (xs : List Slot) (n : ℕ) (d : Slot) → 0 < n → n ≤ length xs → slice_get xs (n - 1) ≡ Some d →
    bottom n (reverse xs) ≡ d ∷ bottom (n - 1) (reverse xs)
bottom_at xs n d p l g =
    let r : length (reverse xs) ≡ length xs = length-reverse xs in
    let k = length (reverse xs) - n in
    let i : length xs - 1 - k ≡ n - 1 = omega (arith, r) in
    let j : k + 1 ≡ length (reverse xs) - (n - 1) = omega (arith, r) in
    let e : get_or (reverse xs) k d ≡ d = get_or-reverse xs k d (omega (arith, r)) ∙ ap (λ m. get_or xs m d) i ∙ get_or_from_slice_get xs (n - 1) d d g in
    drop_more (reverse xs) k d (omega (arith, r)) ∙ ap (λ y. y ∷ drop (k + 1) (reverse xs)) e ∙ ap (λ m. d ∷ drop m (reverse xs)) j

linked_drop : (count n : ℕ) (ds : List Slot) → IsLinked count ds → IsLinked count (drop n ds)
linked_drop count zero ds l = l
linked_drop count (suc n) [] l = l
linked_drop count (suc n) (d ∷ ds) l = linked_drop count n ds (linked_fewer count ds d l)

-- ---- what is passed over

passed : (base : ℕ) (d : Slot) (ds : List Slot) (x : List ℕ) (k : Counts) → same_name d.name.now x ≡ false →
    find (seen_from base (d ∷ ds)) x k ≡ find (seen_from base ds) x k
passed base d ds x k h = elim (cases_lt (length ds) base) [
  | inl l ↦ (let m : suc (length ds) - base ≡ 0 = omega arith in
      let n : length ds - base ≡ 0 = omega arith in
      rw (m, n) refl)
  | inr l ↦ (let n : suc (length ds) - base ≡ suc (length ds - base) = omega arith in rw (n, h) refl)
]

-- one of another bucket has another name
differs : (count : ℕ) (d : Slot) (x : List ℕ) → d.bucket ≡ bucket_of d.name.now count → nat_eq d.bucket (bucket_of x count) ≡ false →
    same_name d.name.now x ≡ false
differs count d x b h =
    false_from_ne_true (same_name d.name.now x)
    (λ t. eqb-false d.bucket (bucket_of x count) h (b ∙ ap (λ y. bucket_of y count) (name_is d.name.now x t)))

skip : (count base : ℕ) (x : List ℕ) (k : Counts) (ds : List Slot) → IsLinked count ds →
    find (seen_from base ds) x k ≡ find (seen_from base (bottom (last_in ds (bucket_of x count)) ds)) x k
skip count base x k [] l = refl
skip count base x k (d ∷ ds) l =
    cond_both (nat_eq d.bucket (bucket_of x count)) (suc (length ds)) (last_in ds (bucket_of x count))
    (λ m. find (seen_from base (d ∷ ds)) x k ≡ find (seen_from base (bottom m (d ∷ ds))) x k)
    (λ h. ap (λ es. find (seen_from base es) x k) (sym (bottom_all (d ∷ ds))))
    (λ h. passed base d ds x k (differs count d x (l [] d ds refl).1 h) ∙ skip count base x k ds (linked_fewer count ds d l)
    ∙ ap (λ es. find (seen_from base es) x k) (sym (bottom_more d ds (last_in ds (bucket_of x count)) (last_within ds (bucket_of x count)))))

last_here : (ds : List Slot) (b : ℕ) (d : Slot) (outer : List Slot) → bottom (last_in ds b) ds ≡ d ∷ outer → d.bucket ≡ b
last_here [] b d outer h = cc
last_here (e ∷ es) b d outer z =
    cond_both (nat_eq e.bucket b) (suc (length es)) (last_in es b) (λ m. bottom m (e ∷ es) ≡ d ∷ outer → d.bucket ≡ b)
    (λ h p. let q : e ∷ es ≡ d ∷ outer = sym (bottom_all (e ∷ es)) ∙ p in
    let r : e ≡ d = cc in ap (λ s. s.bucket) (sym r) ∙ eqb-true e.bucket b h)
    (λ h p. last_here es b d outer (sym (bottom_more e es (last_in es b) (last_within es b)) ∙ p)) z

-- ---- the search

-- The search is at a place: what the name means among all is what it means among those up to there, of which the innermost is in its bucket.
pub record IsAt (base count : ℕ) (ds : List Slot) (x : List ℕ) (n : ℕ) : Type 0 where
  pub within : n ≤ length ds
  pub here : (d : Slot) (outer : List Slot) → bottom n ds ≡ d ∷ outer → d.bucket ≡ bucket_of x count
  pub same : (k : Counts) → find (seen_from base ds) x k ≡ find (seen_from base (bottom n ds)) x k

-- a search begins at the last declaration of the name's bucket
pub at_first : (base count : ℕ) (ds : List Slot) (x : List ℕ) (n : ℕ) → IsLinked count ds → n ≡ last_in ds (bucket_of x count) → IsAt base count ds x n
at_first base count ds x n l e =
    let a : IsAt base count ds x (last_in ds (bucket_of x count)) = record {
      within = last_within ds (bucket_of x count);
      here = last_here ds (bucket_of x count);
      same = λ k. skip count base x k ds l;
    } in subst (λ m. IsAt base count ds x m) (sym e) a

-- where the name is another, the search goes on at the declaration before in that bucket
pub at_next : (base count : ℕ) (xs : List Slot) (x : List ℕ) (n : ℕ) (d : Slot) → IsLinked count (reverse xs) → IsAt base count (reverse xs) x n →
    0 < n → slice_get xs (n - 1) ≡ Some d → same_name d.name.now x ≡ false → IsAt base count (reverse xs) x d.below
at_next base count xs x n d l a p g h =
    let ds = reverse xs in
    let w : n ≤ length xs = omega (arith, a.within, length-reverse xs) in
    let e : bottom n ds ≡ d ∷ bottom (n - 1) ds = bottom_at xs n d p w g in
    let t = subst (λ es. IsLinked count es) e (linked_drop count (length ds - n) ds l) in
    let c = a.here d (bottom (n - 1) ds) e in
    let f = at_first base count (bottom (n - 1) ds) x d.below (linked_fewer count (bottom (n - 1) ds) d t)
    ((t [] d (bottom (n - 1) ds) refl).2 ∙ ap (λ b. last_in (bottom (n - 1) ds) b) c) in
    let m : d.below ≤ n - 1 = omega (arith, f.within, a.within, length-drop (length ds - (n - 1)) ds) in
    let q : bottom d.below (bottom (n - 1) ds) ≡ bottom d.below ds = bottom_of ds d.below (n - 1) m (omega (arith, a.within)) in
    record {
      within = omega (arith, m, a.within);
      here = λ y outer i. f.here y outer (q ∙ i);
      same = λ k. a.same k ∙ ap (λ es. find (seen_from base es) x k) e ∙ passed base d (bottom (n - 1) ds) x k h ∙ f.same k
          ∙ ap (λ es. find (seen_from base es) x k) q;
    }

-- where the name is this one, the declaration is the one that is seen
pub found : (base count : ℕ) (xs : List Slot) (x : List ℕ) (n : ℕ) (d : Slot) (k : Counts) → IsAt base count (reverse xs) x n →
    base < n → slice_get xs (n - 1) ≡ Some d → same_name d.name.now x ≡ true → find (seen_from base (reverse xs)) x k ≡ number_in d.number d.kind k
found base count xs x n d k a p g h =
    let ds = reverse xs in
    let w : n ≤ length xs = omega (arith, a.within, length-reverse xs) in
    let e : bottom n ds ≡ d ∷ bottom (n - 1) ds = bottom_at xs n d (omega arith) w g in
    let m : suc (length (bottom (n - 1) ds)) - base ≡ suc (length (bottom (n - 1) ds) - base) =
    omega (arith, length-drop (length ds - (n - 1)) ds, a.within) in
    a.same k ∙ ap (λ es. find (seen_from base es) x k) e ∙ (rw (m, h) refl)

-- each step of a search goes to an earlier declaration
pub below_less : (base count : ℕ) (xs : List Slot) (x : List ℕ) (n : ℕ) (d : Slot) → IsLinked count (reverse xs) → IsAt base count (reverse xs) x n →
    0 < n → slice_get xs (n - 1) ≡ Some d → d.below < n
below_less base count xs x n d l a p g =
    let ds = reverse xs in
    let e : bottom n ds ≡ d ∷ bottom (n - 1) ds = bottom_at xs n d p (omega (arith, a.within, length-reverse xs)) g in
    let t = subst (λ es. IsLinked count es) e (linked_drop count (length ds - n) ds l) in
    omega (arith, p, (t [] d (bottom (n - 1) ds) refl).2, last_within (bottom (n - 1) ds) d.bucket, length-drop (length ds - (n - 1)) ds, a.within)
