-- Chains of declarations: with one more, with one fewer, and with a number; and what the search of a chain passes over.
use Rattle.std.proofs.Common.{◌≡◌, ℕ, suc, ◌+◌, ◌<◌, ◌≤◌, List, [], ◌∷◌, ◌++◌, length, take, reverse, get_or, set, Some, refl, sym, ap}
use Rattle.std.proofs.Common.{◌∙◌, subst, arith, inl, inr}
use Rattle.std.specs.Prelude.{nat_eq, if◌then◌else◌, slice_get, slice_set}
use Rattle.std.proofs.lemmas.List.{get_or-set_same, get_or-set_other, length-set, length-reverse}
use Rattle.std.proofs.lemmas.Bool.{cases_Bool, cond_both, eqb-false, eqb-true}
use Rattle.ln_csyn.specs.Meaning.{Seen}
use Rattle.ln_cmean.specs.declared.slot.Slot.{Slot}
use Rattle.ln_cmean.specs.Chains.{bucket_of, last_in, IsTopped, IsLinked}
use Rattle.ln_cmean.specs.Slots.{seen_from}
use Rattle.ln_cmean.proofs.Slots.{pushed, last_of, last_set, seen_set}

-- ---- tops and links

-- the last item of a bucket is one of the list
pub last_within : (ds : List Slot) (b : ℕ) → last_in ds b ≤ length ds
last_within [] b = omega arith
last_within (d ∷ ds) b =
    cond_both (nat_eq d.bucket b) (suc (length ds)) (last_in ds b) (λ n. n ≤ suc (length ds)) (λ h. omega arith) (λ h. omega (arith, last_within ds b))

-- with one more declaration
pub topped_more : (ds : List Slot) (tops : List ℕ) (d : Slot) → IsTopped ds tops → IsTopped (d ∷ ds) (set tops d.bucket (suc (length ds)))
topped_more ds tops d t = λ b l.
    let l' : b < length tops = omega (arith, l, length-set tops d.bucket (suc (length ds))) in
    cond_both (nat_eq d.bucket b) (suc (length ds)) (last_in ds b) (λ n. get_or (set tops d.bucket (suc (length ds))) b 0 ≡ n)
    (λ h. subst (λ i. get_or (set tops i (suc (length ds))) b 0 ≡ suc (length ds)) (sym (eqb-true d.bucket b h))
    (get_or-set_same tops b (suc (length ds)) 0 l'))
    (λ h. get_or-set_other tops d.bucket b (suc (length ds)) 0 (λ e. eqb-false d.bucket b h (sym e)) ∙ t b l')

-- an item that leads to the last one of its bucket keeps a list linked
pub linked_more : (count : ℕ) (ds : List Slot) (d : Slot) → IsLinked count ds →
    (d.bucket < count) × (d.bucket ≡ bucket_of d.name.now count) × (d.below ≡ last_in ds d.bucket) → IsLinked count (d ∷ ds)
linked_more count ds d l p [] e outer h =
    let q : d ≡ e = cc in
    let r : ds ≡ outer = cc in
    subst (λ o. (e.bucket < count) × (e.bucket ≡ bucket_of e.name.now count) × (e.below ≡ last_in o e.bucket)) r
    (subst (λ s. (s.bucket < count) × (s.bucket ≡ bucket_of s.name.now count) × (s.below ≡ last_in ds s.bucket)) q p)
linked_more count ds d l p (f ∷ inner) e outer h = l inner e outer cc

-- with one fewer
pub linked_fewer : (count : ℕ) (ds : List Slot) (d : Slot) → IsLinked count (d ∷ ds) → IsLinked count ds
linked_fewer count ds d l = λ inner e outer h. l (d ∷ inner) e outer (ap (λ t. d ∷ t) h)

-- where the last item goes, its bucket leads to the item before it
pub topped_fewer : (ds : List Slot) (tops : List ℕ) (d : Slot) → IsTopped (d ∷ ds) tops → d.below ≡ last_in ds d.bucket →
    IsTopped ds (set tops d.bucket d.below)
topped_fewer ds tops d t w = λ b l.
    let l' : b < length tops = omega (arith, l, length-set tops d.bucket d.below) in
    elim (cases_Bool (nat_eq d.bucket b)) [
      | inl h ↦ subst (λ i. get_or (set tops d.bucket d.below) i 0 ≡ last_in ds i) (eqb-true d.bucket b h)
          (get_or-set_same tops d.bucket d.below 0 (subst (λ i. i < length tops) (sym (eqb-true d.bucket b h)) l') ∙ w)
      | inr h ↦ get_or-set_other tops d.bucket b d.below 0 (λ e. eqb-false d.bucket b h (sym e)) ∙ t b l' ∙ (rw h refl)
    ]

-- with the innermost one changed, which keeps its bucket
pub topped_same : (ds : List Slot) (tops : List ℕ) (d e : Slot) → IsTopped (d ∷ ds) tops → e.bucket ≡ d.bucket → IsTopped (e ∷ ds) tops
topped_same ds tops d e t h = λ b l. t b l ∙ ap (λ v. if nat_eq v b then suc (length ds) else last_in ds b) (sym h)

-- ---- in memory, which has the innermost last

-- with one fewer
last_first : (xs ys : List Slot) (d : Slot) → xs ≡ ys ++ d ∷ [] → reverse xs ≡ d ∷ reverse ys
last_first xs ys d e = ap (λ zs. reverse zs) e ∙ pushed ys d

-- the last declaration of a stack is in a bucket
pub close_within : (count : ℕ) (xs ys : List Slot) (d : Slot) → xs ≡ ys ++ d ∷ [] → IsLinked count (reverse xs) → d.bucket < count
close_within count xs ys d e l = (l [] d (reverse ys) (last_first xs ys d e)).0

-- a stack stays linked without its last declaration
pub close_linked : (count : ℕ) (xs ys : List Slot) (d : Slot) → xs ≡ ys ++ d ∷ [] → IsLinked count (reverse xs) → IsLinked count (reverse ys)
close_linked count xs ys d e l = linked_fewer count (reverse ys) d (subst (λ zs. IsLinked count zs) (last_first xs ys d e) l)

-- and its buckets lead to their last ones
pub close_topped : (count : ℕ) (xs ys : List Slot) (tops : List ℕ) (d : Slot) → xs ≡ ys ++ d ∷ [] → IsLinked count (reverse xs) → IsTopped (reverse xs) tops →
    IsTopped (reverse ys) (set tops d.bucket d.below)
close_topped count xs ys tops d e l t =
    let r = last_first xs ys d e in topped_fewer (reverse ys) tops d (subst (λ zs. IsTopped zs tops) r t) (l [] d (reverse ys) r).2

-- with one more
pub open_topped : (ys : List Slot) (tops : List ℕ) (d : Slot) (n : ℕ) → n ≡ length ys + 1 → IsTopped (reverse ys) tops →
    IsTopped (reverse (ys ++ d ∷ [])) (set tops d.bucket n)
open_topped ys tops d n e t =
    let m : suc (length (reverse ys)) ≡ n = omega (arith, e, length-reverse ys) in
    subst (λ zs. IsTopped zs (set tops d.bucket n)) (sym (pushed ys d))
    (subst (λ i. IsTopped (d ∷ reverse ys) (set tops d.bucket i)) m (topped_more (reverse ys) tops d t))

-- a declaration that leads to the last one of its bucket keeps a stack linked
pub open_linked : (count : ℕ) (ys : List Slot) (d : Slot) → IsLinked count (reverse ys) →
    (d.bucket < count) × (d.bucket ≡ bucket_of d.name.now count) × (d.below ≡ last_in (reverse ys) d.bucket) → IsLinked count (reverse (ys ++ d ∷ []))
open_linked count ys d l p = subst (λ zs. IsLinked count zs) (sym (pushed ys d)) (linked_more count (reverse ys) d l p)

-- with a number
pub set_topped : (xs : List Slot) (tops : List ℕ) (d e : Slot) (n : ℕ) → n + 1 ≡ length xs → slice_get xs n ≡ Some d → e.bucket ≡ d.bucket →
    IsTopped (reverse xs) tops → IsTopped (reverse (slice_set xs n e)) tops
set_topped xs tops d e n l g b t =
    subst (λ zs. IsTopped zs tops) (sym (last_first (slice_set xs n e) (take n xs) e (last_set xs e n l)))
    (topped_same (reverse (take n xs)) tops d e (subst (λ zs. IsTopped zs tops) (last_first xs (take n xs) d (last_of xs d n l g)) t) b)

-- a stack stays linked where its last declaration gets a value
pub set_linked : (count : ℕ) (xs : List Slot) (d e : Slot) (n : ℕ) → n + 1 ≡ length xs → slice_get xs n ≡ Some d →
    e.name ≡ d.name → e.bucket ≡ d.bucket → e.below ≡ d.below → IsLinked count (reverse xs) → IsLinked count (reverse (slice_set xs n e))
set_linked count xs d e n l g x b w k =
    let r = last_first xs (take n xs) d (last_of xs d n l g) in
    let p = k [] d (reverse (take n xs)) r in
    let q : (e.bucket < count) × (e.bucket ≡ bucket_of e.name.now count) × (e.below ≡ last_in (reverse (take n xs)) e.bucket) = rw (x, b, w) p in
    subst (λ zs. IsLinked count zs) (sym (last_first (slice_set xs n e) (take n xs) e (last_set xs e n l)))
    (linked_more count (reverse (take n xs)) e (linked_fewer count (reverse (take n xs)) d (subst (λ zs. IsLinked count zs) r k)) q)

-- where its last declaration gets a value, the others are seen as before
pub set_seen : (base : ℕ) (xs : List Slot) (d e : Slot) (n : ℕ) (x : Seen) (ds : List Seen) → n + 1 ≡ length xs → slice_get xs n ≡ Some d →
    e.name ≡ d.name → e.kind ≡ d.kind → seen_from base (reverse xs) ≡ x ∷ ds →
    seen_from base (reverse (slice_set xs n e)) ≡ record { name = x.name; kind = x.kind; number = e.number } ∷ ds
set_seen base xs d e n x ds l g m k h =
    let r = last_first xs (take n xs) d (last_of xs d n l g) in
    ap (λ zs. seen_from base zs) (last_first (slice_set xs n e) (take n xs) e (last_set xs e n l))
    ∙ seen_set base (reverse (take n xs)) d e x ds m k (ap (λ zs. seen_from base zs) (sym r) ∙ h)
