-- Lists in order up to a cut, for any order and any cut: they move along, and are joined one after the other.
use Rattle.std.proofs.Common.{◌≡◌, ℕ, refl, List, [], ◌∷◌, ◌++◌, Bool, true, false, ◌⊎◌, inl, inr}
use Rattle.ln_algebra.proofs.Walking.Walk.{In-append, In-append_left, In-append_right}
use Rattle.ln_algebra.specs.Vector.{In}
use Rattle.ln_algebra.specs.Earlier.{IsSortedIn}

-- the covered vectors of a region in order, up to the first last one; stop is whether there is a last one
pub record Listing (before : List ℕ → List ℕ → Type 0) (here covered last : List ℕ → Type 0) (found : List (List ℕ)) (stop : Bool) : Type 0 where
  pub inside : (a : List ℕ) → In found a → here a
  pub are_covered : (a : List ℕ) → In found a → covered a
  pub uncut : (a : List ℕ) → In found a → (b : List ℕ) → here b → last b → before b a → ⊥
  pub complete : (a : List ℕ) → here a → covered a → ((b : List ℕ) → here b → last b → before b a → ⊥) → In found a
  pub cut : stop ≡ true → (b : List ℕ) × here b × last b
  pub open_end : stop ≡ false → (b : List ℕ) → here b → last b → ⊥
  pub sorted : IsSortedIn before found

-- nothing here is covered, and a last vector is covered
pub listing-none : (before : List ℕ → List ℕ → Type 0) (here covered last : List ℕ → Type 0) → ((a : List ℕ) → here a → covered a → ⊥)
    → ((a : List ℕ) → here a → last a → ⊥) → Listing before here covered last [] false
listing-none before here covered last none no_last = record {
  inside = λ a i. absurd i;
  are_covered = λ a i. absurd i;
  uncut = λ a i. absurd i;
  complete = λ a h c u. absurd (none a h c);
  cut = λ q. cc;
  open_end = λ q b h l. no_last b h l;
  sorted = tt;
}

-- sorted by one order on a region where another agrees
sorted-moves : (before before' : List ℕ → List ℕ → Type 0) (here : List ℕ → Type 0) → ((a b : List ℕ) → here a → here b → before a b → before' a b)
    → (xs : List (List ℕ)) → ((a : List ℕ) → In xs a → here a) → IsSortedIn before xs → IsSortedIn before' xs
sorted-moves before before' here to [] i s = tt
sorted-moves before before' here to (x ∷ xs) i s =
    (λ b k. to x b (i x (inl refl)) (i b (inr k)) (s.0 b k), sorted-moves before before' here to xs (λ a k. i a (inr k)) s.1)

-- the same region, said in two ways
pub record Same (before before' : List ℕ → List ℕ → Type 0) (here here' covered covered' last last' : List ℕ → Type 0) : Type 0 where
  pub to : (a : List ℕ) → here a → here' a
  pub from : (a : List ℕ) → here' a → here a
  pub covered_to : (a : List ℕ) → here a → covered a → covered' a
  pub covered_from : (a : List ℕ) → here a → covered' a → covered a
  pub last_to : (a : List ℕ) → here a → last a → last' a
  pub last_from : (a : List ℕ) → here a → last' a → last a
  pub order_to : (a b : List ℕ) → here a → here b → before a b → before' a b
  pub order_from : (a b : List ℕ) → here a → here b → before' a b → before a b

-- a listing of a region is one of the same region said in another way
pub listing-moves : (before before' : List ℕ → List ℕ → Type 0) (here here' covered covered' last last' : List ℕ → Type 0)
    (found : List (List ℕ)) (stop : Bool) → Same before before' here here' covered covered' last last'
    → Listing before here covered last found stop → Listing before' here' covered' last' found stop
listing-moves before before' here here' covered covered' last last' found stop s x = record {
  inside = λ a i. s.to a (x.inside a i);
  are_covered = λ a i. s.covered_to a (x.inside a i) (x.are_covered a i);
  uncut = λ a i b h l k. let g = s.from b h in x.uncut a i b g (s.last_from b g l) (s.order_from b a g (x.inside a i) k);
  complete = λ a h c u. let g = s.from a h in x.complete a g (s.covered_from a g c) (λ b i l k. u b (s.to b i) (s.last_to b i l) (s.order_to b a i g k));
  cut = λ q. let b = x.cut q in (b.0, s.to b.0 b.1, s.last_to b.0 b.1 b.2);
  open_end = λ q b h l. let g = s.from b h in x.open_end q b g (s.last_from b g l);
  sorted = sorted-moves before before' here s.order_to found x.inside x.sorted;
}

-- two sorted lists, all of one before all of the other
sorted-append : (before : List ℕ → List ℕ → Type 0) (xs ys : List (List ℕ)) → IsSortedIn before xs → IsSortedIn before ys
    → ((x y : List ℕ) → In xs x → In ys y → before x y) → IsSortedIn before (xs ++ ys)
sorted-append before [] ys s t h = t
sorted-append before (x ∷ xs) ys s t h =
    ((λ y i. elim (In-append xs ys y i) [ inl k ↦ s.0 y k | inr k ↦ h x y (inl refl) k ]), sorted-append before xs ys s.1 t (λ u w i j. h u w (inr i) j))

-- a region in two parts, one before the other
pub record Parted (before : List ℕ → List ℕ → Type 0) (here first second : List ℕ → Type 0) : Type 0 where
  pub parts : (a : List ℕ) → here a → first a ⊎ second a
  pub of_first : (a : List ℕ) → first a → here a
  pub of_second : (a : List ℕ) → second a → here a
  pub in_order : (a b : List ℕ) → first a → second b → before a b
  pub not_back : (a b : List ℕ) → first a → second b → before b a → ⊥

module _ (before : List ℕ → List ℕ → Type 0) (here first second covered last : List ℕ → Type 0) (p : Parted before here first second) where
  -- the first part's list ends the whole
  pub listing-cut : (L : List (List ℕ)) → Listing before first covered last L true → Listing before here covered last L true
  listing-cut L x = record {
    inside = λ a i. p.of_first a (x.inside a i);
    are_covered = x.are_covered;
    uncut = λ a i b h l k. elim (p.parts b h) [ inl f ↦ x.uncut a i b f l k | inr s ↦ p.not_back a b (x.inside a i) s k ];
    complete = λ a h c u. complete a c u (p.parts a h);
    cut = λ q. let b = x.cut q in (b.0, p.of_first b.0 b.1, b.2);
    open_end = λ q. cc;
    sorted = x.sorted;
  } where
    complete : (a : List ℕ) → covered a → ((b : List ℕ) → here b → last b → before b a → ⊥) → first a ⊎ second a → In L a
    complete a c u (inl f) = x.complete a f c (λ b g l k. u b (p.of_first b g) l k)
    complete a c u (inr s) = let b = x.cut refl in absurd (u b.0 (p.of_first b.0 b.1) b.2 (p.in_order b.0 a b.1 s))

  -- the first part's list goes before that of the second
  pub listing-join : (L M : List (List ℕ)) (stop : Bool) → Listing before first covered last L false
      → Listing before second covered last M stop → Listing before here covered last (L ++ M) stop
  listing-join L M stop x y = record {
    inside = λ a i. elim (In-append L M a i) [ inl k ↦ p.of_first a (x.inside a k) | inr k ↦ p.of_second a (y.inside a k) ];
    are_covered = λ a i. elim (In-append L M a i) [ inl k ↦ x.are_covered a k | inr k ↦ y.are_covered a k ];
    uncut = λ a i b h l k. uncut a b l k (In-append L M a i) (p.parts b h);
    complete = λ a h c u. complete a c u (p.parts a h);
    cut = λ q. let b = y.cut q in (b.0, p.of_second b.0 b.1, b.2);
    open_end = λ q b h l. elim (p.parts b h) [ inl f ↦ x.open_end refl b f l | inr s ↦ y.open_end q b s l ];
    sorted = sorted-append before L M x.sorted y.sorted (λ s t i j. p.in_order s t (x.inside s i) (y.inside t j));
  } where
    uncut : (a b : List ℕ) → last b → before b a → In L a ⊎ In M a → first b ⊎ second b → ⊥
    uncut a b l k i (inl f) = x.open_end refl b f l
    uncut a b l k (inl i) (inr s) = p.not_back a b (x.inside a i) s k
    uncut a b l k (inr i) (inr s) = y.uncut a i b s l k

    complete : (a : List ℕ) → covered a → ((b : List ℕ) → here b → last b → before b a → ⊥) → first a ⊎ second a → In (L ++ M) a
    complete a c u (inl f) = In-append_left L M a (x.complete a f c (λ b g l k. u b (p.of_first b g) l k))
    complete a c u (inr s) = In-append_right L M a (y.complete a s c (λ b g l k. u b (p.of_second b g) l k))
