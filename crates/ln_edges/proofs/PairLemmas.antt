-- The list of pairs, one place after the other.
use Rattle.std.proofs.Common.{◌≡◌, ◌⊎◌, inl, inr, ℕ, zero, suc, ◌+◌, ◌<◌, List, [], ◌∷◌, ◌++◌, refl, ap, sym, ◌∙◌}
use Rattle.std.proofs.Common.{subst, arith}
use Rattle.std.specs.Prelude.{AllPairs, Contains, flat_map}
use Rattle.std.proofs.lemmas.Bool.{cases_lt}
use Rattle.std.proofs.lemmas.List.{flat_map_more}
use Rattle.std.proofs.lemmas.List.Elements.{All-push, All-weaker, All-contains, Contains-push}
use Rattle.std.proofs.lemmas.List.Elements.{Contains-append_left}
use Rattle.std.proofs.lemmas.List.Quantifiers.{all_pairs_push}
use Rattle.ln_edges.specs.Pairs.{Pair, pair, PairPrecedes, ArePairs, ArePairsBefore, SoFar, AreLines}

-- ---- the order
irreflexive : (a : Pair) → PairPrecedes a a → ⊥
irreflexive a (inl h) = absurd (omega (arith, h))
irreflexive a (inr h) = absurd (omega (arith, h.1))

asymmetric : (a b : Pair) → PairPrecedes a b → PairPrecedes b a → ⊥
asymmetric a b (inl h) (inl k) = absurd (omega (arith, h, k))
asymmetric a b (inl h) (inr k) = absurd (omega (arith, h, k.0))
asymmetric a b (inr h) (inl k) = absurd (omega (arith, h.0, k))
asymmetric a b (inr h) (inr k) = absurd (omega (arith, h.1, k.1))

later : (e : Pair) (i j : ℕ) → PairPrecedes e (pair i j) → PairPrecedes e (pair i (j + 1))
later e i j (inl h) = inl h
later e i j (inr h) = inr (h.0, omega (arith, h.1))

upto : (k l i j : ℕ) → PairPrecedes (pair k l) (pair i (j + 1)) → PairPrecedes (pair k l) (pair i j) ⊎ (pair k l ≡ pair i j)
upto k l i j (inl h) = inl (inl h)
upto k l i j (inr h) = elim (cases_lt l j) [
  | inl q ↦ inl (inr (h.0, q))
  | inr q ↦ inr (let e : l ≡ j = omega (arith, h.1, q) in ap (λ (n : ℕ). pair n l) h.0 ∙ ap (pair i) e)
]

past : (e : Pair) (i n : ℕ) → PairPrecedes e (pair i n) → PairPrecedes e (pair (i + 1) 0)
past e i n (inl h) = inl (omega (arith, h))
past e i n (inr h) = inl (omega (arith, h.0))

within : (k l i n : ℕ) → l < n → PairPrecedes (pair k l) (pair (i + 1) 0) → PairPrecedes (pair k l) (pair i n)
within k l i n b (inl h) = elim (cases_lt k i) [
  | inl q ↦ inl q
  | inr q ↦ inr (omega (arith, h, q), b)
]
within k l i n b (inr h) = absurd (omega (arith, h.1))

-- ---- one place after the other
-- a pair of which the claim holds is appended to those that precede it
pub before_more : (claim : ℕ → ℕ → Type 0) (i j : ℕ) (xs : List Pair) → claim i j → ArePairsBefore claim i j xs
    → ArePairsBefore claim i (j + 1) (xs ++ pair i j ∷ [])
before_more claim i j xs c b = record {
  each = All-push (λ e. claim e.from e.to × PairPrecedes e (pair i (j + 1))) xs (pair i j)
      (All-weaker (λ e. claim e.from e.to × PairPrecedes e (pair i j))
      (λ e. claim e.from e.to × PairPrecedes e (pair i (j + 1)))
      (λ e h. (h.0, later e i j h.1)) xs b.each) (c, inr (refl, omega arith));
  all = λ k l h p. elim (upto k l i j p) [
    | inl q ↦ Contains-append_left xs (pair i j ∷ []) (pair k l) (b.all k l h q)
    | inr q ↦ subst (Contains (xs ++ pair i j ∷ [])) (sym q) (Contains-push xs (pair i j))
  ];
  rising = all_pairs_push PairPrecedes xs (pair i j) b.rising (λ k d h. (b.each k d h).1);
}

-- the pairs from place i have all been taken where the second place is past the end of each
pub before_next : (claim : ℕ → ℕ → Type 0) (i n : ℕ) (xs : List Pair) → ((k l : ℕ) → claim k l → l < n)
    → ArePairsBefore claim i n xs → ArePairsBefore claim (i + 1) 0 xs
before_next claim i n xs f b = record {
  each = All-weaker (λ e. claim e.from e.to × PairPrecedes e (pair i n))
      (λ e. claim e.from e.to × PairPrecedes e (pair (i + 1) 0))
      (λ e h. (h.0, past e i n h.1)) xs b.each;
  all = λ k l h p. b.all k l h (within k l i n (f k l h) p);
  rising = b.rising;
}

-- the pairs that precede a first place past the end of each are all pairs
pub before_all : (claim : ℕ → ℕ → Type 0) (n : ℕ) (xs : List Pair) → ((k l : ℕ) → claim k l → k < n)
    → ArePairsBefore claim n 0 xs → ArePairs claim xs
before_all claim n xs f b = record {
  each = All-weaker (λ e. claim e.from e.to × PairPrecedes e (pair n 0)) (λ e. claim e.from e.to) (λ e h. h.0) xs b.each;
  all = λ k l h. b.all k l h (inl (f k l h));
  rising = b.rising;
}

-- the same pairs by another claim
pub pairs_by : (claim other : ℕ → ℕ → Type 0) (xs : List Pair) → ((i j : ℕ) → claim i j → other i j)
    → ((i j : ℕ) → other i j → claim i j) → ArePairs claim xs → ArePairs other xs
pairs_by claim other xs f g b = record {
  each = All-weaker (λ e. claim e.from e.to) (λ e. other e.from e.to) (λ e h. f e.from e.to h) xs b.each;
  all = λ i j h. b.all i j (g i j h);
  rising = b.rising;
}

-- ---- one list
in_cons : (y x : Pair) (ys : List Pair) → Contains (y ∷ ys) x → (y ≡ x) ⊎ Contains ys x
in_cons y x ys (zero, h, e) = inl e
in_cons y x ys (suc k, h, e) = inr (k, omega (arith, h), e)

in_head : (x : Pair) (xs : List Pair) → Contains (x ∷ xs) x
in_head x xs = (0, omega arith, refl)

in_tail : (x e : Pair) (xs : List Pair) → Contains xs e → Contains (x ∷ xs) e
in_tail x e xs (k, h, q) = (suc k, omega (arith, h), q)

head_first : (y x : Pair) (ys : List Pair) → AllPairs PairPrecedes (y ∷ ys) → Contains ys x → PairPrecedes y x
head_first y x ys r (k, h, e) = subst (PairPrecedes y) e (r 0 (suc k) x (omega arith) (omega (arith, h)))

tail_rising : (y : Pair) (ys : List Pair) → AllPairs PairPrecedes (y ∷ ys) → AllPairs PairPrecedes ys
tail_rising y ys r = λ i j d h k. r (suc i) (suc j) d (omega (arith, h)) (omega (arith, k))

same_head : (x y : Pair) (xs ys : List Pair) → AllPairs PairPrecedes (x ∷ xs) → AllPairs PairPrecedes (y ∷ ys)
    → (y ≡ x) ⊎ Contains ys x → (x ≡ y) ⊎ Contains xs y → x ≡ y
same_head x y xs ys r s (inl e) d = sym e
same_head x y xs ys r s (inr c) (inl e) = e
same_head x y xs ys r s (inr c) (inr d) = absurd (asymmetric x y (head_first x y xs r d) (head_first y x ys s c))

-- a member after the head is after the other head
behind_head : (x y e : Pair) (xs ys : List Pair) → x ≡ y → AllPairs PairPrecedes (x ∷ xs) → Contains xs e
    → (y ≡ e) ⊎ Contains ys e → Contains ys e
behind_head x y e xs ys q r c (inl p) =
    absurd (irreflexive x (subst (PairPrecedes x) (sym (q ∙ p)) (head_first x e xs r c)))
behind_head x y e xs ys q r c (inr d) = d

one_list : (xs ys : List Pair) → AllPairs PairPrecedes xs → AllPairs PairPrecedes ys
    → ((e : Pair) → Contains xs e → Contains ys e) → ((e : Pair) → Contains ys e → Contains xs e) → xs ≡ ys
one_list [] [] r s f g = refl
one_list [] (y ∷ ys) r s f g = let c = g y (in_head y ys) in absurd (omega (arith, c.1))
one_list (x ∷ xs) [] r s f g = let c = f x (in_head x xs) in absurd (omega (arith, c.1))
one_list (x ∷ xs) (y ∷ ys) r s f g =
    let e : x ≡ y = same_head x y xs ys r s (in_cons y x ys (f x (in_head x xs)))
    (in_cons x y xs (g y (in_head y ys))) in
    let t : xs ≡ ys = one_list xs ys (tail_rising x xs r) (tail_rising y ys s)
    (λ p c. behind_head x y p xs ys e r c (in_cons y p ys (f p (in_tail x p xs c))))
    (λ p c. behind_head y x p ys xs (sym e) s c (in_cons x p xs (g p (in_tail y p ys c)))) in
    ap (λ (p : Pair). p ∷ xs) e ∙ ap (λ (l : List Pair). y ∷ l) t

-- there is at most one list of the pairs of which a claim holds, in order
pub pairs-one : (claim : ℕ → ℕ → Type 0) (xs ys : List Pair) → ArePairs claim xs → ArePairs claim ys → xs ≡ ys
pairs-one claim xs ys a b =
    one_list xs ys a.rising b.rising
    (λ e c. b.all e.from e.to (All-contains (λ p. claim p.from p.to) xs e a.each c))
    (λ e c. a.all e.from e.to (All-contains (λ p. claim p.from p.to) ys e b.each c))

-- ---- texts
-- the step of the loop over second places where the pair is an edge: its line is appended
pub so_far_more : (claim : ℕ → ℕ → Type 0) (line : Pair → List ℕ) (start : List ℕ) (i j : ℕ) (old new : List ℕ)
    → claim i j → new ≡ old ++ line (pair i j) → SoFar claim line start i j old → SoFar claim line start i (j + 1) new
so_far_more claim line start i j old new c e s = record {
  pairs = s.pairs ++ pair i j ∷ [];
  are = before_more claim i j s.pairs c s.are;
  is = e ∙ ap (λ (t : List ℕ). t ++ line (pair i j)) s.is ∙ flat_map_more line start s.pairs (pair i j);
}

-- the end of the loop over second places: the next first place follows
pub so_far_next : (claim : ℕ → ℕ → Type 0) (line : Pair → List ℕ) (start : List ℕ) (i n : ℕ) (text : List ℕ)
    → ((k l : ℕ) → claim k l → l < n) → SoFar claim line start i n text → SoFar claim line start (i + 1) 0 text
so_far_next claim line start i n text f s = record
    { pairs = s.pairs; are = before_next claim i n s.pairs f s.are; is = s.is }

-- the end of the loop over first places: the text is the lines of all pairs
pub so_far_all : (claim : ℕ → ℕ → Type 0) (line : Pair → List ℕ) (n : ℕ) (text : List ℕ)
    → ((k l : ℕ) → claim k l → k < n) → SoFar claim line [] n 0 text → AreLines claim line text
so_far_all claim line n text f s = record { pairs = s.pairs; are = before_all claim n s.pairs f s.are; is = s.is }

-- one text
pub lines-one : (claim : ℕ → ℕ → Type 0) (line : Pair → List ℕ) (a b : List ℕ) → AreLines claim line a
    → AreLines claim line b → a ≡ b
lines-one claim line a b s t = s.is ∙ ap (flat_map line) (pairs-one claim s.pairs t.pairs s.are t.are) ∙ sym t.is

-- the same text by another claim
pub lines_by : (claim other : ℕ → ℕ → Type 0) (line : Pair → List ℕ) (text : List ℕ)
    → ((i j : ℕ) → claim i j → other i j) → ((i j : ℕ) → other i j → claim i j) → AreLines claim line text
    → AreLines other line text
lines_by claim other line text f g s = record {
  pairs = s.pairs;
  are = pairs_by claim other s.pairs f g s.are;
  is =
      s.is;
}
