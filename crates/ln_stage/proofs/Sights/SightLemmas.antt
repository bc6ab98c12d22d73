-- The vectors that are first seen are the members of the lists by first sight.
use Rattle.std.proofs.Common.{◌≡◌, ◌⊎◌, inl, inr, ℕ, Bool, true, false, List, [], ◌∷◌, ◌++◌, append_assoc, refl, sym, ◌∙◌, ap, subst}
use Rattle.std.proofs.lemmas.List.{append-nil}
use Rattle.ln_algebra.proofs.Expanded.Normal.{same_vector-is, same_vector-refl}
use Rattle.ln_algebra.specs.Earlier.{IsSortedIn}
use Rattle.ln_algebra.specs.Vector.{In, same_vector}
use Rattle.ln_algebra.proofs.Walking.Walk.{In-append_left, In-append_right, In-append}
use Rattle.ln_order.specs.Prefixes.{joined}
use Rattle.ln_order.proofs.Signs.RowSigns.{order-moves}
use Rattle.ln_stage.specs.Lists.{all_seen_behind, first_seen, put_last, seen_behind}
use Rattle.ln_stage.specs.Sighted.{FirstSeenAreSighted, SightedBefore}
use Rattle.ln_stage.proofs.Results.SegmentLemmas.{order-join}

-- ---- one vector more
-- a vector is there already, or it isn't and is appended
pub put-cases : (bs : List (List ℕ)) (a : List ℕ) → (In bs a × (put_last bs a ≡ bs)) ⊎ ((In bs a → ⊥) × (put_last bs a ≡ bs ++ a ∷ []))
put-cases [] a = inr (λ i. i, refl)
put-cases (b ∷ bs) a = by_case (same_vector a b) refl (put-cases bs a) where
  by_case : (t : Bool) → same_vector a b ≡ t → (In bs a × (put_last bs a ≡ bs)) ⊎ ((In bs a → ⊥) × (put_last bs a ≡ bs ++ a ∷ []))
      → (In (b ∷ bs) a × (put_last (b ∷ bs) a ≡ b ∷ bs)) ⊎ ((In (b ∷ bs) a → ⊥) × (put_last (b ∷ bs) a ≡ b ∷ (bs ++ a ∷ [])))
  by_case true e ih = inl (inl (same_vector-is a b e), rw e refl)
  by_case false e (inl (i, q)) = inl (inr i, rw e (ap (λ z. b ∷ z) q))
  by_case false e (inr (n, q)) = inr (not, rw e (ap (λ z. b ∷ z) q)) where
    not : In (b ∷ bs) a → ⊥
    not (inl k) = let z : same_vector a b ≡ true = rw k (same_vector-refl b) in let w : true ≡ false = sym z ∙ e in cc
    not (inr i) = n i

further : (xs zs : List (List ℕ)) (a b : List ℕ) → SightedBefore xs a b → SightedBefore (xs ++ zs) a b
further xs zs a b (us, vs, e, i, n) = (us, vs ++ zs, ap (λ q. q ++ zs) e ∙ append_assoc us vs zs, i, n)

-- ---- what was found in a beginning
record Found (xs bs : List (List ℕ)) : Type 0 where
  to : (a : List ℕ) → In bs a → In xs a
  from : (a : List ℕ) → In xs a → In bs a
  in_order : IsSortedIn (SightedBefore xs) bs

found-more : (xs bs : List (List ℕ)) (a : List ℕ) → Found xs bs → Found (xs ++ a ∷ []) (put_last bs a)
found-more xs bs a f = by_case (put-cases bs a) where
  by_case : (In bs a × (put_last bs a ≡ bs)) ⊎ ((In bs a → ⊥) × (put_last bs a ≡ bs ++ a ∷ [])) → Found (xs ++ a ∷ []) (put_last bs a)
  by_case (inl (i, q)) = subst (Found (xs ++ a ∷ [])) (sym q) (record {
    to = λ b j. In-append_left xs (a ∷ []) b (f.to b j);
    from = λ b j. at b (In-append xs (a ∷ []) b j);
    in_order = order-moves (SightedBefore xs) (SightedBefore (xs ++ a ∷ [])) (further xs (a ∷ [])) bs f.in_order;
  }) where
    at : (b : List ℕ) → In xs b ⊎ In (a ∷ []) b → In bs b
    at b (inl j) = f.from b j
    at b (inr (inl e)) = rw e i
    at b (inr (inr j)) = absurd j
  by_case (inr (n, q)) = subst (Found (xs ++ a ∷ [])) (sym q) (record {
    to = λ b j. into b (In-append bs (a ∷ []) b j);
    from = λ b j. at b (In-append xs (a ∷ []) b j);
    in_order = order-join (SightedBefore (xs ++ a ∷ [])) bs (a ∷ []) (order-moves (SightedBefore xs) (SightedBefore (xs ++ a ∷ []))
        (further xs (a ∷ [])) bs f.in_order) ((λ b i. absurd i), tt) last;
  }) where
    last : (b c : List ℕ) → In bs b → In (a ∷ []) c → SightedBefore (xs ++ a ∷ []) b c
    last b c j (inl e) = rw e (xs, a ∷ [], refl, f.to b j, λ k. n (f.from a k))
    last b c j (inr i) = absurd i

    into : (b : List ℕ) → In bs b ⊎ In (a ∷ []) b → In (xs ++ a ∷ []) b
    into b (inl j) = In-append_left xs (a ∷ []) b (f.to b j)
    into b (inr j) = In-append_right xs (a ∷ []) b j

    at : (b : List ℕ) → In xs b ⊎ In (a ∷ []) b → In (bs ++ a ∷ []) b
    at b (inl j) = In-append_left bs (a ∷ []) b (f.from b j)
    at b (inr j) = In-append_right bs (a ∷ []) b j

found-behind : (rest xs bs : List (List ℕ)) → Found xs bs → Found (xs ++ rest) (seen_behind bs rest)
found-behind [] xs bs f = subst (λ q. Found q bs) (sym (append-nil xs)) f
found-behind (a ∷ rest) xs bs f = subst (λ q. Found q (seen_behind (put_last bs a) rest)) (append_assoc xs (a ∷ []) rest)
    (found-behind rest (xs ++ a ∷ []) (put_last bs a) (found-more xs bs a f))

found-all : (lists : List (List (List ℕ))) (xs bs : List (List ℕ)) → Found xs bs → Found (xs ++ joined lists) (all_seen_behind bs lists)
found-all [] xs bs f = subst (λ q. Found q bs) (sym (append-nil xs)) f
found-all (list ∷ lists) xs bs f = subst (λ q. Found q (all_seen_behind (seen_behind bs list) lists)) (append_assoc xs list (joined lists))
    (found-all lists (xs ++ list) (seen_behind bs list) (found-behind list xs bs f))

-- the vectors that are first seen are the members of the lists, each once, in the order of first sight
pub first-seen-sighted : FirstSeenAreSighted
first-seen-sighted lists = record { members = λ a. (f.to a, f.from a); in_order = f.in_order } where
  f : Found (joined lists) (first_seen lists)
  f = found-all lists [] [] (record { to = λ a i. i; from = λ a i. i; in_order = tt })
