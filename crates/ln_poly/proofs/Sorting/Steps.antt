-- The steps of `merge`.
use Rattle.std.proofs.Common.{◌≡◌, ℕ, ◌+◌, ◌<◌, ◌≤◌, ◌^◌, List, [], ◌∷◌, ◌++◌, append_assoc, append-nil, length, get_or, set, ◌-◌, refl, sym}
use Rattle.std.proofs.Common.{◌∙◌, ap, arith, subst, take, drop, unsigned_abs, ◌≢◌}
use Rattle.std.proofs.Math.IntN.{ℤ, pos, ◌+ℤ◌}
use Rattle.std.proofs.lemmas.List.{drop-set-lt, drop_more, get_or_default, length-drop, length-set, take_more_set}
use Rattle.ln_poly.specs.Merge.{IsMerge, both, first, left_over, neither, right_over, second, weight_of}

-- f and g, from i and j on, remain to be merged after the first k of out
pub record AreMerging {K : Type 0} (Before : K → K → Type 0) (old out f0 f g0 g : List (K × ℤ)) (i j k : ℕ) : Type 0 where
  pub merging : (h : List (K × ℤ)) → IsMerge Before (drop i f) (drop j g) h → IsMerge Before f0 g0 (take k out ++ h)
  pub room : weight_of (drop i f) + weight_of (drop j g) < 2 ^ 127
  pub out_long : length out ≡ length old
  pub first_long : length f ≡ length f0
  pub second_long : length g ≡ length g0
  pub few : k ≤ i + j
  pub within : i ≤ length f
  pub within_second : j ≤ length g

module _ {K : Type 0} (Before : K → K → Type 0) where
  drop-read : (xs : List (K × ℤ)) (i : ℕ) (x : K × ℤ) → i < length xs → x ≡ get_or xs i x → drop i xs ≡ x ∷ drop (i + 1) xs
  drop-read xs i x h e = drop_more xs i x h ∙ ap (λ z. z ∷ drop (i + 1) xs) (sym e)

  after-set : (xs : List (K × ℤ)) (i : ℕ) (x : K × ℤ) → drop (i + 1) (set xs i x) ≡ drop (i + 1) xs
  after-set xs i x = drop-set-lt (i + 1) xs i x (omega arith)

  -- each step, where both lists have terms
  module _ (old out f0 f g0 g : List (K × ℤ)) (i j k : ℕ) (s t : K × ℤ) (a : s ≡ get_or f i s) (b : t ≡ get_or g j t)
      (m : AreMerging Before old out f0 f g0 g i j k) (l : i < length f) (r : j < length g) (long : length f0 + length g0 ≤ length old) where
    from-f : drop i f ≡ s ∷ drop (i + 1) f
    from-f = drop-read f i s l a

    from-g : drop j g ≡ t ∷ drop (j + 1) g
    from-g = drop-read g j t r b

    at-f : (d : K × ℤ) → get_or f i d ≡ s
    at-f d = get_or_default f i d s l ∙ sym a

    at-g : (d : K × ℤ) → get_or g j d ≡ t
    at-g d = get_or_default g j d t r ∙ sym b

    -- the sum of both factors
    added : (d e : K × ℤ) (c : ℤ) → c ≡ (get_or f i d).1 +ℤ (get_or g j e).1 → c ≡ s.1 +ℤ t.1
    added d e c q = q ∙ ap (λ z. z.1 +ℤ (get_or g j e).1) (at-f d) ∙ ap (λ z. s.1 +ℤ z.1) (at-g e)

    -- both have the same key
    like : (get_or f i s).0 ≡ (get_or g j t).0 → s.0 ≡ t.0
    like q = ap (λ z. z.0) a ∙ q ∙ ap (λ z. z.0) (sym b)

    -- what is merged of these terms and the others
    rebuilt : (h : List (K × ℤ)) → IsMerge Before (s ∷ drop (i + 1) f) (t ∷ drop (j + 1) g) h → IsMerge Before f0 g0 (take k out ++ h)
    rebuilt h n = m.merging h (subst (λ z. IsMerge Before z (drop j g) h) (sym from-f)
        (subst (λ z. IsMerge Before (s ∷ drop (i + 1) f) z h) (sym from-g) n))

    place : k < length out
    place = omega (arith, m.out_long, m.first_long, m.second_long, m.few, l, r, long)

    put : (y : K × ℤ) (h : List (K × ℤ)) → take k out ++ (y ∷ h) ≡ take (k + 1) (set out k y) ++ h
    put y h = sym (append_assoc (take k out) (y ∷ []) h) ∙ ap (λ z. z ++ h) (sym (take_more_set out k y place))

    weight-f : weight_of (drop i f) ≡ unsigned_abs s.1 + weight_of (drop (i + 1) f)
    weight-f = ap weight_of from-f

    weight-g : weight_of (drop j g) ≡ unsigned_abs t.1 + weight_of (drop (j + 1) g)
    weight-g = ap weight_of from-g

    -- the next term is that of f
    pub merging-first : (x y d : K × ℤ) → Before (get_or f i s).0 (get_or g j t).0 → y ≡ get_or f i d
        → AreMerging Before old (set out k y) f0 (set f i x) g0 g (i + 1) j (k + 1)
    merging-first x y d c q = subst (λ z. AreMerging Before old (set out k z) f0 (set f i x) g0 g (i + 1) j (k + 1)) (sym (q ∙ at-f d)) (record {
      merging = λ h n. subst (IsMerge Before f0 g0) (put s h) (rebuilt (s ∷ h) (first s t (drop (i + 1) f) (drop (j + 1) g) h
          (subst (λ z. Before z.0 t.0) (sym a) (subst (λ z. Before (get_or f i s).0 z.0) (sym b) c))
          (subst (λ z. IsMerge Before (drop (i + 1) f) z h) from-g (subst (λ z. IsMerge Before z (drop j g) h) (after-set f i x) n))));
      room = omega (arith, m.room, weight-f, ap weight_of (after-set f i x));
      out_long = length-set out k s ∙ m.out_long;
      first_long = length-set f i x ∙ m.first_long;
      second_long = m.second_long;
      few = omega (arith, m.few);
      within = omega (arith, l, length-set f i x);
      within_second = m.within_second;
    })

    -- the next term is that of g
    pub merging-second : (x y d : K × ℤ) → Before (get_or g j t).0 (get_or f i s).0 → y ≡ get_or g j d
        → AreMerging Before old (set out k y) f0 f g0 (set g j x) i (j + 1) (k + 1)
    merging-second x y d c q = subst (λ z. AreMerging Before old (set out k z) f0 f g0 (set g j x) i (j + 1) (k + 1)) (sym (q ∙ at-g d)) (record {
      merging = λ h n. subst (IsMerge Before f0 g0) (put t h) (rebuilt (t ∷ h) (second s t (drop (i + 1) f) (drop (j + 1) g) h
          (subst (λ z. Before z.0 s.0) (sym b) (subst (λ z. Before (get_or g j t).0 z.0) (sym a) c))
          (subst (λ z. IsMerge Before z (drop (j + 1) g) h) from-f (subst (λ z. IsMerge Before (drop i f) z h) (after-set g j x) n))));
      room = omega (arith, m.room, weight-g, ap weight_of (after-set g j x));
      out_long = length-set out k t ∙ m.out_long;
      first_long = m.first_long;
      second_long = length-set g j x ∙ m.second_long;
      few = omega (arith, m.few);
      within = m.within;
      within_second = omega (arith, r, length-set g j x);
    })

    -- it has the sum of both factors
    pub merging-both : (c : ℤ) (x y d e v : K × ℤ) → (get_or f i s).0 ≡ (get_or g j t).0 → c ≡ (get_or f i d).1 +ℤ (get_or g j e).1 → c ≢ pos 0
        → y ≡ ((get_or f i v).0, c) → AreMerging Before old (set out k y) f0 (set f i x) g0 g (i + 1) (j + 1) (k + 1)
    merging-both c x y d e v w q n u = subst (λ z. AreMerging Before old (set out k z) f0 (set f i x) g0 g (i + 1) (j + 1) (k + 1))
        (sym (u ∙ ap (λ z. (z.0, c)) (at-f v))) (record {
          merging = λ h o. subst (IsMerge Before f0 g0) (put (s.0, c) h) (rebuilt ((s.0, c) ∷ h)
              (subst (λ z. IsMerge Before (s ∷ drop (i + 1) f) (t ∷ drop (j + 1) g) ((s.0, z) ∷ h)) (sym (added d e c q))
              (both s t (drop (i + 1) f) (drop (j + 1) g) h (like w) (λ z. n (added d e c q ∙ z))
              (subst (λ z. IsMerge Before z (drop (j + 1) g) h) (after-set f i x) o))));
          room = omega (arith, m.room, weight-f, weight-g, ap weight_of (after-set f i x));
          out_long = length-set out k (s.0, c) ∙ m.out_long;
          first_long = length-set f i x ∙ m.first_long;
          second_long = m.second_long;
          few = omega (arith, m.few);
          within = omega (arith, l, length-set f i x);
          within_second = omega (arith, r);
        })

    -- both go
    pub merging-neither : (c : ℤ) (d e : K × ℤ) → (get_or f i s).0 ≡ (get_or g j t).0 → c ≡ (get_or f i d).1 +ℤ (get_or g j e).1 → c ≡ pos 0
        → AreMerging Before old out f0 f g0 g (i + 1) (j + 1) k
    merging-neither c d e w q n = record {
      merging = λ h o. rebuilt h (neither s t (drop (i + 1) f) (drop (j + 1) g) h (like w) (sym (added d e c q) ∙ n) o);
      room = omega (arith, m.room, weight-f, weight-g);
      out_long = m.out_long;
      first_long = m.first_long;
      second_long = m.second_long;
      few = omega (arith, m.few);
      within = omega (arith, l);
      within_second = omega (arith, r);
    }

  -- what remains of both lists, one of which is at its end, completes the merge
  pub merging-end : (old out out1 out2 f0 f g0 g x y : List (K × ℤ)) (i j k : ℕ) → AreMerging Before old out f0 f g0 g i j k
      → (i < length f → j < length g → ⊥) → x ≡ drop i f → y ≡ drop j g → take (k + length x) out1 ≡ take k out ++ x
      → take ((k + (length f - i)) + length y) out2 ≡ take (k + (length f - i)) out1 ++ y
      → IsMerge Before f0 g0 (take ((k + (length f - i)) + (length g - j)) out2)
  merging-end old out out1 out2 f0 f g0 g x y i j k m n d e p q = subst (IsMerge Before f0 g0) (sym whole) (by_case (drop i f) (drop j g) refl refl) where
    whole : take ((k + (length f - i)) + (length g - j)) out2 ≡ (take k out ++ drop i f) ++ drop j g
    whole = ap (λ z. take ((k + (length f - i)) + z) out2) (sym (ap length e ∙ length-drop j g)) ∙ q ∙ ap (λ z. take (k + (length f - i)) out1 ++ z) e
        ∙ ap (λ z. z ++ drop j g) (ap (λ z. take (k + z) out1) (sym (ap length d ∙ length-drop i f)) ∙ p ∙ ap (λ z. take k out ++ z) d)

    some : (f : List (K × ℤ)) (i : ℕ) (s : K × ℤ) (x : List (K × ℤ)) → i ≤ length f → drop i f ≡ s ∷ x → i < length f
    some f i s x l p = omega (arith, ap length p, length-drop i f, l)

    by_case : (a b : List (K × ℤ)) → drop i f ≡ a → drop j g ≡ b → IsMerge Before f0 g0 ((take k out ++ drop i f) ++ drop j g)
    by_case [] b u v = subst (IsMerge Before f0 g0) (rw (u, v) (ap (λ z. z ++ b) (sym (append-nil (take k out)))))
        (m.merging b (rw (u, v) (right_over b)))
    by_case a [] u v = subst (IsMerge Before f0 g0) (rw (u, v) (sym (append-nil (take k out ++ a)))) (m.merging a (rw (u, v) (left_over a)))
    by_case (s ∷ a) (t ∷ b) u v = absurd (n (some f i s a m.within u) (some g j t b m.within_second v))
