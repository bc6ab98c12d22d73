-- The first sites in turn before the others, written one after the other.
use Rattle.std.proofs.Common.{◌≡◌, ℕ, ◌+◌, ◌<◌, ◌≤◌, List, [], ◌∷◌, ◌++◌, append_assoc, length, map, get_or, take, add-one, ap, refl}
use Rattle.std.proofs.Math.Seq.{take-suc}
use Rattle.std.proofs.lemmas.List.{map_push, take_all}
use Rattle.ln_order.specs.Orders.{behind}

module _ {A : Type 0} (f : A → List ℕ) (first : ℕ) (others : List A) where
  -- the first before those that are before place j
  abbrev Put : ℕ → List (List ℕ)
  Put j = map (behind first) (map f (take j others))

  -- one more of the others
  pub one_more : (j : ℕ) (d x y : A) (all now : List A) (before : List (List ℕ)) → j < length others → x ≡ get_or others j d
      → f y ≡ behind first (f x) → now ≡ all ++ y ∷ []
      → map f all ≡ before ++ map (behind first) (map f (take j others)) → map f now ≡ before ++ map (behind first) (map f (take (j + 1) others))
  one_more j d x y all now before l ex ey en inv =
      let t : take (j + 1) others ≡ take j others ++ x ∷ [] = rw (add-one j, ex) (take-suc others j d l) in
      let m : Put (j + 1) ≡ Put j ++ f y ∷ [] = rw (t, map_push f (take j others) x, map_push (behind first) (map f (take j others)) (f x), ey) refl in
      rw (en, map_push f all y, inv, m) (append_assoc before (Put j) (f y ∷ []))

  -- all others
  pub all_of : (j : ℕ) → length others ≤ j → map (behind first) (map f (take j others)) ≡ map (behind first) (map f others)
  all_of j l = ap (λ z. map (behind first) (map f z)) (take_all j others l)
