-- Words of items up to a colon.
use Rattle.std.proofs.Common.{◌≡◌, ℕ, List, [], ◌∷◌, ◌++◌, map, refl, sym, ap, ◌∙◌, append-nil}
use Rattle.std.specs.Prelude.{codes}
use Rattle.ln_base.specs.Exponents.{Each}
use Rattle.ln_base.proofs.Texts.Lists.{head, rest}

-- items with words, none of which is a colon
module _ {A : Type 0} (f : A → List ℕ) (P : A → Type 0) (no_colon : (x : A) → P x → f x ≡ codes ":" → ⊥) where
  -- the items before a colon, and what follows it, are known
  pub same_before : ((x y : A) → P x → P y → f x ≡ f y → x ≡ y) → (xs ys : List A) (r s : List (List ℕ)) → Each P xs → Each P ys
      → map f xs ++ codes ":" ∷ r ≡ map f ys ++ codes ":" ∷ s → (xs ≡ ys) × (r ≡ s)
  same_before one [] [] r s p q e = (refl, rest e)
  same_before one [] (y ∷ ys) r s p q e = absurd (no_colon y q.0 (sym (head e)))
  same_before one (x ∷ xs) [] r s p q e = absurd (no_colon x p.0 (head e))
  same_before one (x ∷ xs) (y ∷ ys) r s p q e =
      let h = one x y p.0 q.0 (head e) in
      let t = same_before one xs ys r s p.1 q.1 (rest e) in
      ((λ i. h i ∷ t.0 i), t.1)

  no_item : (done : List A) (w : List ℕ) (next : List (List ℕ)) (xs : List A) (r : List (List ℕ)) → Each P done → Each P xs
      → map f done ++ w ∷ next ≡ map f xs ++ codes ":" ∷ r → (w ≡ codes ":" → ⊥) → ((x : A) → P x → w ≡ f x → ⊥) → ⊥
  no_item [] w next [] r d p e g k = g (head e)
  no_item [] w next (x ∷ xs) r d p e g k = k x p.0 (head e)
  no_item (y ∷ ys) w next [] r d p e g k = no_colon y d.0 (head e)
  no_item (y ∷ ys) w next (x ∷ xs) r d p e g k = no_item ys w next xs r d.1 p.1 (rest e) g k

  no_end : (done xs : List A) (r : List (List ℕ)) → Each P done → map f done ≡ map f xs ++ codes ":" ∷ r → ⊥
  no_end [] [] r d e = absurd (cc)
  no_end [] (x ∷ xs) r d e = absurd (cc)
  no_end (y ∷ ys) [] r d e = no_colon y d.0 (head e)
  no_end (y ∷ ys) (x ∷ xs) r d e = no_end ys xs r d.1 (rest e)

  -- where a word after items is neither an item's nor a colon, the words don't begin with items and a colon
  pub no_item_here : (all : List (List ℕ)) (done : List A) (w : List ℕ) (here next : List (List ℕ)) → all ≡ map f done ++ here → here ≡ w ∷ next
      → Each P done → (w ≡ codes ":" → ⊥) → ((x : A) → P x → w ≡ f x → ⊥) → (xs : List A) (r : List (List ℕ)) → Each P xs
      → all ≡ map f xs ++ codes ":" ∷ r → ⊥
  no_item_here all done w here next e g d h k xs r p q = no_item done w next xs r d p (sym (e ∙ ap (λ z. map f done ++ z) g) ∙ q) h k

  -- nor where no word remains after items
  pub no_colon_left : (all : List (List ℕ)) (done : List A) (here : List (List ℕ)) → all ≡ map f done ++ here → here ≡ []
      → Each P done → (xs : List A) (r : List (List ℕ)) → Each P xs → all ≡ map f xs ++ codes ":" ∷ r → ⊥
  no_colon_left all done here e g d xs r p q = no_end done xs r d (sym (e ∙ ap (λ z. map f done ++ z) g ∙ append-nil (map f done)) ∙ q)
