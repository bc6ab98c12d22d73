-- Proves that the nodes of a tree and of its lets are just the members of their list.
use Rattle.std.proofs.Common.{◌≡◌, ℕ, ◌+◌, ◌≤◌, ◌<◌, zero, suc, refl, ap, arith, List, [], ◌∷◌, ◌++◌, map, ◌⊎◌, inl, inr, ◌∙◌}
use Rattle.std.specs.Prelude.{◌↔◌}
use Rattle.std.proofs.lemmas.Bool.{cases_lt}
use Rattle.ln_algebra.specs.Tree.{Tree, Pow, inlined, inlined_after}
use Rattle.ln_bound.specs.declared.fitted.Width.{Width}
use Rattle.ln_bound.specs.declared.fitted.Two.TheVariants.{Plus, Minus, Times}
use Rattle.ln_bound.specs.Typed.{Typed, TNum, TInput, TLet, TNeg, TTwo, TPow, need, untyped, width}
use Rattle.ln_code.specs.Nodes.{IsLetNode, IsNode}
use Rattle.ln_code.specs.NodeList.{NodesAreListed, Sized, IsAmong, nodes_in, nodes_in_lets, powers_from, powers_to}

-- the root of a tree is a node of it
pub root_node : (trees : List Tree) (t : Typed) → IsNode trees t (inlined trees (untyped t)) (width t)
root_node trees (TNum c p w) = (refl, refl)
root_node trees (TInput v p w) = (refl, refl)
root_node trees (TLet j p w) = (refl, refl)
root_node trees (TNeg t p w) = inr (refl, refl)
root_node trees (TTwo Plus s t p w) = inr (refl, refl)
root_node trees (TTwo Minus s t p w) = inr (refl, refl)
root_node trees (TTwo Times s t p w) = inr (refl, refl)
root_node trees (TPow t n p w) = inr (n, omega arith, refl, refl)

-- a tree needs a place of the stack
pub need_positive : (t : Typed) → 1 ≤ need t
need_positive (TNum c p w) = omega arith
need_positive (TInput v p w) = omega arith
need_positive (TLet j p w) = omega arith
need_positive (TNeg t p w) = need_positive t
need_positive (TTwo o u t p w) = let h = need_positive u in omega (arith, h)
need_positive (TPow t n p w) = omega arith

module _ (e : Tree) (w : Width) where
  -- ---- members of lists joined
  left : (xs ys : List Sized) → IsAmong xs e w → IsAmong (xs ++ ys) e w
  left [] ys s = absurd s
  left (x ∷ xs) ys (inl q) = inl q
  left (x ∷ xs) ys (inr s) = inr (left xs ys s)

  right : (xs ys : List Sized) → IsAmong ys e w → IsAmong (xs ++ ys) e w
  right [] ys s = s
  right (x ∷ xs) ys s = inr (right xs ys s)

  either : (xs ys : List Sized) → IsAmong (xs ++ ys) e w → IsAmong xs e w ⊎ IsAmong ys e w
  either [] ys s = inr s
  either (x ∷ xs) ys (inl q) = inl (inl q)
  either (x ∷ xs) ys (inr s) = elim (either xs ys s) [ inl t ↦ inl (inr t) | inr t ↦ inr t ]

  -- what each of two lists has alone, both have together
  joins : {A B : Type 0} (xs ys : List Sized) → A ↔ IsAmong xs e w → B ↔ IsAmong ys e w → (A ⊎ B) ↔ IsAmong (xs ++ ys) e w
  joins xs ys a b = (
    λ s. elim s [ inl h ↦ left xs ys (a.0 h) | inr h ↦ right xs ys (b.0 h) ],
    λ s. elim (either xs ys s) [ inl h ↦ inl (a.1 h) | inr h ↦ inr (b.1 h) ],
  )

  -- a list of one
  only : (x : Sized) → ((e ≡ x.tree) × (w ≡ x.width)) ↔ IsAmong (x ∷ []) e w
  only x = (λ h. inl h, λ s. elim s [ inl h ↦ h | inr h ↦ absurd h ])

  grouped : {A B C D : Type 0} → (A ⊎ (B ⊎ C)) ↔ D → ((A ⊎ B) ⊎ C) ↔ D
  grouped {A} {B} {C} h = (λ s. h.0 (there s), λ d. back (h.1 d)) where
    there : (A ⊎ B) ⊎ C → A ⊎ (B ⊎ C)
    there (inl (inl a)) = inl a
    there (inl (inr b)) = inr (inl b)
    there (inr c) = inr (inr c)

    back : A ⊎ (B ⊎ C) → (A ⊎ B) ⊎ C
    back (inl a) = inl (inl a)
    back (inr (inl b)) = inl (inr b)
    back (inr (inr c)) = inr c

  -- ---- powers on the way
  power-in : (d : Tree) (v : Width) (n i k : ℕ) → i ≤ k → k < i + n → (e ≡ Pow d k) × (w ≡ v) → IsAmong (powers_from d v i n) e w
  power-in d v zero i k h l q = absurd (omega (arith, h, l))
  power-in d v (suc n) i k h l q = elim (cases_lt i k) [
    | inl m ↦ inr (power-in d v n (suc i) k m (omega (arith, l)) q)
    | inr m ↦ inl (q.0 ∙ ap (Pow d) (omega (arith, h, m)), q.1)
  ]

  in-powers : (d : Tree) (v : Width) (n i : ℕ) → IsAmong (powers_from d v i n) e w → (k : ℕ) × (k < i + n) × (e ≡ Pow d k) × (w ≡ v)
  in-powers d v zero i s = absurd s
  in-powers d v (suc n) i (inl q) = (i, omega arith, q.0, q.1)
  in-powers d v (suc n) i (inr s) = let r = in-powers d v n (suc i) s in (r.0, omega (arith, r.1), r.2, r.3)

  powers : (d : Tree) (v : Width) (n : ℕ) → ((k : ℕ) × (k ≤ n) × (e ≡ Pow d k) × (w ≡ v)) ↔ IsAmong (powers_to d v n) e w
  powers d v n = (
    λ h. power-in d v (suc n) 0 h.0 (omega arith) (omega (arith, h.1)) (h.2, h.3),
    λ s. let r = in-powers d v (suc n) 0 s in (r.0, omega (arith, r.1), r.2, r.3),
  )

  -- ---- lets and a tree
  node : (lets : List Tree) (t : Typed) → IsNode lets t e w ↔ IsAmong (nodes_in lets t) e w
  node lets (TNum c p v) = only _
  node lets (TInput i p v) = only _
  node lets (TLet j p v) = only _
  node lets (TNeg t p v) = joins (nodes_in lets t) _ (node lets t) (only _)
  node lets (TTwo k s t p v) = grouped (joins (nodes_in lets s) _ (node lets s) (joins (nodes_in lets t) _ (node lets t) (only _)))
  node lets (TPow t n p v) = joins (nodes_in lets t) _ (node lets t) (powers (inlined lets (untyped t)) v n)

  let-node : (done : List Tree) (ts : List Typed) → IsLetNode done ts e w ↔ IsAmong (nodes_in_lets done ts) e w
  let-node done [] = (λ h. h, λ h. h)
  let-node done (t ∷ ts) = joins (nodes_in done t) _ (node done t) (let-node (done ++ inlined done (untyped t) ∷ []) ts)

-- a node of a tree or of its lets is just a member of the list
pub nodes-are-listed : NodesAreListed
nodes-are-listed lets t e w = joins e w (nodes_in_lets [] lets) _ (let-node e w [] lets) (node e w (inlined_after [] (map untyped lets)) t)
