-- Proves that sums and products over variables stay where the variables are exchanged.
use Rattle.std.proofs.Common.{◌≡◌, ℕ, ◌<◌, zero, suc, refl, sym, ◌∙◌, ap, arith, List, [], ◌∷◌, length, map, Bool, true, false, eqb, if◌then◌else◌, ◌⊎◌, inl}
use Rattle.std.proofs.Common.{inr}
use Rattle.std.proofs.lemmas.Bool.Decides.{nat_tests}

-- v is a member of the list
abbrev pub Has : List ℕ → ℕ → Type 0
Has [] v = ⊥
Has (w ∷ ws) v = (v ≡ w) ⊎ Has ws v

-- no member is there twice
abbrev pub Differ : List ℕ → Type 0
Differ [] = Unit {0}
Differ (v ∷ vs) = (Has vs v → ⊥) × Differ vs

-- the list without the first v
abbrev pub take_out : ℕ → List ℕ → List ℕ
take_out v [] = []
take_out v (w ∷ ws) = if eqb v w then ws else (w ∷ take_out v ws)

-- the first n variables
abbrev pub variables : ℕ → List ℕ
variables zero = []
variables (suc n) = 0 ∷ map suc (variables n)

-- ---- members
-- the list without v has its other members
has-out : (ws : List ℕ) (u v : ℕ) → Has ws u → (u ≡ v → ⊥) → Has (take_out v ws) u
has-out [] u v h d = h
has-out (w ∷ ws) u v h d = by_case (λ i. has-out ws u v i d) (eqb v w) refl h where
  by_case : (Has ws u → Has (take_out v ws) u) → (b : Bool) → eqb v w ≡ b → (u ≡ w) ⊎ Has ws u → Has (take_out v (w ∷ ws)) u
  by_case ih true e (inl q) = absurd (d (let s : v ≡ w = grind (arith, nat_tests) in q ∙ sym s))
  by_case ih true e (inr i) = rw e i
  by_case ih false e (inl q) = rw e (inl q)
  by_case ih false e (inr i) = rw e (inr (ih i))

-- it is one shorter
length-out : (ws : List ℕ) (v : ℕ) → Has ws v → suc (length (take_out v ws)) ≡ length ws
length-out [] v h = absurd h
length-out (w ∷ ws) v h = by_case (λ i. length-out ws v i) (eqb v w) refl h where
  by_case : (Has ws v → suc (length (take_out v ws)) ≡ length ws) → (b : Bool) → eqb v w ≡ b → (v ≡ w) ⊎ Has ws v
      → suc (length (take_out v (w ∷ ws))) ≡ length (w ∷ ws)
  by_case ih true e i = rw e refl
  by_case ih false e (inl q) = absurd (grind (arith, nat_tests))
  by_case ih false e (inr i) = rw e (omega (arith, ih i))

-- images of members are members
has-map : (f : ℕ → ℕ) (vs : List ℕ) (u : ℕ) → Has vs u → Has (map f vs) (f u)
has-map f [] u h = h
has-map f (v ∷ vs) u (inl q) = inl (ap f q)
has-map f (v ∷ vs) u (inr i) = inr (has-map f vs u i)

-- and there are no others
map-has : (f : ℕ → ℕ) (vs : List ℕ) (u : ℕ) → Has (map f vs) u → (w : ℕ) × Has vs w × (u ≡ f w)
map-has f [] u h = absurd h
map-has f (v ∷ vs) u (inl q) = (v, inl refl, q)
map-has f (v ∷ vs) u (inr i) = let r = map-has f vs u i in (r.0, inr r.1, r.2)

-- the members of the first n variables are those below n
pub has-below : (n u : ℕ) → u < n → Has (variables n) u
has-below zero u h = absurd (omega arith)
has-below (suc n) zero h = inl refl
has-below (suc n) (suc u) h = inr (has-map suc (variables n) u (has-below n u (omega arith)))

-- and each is below n
pub below-has : (n u : ℕ) → Has (variables n) u → u < n
below-has zero u h = absurd h
below-has (suc n) u (inl q) = omega (arith, q)
below-has (suc n) u (inr i) = let r = map-has suc (variables n) u i in omega (arith, r.2, below-has n r.0 r.1)

-- images by a function that keeps members apart differ
differ-map : (f : ℕ → ℕ) (vs : List ℕ) → ((u w : ℕ) → f u ≡ f w → u ≡ w) → Differ vs → Differ (map f vs)
differ-map f [] one d = tt
differ-map f (v ∷ vs) one d =
    ((λ h. let r = map-has f vs (f v) h in d.0 (let q : v ≡ r.0 = one v r.0 r.2 in rw q r.1)), differ-map f vs one d.1)

-- the first n variables differ
differ-variables : (n : ℕ) → Differ (variables n)
differ-variables zero = tt
differ-variables (suc n) =
    ((λ h. let r = map-has suc (variables n) 0 h in omega (arith, r.2)), differ-map suc (variables n) (λ u w q. omega (arith, q)) (differ-variables n))

-- there are as many images
length-images : (f : ℕ → ℕ) (vs : List ℕ) → length (map f vs) ≡ length vs
length-images f [] = refl
length-images f (v ∷ vs) = ap suc (length-images f vs)

-- ---- an operation over members, in any order
module _ {A : Type 0} (op : A → A → A) (unit : A) (flip : (a b c : A) → op a (op b c) ≡ op b (op a c)) where
  -- the values of g at these variables together
  abbrev pub over : (ℕ → A) → List ℕ → A
  over g [] = unit
  over g (v ∷ vs) = op (g v) (over g vs)

  -- a member is moved to the front
  over-out : (g : ℕ → A) (ws : List ℕ) (v : ℕ) → Has ws v → over g ws ≡ op (g v) (over g (take_out v ws))
  over-out g [] v h = absurd h
  over-out g (w ∷ ws) v h = by_case (λ i. over-out g ws v i) (eqb v w) refl h where
    by_case : (Has ws v → over g ws ≡ op (g v) (over g (take_out v ws))) → (b : Bool) → eqb v w ≡ b → (v ≡ w) ⊎ Has ws v
        → over g (w ∷ ws) ≡ op (g v) (over g (take_out v (w ∷ ws)))
    by_case ih true e i = let s : v ≡ w = grind (arith, nat_tests) in rw e (ap (λ z. op (g z) (over g ws)) (sym s))
    by_case ih false e (inl q) = absurd (grind (arith, nat_tests))
    by_case ih false e (inr i) = rw e (ap (λ z. op (g w) z) (ih i) ∙ flip (g w) (g v) (over g (take_out v ws)))

  -- lists with the same members, each once, have the same value
  over-members : (g : ℕ → A) (vs ws : List ℕ) → Differ vs → ((u : ℕ) → Has vs u → Has ws u) → length vs ≡ length ws → over g vs ≡ over g ws
  over-members g [] [] d m l = refl
  over-members g [] (w ∷ ws) d m l = absurd (omega (arith, l))
  over-members g (v ∷ vs) ws d m l =
      let i : Has ws v = m v (inl refl) in
      ap (λ z. op (g v) z) (over-members g vs (take_out v ws) d.1
      (λ u h. has-out ws u v (m u (inr h)) (λ q. d.0 (rw q at h))) (omega (arith, l, length-out ws v i)))
      ∙ sym (over-out g ws v i)

  -- the value over images
  pub over-map : (g : ℕ → A) (f : ℕ → ℕ) (vs : List ℕ) → over (λ v. g (f v)) vs ≡ over g (map f vs)
  over-map g f [] = refl
  over-map g f (v ∷ vs) = ap (λ z. op (g (f v)) z) (over-map g f vs)

  -- equal values are equal together
  pub over-same : (g h : ℕ → A) (vs : List ℕ) → ((v : ℕ) → Has vs v → g v ≡ h v) → over g vs ≡ over h vs
  over-same g h [] s = refl
  over-same g h (v ∷ vs) s =
      ap (λ z. op z (over g vs)) (s v (inl refl)) ∙ ap (λ z. op (h v) z) (over-same g h vs (λ u i. s u (inr i)))

  -- an exchange of the first n variables keeps their value
  pub over-exchanged : (g : ℕ → A) (n : ℕ) (partner : ℕ → ℕ) → ((v : ℕ) → v < n → partner v < n) → ((v : ℕ) → partner (partner v) ≡ v)
      → over (λ v. g (partner v)) (variables n) ≡ over g (variables n)
  over-exchanged g n partner within twice =
      over-map g partner (variables n)
      ∙ over-members g (map partner (variables n)) (variables n)
      (differ-map partner (variables n) (λ u w q. sym (twice u) ∙ ap partner q ∙ twice w) (differ-variables n))
      (λ u h. let r = map-has partner (variables n) u h in
      has-below n u (let l : partner r.0 < n = within r.0 (below-has n r.0 r.1) in rw r.2 l))
      (length-images partner (variables n))
