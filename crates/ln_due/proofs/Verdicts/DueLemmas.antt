-- What is found along the stage list of a row is what the row requires.
use Rattle.std.proofs.Common.{◌≡◌, ◌≢◌, ◌⊎◌, inl, inr, ℕ, ◌+◌, zero, suc, List, [], ◌∷◌, ◌++◌, length, refl, sym, ◌∙◌, ap, arith, subst}
use Rattle.std.proofs.Math.IntN.{ℤ, pos, negsuc}
use Rattle.ln_algebra.proofs.Ordering.Admissible.{asymmetric}
use Rattle.ln_algebra.proofs.Walking.Cut.{first-stage-in, stage-first-in}
use Rattle.ln_algebra.proofs.Walking.Walk.{In-append_right}
use Rattle.ln_algebra.specs.Earlier.{IsSortedIn, Sites}
use Rattle.ln_algebra.specs.Orders.{IsAdmissible}
use Rattle.ln_algebra.specs.Sign.{IsFirstIn, IsSignIn, perturbed}
use Rattle.ln_algebra.specs.Sign as algebra
use Rattle.ln_algebra.specs.Stage.{IsStageListIn}
use Rattle.ln_algebra.specs.Tree.{InputsBelow, Tree}
use Rattle.ln_algebra.specs.Vector.{In}
use Rattle.ln_code.specs.Verdict.{sign_of}
use Rattle.ln_code.specs.declared.verdict.By.{By}
use Rattle.ln_code.specs.declared.verdict.By.TheVariants.{Stage}
use Rattle.ln_code.specs.declared.verdict.Verdict.{Verdict}
use Rattle.ln_due.specs.Due.{IsDecidedBy, IsPositionIn, sign_number}
use Rattle.ln_due.proofs.Verdicts.AlongLemmas.{AreZero, Ends, Stops, zero-at}

-- the sign of a number, as a number
pub sign-same : (z : ℤ) → sign_number (sign_of z) ≡ algebra.sign_of z
sign-same (pos zero) = refl
sign-same (pos (suc n)) = refl
sign-same (negsuc n) = refl

-- ---- a list in order
-- a member is before here, here, or after
split : (front after : List (List ℕ)) (here a : List ℕ) → In (front ++ here ∷ after) a → In front a ⊎ ((a ≡ here) ⊎ In after a)
split [] after here a (inl q) = inr (inl q)
split [] after here a (inr i) = inr (inr i)
split (b ∷ front) after here a (inl q) = inl (inl q)
split (b ∷ front) after here a (inr i) = elim (split front after here a i) [ inl k ↦ inl (inr k) | inr k ↦ inr k ]

-- what comes before here is earlier
earlier-before : (order : List ℕ → List ℕ → Type 0) (front after : List (List ℕ)) (here a : List ℕ)
    → IsSortedIn order (front ++ here ∷ after) → In front a → order a here
earlier-before order [] after here a o i = absurd i
earlier-before order (b ∷ front) after here a o (inl q) =
    subst (λ (c : List ℕ). order c here) (sym q) (o.0 here (In-append_right front (here ∷ after) here (inl refl)))
earlier-before order (b ∷ front) after here a o (inr i) = earlier-before order front after here a o.1 i

-- what comes after is later
later-after : (order : List ℕ → List ℕ → Type 0) (front after : List (List ℕ)) (here a : List ℕ) → IsSortedIn order (front ++ here ∷ after)
    → In after a → order here a
later-after order [] after here a o i = o.0 a i
later-after order (b ∷ front) after here a o i = later-after order front after here a o.1 i

-- no member is earlier: the position is 0
pub position-none : (order : List ℕ → List ℕ → Type 0) (list : List (List ℕ)) (a : List ℕ) → ((b : List ℕ) → In list b → order b a → ⊥)
    → IsPositionIn order list a 0
position-none order [] a h = refl
position-none order (b ∷ list) a h = inr (h b (inl refl), position-none order list a (λ c i. h c (inr i)))

-- all members before it are earlier, and no others
position-is : (order : List ℕ → List ℕ → Type 0) (front after : List (List ℕ)) (here : List ℕ) → ((b : List ℕ) → In front b → order b here)
    → ((b : List ℕ) → In (here ∷ after) b → order b here → ⊥) → IsPositionIn order (front ++ here ∷ after) here (length front)
position-is order [] after here h k = position-none order (here ∷ after) here k
position-is order (b ∷ front) after here h k = inl (h b (inl refl), (length front, position-is order front after here (λ c i. h c (inr i)) k, omega arith))

module _ (n : ℕ) (sites : Sites) (x : ℕ → ℤ) (e : Tree) (below : InputsBelow n e) (order : List ℕ → List ℕ → Type 0)
    (admissible : IsAdmissible n sites order) where
  -- of two vectors one alone is earlier
  not-earlier : (a b : List ℕ) → order a b → order b a → ⊥
  not-earlier a b l k = asymmetric n sites order admissible a b l k

  -- nothing from here on is earlier
  none-behind : (front after : List (List ℕ)) (here : List ℕ) → IsSortedIn order (front ++ here ∷ after) → (b : List ℕ) → In (here ∷ after) b → order b here → ⊥
  none-behind front after here o b (inl q) l = admissible.irreflexive here (subst (λ (c : List ℕ). order c here) q l)
  none-behind front after here o b (inr i) l = not-earlier here b (later-after order front after here b o i) l

  -- the first vector of the stage list whose coefficient isn't 0 is the first of all
  stop-first : (front after : List (List ℕ)) (here : List ℕ) → IsStageListIn order n sites e (front ++ here ∷ after)
      → AreZero sites x e front → perturbed sites x e here ≢ pos 0 → IsFirstIn order n sites x e here
  stop-first front after here s z d = stage-first-in n sites order x e below admissible.transitive here
      (s.stages here (In-append_right front (here ∷ after) here (inl refl))) d (λ b t l. by_case b l (split front after here b (s.all b t)))
    where
      by_case : (b : List ℕ) → order b here → In front b ⊎ ((b ≡ here) ⊎ In after b) → perturbed sites x e b ≡ pos 0
      by_case b l (inl i) = zero-at sites x e front b z i
      by_case b l (inr i) = absurd (none-behind front after here s.in_order b i l)

  -- what the machine finds along a stage list
  pub record Owed (list : List (List ℕ)) (v : Verdict) (entered : ℕ) : Type 0 where
    pub sign : IsSignIn order n sites x e (sign_number v.sign)
    pub blocks : ℕ
    pub decided : IsDecidedBy order n sites x e list v.by blocks
    pub calls : v.calls ≡ entered + blocks

  -- where a vector decides
  pub stop-owed : (list : List (List ℕ)) (v : Verdict) (entered : ℕ) → IsStageListIn order n sites e list
      → Stops sites x e list 0 entered v → Owed list v entered
  stop-owed list v entered s t =
      let l : IsStageListIn order n sites e (t.before ++ t.here ∷ t.after) = subst (λ (q : List (List ℕ)). IsStageListIn order n sites e q) t.all s in
      let first : IsFirstIn order n sites x e t.here = stop-first t.before t.after t.here l t.zeros t.nonzero in
      let place : IsPositionIn order (t.before ++ t.here ∷ t.after) t.here (length t.before) =
      position-is order t.before t.after t.here (λ b i. earlier-before order t.before t.after t.here b l.in_order i)
      (none-behind t.before t.after t.here l.in_order) in
      let here : IsPositionIn order list t.here (length t.before) =
      subst (λ (q : List (List ℕ)). IsPositionIn order q t.here (length t.before)) (sym t.all) place in
      let by : v.by ≡ Stage (length t.before) = t.by ∙ ap Stage (omega arith) in
      record {
        sign = inl (t.here, first, ap sign_number t.sign ∙ sign-same (perturbed sites x e t.here));
        blocks = length t.before + 1;
        decided = subst (λ (b : By). IsDecidedBy order n sites x e list b (length t.before + 1)) (sym by) (t.here, first, here, refl);
        calls = t.calls;
      }

  -- where none does
  pub end-owed : (list : List (List ℕ)) (v : Verdict) (entered : ℕ) → IsStageListIn order n sites e list → Ends sites x e list entered v → Owed list v entered
  end-owed list v entered s t =
      let none : (a : List ℕ) → IsFirstIn order n sites x e a → ⊥ =
      λ a f. f.nonzero (zero-at sites x e list a t.zeros (s.all a (first-stage-in n sites order x e below a f))) in
      record {
        sign = inr (none, ap sign_number t.sign);
        blocks = length list;
        decided = subst (λ (b : By). IsDecidedBy order n sites x e list b (length list)) (sym t.by) (none, refl);
        calls = t.calls;
      }
