-- One row of a trace.
use Rattle.std.proofs.Common.{◌≡◌, ◌≢◌, ◌↔◌, ℕ, zero, suc, refl, sym, ◌∙◌, ap, subst, List, [], ◌∷◌, ◌⊎◌, inl, inr}
use Rattle.std.proofs.Math.IntN.{ℤ, pos, negsuc}
use Rattle.ln_algebra.proofs.Ordering.Admissible.{earlier-admissible as order}
use Rattle.ln_algebra.proofs.Ordering.First.{nonzero-first-in}
use Rattle.ln_algebra.proofs.Walking.Cut.{degree-small, first-stage-in}
use Rattle.ln_algebra.proofs.Expanded.Normal.{zero_cases}
use Rattle.ln_algebra.specs.Earlier.{Earlier, IndicesDiffer, IsInOrder, IsOver, Sites}
use Rattle.ln_algebra.specs.Sign.{IsFirst, IsPerturbedSign, or_else, perturbed, sign_along, sign_of}
use Rattle.ln_algebra.specs.Stage.{IsStage, IsStageList}
use Rattle.ln_algebra.specs.Tree.{InputsBelow, Tree}
use Rattle.ln_algebra.specs.Vector.{In}
use Rattle.ln_trace.specs.Told.{AreTold, AreZero, IsNext, IsSigned, LastIsEarlier, Leads, Stood, stop_at, up_to_first, vectors_in}
use Rattle.ln_trace.specs.ToldLaw.{IsLeft, NoneIsEarlier}

-- a value that isn't 0 decides the sign, and is the last one that is written
pub behind-nonzero : (z t : ℤ) → z ≢ pos 0 → or_else (sign_of z) t ≡ sign_of z
behind-nonzero (pos zero) t h = absurd (h refl)
behind-nonzero (pos (suc n)) t h = refl
behind-nonzero (negsuc n) t h = refl

-- nothing is written after it
pub stop-nonzero : (z : ℤ) (rest : List (List ℕ × ℤ)) → z ≢ pos 0 → stop_at z rest ≡ []
stop-nonzero (pos zero) rest h = absurd (h refl)
stop-nonzero (pos (suc n)) rest h = refl
stop-nonzero (negsuc n) rest h = refl

module _ (n : ℕ) (sites : Sites) (x : ℕ → ℤ) (e : Tree) where
  -- ---- the sign is the perturbed one
  -- the value of each vector that was written is its coefficient
  told-value : (stood : Stood) (b : List ℕ) → AreTold n sites x e stood → AreZero stood → In (vectors_in stood) b → perturbed sites x e b ≡ pos 0
  told-value [] b t z i = absurd i
  told-value (p ∷ stood) b t z (inl q) = ap (perturbed sites x e) q ∙ sym t.0.value ∙ z.0
  told-value (p ∷ stood) b t z (inr i) = told-value stood b t.1 z.1 i

  module _ (below : InputsBelow n e) (differ : IndicesDiffer sites) where
    -- the last vector, whose value isn't 0, is the first of the row
    last-first : (stood : Stood) (a : List ℕ) (z : ℤ) → IsNext n sites x e stood a z → AreTold n sites x e stood → z ≢ pos 0 → IsFirst n sites x e a
    last-first stood a z h t nz = by_order ((order n sites differ).total a f.0 h.over f.1.over) where
      v : perturbed sites x e a ≢ pos 0
      v q = nz (h.value ∙ q)

      f : (b : List ℕ) × IsFirst n sites x e b
      f = nonzero-first-in n sites (Earlier sites) (order n sites differ) x e a h.over v

      by_order : (a ≡ f.0) ⊎ (Earlier sites a f.0 ⊎ Earlier sites f.0 a) → IsFirst n sites x e a
      by_order (inl q) = subst (IsFirst n sites x e) (sym q) f.1
      by_order (inr (inl l)) = absurd (v (f.1.zero_before a h.over (degree-small sites x e a v) l))
      by_order (inr (inr l)) =
          absurd (f.1.nonzero (told-value stood f.0 t h.zeros (h.members f.0 (first-stage-in n sites (Earlier sites) x e below f.0 f.1) l)))

    -- the sign that may follow vectors written by the rules is the perturbed sign
    pub told_signed : (stood : Stood) (s : ℤ) → AreTold n sites x e stood → IsSigned n sites e stood s → IsPerturbedSign n sites x e s
    told_signed [] s t h = absurd h
    told_signed (p ∷ stood) s t h = by_case (zero_cases p.1) where
      by_case : (p.1 ≡ pos 0) ⊎ (p.1 ≡ pos 0 → ⊥) → IsPerturbedSign n sites x e s
      by_case (inl z) = inr (
        λ a f. f.nonzero (told-value (p ∷ stood) a t (z, t.0.zeros) (h.1 z a (first-stage-in n sites (Earlier sites) x e below a f))),
        h.0 ∙ ap sign_of z,
      )
      by_case (inr z) = inl (p.0, last-first stood p.0 p.1 t.0 t.1 z, h.0 ∙ ap sign_of t.0.value)

  -- ---- a stage list is written by the rules
  module _ (differ : IndicesDiffer sites) where
    -- some of the list stood, all with the value 0, and the rest remains
    record Midway (stood : Stood) (rest : List (List ℕ)) : Type 0 where
      stages : (b : List ℕ) → In rest b → IsStage n sites e b
      all : (b : List ℕ) → IsStage n sites e b → In (vectors_in stood) b ⊎ In rest b
      in_order : IsInOrder sites rest
      later : (b : List ℕ) → In rest b → LastIsEarlier sites stood b
      zeros : AreZero stood

    is-next : (stood : Stood) (a : List ℕ) (rest : List (List ℕ)) → Midway stood (a ∷ rest) → IsNext n sites x e stood a (perturbed sites x e a)
    is-next stood a rest m = record {
      over = (m.stages a (inl refl)).over;
      later = m.later a (inl refl);
      zeros = m.zeros;
      members = λ b s l. stood-before b l (m.all b s);
      value = refl;
    } where
      stood-before : (b : List ℕ) → Earlier sites b a → In (vectors_in stood) b ⊎ In (a ∷ rest) b → In (vectors_in stood) b
      stood-before b l (inl i) = i
      stood-before b l (inr (inl q)) = absurd ((order n sites differ).irreflexive a (subst (λ c. Earlier sites c a) q l))
      stood-before b l (inr (inr i)) = absurd ((order n sites differ).irreflexive a ((order n sites differ).transitive a b a (m.in_order.0 b i) l))

    go-on : (stood : Stood) (a : List ℕ) (rest : List (List ℕ)) → Midway stood (a ∷ rest) → perturbed sites x e a ≡ pos 0
        → Midway ((a, perturbed sites x e a) ∷ stood) rest
    go-on stood a rest m z = record {
      stages = λ b i. m.stages b (inr i);
      all = λ b s. over-there b (m.all b s);
      in_order = m.in_order.1;
      later = m.in_order.0;
      zeros = (z, m.zeros);
    } where
      over-there : (b : List ℕ) → In (vectors_in stood) b ⊎ In (a ∷ rest) b → In (vectors_in ((a, perturbed sites x e a) ∷ stood)) b ⊎ In rest b
      over-there b (inl i) = inl (inr i)
      over-there b (inr (inl q)) = inl (inl q)
      over-there b (inr (inr i)) = inr i

    abbrev Ends : Stood → List (List ℕ) → Type 0
    Ends stood rest = (q : Stood) × Leads n sites x e stood (up_to_first sites x e rest) q × IsSigned n sites e q (sign_along sites x e rest)

    goes : (z : ℤ) (ats : List (List ℕ × ℤ)) → z ≡ pos 0 → stop_at z ats ≡ ats
    goes z ats h = ap (λ y. stop_at y ats) h

    passes : (z t : ℤ) → z ≡ pos 0 → or_else (sign_of z) t ≡ t
    passes z t h = ap (λ y. or_else (sign_of y) t) h

    told-along : (stood : Stood) (rest : List (List ℕ)) → Midway stood rest → (stood ≡ [] → rest ≢ []) → Ends stood rest
    told-along [] [] m some = absurd (some refl refl)
    told-along (p ∷ stood) [] m some = (p ∷ stood, refl, (sym (ap sign_of m.zeros.0), λ z b s. elim (m.all b s) [ inl i ↦ i | inr i ↦ absurd i ]))
    told-along stood (a ∷ rest) m some = by_case (zero_cases (perturbed sites x e a))
        (λ z. told-along ((a, perturbed sites x e a) ∷ stood) rest (go-on stood a rest m z) (λ q. absurd (not-nil q)))
      where
        not-nil : (a, perturbed sites x e a) ∷ stood ≡ [] → ⊥
        not-nil q = cc

        by_case : (perturbed sites x e a ≡ pos 0) ⊎ (perturbed sites x e a ≡ pos 0 → ⊥)
            → (perturbed sites x e a ≡ pos 0 → Ends ((a, perturbed sites x e a) ∷ stood) rest) → Ends stood (a ∷ rest)
        by_case (inl z) ih =
            let r = ih z in
            let g : up_to_first sites x e (a ∷ rest) ≡ (a, perturbed sites x e a) ∷ up_to_first sites x e rest =
            ap (λ ats. (a, perturbed sites x e a) ∷ ats) (goes (perturbed sites x e a) (up_to_first sites x e rest) z) in
            let l : Leads n sites x e stood ((a, perturbed sites x e a) ∷ up_to_first sites x e rest) r.0 = (is-next stood a rest m, r.1) in (
              r.0,
              subst (λ ats. Leads n sites x e stood ats r.0) (sym g) l,
              subst (IsSigned n sites e r.0) (sym (passes (perturbed sites x e a) (sign_along sites x e rest) z)) r.2,
            )
        by_case (inr z) ih =
            let g : up_to_first sites x e (a ∷ rest) ≡ (a, perturbed sites x e a) ∷ [] =
            ap (λ ats. (a, perturbed sites x e a) ∷ ats) (stop-nonzero (perturbed sites x e a) (up_to_first sites x e rest) z) in
            let q : Stood = (a, perturbed sites x e a) ∷ stood in
            let l : Leads n sites x e stood ((a, perturbed sites x e a) ∷ []) q = (is-next stood a rest m, refl) in
            let s : IsSigned n sites e q (sign_along sites x e (a ∷ rest)) =
            (behind-nonzero (perturbed sites x e a) (sign_along sites x e rest) z, λ y. absurd (z y)) in
            (q, subst (λ ats. Leads n sites x e stood ats q) (sym g) l, s)

    -- a stage list with its coefficients, up to the first that isn't 0, goes by the rules, and so does the sign along it
    pub list_told : (list : List (List ℕ)) → IsStageList n sites e list → list ≢ [] → Ends [] list
    list_told list h some =
        told-along [] list (record { stages = h.stages; all = λ b s. inr (h.all b s); in_order = h.in_order; later = λ b i. tt; zeros = tt }) (λ q. some)

-- ---- the remaining members
module _ (n : ℕ) (sites : Sites) (e : Tree) where
  -- before any vector stood, all stages of the list remain
  pub all_left : (list : List (List ℕ)) → IsStageList n sites e list → IsLeft n sites e [] list
  all_left list h = record { stages = h.stages; all = λ b s. inr (h.all b s); in_order = h.in_order; apart = λ b c i. absurd i }

  module _ (differ : IndicesDiffer sites) where
    first-left-tells : (stood : Stood) (left : List (List ℕ)) (a : List ℕ) → IsLeft n sites e stood left → NoneIsEarlier sites left a
        → (b : List ℕ) → IsStage n sites e b → Earlier sites b a → In (vectors_in stood) b
    first-left-tells stood [] a h none b s l = elim (h.all b s) [ inl i ↦ i | inr i ↦ absurd i ]
    first-left-tells stood (c ∷ left) a h none b s l = by_case (h.all b s) where
      by_case : In (vectors_in stood) b ⊎ In (c ∷ left) b → In (vectors_in stood) b
      by_case (inl i) = i
      by_case (inr (inl q)) = absurd (none (subst (λ d. Earlier sites d a) q l))
      by_case (inr (inr i)) = absurd (none ((order n sites differ).transitive c b a (h.in_order.0 b i) l))

    first-left-told : (stood : Stood) (left : List (List ℕ)) (a : List ℕ) → IsLeft n sites e stood left
        → ((b : List ℕ) → IsStage n sites e b → Earlier sites b a → In (vectors_in stood) b) → NoneIsEarlier sites left a
    first-left-told stood [] a h all = tt
    first-left-told stood (c ∷ left) a h all = λ l. (order n sites differ).irreflexive c (h.apart c c (all c (h.stages c (inl refl)) l) (inl refl))

    -- the first remaining stage isn't earlier than a vector exactly where each stage earlier than that vector stood
    pub first-left : (stood : Stood) (left : List (List ℕ)) (a : List ℕ) → IsLeft n sites e stood left
        → NoneIsEarlier sites left a ↔ ((b : List ℕ) → IsStage n sites e b → Earlier sites b a → In (vectors_in stood) b)
    first-left stood left a h = (first-left-tells stood left a h, first-left-told stood left a h)

    -- where a vector is no remaining stage and none of these is earlier than it, the same stages remain once it stood
    pub other-stands : (stood : Stood) (left : List (List ℕ)) (a : List ℕ) (z : ℤ) → IsOver n sites a → IsLeft n sites e stood left
        → NoneIsEarlier sites left a → (In left a → ⊥) → IsLeft n sites e ((a, z) ∷ stood) left
    other-stands stood left a z o h none out = record { stages = h.stages; all = λ b s. there b (h.all b s); in_order = h.in_order; apart = apart } where
      there : (b : List ℕ) → In (vectors_in stood) b ⊎ In left b → In (vectors_in ((a, z) ∷ stood)) b ⊎ In left b
      there b (inl i) = inl (inr i)
      there b (inr i) = inr i

      behind : (l : List (List ℕ)) → ((c : List ℕ) → In l c → IsOver n sites c) → IsInOrder sites l → NoneIsEarlier sites l a → (In l a → ⊥)
          → (c : List ℕ) → In l c → Earlier sites a c
      behind [] k s d i c j = absurd j
      behind (m ∷ l) k s d i c j = by_order ((order n sites differ).total a m o (k m (inl refl))) j where
        by_order : (a ≡ m) ⊎ (Earlier sites a m ⊎ Earlier sites m a) → (c ≡ m) ⊎ In l c → Earlier sites a c
        by_order (inl q) j = absurd (i (inl q))
        by_order (inr (inr y)) j = absurd (d y)
        by_order (inr (inl y)) (inl q) = subst (Earlier sites a) (sym q) y
        by_order (inr (inl y)) (inr r) = (order n sites differ).transitive a m c y (s.0 c r)

      apart : (b c : List ℕ) → In (vectors_in ((a, z) ∷ stood)) b → In left c → Earlier sites b c
      apart b c (inl q) j = subst (λ d. Earlier sites d c) (sym q) (behind left (λ d r. (h.stages d r).over) h.in_order none out c j)
      apart b c (inr i) j = h.apart b c i j

  module _ (irreflexive : (a : List ℕ) → Earlier sites a a → ⊥) where
    none-left-tells : (stood : Stood) (left : List (List ℕ)) → IsLeft n sites e stood left → left ≡ [] → (b : List ℕ) → IsStage n sites e b
        → In (vectors_in stood) b
    none-left-tells stood left h q b s = elim (h.all b s) [ inl i ↦ i | inr i ↦ absurd (subst (λ l. In l b) q i) ]

    none-left-told : (stood : Stood) (left : List (List ℕ)) → IsLeft n sites e stood left
        → ((b : List ℕ) → IsStage n sites e b → In (vectors_in stood) b) → left ≡ []
    none-left-told stood [] h all = refl
    none-left-told stood (c ∷ left) h all = absurd (irreflexive c (h.apart c c (all c (h.stages c (inl refl))) (inl refl)))

    -- no stage remains exactly where each stage stood
    pub none-left : (stood : Stood) (left : List (List ℕ)) → IsLeft n sites e stood left
        → (left ≡ []) ↔ ((b : List ℕ) → IsStage n sites e b → In (vectors_in stood) b)
    none-left stood left h = (none-left-tells stood left h, none-left-told stood left h)

  -- once the first remaining stage stood, those after it remain
  pub first_stands : (stood : Stood) (left : List (List ℕ)) (a : List ℕ) (z : ℤ) → IsLeft n sites e stood (a ∷ left) → IsLeft n sites e ((a, z) ∷ stood) left
  first_stands stood left a z h = record { stages = λ b i. h.stages b (inr i); all = λ b s. there b (h.all b s); in_order = h.in_order.1; apart = apart } where
    there : (b : List ℕ) → In (vectors_in stood) b ⊎ In (a ∷ left) b → In (vectors_in ((a, z) ∷ stood)) b ⊎ In left b
    there b (inl i) = inl (inr i)
    there b (inr (inl q)) = inl (inl q)
    there b (inr (inr i)) = inr i

    apart : (b c : List ℕ) → In (vectors_in ((a, z) ∷ stood)) b → In left c → Earlier sites b c
    apart b c (inl q) j = subst (λ d. Earlier sites d c) (sym q) (h.in_order.0 c j)
    apart b c (inr i) j = h.apart b c i (inr j)
