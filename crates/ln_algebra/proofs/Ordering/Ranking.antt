-- The lexicographic order along a ranking of the variables is Earlier.
use Rattle.std.proofs.Common.{◌≡◌, ℕ, ◌<◌, List, [], ◌∷◌, get_or, ◌⊎◌, inl, inr}
use Rattle.std.proofs.lemmas.Bool.{cases_eq}
use Rattle.ln_algebra.proofs.Ordering.Order.{before-irreflexive, before-transitive}
use Rattle.ln_algebra.proofs.Walking.Walk.{Lex}
use Rattle.ln_algebra.specs.Earlier.{Earlier, Of, RanksBefore, Sites}
use Rattle.ln_algebra.specs.Walk.{Member, IsRanked}

-- a variable is in the list or not
pub member : (vs : List ℕ) (w : ℕ) → Member vs w ⊎ (Member vs w → ⊥)
member [] w = inr (λ h. h)
member (v ∷ vs) w = elim (cases_eq w v) [
  | inl e ↦ inl (inl e)
  | inr d ↦ elim (member vs w) [ inl k ↦ inl (inr k) | inr k ↦ inr (λ h. elim h [ inl e ↦ d e | inr i ↦ k i ]) ]
]

-- a and b agree on the variables of sites outside vs
abbrev SameOff : Sites → List ℕ → List ℕ → List ℕ → Type 0
SameOff sites vs a b = (w s : ℕ) → Of sites w s → (Member vs w → ⊥) → get_or a w 0 ≡ get_or b w 0

-- the first difference along the ranking is the one of the smallest infinitesimal
lex-earlier : (sites : Sites) (vs a b : List ℕ) → IsRanked sites vs → SameOff sites vs a b → Lex vs a b → Earlier sites a b
lex-earlier sites [] a b r h l = absurd l
lex-earlier sites (v ∷ vs) a b r h (inl less) = (v, r.0, r.1, less, λ w k. same w k (cases_eq w v) (member vs w)) where
  same : (w : ℕ) → RanksBefore sites v w → (w ≡ v) ⊎ (w ≡ v → ⊥) → Member vs w ⊎ (Member vs w → ⊥) → get_or a w 0 ≡ get_or b w 0
  same w k (inl e) m = absurd (before-irreflexive sites v (rw e at k))
  same w k (inr d) (inl i) = absurd (before-irreflexive sites v (before-transitive sites v w v k (r.2 w i)))
  same w k (inr d) (inr n) = h w k.1 k.3 (λ m. elim m [ inl e ↦ d e | inr i ↦ n i ])
lex-earlier sites (v ∷ vs) a b r h (inr l) = lex-earlier sites vs a b r.3 (λ w s o n. off w s o n (cases_eq w v)) l.1 where
  off : (w s : ℕ) → Of sites w s → (Member vs w → ⊥) → (w ≡ v) ⊎ (w ≡ v → ⊥) → get_or a w 0 ≡ get_or b w 0
  off w s o n (inl e) = rw e l.0
  off w s o n (inr d) = h w s o (λ m. elim m [ inl e ↦ d e | inr i ↦ n i ])

-- and the other way
earlier-lex : (sites : Sites) (vs a b : List ℕ) → IsRanked sites vs → (v s : ℕ) → Of sites v s → Member vs v → get_or a v 0 < get_or b v 0
    → ((w : ℕ) → RanksBefore sites v w → get_or a w 0 ≡ get_or b w 0) → Lex vs a b
earlier-lex sites [] a b r v s o i less h = absurd i
earlier-lex sites (u ∷ vs) a b r v s o (inl e) less h = inl (rw e at less)
earlier-lex sites (u ∷ vs) a b r v s o (inr i) less h = inr (h u (r.2 v i), earlier-lex sites vs a b r.3 v s o i less h)

-- along a list of all variables of sites the two orders are one
pub lex-is : (sites : Sites) (vs a b : List ℕ) → IsRanked sites vs → ((v s : ℕ) → Of sites v s → Member vs v)
    → (Lex vs a b → Earlier sites a b) × (Earlier sites a b → Lex vs a b)
lex-is sites vs a b r all =
    (lex-earlier sites vs a b r (λ w s o n. absurd (n (all w s o))), λ k. earlier-lex sites vs a b r k.0 k.1 k.2 (all k.0 k.1 k.2) k.3 k.4)
