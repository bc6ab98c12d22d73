-- A source that is refused for nothing is accepted.
use Rattle.std.proofs.Common.{ℕ, ◌<◌, ◌≤◌, List, [], ◌∷◌, ◌++◌, append_assoc, length, refl, subst, ◌⊎◌, inl, inr}
use Rattle.std.proofs.lemmas.Bool.{cases_lt}
use Rattle.ln_base.specs.declared.span.Span.{Span}
use Rattle.ln_algebra.specs.Tree.{Tree}
use Rattle.ln_tree.specs.Table.{PredOf}
use Rattle.ln_bound.specs.Light.{AreLight, IsBoundFault, most}
use Rattle.ln_poly.specs.Expansion.{HasTooManyTerms, HaveFewTerms, IsTermsFault}
use Rattle.ln_compile.specs.declared.refusal.Refusal.{Refusal}
use Rattle.ln_compile.specs.declared.refusal.Refusal.TheVariants.{Bound, Stages, Terms, Zero}
use Rattle.ln_compile.specs.Accepted.{AreSound, IsSound, expanded_of, loaded_of}
use Rattle.ln_compile.specs.Refused.{IsFirstFault, IsPredFault, bound, heavy, of_pred, stages, terms, token_of, zero}
use Rattle.ln_compile.specs.Faultless.{FaultlessIsAccepted}
use Rattle.ln_compile.proofs.Refusing.Judging.{all-more}

-- ---- nodes
light-more : (done : List (Span × ℕ)) (n : Span × ℕ) → AreLight done → n.1 ≤ most → AreLight (done ++ n ∷ [])
light-more [] n l h = (h, tt)
light-more (x ∷ done) n l h = (l.0, light-more done n l.1 h)

light-from : (done rest : List (Span × ℕ)) → AreLight done → ((at : Span) → IsBoundFault (done ++ rest) at → ⊥) → AreLight rest
light-from done [] l nay = tt
light-from done (n ∷ rest) l nay = by_case (cases_lt most n.1)
    (λ h. light-from (done ++ n ∷ []) rest (light-more done n l h) (λ at f. nay at (subst (λ ns. IsBoundFault ns at) (append_assoc done (n ∷ []) rest) f)))
  where
    by_case : (most < n.1) ⊎ (n.1 ≤ most) → (n.1 ≤ most → AreLight rest) → AreLight (n ∷ rest)
    by_case (inl h) go = absurd (nay n.0 (record { before = done; weight = n.1; after = rest; stands = refl; light = l; heavy = h }))
    by_case (inr h) go = (h, go h)

few-more : (n : ℕ) (done : List (Span × Tree)) (x : Span × Tree) → HaveFewTerms n done → (HasTooManyTerms n x.1 → ⊥) → HaveFewTerms n (done ++ x ∷ [])
few-more n [] x l h = (h, tt)
few-more n (y ∷ done) x l h = (l.0, few-more n done x l.1 h)

few-from : (n : ℕ) (done rest : List (Span × Tree)) → HaveFewTerms n done → ((at : Span) → IsTermsFault n (done ++ rest) at → ⊥) → HaveFewTerms n rest
few-from n done [] l nay = tt
few-from n done (x ∷ rest) l nay = (
  here,
  few-from n (done ++ x ∷ []) rest (few-more n done x l here) (λ at f. nay at (subst (λ ns. IsTermsFault n ns at) (append_assoc done (x ∷ []) rest) f)),
) where
  here : HasTooManyTerms n x.1 → ⊥
  here m = nay x.0 (record { before = done; node = x.1; after = rest; stands = refl; few = l; many = m })

-- ---- a predicate
sound-one : (k : ℕ) (p : PredOf) → ((r : Refusal) → IsPredFault k p r → ⊥) → IsSound p
sound-one k p nay =
    let l : AreLight (loaded_of p) = light-from [] (loaded_of p) tt (λ at f. nay (Bound k at) (bound f)) in
    let t : HaveFewTerms (length p.vars) (expanded_of p) = few-from (length p.vars) [] (expanded_of p) tt (λ at f. nay (Terms k at) (terms l f)) in
    record {
      light = l;
      few = t;
      whole = λ h. nay (Bound k (token_of p.root)) (heavy l t h);
      nonzero = λ z. nay (Zero k p.at) (zero l t (λ h. nay (Bound k (token_of p.root)) (heavy l t h)) z);
      staged = λ s. nay (Stages k p.at) (stages l t (λ h. nay (Bound k (token_of p.root)) (heavy l t h))
          (λ z. nay (Zero k p.at) (zero l t (λ h. nay (Bound k (token_of p.root)) (heavy l t h)) z)) s);
    }

-- ---- predicates
sound-from : (done rest : List PredOf) → AreSound done → ((r : Refusal) → IsFirstFault (done ++ rest) r → ⊥) → AreSound rest
sound-from done [] s nay = tt
sound-from done (p ∷ rest) s nay = (
  here,
  sound-from (done ++ p ∷ []) rest (all-more IsSound done p s here) (λ r f. nay r (subst (λ ps. IsFirstFault ps r) (append_assoc done
      (p ∷ []) rest) f)),
)
  where
    here : IsSound p
    here = sound-one (length done) p (λ r f. nay r (record { before = done; pred = p; after = rest; stands = refl; sound = s; fault = f }))

-- a source that has a table and is refused for nothing is accepted with that table
pub faultless-accepted : FaultlessIsAccepted
faultless-accepted bytes t text nay = record { text = text; sound = sound-from [] t.preds tt (λ r f. nay r (of_pred t text f)) }
