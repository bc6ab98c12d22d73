-- Vectors and lists of terms as the code has them.
use Rattle.std.proofs.Common.{◌≡◌, ℕ, ◌+◌, ◌-◌, ◌≤◌, ◌<◌, true, false, List, [], ◌∷◌, ◌++◌, length, refl, zero, suc, ap, arith, ◌∙◌}
use Rattle.std.proofs.Common.{append-nil, sym, nat_lt, slice_set, slice_index_or}
use Rattle.std.proofs.lemmas.Bool.Decides.{nat_tests}
use Rattle.std.proofs.lemmas.List.{map-append}
use Rattle.ln_algebra.specs.Terms.{Term}
use Rattle.ln_nest.specs.declared.work.Work.{Work}
use Rattle.ln_nest.specs.Nested.{exponent_of, is_positive, lessened, divided, free_of}
use Rattle.ln_tree.specs.Exps.{Pairs, exponent, exponents_from, vector}
use Rattle.ln_nest.specs.View.{term_in, terms_in}
use Rattle.ln_nest.proofs.Terms.Parts.{by_parts, less_term}

-- an exponent is the entry of the vector
pub exponent_is : (v : ℕ) (m : List ℕ) → exponent_of v m ≡ slice_index_or m v 0
exponent_is v [] = refl
exponent_is zero (n ∷ m) = refl
exponent_is (suc v) (n ∷ m) = exponent_is v m

-- there is none past its end
pub exponent_none : (v : ℕ) (m : List ℕ) → length m ≤ v → false ≡ is_positive (exponent_of v m)
exponent_none v [] h = refl
exponent_none zero (n ∷ m) h = absurd (omega arith)
exponent_none (suc v) (n ∷ m) h = exponent_none v m (omega arith)

-- the test that it is above 0
pub is_test : (n : ℕ) → nat_lt 0 n ≡ is_positive n
is_test zero = refl
is_test (suc n) = grind (arith, nat_tests)

-- one above 0 is within the vector
pub within : (v : ℕ) (m : List ℕ) → is_positive (exponent_of v m) ≡ true → v < length m
within v [] h = cc
within zero (n ∷ m) h = omega arith
within (suc v) (n ∷ m) h = let r = within v m h in omega (arith, r)

-- where the exponent is written as e less, the vector has e less
pub set_is : (e v : ℕ) (m : List ℕ) (x : ℕ) → x ≡ slice_index_or m v x → v < length m → slice_set m v (x - e) ≡ lessened e v m
set_is e v [] x q h = absurd (omega arith)
set_is e zero (n ∷ m) x q h = let f : x ≡ n = q in rw f refl
set_is e (suc v) (n ∷ m) x q h = ap (λ t. n ∷ t) (set_is e v m x q (omega arith))

-- the divided terms of two lists one after the other
divided_both : (e v : ℕ) (f g : List Term) → divided e v (f ++ g) ≡ divided e v f ++ divided e v g
divided_both e v f g =
    by_parts e v (λ f d h. divided e v (f ++ g) ≡ d ++ divided e v g) refl (λ t f d h q ih. rw q (ap (λ z. less_term e v t ∷ z) ih)) (λ t f d h q ih. rw q ih) f

-- and the terms without v
free_both : (v : ℕ) (f g : List Term) → free_of v (f ++ g) ≡ free_of v f ++ free_of v g
free_both v f g = by_parts 1 v (λ f d h. free_of v (f ++ g) ≡ h ++ free_of v g) refl (λ t f d h e ih. rw e ih) (λ t f d h e ih. rw e (ap (λ z. t ∷ z) ih)) f

-- the divided terms with one term more
divided_one : (e v : ℕ) (ws : List Work) (w : Work) (x : List Term) → divided e v (term_in w ∷ []) ≡ x
    → divided e v (terms_in (ws ++ (w ∷ []))) ≡ divided e v (terms_in ws) ++ x
divided_one e v ws w x q =
    ap (divided e v) (map-append term_in ws (w ∷ [])) ∙ divided_both e v (terms_in ws) (term_in w ∷ []) ∙ ap (λ z. divided e v (terms_in ws) ++ z) q

-- the others with one term more
free_one : (v : ℕ) (ws : List Work) (w : Work) (x : List Term) → free_of v (term_in w ∷ []) ≡ x
    → free_of v (terms_in (ws ++ (w ∷ []))) ≡ free_of v (terms_in ws) ++ x
free_one v ws w x e = ap (free_of v) (map-append term_in ws (w ∷ [])) ∙ free_both v (terms_in ws) (term_in w ∷ []) ∙ ap (λ z. free_of v (terms_in ws) ++ z) e

-- a term with v goes to the divided ones
pub with_step : (e v : ℕ) (items news : List Work) (lower : Work) (seen : List Work) (term : Work) → news ≡ items ++ (lower ∷ [])
    → lower.exponents.items ≡ lessened e v term.exponents.items → lower.factor ≡ term.factor → terms_in items ≡ divided e v (terms_in seen)
    → is_positive (exponent_of v term.exponents.items) ≡ true → terms_in news ≡ divided e v (terms_in (seen ++ (term ∷ [])))
with_step e v items news lower seen term r p q i h =
    ap terms_in r ∙ map-append term_in items (lower ∷ []) ∙ rw (i, p, q) (sym (divided_one e v seen term (less_term e v (term_in term) ∷ []) (rw h refl)))

-- a term without v leaves them
pub with_same : (e v : ℕ) (items seen : List Work) (term : Work) → terms_in items ≡ divided e v (terms_in seen)
    → is_positive (exponent_of v term.exponents.items) ≡ false → terms_in items ≡ divided e v (terms_in (seen ++ (term ∷ [])))
with_same e v items seen term i h = i ∙ sym (divided_one e v seen term [] (rw h refl) ∙ append-nil _)

-- and goes to the others
pub without_step : (v : ℕ) (items news seen : List Work) (term : Work) → news ≡ items ++ (term ∷ []) → terms_in items ≡ free_of v (terms_in seen)
    → is_positive (exponent_of v term.exponents.items) ≡ false → terms_in news ≡ free_of v (terms_in (seen ++ (term ∷ [])))
without_step v items news seen term e i h =
    ap terms_in e ∙ map-append term_in items (term ∷ []) ∙ rw i (sym (free_one v seen term (term_in term ∷ []) (rw h refl)))

-- which a term with v leaves
pub without_same : (v : ℕ) (items seen : List Work) (term : Work) → terms_in items ≡ free_of v (terms_in seen)
    → is_positive (exponent_of v term.exponents.items) ≡ true → terms_in items ≡ free_of v (terms_in (seen ++ (term ∷ [])))
without_same v items seen term i h = i ∙ sym (free_one v seen term [] (rw h refl) ∙ append-nil _)

-- ---- a polynomial's terms
-- one more variable
exponents-more : (a n k : ℕ) (ps : Pairs) → k ≡ a + n → exponents_from a (suc n) ps ≡ exponents_from a n ps ++ (exponent k ps ∷ [])
exponents-more a zero k ps e = let g : k ≡ a = omega (arith, e) in rw g refl
exponents-more a (suc n) k ps e = ap (λ m. exponent a ps ∷ m) (exponents-more (suc a) n k ps (omega (arith, e)))

-- the vector of one more variable
pub vector_step : (n k : ℕ) (ps : Pairs) → k ≡ suc n → vector k ps ≡ vector n ps ++ (exponent n ps ∷ [])
vector_step n k ps e = rw e (exponents-more 0 n n ps (omega arith))

-- as the code builds it
pub pushed : (n k : ℕ) (ps : Pairs) (m news : List ℕ) (e : ℕ) → m ≡ vector n ps → k ≡ suc n → e ≡ exponent n ps → news ≡ m ++ (e ∷ []) → news ≡ vector k ps
pushed n k ps m news e h q p s = s ∙ rw (h, p) (sym (vector_step n k ps q))
