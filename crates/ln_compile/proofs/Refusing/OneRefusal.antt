-- A source has one result.
use Rattle.std.proofs.Common.{◌≡◌, inl, inr, ℕ, ◌<◌, ◌≤◌, List, [], ◌∷◌, ◌++◌, length, suc, refl, ap, sym, subst, ◌∙◌, arith}
use Rattle.std.specs.List.{AllByRecursion}
use Rattle.ln_base.specs.declared.span.Span.{Span}
use Rattle.ln_algebra.specs.Tree.{Tree}
use Rattle.ln_tree.specs.Table.{PredOf, TableOf}
use Rattle.ln_bound.specs.Light.{AreLight, IsBoundFault, most}
use Rattle.ln_poly.specs.Expansion.{HasTooManyTerms, HaveFewTerms, IsTermsFault}
use Rattle.ln_parse.proofs.Settling.OneAnswer.{no_fault, one_fault, one_table}
use Rattle.ln_compile.specs.declared.refusal.Refusal.{Refusal}
use Rattle.ln_compile.specs.declared.refusal.Refusal.TheVariants.{Bound, Terms}
use Rattle.ln_compile.specs.Accepted.{Accepted, AreSound, IsSound, expanded_of, loaded_of}
use Rattle.ln_compile.specs.Refused.{IsFirstFault, IsPredFault, IsRefusal, IsRefusedFor, IsTheOne, IsUnaccepted}
use Rattle.ln_compile.specs.Refused.{bound, heavy, of_pred, of_text, refusal_of, stages, terms, zero}

-- ---- the first that isn't good
heads : {A : Type 0} (x y : A) (xs ys : List A) → x ∷ xs ≡ y ∷ ys → (x ≡ y) × (xs ≡ ys)
heads x y xs ys e = (cc, cc)

-- there is one
first_one : {A : Type 0} (Good : A → Type 0) (b c : List A) (x y : A) (r s : List A) → b ++ x ∷ r ≡ c ++ y ∷ s → AllByRecursion Good b
    → AllByRecursion Good c → (Good x → ⊥) → (Good y → ⊥) → (x ≡ y) × (length b ≡ length c)
first_one Good [] [] x y r s e g h p q = ((heads x y r s e).0, refl)
first_one Good [] (z ∷ c) x y r s e g h p q = absurd (p (subst Good (sym (heads x z r (c ++ y ∷ s) e).0) h.0))
first_one Good (z ∷ b) [] x y r s e g h p q = absurd (q (subst Good (heads z y (b ++ x ∷ r) s e).0 g.0))
first_one Good (z ∷ b) (u ∷ c) x y r s e g h p q =
    let t = first_one Good b c x y r s (heads z u (b ++ x ∷ r) (c ++ y ∷ s) e).1 g.1 h.1 p q in
    (t.0, ap suc t.1)

-- where all are good there is none
all_good : {A : Type 0} (Good : A → Type 0) (b : List A) (x : A) (r : List A) → AllByRecursion Good (b ++ x ∷ r) → Good x
all_good Good [] x r g = g.0
all_good Good (z ∷ b) x r g = all_good Good b x r g.1

-- ---- nodes and predicates
abbrev Light : Span × ℕ → Type 0
Light n = n.1 ≤ most

lights : (ns : List (Span × ℕ)) → AreLight ns → AllByRecursion Light ns
lights [] l = tt
lights (n ∷ ns) l = (l.0, lights ns l.1)

past : (w : ℕ) → most < w → w ≤ most → ⊥
past w h l = absurd (omega (arith, h, l))

bound_one : (ns : List (Span × ℕ)) (a b : Span) → IsBoundFault ns a → IsBoundFault ns b → a ≡ b
bound_one ns a b f g = ap (λ (n : Span × ℕ). n.0) (first_one Light f.before g.before (a, f.weight) (b, g.weight) f.after g.after
    (sym f.stands ∙ g.stands) (lights f.before f.light) (lights g.before g.light) (past f.weight f.heavy) (past g.weight g.heavy)).0

no_bound : (ns : List (Span × ℕ)) (a : Span) → AreLight ns → IsBoundFault ns a → ⊥
no_bound ns a l f =
    past f.weight f.heavy (all_good Light f.before (a, f.weight) f.after (lights (f.before ++ (a, f.weight) ∷ f.after) (subst AreLight f.stands l)))

abbrev Few : ℕ → Span × Tree → Type 0
Few n x = HasTooManyTerms n x.1 → ⊥

fews : (n : ℕ) (ns : List (Span × Tree)) → HaveFewTerms n ns → AllByRecursion (Few n) ns
fews n [] l = tt
fews n (x ∷ ns) l = (l.0, fews n ns l.1)

terms_one : (n : ℕ) (ns : List (Span × Tree)) (a b : Span) → IsTermsFault n ns a → IsTermsFault n ns b → a ≡ b
terms_one n ns a b f g = ap (λ (x : Span × Tree). x.0) (first_one (Few n) f.before g.before (a, f.node) (b, g.node) f.after g.after
    (sym f.stands ∙ g.stands) (fews n f.before f.few) (fews n g.before g.few) (λ h. h f.many) (λ h. h g.many)).0

no_terms : (n : ℕ) (ns : List (Span × Tree)) (a : Span) → HaveFewTerms n ns → IsTermsFault n ns a → ⊥
no_terms n ns a l f = all_good (Few n) f.before (a, f.node) f.after (fews n (f.before ++ (a, f.node) ∷ f.after) (subst (HaveFewTerms n) f.stands l)) f.many

-- a predicate has one fault, and none where it is sound
pred_one : (k : ℕ) (p : PredOf) (r s : Refusal) → IsPredFault k p r → IsPredFault k p s → r ≡ s
pred_one k p r s (bound {at} f) (bound {at = b} g) = ap (Bound k) (bound_one (loaded_of p) at b f g)
pred_one k p r s (bound {at} f) (terms {at = b} m g) = absurd (no_bound (loaded_of p) at m f)
pred_one k p r s (bound {at} f) (heavy m u j) = absurd (no_bound (loaded_of p) at m f)
pred_one k p r s (bound {at} f) (zero m u x y) = absurd (no_bound (loaded_of p) at m f)
pred_one k p r s (bound {at} f) (stages m u x y g) = absurd (no_bound (loaded_of p) at m f)
pred_one k p r s (terms {at} l f) (bound {at = b} g) = absurd (no_bound (loaded_of p) b l g)
pred_one k p r s (terms {at} l f) (terms {at = b} m g) = ap (Terms k) (terms_one (length p.vars) (expanded_of p) at b f g)
pred_one k p r s (terms {at} l f) (heavy m u j) = absurd (no_terms (length p.vars) (expanded_of p) at u f)
pred_one k p r s (terms {at} l f) (zero m u x y) = absurd (no_terms (length p.vars) (expanded_of p) at u f)
pred_one k p r s (terms {at} l f) (stages m u x y g) = absurd (no_terms (length p.vars) (expanded_of p) at u f)
pred_one k p r s (heavy l t h) (bound {at = b} g) = absurd (no_bound (loaded_of p) b l g)
pred_one k p r s (heavy l t h) (terms {at = b} m g) = absurd (no_terms (length p.vars) (expanded_of p) b t g)
pred_one k p r s (heavy l t h) (heavy m u j) = refl
pred_one k p r s (heavy l t h) (zero m u x y) = absurd (x h)
pred_one k p r s (heavy l t h) (stages m u x y g) = absurd (x h)
pred_one k p r s (zero l t w z) (bound {at = b} g) = absurd (no_bound (loaded_of p) b l g)
pred_one k p r s (zero l t w z) (terms {at = b} m g) = absurd (no_terms (length p.vars) (expanded_of p) b t g)
pred_one k p r s (zero l t w z) (heavy m u j) = absurd (w j)
pred_one k p r s (zero l t w z) (zero m u x y) = refl
pred_one k p r s (zero l t w z) (stages m u x y g) = absurd (y z)
pred_one k p r s (stages l t w z f) (bound {at = b} g) = absurd (no_bound (loaded_of p) b l g)
pred_one k p r s (stages l t w z f) (terms {at = b} m g) = absurd (no_terms (length p.vars) (expanded_of p) b t g)
pred_one k p r s (stages l t w z f) (heavy m u j) = absurd (w j)
pred_one k p r s (stages l t w z f) (zero m u x y) = absurd (z y)
pred_one k p r s (stages l t w z f) (stages m u x y g) = refl

no_pred : (k : ℕ) (p : PredOf) (r : Refusal) → IsPredFault k p r → IsSound p → ⊥
no_pred k p r (bound {at} f) s = no_bound (loaded_of p) at s.light f
no_pred k p r (terms {at} l f) s = no_terms (length p.vars) (expanded_of p) at s.few f
no_pred k p r (heavy l t h) s = s.whole h
no_pred k p r (zero l t w z) s = s.nonzero z
no_pred k p r (stages l t w z f) s = s.staged f

preds_one : (ps : List PredOf) (r s : Refusal) → IsFirstFault ps r → IsFirstFault ps s → r ≡ s
preds_one ps r s f g =
    let e = first_one IsSound f.before g.before f.pred g.pred f.after g.after (sym f.stands ∙ g.stands) f.sound g.sound
    (no_pred (length f.before) f.pred r f.fault) (no_pred (length g.before) g.pred s g.fault) in
    pred_one (length g.before) g.pred r s (subst (λ k. IsPredFault k g.pred r) e.1 (subst (λ p. IsPredFault (length f.before) p r) e.0 f.fault)) g.fault

no_preds : (ps : List PredOf) (r : Refusal) → AreSound ps → IsFirstFault ps r → ⊥
no_preds ps r s f =
    no_pred (length f.before) f.pred r f.fault (all_good IsSound f.before f.pred f.after (subst AreSound f.stands s))

-- ---- sources
-- a source is refused for one thing
pub refused_one : (bytes : List ℕ) (r s : Refusal) → IsRefusedFor bytes r → IsRefusedFor bytes s → r ≡ s
refused_one bytes r s (of_text {e} f) (of_text {e = g} h) = ap refusal_of (one_fault bytes f h)
refused_one bytes r s (of_text {e} f) (of_pred t {r = q} x g) = absurd (no_fault bytes t x f)
refused_one bytes r s (of_pred t {r = q} x f) (of_text {e} g) = absurd (no_fault bytes t x g)
refused_one bytes r s (of_pred t {r = q} x f) (of_pred u {r = o} y g) =
    preds_one u.preds q o (subst (λ (v : TableOf). IsFirstFault v.preds q) (one_table bytes t u x y) f) g

-- and not accepted
pub accepted_alone : (bytes : List ℕ) (t : TableOf) (r : Refusal) → Accepted bytes t → IsRefusedFor bytes r → ⊥
accepted_alone bytes t r a (of_text {e} f) = no_fault bytes t a.text f
accepted_alone bytes t r a (of_pred u {r = q} x f) =
    no_preds t.preds q a.sound (subst (λ (v : TableOf). IsFirstFault v.preds q) (one_table bytes u t x a.text) f)

-- an accepted source is refused only when out of memory
pub refusal_unaccepted : (bytes : List ℕ) (r : Refusal) → IsRefusal bytes r → IsUnaccepted bytes r
refusal_unaccepted bytes r (inl f) t a = absurd (accepted_alone bytes t r a f)
refusal_unaccepted bytes r (inr n) t a = n

-- the refusal of a source is the one thing that it is refused for, or out of memory
pub refusal_one : (bytes : List ℕ) (r : Refusal) → IsRefusal bytes r → IsTheOne bytes r
refusal_one bytes r (inl f) s g = inl (refused_one bytes r s f g)
refusal_one bytes r (inr n) s g = inr n
