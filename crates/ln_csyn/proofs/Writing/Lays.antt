-- Functions are laid out one after the other.
use Rattle.std.proofs.Common.{◌≡◌, ℕ, zero, suc, ◌-◌, List, [], ◌∷◌, ◌++◌, refl, sym, ap, ◌∙◌, arith, append_assoc, append-nil}
use Rattle.ln_csyn.specs.Tree.{Fun}
use Rattle.ln_csyn.specs.Text.{first_line}
use Rattle.ln_csyn.specs.Spelling.{PutsTokens, spell_fun}
use Rattle.ln_csyn.specs.Layout.{Lays, indent, laid_at, laid_funs, laid_text, start}

-- two blanks, and the rest of an indentation
pub indent_more : (old mid new text : List ℕ) (d : ℕ) → (d ≡ 0 → ⊥) → mid ≡ old ++ text → text ≡ 32 ∷ 32 ∷ []
    → ((r : List ℕ) → new ++ r ≡ mid ++ indent (d - 1) r) → (r : List ℕ) → new ++ r ≡ old ++ indent d r
indent_more old mid new text zero h e f g r = absurd (h refl)
indent_more old mid new text (suc n) h e f g r =
    let q : suc n - 1 ≡ n = omega arith in
    g r ∙ ap (λ (z : ℕ). mid ++ indent z r) q ∙ ap (λ (z : List ℕ). z ++ indent n r) (e ∙ ap (λ (z : List ℕ). old ++ z) f)
    ∙ append_assoc old (32 ∷ 32 ∷ []) (indent n r)

-- the tokens of a function, a line feed after them, are laid out
pub fun_laid : (old new tokens text : List ℕ) → text ≡ tokens ++ 10 ∷ [] → ((r : List ℕ) → new ++ r ≡ old ++ laid_at start text r)
    → (f : Fun) → PutsTokens [] tokens (spell_fun f) → Lays old new (f ∷ [])
fun_laid old new tokens text e h f p = record { is = λ r. h r ∙ ap (λ z. old ++ laid_at start z r) (e ∙ p.is []) }

-- no function
pub lays_none : (old : List ℕ) → Lays old old []
lays_none old = record { is = λ r. refl }

-- appended functions are laid out as the first and then the others
pub laid_more : (fs gs : List Fun) (r : List ℕ) → laid_funs (fs ++ gs) r ≡ laid_funs fs (laid_funs gs r)
laid_more [] gs r = refl
laid_more (f ∷ fs) gs r = ap (laid_funs (f ∷ [])) (laid_more fs gs r)

-- functions after functions
pub lays_then : {a b c : List ℕ} {fs gs : List Fun} → Lays a b fs → Lays b c gs → Lays a c (fs ++ gs)
lays_then {a} {fs = fs} {gs = gs} p q = record { is = λ r. q.is r ∙ p.is (laid_funs gs r) ∙ ap (λ z. a ++ z) (sym (laid_more fs gs r)) }

-- what is written, followed by the functions that remain, is constant
pub record LaysRest (old now : List ℕ) (fs all : List Fun) : Type 0 where
  pub is : (r : List ℕ) → now ++ laid_funs fs r ≡ old ++ laid_funs all r

-- one function more
pub one_laid : {old now new : List ℕ} {f : Fun} {fs all : List Fun} → LaysRest old now (f ∷ fs) all → Lays now new (f ∷ []) → LaysRest old new fs all
one_laid {fs = fs} h p = record { is = λ r. p.is (laid_funs fs r) ∙ h.is r }

-- none remains
pub all_laid : {old now : List ℕ} {all : List Fun} → LaysRest old now [] all → Lays old now all
all_laid h = record { is = h.is }

-- a whole text: the first line, and the functions
pub whole_laid : (empty line old new : List ℕ) (fs : List Fun) → empty ≡ [] → line ≡ first_line → old ≡ empty ++ line → Lays old new fs → new ≡ laid_text fs
whole_laid empty line old new fs e f g p = sym (append-nil new) ∙ p.is [] ∙ ap (λ z. z ++ laid_funs fs []) (g ∙ ap (λ z. z ++ line) e ∙ f)
