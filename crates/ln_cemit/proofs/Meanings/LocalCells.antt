-- The locals in an array.
use Rattle.std.proofs.Common.{◌≡◌, ℕ, zero, suc, ◌<◌, ◌==◌, Bool, true, false, List, [], ◌∷◌, ◌++◌, length, reverse, refl, sym, ap, ◌∙◌, subst, arith}
use Rattle.std.specs.Prelude.{Option, Some, if◌then◌else◌, slice_set}
use Rattle.std.proofs.Math.Path.{fun_ext}
use Rattle.std.proofs.lemmas.Bool.Decides.{nat_tests}
use Rattle.std.proofs.lemmas.List.{reverse-append}
use Rattle.ln_code.specs.Numbers.{with_local}
use Rattle.ln_csyn.specs.Tree.{Body}
use Rattle.ln_csyn.specs.Spelling.{PutsTokens, Goes, spell_body}
use Rattle.ln_cemit.specs.declared.slot.Slot.{Slot}
use Rattle.ln_cemit.specs.Emit.{Rest, slot, operand, put_set}
use Rattle.ln_cemit.specs.Names.{decl_name}
use Rattle.ln_cemit.specs.Puts.{decl_before, locals_of, Stores}

one_local : (os : List (Option Slot)) (j i : ℕ) (s : Slot) → j < length os → locals_of (slice_set os j (Some s)) i ≡ with_local (locals_of os) j s i
one_local [] j i s h = absurd (omega arith)
one_local (o ∷ os) zero zero s h = refl
one_local (o ∷ os) zero (suc i) s h = let f : (suc i == 0) ≡ false = grind (arith, nat_tests) in rw f refl
one_local (o ∷ os) (suc j) zero s h = let f : (0 == suc j) ≡ false = grind (arith, nat_tests) in rw f refl
one_local (o ∷ os) (suc j) (suc i) s h =
    one_local os j i s (omega (arith, h)) ∙ ap (λ (b : Bool). if b then Some s else locals_of os i) (same i j (i == j) refl)
  where
    same : (i j : ℕ) (b : Bool) → (i == j) ≡ b → (i == j) ≡ (suc i == suc j)
    same i j true e = grind (arith, nat_tests)
    same i j false e = grind (arith, nat_tests)

-- a cell that is set in the array is a local that is set
pub locals_set : (os : List (Option Slot)) (j : ℕ) (s : Slot) → j < length os → locals_of (slice_set os j (Some s)) ≡ with_local (locals_of os) j s
locals_set os j s h = fun_ext (λ i. one_local os j i s h)

-- a declaration, and the local that it is
pub stored : {a b : List ℕ} (n j : ℕ) (s : Slot) (old rest : List Slot) (os : List (Option Slot)) → old ≡ rest ++ s ∷ [] → j < length os
    → PutsTokens a b (decl_before n s.width (operand decl_name s.width s))
    → Stores a b rest (slice_set os j (Some (slot n s.width))) (λ go. put_set decl_name j n (reverse old) (locals_of os) go)
stored {a} {b} n j s old rest os e h p =
    let f : reverse old ≡ s ∷ reverse rest = ap reverse e ∙ reverse-append rest (s ∷ []) in
    let body : Rest → Body = λ go. put_set decl_name j n (s ∷ reverse rest) (locals_of os) go in
    rw f (record {
      goes =
          λ go. subst (λ (ms : ℕ → Option Slot). Goes a b (spell_body (go (reverse rest) ms)) (spell_body (body go))) (sym (locals_set os j (slot n s.width) h))
          (record { is = λ r. p.is (spell_body (go (reverse rest) (with_local (locals_of os) j (slot n s.width))) r) });
    })
