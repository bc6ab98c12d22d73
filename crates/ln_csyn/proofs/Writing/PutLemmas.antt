-- Tokens appended one after the other.
use Rattle.std.proofs.Common.{◌≡◌, ℕ, Bool, true, false, List, [], ◌∷◌, ◌++◌, append_assoc, refl, sym, ap, ◌∙◌}
use Rattle.std.specs.Prelude.{◌==◌, if◌then◌else◌, codes}
use Rattle.std.proofs.lemmas.Bool.{eqb-true}
use Rattle.ln_csyn.specs.Tree.{Body, Group}
use Rattle.ln_csyn.specs.Grammar.{Token}
use Rattle.ln_csyn.specs.Spelling.{lexeme, spell_body, tokens_in, written, PutsTokens, Goes}

-- a token and a blank
pub puts_one : (old mid new text : List ℕ) → mid ≡ old ++ text → new ≡ mid ++ 32 ∷ [] → PutsTokens old new (λ r. lexeme text ∷ r)
puts_one old mid new text e f = record {
  is = λ r.
      ap (λ (z : List ℕ). z ++ written r) (f ∙ ap (λ (z : List ℕ). z ++ 32 ∷ []) e)
      ∙ append_assoc (old ++ text) (32 ∷ []) (written r) ∙ append_assoc old text (32 ∷ written r);
}

-- a text is written as its tokens are
tokens_written : (w t : List ℕ) (r : List Token) → written (tokens_in w t r) ≡ w ++ (t ++ 32 ∷ written r)
tokens_written w [] r = refl
tokens_written w (c ∷ cs) r = by_case (c == 32) refl (tokens_written [] cs r) (tokens_written (w ++ c ∷ []) cs r) where
  by_case : (b : Bool) → c == 32 ≡ b → written (tokens_in [] cs r) ≡ cs ++ 32 ∷ written r
      → written (tokens_in (w ++ c ∷ []) cs r) ≡ (w ++ c ∷ []) ++ (cs ++ 32 ∷ written r)
      → written (if b then lexeme w ∷ tokens_in [] cs r else tokens_in (w ++ c ∷ []) cs r) ≡ w ++ (c ∷ (cs ++ 32 ∷ written r))
  by_case true e p q = let s : 32 ≡ c = sym (eqb-true c 32 e) in ap (λ z. w ++ 32 ∷ z) p ∙ ap (λ z. w ++ z ∷ (cs ++ 32 ∷ written r)) s
  by_case false e p q = q ∙ append_assoc w (c ∷ []) (cs ++ 32 ∷ written r)

-- a text that was appended as one token is its tokens, which are parted by blanks
pub tokens_put : {a b : List ℕ} (t : List ℕ) → PutsTokens a b (λ r. lexeme t ∷ r) → PutsTokens a b (tokens_in [] t)
tokens_put {a} t p = record { is = λ r. p.is r ∙ ap (λ z. a ++ z) (sym (tokens_written [] t r)) }

-- statements in braces
pub goes_group : {a b : List ℕ} (l : ℕ) (d : Body) → PutsTokens a b (λ r. lexeme (codes "{") ∷ spell_body d (lexeme (codes "}") ∷ r)) → (c : Body)
    → Goes a b (spell_body c) (spell_body (Group l d c))
goes_group l d p c = record { is = λ r. p.is (spell_body c r) }
