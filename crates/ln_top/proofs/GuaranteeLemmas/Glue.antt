-- What a source declares, its tokens spell as items that mean the same.
use Rattle.std.proofs.Common.{◌≡◌, ℕ, suc, arith, ◌+◌, length, Option, Some, refl, ap, sym, ◌∙◌, subst}
use Rattle.std.proofs.Common.{length-append, append_assoc}
use Rattle.std.specs.Prelude.{List, [], ◌∷◌, ◌++◌, option_map, slice_get}
use Rattle.ln_lex.specs.declared.token.Token.{Token}
use Rattle.ln_lex.specs.Tokens.{Lexed, Stand, kind_of}
use Rattle.ln_syntax.specs.Raw.{Item, kind_at, span_at, span_or, text}
use Rattle.ln_syntax.specs.File.{Spelt}
use Rattle.ln_top.specs.Guarantee.{SourceDeclares, Predicate, Word}
use Rattle.ln_top.proofs.GuaranteeLemmas.Expr.{Placed, none, word}
use Rattle.ln_top.proofs.GuaranteeLemmas.Items.{ItemsMean, read_items}
use Rattle.ln_top.proofs.GuaranteeLemmas.Lex.{Texts, lexed}

-- what is after a list
pub get_at : {A : Type 0} (done rest : List A) (x : A) → slice_get (done ++ x ∷ rest) (length done) ≡ Some x
get_at [] rest x = refl
get_at (y ∷ ys) rest x = get_at ys rest x

-- tokens after others, with the texts of these words, are placed
placed_behind : (bytes : List ℕ) (done rest : List Token) (ws : List Word) (at to : ℕ) → Stand bytes at rest to → Texts bytes rest ws
    → Placed bytes (done ++ rest) (length done) ws (length done + length rest)
placed_behind bytes done [] [] at to s t = subst (λ (n : ℕ). Placed bytes (done ++ []) (length done) [] n) (omega arith) none
placed_behind bytes done [] (w ∷ ws) at to s t = absurd t
placed_behind bytes done (x ∷ rest) [] at to s t = absurd t
placed_behind bytes done (x ∷ rest) (w ∷ ws) at to s t =
    let here = get_at done rest x in
    let first = s.3 in
    let kind_is : kind_at (done ++ x ∷ rest) (length done) ≡ kind_of w = ap (option_map (λ (y : Token). y.kind)) here
    ∙ sym (ap kind_of (sym t.0) ∙ first.spelt) in
    let text_is : text bytes (span_at (done ++ x ∷ rest) (length done)) ≡ w = ap (λ (o : Option Token). text bytes (span_or o)) here ∙ t.0 in
    let r = placed_behind bytes (done ++ x ∷ []) rest ws x.span.end to s.4 t.1 in
    let moved : Placed bytes (done ++ x ∷ rest) (suc (length done)) ws (length done + suc (length rest)) =
    subst (λ (n : ℕ). Placed bytes (done ++ x ∷ rest) (suc (length done)) ws n) (omega (arith, length-append done (x ∷ [])))
    (subst (λ (n : ℕ). Placed bytes (done ++ x ∷ rest) n ws (length (done ++ x ∷ []) + length rest))
    (omega (arith, length-append done (x ∷ [])))
    (subst (λ (ys : List Token). Placed bytes ys (length (done ++ x ∷ [])) ws (length (done ++ x ∷ []) + length rest))
    (append_assoc done (x ∷ []) rest) r)) in
    word kind_is text_is moved

-- tokens and items that mean the predicates
pub record Declared (source : List ℕ) (ps : List Predicate) : Type 0 where
  pub tokens : List Token
  pub lexed : Lexed source tokens
  pub items : List Item
  pub spelt : Spelt tokens items
  pub means : ItemsMean source tokens [] [] items ps

-- the source's tokens and items
pub declared : (source : List ℕ) (ps : List Predicate) → SourceDeclares source ps → Declared source ps
declared source ps d =
    let l = lexed source d.words d.are in
    let p : Placed source l.0 0 d.words (length l.0) =
    subst (λ (n : ℕ). Placed source l.0 0 d.words n) (omega arith) (placed_behind source [] l.0 d.words 0 l.1.to l.1.tokens l.2) in
    let r = read_items source l.0 d.items (λ t c. absurd (omega (arith, c.1))) (λ q c. absurd (omega (arith, c.1))) p in
    record { tokens = l.0; lexed = l.1; items = r.raw; spelt = r.items; means = r.means }
