-- Proves that what the printer appends is the text of the lexemes of names, numbers, operators, elements and lets.
use Rattle.std.proofs.Common.{drop, map, length, get_or, ◌<◌, ◌+◌, ◌≡◌, ℕ, Bool, true, false, List, [], ◌∷◌, ◌++◌, refl, ap, sym}
use Rattle.std.proofs.Common.{◌∙◌, append_assoc, subst, decimal, Some, None, ◌⊎◌, inl, inr, arith}
use Rattle.std.specs.Prelude.{◌==◌, if◌then◌else◌, slice_get, option_map}
use Rattle.std.proofs.lemmas.Bool.{eqb-true}
use Rattle.std.proofs.lemmas.Option.{slice_get-map}
use Rattle.ln_base.specs.Lines.{Appends, Leaves}
use Rattle.ln_base.proofs.Texts.Putting.{puts_then}
use Rattle.ln_base.specs.declared.span.Span.{Span}
use Rattle.ln_tree.specs.declared.expr.Expr.{Expr}
use Rattle.ln_tree.specs.declared.expr.Node.{Node}
use Rattle.ln_tree.specs.declared.name.Name.{Name}
use Rattle.ln_tree.specs.Names.{name_bytes}
use Rattle.ln_parse.specs.Written.{Formula, FAdd, FSub, FMul, formula, node_formula, Written, Naming, written}
use Rattle.ln_parse.proofs.Building.Lists.{drop_item}
use Rattle.ln_parse.specs.declared.printer.Room.{Room}
use Rattle.ln_parse.specs.Canonical.{Lexeme, gap, line, text_of, token, lexemes_in, each, name, number, opening, closing, fits, wrap, inside, between}
use Rattle.ln_parse.specs.Canonical.{left_room, right_room, lets}

-- a token is written as its text
token_text : (w : List ℕ) (rest : List Lexeme) → text_of (token w rest) ≡ w ++ text_of rest
token_text [] rest = refl
token_text (b ∷ bs) rest = refl

-- a text is written as its lexemes are
lexemes_text : (w t : List ℕ) (rest : List Lexeme) → text_of (lexemes_in w t rest) ≡ w ++ (t ++ text_of rest)
lexemes_text w [] rest = token_text w rest
lexemes_text w (c ∷ cs) rest =
    by_case (c == 32) (c == 10) (eqb-true c 32) (eqb-true c 10) (lexemes_text [] cs rest) (lexemes_text (w ++ c ∷ []) cs rest)
  where
    by_case : (u v : Bool) → (u ≡ true → c ≡ 32) → (v ≡ true → c ≡ 10) → text_of (lexemes_in [] cs rest) ≡ cs ++ text_of rest
        → text_of (lexemes_in (w ++ c ∷ []) cs rest) ≡ (w ++ c ∷ []) ++ (cs ++ text_of rest)
        → text_of (if u then token w (gap ∷ lexemes_in [] cs rest) else if v then token w (line ∷ lexemes_in [] cs rest)
        else lexemes_in (w ++ c ∷ []) cs rest) ≡ w ++ (c ∷ (cs ++ text_of rest))
    by_case true v e f p q = token_text w (gap ∷ lexemes_in [] cs rest) ∙ (λ i. w ++ (sym (e refl) i ∷ p i))
    by_case false true e f p q = token_text w (line ∷ lexemes_in [] cs rest) ∙ (λ i. w ++ (sym (f refl) i ∷ p i))
    by_case false false e f p q = q ∙ append_assoc w (c ∷ []) (cs ++ text_of rest)

-- a text is appended as its lexemes
pub tokens_put : {a b : List ℕ} (t : List ℕ) → b ≡ a ++ t → Appends text_of a b (lexemes_in [] t)
tokens_put {a = a} t e = record {
  is = λ rest. ap (λ z. z ++ text_of rest) e ∙ append_assoc a t (text_of rest) ∙ ap (λ z. a ++ z) (sym (lexemes_text [] t rest));
}

-- a name is appended
pub puts_name : {a b u : List ℕ} (t : List ℕ) → u ≡ t → b ≡ a ++ u → Appends text_of a b (name t)
puts_name {a = a} t q e = record { is = λ rest. ap (λ z. z ++ text_of rest) (e ∙ ap (λ z. a ++ z) q) ∙ append_assoc a t (text_of rest) }

-- a number is appended
pub puts_number : {a b : List ℕ} {k : ℕ} (n : ℕ) → k ≡ n → b ≡ a ++ decimal k → Appends text_of a b (number n)
puts_number {a = a} n q e = record {
  is = λ rest. ap (λ z. z ++ text_of rest) (e ∙ ap (λ m. a ++ decimal m) q) ∙ append_assoc a (decimal n) (text_of rest);
}

-- an expression is appended, in parentheses unless it needs none
pub wraps : {a b c d : List ℕ} (r : Room) (e : Written) (v : Bool) → v ≡ fits r e → Appends text_of a b (opening v) → Appends text_of b c (inside e)
    → Appends text_of c d (closing v) → Appends text_of a d (wrap r e (inside e))
wraps r e true q o p s = record { is = λ rest. rw (← q) ((puts_then o (puts_then p s)).is rest) }
wraps r e false q o p s = record { is = λ rest. rw (← q) ((puts_then o (puts_then p s)).is rest) }

-- the same of an equal expression
pub puts_equal : {a b : List ℕ} (r : Room) (e f : Written) → f ≡ e → Appends text_of a b (wrap r f (inside f)) → Appends text_of a b (wrap r e (inside e))
puts_equal {a = a} {b = b} r e f q p = subst (λ (x : Written). Appends text_of a b (wrap r x (inside x))) q p

-- a sum, difference or product is appended, as its left operand, its sign and its right operand
pub two_put : {a b c d : List ℕ} (n : Naming) (at : Span) (m x y z : Node) (f g : Formula) → (m ≡ x) ⊎ ((m ≡ y) ⊎ (m ≡ z))
    → node_formula at x ≡ FAdd at f g → node_formula at y ≡ FSub at f g → node_formula at z ≡ FMul at f g
    → Appends text_of a b (wrap (left_room (node_formula at m)) (written n f) (inside (written n f)))
    → Appends text_of b c (between (node_formula at m))
    → Appends text_of c d (wrap (right_room (node_formula at m)) (written n g) (inside (written n g)))
    → Appends text_of a d (inside (written n (node_formula at m)))
two_put n at m x y z f g (inl e) h i j p q r = rw (e, h) (puts_then (rw (e, h) at p) (puts_then (rw (e, h) at q) (rw (e, h) at r)))
two_put n at m x y z f g (inr (inl e)) h i j p q r = rw (e, i) (puts_then (rw (e, i) at p) (puts_then (rw (e, i) at q) (rw (e, i) at r)))
two_put n at m x y z f g (inr (inr e)) h i j p q r = rw (e, j) (puts_then (rw (e, j) at p) (puts_then (rw (e, j) at q) (rw (e, j) at r)))

-- an element that was found at a place, seen through f
pub found : {A B : Type 0} (f : A → B) (xs : List A) (i k : ℕ) {x : A} → k ≡ i → Some x ≡ slice_get xs k → slice_get (map f xs) i ≡ Some (f x)
found f xs i k q e = slice_get-map f xs i ∙ ap (λ o. option_map f o) (sym (e ∙ ap (λ (j : ℕ). slice_get xs j) q))

-- no element was found at a place
pub missing : {A B : Type 0} (f : A → B) (xs : List A) (i k : ℕ) → k ≡ i → None ≡ slice_get xs k → slice_get (map f xs) i ≡ None
missing f xs i k q e = slice_get-map f xs i ∙ ap (λ o. option_map f o) (sym (e ∙ ap (λ (j : ℕ). slice_get xs j) q))

-- one more element is appended
pub each_more : {A B : Type 0} {a b c : List ℕ} (f : B → List Lexeme → List Lexeme) (g : A → B) (xs : List A) (i : ℕ) (x : A)
    → Leaves text_of a b (each f (map g (drop i xs))) (each f (map g xs)) → i < length xs → x ≡ get_or xs i x → Appends text_of b c (f (g x))
    → Leaves text_of a c (each f (map g (drop (i + 1) xs))) (each f (map g xs))
each_more f g xs i x h l q p = record {
  is = λ rest.
      let e : drop i xs ≡ x ∷ drop (i + 1) xs = drop_item xs i x (record { below = l; is = q }) in
      p.is (each f (map g (drop (i + 1) xs)) rest) ∙ simp e at (h.is rest);
}

-- where a name or an expression is missing, all lets are appended
pub lets_end : {a b : List ℕ} {f : List Lexeme → List Lexeme} (n : Naming) (us : List Name) (es : List Expr) → (length us ≡ 0) ⊎ (length es ≡ 0)
    → Leaves text_of a b (lets n (map name_bytes us) (map formula es)) f → Appends text_of a b f
lets_end n [] es h l = record { is = λ rest. l.is rest }
lets_end n (u ∷ us) [] h l = record { is = λ rest. l.is rest }
lets_end n (u ∷ us) (e ∷ es) (inl q) l = absurd (omega arith)
lets_end n (u ∷ us) (e ∷ es) (inr q) l = absurd (omega arith)
