-- Words appended to a text.
use Rattle.std.proofs.Common.{◌≡◌, ℕ, ℤ, List, [], ◌∷◌, ◌++◌, sym, ap, ◌∙◌, append_assoc, append-nil, subst}
use Rattle.std.specs.Prelude.{decimal, IfOk, Result}
use Rattle.std.specs.Fmt.{signed_decimal}
use Rattle.ln_base.specs.Exponents.{exponent_word}
use Rattle.std.proofs.lemmas.Result.{IfOk-weaker}
use Rattle.ln_base.specs.Lines.{Appends, Leaves, Puts, parted, spaced}

-- the words of a line, the first without a space before it
pub parted_spaced : (w : List ℕ) (ws : List (List ℕ)) → parted (w ∷ ws) ≡ w ++ spaced ws
parted_spaced w [] = sym (append-nil w)
parted_spaced w (x ∷ ws) = ap (λ z. w ++ 32 ∷ z) (parted_spaced x ws)

-- the first word, the words after it, and a line feed
pub line_is : (old a b new : List ℕ) (w : List ℕ) (f : List (List ℕ) → List (List ℕ)) → a ≡ old ++ w → Puts a b f → new ≡ b ++ (10 ∷ [])
    → new ≡ old ++ (parted (w ∷ f []) ++ (10 ∷ []))
line_is old a b new w f e p n =
    let s : b ≡ a ++ spaced (f []) = sym (append-nil b) ∙ p.is [] in
    n ∙ ap (λ z. z ++ (10 ∷ [])) (s ∙ ap (λ z. z ++ spaced (f [])) e ∙ append_assoc old w (spaced (f [])))
    ∙ append_assoc old (w ++ spaced (f [])) (10 ∷ [])
    ∙ ap (λ z. old ++ (z ++ (10 ∷ []))) (sym (parted_spaced w (f [])))

-- what is appended after other things is appended to these
pub puts_then : {A : Type 0} {text : List A → List ℕ} {a b c : List ℕ} {f g : List A → List A} → Appends text a b f → Appends text b c g
    → Appends text a c (λ r. f (g r))
puts_then {g = g} p q = record { is = λ r. q.is r ∙ p.is (g r) }

-- the same, where the last call is handed on
pub puts_last : {A X Y : Type 0} {text : List A → List ℕ} {a b : List ℕ} {f : List A → List A} (r : Result X Y) (c : List ℕ) (g : List A → List A)
    → Appends text a b f → IfOk r (λ _. Appends text b c g) → IfOk r (λ _. Appends text a c (λ t. f (g t)))
puts_last {text = text} {a = a} {b = b} {f = f} r c g p h =
    IfOk-weaker r (λ _. Appends text b c g) (λ _. Appends text a c (λ t. f (g t))) (λ _ q. puts_then p q) h

-- what remains to be appended after two steps
pub leaves_then : {A : Type 0} {text : List A → List ℕ} {a b c : List ℕ} {f g h : List A → List A} → Leaves text a b g h → Leaves text b c f g
    → Leaves text a c f h
leaves_then p q = record { is = λ r. q.is r ∙ p.is r }

-- digits with a hat between them
pub exponent_is : (old a b new : List ℕ) (v e x y : ℕ) → Puts old a (λ r. decimal x ∷ r) → x ≡ v → b ≡ a ++ (94 ∷ []) → new ≡ b ++ decimal y
    → y ≡ e → Puts old new (λ r. exponent_word (v, e) ∷ r)
exponent_is old a b new v e x y p q f g h =
    let s : a ≡ old ++ (32 ∷ decimal v) = sym (append-nil a) ∙ p.is [] ∙ ap (λ z. old ++ 32 ∷ z) (append-nil (decimal x) ∙ ap decimal q) in
    let t : new ≡ old ++ ((32 ∷ decimal v) ++ (94 ∷ decimal e)) = g ∙ (λ i. f i ++ decimal (h i)) ∙ append_assoc a (94 ∷ []) (decimal e)
    ∙ ap (λ z. z ++ (94 ∷ decimal e)) s ∙ append_assoc old (32 ∷ decimal v) (94 ∷ decimal e) in
    record { is = λ r. ap (λ z. z ++ spaced r) t ∙ append_assoc old ((32 ∷ decimal v) ++ (94 ∷ decimal e)) (spaced r) }

-- appending the text of a number that equals n appends the text of n
pub number_put : (old new : List ℕ) (x n : ℕ) → Puts old new (λ r. decimal x ∷ r) → x ≡ n → Puts old new (λ r. decimal n ∷ r)
number_put old new x n p e = subst (λ z. Puts old new (λ r. decimal z ∷ r)) e p

-- appending the text of a signed number that equals z appends the text of z
pub signed_put : (old new : List ℕ) (x z : ℤ) → Puts old new (λ r. signed_decimal x ∷ r) → x ≡ z → Puts old new (λ r. signed_decimal z ∷ r)
signed_put old new x z p e = subst (λ y. Puts old new (λ r. signed_decimal y ∷ r)) e p

-- a line of a first word, some words and some more
pub line_two : (old a b c new : List ℕ) (t w : List ℕ) (ns cs : List (List ℕ)) → a ≡ old ++ t → t ≡ w → Puts a b (λ r. ns ++ r)
    → Puts b c (λ r. cs ++ r) → new ≡ c ++ (10 ∷ []) → new ≡ old ++ (parted (w ∷ (ns ++ cs)) ++ (10 ∷ []))
line_two old a b c new t w ns cs e f p q n =
    line_is old a c new w (λ r. ns ++ (cs ++ r)) (e ∙ ap (λ z. old ++ z) f) (puts_then p q) n
    ∙ ap (λ z. old ++ (parted (w ∷ (ns ++ z)) ++ (10 ∷ []))) (append-nil cs)
