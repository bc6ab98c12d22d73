-- What is ready stands for what is given: its one number, its one file or two.
use Rattle.std.proofs.Common.{◌≡◌, ℕ, ◌≤◌, List, [], ◌∷◌, length, map, ap, sym, subst, arith, get_or}
use Rattle.std.proofs.lemmas.List.Elements.{All-head, All-tail}
use Rattle.ln_base.specs.Limits.{most_file}
use Rattle.ln_top.specs.Frame.Ready.{IsFit, AreShort}
use Rattle.ln_top.specs.Frame.Signature.{Form}

-- one further file
pub one_text : {A : Type 0} (f : A → List ℕ) (xs : List A) (x : A) → length xs ≡ 1 → x ≡ get_or xs 0 x
    → map f xs ≡ f x ∷ []
one_text f [] x l e = absurd (omega (arith, l))
one_text f (y ∷ []) x l e = ap (λ z. f z ∷ []) (sym e)
one_text f (y ∷ z ∷ rest) x l e = absurd (omega (arith, l))

-- two of them
pub two_texts : {A : Type 0} (f : A → List ℕ) (xs : List A) (x y : A) → length xs ≡ 2 → x ≡ get_or xs 0 x → y ≡ get_or xs 1 y
    → map f xs ≡ f x ∷ f y ∷ []
two_texts f [] x y l e g = absurd (omega (arith, l))
two_texts f (z ∷ []) x y l e g = absurd (omega (arith, l))
two_texts f (z ∷ w ∷ []) x y l e g = cc
two_texts f (z ∷ w ∷ v ∷ rest) x y l e g = absurd (omega (arith, l))

-- a command that takes exactly one name has one
pub one_name : (f : Form) (numbers texts : ℕ) → IsFit f numbers texts → f.least ≡ 1 → f.most ≡ 1 → numbers ≡ 1
one_name f n t h l m = omega (arith, h.least, h.most)

-- the one further file
pub one_short : (texts : List (List ℕ)) (bytes : List ℕ) → texts ≡ bytes ∷ [] → AreShort texts → length bytes ≤ most_file
one_short texts bytes e h = All-head (λ t. length t ≤ most_file) bytes [] (subst AreShort e h)

-- the second of two
pub second_short : (texts : List (List ℕ)) (first second : List ℕ) → texts ≡ first ∷ second ∷ [] → AreShort texts → length second ≤ most_file
second_short texts first second e h =
    let both = subst AreShort e h in
    All-head (λ t. length t ≤ most_file) second [] (All-tail (λ t. length t ≤ most_file) first (second ∷ []) both)
