-- Loops that gather a list, the loop over comparisons, and the function of a filter.
use Rattle.std.proofs.Common.{◌≡◌, ℕ, ◌+◌, ◌<◌, ◌≤◌, List, [], ◌∷◌, ◌++◌, length, get_or, drop, map, sym, ap, ◌∙◌, append_assoc}
use Rattle.std.proofs.Common.{append-nil, subst}
use Rattle.std.specs.Prelude.{Option, Some, None, codes, eqb, not}
use Rattle.std.proofs.lemmas.List.{drop_all, drop_more}
use Rattle.std.proofs.lemmas.List.Elements.{filter-append}
use Rattle.ln_code.specs.Part.{FilterCode}
use Rattle.ln_csyn.specs.Layout.{Lays}
use Rattle.ln_csyn.specs.Spelling.{Goes, PutsTokens, lexeme, spell, spell_body, written}
use Rattle.ln_csyn.specs.Tree.{Body, Group}
use Rattle.ln_csyn.proofs.Writing.Lays.{lays_none}
use Rattle.ln_cemit.specs.File.{one_fun}
use Rattle.ln_cemit.specs.Names.{answer_name, filter_name}
use Rattle.ln_cemit.specs.Puts.{filter_funs, filter_tried, open_guards}
use Rattle.ln_cemit.specs.Walked.{attempt, less, without}
use Rattle.ln_cemit.specs.Whole.{filter_body}

-- one more was made of an element
pub collects : {A C : Type 0} (f : A → C) (done next all : List C) (xs : List A) (i : ℕ) (x : A) (y : C) → i < length xs
    → y ≡ f (get_or xs i x) → next ≡ done ++ y ∷ []
    → done ++ map f (drop i xs) ≡ all → next ++ map f (drop (i + 1) xs) ≡ all
collects f done next all xs i x y h e n g =
    ap (λ z. z ++ map f (drop (i + 1) xs)) n ∙ append_assoc done (y ∷ []) (map f (drop (i + 1) xs)) ∙ ap (λ z. done ++ z ∷ map f (drop (i + 1) xs)) e
    ∙ ap (λ z. done ++ map f z) (sym (drop_more xs i x h)) ∙ g

-- at the end something was made of each element
pub collected : {A C : Type 0} (f : A → C) (done all : List C) (xs : List A) (i : ℕ) → length xs ≤ i → done ++ map f (drop i xs) ≡ all → done ≡ all
collected f done all xs i h g = sym (append-nil done) ∙ ap (λ z. done ++ map f z) (sym (drop_all i xs h)) ∙ g

-- one more was kept, unless it is the one to be omitted
pub keeps : (x : ℕ) (done next all xs : List ℕ) (i d : ℕ) → i < length xs → next ≡ done ++ without x (get_or xs i d ∷ [])
    → done ++ without x (drop i xs) ≡ all → next ++ without x (drop (i + 1) xs) ≡ all
keeps x done next all xs i d h n g =
    ap (λ z. z ++ without x (drop (i + 1) xs)) n ∙ append_assoc done (without x (get_or xs i d ∷ [])) (without x (drop (i + 1) xs))
    ∙ ap (λ z. done ++ z) (sym (filter-append (λ j. not (eqb j x)) (get_or xs i d ∷ []) (drop (i + 1) xs)))
    ∙ ap (λ z. done ++ without x z) (sym (drop_more xs i d h)) ∙ g

-- at the end all were kept but the one to be omitted
pub kept_all : (x : ℕ) (done all xs : List ℕ) (i : ℕ) → length xs ≤ i → done ++ without x (drop i xs) ≡ all → done ≡ all
kept_all x done all xs i h g = sym (append-nil done) ∙ ap (λ z. done ++ without x z) (sym (drop_all i xs h)) ∙ g

-- one comparison more was appended
pub guards_more : {start now new : List ℕ} (i : ℕ) (js : List ℕ) (k d : ℕ) → k < length js → Goes start now (open_guards i (drop k js)) (open_guards i js)
    → PutsTokens now new (λ r. lexeme (codes "if") ∷ lexeme (codes "(") ∷ spell (less i (get_or js k d)) (lexeme (codes ")") ∷ lexeme (codes "{") ∷ r))
    → Goes start new (open_guards i (drop (k + 1) js)) (open_guards i js)
guards_more {start} {now} {new} i js k d h g p = record {
  is = λ r. p.is (open_guards i (drop (k + 1) js) r) ∙ ap (λ z. now ++ written (open_guards i z r)) (sym (drop_more js k d h)) ∙ g.is r;
}

-- at the end all comparisons were appended
pub guards_all : {start now : List ℕ} (i : ℕ) (js : List ℕ) (k : ℕ) → length js ≤ k
    → Goes start now (open_guards i (drop k js)) (open_guards i js) → PutsTokens start now (open_guards i js)
guards_all {start} {now} i js k h g = record { is = λ r. ap (λ z. now ++ written (open_guards i z r)) (sym (drop_all k js h)) ∙ g.is r }

-- ---- the function of a filter, if there is one
-- where there is a filter, its function was laid out
pub filter_some : {a b : List ℕ} (name x : List ℕ) (o : Option FilterCode) (f : FilterCode) → name ≡ x → o ≡ Some f
    → Lays a b (one_fun (filter_name name) (filter_body f) ∷ []) → Lays a b (filter_funs x o)
filter_some {a} {b} name x o f e g p = rw g (subst (λ y. Lays a b (one_fun (filter_name y) (filter_body f) ∷ [])) e p)

-- where there is a filter, its call was appended
pub tried_some : {a b : List ℕ} (name x : List ℕ) (o : Option FilterCode) (f : FilterCode) → name ≡ x → o ≡ Some f
    → ((t : Body) → Goes a b (spell_body t) (spell_body (Group 2 (attempt answer_name (filter_name name)) t)))
    → (t : Body) → Goes a b (spell_body t) (spell_body (filter_tried x o t))
tried_some name x o f e g p t = rw (g, ← e) (p t)

-- where there is no filter, nothing was laid out
pub filter_none : {a : List ℕ} (x : List ℕ) (o : Option FilterCode) → o ≡ None → Lays a a (filter_funs x o)
filter_none {a} x o g = rw g (lays_none a)
