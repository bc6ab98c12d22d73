-- Proves which function with two parameters has a name, and what a result tells of it.
use Rattle.std.proofs.Common.{◌≡◌, ℕ, Bool, true, false, List, [], ◌∷◌, ◌++◌, Option, Some, None, refl, sym, ap, ◌∙◌}
use Rattle.std.specs.Prelude.{ℤ, nat_eq, Result, Ok, Err}
use Rattle.std.specs.List.{list_any}
use Rattle.std.proofs.lemmas.List.Folds.{Any-from_list_any, list_any-from_Any}
use Rattle.std.proofs.lemmas.Bool.{and_parts, eq-eqb, eqb-true, or_parts, true≢false, false_from_ne_true}
use Rattle.ln_csyn.specs.Tree.{Fun}
use Rattle.ln_csyn.specs.Meaning.{CCall, CNamed, CMeaning, called_behind, called_at, runs_behind, is_wanted, same_bool, same_name}
use Rattle.ln_csyn.specs.Meaning as m
use Rattle.ln_cmean.specs.declared.calling.CAnswer.{CAnswer}
use Rattle.ln_cmean.specs.declared.calling.CFault.{CFault}
use Rattle.ln_cmean.specs.declared.calling.CFault.TheVariants.{NoFunction, Undefined}
use Rattle.ln_cmean.specs.Answered.{told}

-- names that test equal are equal
pub name_is : (x y : List ℕ) → same_name x y ≡ true → x ≡ y
name_is [] [] h = refl
name_is [] (b ∷ bs) h = cc
name_is (a ∷ as') [] h = cc
name_is (a ∷ as') (b ∷ bs) h =
    let p = and_parts (nat_eq a b) (same_name as' bs) h in
    let e = eqb-true a b p.0 in
    let f = name_is as' bs p.1 in cc

-- a name tests equal to itself
pub name_self : (x : List ℕ) → same_name x x ≡ true
name_self [] = refl
name_self (a ∷ as') = let e = name_self as' in rw (eq-eqb a a refl) e

-- the function has two parameters
two_is : (b : Bool) → same_bool b true ≡ true → b ≡ true
two_is true h = refl
two_is false h = cc

-- what the test on a function means
wanted_is : (f : Fun) (name : List ℕ) → is_wanted f true name ≡ true → (f.indexed ≡ true) × (f.name ≡ name)
wanted_is f name h =
    let p = and_parts (same_bool f.indexed true) (same_name f.name name) h in
    (two_is f.indexed p.0, name_is f.name name p.1)

is-wanted : (f : Fun) (name : List ℕ) → f.indexed ≡ true → f.name ≡ name → is_wanted f true name ≡ true
is-wanted f name i n = rw (i, n) (name_self name)

abbrev test : List ℕ → Fun → Bool
test name f = is_wanted f true name

-- a call is looked for among all functions
pub none-behind : (before fs : List Fun) (name : List ℕ) (index values : List ℤ) →
    list_any (test name) fs ≡ false → called_behind before fs name index values ≡ None
none-behind before [] name index values h = refl
none-behind before (f ∷ fs) name index values h =
    let p = or_parts (test name f) (list_any (test name) fs) h in rw p.0 (none-behind (before ++ f ∷ []) fs name index values p.1)

some-behind : (before fs : List Fun) (name : List ℕ) (index values : List ℤ) →
    list_any (test name) fs ≡ true → called_behind before fs name index values ≡ None → ⊥
some-behind before [] name index values h n = true≢false (sym h)
some-behind before (f ∷ fs) name index values h n = by_case (is_wanted f true name) refl (some-behind (before ++ f ∷ []) fs name index values) where
  by_case : (v : Bool) → is_wanted f true name ≡ v →
      (list_any (test name) fs ≡ true → called_behind (before ++ f ∷ []) fs name index values ≡ None → ⊥) → ⊥
  by_case true e go = (let q : Some (called_at f.end (runs_behind before f.body index values)) ≡ None = rw e at n in cc)
  by_case false e go = go (rw e at h) (rw e at n)

test_of_named : (fs : List Fun) (name : List ℕ) → CNamed fs name → list_any (test name) fs ≡ true
test_of_named fs name (k, f, l, e, p) = list_any-from_Any (test name) fs (k, f, l, e, is-wanted f name p.0 p.1)

named_of_test : (fs : List Fun) (name : List ℕ) → list_any (test name) fs ≡ true → CNamed fs name
named_of_test fs name h =
    let a = Any-from_list_any (test name) fs h in
    (a.0, a.1, a.2, a.3, wanted_is a.1 name a.4)

-- there is no meaning at all exactly where no function is named so
none_of_unnamed : (fs : List Fun) (name : List ℕ) (index values : List ℤ) →
    (CNamed fs name → ⊥) → CCall fs name index values ≡ None
none_of_unnamed fs name index values h =
    none-behind [] fs name index values (false_from_ne_true (list_any (test name) fs) (λ t. h (named_of_test fs name t)))

unnamed_of_none : (fs : List Fun) (name : List ℕ) (index values : List ℤ) →
    CCall fs name index values ≡ None → CNamed fs name → ⊥
unnamed_of_none fs name index values h n = some-behind [] fs name index values (test_of_named fs name n) h

-- only one result tells each meaning
told_none : (r : Result CAnswer CFault) → told r ≡ None → r ≡ Err NoFunction
told_none (Ok a) h = cc
told_none (Err NoFunction) h = refl
told_none (Err (Undefined l)) h = cc

told_line : (r : Result CAnswer CFault) (l : ℕ) → told r ≡ Some (m.Undefined l) → r ≡ Err (Undefined l)
told_line (Ok a) l h = cc
told_line (Err NoFunction) l h = cc
told_line (Err (Undefined n)) l h = cc

-- a result with the meaning of a call is `NoFunction` exactly where no function with two parameters has the name
pub no_function : (r : Result CAnswer CFault) (fs : List Fun) (name : List ℕ) (index values : List ℤ) → told r ≡ CCall fs name index values →
    (r ≡ Err NoFunction → CNamed fs name → ⊥) × ((CNamed fs name → ⊥) → r ≡ Err NoFunction)
no_function r fs name index values h =
    (λ e. unnamed_of_none fs name index values (sym h ∙ ap told e), λ n. told_none r (h ∙ none_of_unnamed fs name index values n))

-- a result is `Undefined` at a line exactly where its meaning is
pub undefined : (r : Result CAnswer CFault) (l : ℕ) (o : Option CMeaning) → told r ≡ o →
    (r ≡ Err (Undefined l) → o ≡ Some (m.Undefined l)) × (o ≡ Some (m.Undefined l) → r ≡ Err (Undefined l))
undefined r l o h = (λ e. sym h ∙ ap told e, λ e. told_line r l (h ∙ e))
