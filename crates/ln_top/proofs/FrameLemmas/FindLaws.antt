-- The predicate of a name, by its number.
use Rattle.std.proofs.Common.{◌≡◌, ℕ, ◌<◌, ◌≤◌, cond, Bool, true, false, List, [], ◌∷◌, find, Option}
use Rattle.std.proofs.Common.{map, length, Some, None, option_map, refl, ap, sym, ◌∙◌, arith}
use Rattle.std.specs.Prelude.{slice_get, position, nat_lt, bytes_eq}
use Rattle.std.specs.List.{position_or_len}
use Rattle.std.proofs.lemmas.Option.{slice_get-map, slice_get_past}
use Rattle.std.proofs.lemmas.List.Folds.{find_at}
use Rattle.std.proofs.lemmas.Bool.Decides.{nat_tests}
use Rattle.ln_tree.specs.declared.pred.Pred.{Pred}
use Rattle.ln_tree.specs.Names.{name_bytes}
use Rattle.ln_tree.specs.Table.{PredOf, pred_of}
use Rattle.ln_parse.proofs.ReadBack.InputsThere.{at_place}
use Rattle.ln_compile.specs.Compiled.{pred_number}
use Rattle.ln_top.specs.Frame.Given.{named}

-- the first predicate of a name, in memory
abbrev pub named_in : List ℕ → List Pred → Option Pred
named_in name preds = find (λ p. bytes_eq (name_bytes p.name) name) preds

named_if : (b : Bool) (p : Pred) (o : Option Pred) (v : Option PredOf) → option_map pred_of o ≡ v
    → option_map pred_of (cond b (Some p) o) ≡ cond b (Some (pred_of p)) v
named_if true p o v e = refl
named_if false p o v e = e

-- the first predicate of a name in memory stands for the first of that name in what the table stands for
pub named_like : (name : List ℕ) (ps : List Pred) → option_map pred_of (named_in name ps) ≡ named name (map pred_of ps)
named_like name [] = refl
named_like name (p ∷ ps) =
    named_if (bytes_eq (name_bytes p.name) name) p (named_in name ps) (named name (map pred_of ps)) (named_like name ps)

-- where a number was found, it is the position of the first that passes
some_position : (test : Pred → Bool) (ps : List Pred) (i : ℕ) → position test ps ≡ Some i → (i ≡ position_or_len test ps) × (i < length ps)
some_position test ps i e = by_test (nat_lt (position_or_len test ps) (length ps)) refl e
  where
    by_test : (b : Bool) → nat_lt (position_or_len test ps) (length ps) ≡ b
        → cond b (Some (position_or_len test ps)) None ≡ Some i → (i ≡ position_or_len test ps) × (i < length ps)
    by_test true f e = let same : i ≡ position_or_len test ps = cc in (same, rw same (grind (arith, nat_tests, f)))
    by_test false f e = cc

no_position : (test : Pred → Bool) (ps : List Pred) → position test ps ≡ None → length ps ≤ position_or_len test ps
no_position test ps e = by_test (nat_lt (position_or_len test ps) (length ps)) refl e
  where
    by_test : (b : Bool) → nat_lt (position_or_len test ps) (length ps) ≡ b
        → cond b (Some (position_or_len test ps)) None ≡ None → length ps ≤ position_or_len test ps
    by_test true f e = cc
    by_test false f e = grind (arith, nat_tests, f)

number_named : (name : List ℕ) (ps : List Pred) (i : ℕ) (p : Pred) → pred_number name ps ≡ Some i
    → slice_get ps i ≡ Some p → named_in name ps ≡ Some p
number_named name ps i p e f =
    let test = λ (q : Pred). bytes_eq (name_bytes q.name) name in
    find_at test ps ∙ ap (slice_get ps) (sym (some_position test ps i e).0) ∙ f

-- a number that was found is that of the predicate with the name
pub found_at : (name : List ℕ) (ps : List Pred) (i : ℕ) → pred_number name ps ≡ Some i
    → (p : PredOf) × (slice_get (map pred_of ps) i ≡ Some p) × (named name (map pred_of ps) ≡ Some p)
found_at name ps i e =
    let p = at_place ps i (some_position (λ p. bytes_eq (name_bytes p.name) name) ps i e).1 in (
      pred_of p.0,
      slice_get-map pred_of ps i ∙ ap (option_map pred_of) p.1,
      sym (named_like name ps) ∙ ap (option_map pred_of) (number_named name ps i p.0 e p.1),
    )

-- where none was found, none has it
pub none_at : (name : List ℕ) (ps : List Pred) → pred_number name ps ≡ None → named name (map pred_of ps) ≡ None
none_at name ps e =
    let test = λ (q : Pred). bytes_eq (name_bytes q.name) name in
    sym (named_like name ps) ∙ ap (option_map pred_of)
    (find_at test ps ∙ slice_get_past ps (position_or_len test ps) (no_position test ps e))
