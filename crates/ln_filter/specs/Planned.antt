-- What is written for a predicate: its filter where it has one, and else nothing.
use Rattle.std.specs.Prelude.{◌≡◌, ℕ, ℤ, ◌+◌, ◌*◌, ◌≤◌, List, length, map, Option, Some, None}
use Rattle.ln_algebra.specs.Coefficient.{normal_coefficient}
use Rattle.ln_tree.specs.declared.shape.VarInfo.{VarInfo}
use Rattle.ln_tree.specs.Row.{AreWithin}
use Rattle.ln_bound.specs.Typed.{Typed, cost, costs, polynomial, untyped}
use Rattle.ln_code.specs.FilterRules.{FilterKnown}
use Rattle.ln_code.specs.Part.{FilterCode, filter_known_of, filter_value, lines_of}
use Rattle.ln_code.specs.Kept.{FollowsFilterRules}
use Rattle.ln_code.specs.Nodes.{IsNodeOf}
use Rattle.ln_filter.specs.Lines.{all_lines}
use Rattle.ln_filter.specs.Nodes.{PushNodes, pushed_by}
use Rattle.ln_filter.specs.Steady.{HasFilter}
use Rattle.ln_filter.specs.Truncated.{root_number, root_triple}

-- the filter of a predicate with these lets and this sign expression: it follows the rules, stands for the predicate's
-- polynomial, has the operations of the lets and of the sign expression and no other, pushes
-- polynomials of nodes, leaves its truncated number with its error, and is small
pub record IsPlanned (vars : List VarInfo) (lets : List Typed) (root : Typed) (f : FilterCode) : Type 0 where
  pub has : HasFilter vars (map untyped lets) (untyped root)
  pub rules : FollowsFilterRules vars f
  pub triple : (k : FilterKnown) → filter_known_of vars f ≡ Some k → k.triple ≡ root_triple vars (map untyped lets) (untyped root)
  pub whole : (k : FilterKnown) → filter_known_of vars f ≡ Some k → (m : List ℕ) → normal_coefficient k.tree m ≡ polynomial lets root m
  pub lines : lines_of f.ops f.triples ≡ all_lines vars (map untyped lets) (untyped root)
  pub nodes : PushNodes (IsNodeOf lets root) (pushed_by vars f)
  pub value : (zs : List ℤ) → AreWithin vars zs →
      filter_value zs f ≡ Some (record {
        number = root_number vars zs (map untyped lets) (untyped root);
        error = (root_triple vars (map untyped lets) (untyped root)).e;
      })
  pub small : length f.ops ≤ 8 * (cost root + costs lets) + 64

-- what is written for a predicate: its filter as planned, or none where it has no filter
abbrev pub IsPlan : List VarInfo → List Typed → Typed → Option FilterCode → Type 0
IsPlan vars lets root None = HasFilter vars (map untyped lets) (untyped root) → ⊥
IsPlan vars lets root (Some f) = IsPlanned vars lets root f
