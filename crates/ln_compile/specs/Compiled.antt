-- What a source is compiled to: the program and the stage count of each predicate.
use Rattle.std.specs.Prelude.{◌≡◌, ◌≢◌, All, ℕ, ◌+◌, ◌<◌, ◌^◌, List, [], length, map, slice_get, ℤ, Option, Some, None, IfSome, position, bytes_eq}
use Rattle.std.specs.List.{AllZip}
use Rattle.ln_algebra.specs.Orders.{BySmallest}
use Rattle.ln_algebra.specs.Tree.{InputsBelow}
use Rattle.ln_tree.specs.declared.pred.Pred.{Pred}
use Rattle.ln_tree.specs.declared.table.Table.{Table}
use Rattle.ln_tree.specs.declared.shape.VarInfo.{VarInfo}
use Rattle.ln_tree.specs.Exps.{Pairs, vector}
use Rattle.ln_tree.specs.Formula.{tree}
use Rattle.ln_tree.specs.Names.{name_bytes}
use Rattle.ln_tree.specs.Row.{AreWithin}
use Rattle.ln_tree.specs.Table.{PredOf}
use Rattle.ln_bound.specs.Exact.{AreExact, IsExact}
use Rattle.ln_bound.specs.Typed.{Typed, untyped}
use Rattle.ln_poly.specs.Derivative.{IsDerivative}
use Rattle.ln_poly.specs.Expansion.{IsNormal}
use Rattle.ln_poly.specs.Sparse.{Sparse, terms_of}
use Rattle.ln_stage.specs.Lists.{AreStageLists, first_seen, stage_count}
use Rattle.ln_code.specs.Carried.{Carries, CarriesWhole, vectors}
use Rattle.ln_code.specs.Kept.{FollowsFilterRules}
use Rattle.ln_code.specs.Lists.{lists_of}
use Rattle.ln_code.specs.Part.{Code, FilterCode, Part, filter_value, lines_of, ops_in_filter}
use Rattle.ln_due.specs.Derivative.{IsDerivativeBlock}
use Rattle.ln_due.specs.Small.{FilterPushesSmall, PushesSmall}
use Rattle.ln_filter.specs.Steady.{HasFilter}
use Rattle.ln_filter.specs.Truncated.{root_number, root_triple}
use Rattle.ln_lower.specs.StackCode.{IsCodeOf}
use Rattle.ln_nest.specs.Nested.{nested_form}
use Rattle.ln_compile.specs.Accepted.{lets_of, own_root, root_of}

-- the block has no exponents, and its operations are the stack code of the source's own lets and root, where each range is exactly
-- its operation over the operands' ranges, and each width the least
pub record IsOwn (p : PredOf) (block : Code) : Type 0 where
  pub plain : block.exps ≡ []
  pub lets : List Typed
  pub of_lets : map untyped lets ≡ map (tree p.vars) p.lets
  pub root : Typed
  pub of_root : untyped root ≡ tree p.vars p.root
  pub exact_lets : AreExact p.vars [] lets
  pub exact_root : IsExact p.vars lets root
  pub code : IsCodeOf lets root (lines_of block.ops block.pairs)

-- there are no lets, and the root is the nested form of the scaled derivative of f by these exponents
pub record IsNestedDerivative (vars : List VarInfo) (f : Sparse) (exps : Pairs) (lets : List Typed) (root : Typed) : Type 0 where
  pub no_lets : lets ≡ []
  pub poly : Sparse
  pub derivative : IsDerivative (length vars) f exps poly
  pub form : untyped root ≡ nested_form (length vars) (terms_of (length vars) poly)

-- the block's operations are the stack code of lets and a root, where each range is exactly its operation over the operands' ranges,
-- and each width the least; where the block has exponents, of the nested form of the scaled derivative of f by them
pub record IsFromExact (vars : List VarInfo) (f : Sparse) (block : Code) : Type 0 where
  pub lets : List Typed
  pub root : Typed
  pub exact_lets : AreExact vars [] lets
  pub exact_root : IsExact vars lets root
  pub code : IsCodeOf lets root (lines_of block.ops block.pairs)
  pub nested : block.exps ≢ [] → IsNestedDerivative vars f block.exps lets root

-- block 0 is the source's own; with the filter it has fewer than 2^21 operations
pub record BeginsWith (p : PredOf) (part : Part) : Type 0 where
  pub block : Code
  pub first : slice_get part.blocks 0 ≡ Some block
  pub own : IsOwn p block
  pub short : ops_in_filter part.filter + length block.ops < 2 ^ 21

-- the filter is the predicate's: there is none where a node of it isn't steady, and else it leaves on each row in range the
-- truncated number of the sign expression, with its error
abbrev pub IsFilterOf : PredOf → Option FilterCode → Type 0
IsFilterOf p None = HasFilter p.vars (lets_of p) (own_root p) → ⊥
IsFilterOf p (Some f) =
    HasFilter p.vars (lets_of p) (own_root p)
    × ((zs : List ℤ) → AreWithin p.vars zs →
    filter_value zs f ≡ Some (record {
      number = root_number p.vars zs (lets_of p) (own_root p);
      error = (root_triple p.vars (lets_of p) (own_root p)).e;
    }))

-- the filter is the predicate's, and the block its own: each follows the rules, and stands for each normal polynomial of the predicate's root; what
-- they push has at most 1,024 terms and no exponent above 127, and together they have fewer than 2^21 operations
pub record IsBeginningOf (p : PredOf) (o : Option FilterCode) (b : Code) : Type 0 where
  pub filter : IsFilterOf p o
  pub own : IsOwn p b
  pub inputs : InputsBelow (length p.vars) (root_of p)
  pub rules : IfSome o (FollowsFilterRules p.vars)
  pub whole : (f : Sparse) → IsNormal (length p.vars) (root_of p) f → IfSome o (CarriesWhole p.vars (terms_of (length p.vars) f))
  pub block : (f : Sparse) → IsNormal (length p.vars) (root_of p) f → IsDerivativeBlock p.vars f b
  pub pushes : IfSome o (FilterPushesSmall p.vars)
  pub short : ops_in_filter o + length b.ops < 2 ^ 21

-- the part is the program of the predicate: it is over the predicate's variables, with the predicate's filter; it carries the
-- predicate's root, with the lets in place of their names, by the smallest infinitesimal that differs; it begins with the
-- source's own tree, and each other block is made from the nested form of its derivative, both with exact ranges and the least
-- widths; whatever its blocks and its filter push has at most 1,024 terms and no exponent above 127; and the blocks' exponents are
-- the distinct members of the lists in order of first sight
pub record IsProgramOf (p : PredOf) (part : Part) : Type 0 where
  pub name : name_bytes part.shape.name ≡ p.shape_name
  pub sites : part.shape.sites ≡ p.sites
  pub vars : part.shape.vars ≡ p.vars
  pub filter : IsFilterOf p part.filter
  pub poly : Sparse
  pub normal : IsNormal (length p.vars) (root_of p) poly
  pub carries : Carries BySmallest part (root_of p) (terms_of (length p.vars) poly)
  pub begins : BeginsWith p part
  pub small : PushesSmall part
  pub exact : All (IsFromExact p.vars poly) part.blocks
  pub sight : map (λ c. vector (length p.vars) c.exps) part.blocks ≡ first_seen (map (vectors part) (lists_of part))

-- one program for each predicate, in order
abbrev pub AreProgramsOf : List PredOf → List Part → Type 0
AreProgramsOf = AllZip IsProgramOf

-- n is the stage count of the predicate: the number of stages in the lists of all orders of its sites, taken together
pub record IsStageCount (p : PredOf) (n : ℕ) : Type 0 where
  pub poly : Sparse
  pub normal : IsNormal (length p.vars) (root_of p) poly
  pub lists : List (List (List ℕ))
  pub are_lists : AreStageLists p.sites p.vars poly lists
  pub count : n ≡ stage_count lists

-- n is the stage count of predicate number i
abbrev pub IsStageCountAt : List PredOf → ℕ → ℕ → Type 0
IsStageCountAt ps i n = (p : PredOf) → slice_get ps i ≡ Some p → IsStageCount p n

-- the part is the program of predicate number i
abbrev pub IsProgramAt : List PredOf → ℕ → Part → Type 0
IsProgramAt ps i part = (p : PredOf) → slice_get ps i ≡ Some p → IsProgramOf p part

-- the filter and the block are those of predicate number i
abbrev pub IsBeginningAt : List PredOf → ℕ → Option FilterCode × Code → Type 0
IsBeginningAt ps i b = (p : PredOf) → slice_get ps i ≡ Some p → IsBeginningOf p b.0 b.1

-- the predicates with these numbers
abbrev pub AreNumbered : List PredOf → List ℕ → List PredOf → Type 0
AreNumbered table = AllZip (λ i p. slice_get table i ≡ Some p)

-- the number of the first predicate of a name
abbrev pub pred_number : List ℕ → List Pred → Option ℕ
pred_number name preds = position (λ p. bytes_eq (name_bytes p.name) name) preds

-- a source whose predicates have no fault: its table
pub record CheckedOf : Type 0 where
  pub table : Table

-- a compiled source: its table and its programs
pub record CompiledOf : Type 0 where
  pub table : Table
  pub programs : List Part
