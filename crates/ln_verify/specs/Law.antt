-- States what valid listings promise, which parts make one, and how the two versions compare.
use Rattle.std.specs.Prelude.{◌≡◌, ℕ, ◌≤◌, List, Some}
use Rattle.ln_interval.specs.Range.{Range}
use Rattle.ln_tree.specs.declared.shape.VarInfo.{VarInfo}
use Rattle.ln_code.specs.declared.op.Triple.{Triple}
use Rattle.ln_code.specs.Engine.{Line, answer}
use Rattle.ln_code.specs.FilterRules.{FilterKnown, filter_rules}
use Rattle.ln_code.specs.Numbers.{no_locals}
use Rattle.ln_code.specs.Rules.{Known, rules}
use Rattle.ln_verify.specs.BlockRules.{Version, block_rules, deepest, triple_rules, version_1, version_2}
use Rattle.ln_verify.specs.Bounds.{IsOnBounds}
use Rattle.ln_verify.specs.Good.{AreGoodParts, all_lines}
use Rattle.ln_verify.specs.Judge.{IsFirstFault, IsValid}
use Rattle.ln_verify.specs.Line.{Subject, Written}
use Rattle.ln_verify.specs.Stands.{PartsStand}
use Rattle.ln_cert.specs.declared.part.Part.{Part}

-- a listing has one first fault at most, and none where it is valid
pub record OneAnswer : Type 0 where
  pub one : (v : Version) (ps : List Subject) (lines : List Part) (m n : ℕ) → IsFirstFault v ps lines m → IsFirstFault v ps lines n → m ≡ n
  pub not_both : (v : Version) (ps : List Subject) (lines : List Part) (n : ℕ) → IsValid v ps lines → IsFirstFault v ps lines n → ⊥

-- in a valid listing each predicate's part is there, in either version
abbrev pub ValidPartsStand : Type 0
ValidPartsStand = (v : Version) (ps : List Subject) (lines : List Part) (h : IsValid v ps lines) → PartsStand v ps h.parts

-- good parts, written as lines of version 2, are a valid listing
abbrev pub GoodPartsAreValid : Type 0
GoodPartsAreValid = (ps : List Subject) (ws : List Written) → AreGoodParts version_2 ps ws → IsValid version_2 ps (all_lines ps ws)

-- version 1 is its table on one bound for each operation
abbrev pub Version1IsOnBounds : Type 0
Version1IsOnBounds = (vars : List VarInfo) (lines : List (Line ℕ)) → IsOnBounds vars lines

-- the lines of blocks and filters in version 2 follow the rules by which programs are kept
abbrev pub Version2IsOfPrograms : Type 0
Version2IsOfPrograms = (vars : List VarInfo) → (block_rules version_2 vars ≡ rules vars deepest)
    × (triple_rules version_2 vars ≡ filter_rules vars deepest)

-- the same is known of a value, with a running size that is no larger
pub record IsNoLarger (x y : Known) : Type 0 where
  pub range : x.range ≡ y.range
  pub width : x.width ≡ y.width
  pub tree : x.tree ≡ y.tree
  pub size : y.size ≤ x.size

-- and of what a filter leaves
pub record IsNoLargerCut (x y : FilterKnown) : Type 0 where
  pub triple : x.triple ≡ y.triple
  pub tree : x.tree ≡ y.tree
  pub size : y.size ≤ x.size

-- what follows the rules of version 1 follows those of version 2
pub record Version1Follows : Type 0 where
  pub block : (vars : List VarInfo) (lines : List (Line Range)) (x : Known) →
      answer (block_rules version_1 vars) no_locals lines ≡ Some x →
      (y : Known) × (answer (block_rules version_2 vars) no_locals lines ≡ Some y) × IsNoLarger x y
  pub filter : (vars : List VarInfo) (lines : List (Line Triple)) (x : FilterKnown) →
      answer (triple_rules version_1 vars) no_locals lines ≡ Some x →
      (y : FilterKnown) × (answer (triple_rules version_2 vars) no_locals lines ≡ Some y) × IsNoLargerCut x y
