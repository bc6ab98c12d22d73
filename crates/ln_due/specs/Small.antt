-- How large the polynomials are that operations push.
use Rattle.std.specs.Prelude.{ℕ, ◌<◌, All, List, [], ◌∷◌, length, slice_index, IfSome}
use Rattle.ln_algebra.specs.Stage.{IsMonomial}
use Rattle.ln_algebra.specs.Tree.{Tree}
use Rattle.ln_tree.specs.declared.shape.VarInfo.{VarInfo}
use Rattle.ln_poly.specs.Expansion.{HasTooManyTerms}
use Rattle.ln_code.specs.FilterRules.{FilterKnown, filter_rules}
use Rattle.ln_code.specs.Numbers.{no_locals}
use Rattle.ln_code.specs.Part.{Code, FilterCode, Part, lines_of}
use Rattle.ln_code.specs.Pushes.{Pushed, pushes}
use Rattle.ln_code.specs.Rules.{Known, rules}

-- the polynomial of an expression over n variables has at most 1,024 terms, and no exponent above 127
pub record IsSmall (n : ℕ) (e : Tree) : Type 0 where
  pub few : HasTooManyTerms n e → ⊥
  pub low : (m : List ℕ) (v : ℕ) → IsMonomial n e m → slice_index m v < 128

-- so has that of each pushed value, whose expression `tree` returns
abbrev pub AreSmall : {K : Type 0} → (K → Tree) → ℕ → List (Pushed K) → Type 0
AreSmall tree n [] = Unit {0}
AreSmall tree n (p ∷ ps) = IsSmall n (tree p.value) × AreSmall tree n ps

-- the expression that is known of a value
abbrev pub known_tree : Known → Tree
known_tree k = k.tree

-- the same in a filter
abbrev pub filter_tree : FilterKnown → Tree
filter_tree k = k.tree

-- each operation of the block pushes a small polynomial
abbrev pub BlockPushesSmall : List VarInfo → Code → Type 0
BlockPushesSmall vars c = AreSmall known_tree (length vars)
    (pushes (rules vars c.depth) (lines_of c.ops c.pairs) (record { stack = []; locals = no_locals }))

-- and each operation of the filter
abbrev pub FilterPushesSmall : List VarInfo → FilterCode → Type 0
FilterPushesSmall vars f = AreSmall filter_tree (length vars)
    (pushes (filter_rules vars f.depth) (lines_of f.ops f.triples) (record { stack = []; locals = no_locals }))

-- each block of the part and its filter push small polynomials alone
pub record PushesSmall (p : Part) : Type 0 where
  pub blocks : All (BlockPushesSmall p.shape.vars) p.blocks
  pub filter : IfSome p.filter (FilterPushesSmall p.shape.vars)
