-- What a draft has more.
use Rattle.std.specs.Prelude.{◌≡◌, ℕ, List, [], ◌∷◌, map}
use Rattle.ln_interval.specs.Range.{Range}
use Rattle.ln_interval.specs.View.{range}
use Rattle.ln_interval.specs.declared.pair.Pair.{Pair}
use Rattle.ln_bound.specs.Typed.{Typed}
use Rattle.ln_code.specs.Engine.{Line}
use Rattle.ln_code.specs.declared.draft.Draft.{Draft}
use Rattle.ln_code.specs.declared.op.Op.TheVariants.{Set}
use Rattle.ln_code.specs.StackCode.{AreCode, line}
use Rattle.ln_code.specs.Walk.{Puts, Wrote, told_line}
use Rattle.ln_lower.specs.declared.distinct.Key.{Key}
use Rattle.ln_lower.specs.Distinct.{AreNumbersOf, IsNumberOf}
use Rattle.ln_code.specs.Kept.{nothing}
use Rattle.ln_lower.specs.StackCode.{block_style}

-- the second draft has the operations of a tree more, which leave the pair p
abbrev pub PutsTree : List Key → Draft Pair → Draft Pair → Typed → Pair → Type 0
PutsTree ks before after t p = Puts range block_style (IsNumberOf ks) (Unit {0}) before after t p

-- the second draft has the operations of a let more, into the local of its number
pub record PutsLet (ks : List Key) (before after : Draft Pair) (t : Typed) (j : ℕ) : Type 0 where
  pub mid : Draft Pair
  pub left : Pair
  pub puts : PutsTree ks before mid t left
  pub stores : Wrote range mid after (line (Set j) nothing ∷ []) []

-- the draft has the operations of these lets and nothing else
pub record PutsLets (ks : List Key) (after : Draft Pair) (ts : List Typed) : Type 0 where
  pub lines : List (Line Range)
  pub is : map (told_line range) after.code ≡ lines
  pub kept : List Typed
  pub are : AreNumbersOf ks after.kept kept
  pub code : AreCode (λ done. block_style) ts lines kept

-- the draft has the operations of these lets and of a tree after them, and nothing else
pub record Drafted (ks : List Key) (ts : List Typed) (t : Typed) (after : Draft Pair) : Type 0 where
  pub mid : Draft Pair
  pub left : Pair
  pub lets : PutsLets ks mid ts
  pub root : PutsTree ks mid after t left
