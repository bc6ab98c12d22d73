-- Sources that are refused, and for what.
use Rattle.std.specs.Prelude.{◌≡◌, ℕ, List, ◌∷◌, ◌++◌, length, codes, Option, Some, None, ◌⊎◌}
use Rattle.ln_base.specs.Outside.{refused}
use Rattle.ln_base.specs.declared.span.Span.{Span}
use Rattle.ln_tree.specs.Formula.{Formula, FNum, FInput, FName, FNeg, FAdd, FSub, FMul, FPow}
use Rattle.ln_tree.specs.Table.{PredOf, TableOf}
use Rattle.ln_bound.specs.Light.{AreLight, IsBoundFault}
use Rattle.ln_poly.specs.Expansion.{HaveFewTerms, IsTermsFault, IsZeroFault}
use Rattle.ln_parse.specs.declared.source.ParseStop.{ParseStop}
use Rattle.ln_parse.specs.declared.source.ParseStop.TheVariants as parse
use Rattle.ln_parse.specs.Text.{TextOf}
use Rattle.ln_parse.specs.Fault.{TextFault}
use Rattle.ln_compile.specs.declared.refusal.Refusal.{Refusal}
use Rattle.ln_compile.specs.declared.refusal.Refusal.TheVariants.{Lexical, Limit, Syntax, Name, Bound, Terms, Zero, Stages, NoMemory}
use Rattle.ln_compile.specs.Accepted.{Accepted, AreSound, IsHeavyFault, IsStagesFault, expanded_of, loaded_of, root_of}

-- the refusal for what `parse` returns
abbrev pub refusal_of : ParseStop → Refusal
refusal_of (parse.Lexical at) = Lexical at
refusal_of (parse.Limit what at) = Limit what at
refusal_of (parse.Syntax at) = Syntax at
refusal_of (parse.Name what at) = Name what at
refusal_of (parse.NoMemory m) = NoMemory m

-- what it is for, in a word
abbrev pub word_of : Refusal → List ℕ
word_of (Lexical at) = codes "lexical"
word_of (Limit what at) = codes "limit"
word_of (Syntax at) = codes "syntax"
word_of (Name what at) = codes "name"
word_of (Bound pred at) = codes "bound"
word_of (Terms pred at) = codes "terms"
word_of (Zero pred at) = codes "zero"
word_of (Stages pred at) = codes "stages"
word_of (NoMemory m) = codes "memory"

-- its place in the source; out of memory has none
abbrev pub span_of : Refusal → Option Span
span_of (Lexical at) = Some at
span_of (Limit what at) = Some at
span_of (Syntax at) = Some at
span_of (Name what at) = Some at
span_of (Bound pred at) = Some at
span_of (Terms pred at) = Some at
span_of (Zero pred at) = Some at
span_of (Stages pred at) = Some at
span_of (NoMemory m) = None

-- the token of a node itself
abbrev pub token_of : Formula → Span
token_of (FNum at c) = at
token_of (FInput at a c) = at
token_of (FName at j) = at
token_of (FNeg at e) = at
token_of (FAdd at e f) = at
token_of (FSub at e f) = at
token_of (FMul at e f) = at
token_of (FPow at e n) = at

-- the fault of predicate number k: a node whose range or size exceeds 2^127 - 1; else a node that has too many terms; else a whole that is too
-- large, at the root's own token; else a root that is 0, at the predicate's name; else too many stages, there
pub data IsPredFault (k : ℕ) (p : PredOf) : Refusal → Type 0 where
  bound : {at : Span} → IsBoundFault (loaded_of p) at → IsPredFault k p (Bound k at)
  terms : {at : Span} → AreLight (loaded_of p) → IsTermsFault (length p.vars) (expanded_of p) at → IsPredFault k p (Terms k at)
  heavy : AreLight (loaded_of p) → HaveFewTerms (length p.vars) (expanded_of p) → IsHeavyFault p →
      IsPredFault k p (Bound k (token_of p.root))
  zero : AreLight (loaded_of p) → HaveFewTerms (length p.vars) (expanded_of p) → (IsHeavyFault p → ⊥) →
      IsZeroFault (length p.vars) (root_of p) → IsPredFault k p (Zero k p.at)
  stages : AreLight (loaded_of p) → HaveFewTerms (length p.vars) (expanded_of p) → (IsHeavyFault p → ⊥) →
      (IsZeroFault (length p.vars) (root_of p) → ⊥) → IsStagesFault p → IsPredFault k p (Stages k p.at)

-- the fault of the first predicate that has one
pub record IsFirstFault (preds : List PredOf) (r : Refusal) : Type 0 where
  pub before : List PredOf
  pub pred : PredOf
  pub after : List PredOf
  pub stands : preds ≡ before ++ pred ∷ after
  pub sound : AreSound before
  pub fault : IsPredFault (length before) pred r

-- the source is refused: for the first fault of its text, or for that of its predicates
pub data IsRefusedFor (bytes : List ℕ) : Refusal → Type 0 where
  of_text : {e : ParseStop} → TextFault bytes e → IsRefusedFor bytes (refusal_of e)
  of_pred : (t : TableOf) {r : Refusal} → TextOf bytes t → IsFirstFault t.preds r → IsRefusedFor bytes r

-- the refusal of one predicate: its fault, or out of memory
abbrev pub StopsPred : ℕ → PredOf → Refusal → Type 0
StopsPred k p r = IsPredFault k p r ⊎ (r ≡ NoMemory refused)

-- the refusal of several: the fault of the first that has one, or out of memory
abbrev pub StopsPreds : List PredOf → Refusal → Type 0
StopsPreds preds r = IsFirstFault preds r ⊎ (r ≡ NoMemory refused)

-- the refusal of a source: what it is refused for, or out of memory
abbrev pub IsRefusal : List ℕ → Refusal → Type 0
IsRefusal bytes r = IsRefusedFor bytes r ⊎ (r ≡ NoMemory refused)

-- an accepted source is refused only when out of memory
abbrev pub IsUnaccepted : List ℕ → Refusal → Type 0
IsUnaccepted bytes r = (t : TableOf) → Accepted bytes t → r ≡ NoMemory refused

-- what a source is refused for is its refusal, unless it is out of memory
abbrev pub IsTheOne : List ℕ → Refusal → Type 0
IsTheOne bytes r = (s : Refusal) → IsRefusedFor bytes s → (r ≡ s) ⊎ (r ≡ NoMemory refused)
