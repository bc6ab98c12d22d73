-- Defines which line is allowed where, and what its words say: for the reader, which goes line by line.
-- The lemmas of proofs/Reading/Walk prove that this is the grammar.
use Rattle.std.specs.Prelude.{◌≡◌, ℕ, ◌==◌, not, Bool, true, false, if◌then◌else◌, List, []}
use Rattle.std.specs.Prelude.{◌∷◌, ◌++◌, Option, Some, None, option_map, bytes_eq, codes}
use Rattle.ln_bound.specs.declared.fitted.Width.TheVariants.{W64, W128}
use Rattle.ln_code.specs.declared.op.Op.{Op}
use Rattle.ln_cert.specs.declared.part.Kind.{Kind}
use Rattle.ln_cert.specs.declared.part.Kind.TheVariants as kind
use Rattle.ln_cert.specs.declared.part.Part.{Part}
use Rattle.ln_cert.specs.declared.part.State.{State}
use Rattle.ln_cert.specs.declared.part.State.TheVariants.{Top, Opened, InFilter, Planned, InBlock, Blocks, Orders}
use Rattle.ln_cert.specs.declared.part.Verb.{Verb}
use Rattle.ln_cert.specs.declared.part.Verb.TheVariants as verb
use Rattle.ln_base.specs.Forms.Form.{Rules}
use Rattle.ln_base.specs.Forms.Form as form
use Rattle.ln_cert.specs.Listing.{first_line}
use Rattle.ln_cert.specs.Text.{IsLine, IsOp, args_of, block_word, filter_word, part_kind}
use Rattle.ln_cert.specs.Text.{number_words, of_block, of_filter, verb_of, words_of}

-- ---- first words
-- the first of these whose word it is
abbrev pub found : (Verb → List ℕ) → List ℕ → List Verb → Option Verb
found word w [] = None
found word w (v ∷ vs) = if bytes_eq w (word v) then Some v else found word w vs

-- the operations of a filter
abbrev pub filter_verbs : List Verb
filter_verbs = verb.Push ∷ verb.Input ∷ verb.Get ∷ verb.Set ∷ verb.Add W64 ∷ verb.Sub W64 ∷ verb.Mul W64 ∷ verb.Neg W64 ∷ verb.Cut ∷ []

-- those of a block
abbrev pub block_verbs : List Verb
block_verbs =
    verb.Push ∷ verb.Input ∷ verb.Get ∷ verb.Set ∷ verb.Add W64 ∷ verb.Add W128 ∷ verb.Sub W64 ∷ verb.Sub W128
    ∷ verb.Mul W64 ∷ verb.Mul W128 ∷ verb.Neg W64 ∷ verb.Neg W128 ∷ []

-- the kind of a line of a filter with this operation
abbrev pub filter_kind : Verb → Kind
filter_kind w = kind.FilterOp w

-- in version 1 it has one bound, else two ends
abbrev pub block_kind : ℕ → Verb → Kind
block_kind v w = if v == 1 then kind.BlockOp w else kind.RangeOp w

-- the kind of the line that begins with this word, in this state; none where no line does
abbrev pub kind_in : ℕ → State → List ℕ → Option Kind
kind_in v Top w = if bytes_eq w (codes "predicate") then Some kind.Predicate else None
kind_in v Opened w = if bytes_eq w (codes "nofilter") then Some kind.NoFilter else if bytes_eq w (codes "filter")
    then Some kind.Filter else None
kind_in v InFilter w = if bytes_eq w (codes "decide") then Some kind.Decide else option_map filter_kind (found filter_word w filter_verbs)
kind_in v Planned w = if bytes_eq w (codes "block") then Some kind.Block else None
kind_in v InBlock w = if bytes_eq w (codes "end") then Some kind.End else option_map (block_kind v) (found block_word w block_verbs)
kind_in v Blocks w = if bytes_eq w (codes "block") then Some kind.Block else if bytes_eq w (codes "order") then Some kind.Order else None
kind_in v Orders w = if bytes_eq w (codes "order") then Some kind.Order else if bytes_eq w (codes "done") then Some kind.Done else None

-- ---- states
-- a line of this kind is allowed in this state
abbrev pub may : ℕ → State → Kind → Bool
may v Top kind.Predicate = true
may v Opened kind.NoFilter = true
may v Opened kind.Filter = true
may v InFilter (kind.FilterOp w) = true
may v InFilter kind.Decide = true
may v Planned kind.Block = true
may v InBlock (kind.BlockOp w) = v == 1
may v InBlock (kind.RangeOp w) = not (v == 1)
may v InBlock kind.End = true
may v Blocks kind.Block = true
may v Blocks kind.Order = true
may v Orders kind.Order = true
may v Orders kind.Done = true
may v s k = false

-- what the lines end in after a line of this kind
abbrev pub after : Kind → State
after kind.Predicate = Opened
after kind.NoFilter = Planned
after kind.Filter = InFilter
after (kind.FilterOp w) = InFilter
after kind.Decide = Planned
after kind.Block = InBlock
after (kind.BlockOp w) = InBlock
after (kind.RangeOp w) = InBlock
after kind.End = Blocks
after kind.Order = Orders
after kind.Done = Top

-- its operation is allowed there
abbrev pub good : Kind → Bool
good (kind.FilterOp w) = of_filter w
good (kind.BlockOp w) = of_block w
good (kind.RangeOp w) = of_block w
good k = true

-- the state after a line in version v, if a line of its kind may come next in the state s
abbrev pub next_of : ℕ → State → Part → Option State
next_of v s p = if may v s (part_kind p) then Some (after (part_kind p)) else None

-- the form of listings of version v, as the reader of lines takes it
abbrev pub list_rules : ℕ → Rules State Part
list_rules v = record { first = first_line v; words_of = words_of; IsLine = IsLine; next_of = next_of v; start = Top }

-- where lines lead
abbrev pub goes : ℕ → Option State → List Part → Option State
goes v o ps = form.goes (list_rules v) o ps

-- ---- lines
-- the words are this line, which is allowed in the state and leads to the next
abbrev pub IsRead : ℕ → State → List (List ℕ) → Part → State → Type 0
IsRead v s ws p t = form.IsRead (list_rules v) s ws p t

-- no line of these words is allowed in the state
abbrev pub Refuses : ℕ → State → List (List ℕ) → Type 0
Refuses v s ws = form.Refuses (list_rules v) s ws

-- the words are the arguments of this line of a kind
pub record HasArgs (k : Kind) (ws : List (List ℕ)) (p : Part) : Type 0 where
  pub kind : part_kind p ≡ k
  pub args : ws ≡ args_of p
  pub range : IsLine p

-- the words are the arguments of no line of this kind
abbrev pub NoArgs : Kind → List (List ℕ) → Type 0
NoArgs k ws = (p : Part) → HasArgs k ws p → ⊥

-- the words are this operation's number, if it has one, and then these
pub record OpAt (w : Verb) (ws : List (List ℕ)) (o : Op) (rest : List (List ℕ)) : Type 0 where
  pub verb : verb_of o ≡ w
  pub range : IsOp o
  pub words : ws ≡ number_words o ++ rest

-- the words begin with the number of no operation of this verb
abbrev pub NoOpAt : Verb → List (List ℕ) → Type 0
NoOpAt w ws = (o : Op) (rest : List (List ℕ)) → OpAt w ws o rest → ⊥
