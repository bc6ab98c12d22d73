-- Defines what is appended for one operation, whatever follows it.
use Rattle.std.specs.Prelude.{◌≡◌, ℕ, zero, suc, ◌/◌, ◌^◌, Bool, true, false, ◌||◌, ◌≤◌, length, take}
use Rattle.std.specs.Prelude.{nat_le, List, [], ◌∷◌, codes, reverse, Option, Some, None, slice_get}
use Rattle.ln_bound.specs.declared.fitted.Width.{Width}
use Rattle.ln_code.specs.Engine.{next}
use Rattle.ln_csyn.specs.Words.{most_number}
use Rattle.ln_bound.specs.declared.fitted.Width.TheVariants.{W64}
use Rattle.ln_csyn.specs.Tree.{Expr, Inner, Minus, Two, Body, End, Group, Fun}
use Rattle.ln_csyn.specs.Tree as c
use Rattle.ln_csyn.specs.Grammar.{Token}
use Rattle.ln_csyn.specs.Spelling.{lexeme, type_text, spell, spell_body, Goes}
use Rattle.ln_cemit.specs.declared.slot.Slot.{Slot}
use Rattle.ln_cemit.specs.declared.slot.Side.{Side}
use Rattle.ln_cemit.specs.declared.slot.Side.TheVariants.{Number, Value, Same, Opposite, Both, Quotient}
use Rattle.ln_cemit.specs.Emit.{Rest, constant, cut_expr, operand, reads, type_of}
use Rattle.ln_cemit.specs.Names.{answer_name, decl_name, filter_name}
use Rattle.ln_cemit.specs.File.{one_fun}
use Rattle.ln_cemit.specs.Walked.{attempt, less, picks}
use Rattle.ln_cemit.specs.Whole.{filter_body}
use Rattle.ln_code.specs.declared.op.Op.{Op}
use Rattle.ln_code.specs.Part.{FilterCode}

-- a declaration, before a rest
abbrev pub decl_before : ℕ → Width → Expr → List Token → List Token
decl_before n w e r = lexeme (type_text (type_of w)) ∷ lexeme (decl_name n) ∷ lexeme (codes "=") ∷ spell e (lexeme (codes ";") ∷ r)

-- the expression of a right side in this width
abbrev pub side_expr : Width → Side → Expr
side_expr w (Number z) = Inner (type_of w) (constant z)
side_expr w (Value v) = c.Value (type_of w) v
side_expr w (Same s) = operand decl_name w s
side_expr w (Opposite s) = Minus (operand decl_name w s)
side_expr w (Both o x y) = Two o (operand decl_name w x) (operand decl_name w y)
side_expr w (Quotient m s) = cut_expr m (operand decl_name W64 s)

-- the first part of a number in k + 1 parts is a NUMBER
abbrev pub parts_fit : ℕ → ℕ → Bool
parts_fit zero n = nat_le n most_number
parts_fit (suc k) n = parts_fit k (n / 2 ^ 31)

-- what is out goes on with each rest over the new stack, where each was to come in the operation's own body
pub record Moves (old new : List ℕ) (stack : List Slot) (body : (ℕ → Option Slot) → Rest → Body) : Type 0 where
  pub goes : (ls : ℕ → Option Slot) (go : Rest) → Goes old new (spell_body (go (reverse stack) ls)) (spell_body (body ls go))

-- the locals, by number
abbrev pub locals_of : List (Option Slot) → ℕ → Option Slot
locals_of os j = next (slice_get os j) (λ o. o)

-- the same where the locals change too
pub record Stores (old new : List ℕ) (stack : List Slot) (locals : List (Option Slot)) (body : Rest → Body) : Type 0 where
  pub goes : (go : Rest) → Goes old new (spell_body (go (reverse stack) (locals_of locals))) (spell_body (body go))

-- the rest, or nothing
abbrev pub rest_or : Bool → Body → Body
rest_or true b = b
rest_or false b = End

-- the same where the stack may be too short: then nothing was appended, and nothing follows
pub record MayMove (more : Bool) (old new : List ℕ) (stack : List Slot) (body : (ℕ → Option Slot) → Rest → Body) : Type 0 where
  pub goes : (ls : ℕ → Option Slot) (go : Rest) → Goes old new (spell_body (rest_or more (go (reverse stack) ls))) (spell_body (body ls go))

-- one operation: what is out goes on with each rest over the new stack and the new locals
pub record Does (more : Bool) (old new : List ℕ) (stack : List Slot) (locals : List (Option Slot)) (body : Rest → Body) : Type 0 where
  pub goes : (go : Rest) → Goes old new (spell_body (rest_or more (go (reverse stack) (locals_of locals)))) (spell_body (body go))

-- does one of the operations read a value of the row?
abbrev pub any_reads : List Op → Bool
any_reads [] = false
any_reads (o ∷ os) = reads o || any_reads os

-- the statements of the remaining sites, without the end where none remains
abbrev pub picks_on : (ℕ → Body) → List ℕ → Body
picks_on go [] = End
picks_on go (i ∷ js) = picks go (i ∷ js)

-- comparisons of the index at place i with those at each of these, each with an open brace
abbrev pub open_guards : ℕ → List ℕ → List Token → List Token
open_guards i [] r = r
open_guards i (j ∷ js) r = lexeme (codes "if") ∷ lexeme (codes "(") ∷ spell (less i j)
    (lexeme (codes ")") ∷ lexeme (codes "{") ∷ open_guards i js r)

-- this many closing braces
abbrev pub close_braces : ℕ → List Token → List Token
close_braces zero r = r
close_braces (suc n) r = lexeme (codes "}") ∷ close_braces n r

-- these places begin with this prefix, of length j
pub record Begins (places front : List ℕ) (j : ℕ) : Type 0 where
  pub size : j ≡ length front
  pub within : j ≤ length places
  pub same : take j places ≡ front

-- the function of the filter, if there is one
abbrev pub filter_funs : List ℕ → Option FilterCode → List Fun
filter_funs x None = []
filter_funs x (Some f) = one_fun (filter_name x) (filter_body f) ∷ []

-- its call, and what follows
abbrev pub filter_tried : List ℕ → Option FilterCode → Body → Body
filter_tried x None b = b
filter_tried x (Some f) b = Group 2 (attempt answer_name (filter_name x)) b
