-- Why a text has no table.
use Rattle.std.specs.Prelude.{◌≡◌, ℕ, suc, ◌≤◌, ◌⊎◌, nat_lt, if◌then◌else◌, List, length}
use Rattle.ln_base.specs.Limits.{most_tokens}
use Rattle.ln_base.specs.Outside.{refused}
use Rattle.ln_syntax.specs.Raw.{Span, Token, Item, span_at}
use Rattle.ln_lex.specs.Tokens.{Lexed, IsLexFault, IsLexLimit}
use Rattle.ln_syntax.specs.File.{Spelt}
use Rattle.ln_syntax.specs.Place.{IsShallow, IsSyntaxFault, IsNestingFault}
use Rattle.ln_names.specs.declared.faults.Fault.{Fault}
use Rattle.ln_names.specs.declared.faults.Fault.TheVariants.{Limit as OfLimit, Named as OfName}
use Rattle.ln_names.specs.declared.faults.LimitWhat.TheVariants.{Tokens, Nesting}
use Rattle.ln_names.specs.declared.faults.Found.{Found}
use Rattle.ln_names.specs.First.{FirstFault, NoFault}
use Rattle.ln_tree.specs.Table.{TableOf}
use Rattle.ln_parse.specs.Text.{TextOf}
use Rattle.ln_parse.specs.declared.source.ParseStop.{ParseStop}
use Rattle.ln_parse.specs.declared.source.ParseStop.TheVariants.{Lexical, Limit, Syntax, Name, NoMemory}

-- the span of one byte
abbrev pub one_byte : ℕ → Span
one_byte at = record { start = at; end = suc at }

-- the span of token number k, or the empty span at the end of the source
abbrev pub place_of : List ℕ → List Token → ℕ → Span
place_of bytes ts k = if nat_lt k (length ts) then span_at ts k else record { start = length bytes; end = length bytes }

-- the refusal for a fault of names and limits
abbrev pub stop_of : Fault → Span → ParseStop
stop_of (OfLimit what) at = Limit what at
stop_of (OfName what) at = Name what at

-- the fault of the first pass that finds one, and its place
pub data TextFault (bytes : List ℕ) : ParseStop → Type 0 where
  -- a byte begins neither blank, comment nor token
  lexical : {at : ℕ} → IsLexFault bytes at → TextFault bytes (Lexical (one_byte at))
  -- token 65,537 begins at a byte
  tokens : {at : ℕ} → IsLexLimit bytes at → TextFault bytes (Limit Tokens (one_byte at))
  -- a parenthesis is nested too deep
  nesting : {ts : List Token} {k : ℕ} → Lexed bytes ts → length ts ≤ most_tokens → IsNestingFault ts k →
      TextFault bytes (Limit Nesting (span_at ts k))
  -- a token, or the end, with which no file of the grammar goes on
  syntax : {ts : List Token} {k : ℕ} → Lexed bytes ts → length ts ≤ most_tokens → IsShallow ts → IsSyntaxFault ts k →
      TextFault bytes (Syntax (place_of bytes ts k))
  -- a token that breaks a rule of names and limits
  names : {ts : List Token} {is : List Item} {f : Found} → Lexed bytes ts → length ts ≤ most_tokens → IsShallow ts → Spelt ts is →
      FirstFault bytes ts is f → TextFault bytes (stop_of f.fault f.at)

-- no pass finds a fault
pub record IsFaultless (bytes : List ℕ) (ts : List Token) (is : List Item) : Type 0 where
  pub lexed : Lexed bytes ts
  pub few : length ts ≤ most_tokens
  pub shallow : IsShallow ts
  pub spelt : Spelt ts is
  pub clean : NoFault bytes ts is

-- a refusal is the fault of the text, or out of memory
abbrev pub IsRefusal : List ℕ → ParseStop → Type 0
IsRefusal bytes e = TextFault bytes e ⊎ (e ≡ NoMemory refused)

-- a text with a table is refused only when out of memory
abbrev pub IsWithoutTable : List ℕ → ParseStop → Type 0
IsWithoutTable bytes e = (t : TableOf) → TextOf bytes t → e ≡ NoMemory refused
