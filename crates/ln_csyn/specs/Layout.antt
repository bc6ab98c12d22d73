-- How a function is laid out whose tokens have one blank each after them: a statement a line, indented by its braces, an empty line
-- before the function, and no blank where two tokens need none.
use Rattle.std.specs.Prelude.{ℕ, zero, suc, ◌-◌, ◌==◌, ◌&&◌, ◌||◌, not, nat_lt, Bool, true, false, if◌then◌else◌, List, [], ◌∷◌, ◌++◌, ◌≡◌}
use Rattle.ln_base.specs.Words.{is_name_byte}
use Rattle.ln_csyn.specs.declared.layout.Spot.{Spot}
use Rattle.ln_csyn.specs.Tree.{Fun}
use Rattle.ln_csyn.specs.Text.{CText, first_line, is_double}
use Rattle.ln_csyn.specs.Lines.{SameUpToLines}
use Rattle.ln_csyn.specs.Spelling.{spell_fun, written}

-- two bytes that would be one token, or might begin one
abbrev pub fuses : ℕ → ℕ → Bool
fuses last b = (is_name_byte last && is_name_byte b) || (is_double last && (b == 61))

-- ; { }
abbrev pub ends_line : ℕ → Bool
ends_line b = (b == 59) || (b == 123) || (b == 125)

-- + - * / < = > !
abbrev pub is_operator : ℕ → Bool
is_operator b = (b == 43) || (b == 45) || (b == 42) || (b == 47) || (b == 60) || (b == 61) || (b == 62) || (b == 33)

-- a minus after a parenthesis, and the star of a pointer
abbrev pub is_tight : ℕ → ℕ → Bool
is_tight last b = ((b == 45) && (last == 40)) || ((b == 42) && is_name_byte last)

-- an operator has blanks round it
abbrev pub spaced_around : Spot → ℕ → Bool
spaced_around s b = (is_operator b && not (s.last == 40)) || (is_operator s.last && not s.tight)

-- after a comma, before a brace, and between the word that begins a line and a parenthesis
abbrev pub is_spaced : Spot → ℕ → Bool
is_spaced s b = (s.last == 44) || (b == 123) || ((b == 40) && (s.first && is_name_byte s.last))

-- a blank is written before the byte
abbrev pub is_apart : Spot → ℕ → Bool
is_apart s b = fuses s.last b || (spaced_around s b || is_spaced s b)

-- 64 braces are the most that a text of the subset opens
abbrev pub deeper : ℕ → ℕ
deeper d = if nat_lt d 64 then suc d else d

-- one open brace fewer, where there is one
abbrev pub shallower : ℕ → ℕ
shallower d = if d == 0 then d else d - 1

-- the number of open braces after this byte
abbrev pub turned : ℕ → ℕ → ℕ
turned d b = if b == 123 then deeper d else if b == 125 then shallower d else d

-- a line that begins with a closing brace is indented like the one that opened it
abbrev pub gap_depth : ℕ → ℕ → ℕ
gap_depth d b = if b == 125 then shallower d else d

-- two blanks for each brace
abbrev pub indent : ℕ → List ℕ → List ℕ
indent zero r = r
indent (suc n) r = 32 ∷ 32 ∷ indent n r

-- what is written before a token that begins with this byte: a new line, a blank or nothing
abbrev pub gap : Spot → ℕ → List ℕ → List ℕ
gap s b r =
    if b == 10 then r
    else if ends_line s.last then 10 ∷ indent (gap_depth s.depth b) r
    else if is_apart s b then 32 ∷ r
    else r

-- after the first byte of a token
abbrev pub begun : Spot → ℕ → Spot
begun s b = record { last = b; depth = turned s.depth b; first = ends_line s.last; tight = is_tight s.last b; over = false }

-- after a further byte of it
abbrev pub grown : Spot → ℕ → Spot
grown s b = record { last = b; depth = s.depth; first = s.first; tight = false; over = false }

-- after the blank that ends it
abbrev pub ended : Spot → Spot
ended s = record { last = s.last; depth = s.depth; first = s.first; tight = s.tight; over = true }

-- after a byte: a blank ends a token, any other byte begins one or goes on with it
abbrev pub next_spot : Spot → ℕ → Spot
next_spot s b = if b == 32 then ended s else if s.over then begun s b else grown s b

-- what is written for a byte, before a rest: nothing for a blank; the byte, with the gap before it where it begins a token
abbrev pub put_at : Spot → ℕ → List ℕ → List ℕ
put_at s b r = if b == 32 then r else if s.over then gap s b (b ∷ r) else b ∷ r

-- these bytes laid out, and then the rest
abbrev pub laid_at : Spot → List ℕ → List ℕ → List ℕ
laid_at s [] r = r
laid_at s (b ∷ bs) r = put_at s b (laid_at (next_spot s b) bs r)

-- where a function begins
abbrev pub start : Spot
start = record { last = 59; depth = 0; first = false; tight = false; over = true }

-- a function laid out, and then the rest
abbrev pub laid_fun : Fun → List ℕ → List ℕ
laid_fun f r = laid_at start (written (spell_fun f [])) r

-- functions laid out, and then the rest
abbrev pub laid_funs : List Fun → List ℕ → List ℕ
laid_funs [] r = r
laid_funs (f ∷ fs) r = laid_fun f (laid_funs fs r)

-- the text of a file, laid out
abbrev pub laid_text : List Fun → List ℕ
laid_text fs = first_line ++ laid_funs fs []

-- the bytes are this file, up to lines
pub record IsTextOf (bytes : List ℕ) (fs : List Fun) : Type 0 where
  pub file : List Fun
  pub text : CText bytes file
  pub same : SameUpToLines file fs

-- what was written before and what is written now: between them these functions were laid out
pub record Lays (old new : List ℕ) (fs : List Fun) : Type 0 where
  pub is : (r : List ℕ) → new ++ r ≡ old ++ laid_funs fs r

-- a line ends here
abbrev pub at_end : List ℕ → Bool
at_end [] = false
at_end (b ∷ bs) = b == 10

-- after each ; { and } a line ends
abbrev pub lines_end : List ℕ → Bool
lines_end [] = true
lines_end (b ∷ bs) = (not (ends_line b) || at_end bs) && lines_end bs
