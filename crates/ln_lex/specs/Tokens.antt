-- Which bytes are which tokens.
use Rattle.std.specs.Prelude.{◌≡◌, ℕ, suc, ◌+◌, ◌-◌, ◌<◌, ◌≤◌, ◌==◌, ◌&&◌, ◌||◌, not, Bool, true, false, if◌then◌else◌}
use Rattle.std.specs.Prelude.{nat_lt, List, [], ◌∷◌, length, take, drop, Option, Some, None, codes, bytes_eq}
use Rattle.ln_base.specs.Limits.{most_tokens}
use Rattle.ln_base.specs.Words.{is_digit, is_letter, is_name_byte, every}
use Rattle.ln_lex.specs.declared.byte.Class.{Class}
use Rattle.ln_lex.specs.declared.byte.Class.TheVariants.{InName, Digits, InComment}
use Rattle.ln_lex.specs.declared.token.Kind.{Kind}
use Rattle.ln_lex.specs.declared.token.Kind.TheVariants.{Name, Number, Site, Param, Predicate, Let, Sign, BraceL, BraceR, ParL}
use Rattle.ln_lex.specs.declared.token.Kind.TheVariants.{ParR, Colon, Semi, Comma, Dot, Dots, Plus, Minus, Star, Caret, Equals}
use Rattle.ln_lex.specs.declared.token.Token.{Token}
use Rattle.ln_lex.specs.declared.scan.LexStop.{LexStop}
use Rattle.ln_lex.specs.declared.scan.LexStop.TheVariants.{Lexical, Limit, NoMemory}
use Rattle.ln_base.specs.Runs.{run_len}

-- space, tab, line feed and carriage return
abbrev pub is_blank : ℕ → Bool
is_blank b = (b == 32) || (b == 9) || (b == 10) || (b == 13)

-- a word is one of the five keywords, or else a name
abbrev pub word_kind : List ℕ → Kind
word_kind text =
    if bytes_eq text (codes "site") then Site
    else if bytes_eq text (codes "param") then Param
    else if bytes_eq text (codes "predicate") then Predicate
    else if bytes_eq text (codes "let") then Let
    else if bytes_eq text (codes "sign") then Sign
    else Name

-- the signs of one byte: { } ( ) : ; , . + - * ^ =
abbrev pub sign_of : ℕ → Option Kind
sign_of b =
    if b == 123 then Some BraceL
    else if b == 125 then Some BraceR
    else if b == 40 then Some ParL
    else if b == 41 then Some ParR
    else if b == 58 then Some Colon
    else if b == 59 then Some Semi
    else if b == 44 then Some Comma
    else if b == 46 then Some Dot
    else if b == 43 then Some Plus
    else if b == 45 then Some Minus
    else if b == 42 then Some Star
    else if b == 94 then Some Caret
    else if b == 61 then Some Equals
    else None

-- the signs: those of one byte, and two dots
abbrev pub sign_kind : ℕ → List ℕ → Option Kind
sign_kind b [] = sign_of b
sign_kind b (c ∷ []) = if (b == 46) && (c == 46) then Some Dots else None
sign_kind b (c ∷ d ∷ bs) = None

-- the kind of a token with this text; no kind where no token has it
abbrev pub kind_of : List ℕ → Option Kind
kind_of [] = None
kind_of (b ∷ bs) =
    if is_letter b then (if every is_name_byte bs then Some (word_kind (b ∷ bs)) else None)
    else if is_digit b then (if every is_digit bs then Some Number else None)
    else sign_kind b bs

-- the first n bytes are a token of this kind, and no more bytes are a token
pub record IsFirst (bytes : List ℕ) (n : ℕ) (k : Kind) : Type 0 where
  pub some : 0 < n
  pub within : n ≤ length bytes
  pub spelt : kind_of (take n bytes) ≡ Some k
  pub longest : (m : ℕ) → n < m → m ≤ length bytes → kind_of (take m bytes) ≡ None

-- no first bytes are a token
abbrev pub BeginsNone : List ℕ → Type 0
BeginsNone bytes = (m : ℕ) → m ≤ length bytes → kind_of (take m bytes) ≡ None

-- the bytes that a comment may hold after its slashes: 0 to 127 but for the line feed
abbrev pub in_comment : ℕ → Bool
in_comment b = nat_lt b 128 && not (b == 10)

-- a comment runs up to the first byte that it can't hold, or to the end
abbrev pub comment_len : List ℕ → ℕ
comment_len bytes = 2 + run_len in_comment (drop 2 bytes)

-- the first two bytes are both this one
abbrev pub begins_twice : ℕ → List ℕ → Bool
begins_twice b [] = false
begins_twice b (c ∷ []) = false
begins_twice b (c ∷ d ∷ bs) = (c == b) && (d == b)

-- the bytes of a class that runs on
abbrev pub in_class : Class → ℕ → Bool
in_class InName = is_name_byte
in_class Digits = is_digit
in_class InComment = in_comment

-- the first two bytes are slashes
abbrev pub begins_comment : List ℕ → Bool
begins_comment bytes = begins_twice 47 bytes

-- the first byte is a blank
abbrev pub begins_blank : List ℕ → Bool
begins_blank [] = false
begins_blank (b ∷ bs) = is_blank b

-- the first n bytes are blanks and comments
pub data Skips : List ℕ → ℕ → Type 0 where
  nothing : {bytes : List ℕ} → Skips bytes 0
  blank : {bytes : List ℕ} {n : ℕ} → begins_blank bytes ≡ true → Skips (drop 1 bytes) n → Skips bytes (suc n)
  comment : {bytes : List ℕ} {n k : ℕ} → begins_comment bytes ≡ true → k ≡ comment_len bytes + n →
      Skips (drop (comment_len bytes) bytes) n → Skips bytes k

-- from place `at` to place `to` there are these tokens, each the longest at its place, after blanks and comments
abbrev pub Stand : List ℕ → ℕ → List Token → ℕ → Type 0
Stand bytes at [] to = at ≡ to
Stand bytes at (t ∷ ts) to =
    (at ≤ t.span.start) × Skips (drop at bytes) (t.span.start - at) × (t.span.start ≤ t.span.end)
    × IsFirst (drop t.span.start bytes) (t.span.end - t.span.start) t.kind × Stand bytes t.span.end ts to

-- the bytes are these tokens, and only blanks and comments follow the last
pub record Lexed (bytes : List ℕ) (ts : List Token) : Type 0 where
  pub to : ℕ
  pub tokens : Stand bytes 0 ts to
  pub within : to ≤ length bytes
  pub rest : Skips (drop to bytes) (length bytes - to)

-- after these tokens, blanks and comments there is a byte at this place that is neither blank nor comment
pub record Behind (bytes : List ℕ) (before : List Token) (at : ℕ) : Type 0 where
  pub to : ℕ
  pub tokens : Stand bytes 0 before to
  pub gap : Skips (drop to bytes) (at - to)
  pub order : to ≤ at
  pub within : at < length bytes
  pub no_blank : begins_blank (drop at bytes) ≡ false
  pub no_comment : begins_comment (drop at bytes) ≡ false

-- the byte at this place is the first that begins neither blank, comment nor token, and at most 65,536 tokens come before
pub record IsLexFault (bytes : List ℕ) (at : ℕ) : Type 0 where
  pub before : List Token
  pub few : length before ≤ most_tokens
  pub behind : Behind bytes before at
  pub no_token : BeginsNone (drop at bytes)

-- token 65,537 begins at this place
pub record IsLexLimit (bytes : List ℕ) (at : ℕ) : Type 0 where
  pub before : List Token
  pub many : length before ≡ most_tokens
  pub behind : Behind bytes before at
  pub n : ℕ
  pub kind : Kind
  pub token : IsFirst (drop at bytes) n kind

-- what each refusal means for the bytes
abbrev pub StopsLexing : List ℕ → LexStop → Type 0
StopsLexing bytes (Lexical at) = IsLexFault bytes at
StopsLexing bytes (Limit at) = IsLexLimit bytes at
StopsLexing bytes (NoMemory _) = Unit {0}

-- the token has at least one byte, ends within the bytes, and its slice is a text of its kind
pub record IsSlice (bytes : List ℕ) (t : Token) : Type 0 where
  pub some : t.span.start < t.span.end
  pub within : t.span.end ≤ length bytes
  pub text : kind_of (take (t.span.end - t.span.start) (drop t.span.start bytes)) ≡ Some t.kind

-- no token begins before this place, nor before the end of the one before it
abbrev pub RiseFrom : ℕ → List Token → Type 0
RiseFrom at [] = Unit {0}
RiseFrom at (t ∷ ts) = (at ≤ t.span.start) × (t.span.start < t.span.end) × RiseFrom t.span.end ts
