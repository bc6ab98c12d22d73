-- Calls as the lines of a text, and the lines that are written for them.
use Rattle.std.specs.Prelude.{◌≡◌, ℕ, suc, ◌<◌, List, [], ◌∷◌, ◌++◌, length, take, drop, Option, Some, None, codes, decimal, ℤ, All, FitsSigned, IsUtf8}
use Rattle.std.proofs.Common.{zero, w64}
use Rattle.std.specs.Fmt.{signed_decimal}
use Rattle.ln_base.specs.Lines.{span_to, words}
use Rattle.ln_base.specs.Outside.{Shelf, Shown, appended, bytes_of}
use Rattle.ln_base.specs.declared.outside.Port.TheVariants.{Out}
use Rattle.ln_csyn.specs.Meaning.{CCall, CMeaning, Signed, Undefined}
use Rattle.ln_csyn.specs.Text.{CText}
use Rattle.ln_csyn.specs.Tree.{Fun}

-- ---- a call

-- integers with a comma before each
abbrev pub commas : List ℤ → List ℕ
commas [] = []
commas (z ∷ zs) = 44 ∷ (signed_decimal z ++ commas zs)

-- integers with a comma between any two
abbrev pub listed : List ℤ → List ℕ
listed [] = []
listed (z ∷ zs) = signed_decimal z ++ commas zs

-- an integer of 64 bits
abbrev pub IsWord : ℤ → Type 0
IsWord z = FitsSigned w64 z

-- The line, without its line feed, is a call of the function of this name on these indices and values: three words, of which the name is UTF-8
-- and the others are lists of integers of 64 bits.
pub record IsCall (line name : List ℕ) (index values : List ℤ) : Type 0 where
  pub three : words line ≡ name ∷ (listed index ∷ (listed values ∷ []))
  pub text : IsUtf8 name
  pub index_fits : All IsWord index
  pub values_fit : All IsWord values

-- The line is a call.
abbrev pub IsSomeCall : List ℕ → Type 0
IsSomeCall line = (name : List ℕ) × (index : List ℤ) × (values : List ℤ) × IsCall line name index values

-- The line isn't a call.
abbrev pub IsNoCall : List ℕ → Type 0
IsNoCall line = (name : List ℕ) (index values : List ℤ) → IsCall line name index values → ⊥

-- ---- its meaning

-- a sign, how many operations were done in `__int128` and how many functions were called
abbrev pub sign_words : ℤ → ℕ → ℕ → List ℕ
sign_words z wide calls = signed_decimal z ++ (32 ∷ (decimal wide ++ (32 ∷ decimal calls)))

-- the line of the file at which a call has no meaning
abbrev pub undefined_words : ℕ → List ℕ
undefined_words l = codes "undefined" ++ (32 ∷ decimal l)

-- a meaning; none where no function with two parameters has the name
abbrev pub meaning_words : Option CMeaning → List ℕ
meaning_words (Some (Signed z k)) = sign_words z k.wide k.calls
meaning_words (Some (Undefined l)) = undefined_words l
meaning_words None = codes "none"

-- The line is a call, and its meaning in a file of these functions is the other line, which has its line feed.
pub record IsMeaning (fs : List Fun) (line out : List ℕ) : Type 0 where
  pub name : List ℕ
  pub index : List ℤ
  pub values : List ℤ
  pub call : IsCall line name index values
  pub meaning : out ≡ meaning_words (CCall fs name index values) ++ (10 ∷ [])

-- The meaning of the call that the line is was appended.
pub record IsPut (fs : List Fun) (line old new : List ℕ) : Type 0 where
  pub out : List ℕ
  pub meaning : IsMeaning fs line out
  pub appended : new ≡ old ++ out

-- ---- all calls of a text

-- the first line, without its line feed
abbrev pub first : List ℕ → List ℕ
first text = take (span_to 10 text) text

-- the text after the first line feed
abbrev pub later : List ℕ → List ℕ
later text = drop (suc (span_to 10 text)) text

-- what remains of a text after its first k lines
abbrev pub after_lines : ℕ → List ℕ → List ℕ
after_lines zero text = text
after_lines (suc k) text = later (after_lines k text)

-- Line n of the text, from 1, isn't a call, and each line before it is one.
pub record IsFirstOther (text : List ℕ) (n : ℕ) : Type 0 where
  pub before : ℕ
  pub number : n ≡ suc before
  pub there : 0 < length (after_lines before text)
  pub other : IsNoCall (first (after_lines before text))
  pub calls : (k : ℕ) → k < before → IsSomeCall (first (after_lines k text))

-- Each line of the text is a call, and the output has their meanings, in order. The last line may lack its line feed.
pub data AreMeanings (fs : List Fun) : List ℕ → List ℕ → Type 0 where
  none : AreMeanings fs [] []
  next : {text out rest : List ℕ} → 0 < length text → IsMeaning fs (first text) out → AreMeanings fs (later text) rest →
      AreMeanings fs text (out ++ rest)

-- The words name a C file of the subset and a text of calls, and these are the meanings of the calls.
pub record AreMeant (words : List (List ℕ)) (shelf : Shelf) (out : List ℕ) : Type 0 where
  pub file : List ℕ
  pub calls : List ℕ
  pub named : words ≡ file ∷ (calls ∷ [])
  pub bytes : List ℕ
  pub file_bytes : bytes_of file shelf ≡ Some bytes
  pub funs : List Fun
  pub file_text : CText bytes funs
  pub text : List ℕ
  pub calls_bytes : bytes_of calls shelf ≡ Some text
  pub meanings : AreMeanings funs text out

-- The words name a C file of the subset and a text of calls, and the meanings of these were written on standard output.
pub record AreWritten (words : List (List ℕ)) (shelf : Shelf) (was now : Option Shown) : Type 0 where
  pub out : List ℕ
  pub meant : AreMeant words shelf out
  pub written : now ≡ appended Out out was
