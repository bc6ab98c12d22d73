-- What the program writes and how it ends: as `lnc emit` with its file, but for the C.
use Rattle.std.specs.Prelude.{◌≡◌, ℕ, bytes_eq, codes, if◌then◌else◌, List, [], ◌∷◌, Option, Some, None}
use Rattle.ln_base.specs.Outside.{Shelf, Shown}
use Rattle.ln_tree.specs.Table.{PredOf}
use Rattle.ln_top.specs.declared.frame.status.End.TheVariants.{Done}
use Rattle.ln_top.specs.declared.frame.stop.Why.{Why}
use Rattle.ln_top.specs.declared.frame.stop.Why.TheVariants.{Usage}
use Rattle.ln_top.specs.declared.texts.written.Style.{Style}
use Rattle.ln_top.specs.declared.texts.written.Style.TheVariants.{EveryRow, Filtered, OneOrder}
use Rattle.ln_top.specs.declared.words.Command.TheVariants.{Emit}
use Rattle.ln_top.specs.Frame.Said.{Said, put_both, whole}
use Rattle.ln_top.specs.Frame.Stop.{said_of}
use Rattle.ln_top.specs.Plan.{Plan, plan_of}
use Rattle.ln_top.specs.Frame.Given.{Given, gives, stops}
use Rattle.ln_top.specs.Steps.{Prepares, WhereGiven}
use Rattle.ln_top.specs.Texts.Written.{IsCOf, promise_of}

-- the style of the C that a word before the file asks for
abbrev pub style_named : List ℕ → Style
style_named word = if bytes_eq word (codes "turning") then OneOrder else EveryRow

-- that of the words: C of one order where they are `turning FILE`
abbrev pub style_of : List (List ℕ) → Style
style_of (word ∷ file ∷ []) = style_named word
style_of words = EveryRow

-- a word and a file, without the word where it is `turning`
abbrev pub words_after : Style → List ℕ → List ℕ → List (List ℕ)
words_after OneOrder word file = file ∷ []
words_after EveryRow word file = word ∷ file ∷ []
words_after Filtered word file = word ∷ file ∷ []

-- the file that the words name, where they name one
abbrev pub file_words : List (List ℕ) → List (List ℕ)
file_words (word ∷ file ∷ []) = words_after (style_named word) word file
file_words words = words

-- the words with which `lnc` takes the same steps
abbrev pub emit_words : List (List ℕ) → List (List ℕ)
emit_words words = codes "emit" ∷ file_words words

-- what may be said of a source that is accepted: C of this style for its predicates
pub data ExactSaid (style : Style) (g : Given) : Said → Type 0 where
  written : (text : List ℕ) → IsCOf (promise_of style) g.table.preds text → ExactSaid style g (whole Done text)

-- what is required: the usage line where the words are no one file, the line of the step that stops, or the C
pub data Owes (words : List (List ℕ)) (told : Option Shelf) : Said → Type 0 where
  usage : plan_of (emit_words words) ≡ None → Owes words told (said_of Usage)
  stopped : (plan : Plan) (why : Why) → plan_of (emit_words words) ≡ Some plan → Prepares plan told (stops why)
      → Owes words told (said_of why)
  worked : (plan : Plan) (g : Given) {said : Said} → plan_of (emit_words words) ≡ Some plan → Prepares plan told (gives g)
      → ExactSaid (style_of words) g said → Owes words told said

-- what came to Out is C of this style, and nothing came to Err
pub record PutIn (style : Style) (preds : List PredOf) (was now : Option Shown) : Type 0 where
  pub bytes : List ℕ
  pub is : IsCOf (promise_of style) preds bytes
  pub shown : now ≡ put_both bytes [] was

-- where the words are a file, and the source that it contains is accepted, C for its predicates came to Out
abbrev pub CallsAreSigns : List (List ℕ) → Shelf → Option Shown → Option Shown → Type 0
CallsAreSigns words shelf was now = WhereGiven (codes "emit" ∷ words) shelf Emit (λ g. PutIn EveryRow g.table.preds was now)

-- where the words are `turning` and a file, and the source that it contains is accepted, C of one order for its predicates came to Out
abbrev pub TurningCallsAreSigns : List (List ℕ) → Shelf → Option Shown → Option Shown → Type 0
TurningCallsAreSigns words shelf was now =
    (file : List ℕ) → words ≡ codes "turning" ∷ file ∷ []
    → WhereGiven (codes "emit" ∷ file ∷ []) shelf Emit (λ g. PutIn OneOrder g.table.preds was now)
