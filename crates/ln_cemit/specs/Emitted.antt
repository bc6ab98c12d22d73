-- States what is promised of the bytes that are emitted.
use Rattle.std.specs.Prelude.{◌≡◌, ℕ, ℤ, pos, negsuc, true, List, [], ◌++◌, map, Some}
use Rattle.std.specs.List.{AllByRecursion}
use Rattle.ln_base.specs.declared.sign.Sign.{Sign}
use Rattle.ln_base.specs.declared.sign.Sign.TheVariants.{Minus, Zero, Plus}
use Rattle.ln_tree.specs.Row as tree
use Rattle.ln_tree.specs.Row.{InRange}
use Rattle.ln_code.specs.declared.verdict.Verdict.{Verdict}
use Rattle.ln_code.specs.declared.verdict.By.TheVariants.{Filter}
use Rattle.ln_code.specs.Part.{Part}
use Rattle.ln_code.specs.Kept.{ArePrograms, IsProgram}
use Rattle.ln_code.specs.Verdict.{IsVerdict}
use Rattle.ln_csyn.specs.Tree.{Fun}
use Rattle.ln_csyn.specs.Text.{CText}
use Rattle.ln_csyn.specs.Meaning.{CCall, Counts, Signed}
use Rattle.ln_cemit.specs.Heads.{head, heads_as}
use Rattle.ln_csyn.specs.Layout.{laid_funs, laid_text, lines_end}
use Rattle.ln_cemit.specs.Whole.{Entered, every_row, file_of, outer_name, parts_entered}

-- -1, 0 or 1
abbrev pub sign_as_number : Sign → ℤ
sign_as_number Minus = negsuc 0
sign_as_number Zero = pos 0
sign_as_number Plus = pos 1

-- On this row the call of the program's function returns the sign of the machine's verdict, with its calls, and with no wide operation where
-- the filter decides.
pub record EntrySays (file : List Fun) (x : Entered) (row : tree.Row) : Type 0 where
  pub verdict : Verdict
  pub counts : Counts
  pub machine : IsVerdict x.part row verdict
  pub called : CCall file (outer_name x) row.index row.values ≡ Some (Signed (sign_as_number verdict.sign) counts)
  pub calls : counts.calls ≡ verdict.calls
  pub narrow : verdict.by ≡ Filter → counts.wide ≡ 0

-- so for each program, on each row in range
abbrev pub EntriesSay : List Fun → List Entered → Type 0
EntriesSay file = AllByRecursion (λ x. (row : tree.Row) → InRange x.part.shape.sites x.part.shape.vars row → EntrySays file x row)

-- the bytes are a file of the subset, which has the functions of these programs and no other, and whose calls return the signs of the machine's
-- verdicts; it is laid out: after each ; { and } a line ends
pub record IsEmittedAs (xs : List Entered) (bytes : List ℕ) : Type 0 where
  pub file : List Fun
  pub text : CText bytes file
  pub heads : map head file ≡ heads_as xs
  pub says : EntriesSay file xs
  pub layout : bytes ≡ laid_text (file_of xs)
  pub lines : lines_end bytes ≡ true

-- the bytes are a file in which each program has `ln_NAME`
abbrev pub IsEmitted : List Part → List ℕ → Type 0
IsEmitted parts bytes = IsEmittedAs (map every_row parts) bytes

-- each of them is a program
abbrev pub AreKept : List Part → Type 0
AreKept = AllByRecursion IsProgram

-- the text of the file of programs is one
abbrev pub FileIsEmitted : Type 0
FileIsEmitted =
    (xs : List Entered) (bytes : List ℕ) → ArePrograms (parts_entered xs) → AreKept (parts_entered xs) → bytes ≡ laid_text (file_of xs) → IsEmittedAs xs bytes

-- the bytes are the text of the file of these programs: with the functions of any further programs after them, they are the text of all
pub record BeginsFileAs (bytes : List ℕ) (xs : List Entered) : Type 0 where
  pub text : (more : List Entered) → bytes ++ laid_funs (file_of more) [] ≡ laid_text (file_of (xs ++ more))
  pub kept : AreKept (parts_entered xs)

-- the same where each has `ln_NAME`
abbrev pub BeginsFile : List ℕ → List Part → Type 0
BeginsFile bytes ps = BeginsFileAs bytes (map every_row ps)

-- so it is what is promised of their C
abbrev pub BegunIsEmitted : Type 0
BegunIsEmitted = (xs : List Entered) (bytes : List ℕ) → ArePrograms (parts_entered xs) → BeginsFileAs bytes xs → IsEmittedAs xs bytes
