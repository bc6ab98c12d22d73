-- Why the program stops before its end, and what it writes then.
use Rattle.std.specs.Prelude.{◌≡◌, ◌≢◌, ◌⊎◌, ℕ, ◌<◌, List, [], ◌∷◌, ◌++◌, length, Option, Some, IfSome, Contains, codes, decimal}
use Rattle.ln_base.specs.Limits.{most_file}
use Rattle.ln_base.specs.Outside.{IsAbsent, Rose, Shelf, Shown, appended, bytes_of}
use Rattle.ln_base.specs.declared.outside.Port.TheVariants.{Out}
use Rattle.ln_base.specs.declared.whole.ReadStop.{ReadStop}
use Rattle.ln_base.specs.declared.whole.ReadStop.TheVariants.{Fault, TooLong, NoMemory}
use Rattle.ln_csyn.specs.declared.stop.CStop.{CStop}
use Rattle.ln_csyn.specs.declared.stop.CStop.TheVariants.{NotSubset, NoMemory as OutOfMemory}
use Rattle.ln_csyn.specs.Text.{CText}
use Rattle.ln_csyn.specs.Tree.{Fun}
use Rattle.ln_cmean.specs.Carrying.Calls.{AreMeant, IsFirstOther}
use Rattle.ln_cmean.specs.declared.program.stop.Stop.{Stop}
use Rattle.ln_cmean.specs.declared.program.stop.Stop.TheVariants.{Subset, Usage, Call, Read, Write, Long, Memory}

-- ---- what it is

-- the stop where a file wasn't read
abbrev pub of_read : ReadStop → Stop
of_read Fault = Read
of_read TooLong = Long
of_read (NoMemory m) = Memory m

-- the stop where a C file wasn't read
abbrev pub of_c : CStop → Stop
of_c NotSubset = Subset
of_c (OutOfMemory m) = Memory m

-- ---- its cause

-- The bytes are no file of the C subset.
abbrev pub IsNoFile : List ℕ → Type 0
IsNoFile bytes = (fs : List Fun) → CText bytes fs → ⊥

-- A file of this name has bytes of this kind, where the bytes of files are known.
abbrev pub HasBytes : Option Shelf → List ℕ → (List ℕ → Type 0) → Type 0
HasBytes told name P = IfSome told (λ shelf. (bytes : List ℕ) × (bytes_of name shelf ≡ Some bytes) × P bytes)

-- The words name two files; the first is no file of the subset.
pub record NamesNoFile (words : List (List ℕ)) (told : Option Shelf) : Type 0 where
  pub file : List ℕ
  pub calls : List ℕ
  pub named : words ≡ file ∷ (calls ∷ [])
  pub content : HasBytes told file IsNoFile

-- The words name two files; of the second, line n is the first that isn't a call.
pub record NamesOther (words : List (List ℕ)) (told : Option Shelf) (n : ℕ) : Type 0 where
  pub file : List ℕ
  pub calls : List ℕ
  pub named : words ≡ file ∷ (calls ∷ [])
  pub content : HasBytes told calls (λ text. IsFirstOther text n)

-- A word names a file that isn't there.
pub record NamesAbsent (words : List (List ℕ)) (told : Option Shelf) : Type 0 where
  pub name : List ℕ
  pub word : Contains words name
  pub absent : IsAbsent name told

-- A word names a file with more than 64 MiB, where the bytes of files are known.
pub record NamesLong (words : List (List ℕ)) (told : Option Shelf) : Type 0 where
  pub name : List ℕ
  pub word : Contains words name
  pub long : IfSome told (λ shelf. IfSome (bytes_of name shelf) (λ bytes. most_file < length bytes))

-- The cause of a stop: from the words, what is known of the bytes of files, and how many faults of files and of streams there were before and
-- after. Memory can run out at any time.
abbrev pub IsCause : Stop → List (List ℕ) → Option Shelf → ℕ × ℕ → ℕ × ℕ → Type 0
IsCause Usage words told reads writes = length words ≢ 2
IsCause Subset words told reads writes = NamesNoFile words told
IsCause (Call n) words told reads writes = NamesOther words told n
IsCause Read words told reads writes = Rose reads.0 reads.1 ⊎ NamesAbsent words told
IsCause Long words told reads writes = NamesLong words told
IsCause Write words told reads writes = Rose writes.0 writes.1
IsCause (Memory m) words told reads writes = Unit {0}

-- ---- what is written

-- What has been written on standard output is the beginning of the meanings of the calls, where the bytes of files are known.
pub record IsBegun (words : List (List ℕ)) (told : Option Shelf) (was now : Option Shown) : Type 0 where
  pub part : List ℕ
  pub written : now ≡ appended Out part was
  pub begins : IfSome told (λ shelf. (rest : List ℕ) × AreMeant words shelf (part ++ rest))

-- Nothing has been written on standard output, unless writing failed: then the beginning of the meanings may have been.
abbrev pub IsUnwritten : Stop → List (List ℕ) → Option Shelf → Option Shown → Option Shown → Type 0
IsUnwritten stop words told was now = (now ≡ was) ⊎ ((stop ≡ Write) × IsBegun words told was now)

-- the exit status
abbrev pub status : Stop → ℕ
status Subset = 1
status Usage = 2
status (Call n) = 3
status Read = 6
status Write = 7
status Long = 8
status (Memory m) = 9

-- the line on standard error, or nothing
abbrev pub stop_line : Stop → List ℕ
stop_line Subset = codes "error subset\n"
stop_line Usage = codes "error usage\n"
stop_line (Call n) = codes "error call " ++ (decimal n ++ (10 ∷ []))
stop_line Read = codes "error read\n"
stop_line Write = []
stop_line Long = codes "error long\n"
stop_line (Memory m) = []
