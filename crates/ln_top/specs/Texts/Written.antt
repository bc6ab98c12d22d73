-- The C of a source in each style: of its programs with their filters or without, each for every row, or for rows whose indices rise where that is enough.
use Rattle.std.specs.Prelude.{◌≡◌, ◌≤◌, ℕ, List, length, map, slice_get, take, None, Some}
use Rattle.std.specs.List.{AllZip}
use Rattle.ln_base.specs.Limits.{most_stages}
use Rattle.ln_tree.specs.Row.{Row}
use Rattle.ln_tree.specs.Table.{PredOf}
use Rattle.ln_code.specs.declared.verdict.Verdict.{Verdict}
use Rattle.ln_code.specs.declared.verdict.By.TheVariants.{Filter}
use Rattle.ln_code.specs.Kept.{IsProgram}
use Rattle.ln_code.specs.Part.{Part, without_filter}
use Rattle.ln_due.specs.Due.{sign_number}
use Rattle.ln_compile.specs.Compiled.{IsProgramOf}
use Rattle.ln_compile.specs.Filtered.{IsDue}
use Rattle.ln_csyn.specs.Tree.{Fun}
use Rattle.ln_csyn.specs.Text.{CText}
use Rattle.ln_csyn.specs.Meaning.{CCall, Counts, Signed}
use Rattle.ln_cemit.specs.declared.entry.Entry.{Entry}
use Rattle.ln_cemit.specs.declared.entry.Entry.TheVariants.{EveryRow}
use Rattle.ln_cemit.specs.Emitted.{BeginsFileAs}
use Rattle.ln_cemit.specs.Heads.{head, heads_as}
use Rattle.ln_cemit.specs.Names.{call_name}
use Rattle.ln_cemit.specs.Whole.{Entered, part_name}
use Rattle.ln_top.specs.declared.texts.written.Style.{Style}
use Rattle.ln_top.specs.declared.texts.written.Style.TheVariants as style
use Rattle.ln_top.specs.ExactSigns.{CallsSign}
use Rattle.ln_top.specs.OneOrder.{EntrySigns, HasEntry, reduced}
use Rattle.ln_top.specs.Target.Target.{OnRows}

-- on this row the call of `ln_NAME` returns the sign of the verdict that the row requires, with its calls, and with no wide operation where
-- the filter decides
pub record CallIsDue (file : List Fun) (p : PredOf) (row : Row) : Type 0 where
  pub verdict : Verdict
  pub due : IsDue p row verdict
  pub counts : Counts
  pub called : CCall file (call_name p.name) row.index row.values ≡ Some (Signed (sign_number verdict.sign) counts)
  pub calls : counts.calls ≡ verdict.calls
  pub narrow : verdict.by ≡ Filter → counts.wide ≡ 0

-- what C promises of each predicate: of the program that is written for it, of the rows that its function is for, and of what the calls of that mean
pub record Promise : Type 1 where
  pub part : PredOf → Part → Type 0
  pub entry : PredOf → Entry → Type 0
  pub calls : List Fun → PredOf → Entry → Type 0

-- with filters a program of the predicate, whose calls return what its rows require
abbrev pub with_filters : Promise
with_filters = record { part = IsProgramOf; entry = λ p n. n ≡ EveryRow; calls = λ file p n. OnRows (CallIsDue file) p }

-- without them a program whose calls mean the perturbed signs, on every row
abbrev pub for_every_row : Promise
for_every_row = record { part = λ p c. c.filter ≡ None; entry = λ p n. n ≡ EveryRow; calls = λ file p n. OnRows (CallsSign file) p }

-- or in one order, on the rows that the predicate's symmetry leaves
abbrev pub of_one_order : Promise
of_one_order = record { part = λ p c. c.filter ≡ None; entry = HasEntry; calls = EntrySigns }

-- a program that is named after the predicate, for which the promise is kept
pub record IsWrittenOf (k : Promise) (file : List Fun) (p : PredOf) (x : Entered) : Type 0 where
  pub name : part_name x.part ≡ p.name
  pub part : k.part p x.part
  pub entry : k.entry p x.entry
  pub calls : k.calls file p x.entry

-- the bytes are a file of the C subset, whose functions are those of such programs, one for each predicate in order, and no other: of each the
-- filter's, if there is one, the blocks', and the one that isn't static
pub record IsCOf (k : Promise) (preds : List PredOf) (bytes : List ℕ) : Type 0 where
  pub file : List Fun
  pub text : CText bytes file
  pub programs : List Entered
  pub heads : map head file ≡ heads_as programs
  pub written : AllZip (IsWrittenOf k file) preds programs

-- ---- how it is written
-- what C of each style promises
abbrev pub promise_of : Style → Promise
promise_of style.Filtered = with_filters
promise_of style.EveryRow = for_every_row
promise_of style.OneOrder = of_one_order

-- what is written of a program: the program itself, the one without its filter, or the one of one order of the sites
abbrev pub written_part : Style → Entry → Part → Part
written_part style.Filtered n c = c
written_part style.EveryRow n c = without_filter c
written_part style.OneOrder n c = reduced n c

-- the part is what is written, for this entry, of a program of the predicate with at most 65,536 blocks
pub record IsWrittenPart (s : Style) (p : PredOf) (n : Entry) (part : Part) : Type 0 where
  pub whole : Part
  pub program : IsProgramOf p whole
  pub kept : IsProgram whole
  pub small : length whole.blocks ≤ most_stages
  pub is : part ≡ written_part s n whole

-- this holds of predicate number i
abbrev pub OfNumber : List PredOf → ℕ → (PredOf → Type 0) → Type 0
OfNumber ps i holds = (p : PredOf) → slice_get ps i ≡ Some p → holds p

-- the bytes begin the C of what is written of programs of the first i predicates, one for each in order
pub record BeginsC (s : Style) (preds : List PredOf) (i : ℕ) (bytes : List ℕ) : Type 0 where
  pub programs : List Entered
  pub are : AllZip (λ p (x : Entered). (promise_of s).entry p x.entry × IsWrittenPart s p x.entry x.part) (take i preds) programs
  pub begins : BeginsFileAs bytes programs
