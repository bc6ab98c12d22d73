-- `list FILE`: the listing of the programs of a source.
use Rattle.std.specs.Prelude.{◌≡◌, ℕ, List, take, codes}
use Rattle.std.specs.List.{AllByRecursion, AllZip}
use Rattle.ln_tree.specs.declared.shape.Shape.{Shape}
use Rattle.ln_tree.specs.Names.{name_bytes}
use Rattle.ln_tree.specs.Row.{InRange, Row}
use Rattle.ln_tree.specs.Table.{PredOf}
use Rattle.ln_code.specs.declared.verdict.Verdict.{Verdict}
use Rattle.ln_code.specs.declared.verdict.By.TheVariants.{Filter}
use Rattle.ln_code.specs.Part.{Part}
use Rattle.ln_code.specs.Verdict.{IsVerdict}
use Rattle.ln_compile.specs.Compiled.{AreProgramsOf}
use Rattle.ln_compile.specs.Filtered.{IsDue}
use Rattle.ln_cemit.specs.Emitted.{AreKept}
use Rattle.ln_cert.specs.Listing.{ListText, Listed, parts_of}
use Rattle.ln_cert.specs.Written.{IsListable, listing_of}
use Rattle.ln_verify.specs.AsPart.{part_of}
use Rattle.ln_verify.specs.Line.{Written}
use Rattle.ln_verify.specs.Verified.{IsValidFor}
use Rattle.ln_top.specs.Frame.Said.{Said}
use Rattle.ln_top.specs.Frame.Given.{Given}
use Rattle.ln_top.specs.Frame.Work.{Work}
use Rattle.ln_top.specs.Frame.Signature.{Signature}
use Rattle.ln_top.specs.Texts.Text.{Prints, source_signature, text_work}

-- ---- what a listing can state
-- each of these programs can be listed
abbrev pub AreListable : List Part → Type 0
AreListable = AllByRecursion IsListable

-- ---- the verdicts of its machine
-- on this row the machine of the part has a verdict; whatever verdict it has, its sign, its decider and its calls are those that the row requires,
-- and no operation is done in 128 bits where the filter decides
pub record AnswersDue (p : PredOf) (part : Part) (row : Row) : Type 0 where
  pub verdict : Verdict
  pub answers : IsVerdict part row verdict
  pub due : (v : Verdict) → IsVerdict part row v → IsDue p row v
  pub narrow : (v : Verdict) → IsVerdict part row v → v.by ≡ Filter → v.wide ≡ 0

-- the machine's part over the predicate's sites and variables, of what a listing writes for it, has such verdicts on each row in range
pub record PartIsDue (p : PredOf) (w : Written) : Type 0 where
  pub shape : Shape
  pub name : name_bytes shape.name ≡ p.shape_name
  pub sites : shape.sites ≡ p.sites
  pub vars : shape.vars ≡ p.vars
  pub rows : (row : Row) → InRange p.sites p.vars row → AnswersDue p (part_of shape w) row

-- the bytes are the text of a listing of version 2 that is valid for these predicates, and whose parts have the verdicts that their rows require;
-- it is that of programs of the predicates, one for each, that follow the rules
pub record IsListingOf (preds : List PredOf) (bytes : List ℕ) : Type 0 where
  pub listing : Listed
  pub second : listing.version ≡ 2
  pub text : ListText bytes listing.version (parts_of listing.entries)
  pub valid : IsValidFor preds listing
  pub due : AllZip PartIsDue preds valid.valid.parts
  pub programs : List Part
  pub are_programs : AreProgramsOf preds programs
  pub kept : AreKept programs
  pub lines : parts_of listing.entries ≡ listing_of programs

-- the bytes are the listing of programs of the first i predicates, one for each in order, which follow the rules and can be listed
pub record IsListingOfFirst (preds : List PredOf) (i : ℕ) (bytes : List ℕ) : Type 0 where
  pub programs : List Part
  pub are_programs : AreProgramsOf (take i preds) programs
  pub kept : AreKept programs
  pub listable : AreListable programs
  pub text : ListText bytes 2 (listing_of programs)

-- what may be said: such a listing of the source's predicates
abbrev pub ListSaid : Given → Said → Type 0
ListSaid g = Prints (IsListingOf g.table.preds)

-- the signature of `list`
abbrev pub list_signature : Signature
list_signature = source_signature (codes "list")

-- the work of `list`
abbrev pub list_work : Work
list_work = text_work IsListingOf ⊥
