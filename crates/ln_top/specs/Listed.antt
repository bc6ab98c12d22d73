-- States that the listing that `list` writes has the perturbed signs, and that `verify` finds it valid.
use Rattle.std.specs.Prelude.{◌≡◌, ◌≢◌, ℕ, pos, List, [], ◌∷◌, codes, Option}
use Rattle.std.specs.List.{AllZip}
use Rattle.ln_base.specs.Outside.{Shelf, Shown}
use Rattle.ln_algebra.specs.Orders.{BySmallest}
use Rattle.ln_tree.specs.declared.shape.Shape.{Shape}
use Rattle.ln_tree.specs.Names.{name_bytes}
use Rattle.ln_tree.specs.Row.{InRange, Row}
use Rattle.ln_tree.specs.Table.{PredOf}
use Rattle.ln_code.specs.declared.verdict.Verdict.{Verdict}
use Rattle.ln_code.specs.Part.{Part}
use Rattle.ln_code.specs.Verdict.{IsVerdict}
use Rattle.ln_cert.specs.Listing.{ListText, Listed, parts_of}
use Rattle.ln_verify.specs.AsPart.{part_of}
use Rattle.ln_verify.specs.Line.{Written}
use Rattle.ln_verify.specs.Verified.{IsValidFor}
use Rattle.ln_top.specs.declared.frame.status.End.TheVariants.{Done}
use Rattle.ln_top.specs.declared.words.Command.TheVariants as command
use Rattle.ln_top.specs.ByValue.{IsVerdictByValue, plain_value}
use Rattle.ln_top.specs.Perturbed.{FilterDecides, IsSignOn, NotZeroWithoutParams}
use Rattle.ln_top.specs.Frame.Said.{line, put_both, whole}
use Rattle.ln_top.specs.Frame.Given.{Given}
use Rattle.ln_top.specs.Steps.{WhereGiven}
use Rattle.ln_top.specs.Judges.Verify.{VerifySaid}

-- on this row the machine of the part has a verdict, so no operation leaves its certified width; whatever verdict it has, its sign is
-- the perturbed sign of the predicate. Without params it isn't 0
pub record GivesPerturbedSign (p : PredOf) (part : Part) (row : Row) : Type 0 where
  pub verdict : Verdict
  pub answers : IsVerdict part row verdict
  pub perturbed : (v : Verdict) → IsVerdict part row v → IsSignOn BySmallest p row v.sign
  pub never_zero : (v : Verdict) → IsVerdict part row v → NotZeroWithoutParams p v.sign

-- the same; and where the filter decides, no operation is done in 128 bits; where the value on the row isn't 0, that decides
pub record GivesFilteredSign (p : PredOf) (part : Part) (row : Row) : Type 0 where
  pub signed : GivesPerturbedSign p part row
  pub narrow : FilterDecides p row → (v : Verdict) → IsVerdict part row v → v.wide ≡ 0
  pub plain : plain_value p row ≢ pos 0 → (v : Verdict) → IsVerdict part row v → IsVerdictByValue p row v

-- what is claimed of a predicate, a part and a row
abbrev pub Claim : Type 1
Claim = PredOf → Part → Row → Type 0

-- the claim holds of the machine's part over the predicate's sites and variables, of what the listing writes for it, on each row in its
-- declared ranges
pub record PartGives (claim : Claim) (p : PredOf) (w : Written) : Type 0 where
  pub shape : Shape
  pub name : name_bytes shape.name ≡ p.name
  pub sites : shape.sites ≡ p.sites
  pub vars : shape.vars ≡ p.vars
  pub rows : (row : Row) → InRange p.sites p.vars row → claim p (part_of shape w) row

-- the part of each predicate, in order, returns the perturbed signs
abbrev pub PartsGiveSigns : List PredOf → List Written → Type 0
PartsGiveSigns = AllZip (PartGives GivesPerturbedSign)

-- what came to Out is the text of a listing that is valid for the source's predicates and whose parts return their signs, and nothing came
-- to Err; and `verify` of a file that holds this text, over the same table, requires `valid`
pub record PutListing (g : Given) (was now : Option Shown) : Type 0 where
  pub bytes : List ℕ
  pub listing : Listed
  pub text : ListText bytes listing.version (parts_of listing.entries)
  pub valid : IsValidFor g.table.preds listing
  pub signs : AllZip (PartGives GivesFilteredSign) g.table.preds valid.valid.parts
  pub verified : (h : Given) → h.table ≡ g.table → h.texts ≡ bytes ∷ [] → VerifySaid h (whole Done (line (codes "valid")))
  pub shown : now ≡ put_both bytes [] was

-- where the words are `list FILE`, and the source that the files contain is accepted, such a listing came to Out
abbrev pub ListingGivesSigns : List (List ℕ) → Shelf → Option Shown → Option Shown → Type 0
ListingGivesSigns words shelf was now = WhereGiven words shelf command.List (λ g. PutListing g was now)
