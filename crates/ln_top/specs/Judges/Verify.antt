-- `verify FILE LISTING`: is a listing valid for the predicates of a source, and if not, at which line does it fail first?
use Rattle.std.specs.Prelude.{◌≡◌, ℕ, List, [], ◌∷◌, ◌++◌, codes, decimal}
use Rattle.ln_cert.specs.Listing.{IsFormFault, ListText, Listed, parts_of}
use Rattle.ln_verify.specs.Verified.{IsFaultFor, IsValidFor}
use Rattle.ln_top.specs.declared.frame.status.End.{End}
use Rattle.ln_top.specs.declared.frame.status.End.TheVariants.{Done, Invalid}
use Rattle.ln_top.specs.Frame.Said.{Said, line, whole}
use Rattle.ln_top.specs.Frame.Given.{Given}
use Rattle.ln_top.specs.Frame.Carried.{NoPart}
use Rattle.ln_top.specs.Frame.Work.{Work}
use Rattle.ln_top.specs.Frame.Signature.{Signature}
use Rattle.ln_top.specs.declared.frame.asked.Asked.TheVariants.{Nothing}

-- the further file is the text of this listing
pub record IsListed (g : Given) (l : Listed) : Type 0 where
  pub bytes : List ℕ
  pub file : g.texts ≡ bytes ∷ []
  pub text : ListText bytes l.version (parts_of l.entries)

-- it is that of a listing that is valid for the source's predicates
pub record HasValid (g : Given) : Type 0 where
  pub listing : Listed
  pub listed : IsListed g listing
  pub valid : IsValidFor g.table.preds listing

-- its first fault: the line at which it stops being a listing; or, of a listing, the first line whose rule fails
pub data HasFault (g : Given) (at : ℕ) : Type 0 where
  form : (bytes : List ℕ) → g.texts ≡ bytes ∷ [] → IsFormFault bytes at → HasFault g at
  rule : (l : Listed) → IsListed g l → IsFaultFor g.table.preds l at → HasFault g at

-- what is required: `valid`, or `invalid LINE`
pub data VerifySaid (g : Given) : Said → Type 0 where
  valid : HasValid g → VerifySaid g (whole Done (line (codes "valid")))
  invalid : (at : ℕ) → HasFault g at → VerifySaid g (whole Invalid (line (codes "invalid " ++ decimal at)))

-- how it ends, and where
pub data VerifyEnds (g : Given) : End → Type 0 where
  done : HasValid g → VerifyEnds g Done
  faulty : (at : ℕ) → HasFault g at → VerifyEnds g Invalid

-- the signature of `verify`
abbrev pub verify_signature : Signature
verify_signature = record { word = codes "verify"; form = record { least = 0; most = 0; files = 1 }; suits = Nothing }

-- the work of `verify`
abbrev pub verify_work : Work
verify_work = record { owes = λ boxes. VerifySaid; part = λ boxes g. NoPart; ends = VerifyEnds; one = Unit {0} }
