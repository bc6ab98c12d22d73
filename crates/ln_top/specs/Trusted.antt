-- States what `valid` means: the listing, whoever made it, has the perturbed signs.
use Rattle.std.specs.Prelude.{◌≡◌, ℕ, List}
use Rattle.ln_base.specs.Outside.{Shelf}
use Rattle.ln_cert.specs.Listing.{Listed}
use Rattle.ln_verify.specs.Verified.{IsValidFor}
use Rattle.ln_top.specs.declared.frame.status.Status.{Status}
use Rattle.ln_top.specs.declared.frame.status.Status.TheVariants.{Done}
use Rattle.ln_top.specs.declared.words.Command.TheVariants.{Verify}
use Rattle.ln_top.specs.Listed.{PartsGiveSigns}
use Rattle.ln_top.specs.Frame.Given.{Given}
use Rattle.ln_top.specs.Steps.{WhereGiven}
use Rattle.ln_top.specs.Judges.Verify.{IsListed}

-- the further file is the text of a listing that is valid for the source's predicates and whose parts, one for each of them, return their signs
pub record TellsSigns (g : Given) : Type 0 where
  pub listing : Listed
  pub listed : IsListed g listing
  pub valid : IsValidFor g.table.preds listing
  pub signs : PartsGiveSigns g.table.preds valid.valid.parts

-- where the words are `verify FILE LISTING`, the source that the files contain is accepted and the status is done
abbrev pub ValidTellsSigns : List (List ℕ) → Shelf → Status → Type 0
ValidTellsSigns words shelf result = WhereGiven words shelf Verify (λ g. result ≡ Done → TellsSigns g)
