-- Listings that are valid for the predicates of a table, and the first line of a listing whose rule fails.
use Rattle.std.specs.Prelude.{◌≡◌, ◌==◌, ℕ, true, List, length, map, slice_get, Option, None, Some, if◌then◌else◌}
use Rattle.std.specs.List.{AllZip}
use Rattle.ln_tree.specs.declared.pred.Pred.{Pred}
use Rattle.ln_tree.specs.Row.{InRange, Row}
use Rattle.ln_tree.specs.Table.{PredOf, TableOf, pred_of}
use Rattle.ln_tree.specs.Whole.{is_whole}
use Rattle.ln_poly.specs.Expansion.{IsNormal}
use Rattle.ln_poly.specs.OfPred.{root_of}
use Rattle.ln_stage.specs.Sound.{AreSound}
use Rattle.ln_cert.specs.Listing.{IsFormFault, ListText, Listed, parts_of}
use Rattle.ln_verify.specs.AsPart.{GivesSign}
use Rattle.ln_verify.specs.BlockRules.{Version, version_1, version_2}
use Rattle.ln_verify.specs.Judge.{IsFirstFault, IsValid}
use Rattle.ln_verify.specs.Line.{Subject, Written}
use Rattle.ln_verify.specs.declared.listings.Judged.{Judged}
use Rattle.ln_verify.specs.declared.listings.Judged.TheVariants.{Valid, Invalid}

-- the predicate as its part is judged: the name of its shape, which in a table is its own, its sites, its variables and its normal
-- polynomial
pub record IsSubjectOf (p : PredOf) (s : Subject) : Type 0 where
  pub name : s.name ≡ p.shape_name
  pub sites : s.sites ≡ p.sites
  pub vars : s.vars ≡ p.vars
  pub normal : IsNormal (length p.vars) (root_of p) s.poly

-- one for each predicate, in order; there is one such list, since a predicate has one normal polynomial
abbrev pub AreSubjectsOf : List PredOf → List Subject → Type 0
AreSubjectsOf ps ss = AllZip IsSubjectOf ps ss

-- the rules of a listing of this version
abbrev pub rules_of : ℕ → Version
rules_of n = if n == 1 then version_1 else version_2

-- the listing is valid for these predicates: no line of it fails, and at its end each predicate has its part
pub record IsValidFor (ps : List PredOf) (l : Listed) : Type 0 where
  pub subjects : List Subject
  pub those : AreSubjectsOf ps subjects
  pub valid : IsValid (rules_of l.version) subjects (parts_of l.entries)

-- the first line of the listing whose rule fails; at the end of the file, where some predicate hasn't its part, it is one more
-- than there are lines
pub record IsFaultFor (ps : List PredOf) (l : Listed) (line : ℕ) : Type 0 where
  pub subjects : List Subject
  pub those : AreSubjectsOf ps subjects
  pub fault : IsFirstFault (rules_of l.version) subjects (parts_of l.entries) line

-- the result for the first line that fails, if there is one
abbrev pub judged_of : Option ℕ → Judged
judged_of None = Valid
judged_of (Some n) = Invalid n

-- ---- of bytes
-- the bytes are a listing, which is valid for these predicates
pub record IsValidTextFor (ps : List PredOf) (bytes : List ℕ) : Type 0 where
  pub listing : Listed
  pub text : ListText bytes listing.version (parts_of listing.entries)
  pub valid : IsValidFor ps listing

-- the first fault of the bytes: the line at which they stop being a listing; or, of a listing, the first line whose rule fails
pub data IsTextFaultFor (ps : List PredOf) (bytes : List ℕ) (line : ℕ) : Type 0 where
  form : IsFormFault bytes line → IsTextFaultFor ps bytes line
  rule : (l : Listed) → ListText bytes l.version (parts_of l.entries) → IsFaultFor ps l line → IsTextFaultFor ps bytes line

-- ---- the promises
-- in a table the name by which a part is judged is that of its predicate
abbrev pub PartsAreNamed : Type 0
PartsAreNamed = (t : TableOf) (ss : List Subject) → is_whole t ≡ true → AreSubjectsOf t.preds ss →
    map (λ (s : Subject). s.name) ss ≡ map (λ (p : PredOf). p.name) t.preds

-- a listing that is valid for accepted predicates, whoever made it, has a part of each, and on each row in range the machine of
-- the part has a verdict, whose sign is the perturbed sign of the predicate
abbrev pub ValidListingsGiveSigns : Type 0
ValidListingsGiveSigns =
    (ps : List Pred) (l : Listed) → AreSound (map pred_of ps) → (h : IsValidFor (map pred_of ps) l) (k : ℕ) (p : Pred)
    (row : Row) → slice_get ps k ≡ Some p → InRange p.shape.sites p.shape.vars row →
    (w : Written) × (slice_get h.valid.parts k ≡ Some w) × GivesSign p.shape (root_of (pred_of p)) w row
