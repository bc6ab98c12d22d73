-- The part of a predicate in a listing, as the machine's part; and the verdict of a valid listing on a row.
use Rattle.std.specs.Prelude.{◌≡◌, ℕ, ◌==◌, List, [], length, map, slice_get, Option, Some, None, if◌then◌else◌}
use Rattle.ln_algebra.specs.Sign.{IsPerturbedSign}
use Rattle.ln_algebra.specs.Tree.{InputsBelow, Tree}
use Rattle.ln_tree.specs.declared.shape.Shape.{Shape}
use Rattle.ln_tree.specs.Row.{InRange, Row, values}
use Rattle.ln_order.specs.Orders.{orders_of}
use Rattle.ln_order.specs.Prefixes.{beside, prefixes_of}
use Rattle.ln_order.specs.Sites.{row_sites}
use Rattle.ln_poly.specs.Expansion.{IsNormal}
use Rattle.ln_code.specs.declared.op.Triple.{Triple}
use Rattle.ln_code.specs.declared.verdict.Verdict.{Verdict}
use Rattle.ln_code.specs.Engine.{Line}
use Rattle.ln_code.specs.Part.{Code, FilterCode, Part}
use Rattle.ln_code.specs.Verdict.{IsVerdict}
use Rattle.ln_due.specs.Due.{sign_number}
use Rattle.ln_verify.specs.BlockRules.{deepest}
use Rattle.ln_verify.specs.Judge.{IsValid}
use Rattle.ln_verify.specs.Line.{Piece, Subject, Written}
use Rattle.ln_verify.specs.Versions.{version_of}
use Rattle.ln_verify.specs.declared.version.Version.{Version as InCode}
use Rattle.ln_cert.specs.declared.part.Part as listing

-- ---- the machine's part
-- a block of a listing as code of the machine, with the deepest stack that the rules allow
abbrev pub code_of : Piece → Code
code_of b = record { exps = b.exps; ops = map (λ x. x.op) b.lines; pairs = map (λ x. x.bound) b.lines; depth = deepest }

-- the lines of a filter as code of the machine, with the deepest stack that the rules allow
abbrev pub filter_code : List (Line Triple) → FilterCode
filter_code lines = record { ops = map (λ x. x.op) lines; triples = map (λ x. x.bound) lines; depth = deepest }

-- the filter of a part as code of the machine, where the part has one
abbrev pub filter_of : Option (List (Line Triple)) → Option FilterCode
filter_of None = None
filter_of (Some lines) = Some (filter_code lines)

-- a listing has the whole list of each order: it is at the order itself, and nothing is at a shorter prefix
abbrev pub segment_at : ℕ → List (List ℕ) → List ℕ → List ℕ
segment_at k lists p = if length p == k then beside (orders_of k) lists p else []

-- the machine's part for a predicate of this shape, with the filter, the blocks and the lists that its part of the listing has
abbrev pub part_of : Shape → Written → Part
part_of s w = record {
  shape = s;
  filter = filter_of w.filter;
  blocks = map code_of w.blocks;
  segments = map (segment_at s.sites w.lists) (prefixes_of s.sites);
}

-- ---- the promise
-- the predicate with this shape and this closed root is the judge's subject
pub record IsSubject (s : Shape) (e : Tree) (p : Subject) : Type 0 where
  pub sites : p.sites ≡ s.sites
  pub vars : p.vars ≡ s.vars
  pub inputs : InputsBelow (length s.vars) e
  pub normal : IsNormal (length s.vars) e p.poly

-- on this row the machine of the part has a verdict, and whatever verdict it has, its sign is the perturbed sign
pub record GivesSign (s : Shape) (e : Tree) (w : Written) (row : Row) : Type 0 where
  pub verdict : Verdict
  pub answers : IsVerdict (part_of s w) row verdict
  pub sign : (v : Verdict) → IsVerdict (part_of s w) row v → IsPerturbedSign (length s.vars) (row_sites s.vars row.index)
      (values row.values) e (sign_number v.sign)

-- the parts of a valid listing of either version, whoever made it, return the perturbed sign: for each subject, on each row in range
abbrev pub ValidPartsGiveSigns : Type 0
ValidPartsGiveSigns =
    (f : InCode) (ps : List Subject) (lines : List listing.Part) (h : IsValid (version_of f) ps lines) (k : ℕ) (p : Subject)
    (w : Written) (s : Shape) (e : Tree) (row : Row) →
    slice_get ps k ≡ Some p → slice_get h.parts k ≡ Some w → IsSubject s e p → InRange s.sites s.vars row → GivesSign s e w row
