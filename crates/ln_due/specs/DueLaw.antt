-- What a part that carries an expression returns on rows in range, in either order of infinitesimals: the laws.
use Rattle.std.specs.Prelude.{◌≡◌, ◌≢◌, ℕ, ◌<◌, ◌≤◌, ◌⊎◌, All, Contains, ℤ, pos, unsigned_abs, List}
use Rattle.std.specs.Prelude.{[], length, Some, None, slice_get, slice_index, slice_index_or}
use Rattle.ln_base.specs.declared.sign.Sign.TheVariants.{Zero}
use Rattle.ln_algebra.specs.Orders.{Rank}
use Rattle.ln_algebra.specs.Sign.{perturbed}
use Rattle.ln_algebra.specs.Stage.{IsMonomial}
use Rattle.ln_algebra.specs.Terms.{IsNormalOf, Term}
use Rattle.ln_algebra.specs.Tree.{InputsBelow, Tree}
use Rattle.ln_algebra.specs.Vector.{In}
use Rattle.ln_tree.specs.Row.{InRange, Row, values}
use Rattle.ln_tree.specs.declared.shape.Shape.{Shape}
use Rattle.ln_order.specs.Order.{IsOrder}
use Rattle.ln_order.specs.Rows.{OrderStages, RowFirst, RowSign}
use Rattle.ln_order.specs.Sites.{row_sites, sites_of}
use Rattle.ln_code.specs.Carried.{Carries, Runs, vectors}
use Rattle.ln_code.specs.Exact.{Held}
use Rattle.ln_code.specs.Law.{BlockMeans}
use Rattle.ln_code.specs.Lists.{IsListOf}
use Rattle.ln_code.specs.Part.{Code, FilterCode, Part, block_value, filter_value, known_of}
use Rattle.ln_code.specs.Rules.{Known}
use Rattle.ln_code.specs.Verdict.{IsVerdict}
use Rattle.ln_code.specs.declared.verdict.Verdict.{Verdict}
use Rattle.ln_due.specs.Due.{Decided, Due, Filtering, NoFilter, Undecided, sign_number}

-- block number k has the value z on a row with these values
pub record HasValue (p : Part) (k : ℕ) (zs : List ℤ) (z : ℤ) : Type 0 where
  pub block : Code
  pub there : slice_get p.blocks k ≡ Some block
  pub value : block_value zs block ≡ Some z

-- the stage list of an order, and the blocks of a list, place by place: each has on the row the perturbed coefficient of e at its stage
pub record AreCoefficients (rank : Rank) (p : Part) (e : Tree) (places list : List ℕ) (row : Row) : Type 0 where
  pub stages : List (List ℕ)
  pub are_stages : OrderStages rank p.shape.vars e places stages
  pub size : length stages ≡ length list
  pub coefficients : (k : ℕ) → k < length list →
      HasValue p (slice_index list k) row.values (perturbed (sites_of p.shape.vars places)
      (values row.values) e (slice_index_or stages k []))

-- the stages are the perturbed coefficients: in the list of each order, on each row in range, each block has the coefficient at its stage
abbrev pub StagesAreCoefficients : Type 0
StagesAreCoefficients =
    (rank : Rank) (p : Part) (e : Tree) (f : List Term) (places list : List ℕ) (row : Row) → Runs p → Carries rank p e f →
    IsListOf p places list → InRange p.shape.sites p.shape.vars row → AreCoefficients rank p e places list row

-- the cut loses nothing: the first vector of a row in range is in the list of the row's order; or there is none, and the
-- coefficient at each member is 0
abbrev pub CutLosesNothing : Type 0
CutLosesNothing =
    (rank : Rank) (p : Part) (e : Tree) (f : List Term) (places list : List ℕ) (row : Row) → Carries rank p e f →
    InRange p.shape.sites p.shape.vars row → IsOrder row.index places → IsListOf p places list →
    ((a : List ℕ) × RowFirst rank p.shape.vars e row a × In (vectors p list) a)
    ⊎ (((a : List ℕ) → RowFirst rank p.shape.vars e row a → ⊥)
    × ((a : List ℕ) → In (vectors p list) a → perturbed (row_sites p.shape.vars row.index) (values row.values) e a ≡ pos 0))

-- a block without exponents has the polynomial of the whole
abbrev pub PlainBlocksCarryTheWhole : Type 0
PlainBlocksCarryTheWhole =
    (rank : Rank) (p : Part) (e : Tree) (f : List Term) (c : Code) → Carries rank p e f → Contains p.blocks c → c.exps ≡ [] →
    (what : Known) × (known_of p.shape.vars c ≡ Some what) × IsNormalOf (length p.shape.vars) what.tree f

-- every block runs on every row in range, with all its values in their ranges and widths, whether the row's order names it or not
abbrev pub BlocksRun : Type 0
BlocksRun =
    (p : Part) (c : Code) (row : Row) → Runs p → Contains p.blocks c → InRange p.shape.sites p.shape.vars row →
    BlockMeans p.shape.vars row.values c

-- what the part's filter does on a row: it decides where what it leaves is above the error of the operation that pushed it
abbrev pub FilterDoes : Part → List ℤ → Filtering → Type 0
FilterDoes p zs NoFilter = p.filter ≡ None
FilterDoes p zs Decided = (c : FilterCode) × (left : Held) × (p.filter ≡ Some c) × (filter_value zs c ≡ Some left)
    × (left.error < unsigned_abs left.number)
FilterDoes p zs Undecided = (c : FilterCode) × (left : Held) × (p.filter ≡ Some c) × (filter_value zs c ≡ Some left)
    × (unsigned_abs left.number ≤ left.error)

-- the machine's verdict on a row in range is the required one
abbrev pub VerdictsAreDue : Type 0
VerdictsAreDue =
    (rank : Rank) (p : Part) (e : Tree) (f : List Term) (row : Row) (does : Filtering) (v : Verdict) → Runs p → Carries rank p e f →
    InRange p.shape.sites p.shape.vars row → FilterDoes p row.values does → IsVerdict p row v → Due rank does p.shape.vars e row v

-- its sign is the perturbed sign, whatever the filter does
abbrev pub SignsArePerturbed : Type 0
SignsArePerturbed =
    (rank : Rank) (p : Part) (e : Tree) (f : List Term) (row : Row) (v : Verdict) → Runs p → Carries rank p e f →
    InRange p.shape.sites p.shape.vars row → IsVerdict p row v →
    RowSign rank p.shape.vars e row (sign_number v.sign)

-- without params no row in range requires the sign 0, as long as the normal polynomial has any monomial
abbrev pub WithoutParamsNeverZero : Type 0
WithoutParamsNeverZero =
    (rank : Rank) (s : Shape) (e : Tree) (m : List ℕ) (row : Row) (does : Filtering) (v : Verdict) →
    All (λ i. i.site ≢ None) s.vars → InputsBelow (length s.vars) e →
    IsMonomial (length s.vars) e m → InRange s.sites s.vars row → Due rank does s.vars e row v → v.sign ≢ Zero

-- two verdicts agree, but for the wide operations, which are not required
pub record Agree (v w : Verdict) : Type 0 where
  pub sign : v.sign ≡ w.sign
  pub by : v.by ≡ w.by
  pub calls : v.calls ≡ w.calls

-- a row in range requires at most one sign, by one decider, with one number of calls
abbrev pub DueIsUnique : Type 0
DueIsUnique =
    (rank : Rank) (s : Shape) (e : Tree) (row : Row) (does : Filtering) (v w : Verdict) → InRange s.sites s.vars row →
    Due rank does s.vars e row v → Due rank does s.vars e row w → Agree v w
