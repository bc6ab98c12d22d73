-- The places that what the judge holds stands for, and what a line does to it.
use Rattle.std.specs.Prelude.{◌≡◌, ℕ, ◌+◌, ◌≤◌, Bool, true, false, All, List, [], ◌∷◌, ◌++◌, length, map, slice_get, Option, Some, None}
use Rattle.ln_algebra.specs.Terms.{IsNormalOf, derived}
use Rattle.ln_tree.specs.Exps.{IsAbove, Pairs, vector}
use Rattle.ln_tree.specs.Names.{name_bytes}
use Rattle.ln_bound.specs.declared.fitted.Width.TheVariants.{W64}
use Rattle.ln_bound.specs.Widths.{limit}
use Rattle.ln_order.specs.Orders.{orders_of}
use Rattle.ln_algebra.specs.Weights.{weighted_sum}
use Rattle.ln_bound.specs.Light.{most}
use Rattle.ln_bound.specs.Value.{weights}
use Rattle.ln_order.specs.Places.{order_places}
use Rattle.ln_poly.specs.Sparse.{AreBelow, IsPoly, terms_of}
use Rattle.ln_stage.specs.Staged.{AreStagesOf}
use Rattle.ln_code.specs.Engine.{State}
use Rattle.ln_code.specs.FilterRules.{FilterKnown}
use Rattle.ln_code.specs.Rules.{Known}
use Rattle.ln_verify.specs.BlockRules.{Version}
use Rattle.ln_verify.specs.Judge.{IsFirstFault, IsValid}
use Rattle.ln_verify.specs.Line.{Between, InBlock, InFilter, LineRule, Named, Ordering, Outside}
use Rattle.ln_verify.specs.Line.{Place, Rule, Spot, Subject, Within, exps_of}
use Rattle.ln_verify.specs.Works.{IsBlockStack, IsFilterStack}
use Rattle.ln_verify.specs.declared.case.Case.{Case}
use Rattle.ln_verify.specs.declared.progress.Progress.{Progress}
use Rattle.ln_cert.specs.declared.part.Part.{Part}
use Rattle.ln_cert.specs.declared.part.State as grammar
use Rattle.ln_cert.specs.declared.part.State.TheVariants as form
use Rattle.ln_cert.specs.Reading.{goes, may}
use Rattle.ln_cert.specs.Text.{part_kind}

-- the predicate of a case, as the judge sees it
abbrev pub subject_of : Case → Subject
subject_of c = record { name = name_bytes c.shape.now.name; sites = c.shape.now.sites; vars = c.shape.now.vars; poly = c.poly.now }

-- its polynomial is one over its variables, no derivative of which is too large; its stages are those of the polynomial, and its
-- orders are all orders of its sites
pub record IsCase (c : Case) : Type 0 where
  pub form : IsPoly c.poly.now
  pub below : AreBelow (length c.shape.now.vars) c.poly.now
  pub light : weighted_sum (weights c.shape.now.vars) (terms_of (length c.shape.now.vars) c.poly.now) ≤ most
  pub staged : AreStagesOf c.shape.now.sites c.shape.now.vars c.poly.now c.stages.now
  pub ordered : map order_places c.orders ≡ orders_of c.shape.now.sites

-- the predicates of cases, in order
abbrev pub subjects_of : List Case → List Subject
subjects_of cs = map subject_of cs

-- ---- places
-- each variable of these exponents is below n
abbrev pub AreAbove : ℕ → List Pairs → Type 0
AreAbove n exps = All (λ e. IsAbove e n) exps

-- the judge's state stands for this spot within the part of a predicate with n variables
abbrev pub IsSpot : ℕ → Progress → Spot → Type 0
IsSpot n d Named = Unit {0}
IsSpot n d (InFilter lines s) = IsFilterStack n d.filter_stack s
IsSpot n d (Between f bs) = (d.exps ≡ exps_of bs) × AreAbove n d.exps × (d.lists ≡ 0)
IsSpot n d (InBlock f bs a lines s) = (d.exps ≡ exps_of bs ++ a ∷ []) × AreAbove n d.exps × (d.lists ≡ 0) × IsBlockStack n d.block_stack s
IsSpot n d (Ordering w) = (d.exps ≡ exps_of w.blocks) × AreAbove n d.exps × (d.lists ≡ length w.lists)

-- the judge's state stands for this place: outside of parts, or at a spot within the part of the next predicate
abbrev pub IsHere : List Subject → Progress → Place → Type 0
IsHere ps d (Outside parts) = d.parts ≡ length parts
IsHere ps d (Within parts s) = (d.parts ≡ length parts) × (p : Subject) × (slice_get ps (length parts) ≡ Some p)
    × IsSpot (length p.vars) d s

-- ---- the form
-- the state of the grammar at a spot
abbrev pub state_at : Spot → grammar.State
state_at Named = form.Opened
state_at (InFilter lines s) = form.InFilter
state_at (Between f []) = form.Planned
state_at (Between f (b ∷ bs)) = form.Blocks
state_at (InBlock f bs a lines s) = form.InBlock
state_at (Ordering w) = form.Orders

-- and at a place
abbrev pub state_of : Place → grammar.State
state_of (Outside parts) = form.Top
state_of (Within parts s) = state_at s

-- the line is allowed in this state
abbrev pub MayStand : Version → grammar.State → Part → Type 0
MayStand v s line = may v.number s (part_kind line) ≡ true

-- the lines are of the form of listings
abbrev pub HaveForm : Version → List Part → Type 0
HaveForm v lines = goes v.number (Some form.Top) lines ≡ Some form.Top

-- ---- what a line does
-- it leads to a spot that the state of the judge stands for, or nowhere
abbrev pub SpotStep : Version → Subject → Spot → Part → Bool → Progress → Type 0
SpotStep v p s line true d = (t : Spot) × LineRule v p s line t × IsSpot (length p.vars) d t
SpotStep v p s line false d = (t : Spot) → LineRule v p s line t → ⊥

-- what a call on a line within a part of this predicate has to say, of every spot that the state of the judge stands for and where the line is allowed
abbrev pub Leads : Version → Subject → Progress → Part → Bool → Progress → Type 0
Leads v p old line ok new = (s : Spot) → MayStand v (state_at s) line → IsSpot (length p.vars) old s → (new.parts ≡ old.parts) × SpotStep v p s line ok new

-- the line leads from this place to one that the judge's new state stands for, or nowhere
abbrev pub PlaceStep : Version → List Subject → Place → Part → Bool → Progress → Type 0
PlaceStep v ps here line true d = (q : Place) × Rule v ps here line q × IsHere ps d q
PlaceStep v ps here line false d = (q : Place) → Rule v ps here line q → ⊥

-- the result: no line fails, or after this many lines the next one does
abbrev pub IsAnswer : Version → List Subject → List Part → Option ℕ → Type 0
IsAnswer v ps lines None = IsValid v ps lines
IsAnswer v ps lines (Some n) = IsFirstFault v ps lines n

-- `done`, after this many lists: where each order has its list another part is over, and else the line fails
abbrev pub Finished : Subject → Progress → Bool → Progress → Type 0
Finished p old true new = (old.lists ≡ length (orders_of p.sites)) × (new.parts ≡ old.parts + 1)
Finished p old false new = old.lists ≡ length (orders_of p.sites) → ⊥

-- ---- the one value of a stack
-- what `decide` asks for
pub record FilterDecides (p : Subject) (s : State FilterKnown (ℕ → Option FilterKnown)) : Type 0 where
  pub left : FilterKnown
  pub one : s.stack ≡ left ∷ []
  pub whole : IsNormalOf (length p.vars) left.tree (terms_of (length p.vars) p.poly)
  pub narrow : left.triple.e ≤ limit W64

-- what `end` asks for
pub record BlockEnds (p : Subject) (a : Pairs) (s : State Known (ℕ → Option Known)) : Type 0 where
  pub left : Known
  pub one : s.stack ≡ left ∷ []
  pub derivative : IsNormalOf (length p.vars) left.tree (derived (vector (length p.vars) a) (terms_of (length p.vars) p.poly))
