-- What the lemmas on loops over records speak of: the work, the streams, where it stands, and a loop that gathers bytes for Out.
use Rattle.std.proofs.Common.{ℕ, Bool, true, List, ◌++◌, Option}
use Rattle.std.specs.Prelude.{Result}
use Rattle.ln_base.specs.Outside.{Shown}
use Rattle.ln_top.specs.declared.frame.status.Early.{Early}
use Rattle.ln_top.specs.Frame.Said.{Count, count}
use Rattle.ln_top.specs.Frame.Lines.{Step, Lines, Takes, Empties, Gathers, Sends, Ran, PutsOne, PutsAll, every}

-- what records come to: the bytes on each stream, and the state after them
pub record Written (S : Type 0) : Type 0 where
  pub out : List ℕ
  pub err : List ℕ
  pub left : S

-- what a step writes of a record
abbrev pub StepTo : {S R : Type 0} → Step S R → S → R → Written S → Type 0
StepTo step s r a = step s r a.out a.err a.left

-- what records come to one after the other
abbrev pub LinesTo : {S R : Type 0} → Step S R → S → List R → Written S → Type 0
LinesTo step s records a = Lines step s records a.out a.err a.left

-- what records come to, and then others
abbrev pub and_then : {S : Type 0} → Written S → Written S → Written S
and_then a b = record { out = a.out ++ b.out; err = a.err ++ b.err; left = b.left }

-- the work on records: what a step writes of a record, and which records are good
pub record Work (S R : Type 0) : Type 1 where
  pub step : Step S R
  pub good : R → Bool

-- work whose records are all good
abbrev pub each_good : {S R : Type 0} → Step S R → Work S R
each_good step = record { step = step; good = every }

-- both streams at one time: what came to them, if that is known, and the count of faults of writing
pub record Streams : Type 0 where
  pub shown : Option Shown
  pub faults : ℕ

-- the count of faults before and after
abbrev pub faults_in : Streams → Streams → Count
faults_in was now = count was.faults now.faults

-- work between two records: the state there, the remaining records, and the streams
pub record Stand (S R : Type 0) : Type 0 where
  pub state : S
  pub left : List R
  pub streams : Streams

-- what work that gathers has changed: the state, the bytes that are held for Out, and the streams
pub record Point (S : Type 0) : Type 0 where
  pub state : S
  pub held : List ℕ
  pub streams : Streams

-- a loop that gathers, between two records: what it has changed, the remaining records, and whether each so far was good
pub record Loop (S R : Type 0) : Type 0 where
  pub at : Point S
  pub left : List R
  pub good : Bool

-- a loop that gathers before its first record, with these bytes held
abbrev pub begun : {S R : Type 0} → Stand S R → List ℕ → Loop S R
begun from held = record {
  at = record { state = from.state; held = held; streams = from.streams };
  left = from.left;
  good = true;
}

-- the same place of a loop, with these bytes held and these streams
abbrev pub with_held : {S R : Type 0} → Loop S R → List ℕ → Streams → Loop S R
with_held l held streams = record {
  at = record { state = l.at.state; held = held; streams = streams };
  left = l.left;
  good = l.good;
}

-- a record was taken between two points, or a write was cut off, or it was given up
abbrev pub TakesTo : {S R : Type 0} → Work S R → R → Result Bool Early → Point S → Point S → Type 0
TakesTo w r result p q =
    Takes w.step w.good p.state r p.held q.held q.state (faults_in p.streams q.streams) result p.streams.shown q.streams.shown

-- what is held at a point stays, or it was written, or cut off; then these bytes are held, and the streams are these
abbrev pub EmptiesTo : {S : Type 0} → Point S → Bool → List ℕ → Streams → Type 0
EmptiesTo p done kept now = Empties p.held kept (faults_in p.streams now) done p.streams.shown now.shown

-- the bytes of the remaining records were gathered up to a point, or the loop ended early
abbrev pub GathersTo : {S R : Type 0} → Work S R → Stand S R → Result Bool Early → Point S → Type 0
GathersTo w from result p =
    Gathers w.step w.good from.state from.left p.held p.state (faults_in from.streams p.streams) result from.streams.shown p.streams.shown

-- what is held at a point was written at the end
abbrev pub SendsTo : {S : Type 0} → Point S → Result Bool Early → Result Bool Early → Streams → Type 0
SendsTo p ran result now = Sends p.held ran (faults_in p.streams now) result p.streams.shown now.shown

-- the bytes of the remaining records were written, or the loop ended early
abbrev pub RanTo : {S R : Type 0} → Work S R → Stand S R → Result Bool Early → S → Streams → Type 0
RanTo w from result z now = Ran w.step w.good from.state from.left z (faults_in from.streams now) result from.streams.shown now.shown

-- the bytes of one record were written at once, or cut off
abbrev pub PutsTo : {S R : Type 0} → Step S R → R → Bool → Stand S R → S → Streams → Type 0
PutsTo step r done p z now = PutsOne step p.state r z (faults_in p.streams now) done p.streams.shown now.shown

-- the bytes of each remaining record were written at once, or cut off
abbrev pub PutsAllTo : {S R : Type 0} → Step S R → Bool → Stand S R → S → Streams → Type 0
PutsAllTo step done from z now = PutsAll step from.state from.left z (faults_in from.streams now) done from.streams.shown now.shown
