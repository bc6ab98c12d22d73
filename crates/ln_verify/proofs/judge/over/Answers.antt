-- Answers to the goals of `over` in src/judge.rt.
use Rattle.std.proofs.Common.{true, false, ap, arith, refl, sym, ◌∙◌}
use Rattle.std.proofs.lemmas.List.{length-map}
use Rattle.ln_base.specs.Forms.Source.{TakesOne}
use Rattle.ln_base.proofs.Forms.Judging.{midway_more, midway_stops, reached_first, reached_stops}
use Rattle.ln_cert.specs.declared.part.Entry.{Entry}
use Rattle.ln_cert.specs.Listing.{parts_of}
use Rattle.ln_verify.specs.Line.{Place}
use Rattle.ln_verify.specs.Here.{IsHere, MayStand, PlaceStep, state_of, subject_of, subjects_of}
use Rattle.ln_verify.specs.Versions.{version_of}
use Rattle.ln_verify.proofs.Values.Ranges.{not-true}
use Rattle.ln_verify.proofs.Judging.Places.{here-lacks, here-whole, midway-allowed}
use Rattle.ln_verify.proofs.judge.over.Goals as goal

pub lines-init : goal.lines-init
lines-init g c = λ es h.
    record { rest = es; left = h; reached = reached_first _ _ _ (parts_of es) _ c.requires.second c.requires.none }

pub lines-preserved : goal.lines-preserved
lines-preserved g c =
    let v = version_of c.args.version in
    let ss = subjects_of c.args.cases.now in
    let t : TakesOne g.S.Source.line g.S.Source.left g.S.Source.next g.S.Source.size c.lines.source c.in-Some.taken c.take.new.self =
    rw c.in-Some.is at c.in_ok-taken.ensures in
    let k : (here : Place) → MayStand v (state_of here) (g.S.Source.line c.in-Some.taken).part × IsHere ss c.lines.state here
    → PlaceStep v ss here (g.S.Source.line c.in-Some.taken).part true c.line-good.new.state =
    rw (c.if-not-branch.false, c.lent.ensures) at c.in_ok-good.ensures in
    λ es h. midway_more _ _ parts_of (λ (e : Entry). e.part) (λ x xs. refl) _ _ es _
    (midway-allowed v ss c.lines.state _ _ es _ _ (c.requires.form es h) (c.lines.invariant es h) t.goes_on)
    (g.S.Source.left c.take.new.self) _ (g.S.Source.line c.in-Some.taken) _ t.goes_on t.number k

pub returns-then-not-branch : goal.returns-then-not-branch
returns-then-not-branch g c =
    let v = version_of c.args.version in
    let ss = subjects_of c.args.cases.now in
    let t : TakesOne g.S.Source.line g.S.Source.left g.S.Source.next g.S.Source.size c.lines.source c.in-Some.taken c.take.new.self =
    rw c.in-Some.is at c.in_ok-taken.ensures in
    let k : (here : Place) → MayStand v (state_of here) (g.S.Source.line c.in-Some.taken).part × IsHere ss c.lines.state here
    → PlaceStep v ss here (g.S.Source.line c.in-Some.taken).part false c.line-good.new.state =
    rw (c.if-not-branch.true, c.lent.ensures) at c.in_ok-good.ensures in
    λ es h. midway_stops _ _ parts_of (λ (e : Entry). e.part) (λ x xs. refl) _ _ es _
    (midway-allowed v ss c.lines.state _ _ es _ _ (c.requires.form es h) (c.lines.invariant es h) t.goes_on)
    (g.S.Source.left c.take.new.self) (g.S.Source.line c.in-Some.taken) _ t.goes_on (omega (arith, c.number.ensures, t.number)) k

pub returns-then-is_over : goal.returns-then-is_over
returns-then-is_over g c =
    let t = rw c.in_default.is at c.in_ok-taken.ensures in
    λ es h.
    let m = c.lines.invariant es h in
    here-whole (version_of c.args.version) (subjects_of c.args.cases.now) c.lines.state (parts_of es) (parts_of m.rest) _ (c.requires.form es h) m.reached
    (ap parts_of (t.0 m.rest m.left)) (c.is_over.ensures.0 c.if-is_over.true ∙ sym (length-map c.args.cases.now subject_of))

pub returns : goal.returns
returns g c =
    let t = rw c.in_default.is at c.in_ok-taken.ensures in
    λ es h.
    let m = c.lines.invariant es h in
    reached_stops _ _ _ (parts_of es) (parts_of m.rest) _ m.reached _ _ (ap parts_of (t.0 m.rest m.left)) (c.number-2.ensures ∙ t.1)
    (here-lacks (version_of c.args.version) (subjects_of c.args.cases.now) c.lines.state
    (λ o. not-true _ (sym c.if-is_over.false ∙ c.is_over.ensures.1 (o ∙ length-map c.args.cases.now subject_of))))
