-- Answers to the goals of `over` in src/judging.rt.
use Rattle.std.proofs.Common.{List, arith, refl, sym, ◌∙◌, true≢false}
use Rattle.ln_base.specs.Forms.Source.{TakesOne}
use Rattle.ln_base.proofs.Forms.Judging.{midway_more, midway_stops, reached_first, reached_stops}
use Rattle.ln_trace.specs.declared.line.TraceLine.{TraceLine}
use Rattle.ln_trace.proofs.Walking.{here-ends, here-lacks}
use Rattle.ln_trace.proofs.judging.over.Goals as goal

pub lines-init : goal.lines-init
lines-init g c = record {
  holds = λ i. absurd (true≢false (sym i ∙ c.requires.inside));
  midway = λ e ls p h.
      record { rest = ls; left = h; reached = reached_first _ _ _ ls _ c.requires.second (c.requires.inside, c.requires.none, refl) };
}

pub lines-preserved : goal.lines-preserved
lines-preserved g c =
    let s = rw (c.if-not-branch.false, c.lent.ensures) at c.in_ok-good.ensures in
    let t : TakesOne g.S.Source.line g.S.Source.left g.S.Source.next g.S.Source.size c.lines.source c.in-Some.taken c.take.new.self =
    rw c.in-Some.is at c.in_ok-taken.ensures in
    record {
      holds = s.holds refl;
      midway = λ e ls p h. midway_more _ _ (λ (xs : List TraceLine). xs) (λ (l : TraceLine). l) (λ x xs. refl) _ _ ls _
          (c.lines.invariant.midway e ls p h) (g.S.Source.left c.take.new.self) _ (g.S.Source.line c.in-Some.taken) _ t.goes_on t.number
          (λ here i. s.gone e here p i);
    }

pub returns-then-not-branch : goal.returns-then-not-branch
returns-then-not-branch g c =
    let s = rw (c.if-not-branch.true, c.lent.ensures) at c.in_ok-good.ensures in
    let t : TakesOne g.S.Source.line g.S.Source.left g.S.Source.next g.S.Source.size c.lines.source c.in-Some.taken c.take.new.self =
    rw c.in-Some.is at c.in_ok-taken.ensures in
    λ e ls p h. midway_stops _ _ (λ (xs : List TraceLine). xs) (λ (l : TraceLine). l) (λ x xs. refl) _ _ ls _
    (c.lines.invariant.midway e ls p h) (g.S.Source.left c.take.new.self) (g.S.Source.line c.in-Some.taken) _ t.goes_on
    (omega (arith, c.number.ensures, t.number)) (λ here i. s.gone e here p i)

pub returns-then-not-branch-2 : goal.returns-then-not-branch-2
returns-then-not-branch-2 g c =
    let t = rw c.in_default.is at c.in_ok-taken.ensures in
    λ e ls p h.
    let m = c.lines.invariant.midway e ls p h in
    reached_stops _ _ _ ls m.rest _ m.reached _ _ (t.0 m.rest m.left) (c.number-then-not-branch-2.ensures ∙ t.1)
    (here-lacks _ e _ _ c.lines.state (λ o. true≢false (sym (sym c.if-not-branch-2.true ∙ c.in_ok-is_over.ensures.over.1 o))))

pub returns : goal.returns
returns g c =
    let t = rw c.in_default.is at c.in_ok-taken.ensures in
    λ e ls p h.
    let m = c.lines.invariant.midway e ls p h in
    here-ends _ e _ _ c.lines.state c.args.rows.now ls m.rest _ _ m.reached (t.0 m.rest m.left)
    (c.in_ok-is_over.ensures.over.0 c.if-not-branch-2.false) c.in_ok-is_over.ensures.seen
