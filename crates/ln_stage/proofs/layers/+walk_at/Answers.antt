-- The remaining goals of `walk_at`.
use Rattle.std.proofs.Common.{◌≡◌, ◌<◌, ◌≤◌, ◌-◌, get_or, arith, refl, sym, ap, ◌∙◌, length}
use Rattle.std.proofs.lemmas.List.{length-drop, take_rest}
use Rattle.std.proofs.lemmas.Result.{err_from_is_err_and}
use Rattle.ln_stage.specs.Degrees.{listed_degree_from}
use Rattle.ln_stage.proofs.Degrees.DegreeLemmas.{at-none, at-skips, at-turn, ends-degree, ends-exponent, inside-high, leaf-is, leaf-none, zero-step, zero-turn}
use Rattle.ln_stage.proofs.Walks.TurnLemmas.{ends-left, ends-same, turn-cut, turn-more, turn-over}
use Rattle.ln_stage.proofs.Walks.WalkLemmas.{from-step, none-length, size, some-length}
use Rattle.ln_stage.proofs.layers.+walk_at.Goals as goal
use Rattle.ln_stage.proofs.layers.+walk_at.Goals.{then-reaches+in_ok-q+in_ok-walk_at-2+else-branch-2, else-reaches}

pub returns-then-d-eq0-clause-ok : goal.returns-then-d-eq0-clause-ok
returns-then-d-eq0-clause-ok t c =
    rw (leaf-is c.args.f.now c.args.vs.now c.args.kept.now c.args.p.now c.args.d c.requires.step (omega (arith, c.if-d-eq0.true))) c.leaf.ensures.ok

pub returns-then-d-eq0-clause-err : goal.returns-then-d-eq0-clause-err
returns-then-d-eq0-clause-err t c =
    rw (leaf-is c.args.f.now c.args.vs.now c.args.kept.now c.args.p.now c.args.d c.requires.step (omega (arith, c.if-d-eq0.true))) c.leaf.ensures.err

pub returns-then-is_empty-clause-ok : goal.returns-then-is_empty-clause-ok
returns-then-is_empty-clause-ok t c = ends-same (sym (leaf-none c.args.f.now c.args.vs.now c.args.kept.now c.args.p.now c.args.d
    (none-length _ c.if-is_empty.ensures) (omega (arith, c.if-d-eq0.false))))

pub walk_at-requires : goal.walk_at-requires
walk_at-requires t c =
    let more = some-length _ c.if-is_empty.ensures in
    let rest = take_rest c.args.vs.now 1 in (
      omega (arith, c.decreases, more, ap length rest, length-drop 1 c.args.vs.now),
      (zero-step c.requires.step more rest, (c.requires.few, omega (arith, c.requires.vars, ap length rest, length-drop 1 c.args.vs.now))),
    )

pub returns-in_err-walk_at-clause-err : goal.returns-in_err-walk_at-clause-err
returns-in_err-walk_at-clause-err t c =
    let w = zero-turn c.requires.step (some-length _ c.if-is_empty.ensures) (take_rest c.args.vs.now 1) c.args.d in
    let p = err_from_is_err_and c.from_residual.result c.from_residual.ensures.1 in
    rw (p.1, p.2) (turn-over {f = c.args.f.now} {u = c.args.tally.now} _ w (ends-same refl) c.in_err-walk_at.ensures.err)

pub returns-then-branch-clause-ok : goal.returns-then-branch-clause-ok
returns-then-branch-clause-ok t c =
    let w = zero-turn c.requires.step (some-length _ c.if-is_empty.ensures) (take_rest c.args.vs.now 1) c.args.d in
    turn-cut w (ends-same refl) c.in_ok-walk_at.ensures.ok c.if-branch.true

pub exponents-init : goal.exponents-init
exponents-init t c =
    let w = zero-turn c.requires.step (some-length _ c.if-is_empty.ensures) (take_rest c.args.vs.now 1) c.args.d in
    turn-more w (ends-same refl) c.in_ok-walk_at.ensures.ok c.if-branch.false

pub returns-then-from-d-clause-ok : goal.returns-then-from-d-clause-ok
returns-then-from-d-clause-ok t c =
    let l : c.args.d < c.exponents.e = omega (arith, c.if-from-d.true, c.from.ensures) in
    ends-left (ends-degree c.args.f.now c.args.vs.now c.args.kept.now c.args.p.now c.args.d c.exponents.e l) c.exponents.invariant

pub returns-then-is_empty-2-clause-ok : goal.returns-then-is_empty-2-clause-ok
returns-then-is_empty-2-clause-ok t c =
    let none : length c.in_ok-high.high.items ≡ 0 = omega (arith, none-length _ c.if-is_empty-2.ensures, c.in_ok-high.high.ok.0) in
    let l : c.exponents.e ≤ c.args.d = omega (arith, c.if-from-d.false, c.from.ensures) in
    ends-left (at-none c.requires.step (some-length _ c.if-is_empty.ensures) c.args.d c.exponents.e (omega arith) l c.in_ok-high.ensures none)
    c.exponents.invariant

pub reaches-requires-clause-inside : goal.reaches-requires-clause-inside
reaches-requires-clause-inside t c = inside-high c.args.f.now (get_or c.args.vs.now 0 0) c.exponents.e c.args.kept.now c.as_slice.result.now
    (c.as_slice.ensures.value ∙ c.in_ok-high.ensures) c.requires.step.inside

pub walk_at-requires-then-reaches : goal.walk_at-requires-then-reaches
walk_at-requires-then-reaches t c =
    let more = some-length _ c.if-is_empty.ensures in
    let high = c.as_slice-then-reaches.ensures.value ∙ c.in_ok-high.ensures in
    let some : 0 < length c.as_slice-then-reaches.result.now = omega (arith, some-length _ c.if-is_empty-2.ensures, c.as_slice-then-reaches.ensures.len) in
    let q = c.as_slice-then-reaches-2.ensures.value ∙ c.in_ok-q.ensures in
    let rest = take_rest c.args.vs.now 1 in (
      omega (arith, c.decreases, more, ap length rest, length-drop 1 c.args.vs.now),
      (
        from-step c.requires.step more c.exponents.e (omega arith) high some q rest,
        (
          omega (arith, c.requires.few, size c.requires.step more c.exponents.e (omega arith) high some q rest),
          omega (arith, c.requires.vars, ap length rest, length-drop 1 c.args.vs.now),
        ),
      ),
    )

pub returns-in_err-walk_at-2-clause-err : goal.returns-in_err-walk_at-2-clause-err
returns-in_err-walk_at-2-clause-err t c =
    let l : c.exponents.e ≤ c.args.d = omega (arith, c.if-from-d.false, c.from.ensures) in
    let some : 0 < length c.as_slice-then-reaches.result.now = omega (arith, some-length _ c.if-is_empty-2.ensures, c.as_slice-then-reaches.ensures.len) in
    let w = at-turn c.requires.step (some-length _ c.if-is_empty.ensures) c.args.d c.exponents.e (omega arith) l
    (c.as_slice-then-reaches.ensures.value ∙ c.in_ok-high.ensures) some _ (c.as_slice-then-reaches-2.ensures.value ∙ c.in_ok-q.ensures)
    (take_rest c.args.vs.now 1) (ap (λ z. c.args.d - z) c.from-in-exponents.ensures) in
    let p = err_from_is_err_and c.from_residual-in_err-walk_at-2.result c.from_residual-in_err-walk_at-2.ensures.1 in
    rw (p.1, p.2) (turn-over _ w c.exponents.invariant c.in_err-walk_at-2.ensures.err)

pub returns-then-branch-2-clause-ok : goal.returns-then-branch-2-clause-ok
returns-then-branch-2-clause-ok t c =
    let l : c.exponents.e ≤ c.args.d = omega (arith, c.if-from-d.false, c.from.ensures) in
    let some : 0 < length c.as_slice-then-reaches.result.now = omega (arith, some-length _ c.if-is_empty-2.ensures, c.as_slice-then-reaches.ensures.len) in
    let w = at-turn c.requires.step (some-length _ c.if-is_empty.ensures) c.args.d c.exponents.e (omega arith) l
    (c.as_slice-then-reaches.ensures.value ∙ c.in_ok-high.ensures) some _ (c.as_slice-then-reaches-2.ensures.value ∙ c.in_ok-q.ensures)
    (take_rest c.args.vs.now 1) (ap (λ z. c.args.d - z) c.from-in-exponents.ensures) in
    turn-cut w c.exponents.invariant c.in_ok-walk_at-2.ensures.ok c.if-branch-2.true

pub exponents-preserved : goal.exponents-preserved
exponents-preserved t c =
    let more = some-length _ c.if-is_empty.ensures in
    let l : c.exponents.e ≤ c.args.d = omega (arith, c.if-from-d.false, c.from.ensures) in
    elim c.if-reaches.branch [
      | then-reaches+in_ok-q+in_ok-walk_at-2+else-branch-2 w ↦
          let some : 0 < length w.as_slice-then-reaches.result.now =
          omega (arith, some-length _ c.if-is_empty-2.ensures, w.as_slice-then-reaches.ensures.len) in
          let r = at-turn c.requires.step more c.args.d c.exponents.e (omega arith) l (w.as_slice-then-reaches.ensures.value ∙ c.in_ok-high.ensures)
          some _ (w.as_slice-then-reaches-2.ensures.value ∙ w.in_ok-q.ensures) (take_rest c.args.vs.now 1)
          (ap (λ z. c.args.d - z) c.from-in-exponents.ensures) in
          rw w.tally-is (turn-more r c.exponents.invariant w.in_ok-walk_at-2.ensures.ok w.if-branch-2.false)
      | else-reaches w ↦
          let some : 0 < length c.as_slice.result.now = omega (arith, some-length _ c.if-is_empty-2.ensures, c.as_slice.ensures.len) in
          let k = at-skips c.requires.step more c.args.d c.exponents.e (omega arith) l (c.as_slice.ensures.value ∙ c.in_ok-high.ensures) some
          (rw (← take_rest c.args.vs.now 1, ← c.from-in-exponents.ensures) (sym c.reaches.ensures ∙ w.if-reaches.false)) in
          rw w.tally-is (ends-left k c.exponents.invariant)
    ]

pub returns-clause-ok : goal.returns-clause-ok
returns-clause-ok t c =
    let q : c.exponents.e ≡ 128 = omega arith in
    ends-left (ap (listed_degree_from c.args.f.now c.args.vs.now c.args.kept.now c.args.p.now c.args.d) q
    ∙ ends-exponent c.args.f.now c.args.vs.now c.args.kept.now c.args.p.now c.args.d c.requires.step) c.exponents.invariant
