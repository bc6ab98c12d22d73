-- Answers to the goals of `next` in src/reading.rt.
use Rattle.std.proofs.Common.{◌≡◌, ◌+◌, List, [], refl, sym, subst}
use Rattle.ln_base.specs.Forms.Unread.{AreLeft, IsTaken, IsUnread, Unread}
use Rattle.ln_base.proofs.Forms.Left.{none_left, none_refused, taken}
use Rattle.ln_base.proofs.lines.reading.next.Goals as goal

pub returns-then-rest-eq0-clause-takes : goal.returns-then-rest-eq0-clause-takes
returns-then-rest-eq0-clause-takes g c =
    let u : Unread g.row.S.Denot = record { state = c.rest.inside.state; line = c.rest.inside.line; text = c.rest.inside.text.now } in
    let e : c.args.rest.now ≡ u = cc in (
      subst (λ (x : Unread g.row.S.Denot). (ls : List g.row.L.Denot) → AreLeft (g.G.Grammar.rules c.args.form.now) x ls → ls ≡ []) (sym e)
          (λ ls h. none_left _ u ls h c.if-rest-eq0.true),
      refl,
    )

pub unreachable-requires : goal.unreachable-requires
unreachable-requires g c =
    let u : Unread g.row.S.Denot = record { state = c.rest.inside.state; line = c.rest.inside.line; text = c.rest.inside.text.now } in
    let e : c.args.rest.now ≡ u = cc in
    let r = subst (IsUnread (g.G.Grammar.rules c.args.form.now)) e c.requires.unread in
    none_refused _ u r.rest r.left (rw c.in_default.is at c.in_ok-read.ensures)

pub returns-clause-takes : goal.returns-clause-takes
returns-clause-takes g c =
    let u : Unread g.row.S.Denot = record { state = c.rest.inside.state; line = c.rest.inside.line; text = c.rest.inside.text.now } in
    let w : Unread g.row.S.Denot =
    record { state = c.in-Some.state; line = c.rest.inside.line + 1; text = c.after-rest-inside.result.now } in
    let e : c.args.rest.now ≡ u = cc in
    subst (λ (x : Unread g.row.S.Denot). IsTaken (g.G.Grammar.rules c.args.form.now) x c.in-Some.line w) (sym e)
    (taken _ c.requires.sound u w c.in-Some.line c.in-Some.state c.in-Some.count (rw c.in-Some.is at c.in_ok-read.ensures) refl refl
    c.after-rest-inside.ensures)
