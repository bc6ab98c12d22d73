-- Answers to the goals of `refused` in src/rules.rt.
use Rattle.std.proofs.Common.{sym, ◌∙◌, true≢false}
use Rattle.ln_trace.proofs.Steps.{refused-elsewhere, refused-goes, refused-other}
use Rattle.ln_trace.proofs.rules.refused.Goals as goal

pub returns-then-not-is_next : goal.returns-then-not-is_next
returns-then-not-is_next c = λ f st. refused-elsewhere c.args.p.now.shape f st c.args.rows.now c.args.state.now c.args.n _ _
    (λ h. true≢false (sym (sym c.if-not-is_next.true ∙ c.is_next.ensures.1 h)))

pub returns-then-not-is : goal.returns-then-not-is
returns-then-not-is c = λ f st. refused-other c.args.p.now.shape f st c.args.rows.now c.args.state.now c.args.n c.in_ok-next.next
    c.taken.new.rows c.taken.new.row _ (λ h. true≢false (sym (sym c.if-not-is.true ∙ c.is.ensures.1 h))) c.in_ok-next.ensures

pub returns : goal.returns
returns c =
    let h = c.is_next.ensures.0 c.if-not-is_next.false in
    λ f st. refused-goes c.args.p.now.shape f st c.args.rows.now c.args.state.now c.args.n c.in_ok-next.next c.taken.new.rows c.taken.new.row
    h.0 h.1 (c.is.ensures.0 c.if-not-is.false) c.in_ok-next.ensures
