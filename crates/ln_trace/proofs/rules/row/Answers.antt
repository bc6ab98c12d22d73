-- Answers to the goals of `row` in src/rules.rt.
use Rattle.std.proofs.Common.{sym, ◌∙◌, true≢false}
use Rattle.ln_trace.proofs.Steps.{row-elsewhere, row-goes, row-other, row-range}
use Rattle.ln_trace.proofs.rules.row.Goals as goal

pub returns-then-not-is_next : goal.returns-then-not-is_next
returns-then-not-is_next c = λ f st k. row-elsewhere c.args.p.now.shape f st c.args.rows.now c.args.state.now c.args.n _ _
    (λ h. true≢false (sym (sym c.if-not-is_next.true ∙ c.is_next.ensures.1 h)))

pub returns-then-not-is : goal.returns-then-not-is
returns-then-not-is c = λ f st k. row-other c.args.p.now.shape f st c.args.rows.now c.args.state.now c.args.n c.in_ok-next.next
    c.taken.new.rows c.taken.new.row _ (λ h. true≢false (sym (sym c.if-not-is.true ∙ c.is.ensures.1 h))) c.in_ok-next.ensures

pub returns : goal.returns
returns c =
    let h = c.is_next.ensures.0 c.if-not-is_next.false in
    λ f st k. row-goes c.args.p.now.shape f st c.args.rows.now c.args.state.now c.args.n c.in_ok-next.next c.taken.new.rows c.taken.new.row
    c.order_at-o.result c.open.new.state k h.0 h.1 (c.is.ensures.0 c.if-not-is.false) c.in_ok-next.ensures c.order_at-o.ensures c.open.ensures

pub order_at-o-requires : goal.order_at-o-requires
order_at-o-requires c = row-range c.args.p.now.shape c.in_ok-next.next c.args.rows.now c.taken.new.rows c.taken.new.row
    (c.is.ensures.0 c.if-not-is.false) c.in_ok-next.ensures
