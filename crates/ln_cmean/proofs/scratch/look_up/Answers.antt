use Rattle.std.proofs.Common.{◌∙◌, ◌<◌, sym, ap, length, reverse, arith}
use Rattle.std.proofs.lemmas.List.{get_or_read}
use Rattle.ln_cmean.specs.Chains.{bucket_of, last_in}
use Rattle.ln_cmean.proofs.Look.{at_first, at_next, found, below_less}
use Rattle.ln_cmean.proofs.scratch.look_up.Goals as goal

pub slots-init : goal.slots-init
slots-init c =
    let s = c.args.s.now in
    let at = c.bucket-at.result in
    let w : at < length s.tops.items = omega (arith, c.bucket-at.ensures.within, c.len.ensures, s.tops.ok.0) in
    let e = c.bucket-at.ensures.is ∙ ap (λ n. bucket_of c.args.name.now n) (c.len.ensures ∙ s.tops.ok.0) in
    at_first s.base (length s.tops.items) (reverse s.slots.items) c.args.name.now c.index-n.result.now s.linked
    (get_or_read s.tops.items at c.index-n.result.now w c.index-n.ensures 0 ∙ s.topped at w ∙ ap (λ b. last_in (reverse s.slots.items) b) e)

pub returns-then-is_named : goal.returns-then-is_named
returns-then-is_named c = λ k.
    let s = c.args.s.now in
    c.number_of.ensures k ∙ sym (found s.base (length s.tops.items) s.slots.items c.args.name.now c.slots.n c.slot_at-slot.result.now k c.slots.invariant
    (omega (arith, c.slots-test.true)) c.slot_at-slot.ensures (sym c.is_named.ensures ∙ c.if-is_named.true))

pub slots-smaller : goal.slots-smaller
slots-smaller c =
    let s = c.args.s.now in
    below_less s.base (length s.tops.items) s.slots.items c.args.name.now c.slots.n c.slot_at-slot.result.now s.linked c.slots.invariant
    (omega (arith, c.slots-test.true)) c.slot_at-slot.ensures

pub slots-preserved : goal.slots-preserved
slots-preserved c =
    let s = c.args.s.now in
    at_next s.base (length s.tops.items) s.slots.items c.args.name.now c.slots.n c.slot_at-slot.result.now s.linked c.slots.invariant
    (omega (arith, c.slots-test.true)) c.slot_at-slot.ensures (sym c.is_named.ensures ∙ c.if-is_named.false)
