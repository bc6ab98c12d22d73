use Rattle.std.proofs.Common.{refl, sym, ◌∙◌}
use Rattle.ln_top.proofs.TargetLemmas.FactorsLaws.{due_for, room_kept, row_of_factors, take_front}
use Rattle.ln_top.proofs.target.factors.Factors.verdicts.Goals as goal

pub product_row-requires-clause-places : goal.product_row-requires-clause-places
product_row-requires-clause-places c = rw c.as_slice.ensures.value c.self.invariant.places

pub product_row-requires-clause-row : goal.product_row-requires-clause-row
product_row-requires-clause-row c =
    row_of_factors _ _ _ c.args.row.now c.self.invariant refl c.as_slice.ensures.value (rw (← c.self.view_is) at c.requires.range)

pub product_row-requires-clause-made : goal.product_row-requires-clause-made
product_row-requires-clause-made c =
    rw (c.as_slice.ensures.value, c.as_mut_slice.ensures.value) (rw (← c.self.view_is) at c.requires.room.made)

pub product_row-requires-clause-size : goal.product_row-requires-clause-size
product_row-requires-clause-size c =
    rw (c.as_slice.ensures.value, c.as_mut_slice-2.ensures.value) (rw (← c.self.view_is) at c.requires.room.size)

pub returns-clause-due : goal.returns-clause-due
returns-clause-due c =
    rw (← c.self.view_is) (due_for _ _ c.args.row.now c.product_row.new.out _ c.self.invariant c.as_slice.ensures.value
    (rw (← c.self.view_is) at c.requires.range) c.product_row.ensures.verdicts
    (take_front _ c.product_row.new.out _ (sym (c.product_row.auto.out ∙ c.as_mut_slice-2.ensures.len))))

pub returns-clause-sign : goal.returns-clause-sign
returns-clause-sign c =
    rw (take_front _ c.product_row.new.out _ (sym (c.product_row.auto.out ∙ c.as_mut_slice-2.ensures.len))) c.product_row.ensures.sign

pub returns-clause-room : goal.returns-clause-room
returns-clause-room c =
    rw (← c.self.view_is) (room_kept _ _ _ _ c.product_row.new.s _ c.product_row.new.out _ c.self.invariant c.as_slice.ensures.value
    (sym (c.product_row.auto.s ∙ c.as_mut_slice.ensures.len)) (sym (c.product_row.auto.out ∙ c.as_mut_slice-2.ensures.len))
    c.product_row.ensures.made
    (c.product_row.auto.out ∙ rw (c.as_slice.ensures.value, c.as_mut_slice-2.ensures.value) (rw (← c.self.view_is) at c.requires.room.size)))
