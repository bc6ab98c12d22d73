use Rattle.std.proofs.Common.{refl}
use Rattle.std.specs.Prelude.{Some}
use Rattle.ln_filter.proofs.Operations.Sealed.{sealed}
use Rattle.ln_filter.proofs.filters.written.Goals as goal

pub seal-requires : goal.seal-requires
seal-requires c =
    (sealed c.args.p.now c.in-Some.lets c.in-Some-2.field-0 _ (rw c.as_slice-vars.ensures at c.narrow.ensures) c.new-draft.ensures.code
    (rw (c.as_slice-vars.ensures, c.as_slice.ensures, c.new.ensures, c.in-Some.is) at c.in_ok-put_lets.ensures)
    (rw (c.as_slice-vars.ensures, c.as_slice-in-Some.ensures, c.in-Some-2.is) at c.in_ok-put_steady-in-Some.ensures) refl
    c.built-code.ensures.lines c.built-code.ensures.bounded).filter

pub returns-in-Some-2 : goal.returns-in-Some-2
returns-in-Some-2 c =
    rw c.seal.ensures (sealed c.args.p.now c.in-Some.lets c.in-Some-2.field-0 _ (rw c.as_slice-vars.ensures at c.narrow.ensures) c.new-draft.ensures.code
    (rw (c.as_slice-vars.ensures, c.as_slice.ensures, c.new.ensures, c.in-Some.is) at c.in_ok-put_lets.ensures)
    (rw (c.as_slice-vars.ensures, c.as_slice-in-Some.ensures, c.in-Some-2.is) at c.in_ok-put_steady-in-Some.ensures) refl
    c.built-code.ensures.lines c.built-code.ensures.bounded).planned
