use Rattle.std.proofs.Common.{◌≡◌, length, rules}
use Rattle.std.proofs.lemmas.Result.{IfOk-weaker}
use Rattle.ln_poly.proofs.Packing.Whole.{with-next}
use Rattle.ln_poly.proofs.packed.with_rows.Goals as goal

pub products-n-requires : goal.products-n-requires
products-n-requires g c =
    (search rules, (rw c.deref_mut.ensures.value c.requires.long, (rw c.deref_mut-2.ensures.value c.requires.long_aside, c.requires.fit)))

pub returns-clause-rows : goal.returns-clause-rows
returns-clause-rows g c =
    let l : length c.products-n.new.out ≡ c.args.room.now.out.len = search rules in
    IfOk-weaker c.merged.result _ _ (λ h m e p.
    with-next c.args.done.now c.args.f.now c.args.g.now e _ _ _ h.items c.products-n.result _ p c.products-n.ensures.products m c.deref_mut-3.ensures.value l)
    c.merged.ensures.merge
