use Rattle.std.proofs.Common.{sym, subst, length, reverse, arith}
use Rattle.std.proofs.lemmas.List.{length-set}
use Rattle.ln_cmean.specs.Chains.{IsLinked}
use Rattle.ln_cmean.proofs.Chains.{close_within, close_linked, close_topped}
use Rattle.ln_cmean.proofs.scratch.close.Goals as goal

pub index_mut-requires : goal.index_mut-requires
index_mut-requires c =
    let s = c.args.s.now in
    omega (arith, close_within (length s.tops.items) s.slots.items c.pop.new.self.items c.in-Some.slot c.in-Some.ensures.items s.linked, s.tops.ok.0)

pub invariant_of-s-clause-topped : goal.invariant_of-s-clause-topped
invariant_of-s-clause-topped c =
    let s = c.args.s.now in
    close_topped (length s.tops.items) s.slots.items c.pop.new.self.items s.tops.items c.in-Some.slot c.in-Some.ensures.items s.linked s.topped

pub invariant_of-s-clause-linked : goal.invariant_of-s-clause-linked
invariant_of-s-clause-linked c =
    let s = c.args.s.now in
    subst (λ n. IsLinked n (reverse c.pop.new.self.items)) (sym (length-set s.tops.items c.in-Some.slot.bucket c.in-Some.slot.below))
    (close_linked (length s.tops.items) s.slots.items c.pop.new.self.items c.in-Some.slot c.in-Some.ensures.items s.linked)
