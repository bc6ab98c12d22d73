use Rattle.std.proofs.Common.{◌∙◌, ◌≡◌, ◌-◌, ◌+◌, ◌∷◌, ap, length, Some, refl, rules, arith}
use Rattle.std.specs.Prelude.{FitsSigned}
use Rattle.std.specs.Int.{w128}
use Rattle.std.proofs.lemmas.Int.{to_z-of_z}
use Rattle.std.proofs.lemmas.Option.{slice_get_read}
use Rattle.ln_cmean.proofs.Chains.{set_topped, set_linked, set_seen}
use Rattle.ln_cmean.proofs.scratch.settle.Goals as goal

pub invariant_of-s-clause-topped : goal.invariant_of-s-clause-topped
invariant_of-s-clause-topped c =
    let s = c.args.s.now in
    let n : c.len-n.result - 1 + 1 ≡ length s.slots.items = omega (arith, c.len-n.ensures, c.if-n-gt0.true, s.slots.ok.0) in
    let g = slice_get_read s.slots.items (length s.slots.items) (c.len-n.result - 1) c.index_mut.result.now refl (omega (arith, n)) c.index_mut.ensures.value in
    set_topped s.slots.items s.tops.items c.index_mut.result.now _ (c.len-n.result - 1) n g refl s.topped

pub invariant_of-s-clause-linked : goal.invariant_of-s-clause-linked
invariant_of-s-clause-linked c =
    let s = c.args.s.now in
    let n : c.len-n.result - 1 + 1 ≡ length s.slots.items = omega (arith, c.len-n.ensures, c.if-n-gt0.true, s.slots.ok.0) in
    let g = slice_get_read s.slots.items (length s.slots.items) (c.len-n.result - 1) c.index_mut.result.now refl (omega (arith, n)) c.index_mut.ensures.value in
    set_linked (length s.tops.items) s.slots.items c.index_mut.result.now _ (c.len-n.result - 1) n g refl refl refl s.linked

pub returns-then-n-gt0-clause-seen : goal.returns-then-n-gt0-clause-seen
returns-then-n-gt0-clause-seen c = λ d ds h.
    let s = c.args.s.now in
    let n : c.len-n.result - 1 + 1 ≡ length s.slots.items = omega (arith, c.len-n.ensures, c.if-n-gt0.true, s.slots.ok.0) in
    let g = slice_get_read s.slots.items (length s.slots.items) (c.len-n.result - 1) c.index_mut.result.now refl (omega (arith, n)) c.index_mut.ensures.value in
    let fits : FitsSigned w128 c.args.number = search rules in
    set_seen s.base s.slots.items c.index_mut.result.now _ (c.len-n.result - 1) d ds n g refl refl h
    ∙ ap (λ z. record { name = d.name; kind = d.kind; number = Some z } ∷ ds) (to_z-of_z w128 c.args.number fits)
