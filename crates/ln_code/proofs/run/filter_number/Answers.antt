use Rattle.std.proofs.Common.{◌∙◌, ◌≡◌, FitsSigned, ap, length, refl, rules, sym}
use Rattle.std.specs.Prelude.{Some}
use Rattle.std.proofs.lemmas.Int.{to_z-of_z}
use Rattle.std.proofs.lemmas.Option.{same_Some}
use mir.Syntax.{w128}
use Rattle.ln_code.proofs.Verdicts.Calls.{filter_gives, made_again}
use Rattle.ln_code.proofs.run.filter_number.Goals as goal

pub run_filter-requires-clause-answers : goal.run_filter-requires-clause-answers
run_filter-requires-clause-answers c =
    let b = filter_gives c.args.f.now c.args.values.now c.as_mut_slice-2.result.now c.requires.program c.requires.made c.requires.row
    c.requires.filter c.as_mut_slice.ensures.value in
    rw (c.ops.ensures, c.triples.ensures.value, b.1) refl

pub returns-clause-value : goal.returns-clause-value
returns-clause-value c =
    let f : FitsSigned w128 c.run_filter.result = search rules in
    let b = filter_gives c.args.f.now c.args.values.now c.as_mut_slice-2.result.now c.requires.program c.requires.made c.requires.row
    c.requires.filter c.as_mut_slice.ensures.value in
    let e : b.0 ≡ c.run_filter.result = same_Some _ _ (sym b.1 ∙ (rw (c.ops.ensures, c.triples.ensures.value) at c.run_filter.ensures.value)) in
    rw (to_z-of_z w128 c.run_filter.result f, ← e) b.2

pub returns-clause-made : goal.returns-clause-made
returns-clause-made c =
    made_again c.args.p.now c.args.s.now _ _ c.requires.made (c.run_filter.ensures.size ∙ ap length c.as_mut_slice.ensures.value)
    (c.run_filter.ensures.locals ∙ ap length c.as_mut_slice-2.ensures.value)
