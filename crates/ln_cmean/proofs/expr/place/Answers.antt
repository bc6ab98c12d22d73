-- Answers to the goals of `place` in src/expr.rt.
use Rattle.std.proofs.Common.{rules, ℤ, pos, get_or, FitsSigned, w64, ap, sym, ◌∙◌}
use Rattle.std.specs.Int.{w128}
use Rattle.std.proofs.lemmas.Int.{to_z-of_z}
use Rattle.std.proofs.lemmas.Option.{slice_get-get_or}
use Rattle.ln_csyn.specs.declared.tree.CType.TheVariants.{Int64}
use Rattle.ln_csyn.specs.Meaning.{Gives, number_in}
use Rattle.ln_cmean.proofs.expr.place.Goals as goal

pub returns-then-at-numbers : goal.returns-then-at-numbers
returns-then-at-numbers c = λ k.
    let x : ℤ = get_or c.args.numbers.now c.args.at (pos 0) in
    let narrow : FitsSigned w64 x = search rules in
    let wide : FitsSigned w128 c.from.result = search rules in
    ap (λ z. Gives Int64 z k) (to_z-of_z w128 c.from.result wide ∙ c.from.ensures ∙ to_z-of_z w64 x narrow)
    ∙ ap (λ o. number_in o Int64 k) (sym (slice_get-get_or c.args.numbers.now c.args.at (pos 0) c.if-at-numbers.true))
