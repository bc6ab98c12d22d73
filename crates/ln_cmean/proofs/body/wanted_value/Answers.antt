use Rattle.std.proofs.Common.{rules, sym, subst, ◌∙◌, ◌≡◌, true}
use Rattle.std.specs.Prelude.{FitsSigned}
use Rattle.std.specs.Int.{w128}
use Rattle.std.proofs.lemmas.Int.{to_z-of_z}
use Rattle.ln_csyn.specs.Meaning.{has}
use Rattle.ln_csyn.specs.View.{expr_tree}
use Rattle.ln_cmean.specs.Scene.{scene_of}
use Rattle.ln_cmean.specs.Slots.{seen}
use Rattle.ln_cmean.specs.Answered.{tally}
use Rattle.ln_cmean.proofs.Within.{wanted_within}
use Rattle.ln_cmean.proofs.body.wanted_value.Goals as goal

pub returns-then-same_kind-clause-within : goal.returns-then-same_kind-clause-within
returns-then-same_kind-clause-within g c =
    let fits : FitsSigned w128 c.in-Ok.n.number = search rules in
    subst (λ z. has c.args.of.now.kind z ≡ true) (sym (to_z-of_z w128 c.in-Ok.n.number fits))
    (wanted_within (scene_of (g.C.Calls.given c.args.calls.now) c.args.inputs.now) (seen c.args.s.now) (expr_tree c.args.of.now.expr.now)
    (tally c.args.counts.now) (tally c.value.new.counts) _ _ _ c.in-Ok.ensures.meaning (sym c.if-same_kind.true ∙ c.same_kind.ensures))
