-- Answers to the goals of `no_locals` in src/stacks.rt.
use Rattle.std.proofs.Common.{◌≡◌, ap, arith, ◌∙◌, ◌++◌, ◌∷◌, []}
use Rattle.std.specs.Prelude.{replicate, None}
use Rattle.std.proofs.lemmas.List.{replicate_more}
use Rattle.ln_verify.proofs.stacks.no_locals.Goals as goal

pub locals-init : goal.locals-init
locals-init g c = c.new-locals.ensures.items

pub locals-preserved : goal.locals-preserved
locals-preserved g c = c.in_ok-push.ensures.items ∙ ap (λ xs. xs ++ None ∷ []) c.locals.invariant ∙ replicate_more c.locals._i None

pub returns : goal.returns
returns g c =
    let e : c.locals._i ≡ 256 = omega (arith, c.locals-test.false, c.locals.auto._i-end) in
    c.locals.invariant ∙ ap (λ k. replicate k None) e
