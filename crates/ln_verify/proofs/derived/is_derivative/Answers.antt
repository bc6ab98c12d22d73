-- Answers to the goals of `is_derivative` in src/derived.rt.
use Rattle.std.proofs.Common.{ℕ, length, subst, sym, ◌∙◌}
use Rattle.ln_tree.specs.Exps.{IsAbove, Pairs}
use Rattle.ln_verify.proofs.Polynomials.Closes.{end-same}
use Rattle.ln_verify.proofs.Values.Ranges.{not-true}
use Rattle.ln_verify.proofs.derived.is_derivative.Goals as goal

pub returns-then-not-are_below : goal.returns-then-not-are_below
returns-then-not-are_below c above t h =
    let a : IsAbove c.args.a.now c.len.result = subst (λ (n : ℕ). IsAbove c.args.a.now n) (sym c.len.ensures) above in
    let b : IsAbove c.pairs.result.now c.len.result = subst (λ (x : Pairs). IsAbove x c.len.result) (sym c.pairs.ensures.value) a in
    not-true _ (sym c.if-not-are_below.true ∙ c.are_below.ensures.1 b)

pub derive_by-requires-clause-exps : goal.derive_by-requires-clause-exps
derive_by-requires-clause-exps c =
    let b : IsAbove c.pairs.result.now c.len.result = c.are_below.ensures.0 c.if-not-are_below.false in
    let a : IsAbove c.args.a.now c.len.result = subst (λ (x : Pairs). IsAbove x c.len.result) c.pairs.ensures.value b in
    subst (λ (n : ℕ). IsAbove c.args.a.now n) c.len.ensures a

pub returns : goal.returns
returns c above t h =
    let d = c.in_ok-h.ensures.derivative in
    let s = end-same (length c.args.case.now.shape.now.vars) t c.args.g.now c.in_ok-h.h c.args.case.now.poly.now c.args.a.now h d.form d.below d.coefficients in
    (λ e. s.0 (c.same.ensures.0 e), λ n. c.same.ensures.1 (s.1 n))
