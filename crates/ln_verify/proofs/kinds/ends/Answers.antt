-- Answers to the goals of `ends` in src/kinds.rt.
use Rattle.std.proofs.Common.{arith, ◌≡◌, ◌↔◌, length, ◌∙◌, subst, sym}
use Rattle.std.specs.Prelude.{IsTrue}
use Rattle.std.proofs.lemmas.Result.{IfOk-weaker}
use Rattle.ln_algebra.specs.Terms.{IsNormalOf, derived}
use Rattle.ln_algebra.specs.Tree.{Tree}
use Rattle.ln_tree.specs.Exps.{IsAbove, Pairs, vector}
use Rattle.ln_poly.specs.Expansion.{IsNormal}
use Rattle.ln_poly.specs.Sparse.{terms_of}
use Rattle.ln_verify.specs.Here.{subject_of}
use Rattle.ln_verify.specs.Rules.{in_range}
use Rattle.ln_verify.proofs.Polynomials.Closes.{block_stack-ends, last-above, last-is, not-empty, not-one}
use Rattle.ln_verify.proofs.Values.Ranges.{not-true}
use Rattle.ln_verify.proofs.kinds.ends.Goals as goal

pub returns-then-is_empty : goal.returns-then-is_empty
returns-then-is_empty c es a s e m i = absurd (not-empty c.args.exps.now es a c.if-is_empty.ensures e)

pub returns-then-len-ne1 : goal.returns-then-len-ne1
returns-then-len-ne1 c es a s e m i = (
  λ t. not-true _ t,
  λ q. absurd (not-one in_range (length c.args.case.now.shape.now.vars) c.args.block_stack.now.values.items s.stack i.stack
      (λ l. c.if-len-ne1.true (omega (arith, c.len.ensures, l))) q.left q.one),
)

pub returns : goal.returns
returns c = IfOk-weaker c.is_derivative.result _ _ (λ ok h es a s e m i.
    let n = length c.args.case.now.shape.now.vars in
    let p = subject_of c.args.case.now in
    let f : c.index-exps-exps.result ≡ a = c.index-exps-exps.is ∙ last-is c.args.exps.now es a c.index-exps-exps.result e in
    let above : IsAbove c.index-exps-exps.result n = subst (λ (x : Pairs). IsAbove x n) (sym f) (last-above n c.args.exps.now es a e m) in
    block_stack-ends p a c.args.block_stack.now s c.index.result.now ok (omega (arith, c.len.ensures, c.if-len-ne1.false))
    c.index.ensures i
    (subst (λ (x : Pairs). (t : Tree) → IsNormal n t c.index.result.now.poly → IsTrue ok ↔ IsNormalOf n t (derived (vector n x) (terms_of n p.poly)))
    f (rw c.in_ok-f.ensures at (h above)))) c.is_derivative.ensures
