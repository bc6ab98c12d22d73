-- Answers to the goals of `same_stages` in src/orders.rt.
use Rattle.std.proofs.Common.{◌≡◌, ◌↔◌, ◌<◌, [], true, get_or, length, arith, sym, ◌∙◌, subst, refl}
use Rattle.ln_tree.specs.Exps.{IsAbove, Pairs}
use Rattle.ln_verify.specs.Orders.{HasVector}
use Rattle.ln_verify.proofs.Judging.Wholes.{decides-end, decides-next, decides-stop, same-length}
use Rattle.ln_verify.proofs.Values.Ranges.{not-true}
use Rattle.ln_verify.proofs.orders.same_stages.Goals as goal

pub returns-then-list-numbers : goal.returns-then-list-numbers
returns-then-list-numbers c n a b = (λ e. not-true _ e, λ s. absurd (c.if-list-numbers.true (same-length n _ _ _ _ s)))

pub stages-init : goal.stages-init
stages-init c = (c.if-list-numbers.false, λ n a b. (λ s. s, λ s. s))

pub returns-then-not-has_exps : goal.returns-then-not-has_exps
returns-then-not-has_exps c n a b =
    let i : c.stages.j < length c.args.numbers.now = omega (arith, c.stages-test.true, c.stages.invariant.0) in
    let at : IsAbove (get_or c.args.st.now.exps (get_or c.args.numbers.now c.stages.j 0) []) n =
    b (get_or c.args.numbers.now c.stages.j 0) [] (c.requires c.stages.j 0 i) in
    let q = subst (λ (x : Pairs). IsAbove x n) (sym c.exps.ensures) at in
    let h0 = c.has_exps.ensures n a q in
    let h = subst (λ (x : Pairs). (c.has_exps.result ≡ true) ↔ HasVector n c.args.exps.now (get_or c.args.list.now c.stages.j 0) x) c.exps.ensures h0 in (
      λ e. not-true _ e,
      λ s. absurd (decides-stop n c.args.exps.now c.args.st.now.exps c.args.list.now c.args.numbers.now c.stages.j
          (omega (arith, c.stages-test.true)) c.stages.invariant.0 (c.stages.invariant.1 n a b) (λ v. not-true _ (sym c.if-not-has_exps.true ∙ h.1 v)) s),
    )

pub stages-preserved : goal.stages-preserved
stages-preserved c = (
  c.stages.invariant.0,
  λ n a b.
      let i : c.stages.j < length c.args.numbers.now = omega (arith, c.stages-test.true, c.stages.invariant.0) in
      let at : IsAbove (get_or c.args.st.now.exps (get_or c.args.numbers.now c.stages.j 0) []) n =
      b (get_or c.args.numbers.now c.stages.j 0) [] (c.requires c.stages.j 0 i) in
      let q = subst (λ (x : Pairs). IsAbove x n) (sym c.exps.ensures) at in
      let h0 = c.has_exps.ensures n a q in
      let h = subst (λ (x : Pairs). (c.has_exps.result ≡ true) ↔ HasVector n c.args.exps.now (get_or c.args.list.now c.stages.j 0) x) c.exps.ensures h0 in
      decides-next n c.args.exps.now c.args.st.now.exps c.args.list.now c.args.numbers.now c.stages.j
      (omega (arith, c.stages-test.true)) c.stages.invariant.0 (c.stages.invariant.1 n a b) (h.0 c.if-not-has_exps.false),
)

pub returns : goal.returns
returns c n a b = (
  λ e. decides-end n c.args.exps.now c.args.st.now.exps c.args.list.now c.args.numbers.now c.stages.j
      (omega (arith, c.stages-test.false)) c.stages.invariant.0 (c.stages.invariant.1 n a b),
  λ s. refl,
)
