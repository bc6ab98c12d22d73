use Rattle.std.proofs.Common.{◌≡◌, ap, length, map, refl, subst}
use Rattle.std.proofs.lemmas.Result.{IfOk-weaker}
use Rattle.ln_tree.specs.Formula.{FPow, formula, node_formula, tree}
use Rattle.ln_bound.specs.Typed.{formula_of, kind_of_two, pair}
use Rattle.ln_bound.specs.Ranges.{HaveRange}
use Rattle.ln_bound.specs.View.{typed}
use Rattle.ln_bound.proofs.Soundness.ExactLaws.{power_range, two_range, two_untyped}
use Rattle.ln_bound.proofs.Trees.Operands.{are_operands, operands}
use Rattle.ln_bound.proofs.size.+fit.Goals as goal

pub fit-requires-in-Add : goal.fit-requires-in-Add
fit-requires-in-Add t c =
    let k = kind_of_two (formula c.args.e.now) in
    let at = c.args.e.now.at in
    let x = formula c.deref-in-Add.result.now in
    let y = formula c.in-Add.y.value in
    let q : formula c.args.e.now ≡ formula_of k at x y =
    rw c.deref-in-Add.ensures (operands at c.args.e.now.node _ _ _ (formula c.in-Add.x.value) (formula c.in-Add.y.value) c.in-Add.is refl refl refl) in
    let o = are_operands c.args.vars.now (map pair (map typed c.args.lets.now)) (length c.args.vars.now) (length c.args.lets.now) t k at
    (formula c.args.e.now) x y q c.decreases c.requires.fit c.requires.small in
    (o.first_falls, (c.requires.few, (c.requires.ordered, (o.first_fits, o.first_range))))

pub fit-requires-in-Add-2 : goal.fit-requires-in-Add-2
fit-requires-in-Add-2 t c =
    let k = kind_of_two (formula c.args.e.now) in
    let at = c.args.e.now.at in
    let x = formula c.deref-in-Add.result.now in
    let y = formula c.deref-in-Add-2.result.now in
    let q : formula c.args.e.now ≡ formula_of k at x y = rw (c.deref-in-Add.ensures, c.deref-in-Add-2.ensures)
    (operands at c.args.e.now.node _ _ _ (formula c.in-Add.x.value) (formula c.in-Add.y.value) c.in-Add.is refl refl refl) in
    let o = are_operands c.args.vars.now (map pair (map typed c.args.lets.now)) (length c.args.vars.now) (length c.args.lets.now) t k at
    (formula c.args.e.now) x y q c.decreases c.requires.fit c.requires.small in
    (o.second_falls, (c.requires.few, (c.requires.ordered, (o.second_fits, o.second_range))))

pub two-requires : goal.two-requires
two-requires t c =
    let k = kind_of_two (formula c.args.e.now) in
    let at = c.args.e.now.at in
    let x = formula c.deref-in-Add.result.now in
    let y = formula c.deref-in-Add-2.result.now in
    let q : formula c.args.e.now ≡ formula_of k at x y = rw (c.deref-in-Add.ensures, c.deref-in-Add-2.ensures)
    (operands at c.args.e.now.node _ _ _ (formula c.in-Add.x.value) (formula c.in-Add.y.value) c.in-Add.is refl refl refl) in
    let o = are_operands c.args.vars.now (map pair (map typed c.args.lets.now)) (length c.args.vars.now) (length c.args.lets.now) t k at
    (formula c.args.e.now) x y q c.decreases c.requires.fit c.requires.small in
    rw c.kind_of.ensures (two_range c.args.vars.now (map typed c.args.lets.now) k _ _ (typed c.in_ok-x-in-Add.x) (typed c.in_ok-y-in-Add.y)
    o.whole_range c.in_ok-x-in-Add.ensures.tree c.in_ok-y-in-Add.ensures.tree c.in_ok-x-in-Add.ensures.exact c.in_ok-y-in-Add.ensures.exact)

pub returns-in_ok-y-in-Add-clause-tree : goal.returns-in_ok-y-in-Add-clause-tree
returns-in_ok-y-in-Add-clause-tree t c =
    let k = kind_of_two (formula c.args.e.now) in
    let at = c.args.e.now.at in
    let x = formula c.deref-in-Add.result.now in
    let y = formula c.deref-in-Add-2.result.now in
    let q : formula c.args.e.now ≡ formula_of k at x y = rw (c.deref-in-Add.ensures, c.deref-in-Add-2.ensures)
    (operands at c.args.e.now.node _ _ _ (formula c.in-Add.x.value) (formula c.in-Add.y.value) c.in-Add.is refl refl refl) in
    let o = are_operands c.args.vars.now (map pair (map typed c.args.lets.now)) (length c.args.vars.now) (length c.args.lets.now) t k at
    (formula c.args.e.now) x y q c.decreases c.requires.fit c.requires.small in
    IfOk-weaker c.two.result _ _ (λ r z. two_untyped k c.kind_of.result (typed c.in_ok-x-in-Add.x) (typed c.in_ok-y-in-Add.y)
    _ _ (typed r) _ _ _ c.kind_of.ensures z c.in_ok-x-in-Add.ensures.tree c.in_ok-y-in-Add.ensures.tree o.form) c.two.ensures

pub raised-requires : goal.raised-requires
raised-requires t c =
    let q : formula c.args.e.now ≡ FPow c.args.e.now.at (formula c.deref-in-Pow.result.now) c.in-Pow.n =
    rw c.deref-in-Pow.ensures (ap (node_formula c.args.e.now.at) c.in-Pow.is) in
    power_range c.args.vars.now (map typed c.args.lets.now) _ c.in-Pow.n (typed c.in_ok-x-in-Pow.x)
    (subst (HaveRange c.args.vars.now (map pair (map typed c.args.lets.now))) (ap (tree c.args.vars.now) q) c.requires.small)
    c.in_ok-x-in-Pow.ensures.tree c.in_ok-x-in-Pow.ensures.exact
