-- Each arm is weighed as its formula.
use Rattle.std.proofs.Common.{FitsSigned, ◌≡◌, ap, arith, map, refl, rules, subst, sym}
use Rattle.std.proofs.lemmas.Int.{to_z-of_z}
use mir.Syntax.{w128}
use Rattle.std.proofs.lemmas.Result.{err_from_is_err_and}
use Rattle.ln_bound.specs.Loads.{loaded}
use Rattle.ln_bound.specs.Measures.{range_in, size_in}
use Rattle.ln_bound.specs.Stop.{StopsWeighing}
use Rattle.ln_bound.specs.Typed.{formula_of, kind_of_two}
use Rattle.ln_tree.specs.Formula.{FInput, FName, FNeg, FNum, FPow, Formula, formula, node_count, node_formula}
use Rattle.ln_bound.proofs.Measures.Nodes.{first_stops, leaf_weighed, operand_stops, opposite_weighed, power_weighed, second_stops, two_weighed, weighed_as}
use Rattle.ln_bound.proofs.Trees.Operands.{count_two, operands}
use Rattle.ln_bound.proofs.weigh.+weigh_in.Goals as goal

pub returns-in-Num : goal.returns-in-Num
returns-in-Num t c =
    let q : formula c.args.e.now ≡ FNum c.args.e.now.at c.in-Num.c = ap (node_formula c.args.e.now.at) c.in-Num.is in
    let fits : FitsSigned w128 c.in-Num.c = search rules in
    let h = rw (to_z-of_z w128 c.in-Num.c fits) at c.of_number.ensures in
    weighed_as c.args.vars.now c.args.lets.now (formula c.args.e.now) _ _ _ _ q (leaf_weighed c.args.vars.now c.args.lets.now (FNum c.args.e.now.at c.in-Num.c)
    c.args.e.now.at c.of_number.result c.args.all.now c.put.new.all c.put.result refl refl h c.put.ensures.ok c.put.ensures.heavy)

pub returns-in-Input : goal.returns-in-Input
returns-in-Input t c =
    let q : formula c.args.e.now ≡ FInput c.args.e.now.at c.in-Input.v.arg c.in-Input.v.coord = ap (node_formula c.args.e.now.at) c.in-Input.is in
    weighed_as c.args.vars.now c.args.lets.now (formula c.args.e.now) _ _ _ _ q
    (leaf_weighed c.args.vars.now c.args.lets.now (FInput c.args.e.now.at c.in-Input.v.arg c.in-Input.v.coord) c.args.e.now.at _ c.args.all.now
    c.put-in-Input.new.all c.put-in-Input.result refl refl c.input_measure.ensures c.put-in-Input.ensures.ok c.put-in-Input.ensures.heavy)

pub returns-in-Name : goal.returns-in-Name
returns-in-Name t c =
    let q : formula c.args.e.now ≡ FName c.args.e.now.at c.in-Name.j = ap (node_formula c.args.e.now.at) c.in-Name.is in
    weighed_as c.args.vars.now c.args.lets.now (formula c.args.e.now) _ _ _ _ q
    (leaf_weighed c.args.vars.now c.args.lets.now (FName c.args.e.now.at c.in-Name.j) c.args.e.now.at c.let_measure.result c.args.all.now
    c.put-in-Name.new.all c.put-in-Name.result refl refl c.let_measure.ensures c.put-in-Name.ensures.ok c.put-in-Name.ensures.heavy)

pub weigh_in-requires : goal.weigh_in-requires
weigh_in-requires t c =
    let x = formula c.deref.result.now in
    let q : formula c.args.e.now ≡ FNeg c.args.e.now.at x = rw c.deref.ensures (ap (node_formula c.args.e.now.at) c.in-Neg.is) in
    (omega (arith, ap node_count q, c.decreases), c.requires)

pub weigh_in-requires-in-Add : goal.weigh_in-requires-in-Add
weigh_in-requires-in-Add t c =
    let k = kind_of_two (formula c.args.e.now) in
    let at = c.args.e.now.at in
    let x = formula c.deref-in-Add.result.now in
    let y = formula c.in-Add.y.value in
    let q : formula c.args.e.now ≡ formula_of k at x y =
    rw c.deref-in-Add.ensures (operands at c.args.e.now.node _ _ _ (formula c.in-Add.x.value) (formula c.in-Add.y.value) c.in-Add.is refl refl refl) in
    (omega (arith, ap node_count q, count_two k at x y, c.decreases), c.requires)

pub weigh_in-requires-in-Add-2 : goal.weigh_in-requires-in-Add-2
weigh_in-requires-in-Add-2 t c =
    let k = kind_of_two (formula c.args.e.now) in
    let at = c.args.e.now.at in
    let x = formula c.deref-in-Add.result.now in
    let y = formula c.deref-in-Add-2.result.now in
    let q : formula c.args.e.now ≡ formula_of k at x y = rw (c.deref-in-Add.ensures, c.deref-in-Add-2.ensures)
    (operands at c.args.e.now.node _ _ _ (formula c.in-Add.x.value) (formula c.in-Add.y.value) c.in-Add.is refl refl refl) in
    (omega (arith, ap node_count q, count_two k at x y, c.decreases), c.requires)

pub weigh_in-requires-in-Pow : goal.weigh_in-requires-in-Pow
weigh_in-requires-in-Pow t c =
    let x = formula c.deref-in-Pow.result.now in
    let q : formula c.args.e.now ≡ FPow c.args.e.now.at x c.in-Pow.n = rw c.deref-in-Pow.ensures (ap (node_formula c.args.e.now.at) c.in-Pow.is) in
    (omega (arith, ap node_count q, c.decreases), c.requires)

pub returns-in_err-a-in-Neg : goal.returns-in_err-a-in-Neg
returns-in_err-a-in-Neg t c =
    let x = formula c.deref.result.now in
    let q : formula c.args.e.now ≡ FNeg c.args.e.now.at x = rw c.deref.ensures (ap (node_formula c.args.e.now.at) c.in-Neg.is) in
    let p = err_from_is_err_and c.from_residual.result c.from_residual.ensures.1 in
    rw (p.1, p.2) (subst (λ (z : Formula).
    StopsWeighing (loaded c.args.vars.now (map range_in c.args.lets.now) (map size_in c.args.lets.now) z) c.in_err-a-in-Neg.field-0.0) (sym q)
    (operand_stops c.args.vars.now c.args.lets.now (FNeg c.args.e.now.at x) x c.args.e.now.at c.in_err-a-in-Neg.field-0.0 refl c.in_err-a-in-Neg.ensures))

pub returns-in_err-a-in-Add : goal.returns-in_err-a-in-Add
returns-in_err-a-in-Add t c =
    let k = kind_of_two (formula c.args.e.now) in
    let at = c.args.e.now.at in
    let x = formula c.deref-in-Add.result.now in
    let y = formula c.in-Add.y.value in
    let q : formula c.args.e.now ≡ formula_of k at x y =
    rw c.deref-in-Add.ensures (operands at c.args.e.now.node _ _ _ (formula c.in-Add.x.value) (formula c.in-Add.y.value) c.in-Add.is refl refl refl) in
    let p = err_from_is_err_and c.from_residual-in_err-a-in-Add.result c.from_residual-in_err-a-in-Add.ensures.1 in
    rw (p.1, p.2) (subst (λ (z : Formula). StopsWeighing (loaded c.args.vars.now (map range_in c.args.lets.now) (map size_in c.args.lets.now) z)
    c.in_err-a-in-Add.field-0.0) (sym q) (first_stops c.args.vars.now c.args.lets.now k at x y c.in_err-a-in-Add.field-0.0 c.in_err-a-in-Add.ensures))

pub returns-in_err-b-in-Add : goal.returns-in_err-b-in-Add
returns-in_err-b-in-Add t c =
    let k = kind_of_two (formula c.args.e.now) in
    let at = c.args.e.now.at in
    let x = formula c.deref-in-Add.result.now in
    let y = formula c.deref-in-Add-2.result.now in
    let q : formula c.args.e.now ≡ formula_of k at x y = rw (c.deref-in-Add.ensures, c.deref-in-Add-2.ensures)
    (operands at c.args.e.now.node _ _ _ (formula c.in-Add.x.value) (formula c.in-Add.y.value) c.in-Add.is refl refl refl) in
    let p = err_from_is_err_and c.from_residual-in_err-b-in-Add.result c.from_residual-in_err-b-in-Add.ensures.1 in
    rw (p.1, p.2)
    (subst (λ (z : Formula). StopsWeighing (loaded c.args.vars.now (map range_in c.args.lets.now) (map size_in c.args.lets.now) z) c.in_err-b-in-Add.field-0.0)
    (sym q) (second_stops c.args.vars.now c.args.lets.now k at x y c.in_err-b-in-Add.field-0.0 c.in_ok-a-in-Add.ensures.light c.in_err-b-in-Add.ensures))

pub returns-in_err-a-in-Pow : goal.returns-in_err-a-in-Pow
returns-in_err-a-in-Pow t c =
    let x = formula c.deref-in-Pow.result.now in
    let q : formula c.args.e.now ≡ FPow c.args.e.now.at x c.in-Pow.n = rw c.deref-in-Pow.ensures (ap (node_formula c.args.e.now.at) c.in-Pow.is) in
    let p = err_from_is_err_and c.from_residual-in_err-a-in-Pow.result c.from_residual-in_err-a-in-Pow.ensures.1 in
    rw (p.1, p.2) (subst (λ (z : Formula). StopsWeighing (loaded c.args.vars.now (map range_in c.args.lets.now)
    (map size_in c.args.lets.now) z) c.in_err-a-in-Pow.field-0.0) (sym q) (operand_stops c.args.vars.now c.args.lets.now
    (FPow c.args.e.now.at x c.in-Pow.n) x c.args.e.now.at c.in_err-a-in-Pow.field-0.0 refl c.in_err-a-in-Pow.ensures))

pub returns-in_ok-a-in-Neg : goal.returns-in_ok-a-in-Neg
returns-in_ok-a-in-Neg t c =
    let x = formula c.deref.result.now in
    let q : formula c.args.e.now ≡ FNeg c.args.e.now.at x = rw c.deref.ensures (ap (node_formula c.args.e.now.at) c.in-Neg.is) in
    weighed_as c.args.vars.now c.args.lets.now (formula c.args.e.now) _ _ _ _ q
    (opposite_weighed c.args.vars.now c.args.lets.now x c.in_ok-a-in-Neg.a c.args.all.now c.weigh_in.new.all c.in_ok-a-in-Neg.ensures c.args.e.now.at
    c.opposite_of.result c.put-in-Neg.new.all c.put-in-Neg.result c.opposite_of.ensures c.put-in-Neg.ensures.ok c.put-in-Neg.ensures.heavy)

pub returns-in_ok-b-in-Add : goal.returns-in_ok-b-in-Add
returns-in_ok-b-in-Add t c =
    let k = kind_of_two (formula c.args.e.now) in
    let at = c.args.e.now.at in
    let x = formula c.deref-in-Add.result.now in
    let y = formula c.deref-in-Add-2.result.now in
    let q : formula c.args.e.now ≡ formula_of k at x y = rw (c.deref-in-Add.ensures, c.deref-in-Add-2.ensures)
    (operands at c.args.e.now.node _ _ _ (formula c.in-Add.x.value) (formula c.in-Add.y.value) c.in-Add.is refl refl refl) in
    let o = rw c.kind_of.ensures at c.two_of.ensures in
    weighed_as c.args.vars.now c.args.lets.now (formula c.args.e.now) _ _ _ _ q (two_weighed c.args.vars.now c.args.lets.now x y
    c.in_ok-a-in-Add.a c.in_ok-b-in-Add.b c.args.all.now c.weigh_in-in-Add.new.all c.weigh_in-in-Add-2.new.all c.in_ok-a-in-Add.ensures
    c.in_ok-b-in-Add.ensures k at c.two_of.result c.put-in-Add.new.all c.put-in-Add.result o c.put-in-Add.ensures.ok c.put-in-Add.ensures.heavy)

pub returns-in_ok-a-in-Pow : goal.returns-in_ok-a-in-Pow
returns-in_ok-a-in-Pow t c =
    let x = formula c.deref-in-Pow.result.now in
    let q : formula c.args.e.now ≡ FPow c.args.e.now.at x c.in-Pow.n = rw c.deref-in-Pow.ensures (ap (node_formula c.args.e.now.at) c.in-Pow.is) in
    weighed_as c.args.vars.now c.args.lets.now (formula c.args.e.now) _ _ _ _ q
    (power_weighed c.args.vars.now c.args.lets.now x c.in_ok-a-in-Pow.a c.args.all.now c.weigh_in-in-Pow.new.all c.in_ok-a-in-Pow.ensures c.in-Pow.n
    c.args.e.now.at c.power_of.result c.put-in-Pow.new.all c.put-in-Pow.result c.power_of.ensures c.put-in-Pow.ensures.ok c.put-in-Pow.ensures.heavy)
