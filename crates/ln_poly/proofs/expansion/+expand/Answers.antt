use Rattle.std.proofs.Common.{◌≡◌, ◌∷◌, [], ap, subst, length, map, refl}
use Rattle.std.proofs.lemmas.Result.{IfOk-weaker, MatchResult-weaker, err_from_is_err_and}
use Rattle.ln_algebra.specs.Tree.{Neg, Pow, inlined}
use Rattle.ln_tree.specs.Formula.{FNeg, FPow, Formula, formula, node_formula, tree}
use Rattle.ln_algebra.specs.Sizes.{two}
use Rattle.ln_poly.specs.Expansion.{closed_lets, expanded, powers}
use Rattle.ln_poly.specs.Ready.{AreLight}
use Rattle.ln_bound.specs.Typed.{formula_of, kind_of_two}
use Rattle.ln_bound.proofs.Trees.Operands.{operands}
use Rattle.ln_poly.proofs.Expansions.Nodes.{are-ready, first-stops, one-err, one-ok, pow-room, second-stops, two-err, two-ok}
use Rattle.ln_poly.proofs.expansion.+expand.Goals as goal

pub expand-requires-in-Add : goal.expand-requires-in-Add
expand-requires-in-Add t c =
    let vars = c.args.vars.now in
    let ls = closed_lets vars (map formula c.args.lets.now) in
    let e = c.args.e.now in
    let x = formula c.deref-in-Add.result.now in
    let y = formula c.in-Add.y.value in
    let q : formula e ≡ formula_of (kind_of_two (formula e)) e.at x y = rw c.deref-in-Add.ensures
    (operands e.at e.node _ _ _ (formula c.in-Add.x.value) (formula c.in-Add.y.value) c.in-Add.is refl refl refl) in
    let r = are-ready vars ls (length c.args.polys.now) t _ e.at _ _ _ q c.decreases c.requires.fit c.requires.light in
    (r.first_falls, (c.requires.few, (r.first_fits, (r.first_light, c.requires.polys))))

pub expand-requires-in-Add-2 : goal.expand-requires-in-Add-2
expand-requires-in-Add-2 t c =
    let vars = c.args.vars.now in
    let ls = closed_lets vars (map formula c.args.lets.now) in
    let e = c.args.e.now in
    let x = formula c.deref-in-Add.result.now in
    let y = formula c.deref-in-Add-2.result.now in
    let q : formula e ≡ formula_of (kind_of_two (formula e)) e.at x y = rw (c.deref-in-Add.ensures, c.deref-in-Add-2.ensures)
    (operands e.at e.node _ _ _ (formula c.in-Add.x.value) (formula c.in-Add.y.value) c.in-Add.is refl refl refl) in
    let r = are-ready vars ls (length c.args.polys.now) t _ e.at _ _ _ q c.decreases c.requires.fit c.requires.light in
    (r.second_falls, (c.requires.few, (r.second_fits, (r.second_light, c.requires.polys))))

pub returns-in_err-f-in-Add-clause-err : goal.returns-in_err-f-in-Add-clause-err
returns-in_err-f-in-Add-clause-err t c =
    let vars = c.args.vars.now in
    let ls = closed_lets vars (map formula c.args.lets.now) in
    let e = c.args.e.now in
    let x = formula c.deref-in-Add.result.now in
    let y = formula c.in-Add.y.value in
    let q : formula e ≡ formula_of (kind_of_two (formula e)) e.at x y = rw c.deref-in-Add.ensures
    (operands e.at e.node _ _ _ (formula c.in-Add.x.value) (formula c.in-Add.y.value) c.in-Add.is refl refl refl) in
    let r = are-ready vars ls (length c.args.polys.now) t _ e.at _ _ _ q c.decreases c.requires.fit c.requires.light in
    let p = err_from_is_err_and c.from_residual-in_err-f-in-Add.result c.from_residual-in_err-f-in-Add.ensures.1 in
    rw (p.1, p.2) (first-stops vars ls (formula e) x y _ _ r.nodes
    c.in_err-f-in-Add.ensures.err)

pub returns-in_err-g-in-Add-clause-err : goal.returns-in_err-g-in-Add-clause-err
returns-in_err-g-in-Add-clause-err t c =
    let vars = c.args.vars.now in
    let ls = closed_lets vars (map formula c.args.lets.now) in
    let e = c.args.e.now in
    let x = formula c.deref-in-Add.result.now in
    let y = formula c.deref-in-Add-2.result.now in
    let q : formula e ≡ formula_of (kind_of_two (formula e)) e.at x y = rw (c.deref-in-Add.ensures, c.deref-in-Add-2.ensures)
    (operands e.at e.node _ _ _ (formula c.in-Add.x.value) (formula c.in-Add.y.value) c.in-Add.is refl refl refl) in
    let r = are-ready vars ls (length c.args.polys.now) t _ e.at _ _ _ q c.decreases c.requires.fit c.requires.light in
    let p = err_from_is_err_and c.from_residual-in_err-g-in-Add.result c.from_residual-in_err-g-in-Add.ensures.1 in
    rw (p.1, p.2) (second-stops vars ls (formula e) x y _ _ r.nodes
    c.in_ok-f-in-Add.ensures.ok.few c.in_err-g-in-Add.ensures.err)

pub both-requires : goal.both-requires
both-requires t c =
    let vars = c.args.vars.now in
    let ls = closed_lets vars (map formula c.args.lets.now) in
    let e = c.args.e.now in
    let x = formula c.deref-in-Add.result.now in
    let y = formula c.deref-in-Add-2.result.now in
    let q : formula e ≡ formula_of (kind_of_two (formula e)) e.at x y = rw (c.deref-in-Add.ensures, c.deref-in-Add-2.ensures)
    (operands e.at e.node _ _ _ (formula c.in-Add.x.value) (formula c.in-Add.y.value) c.in-Add.is refl refl refl) in
    let r = are-ready vars ls (length c.args.polys.now) t _ e.at _ _ _ q c.decreases c.requires.fit c.requires.light in
    rw c.kind_of.ensures (r.room c.in_ok-f-in-Add.f c.in_ok-g-in-Add.g c.in_ok-f-in-Add.ensures.ok.normal c.in_ok-g-in-Add.ensures.ok.normal)

pub returns-in_ok-g-in-Add-clause-ok : goal.returns-in_ok-g-in-Add-clause-ok
returns-in_ok-g-in-Add-clause-ok t c =
    let vars = c.args.vars.now in
    let ls = closed_lets vars (map formula c.args.lets.now) in
    let e = c.args.e.now in
    let x = formula c.deref-in-Add.result.now in
    let y = formula c.deref-in-Add-2.result.now in
    let q : formula e ≡ formula_of (kind_of_two (formula e)) e.at x y = rw (c.deref-in-Add.ensures, c.deref-in-Add-2.ensures)
    (operands e.at e.node _ _ _ (formula c.in-Add.x.value) (formula c.in-Add.y.value) c.in-Add.is refl refl refl) in
    let r = are-ready vars ls (length c.args.polys.now) t _ e.at _ _ _ q c.decreases c.requires.fit c.requires.light in
    let o = rw c.kind_of.ensures at c.both.ensures.ok in
    two-ok vars ls (formula e) x y _ _ c.in_ok-f-in-Add.f
    c.in_ok-g-in-Add.g c.both.result r.nodes r.whole c.in_ok-f-in-Add.ensures.ok c.in_ok-g-in-Add.ensures.ok (IfOk-weaker c.both.result _ _
    (λ h z. z (length vars) _ _ c.in_ok-f-in-Add.ensures.ok.normal c.in_ok-g-in-Add.ensures.ok.normal) o)

pub returns-in_ok-g-in-Add-clause-err : goal.returns-in_ok-g-in-Add-clause-err
returns-in_ok-g-in-Add-clause-err t c =
    let vars = c.args.vars.now in
    let ls = closed_lets vars (map formula c.args.lets.now) in
    let e = c.args.e.now in
    let x = formula c.deref-in-Add.result.now in
    let y = formula c.deref-in-Add-2.result.now in
    let q : formula e ≡ formula_of (kind_of_two (formula e)) e.at x y = rw (c.deref-in-Add.ensures, c.deref-in-Add-2.ensures)
    (operands e.at e.node _ _ _ (formula c.in-Add.x.value) (formula c.in-Add.y.value) c.in-Add.is refl refl refl) in
    let r = are-ready vars ls (length c.args.polys.now) t _ e.at _ _ _ q c.decreases c.requires.fit c.requires.light in
    let o = rw c.kind_of.ensures at c.both.ensures.err in
    two-err vars ls (formula e) x y _ c.both.result r.nodes
    c.in_ok-f-in-Add.ensures.ok.few c.in_ok-g-in-Add.ensures.ok.few (MatchResult-weaker c.both.result o (λ h z. tt)
    (λ s z. z (length vars) _ _ c.in_ok-f-in-Add.ensures.ok.normal c.in_ok-g-in-Add.ensures.ok.normal))

pub returns-in_ok-f-in-Neg-clause-ok : goal.returns-in_ok-f-in-Neg-clause-ok
returns-in_ok-f-in-Neg-clause-ok t c =
    let vars = c.args.vars.now in
    let ls = closed_lets vars (map formula c.args.lets.now) in
    let at = c.args.e.now.at in
    let q : formula c.args.e.now ≡ FNeg at (formula c.deref.result.now) = rw c.deref.ensures (ap (node_formula at) c.in-Neg.is) in
    one-ok vars ls (formula c.args.e.now) (formula c.deref.result.now) ((at, Neg (inlined ls (tree vars (formula c.deref.result.now)))) ∷ [])
    (Neg (inlined ls (tree vars (formula c.deref.result.now)))) c.in_ok-f-in-Neg.f c.negation.result (ap (expanded vars ls) q)
    (ap (λ (z : Formula). inlined ls (tree vars z)) q) c.in_ok-f-in-Neg.ensures.ok (IfOk-weaker c.negation.result _ _
    (λ h k. k (length vars) (inlined ls (tree vars (formula c.deref.result.now))) c.in_ok-f-in-Neg.ensures.ok.normal) c.negation.ensures.ok)

pub returns-in_ok-f-in-Neg-clause-err : goal.returns-in_ok-f-in-Neg-clause-err
returns-in_ok-f-in-Neg-clause-err t c =
    let vars = c.args.vars.now in
    let ls = closed_lets vars (map formula c.args.lets.now) in
    let at = c.args.e.now.at in
    let q : formula c.args.e.now ≡ FNeg at (formula c.deref.result.now) = rw c.deref.ensures (ap (node_formula at) c.in-Neg.is) in
    one-err vars ls (formula c.args.e.now) (formula c.deref.result.now) ((at, Neg (inlined ls (tree vars (formula c.deref.result.now)))) ∷ [])
    c.negation.result (ap (expanded vars ls) q) c.in_ok-f-in-Neg.ensures.ok.few (MatchResult-weaker c.negation.result c.negation.ensures.err
    (λ h k. tt) (λ s k. k (length vars) (inlined ls (tree vars (formula c.deref.result.now))) c.in_ok-f-in-Neg.ensures.ok.normal))

pub raised-requires : goal.raised-requires
raised-requires t c =
    let vars = c.args.vars.now in
    let ls = closed_lets vars (map formula c.args.lets.now) in
    let at = c.args.e.now.at in
    let q : formula c.args.e.now ≡ FPow at (formula c.deref-in-Pow.result.now) c.in-Pow.n = rw c.deref-in-Pow.ensures (ap (node_formula at) c.in-Pow.is) in
    pow-room vars ls (tree vars (formula c.deref-in-Pow.result.now)) c.in-Pow.n c.in_ok-f-in-Pow.f
    (subst (λ (z : Formula). AreLight (length vars) two ls (tree vars z)) q c.requires.light) c.in_ok-f-in-Pow.ensures.ok.normal

pub returns-in_ok-f-in-Pow-clause-ok : goal.returns-in_ok-f-in-Pow-clause-ok
returns-in_ok-f-in-Pow-clause-ok t c =
    let vars = c.args.vars.now in
    let ls = closed_lets vars (map formula c.args.lets.now) in
    let at = c.args.e.now.at in
    let q : formula c.args.e.now ≡ FPow at (formula c.deref-in-Pow.result.now) c.in-Pow.n = rw c.deref-in-Pow.ensures (ap (node_formula at) c.in-Pow.is) in
    one-ok vars ls (formula c.args.e.now) (formula c.deref-in-Pow.result.now) (powers at (inlined ls (tree vars (formula c.deref-in-Pow.result.now)))
    c.in-Pow.n) (Pow (inlined ls (tree vars (formula c.deref-in-Pow.result.now))) c.in-Pow.n) c.in_ok-f-in-Pow.f c.raised.result
    (ap (expanded vars ls) q) (ap (λ (z : Formula). inlined ls (tree vars z)) q) c.in_ok-f-in-Pow.ensures.ok (IfOk-weaker c.raised.result _ _
    (λ h k. k (length vars) (inlined ls (tree vars (formula c.deref-in-Pow.result.now))) c.in_ok-f-in-Pow.ensures.ok.normal) c.raised.ensures.ok)

pub returns-in_ok-f-in-Pow-clause-err : goal.returns-in_ok-f-in-Pow-clause-err
returns-in_ok-f-in-Pow-clause-err t c =
    let vars = c.args.vars.now in
    let ls = closed_lets vars (map formula c.args.lets.now) in
    let at = c.args.e.now.at in
    let q : formula c.args.e.now ≡ FPow at (formula c.deref-in-Pow.result.now) c.in-Pow.n = rw c.deref-in-Pow.ensures (ap (node_formula at) c.in-Pow.is) in
    one-err vars ls (formula c.args.e.now) (formula c.deref-in-Pow.result.now)
    (powers at (inlined ls (tree vars (formula c.deref-in-Pow.result.now))) c.in-Pow.n) c.raised.result
    (ap (expanded vars ls) q) c.in_ok-f-in-Pow.ensures.ok.few (MatchResult-weaker c.raised.result c.raised.ensures.err (λ h k. tt)
    (λ s k. k (length vars) (inlined ls (tree vars (formula c.deref-in-Pow.result.now))) c.in_ok-f-in-Pow.ensures.ok.normal))
