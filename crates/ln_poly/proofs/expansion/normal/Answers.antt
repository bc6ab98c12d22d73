use Rattle.std.proofs.Common.{length, map, []}
use Rattle.std.proofs.lemmas.Result.{IfOk-weaker, MatchResult-weaker, err_from_is_err_and}
use Rattle.ln_tree.proofs.KeptLemmas.{few_vars}
use Rattle.ln_tree.specs.Formula.{formula, tree}
use Rattle.ln_algebra.specs.Sizes.{two}
use Rattle.ln_poly.specs.Expansion.{closed_lets, closed_root, expanded, expanded_lets}
use Rattle.ln_poly.proofs.TermLists.Counting.{no-terms-zero, zero-no-terms}
use Rattle.ln_poly.proofs.Expansions.Expanding.{few-both, stop-after, stop-before}
use Rattle.ln_poly.proofs.Expansions.Lets.{pred-fit, root-degrees, root-fits, root-light}
use Rattle.ln_poly.proofs.Loads.Sizing.{pred-expands}
use Rattle.ln_poly.proofs.Loads.Room.{two-sizes}
use Rattle.ln_poly.proofs.expansion.normal.Goals as goal

pub expand_lets-requires-clause-few : goal.expand_lets-requires-clause-few
expand_lets-requires-clause-few c =
    let p = c.args.p.now in
    rw c.as_slice-vars.ensures (few_vars p.shape.sites p.shape.vars p.shape.kept)

pub expand_lets-requires-clause-fit : goal.expand_lets-requires-clause-fit
expand_lets-requires-clause-fit c =
    let p = c.args.p.now in
    rw (c.as_slice-vars.ensures, c.as_slice-lets.ensures) (pred-fit p.args p.shape.vars p.lets (length p.let_names) p.root p.kept)

pub expand_lets-requires-clause-light : goal.expand_lets-requires-clause-light
expand_lets-requires-clause-light c =
    let p = c.args.p.now in
    rw (c.as_slice-vars.ensures, c.as_slice-lets.ensures) (pred-expands p.args p.shape.vars p.lets (length p.let_names) p.root p.kept c.requires).0

pub expand-requires-clause-few : goal.expand-requires-clause-few
expand-requires-clause-few c =
    let p = c.args.p.now in
    rw c.as_slice-vars.ensures (few_vars p.shape.sites p.shape.vars p.shape.kept)

pub expand-requires-clause-fit : goal.expand-requires-clause-fit
expand-requires-clause-fit c =
    let p = c.args.p.now in
    let a = rw (c.as_slice-vars.ensures, c.as_slice-lets.ensures) at c.in_ok-polys.ensures.polys in
    rw (c.as_slice-vars.ensures, c.as_slice.ensures) (root-fits p.args p.shape.vars p.lets (length p.let_names) p.root c.in_ok-polys.polys p.kept a)

pub expand-requires-clause-light : goal.expand-requires-clause-light
expand-requires-clause-light c =
    let p = c.args.p.now in
    rw (c.as_slice-vars.ensures, c.as_slice-lets.ensures) (pred-expands p.args p.shape.vars p.lets (length p.let_names) p.root p.kept c.requires).1

pub returns : goal.returns
returns c =
    let p = c.args.p.now in
    let n = length p.shape.vars in
    let root = closed_root p.shape.vars (map formula p.lets) (formula p.root) in
    let lets = expanded_lets p.shape.vars [] (map formula p.lets) in
    let nodes = expanded p.shape.vars (closed_lets p.shape.vars (map formula p.lets)) (formula p.root) in
    let k = rw (c.as_slice-vars.ensures, c.as_slice-lets.ensures) at c.expand.ensures.ok in
    let e = rw (c.as_slice-vars.ensures, c.as_slice-lets.ensures) at c.expand.ensures.err in
    let a = rw (c.as_slice-vars.ensures, c.as_slice-lets.ensures) at c.in_ok-polys.ensures.few in
    let light = (pred-expands p.args p.shape.vars p.lets (length p.let_names) p.root p.kept c.requires).1 in
    let whole = root-light n two (closed_lets p.shape.vars (map formula p.lets)) (tree p.shape.vars (formula p.root)) light in
    record {
      normal = IfOk-weaker c.expand.result _ _ (λ f q. q.normal) k;
      few = IfOk-weaker c.expand.result _ _ (λ f q. few-both n lets nodes a q.few) k;
      terms = IfOk-weaker c.expand.result _ _ (λ f q. q.terms) k;
      degrees = IfOk-weaker c.expand.result _ _ (λ f q. root-degrees n two root f (two-sizes n) whole q.normal) k;
      zero = IfOk-weaker c.expand.result _ _ (λ f q. (no-terms-zero n root f q.normal, zero-no-terms n root f q.normal)) k;
      err = MatchResult-weaker c.expand.result e (λ f t. tt) (λ s q. stop-after n lets nodes s a q);
    }

pub returns-in_err-polys-clause-err : goal.returns-in_err-polys-clause-err
returns-in_err-polys-clause-err c =
    let p = c.args.p.now in
    let a = rw (c.as_slice-vars.ensures, c.as_slice-lets.ensures) at c.in_err-polys.ensures.err in
    let e = err_from_is_err_and c.from_residual.result c.from_residual.ensures.1 in
    rw (e.1, e.2) (stop-before (length p.shape.vars) (expanded_lets p.shape.vars [] (map formula p.lets))
    (expanded p.shape.vars (closed_lets p.shape.vars (map formula p.lets)) (formula p.root)) _ a)
