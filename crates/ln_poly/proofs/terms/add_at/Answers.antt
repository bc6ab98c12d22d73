use Rattle.std.proofs.Common.{[], ◌∷◌, ◌++◌, arith, subst, sym}
use Rattle.std.proofs.lemmas.Int.{ints}
use Rattle.ln_poly.specs.Sparse.{Sparse}
use Rattle.ln_poly.specs.Sums.{IsSpread, added}
use Rattle.ln_poly.proofs.TermLists.Coefficients.{item-small}
use Rattle.ln_poly.proofs.Sorting.Summing.{set-added}
use Rattle.ln_poly.proofs.terms.add_at.Goals as goal

pub overflow_add-index_mut : goal.overflow_add-index_mut
overflow_add-index_mut c =
    let small = item-small c.args.out.now.items c.args.at c.index_mut.result.now c.requires.in_bounds c.index_mut.ensures.value in
    omega (arith, ints, small, c.requires.room)

pub returns : goal.returns
returns c = λ more old g s.
    let small = item-small c.args.out.now.items c.args.at c.index_mut.result.now c.requires.in_bounds c.index_mut.ensures.value in
    subst (λ (z : Sparse). IsSpread old (g ++ (c.args.t.now ∷ [])) z more)
    (sym (set-added c.args.out.now.items c.args.at c.index_mut.result.now c.args.t.now _ c.requires.in_bounds c.index_mut.ensures.value
    (omega (arith, ints, small, c.requires.room))))
    (added g c.args.out.now.items more c.args.t.now c.args.at c.requires.in_bounds c.requires.same s)
