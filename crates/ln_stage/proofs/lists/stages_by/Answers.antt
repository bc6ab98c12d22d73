use Rattle.std.proofs.Common.{◌≡◌, ◌∙◌, [], ap, sym}
use Rattle.std.proofs.lemmas.Result.{err_from_is_err_and}
use Rattle.ln_order.proofs.Signs.SitesLemmas.{kept}
use Rattle.ln_stage.specs.Tally.{Tallied}
use Rattle.ln_stage.proofs.Degrees.GradedLists.{along-by, has-terms, stages-by}
use Rattle.ln_stage.proofs.Results.KeptLemmas.{final-count, final-counted, final-is, final-size, final-weight, stops}
use Rattle.ln_stage.proofs.Results.ResultLemmas.{some-count, some-terms}
use Rattle.ln_stage.proofs.lists.stages_by.Goals as goal

pub returns-then-is_zero-clause-err : goal.returns-then-is_zero-clause-err
returns-then-is_zero-clause-err c = c.is_zero.ensures.0 c.if-is_zero.true

pub all_prefixes-requires : goal.all_prefixes-requires
all_prefixes-requires c = let s = c.args.s.now in (kept s.sites s.vars s.kept).few_sites

pub listed-requires-clause-prefixes : goal.listed-requires-clause-prefixes
listed-requires-clause-prefixes c = rw c.as_slice.ensures c.in_ok-prefixes.ensures

pub listed-requires-clause-below : goal.listed-requires-clause-below
listed-requires-clause-below c =
    let h = has-terms c.args.s.now.kept c.terms-terms.ensures.value c.terms-terms.ensures.form c.requires.below in
    h.below

pub listed-requires-clause-rising : goal.listed-requires-clause-rising
listed-requires-clause-rising c =
    let h = has-terms c.args.s.now.kept c.terms-terms.ensures.value c.terms-terms.ensures.form c.requires.below in
    h.poly.rising

pub listed-requires-clause-some : goal.listed-requires-clause-some
listed-requires-clause-some c = some-count c.terms-terms.result.now
    (λ z. some-terms c.is_zero.result c.args.f.now c.if-is_zero.false c.is_zero.ensures (sym c.terms-terms.ensures.value ∙ z))

pub listed-requires-clause-empty : goal.listed-requires-clause-empty
listed-requires-clause-empty c = ap (λ (t : Tallied). t.list) c.new-tally.ensures

pub returns-in_err-found-clause-err : goal.returns-in_err-found-clause-err
returns-in_err-found-clause-err c =
    let h = has-terms c.args.s.now.kept c.terms-terms.ensures.value c.terms-terms.ensures.form c.requires.below in
    let some : c.terms-terms.result.now ≡ [] → ⊥ =
    λ z. some-terms c.is_zero.result c.args.f.now c.if-is_zero.false c.is_zero.ensures (sym c.terms-terms.ensures.value ∙ z) in
    let p = err_from_is_err_and c.from_residual-in_err-found.result c.from_residual-in_err-found.ensures.1 in
    rw (p.1, p.2, ← c.terms-terms.ensures.value) (stops (along-by h c.args.by_degree) c.args.most c.args.heavy _ some
    (rw c.new-tally.ensures at c.in_err-found.ensures.err))

pub of-requires-clause-few : goal.of-requires-clause-few
of-requires-clause-few c = let s = c.args.s.now in (kept s.sites s.vars s.kept).few_sites

pub of-requires-clause-each : goal.of-requires-clause-each
of-requires-clause-each c =
    let h = has-terms c.args.s.now.kept c.terms-terms.ensures.value c.terms-terms.ensures.form c.requires.below in
    final-size (along-by h c.args.by_degree) c.args.most c.args.heavy (rw c.new-tally.ensures at c.in_ok-found.ensures.ok)

pub of-requires-clause-counted : goal.of-requires-clause-counted
of-requires-clause-counted c =
    let h = has-terms c.args.s.now.kept c.terms-terms.ensures.value c.terms-terms.ensures.form c.requires.below in
    final-counted (along-by h c.args.by_degree) c.args.most c.args.heavy (rw c.new-tally.ensures at c.in_ok-found.ensures.ok)

pub returns-clause-some : goal.returns-clause-some
returns-clause-some c = λ z. some-terms c.is_zero.result c.args.f.now c.if-is_zero.false c.is_zero.ensures z

pub returns-clause-stages : goal.returns-clause-stages
returns-clause-stages c =
    let h = has-terms c.args.s.now.kept c.terms-terms.ensures.value c.terms-terms.ensures.form c.requires.below in
    let q = final-is (along-by h c.args.by_degree) c.args.most c.args.heavy (rw c.new-tally.ensures at c.in_ok-found.ensures.ok)
    c.of.ensures c.in_ok-blocks.ensures.blocks in
    rw (← c.terms-terms.ensures.value, q) (stages-by h c.args.by_degree c.args.most c.args.heavy)

pub returns-clause-count : goal.returns-clause-count
returns-clause-count c =
    let h = has-terms c.args.s.now.kept c.terms-terms.ensures.value c.terms-terms.ensures.form c.requires.below in
    let a = rw c.new-tally.ensures at c.in_ok-found.ensures.ok in
    rw (final-is (along-by h c.args.by_degree) c.args.most c.args.heavy a c.of.ensures c.in_ok-blocks.ensures.blocks)
    (final-count (along-by h c.args.by_degree) c.args.most c.args.heavy a)

pub returns-clause-weight : goal.returns-clause-weight
returns-clause-weight c =
    let h = has-terms c.args.s.now.kept c.terms-terms.ensures.value c.terms-terms.ensures.form c.requires.below in
    let a = rw c.new-tally.ensures at c.in_ok-found.ensures.ok in
    let q = final-is (along-by h c.args.by_degree) c.args.most c.args.heavy a c.of.ensures c.in_ok-blocks.ensures.blocks in
    rw (← c.terms-terms.ensures.value, q) (final-weight (along-by h c.args.by_degree) c.args.most c.args.heavy a c.in_ok-blocks.ensures.within)
