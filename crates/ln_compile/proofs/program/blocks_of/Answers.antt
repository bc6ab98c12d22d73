use Rattle.std.proofs.lemmas.Result.{IfOk-weaker}
use Rattle.ln_tree.specs.Table.{pred_of}
use Rattle.ln_stage.proofs.Accepting.{is-some, light-whole}
use Rattle.ln_compile.proofs.Listing.ListingLemmas.{first-exps, stages-of-sites}
use Rattle.ln_compile.proofs.program.blocks_of.Goals as goal

pub first_block-requires : goal.first_block-requires
first_block-requires c = rw c.pred-p.ensures.value (record { light = c.pred-p.ensures.kept.expanded.sound.light })

pub blocks_after-requires-clause-form : goal.blocks_after-requires-clause-form
blocks_after-requires-clause-form c = rw c.poly.ensures c.pred-p.ensures.kept.expanded.normal.form

pub blocks_after-requires-clause-below : goal.blocks_after-requires-clause-below
blocks_after-requires-clause-below c = rw (c.pred-p.ensures.value, c.poly.ensures) c.pred-p.ensures.kept.expanded.normal.below

pub blocks_after-requires-clause-weight : goal.blocks_after-requires-clause-weight
blocks_after-requires-clause-weight c =
    let e = c.pred-p.ensures.kept.expanded in
    rw (c.pred-p.ensures.value, c.poly.ensures) (light-whole (pred_of c.args.a.now.pred) c.args.a.now.poly e.sound e.normal)

pub blocks_after-requires-clause-degrees : goal.blocks_after-requires-clause-degrees
blocks_after-requires-clause-degrees c = rw (c.pred-p.ensures.value, c.poly.ensures) c.pred-p.ensures.kept.expanded.degrees

pub blocks_after-requires-clause-terms : goal.blocks_after-requires-clause-terms
blocks_after-requires-clause-terms c = rw c.poly.ensures c.pred-p.ensures.kept.expanded.terms

pub blocks_after-requires-clause-plain : goal.blocks_after-requires-clause-plain
blocks_after-requires-clause-plain c = c.in_ok-first.ensures.own.plain

pub blocks_after-requires-clause-block : goal.blocks_after-requires-clause-block
blocks_after-requires-clause-block c =
    let e = c.pred-p.ensures.kept.expanded in
    c.in_ok-first.ensures.block c.poly.result.now (rw (c.pred-p.ensures.value, c.poly.ensures) e.normal) (rw c.pred-p.ensures.value e.sound.few)

pub blocks_after-requires-clause-begins : goal.blocks_after-requires-clause-begins
blocks_after-requires-clause-begins c =
    let a = c.args.a.now in let k = c.pred-p.ensures.kept in let n = k.expanded.normal in
    rw (c.all_exps.ensures, c.stages.ensures, c.pred-p.ensures.value) (first-exps a.pred.shape.sites a.pred.shape.vars a.poly a.stages k.stages
    n.form n.below (is-some (pred_of a.pred) a.poly k.expanded.sound n))

pub blocks_after-requires-clause-exps : goal.blocks_after-requires-clause-exps
blocks_after-requires-clause-exps c = rw (c.all_exps.ensures, c.stages.ensures, c.pred-p.ensures.value) c.pred-p.ensures.kept.stages.below

pub blocks_after-requires-clause-sites : goal.blocks_after-requires-clause-sites
blocks_after-requires-clause-sites c =
    let a = c.args.a.now in
    rw (c.all_exps.ensures, c.stages.ensures, c.pred-p.ensures.value) (stages-of-sites a.pred.shape.sites a.pred.shape.vars a.poly a.stages
    c.pred-p.ensures.kept.stages)

pub returns : goal.returns
returns c =
    let e = c.in_ok-first.ensures in
    rw (← c.pred-p.ensures.value, ← c.poly.ensures, ← c.stages.ensures, ← c.all_exps.ensures) (IfOk-weaker c.blocks_after.result _ _
    (λ _ m. record { first = c.in_ok-first.first; own = e.own; small = e.small; made = m }) c.blocks_after.ensures)
