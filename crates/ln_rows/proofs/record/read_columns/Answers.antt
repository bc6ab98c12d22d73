use Rattle.std.proofs.Common.{refl, sym, rules, to_z-of_z, w64}
use mir.Val.{SFits}
use Rattle.std.proofs.lemmas.Result.{err_from_is_err_and}
use Rattle.ln_rows.proofs.Fields.RowLemmas.{begun_filled, begun_site, on_err, filled_site, filled_other, filled_stays, index_stays_past}
use Rattle.ln_rows.proofs.Fields.RowLemmas.{value_fault, site_fits, site_room, other_room}
use Rattle.ln_rows.proofs.record.read_columns.Goals as goal
use Rattle.ln_rows.proofs.record.read_columns.Goals.{then-starts_site+in_ok-into+in_ok-into-2, else-starts_site+in_ok-into-3}

pub returns-in_err-into-clause-past : goal.returns-in_err-into-clause-past
returns-in_err-into-clause-past c = filled_stays c.args.into.now c.vars.into c.vars.invariant

pub bounds-into-site : goal.bounds-into-site
bounds-into-site c = site_fits c.vars.invariant c.vars-test.true (sym c.if-starts_site.ensures) c.requires.few_sites

pub returns-in_err-into-2-clause-err : goal.returns-in_err-into-2-clause-err
returns-in_err-into-2-clause-err c =
    let p = err_from_is_err_and c.from_residual-in_err-into-2.result c.from_residual-in_err-into-2.ensures.1 in
    rw (p.1, p.2) (value_fault c.in_ok-into.field-0 _ c.vars.invariant c.vars-test.true (sym c.if-starts_site.ensures) c.requires.size
    (sym c.in_ok-into.ensures) (sym c.in_err-into-2.ensures))

pub returns-in_err-into-2-clause-past : goal.returns-in_err-into-2-clause-past
returns-in_err-into-2-clause-past c = index_stays_past c.args.into.now _ _ c.vars.invariant c.vars-test.true (sym c.if-starts_site.ensures) refl

pub returns-in_err-into-3-clause-past : goal.returns-in_err-into-3-clause-past
returns-in_err-into-3-clause-past c = filled_stays c.args.into.now c.vars.into c.vars.invariant

pub returns-in_err-into-clause-begun : goal.returns-in_err-into-clause-begun
returns-in_err-into-clause-begun c =
    on_err c.from_residual.result _ (begun_filled c.args.into.now c.vars.into c.vars.invariant c.requires.few_vars c.requires.few_sites)

pub returns-in_err-into-2-clause-begun : goal.returns-in_err-into-2-clause-begun
returns-in_err-into-2-clause-begun c =
    let fit : SFits w64 c.in_ok-into.field-0 = search rules in
    on_err c.from_residual-in_err-into-2.result _
    (begun_site c.args.into.now _ c.in_ok-into.field-0 _ c.vars.invariant c.vars-test.true
    (sym c.if-starts_site.ensures) c.requires.size c.requires.few_vars c.requires.few_sites (sym c.in_ok-into.ensures) (to_z-of_z fit) refl)

pub returns-in_err-into-3-clause-begun : goal.returns-in_err-into-3-clause-begun
returns-in_err-into-3-clause-begun c =
    on_err c.from_residual-in_err-into-3.result _ (begun_filled c.args.into.now c.vars.into c.vars.invariant c.requires.few_vars c.requires.few_sites)

pub vars-preserved : goal.vars-preserved
vars-preserved c =
    elim c.if-starts_site.branch [
      | then-starts_site+in_ok-into+in_ok-into-2 w ↦
          let fit : SFits w64 w.in_ok-into.field-0 = search rules in
          let fit2 : SFits w64 w.in_ok-into-2.field-0 = search rules in
          let a = sym w.in_ok-into.ensures in
          let b = sym w.in_ok-into-2.ensures in
          rw (w.into-is, w.at-is, w.site-is, to_z-of_z fit, to_z-of_z fit2) (filled_site _ _ c.vars.invariant c.vars-test.true (sym w.if-starts_site.ensures)
          (site_room c.vars.invariant c.vars-test.true (sym w.if-starts_site.ensures) c.requires.size) c.requires.few_vars c.requires.few_sites a b)
      | else-starts_site+in_ok-into-3 w ↦
          let fit : SFits w64 w.in_ok-into-3.field-0 = search rules in
          rw (w.into-is, w.at-is, w.site-is, to_z-of_z) (filled_other _ c.vars.invariant c.vars-test.true (sym w.if-starts_site.ensures)
          (other_room c.vars.invariant c.vars-test.true (sym w.if-starts_site.ensures) c.requires.size) c.requires.few_vars (sym w.in_ok-into-3.ensures))
    ]
