use Rattle.std.proofs.Common.{◌<◌, length, arith, refl, sym, rules, to_z-of_z, w64}
use mir.Val.{SFits}
use Rattle.ln_rows.proofs.Fields.PlainRowLemmas.{reading_none, reading_site, reading_other, reading_fits, reading_all}
use Rattle.ln_rows.proofs.plain.plain_row.Goals as goal
use Rattle.ln_rows.proofs.plain.plain_row.Goals.{then-starts_site+in_ok-z+in_ok-y, else-starts_site+in_ok-y-2}

pub vars-init : goal.vars-init
vars-init c =
    let some : 0 < length c.args.vars.now = search rules in
    reading_none _ _ _ _ some (search rules) (search rules)

pub bounds-into-site : goal.bounds-into-site
bounds-into-site c = reading_fits c.vars.invariant c.vars-test.true (sym c.if-starts_site.ensures) c.requires.few_sites

pub offset_bounds-into-site : goal.offset_bounds-into-site
offset_bounds-into-site c = let b = reading_fits c.vars.invariant c.vars-test.true (sym c.if-starts_site.ensures) c.requires.few_sites in omega (arith, b)

pub overflow_add-site : goal.overflow_add-site
overflow_add-site c = let b = reading_fits c.vars.invariant c.vars-test.true (sym c.if-starts_site.ensures) c.requires.few_sites in omega (arith, b)

pub vars-preserved : goal.vars-preserved
vars-preserved c =
    elim c.if-starts_site.branch [
      | then-starts_site+in_ok-z+in_ok-y w ↦
          let fit : SFits w64 w.in_ok-z.z = search rules in
          let fit2 : SFits w64 w.in_ok-y.y = search rules in
          rw (w.into-is, w.rest-is, w.site-is, to_z-of_z fit, to_z-of_z fit2)
          (reading_site c.vars.invariant c.vars-test.true _ _ _ _ _
          (sym w.if-starts_site.ensures) c.requires.few_vars c.requires.few_sites refl w.in_ok-z.ensures w.in_ok-y.ensures)
      | else-starts_site+in_ok-y-2 w ↦
          let fit : SFits w64 w.in_ok-y-2.y = search rules in
          rw (w.into-is, w.rest-is, w.site-is, to_z-of_z fit)
          (reading_other c.vars.invariant c.vars-test.true _ _ _ (sym w.if-starts_site.ensures) c.requires.few_vars refl w.in_ok-y-2.ensures)
    ]

pub returns : goal.returns
returns c = reading_all c.vars.invariant (search rules)
