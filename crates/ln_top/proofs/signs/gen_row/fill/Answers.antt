use Rattle.std.proofs.Common.{sym, rules, arith, to_z-of_z, w64, ◌<◌}
use mir.Val.{SFits}
use Rattle.ln_top.proofs.SignsLemmas.MadeLemmas.{filled_none, filled_site, filled_other, site_fits}
use Rattle.ln_top.proofs.signs.gen_row.fill.Goals as goal
use Rattle.ln_top.proofs.signs.gen_row.fill.Goals.{then-starts_site, else-starts_site}

pub vars-init : goal.vars-init
vars-init c = filled_none c.args.n c.args.vars.now _

pub next_index-requires : goal.next_index-requires
next_index-requires c =
    let few : c.vars.site < 5 = site_fits c.vars.invariant c.vars-test.true (sym c.if-starts_site.ensures) c.requires.few_sites in
    omega (arith, few)

pub bounds-row-site : goal.bounds-row-site
bounds-row-site c = site_fits c.vars.invariant c.vars-test.true (sym c.if-starts_site.ensures) c.requires.few_sites

pub vars-preserved : goal.vars-preserved
vars-preserved c =
    elim c.if-starts_site.branch [
      | then-starts_site w ↦
          let fit : SFits w64 w.next_index.result = search rules in
          let fit2 : SFits w64 w.next_value.result = search rules in
          rw (w.row-is, w.site-is, w.g-is, to_z-of_z fit, to_z-of_z fit2)
          (filled_site c.vars.invariant c.vars-test.true (sym w.if-starts_site.ensures)
          (record { vars_fit = c.requires.few_vars; sites_fit = c.requires.few_sites })
          (record { is = w.next_index.ensures.index; past = w.next_index.ensures.past })
          (record { is = w.next_value.ensures.value; past = w.next_value.ensures.past }))
      | else-starts_site w ↦
          let fit : SFits w64 w.next_value-else-starts_site.result = search rules in
          rw (w.row-is, w.site-is, w.g-is, to_z-of_z fit)
          (filled_other c.vars.invariant c.vars-test.true (sym w.if-starts_site.ensures) c.requires.few_vars
          (record { is = w.next_value-else-starts_site.ensures.value; past = w.next_value-else-starts_site.ensures.past }))
    ]
