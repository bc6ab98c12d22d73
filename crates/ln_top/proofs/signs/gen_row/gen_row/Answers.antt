use Rattle.std.proofs.Common.{arith}
use Rattle.ln_tree.proofs.KeptLemmas.{laid_out}
use Rattle.ln_rows.proofs.Fields.RangeLemmas.{shape_columns}
use Rattle.ln_top.proofs.SignsLemmas.MadeRangeLemmas.{made_is, made_in_range, zero_past}
use Rattle.ln_top.proofs.signs.gen_row.gen_row.Goals as goal

pub fill-requires-clause-few_vars : goal.fill-requires-clause-few_vars
fill-requires-clause-few_vars c =
    rw c.laid_out-vars.ensures.vars (laid_out c.args.p.now.shape.sites c.args.p.now.shape.vars c.laid_out-vars.ensures.laid).few_vars

pub fill-requires-clause-few_sites : goal.fill-requires-clause-few_sites
fill-requires-clause-few_sites c =
    let laid = c.laid_out-vars.ensures.laid in
    rw c.laid_out-vars.ensures.vars (omega (
      arith,
      shape_columns c.args.p.now.shape.sites c.args.p.now.shape.vars laid,
      (laid_out c.args.p.now.shape.sites c.args.p.now.shape.vars laid).few_sites,
    ))

pub fill-requires-clause-ranges : goal.fill-requires-clause-ranges
fill-requires-clause-ranges c =
    rw c.laid_out-vars.ensures.vars (laid_out c.args.p.now.shape.sites c.args.p.now.shape.vars c.laid_out-vars.ensures.laid).ranges

pub returns-clause-row : goal.returns-clause-row
returns-clause-row c =
    made_is c.args.n _ _ c.args.g.now c.fill.result c.laid_out-vars.ensures.laid
    (rw c.laid_out-vars.ensures.vars at c.fill.ensures.made)

pub returns-clause-in_range : goal.returns-clause-in_range
returns-clause-in_range c =
    made_in_range c.args.n _ _ c.args.g.now c.fill.result c.laid_out-vars.ensures.laid
    (rw c.laid_out-vars.ensures.vars at c.fill.ensures.made)

pub returns-clause-zero : goal.returns-clause-zero
returns-clause-zero c =
    zero_past c.args.n _ _ c.args.g.now c.fill.result c.laid_out-vars.ensures.laid
    (rw c.laid_out-vars.ensures.vars at c.fill.ensures.made)
