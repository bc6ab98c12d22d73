use Rattle.std.proofs.Common.{arith, sym}
use Rattle.ln_tree.proofs.KeptLemmas.{laid_out}
use Rattle.ln_rows.proofs.Fields.RangeLemmas.{shape_columns, row_in_range}
use Rattle.ln_rows.proofs.Fields.ExactLemmas.{is_said, has_equal}
use Rattle.ln_rows.proofs.record.differ.Goals as goal

pub index_column-requires : goal.index_column-requires
index_column-requires c =
    let s = laid_out c.args.sites c.args.vars.now c.requires in
    omega (arith, shape_columns c.args.sites c.args.vars.now c.requires, s.few_sites, s.few_vars)

pub returns-in-None : goal.returns-in-None
returns-in-None c = λ fields size read.
    let said = is_said c.args.sites c.args.vars.now fields c.args.into.now c.requires size read (rw (← c.from.ensures) (sym c.in-None.ensures.value)) in
    record { ok = said; err = tt; in_range = row_in_range c.args.sites c.args.vars.now _ _ c.requires said }

pub returns-in-Some : goal.returns-in-Some
returns-in-Some c = λ fields size read.
    let said = has_equal c.args.sites c.args.vars.now fields c.args.into.now c.in-Some.place c.requires size read
    (rw (← c.from.ensures) (sym c.in-Some.ensures.value)) in
    record { ok = tt; err = rw c.index_column.ensures said; in_range = tt }
