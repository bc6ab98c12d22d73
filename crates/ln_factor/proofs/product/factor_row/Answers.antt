use Rattle.std.proofs.Common.{◌≡◌, length, refl, subst}
use Rattle.std.proofs.lemmas.Option.{slice_get_read}
use Rattle.ln_code.specs.Memory.{MadeFor}
use Rattle.ln_code.specs.Part.{Part}
use Rattle.ln_code.specs.RowOf.{row_of}
use Rattle.ln_code.specs.Verdict.{IsVerdict}
use Rattle.ln_factor.proofs.product.factor_row.Goals as goal

pub run_row-requires-clause-made : goal.run_row-requires-clause-made
run_row-requires-clause-made c =
    let is = rw c.as_slice.ensures.value at c.index-as_slice-i.is in
    c.requires.made _ (slice_get_read c.args.ps.now (length c.args.ps.now) c.args.i _ refl c.requires.place is)

pub run_row-requires-clause-row : goal.run_row-requires-clause-row
run_row-requires-clause-row c =
    let is = rw c.as_slice.ensures.value at c.index-as_slice-i.is in
    c.requires.range _ (slice_get_read c.args.ps.now (length c.args.ps.now) c.args.i _ refl c.requires.place is)

pub returns-clause-verdict : goal.returns-clause-verdict
returns-clause-verdict c =
    let is = rw c.as_slice.ensures.value at c.index-as_slice-i.is in
    let there = slice_get_read c.args.ps.now (length c.args.ps.now) c.args.i _ refl c.requires.place is in
    λ p e. (let q : c.index-as_slice-i.result ≡ p = cc in
    subst (λ (part : Part). IsVerdict part
    (row_of part.shape.sites part.shape.vars c.args.r.now) c.run_row.result) q c.run_row.ensures.verdict)

pub returns-clause-made : goal.returns-clause-made
returns-clause-made c =
    let is = rw c.as_slice.ensures.value at c.index-as_slice-i.is in
    let there = slice_get_read c.args.ps.now (length c.args.ps.now) c.args.i _ refl c.requires.place is in
    λ p e. (let q : c.index-as_slice-i.result ≡ p = cc in subst (λ (part : Part). MadeFor part c.run_row.new.s) q c.run_row.ensures.made)
