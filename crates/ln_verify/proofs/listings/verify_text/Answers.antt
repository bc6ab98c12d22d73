use Rattle.ln_verify.proofs.listings.verify_text.Goals as goal

pub bases_of-requires : goal.bases_of-requires
bases_of-requires c = rw c.as_slice-preds.ensures c.requires.accepted

pub verify_lines-requires-clause-bases : goal.verify_lines-requires-clause-bases
verify_lines-requires-clause-bases c = rw c.as_slice.ensures c.in_ok-bases.ensures

pub returns-clause-valid : goal.returns-clause-valid
returns-clause-valid c = rw c.as_slice-preds.ensures at c.verify_lines.ensures.valid

pub returns-clause-invalid : goal.returns-clause-invalid
returns-clause-invalid c = rw c.as_slice-preds.ensures at c.verify_lines.ensures.invalid
