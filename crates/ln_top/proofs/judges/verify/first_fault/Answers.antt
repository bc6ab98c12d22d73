use Rattle.std.proofs.Common.{ap, sym}
use Rattle.ln_tree.specs.Table.{TableOf}
use Rattle.ln_top.proofs.JudgesLemmas.VerifyLaws.{text_fault, text_valid}
use Rattle.ln_top.proofs.judges.verify.first_fault.Goals as goal

pub verify_lines-requires-clause-bases : goal.verify_lines-requires-clause-bases
verify_lines-requires-clause-bases c = rw (c.as_slice.ensures, c.table.ensures) c.bases.ensures

pub returns-in-Valid : goal.returns-in-Valid
returns-in-Valid c =
    λ g s. text_valid g _ _ (c.short_text.ensures.is g s) (sym (ap (λ (t : TableOf). t.preds) s.table))
    ((rw (c.as_slice.ensures, c.table.ensures) at c.in_ok-verify_lines.ensures.valid).0 c.in-Valid.is)

pub returns-in-Invalid : goal.returns-in-Invalid
returns-in-Invalid c =
    λ g s. text_fault g _ _ _ (c.short_text.ensures.is g s) (sym (ap (λ (t : TableOf). t.preds) s.table))
    (((rw (c.as_slice.ensures, c.table.ensures) at c.in_ok-verify_lines.ensures.invalid) _).0 c.in-Invalid.is)
