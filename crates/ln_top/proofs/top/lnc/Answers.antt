use Rattle.ln_top.specs.Frame.Said.{count}
use Rattle.ln_top.specs.declared.words.Command.TheVariants as command
use Rattle.ln_top.proofs.Steps.TopLaws.{by_work, keeps}
use Rattle.ln_top.proofs.Theorem.HeadlineLaws.{graded_headline, headline}
use Rattle.ln_top.proofs.GuaranteeLemmas.Run.{run_signs}
use Rattle.ln_top.proofs.GuaranteeLemmas.Emit.{emit_signs}
use Rattle.ln_top.proofs.GuaranteeLemmas.Listing.{list_signs}
use Rattle.ln_top.proofs.Theorem.ProductsLaws.{products}
use Rattle.ln_top.proofs.Theorem.EdgedLaws.{edged}
use Rattle.ln_top.proofs.Theorem.ExplainedLaws.{explained}
use Rattle.ln_top.proofs.Theorem.AuditedLaws.{audited}
use Rattle.ln_top.proofs.Theorem.EmittedLaws.{emitted}
use Rattle.ln_top.proofs.Theorem.ListedLaws.{listed}
use Rattle.ln_top.proofs.Theorem.TrustedLaws.{trusted}
use Rattle.ln_top.proofs.top.lnc.Goals as goal

pub returns-clause-kept : goal.returns-clause-kept
returns-clause-kept g c =
    keeps _ (g.F.Files.told c.args.files.now) _ (count _ _) (count _ _) _ _ _ _ c.status_of.ensures c.carry_out.ensures.done
    c.carry_out.ensures.quiet

pub returns-clause-headline : goal.returns-clause-headline
returns-clause-headline g c s = by_work command.Run _ c.status_of.ensures c.carry_out.ensures.done (λ k i w. headline k i (w s))

pub returns-clause-run_signs : goal.returns-clause-run_signs
returns-clause-run_signs g c = run_signs c.status_of.ensures c.carry_out.ensures.done

pub returns-clause-graded : goal.returns-clause-graded
returns-clause-graded g c s = by_work command.Graded _ c.status_of.ensures c.carry_out.ensures.done (λ k i w. graded_headline k i (w s))

pub returns-clause-products : goal.returns-clause-products
returns-clause-products g c s = by_work command.Product _ c.status_of.ensures c.carry_out.ensures.done (λ k i w. products k i (w s))

pub returns-clause-emitted : goal.returns-clause-emitted
returns-clause-emitted g c s = by_work command.Emit _ c.status_of.ensures c.carry_out.ensures.done (λ k i w. emitted k i (w s))

pub returns-clause-emit_signs : goal.returns-clause-emit_signs
returns-clause-emit_signs g c = emit_signs c.status_of.ensures c.carry_out.ensures.done

pub returns-clause-listed : goal.returns-clause-listed
returns-clause-listed g c s = by_work command.List _ c.status_of.ensures c.carry_out.ensures.done (λ k i w. listed k i (w s))

pub returns-clause-list_signs : goal.returns-clause-list_signs
returns-clause-list_signs g c = list_signs c.status_of.ensures c.carry_out.ensures.done

pub returns-clause-edged : goal.returns-clause-edged
returns-clause-edged g c s = by_work command.Edges _ c.status_of.ensures c.carry_out.ensures.done (λ k i w. edged k i (w s))

pub returns-clause-explained : goal.returns-clause-explained
returns-clause-explained g c s = by_work command.Explain _ c.status_of.ensures c.carry_out.ensures.done (λ k i w. explained k i (w s))

pub returns-clause-audited : goal.returns-clause-audited
returns-clause-audited g c = by_work command.Audit _ c.status_of.ensures c.carry_out.ensures.done audited

pub returns-clause-trusted : goal.returns-clause-trusted
returns-clause-trusted g c = by_work command.Verify _ c.status_of.ensures c.carry_out.ensures.done trusted
