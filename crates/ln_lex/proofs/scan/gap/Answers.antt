use Rattle.ln_lex.proofs.Gaps.{after_blank, after_comment, skipped_all}
use Rattle.ln_lex.proofs.scan.gap.Goals as goal

pub gaps-preserved-then-blank_at : goal.gaps-preserved-then-blank_at
gaps-preserved-then-blank_at c = after_blank c.gaps.invariant c.after-rest.ensures c.blank_at.ensures c.if-blank_at.true

pub gaps-preserved : goal.gaps-preserved
gaps-preserved c =
    after_comment c.gaps.invariant c.after-rest.ensures c.twice_at.ensures c.if-twice_at.true c.comment-at.ensures.len c.comment-at.ensures.within

pub returns-else-twice_at-clause-skips : goal.returns-else-twice_at-clause-skips
returns-else-twice_at-clause-skips c = skipped_all c.gaps.invariant
