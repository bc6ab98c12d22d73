use Rattle.std.proofs.Common.{◌<◌, length, rules, refl}
use Rattle.ln_base.specs.Limits.{most_tokens}
use Rattle.ln_lex.proofs.Scanned.{scanned_more}
use Rattle.ln_lex.proofs.Slices.{stand_slices, stand_rises}
use Rattle.ln_lex.proofs.scan.tokens.Goals as goal

pub returns-then-start-bytes-clause-slices : goal.returns-then-start-bytes-clause-slices
returns-then-start-bytes-clause-slices c = stand_slices c.args.bytes.now 0 c.tokens.tokens c.tokens.at c.tokens.invariant.tokens

pub returns-then-start-bytes-clause-rising : goal.returns-then-start-bytes-clause-rising
returns-then-start-bytes-clause-rising c = stand_rises c.args.bytes.now 0 c.tokens.tokens c.tokens.at c.tokens.invariant.tokens

pub tokens-preserved : goal.tokens-preserved
tokens-preserved c =
    let few : length c.tokens.tokens < most_tokens = search rules in
    rw c.in_ok-push.ensures.ok (scanned_more c.tokens.invariant few c.after.ensures c.gap.ensures.skips c.after-in-tokens.ensures c.in-Some.ensures.some refl)
