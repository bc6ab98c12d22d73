use Rattle.std.proofs.Common.{string_bytes, rules}
use Rattle.ln_top.proofs.Steps.WordsLaws.{plan_there}
use Rattle.ln_top.proofs.words.plan_for.Goals as goal

pub returns-then-count-signature-clause-is : goal.returns-then-count-signature-clause-is
returns-then-count-signature-clause-is c =
    rw c.in_ok-command.was (plan_there string_bytes c.args.rest.now c.in_ok-command.command c.args.source.now
    (record { least = _; most = _; files = _ })
    c.signature_of-signature.ensures.least c.signature_of-signature.ensures.most c.signature_of-signature.ensures.files (search rules) (search rules))
