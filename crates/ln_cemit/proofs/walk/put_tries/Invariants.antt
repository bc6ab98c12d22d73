use Rattle.std.proofs.Common.{drop}
use Rattle.ln_csyn.specs.Spelling.{Goes, spell_body}
use Rattle.ln_csyn.specs.Tree.{Body}
use Rattle.ln_cemit.specs.Names.{answer_name, block_name}
use Rattle.ln_cemit.specs.Walked.{tries}
use Rattle.ln_cemit.proofs.walk.put_tries.Given as goal

abbrev pub invariant-numbers : goal.invariant-numbers
invariant-numbers l = (b : Body) → Goes l.fn.out.items l.out.items (spell_body (tries (block_name l.name) answer_name (drop l.number-index l.numbers) b))
    (spell_body (tries (block_name l.name) answer_name l.numbers b))
