use Rattle.ln_top.proofs.GuaranteeLemmas.SourcesLaws.{accepted_declare, declared_are_of}
use Rattle.ln_top.proofs.laws.sources_declare.Goals as goal

pub returns-clause-some : goal.returns-clause-some
returns-clause-some c = accepted_declare

pub returns-clause-only : goal.returns-clause-only
returns-clause-only c = declared_are_of
