use Rattle.ln_stage.proofs.Monomials.LawLemmas.{list-unique}
use Rattle.ln_stage.proofs.laws.list_is_unique.Goals as goal

pub returns : goal.returns
returns c = list-unique
