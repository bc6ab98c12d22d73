use Rattle.ln_compile.proofs.Making.BuildingLemmas.{programs-of-table}
use Rattle.ln_compile.proofs.laws.programs_of_a_table.Goals as goal

pub returns : goal.returns
returns c = programs-of-table
