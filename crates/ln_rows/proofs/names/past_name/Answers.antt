use Rattle.std.proofs.Common.{refl, []}
use Rattle.std.proofs.lemmas.Bool.{false≢true}
use Rattle.ln_rows.proofs.Fields.NameLemmas.{one_name, no_name}
use Rattle.ln_rows.proofs.names.past_name.Goals as goal

pub returns-then-is_name : goal.returns-then-is_name
returns-then-is_name c = one_name _ c.args.at _ (c.if-is_name.ensures.value.0 refl)

pub returns-else-is_name : goal.returns-else-is_name
returns-else-is_name c = no_name _ c.args.at _ [] (λ e. false≢true (c.if-is_name.ensures.value.1 e))
