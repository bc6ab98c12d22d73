use Rattle.std.proofs.Common.{◌∙◌, sym, ap, List, ℕ, Option, []}
use Rattle.std.specs.Prelude.{unwrap_or}
use Rattle.ln_rows.proofs.Fields.RowLemmas.{field_or}
use Rattle.ln_rows.proofs.record.field.Goals as goal

pub returns-in-Some : goal.returns-in-Some
returns-in-Some c = ap (λ (o : Option (List ℕ)). unwrap_or o []) c.in-Some.ensures.value ∙ sym (field_or _ c.args.at)

pub returns-in-None : goal.returns-in-None
returns-in-None c = ap (λ (o : Option (List ℕ)). unwrap_or o []) c.in-None.ensures.value ∙ sym (field_or _ c.args.at)
