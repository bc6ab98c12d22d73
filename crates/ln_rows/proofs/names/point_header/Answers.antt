use Rattle.std.proofs.Common.{[], List, ℕ, Option, Some, sym, subst, ◌∙◌, true≢false, eq-eqb}
use Rattle.std.proofs.lemmas.Bool.{eqb-true}
use Rattle.std.proofs.lemmas.List.{append-nil}
use Rattle.csv.specs.Records.{fields_of}
use Rattle.ln_rows.specs.Columns.{Passes, site_columns}
use Rattle.ln_rows.proofs.Fields.NameLemmas.{all_stand, all_read}
use Rattle.ln_rows.proofs.names.point_header.Goals as goal

pub returns-in-Some : goal.returns-in-Some
returns-in-Some c =
    let names : List (List ℕ) = site_columns c.args.s.now.name (Some c.args.s.now) in
    let h = subst (λ (o : Option ℕ). Passes names (fields_of c.args.fields.now) 0 o) c.in-Some.is c.past_site.ensures in (
      λ t. all_stand names (fields_of c.args.fields.now) c.in-Some.to h (eqb-true _ _ t ∙ c.len.ensures),
      λ e. eq-eqb _ _ (all_read names (fields_of c.args.fields.now) c.in-Some.to h e ∙ sym c.len.ensures),
    )

pub returns-in-None : goal.returns-in-None
returns-in-None c =
    let names : List (List ℕ) = site_columns c.args.s.now.name (Some c.args.s.now) in
    let h = subst (λ (o : Option ℕ). Passes names (fields_of c.args.fields.now) 0 o) c.in-None.is c.past_site.ensures in (
      λ t. absurd (true≢false (sym t)),
      λ e. absurd (h [] (e ∙ sym (append-nil names))),
    )
