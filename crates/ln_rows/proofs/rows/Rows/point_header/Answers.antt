use Rattle.std.proofs.Common.{◌≡◌, ◌+◌, ◌∷◌, List, ℕ, Some, true, length, map, arith, ap, rules, sym, ◌∙◌, true≢false}
use Rattle.std.proofs.lemmas.List.{length-map}
use Rattle.ln_rows.specs.Columns.{coord_column, site_columns}
use Rattle.ln_rows.proofs.Records.RowsLemmas.{takes_some, point_cut, not_header}
use Rattle.ln_rows.proofs.rows.Rows.point_header.Goals as goal

pub returns-clause-right : goal.returns-clause-right
returns-clause-right c = λ e.
    let there : c.in_ok-found.found ≡ true = search rules in
    let s = takes_some _ _ _ _ _ (rw c.as_slice.ensures at c.in_ok-found.ensures.takes) there in
    let names : List (List ℕ) = site_columns c.args.s.now.name (Some c.args.s.now) in
    let size : length (map (coord_column c.args.s.now.name) c.args.s.now.coords) ≡ length c.args.s.now.coords =
    length-map c.args.s.now.coords (coord_column c.args.s.now.name) in
    let cut = point_cut s.fields _ names (length c.args.s.now.coords + 2) s.first (omega (arith, size)) in
    sym c.self.view_is ∙ s.next ∙ ap (λ (fs : List (List ℕ)). fs ∷ c.take.new.self) (cut.0 (c.point_header.ensures.0 e))

pub returns-clause-wrong : goal.returns-clause-wrong
returns-clause-wrong c = λ e others h.
    let there : c.in_ok-found.found ≡ true = search rules in
    let s = takes_some _ _ _ _ _ (rw c.as_slice.ensures at c.in_ok-found.ensures.takes) there in
    let names : List (List ℕ) = site_columns c.args.s.now.name (Some c.args.s.now) in
    let size : length (map (coord_column c.args.s.now.name) c.args.s.now.coords) ≡ length c.args.s.now.coords =
    length-map c.args.s.now.coords (coord_column c.args.s.now.name) in
    let cut = point_cut s.fields _ names (length c.args.s.now.coords + 2) s.first (omega (arith, size)) in
    not_header s.fields names _ _ others (sym c.self.view_is ∙ s.next) (λ q. true≢false (sym (c.point_header.ensures.1 (cut.1 q)) ∙ e)) h
