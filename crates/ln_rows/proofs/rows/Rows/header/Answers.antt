use Rattle.std.proofs.Common.{◌≡◌, ◌∷◌, List, ℕ, true, ap, rules, sym, ◌∙◌, true≢false}
use Rattle.ln_rows.specs.Header.{names_of}
use Rattle.ln_rows.proofs.HeaderLaws.{header_is}
use Rattle.ln_rows.proofs.Records.RowsLemmas.{takes_some, names_cut, not_header}
use Rattle.ln_rows.proofs.rows.Rows.header.Goals as goal

pub returns-clause-header : goal.returns-clause-header
returns-clause-header c =
    let there : c.in_ok-found.found ≡ true = search rules in
    let s = takes_some _ _ _ _ _ c.in_ok-found.ensures.takes there in
    let names : List (List ℕ) = names_of c.args.t.now c.args.p.now in
    let cut = names_cut s.fields _ names c.room.result s.first c.room.ensures s.few in
    let next = sym c.self.view_is ∙ s.next in
    header_is names _ _ c.header.result (λ e. next ∙ ap (λ (fs : List (List ℕ)). fs ∷ c.take.new.self) (cut.0 (c.header.ensures.0 e)))
    (λ e others h. not_header s.fields names _ _ others next (λ q. true≢false (sym (c.header.ensures.1 (cut.1 q)) ∙ e)) h)
