-- Proves what a table knows of a predicate of three sites of one type.
use Rattle.std.proofs.Common.{◌≡◌, ℕ, zero, suc, List, [], ◌∷◌, Option, Some, refl, ap}
use Rattle.std.proofs.Common.{◌∙◌, subst}
use Rattle.std.specs.Prelude.{slice_get, count_by}
use Rattle.ln_tree.specs.Table.{SiteOf}
use Rattle.ln_tree.specs.Whole.{coords_or, is_site_said, vars_behind}
use Rattle.ln_parse.proofs.Wholes.WholeParts.{PredParts, SiteParts, table_parts}
use Rattle.ln_parse.specs.ReadsBack.{Every}
use Rattle.ln_edges.specs.Edges.{three_of}
use Rattle.ln_edges.specs.Three.{TablesGiveThree}

-- what holds of each element holds of the one at a place
pub every_at : {A : Type 0} (P : A → Type 0) (xs : List A) (i : ℕ) (x : A) → slice_get xs i ≡ Some x → Every P xs → P x
every_at P [] i x e h = absurd (cc)
every_at P (y ∷ ys) zero x e h = let q : y ≡ x = cc in subst P q h.0
every_at P (y ∷ ys) (suc i) x e h = every_at P ys i x e h.1

-- a predicate whose arguments are three sites of one type has the type's coordinates, at most 32, three times as its variables
pub tables_three : TablesGiveThree
tables_three t i p type w e h =
    let parts = table_parts t w in
    let of_pred = every_at (PredParts t.sites t.params) t.preds i p e parts.preds in
    let of_site = every_at SiteParts t.sites h.kind type h.there parts.sites in (
      of_pred.sites ∙ ap (count_by is_site_said) h.args ∙ refl,
      of_pred.vars ∙ ap (vars_behind t.sites t.params 0 0) h.args
          ∙ ap (λ (o : Option SiteOf). three_of (coords_or o)) h.there,
      of_site.few,
    )
