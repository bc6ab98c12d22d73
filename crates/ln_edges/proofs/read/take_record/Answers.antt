use Rattle.std.proofs.Common.{◌≡◌, ◌∙◌, ap, subst, true≢false, ℕ, Option, None, [], ◌∷◌}
use Rattle.std.specs.Prelude.{is_some}
use Rattle.std.proofs.lemmas.List.{map-append}
use Rattle.ln_edges.specs.Read.{AreReadAs, coords_of, point_for, points_for}
use Rattle.ln_edges.proofs.ReadLemmas.{fault_cut, next_cut, none_there, stood_fault, stood_point, stood_still}
use Rattle.ln_edges.proofs.read.take_record.Goals as goal

pub returns-then-is_some : goal.returns-then-is_some
returns-then-is_some c =
    λ done all k e s. stood_still _ _ _ _ _ (λ h. true≢false (c.if-is_some.ensures ∙ ap is_some h)) s

pub returns-in_ok-push-in-Some : goal.returns-in_ok-push-in-Some
returns-in_ok-push-in-Some c =
    let site = c.args.site.now in
    let none : c.args.fault ≡ None = none_there c.args.fault c.if-is_some.ensures in
    λ done all k e s.
    rw (c.in_ok-push-in-Some.ensures.items, map-append (point_for site) c.args.points.now.items (c.in-Some.point ∷ []))
    (stood_point _ done (points_for site c.args.points.now.items) _ (point_for site c.in-Some.point)
    (next_cut _ _ all _ _ k (rw c.deref.ensures.value at c.in-Some.ensures))
    (subst (λ (o : Option ℕ). AreReadAs (coords_of site) done (points_for site c.args.points.now.items) o) none s))

pub returns-in-None : goal.returns-in-None
returns-in-None c =
    let site = c.args.site.now in
    let none : c.args.fault ≡ None = none_there c.args.fault c.if-is_some.ensures in
    λ done all k e s. stood_fault _ done (points_for site c.args.points.now.items) _ _ e
    (fault_cut _ _ all _ k (rw c.deref.ensures.value at c.in-None.ensures))
    (subst (λ (o : Option ℕ). AreReadAs (coords_of site) done (points_for site c.args.points.now.items) o) none s)
