use Rattle.std.proofs.Common.{inr, refl, rules, sym, subst, to_z-of_z, true≢false, w64, length, List, ℤ}
use Rattle.std.specs.Prelude.{Contains}
use mir.Val.{SFits}
use Rattle.ln_edges.specs.Read.{coords_of, point_for}
use Rattle.ln_edges.proofs.ReadLemmas.{indices_of}
use Rattle.ln_edges.proofs.read.next_point.Goals as goal

pub returns-then-has_index : goal.returns-then-has_index
returns-then-has_index c =
    let fit : SFits w64 c.in-Some.point.index = search rules in
    let there = rw (to_z-of_z fit) at c.if-has_index.ensures.0 refl in
    inr (
      point_for c.args.site.now c.in-Some.point,
      sym c.in-Some.ensures.point,
      subst (λ (zs : List ℤ). Contains zs c.in-Some.point.index)
          (sym (indices_of (length (coords_of c.args.site.now)) c.args.points.now)) there,
    )

pub returns-else-has_index : goal.returns-else-has_index
returns-else-has_index c =
    let fit : SFits w64 c.in-Some.point.index = search rules in
    let found = rw (to_z-of_z fit) at c.if-has_index.ensures.1 in
    record {
      says = sym c.in-Some.ensures.point;
      new = λ h. absurd (true≢false (sym (found (subst (λ (zs : List ℤ). Contains zs c.in-Some.point.index)
          (indices_of (length (coords_of c.args.site.now)) c.args.points.now) h))));
    }
