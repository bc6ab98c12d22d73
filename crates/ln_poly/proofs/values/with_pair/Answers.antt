use Rattle.std.proofs.Common.{FitsSigned, ◌≡◌, pos, arith, rules, refl}
use Rattle.std.proofs.lemmas.Int.{to_z-of_z}
use Rattle.std.proofs.Math.IntN.{◌*ℤ◌}
use mir.Syntax.{w64, w128}
use Rattle.ln_algebra.specs.Terms.{binomial}
use Rattle.ln_interval.proofs.Ends.{fit}
use Rattle.ln_poly.proofs.Evaluations.Room.{pair-fits, pair-room, pair-value, ways-fit}
use Rattle.ln_poly.proofs.values.with_pair.Goals as goal

pub overflow_cast-ways : goal.overflow_cast-ways
overflow_cast-ways c =
    let n : c.args.z ≡ pos 0 → ⊥ = search rules in
    fit (pos c.of-ways.result) (omega (arith, c.of-ways.ensures, ways-fit c.args.z c.args.x c.args.p.1 c.args.k c.requires.within n c.requires.room))

pub overflow_mul-z : goal.overflow_mul-z
overflow_mul-z c =
    let n : c.args.z ≡ pos 0 → ⊥ = search rules in
    let fz : FitsSigned w128 c.args.z = search rules in
    let w : FitsSigned w128 (pos c.of-ways.result) =
    fit (pos c.of-ways.result) (omega (arith, c.of-ways.ensures, ways-fit c.args.z c.args.x c.args.p.1 c.args.k c.requires.within n c.requires.room)) in
    let g : FitsSigned w128 (c.args.z *ℤ pos (binomial c.args.p.1 c.args.k)) =
    fit _ (pair-fits c.args.z c.args.x c.args.p.1 c.args.k c.requires.within c.requires.room) in
    rw (to_z-of_z w128 c.args.z fz, to_z-of_z w128 (pos c.of-ways.result) w, c.of-ways.ensures) g

pub raised-requires : goal.raised-requires
raised-requires c =
    let n : c.args.z ≡ pos 0 → ⊥ = search rules in
    let fz : FitsSigned w128 c.args.z = search rules in
    let fx : FitsSigned w64 c.args.x = search rules in
    let w : FitsSigned w128 (pos c.of-ways.result) =
    fit (pos c.of-ways.result) (omega (arith, c.of-ways.ensures, ways-fit c.args.z c.args.x c.args.p.1 c.args.k c.requires.within n c.requires.room)) in
    let g : FitsSigned w128 (c.args.z *ℤ pos (binomial c.args.p.1 c.args.k)) =
    fit _ (pair-fits c.args.z c.args.x c.args.p.1 c.args.k c.requires.within c.requires.room) in
    rw (
      to_z-of_z w128 c.args.z fz,
      to_z-of_z w64 c.args.x fx,
      to_z-of_z w128 (pos c.of-ways.result) w,
      c.of-ways.ensures,
      to_z-of_z w128 (c.args.z *ℤ pos (binomial c.args.p.1 c.args.k)) g,
    ) (pair-room c.args.z c.args.x c.args.p.1 c.args.k c.requires.within c.requires.room)

pub returns : goal.returns
returns c =
    let n : c.args.z ≡ pos 0 → ⊥ = search rules in
    let fz : FitsSigned w128 c.args.z = search rules in
    let fx : FitsSigned w64 c.args.x = search rules in
    let fr : FitsSigned w128 c.raised.result = search rules in
    let w : FitsSigned w128 (pos c.of-ways.result) =
    fit (pos c.of-ways.result) (omega (arith, c.of-ways.ensures, ways-fit c.args.z c.args.x c.args.p.1 c.args.k c.requires.within n c.requires.room)) in
    let g : FitsSigned w128 (c.args.z *ℤ pos (binomial c.args.p.1 c.args.k)) =
    fit _ (pair-fits c.args.z c.args.x c.args.p.1 c.args.k c.requires.within c.requires.room) in
    let h = rw (
      to_z-of_z w128 c.args.z fz,
      to_z-of_z w64 c.args.x fx,
      to_z-of_z w128 (pos c.of-ways.result) w,
      c.of-ways.ensures,
      to_z-of_z w128 (c.args.z *ℤ pos (binomial c.args.p.1 c.args.k)) g,
    ) at c.raised.ensures in
    rw (to_z-of_z w128 c.raised.result fr) (pair-value c.args.z _ c.args.x c.args.p.1 c.args.k (binomial c.args.p.1 c.args.k) refl h)
