use Rattle.std.proofs.Common.{ℕ, ◌/◌, ◌≡◌, ◌≤◌, ◌-◌, ◌++◌, arith, drop, length, subst, sym, take}
use Rattle.std.proofs.Math.Nat.{mul-le-mul_right}
use Rattle.std.proofs.lemmas.List.{length-take-le, take-append-drop, take_rest}
use Rattle.ln_poly.specs.Keyed.{Keyed, ProductsFit}
use Rattle.ln_poly.specs.Words.{half}
use Rattle.ln_poly.proofs.Packing.Loops.{first-fit, halves-first, parts-long, rest-fit, second-shorter}
use Rattle.ln_poly.proofs.packed.halves.Goals as goal

pub returns-clause-second_shorter : goal.returns-clause-second_shorter
returns-clause-second_shorter g c = second-shorter c.args.f.now _ c.requires.several (take_rest c.args.f.now (length c.args.f.now / 2))

pub returns-clause-first_fit : goal.returns-clause-first_fit
returns-clause-first_fit g c = first-fit (half g.row.N) (length c.args.f.now / 2) c.args.f.now c.args.g.now c.requires.fit

pub returns-clause-second_fit : goal.returns-clause-second_fit
returns-clause-second_fit g c =
    let k : ℕ = length c.args.f.now / 2 in
    subst (λ (z : Keyed). ProductsFit (half g.row.N) z c.args.g.now) (sym (take_rest c.args.f.now k))
    (rest-fit (half g.row.N) k c.args.f.now c.args.g.now c.requires.fit)

pub returns-clause-rows : goal.returns-clause-rows
returns-clause-rows g c =
    let k : ℕ = length c.args.f.now / 2 in
    let rest : Keyed = take (length c.args.f.now - k) (drop k c.args.f.now) in
    let e : c.args.f.now ≡ take k c.args.f.now ++ rest = rw (take_rest c.args.f.now k) (sym (take-append-drop k c.args.f.now)) in
    omega (arith, parts-long c.args.f.now (take k c.args.f.now) rest c.args.g.now e, halves-first c.args.f.now c.args.g.now)

pub overflow_mul-result : goal.overflow_mul-result
overflow_mul-result g c =
    let l : length c.args.f.now / 2 ≤ length c.args.f.now = omega arith in
    omega (arith, mul-le-mul_right (length c.args.g.now) l, c.requires.long)

pub returns-clause-whole : goal.returns-clause-whole
returns-clause-whole g c =
    let k : ℕ = length c.args.f.now / 2 in
    rw (take_rest c.args.f.now k) (sym (take-append-drop k c.args.f.now))

pub returns-clause-first_shorter : goal.returns-clause-first_shorter
returns-clause-first_shorter g c =
    let l : length c.args.f.now / 2 ≤ length c.args.f.now = omega arith in
    omega (arith, length-take-le (length c.args.f.now / 2) c.args.f.now l, c.requires.several)

pub returns-clause-split : goal.returns-clause-split
returns-clause-split g c = halves-first c.args.f.now c.args.g.now
