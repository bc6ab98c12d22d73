use Rattle.std.proofs.Common.{rules, to_z-of_z, w64, ap, refl, ◌+◌, ◌-◌, ◌*◌, ◌≡◌, ◌≤◌, ◌<◌, ◌++◌, length, take, arith}
use Rattle.std.proofs.Common.{List, ℤ}
use borrow.Rule.Slice.PartMut.{post_of}
use mir.Val.{SFits}
use Rattle.std.proofs.lemmas.List.{length-take-le}
use Rattle.ln_edges.proofs.RowLemmas.{holds_more, place_fits}
use Rattle.ln_edges.proofs.point.put_point.Goals as goal

pub returns-clause-more : goal.returns-clause-more
returns-clause-more c =
    let fit : SFits w64 c.args.point.now.index = search rules in
    let five : length c.args.row.now.index ≡ 5 = search rules in
    let all : length c.args.row.now.values ≡ 168 = search rules in
    let most : length c.args.point.now.values ≡ 32 = search rules in
    let after : c.copy_from_slice.new.self ≡ take c.args.width c.args.point.now.values =
    c.copy_from_slice.ensures.after in
    let i : c.args.place < length c.args.row.now.index = omega (arith, five, c.requires.place) in
    let l : c.args.place * c.args.width ≤ length c.args.row.now.values =
    rw all (place_fits c.args.place c.args.width c.requires.place c.requires.width) in
    let w : c.args.width ≤ length c.args.point.now.values = omega (arith, most, c.requires.width) in
    rw (to_z-of_z fit) (λ before e h. holds_more c.args.width c.args.place before c.args.point.now c.args.row.now _
    (post_of (c.args.place * c.args.width) (c.args.place * c.args.width + c.args.width - c.args.place * c.args.width)
    c.args.row.now.values)
    e h i l (length-take-le c.args.width c.args.point.now.values w) refl
    (ap (λ (ys : List ℤ). take (c.args.place * c.args.width)
    c.args.row.now.values ++ (ys ++ post_of (c.args.place * c.args.width)
    (c.args.place * c.args.width + c.args.width - c.args.place * c.args.width) c.args.row.now.values)) after))
