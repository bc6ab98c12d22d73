use Rattle.std.proofs.Common.{ap, arith, length, rules, ◌≡◌, ◌∙◌, ◌*◌, ◌<◌, ◌≤◌, ◌^◌}
use Rattle.std.proofs.lemmas.List.{length-map}
use Rattle.ln_poly.specs.Keyed.{AreAllProducts, IsGivenUp}
use Rattle.ln_poly.specs.Packed.{keyed, packed, weights}
use Rattle.ln_poly.proofs.Packing.Whole.{given-up, keyed-fit, left-low, product-poly, product-rows, product-small, right-low, some-half, unkeyed-length}
use Rattle.ln_poly.proofs.packed.product.Goals as goal

pub pack-requires : goal.pack-requires
pack-requires g c =
    let some = some-half g.row.N c.args.fields.now.shifts c.args.fields.now.places c.args.fields.now.long in
    let low = left-low g.row.N (weights c.args.fields.now.shifts) c.args.f.now c.args.g.now c.requires.fields some in
    (search rules, (omega (arith, c.args.fields.now.few), rw c.terms.ensures.value low))

pub pack-requires-2 : goal.pack-requires-2
pack-requires-2 g c =
    let some = some-half g.row.N c.args.fields.now.shifts c.args.fields.now.places c.args.fields.now.long in
    let low = right-low g.row.N (weights c.args.fields.now.shifts) c.args.f.now c.args.g.now c.requires.fields some in
    (search rules, (omega (arith, c.args.fields.now.few), rw c.terms-2.ensures.value low))

pub parts_of-requires : goal.parts_of-requires
parts_of-requires g c =
    let ws = weights c.args.fields.now.shifts in
    let l = c.as_slice.ensures.value ∙ c.in_ok-left.ensures ∙ ap (keyed ws) c.terms.ensures.value in
    let r = c.as_slice-2.ensures.value ∙ c.in_ok-right.ensures ∙ ap (keyed ws) c.terms-2.ensures.value in
    let short : length c.terms-2.result.now * 32 < 2 ^ 63 = search rules in
    let long : length (keyed ws c.terms-2.result.now) ≡ length c.terms-2.result.now = length-map c.terms-2.result.now (λ t. (packed ws t.0, t.1)) in
    let some = some-half g.row.N c.args.fields.now.shifts c.args.fields.now.places c.args.fields.now.long in
    let fit = keyed-fit g.row.N ws c.args.f.now c.args.g.now c.requires.fields some c.terms.ensures.form c.terms-2.ensures.form c.requires.room in
    (search rules, (omega (arith, c.args.fields.now.few), (rw (c.as_slice-2.ensures.value, c.in_ok-right.ensures) (omega (arith, short, long)), rw (l, r) fit)))

pub unpack-requires : goal.unpack-requires
unpack-requires g c =
    let ws = weights c.args.fields.now.shifts in
    let l = c.as_slice.ensures.value ∙ c.in_ok-left.ensures ∙ ap (keyed ws) c.terms.ensures.value in
    let r = c.as_slice-2.ensures.value ∙ c.in_ok-right.ensures ∙ ap (keyed ws) c.terms-2.ensures.value in
    let a : AreAllProducts c.in-Some.terms.items (keyed ws c.args.f.now) (keyed ws c.args.g.now) × (length c.in-Some.terms.items ≤ c.args.most) =
    rw (c.in-Some.is, l, r) at c.in_ok-found.ensures in
    let small = product-small g.row.N ws c.args.f.now c.args.g.now c.requires.fields c.in-Some.terms.items a.0 in
    (search rules, (omega (arith, c.args.fields.now.few), rw c.as_slice-in-Some.ensures.value small))

pub seal-requires : goal.seal-requires
seal-requires g c =
    let ws = weights c.args.fields.now.shifts in
    let l = c.as_slice.ensures.value ∙ c.in_ok-left.ensures ∙ ap (keyed ws) c.terms.ensures.value in
    let r = c.as_slice-2.ensures.value ∙ c.in_ok-right.ensures ∙ ap (keyed ws) c.terms-2.ensures.value in
    let a : AreAllProducts c.in-Some.terms.items (keyed ws c.args.f.now) (keyed ws c.args.g.now) × (length c.in-Some.terms.items ≤ c.args.most) =
    rw (c.in-Some.is, l, r) at c.in_ok-found.ensures in
    rw (c.from_vec.ensures, c.in_ok-h-in-Some.ensures, c.as_slice-in-Some.ensures.value)
    (product-poly g.row.N ws c.args.f.now c.args.g.now c.requires.fields c.in-Some.terms.items a.0 c.requires.room)

pub returns-in-Some : goal.returns-in-Some
returns-in-Some g c =
    let ws = weights c.args.fields.now.shifts in
    let l = c.as_slice.ensures.value ∙ c.in_ok-left.ensures ∙ ap (keyed ws) c.terms.ensures.value in
    let r = c.as_slice-2.ensures.value ∙ c.in_ok-right.ensures ∙ ap (keyed ws) c.terms-2.ensures.value in
    let a : AreAllProducts c.in-Some.terms.items (keyed ws c.args.f.now) (keyed ws c.args.g.now) × (length c.in-Some.terms.items ≤ c.args.most) =
    rw (c.in-Some.is, l, r) at c.in_ok-found.ensures in
    rw (c.seal.ensures, c.from_vec.ensures, c.in_ok-h-in-Some.ensures, c.as_slice-in-Some.ensures.value) (record {
      rows = product-rows g.row.N ws c.args.f.now c.args.g.now c.requires.fields c.in-Some.terms.items a.0;
      form = product-poly g.row.N ws c.args.f.now c.args.g.now c.requires.fields c.in-Some.terms.items a.0 c.requires.room;
      few = omega (arith, a.1, unkeyed-length ws c.in-Some.terms.items);
      none = tt;
      limit = tt;
    })

pub returns : goal.returns
returns g c =
    let ws = weights c.args.fields.now.shifts in
    let l = c.as_slice.ensures.value ∙ c.in_ok-left.ensures ∙ ap (keyed ws) c.terms.ensures.value in
    let r = c.as_slice-2.ensures.value ∙ c.in_ok-right.ensures ∙ ap (keyed ws) c.terms-2.ensures.value in
    let u : IsGivenUp (keyed ws c.args.f.now) (keyed ws c.args.g.now) c.args.most = rw (c.in-None.is, l, r) at c.in_ok-found.ensures in
    record {
      rows = tt;
      form = tt;
      few = tt;
      none = given-up g.row.N ws c.args.f.now c.args.g.now c.requires.fields c.args.most c.requires.room u;
      limit = u.limit;
    }
