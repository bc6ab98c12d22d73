use Rattle.std.proofs.Common.{◌≡◌, ◌<◌, ◌^◌, ◌++◌, ◌∷◌, [], length, take, arith, rules}
use Rattle.csv.specs.Records.{fields_of}
use Rattle.ln_rows.proofs.Records.LineLemmas.{splits_on, splits_all, rest_within}
use Rattle.ln_rows.proofs.line.split.Goals as goal

pub returns-then-size-rest : goal.returns-then-size-rest
returns-then-size-rest c =
    let room : length (fields_of c.fields.into) < c.args.most = search rules in
    let more : fields_of c.push_field.new.self ≡ fields_of c.fields.into ++ (take c.field_length-size.result c.fields.rest.now ∷ []) =
    rw c.fields.invariant.1 at c.in_ok-push_field.ensures.fields in
    splits_all _ _ _ _ _ _ c.fields.invariant.0 room c.if-size-rest.true c.field_length-size.ensures.all more

pub overflow_add-rest : goal.overflow_add-rest
overflow_add-rest c =
    let small : length c.args.line.now < 2 ^ 63 = search rules in
    omega (arith, small, c.field_length-size.ensures.within, c.fields.invariant.2)

pub fields-preserved : goal.fields-preserved
fields-preserved c =
    let room : length (fields_of c.fields.into) < c.args.most = search rules in
    let more : fields_of c.push_field.new.self ≡ fields_of c.fields.into ++ (take c.field_length-size.result c.fields.rest.now ∷ []) =
    rw c.fields.invariant.1 at c.in_ok-push_field.ensures.fields in
    let inside : c.field_length-size.result < length c.fields.rest.now = omega (arith, c.field_length-size.ensures.within, c.if-size-rest.false) in (
      splits_on _ _ _ _ _ _ c.fields.invariant.0 room inside c.field_length-size.ensures.all (c.field_length-size.ensures.comma inside) more,
      c.in_ok-push_field.ensures.partial,
      rest_within _ _ _ c.fields.invariant.2,
    )
