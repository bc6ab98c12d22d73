use Rattle.std.proofs.Common.{ap, ◌*◌, ◌%◌, ◌^◌}
use Rattle.ln_poly.proofs.Packing.Words.{field-value, field-words}
use Rattle.ln_poly.proofs.key.Key.field.Goals as goal

pub invariant_of-result : goal.invariant_of-result
invariant_of-result g c =
    field-words g.row.N c.args.shift c.from-3.result c.from-2.result c.requires.place c.from-3.ensures c.from-2.ensures c.args.e _ c.requires.small
    c.requires.fits (ap (λ z. z * 2 ^ c.from-2.result % 2 ^ 128) c.from.ensures)

pub returns : goal.returns
returns g c =
    field-value g.row.N c.args.shift c.from-3.result c.from-2.result c.requires.place c.from-3.ensures c.from-2.ensures c.args.e _ c.requires.small
    c.requires.fits (ap (λ z. z * 2 ^ c.from-2.result % 2 ^ 128) c.from.ensures)
