use Rattle.std.proofs.Common.{◌<◌, ◌/◌, ◌^◌, ◌-◌, ◌*◌, ◌∙◌, ap, arith, refl, subst, sym}
use Rattle.ln_poly.specs.Words.{value}
use Rattle.ln_poly.proofs.Packing.Words.{taken-exponent, taken-rest}
use Rattle.ln_poly.proofs.key.Key.take.Goals as goal

pub overflow_cast-result : goal.overflow_cast-result
overflow_cast-result g c =
    let h : value c.self.inside.words / 2 ^ c.args.shift < 128 = subst (λ z. z / 2 ^ c.args.shift < 128) (sym c.self.view_is) c.requires.small in
    omega (
      arith,
      taken-exponent g.row.N c.args.shift c.from-i.result c.from-s.result c.requires.place c.from-i.ensures c.from-s.ensures c.self.inside.words
          c.self.invariant h,
      h,
    )

pub returns-clause-exponent : goal.returns-clause-exponent
returns-clause-exponent g c =
    let h : value c.self.inside.words / 2 ^ c.args.shift < 128 = subst (λ z. z / 2 ^ c.args.shift < 128) (sym c.self.view_is) c.requires.small in
    sym (taken-exponent g.row.N c.args.shift c.from-i.result c.from-s.result c.requires.place c.from-i.ensures c.from-s.ensures c.self.inside.words
    c.self.invariant h) ∙ ap (λ z. z / 2 ^ c.args.shift) c.self.view_is

pub returns-clause-rest : goal.returns-clause-rest
returns-clause-rest g c =
    let h : value c.self.inside.words / 2 ^ c.args.shift < 128 = subst (λ z. z / 2 ^ c.args.shift < 128) (sym c.self.view_is) c.requires.small in
    taken-rest g.row.N c.args.shift c.from-i.result c.from-s.result c.requires.place c.from-i.ensures c.from-s.ensures c.self.inside.words _
    c.self.invariant h refl ∙ ap (λ z. z - z / 2 ^ c.args.shift * 2 ^ c.args.shift) c.self.view_is
