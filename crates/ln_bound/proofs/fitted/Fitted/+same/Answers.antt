use Rattle.std.proofs.Common.{◌≡◌, ◌∙◌, sym, subst, ap, refl}
use Rattle.std.specs.Prelude.{IsTrue}
use Rattle.ln_interval.specs.Range.{Range}
use Rattle.ln_interval.specs.View.{range}
use Rattle.ln_bound.specs.declared.fitted.Fitted.{Fitted}
use Rattle.ln_bound.specs.Typed.{pair, width}
use Rattle.ln_bound.specs.View.{typed}
use Rattle.ln_bound.proofs.Trees.Views.{pair_typed, width_typed}
use Rattle.ln_bound.proofs.fitted.Fitted.+same.Goals as goal

same_pair : (a b : Fitted) → typed a ≡ typed b → range a.pair ≡ range b.pair
same_pair a b e = sym (pair_typed a) ∙ ap pair e ∙ pair_typed b

same_low : (a b : Fitted) → typed a ≡ typed b → a.pair.low ≡ b.pair.low
same_low a b e = ap (λ (p : Range). p.low) (same_pair a b e)

same_high : (a b : Fitted) → typed a ≡ typed b → a.pair.high ≡ b.pair.high
same_high a b e = ap (λ (p : Range). p.high) (same_pair a b e)

same_width : (a b : Fitted) → typed a ≡ typed b → a.width ≡ b.width
same_width a b e = sym (width_typed a) ∙ ap width e ∙ width_typed b

pub returns-then-not-is_same_width : goal.returns-then-not-is_same_width
returns-then-not-is_same_width t c =
    (λ h. cc, λ e. let f = c.is_same_width.ensures.1 (same_width c.args.self.now c.args.other.now e) in subst (λ b. IsTrue b) c.if-not-is_same_width.true f)

pub returns-then-self-other : goal.returns-then-self-other
returns-then-self-other t c = (λ h. cc, λ e. let f = same_low c.args.self.now c.args.other.now e in absurd (c.if-self-other.true (rw f refl)))

pub returns-then-self-other-2 : goal.returns-then-self-other-2
returns-then-self-other-2 t c = (λ h. cc, λ e. let f = same_high c.args.self.now c.args.other.now e in absurd (c.if-self-other-2.true (rw f refl)))
