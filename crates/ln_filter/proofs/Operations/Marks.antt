-- What the walk asks of triples.
use Rattle.std.proofs.Common.{◌≡◌, ℕ, ◌+◌, ◌*◌, ◌≤◌, List, refl, zero, suc, arith, sym, subst}
use Rattle.ln_tree.specs.declared.shape.VarInfo.{VarInfo}
use Rattle.ln_interval.specs.Range.{Range}
use Rattle.ln_bound.specs.declared.fitted.Width.{Width}
use Rattle.ln_bound.specs.Typed.{Typed, TPow, untyped}
use Rattle.ln_code.specs.declared.op.Triple.{Triple}
use Rattle.ln_code.specs.StackCode.{raised_to}
use Rattle.ln_filter.specs.Steady.{ArePowersSteady}
use Rattle.ln_filter.specs.Style.{MayWrite}
use Rattle.ln_filter.specs.Triples.{bits, excess, leaf, powered, product_of, triple, whole}
use Rattle.ln_filter.specs.Tried.{IsSmall}
use Rattle.ln_filter.proofs.Truncation.Bits.{bits_by_zeros}
use Rattle.ln_filter.proofs.Truncation.Steady.{powered_small}

-- a value with this triple may be divided so that 31 binary digits remain
abbrev pub Divides : Triple → Type 0
Divides a = a.k + excess a.h ≤ 255

one_is : leaf 1 ≡ whole 1
unfolding bits
one_is = refl

-- the last product of a power
pub last_divides : (a : Triple) (n : ℕ) → IsSmall a → ArePowersSteady a (suc n) → Divides (product_of (powered a n) a)
last_divides a zero s p =
    let e : 1 * a.h ≡ a.h = omega arith in
    let b = bits_by_zeros 31 a.h s.size in
    let k = s.power in
    let f : excess a.h ≡ 0 = omega (arith, b) in
    let g : 0 + a.k + excess (1 * a.h) ≤ 255 = rw (e, f) (omega (arith, k)) in
    subst (λ z. Divides (product_of z a)) (sym one_is) g
last_divides a (suc n) s p = (p (suc (suc n)) (omega arith) (omega arith)).power

-- one more factor, from the power m on: the power is small, and the product may be divided
pub factor_joins : (vars : List VarInfo) (lets : List Triple) (x : Typed) (m n : ℕ) (q : Range) (w : Width) (p a : Triple)
    → MayWrite vars lets (untyped (TPow x n q w)) → m + 1 ≤ n → p ≡ triple vars lets (untyped (raised_to x m w)) → a ≡ triple vars lets (untyped x)
    → IsSmall p × Divides (product_of p a)
factor_joins vars lets x m n q w p a g h i j =
    let b = g.small (untyped x) g.steady.0 in
    let s : ArePowersSteady (triple vars lets (untyped x)) (suc m) = λ k l f. g.steady.1 k l (omega (arith, f, h)) in
    rw (i, j) (powered_small (triple vars lets (untyped x)) m b (λ k l f. s k l (omega (arith, f))), last_divides (triple vars lets (untyped x)) m b s)
