use Rattle.std.proofs.Common.{arith, refl}
use Rattle.ln_poly.proofs.Packing.Words.{sum-begin, sum-end, sum-step, sum-word}
use Rattle.ln_poly.proofs.key.Key.sum.Goals as goal

pub words-init : goal.words-init
words-init g c = sum-begin g.row.N _ _ _ refl

pub overflow_add-w-in-words : goal.overflow_add-w-in-words
overflow_add-w-in-words g c = omega (
  arith,
  sum-word g.row.N c.self.inside.words c.other.inside.words c.words.words c.words.carry c.words.i c.self.invariant c.other.invariant c.words.invariant
      c.words-test.true,
)

pub words-preserved : goal.words-preserved
words-preserved g c =
    sum-step g.row.N _ _ _ _ _ _ _ _ c.self.invariant c.other.invariant c.words.invariant c.words-test.true refl refl refl

pub returns : goal.returns
returns g c =
    sum-end g.row.N _ _ _ _ _ _ _ c.self.invariant c.other.invariant c.self.view_is c.other.view_is c.words.invariant c.words-test.false
    c.words.auto.i-end c.requires
