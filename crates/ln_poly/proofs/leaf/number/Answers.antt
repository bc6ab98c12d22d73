use Rattle.std.proofs.Common.{[], refl}
use Rattle.std.proofs.lemmas.Int.{to_z-of_z}
use mir.Syntax.{w128}
use Rattle.ln_poly.proofs.TermLists.Leaves.{no-terms, one-term}
use Rattle.ln_poly.proofs.leaf.number.Goals as goal

pub seal-requires : goal.seal-requires
seal-requires c = rw c.new.ensures no-terms

pub one_term-requires : goal.one_term-requires
one_term-requires c = rw (c.new-2.ensures, to_z-of_z w128 c.args.c c.ranges.c) (one-term [] c.args.c tt (λ e. c.if-c-eq0.false (rw e refl)) c.requires.factor)
