use Rattle.std.proofs.Common.{[], ◌∷◌}
use Rattle.std.proofs.lemmas.Int.{to_z-of_z}
use mir.Syntax.{w128}
use Rattle.ln_poly.proofs.TermLists.Leaves.{one-term}
use Rattle.ln_poly.proofs.leaf.power.Goals as goal

pub one_term-requires : goal.one_term-requires
one_term-requires c = rw (c.in_ok-push.ensures.ok, c.new-exps.ensures, to_z-of_z w128 c.args.c c.ranges.c)
    (one-term ((c.args.v, c.args.e) ∷ []) c.args.c (c.requires.positive, c.requires.small, tt, tt) c.requires.some c.requires.factor)
