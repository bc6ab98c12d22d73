use Rattle.std.proofs.Common.{◌≡◌, ◌-◌, false, arith, ap, length, rules}
use Rattle.std.specs.Prelude.{IsTrue}
use Rattle.ln_tree.proofs.KeptLemmas.{laid_out}
use Rattle.ln_stage.proofs.Testing.Pairs.{never_all, turns_all, turns_more, turns_none}
use Rattle.ln_stage.proofs.symmetry.has_symmetry.Goals as goal

pub neighbours-init : goal.neighbours-init
neighbours-init c = turns_none c.args.s.now.vars c.args.y c.args.f.now

pub pair_turns-requires-clause-few : goal.pair_turns-requires-clause-few
pair_turns-requires-clause-few c =
    omega (arith, (laid_out c.args.s.now.sites c.args.s.now.vars c.args.s.now.kept).few_vars, ap length c.as_slice-vars.ensures)

pub returns-then-not-pair_turns-clause-no : goal.returns-then-not-pair_turns-clause-no
returns-then-not-pair_turns-clause-no c =
    let q : c.pair_turns.result ≡ false = search rules in
    λ no. never_all (c.neighbours.j - 1) c.args.s.now.sites c.args.s.now.vars c.args.y c.args.f.now (omega arith)
    (rw (c.as_slice-vars.ensures) at (c.pair_turns.ensures.no c.args.s.now.sites (rw (c.as_slice-vars.ensures) c.args.s.now.kept) (omega arith) q))

pub neighbours-preserved : goal.neighbours-preserved
neighbours-preserved c =
    let q : IsTrue c.pair_turns.result = search rules in
    turns_more c.neighbours.j (c.neighbours.j - 1) c.args.s.now.vars c.args.y c.args.f.now (omega arith)
    (rw (c.as_slice-vars.ensures) at (c.pair_turns.ensures.yes q)) c.neighbours.invariant

pub returns-clause-yes : goal.returns-clause-yes
returns-clause-yes c = λ yes.
    turns_all c.neighbours.j c.args.s.now.sites c.args.s.now.vars c.args.y c.args.f.now (omega (arith, c.neighbours-test.false))
    c.neighbours.invariant
