-- Answers to the goals of `has_exps` in src/orders.rt.
use Rattle.std.proofs.Common.{◌≡◌, ℕ, ◌≤◌, false, [], arith}
use Rattle.std.specs.Prelude.{nat_lt}
use Rattle.ln_tree.specs.Exps.{same_pairs}
use Rattle.ln_verify.proofs.Judging.Wholes.{has-vector, no-block}
use Rattle.std.proofs.lemmas.Bool.Decides.{nat_tests}
use Rattle.ln_verify.proofs.orders.has_exps.Goals as goal

pub returns-in-Some : goal.returns-in-Some
returns-in-Some c n all above =
    let l = c.in-Some.ensures.lookup in
    let t : c.eq.result ≡ same_pairs c.in-Some.e.now c.args.a.now = rw (← c.pairs.ensures.value, ← c.pairs-in-Some.ensures.value) c.eq.ensures in
    has-vector n c.args.exps.now c.args.k c.in-Some.e.now c.args.a.now c.eq.result all above c.pairs.ensures.rising
    c.pairs-in-Some.ensures.rising l.0 (l.3.1 []) t

pub returns-in-None : goal.returns-in-None
returns-in-None c n all above =
    let l = c.in-None.ensures.lookup in
    no-block n c.args.exps.now c.args.k c.args.a.now (past _ _ l.0)
  where
    past : (k m : ℕ) → false ≡ nat_lt k m → m ≤ k
    past k m h = grind (arith, nat_tests)
