use Rattle.std.proofs.Common.{◌≡◌, true}
use Rattle.std.specs.List.{AllWithin}
use Rattle.std.specs.Ordering.{is_lt}
use Rattle.ln_tree.specs.Exps.{pairs_cmp}
use Rattle.ln_poly.proofs.sums.reached.Given as goal

abbrev pub invariant-loop-i : goal.invariant-loop-i
invariant-loop-i l = AllWithin (λ s. is_lt (pairs_cmp s.0 l.t.0) ≡ true) l.f l.fn.at l.i
