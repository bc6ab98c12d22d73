-- States the invariant of the loop of `same_stages`: whether all blocks have the exponents of their stages is decided by the remaining ones.
use Rattle.std.proofs.Common.{◌≡◌, ℕ, All, length}
use Rattle.ln_tree.specs.Exps.{IsAbove}
use Rattle.ln_verify.proofs.Judging.Wholes.{Decides}
use Rattle.ln_verify.proofs.orders.same_stages.Given as goal

abbrev pub invariant-stages : goal.invariant-stages
invariant-stages l = (length l.list ≡ length l.numbers)
    × ((n : ℕ) → All (λ e. IsAbove e n) l.exps → All (λ e. IsAbove e n) l.st.exps → Decides n l.exps l.st.exps l.list l.numbers l.j)
