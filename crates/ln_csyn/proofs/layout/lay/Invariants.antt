-- The loop of `lay` in src/layout.rt: what is written, followed by the rest of the bytes laid out, is constant.
use Rattle.std.proofs.Common.{◌≡◌, ℕ, List, ◌++◌, drop}
use Rattle.ln_csyn.specs.Layout.{laid_at, start}
use Rattle.ln_csyn.proofs.layout.lay.Given as goal

abbrev pub invariant-bytes : goal.invariant-bytes
invariant-bytes l = (r : List ℕ) → l.out.items ++ laid_at l.spot (drop l.b-index l.text) r ≡ l.fn.out.items ++ laid_at start l.text r
