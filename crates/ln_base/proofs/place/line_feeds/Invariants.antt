use Rattle.std.proofs.Common.{◌≡◌, ◌==◌, take}
use Rattle.std.specs.List.{count_by}
use Rattle.ln_base.proofs.place.line_feeds.Given as goal

abbrev pub invariant-each : goal.invariant-each
invariant-each l = l.n ≡ count_by (λ b. b == 10) (take l.b-index l.bytes)
