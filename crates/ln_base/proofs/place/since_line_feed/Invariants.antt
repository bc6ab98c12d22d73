use Rattle.std.proofs.Common.{◌≡◌, ◌≤◌, drop}
use Rattle.ln_base.specs.Place.{behind_line_feed}
use Rattle.ln_base.proofs.place.since_line_feed.Given as goal

abbrev pub invariant-each : goal.invariant-each
invariant-each l = (behind_line_feed l.n (drop l.b-index l.bytes) ≡ behind_line_feed 0 l.bytes) × (l.n ≤ l.b-index)
