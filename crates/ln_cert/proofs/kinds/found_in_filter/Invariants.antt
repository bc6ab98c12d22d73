-- The loop of `found_in_filter` in src/kinds.rt.
use Rattle.std.proofs.Common.{◌≡◌, drop}
use Rattle.ln_cert.specs.Text.{filter_word}
use Rattle.ln_cert.specs.Reading.{found}
use Rattle.ln_cert.proofs.kinds.found_in_filter.Given as goal

abbrev pub invariant-verbs : goal.invariant-verbs
invariant-verbs l = found filter_word l.w (drop l.verb-index l.verbs) ≡ found filter_word l.w l.verbs
