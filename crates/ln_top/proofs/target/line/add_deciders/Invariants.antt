use Rattle.std.proofs.Common.{◌≡◌, ◌≤◌, ◌+◌, ◌*◌, ◌++◌, drop}
use Rattle.std.specs.Prelude.{vec_len, vec_capacity}
use Rattle.ln_top.specs.Target.Line.{deciders_after}
use Rattle.ln_top.proofs.target.line.add_deciders.Given as goal

abbrev pub invariant-each : goal.invariant-each
invariant-each l =
    (l.text.items ++ deciders_after l.before (drop l.v-index l.verdicts) ≡ l.initial.text.items ++ deciders_after 32 l.verdicts)
    × (vec_len l.text ≤ vec_len l.initial.text + 41 * l.v-index) × (vec_capacity l.initial.text ≤ vec_capacity l.text)
