-- Answers to the goals of `Lines::next` in src/lines.rt.
use Rattle.ln_cert.proofs.Reading.OneLine.{list_sound}
use Rattle.ln_cert.proofs.lines.Lines.next.Goals as goal

pub next-requires-clause-sound : goal.next-requires-clause-sound
next-requires-clause-sound c = list_sound c.self.inside.version
