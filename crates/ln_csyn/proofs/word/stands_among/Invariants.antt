-- The loop of `stands_among` in src/word.rt.
use Rattle.std.proofs.Common.{◌≡◌, map, drop}
use Rattle.ln_csyn.specs.Words.{among}
use Rattle.ln_csyn.proofs.word.stands_among.Given as goal

abbrev pub invariant-words : goal.invariant-words
invariant-words l = among (map (λ w. w.now) (drop l.word-index l.words)) l.text ≡ among (map (λ w. w.now) l.words) l.text
