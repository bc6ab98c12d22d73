-- Invariants and measures of the functions of the cycle `walk` in src/walk.rt.
use Rattle.std.proofs.Common.{◌+◌, ◌*◌, ◌++◌, ◌∷◌, [], drop}
use Rattle.ln_csyn.specs.Spelling.{Goes, spell_body}
use Rattle.ln_code.specs.Lists.{segment_of}
use Rattle.ln_cemit.specs.Names.{answer_name, block_name}
use Rattle.ln_cemit.specs.Puts.{picks_on}
use Rattle.ln_cemit.specs.Walked.{picks, walked, without}
use Rattle.ln_cemit.specs.Whole.{part_name}
use Rattle.ln_cemit.proofs.walk.+walk.Given as goal

abbrev pub decreases-put_walked : goal.decreases-put_walked
decreases-put_walked l = 3 * l.d

abbrev pub decreases-put_picks : goal.decreases-put_picks
decreases-put_picks l = 3 * l.d + 2

abbrev pub decreases-put_pick : goal.decreases-put_pick
decreases-put_pick l = 3 * l.d + 1

abbrev pub invariant-put_picks-left : goal.invariant-put_picks-left
invariant-put_picks-left l =
    Goes l.fn.out.items l.out.items
    (spell_body (picks_on (λ i. walked (block_name (part_name l.at.program.now)) answer_name (segment_of l.at.program.now) l.d
    (l.at.front.now ++ i ∷ []) (without i l.at.left.now)) (drop l.k l.at.left.now)))
    (spell_body (picks (λ i. walked (block_name (part_name l.at.program.now)) answer_name (segment_of l.at.program.now) l.d
    (l.at.front.now ++ i ∷ []) (without i l.at.left.now)) l.at.left.now))
