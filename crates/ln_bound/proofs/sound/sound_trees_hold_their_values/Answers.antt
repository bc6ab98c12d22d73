-- What the search leaves open in `sound_trees_hold_their_values`.
use Rattle.ln_bound.proofs.Soundness.SoundLaws.{sound_lets, sound_tree, is_sound_says, are_sound_say}
use Rattle.ln_bound.proofs.Soundness.SoundTests.{test_sound, test_sounds}
use Rattle.ln_bound.proofs.sound.sound_trees_hold_their_values.Goals as goal

pub returns-clause-lets : goal.returns-clause-lets
returns-clause-lets c = sound_lets

pub returns-clause-tree : goal.returns-clause-tree
returns-clause-tree c = sound_tree

pub returns-clause-test : goal.returns-clause-test
returns-clause-test c = is_sound_says

pub returns-clause-test_of_lets : goal.returns-clause-test_of_lets
returns-clause-test_of_lets c = are_sound_say

pub returns-clause-tested : goal.returns-clause-tested
returns-clause-tested c = test_sound

pub returns-clause-tested_lets : goal.returns-clause-tested_lets
returns-clause-tested_lets c = test_sounds
