-- Defines the signature of a command: its first word, how many names and files follow, and what it asks of its named predicates together, after
-- they are found and before the further files are read. Names no command.
use Rattle.std.specs.Prelude.{◌≡◌, ℕ, List, Option, None, true}
use Rattle.ln_tree.specs.Table.{PredOf}
use Rattle.ln_code.specs.Part.{Part}
use Rattle.ln_top.specs.declared.frame.asked.Asked.{Asked}
use Rattle.ln_top.specs.declared.frame.asked.Asked.TheVariants.{FewStages, Nothing, SameArgs, ThreeSites}
use Rattle.ln_top.specs.declared.frame.stop.Why.{Why}
use Rattle.ln_top.specs.declared.frame.stop.Why.TheVariants.{Shape}
use Rattle.ln_top.specs.declared.frame.stop.Stop.{Stop}
use Rattle.ln_top.specs.declared.frame.stop.Stop.TheVariants.{Memory, Read, Tell}
use Rattle.ln_top.specs.Judges.Three.{is_one_of_three}
use Rattle.ln_top.specs.Signs.Graded.{FirstHasFew, KeepsGraded, many_stages}
use Rattle.ln_top.specs.Target.Alike.{are_alike}

-- after the source file come the names of predicates, this many at least and at most, and then this many further files
pub record Form : Type 0 where
  pub least : ℕ
  pub most : ℕ
  pub files : ℕ

-- the named predicates are as is asked
abbrev pub AreAsked : Asked → List PredOf → Type 0
AreAsked Nothing preds = Unit {0}
AreAsked SameArgs preds = are_alike preds ≡ true
AreAsked ThreeSites preds = is_one_of_three preds ≡ true
AreAsked FewStages preds = FirstHasFew preds

-- how a command stops where they aren't; a place in the source is found by the source's bytes
abbrev pub objects : Asked → List ℕ → List PredOf → Why
objects FewStages bytes preds = many_stages bytes preds
objects asked bytes preds = Shape

-- what is kept of the test: the program by total degree, where few stages are asked
abbrev pub KeepsFor : Asked → List PredOf → List ℕ → Option Part → Type 0
KeepsFor FewStages table numbers kept = KeepsGraded table numbers kept
KeepsFor asked table numbers kept = kept ≡ None

-- why it stops at this step: its predicates don't suit it, and this is its objection; where memory runs out, nothing more is known
abbrev pub Refuses : Asked → List ℕ → List PredOf → Stop → Type 0
Refuses a bytes preds (Tell why) = (why ≡ objects a bytes preds) × (AreAsked a preds → ⊥)
Refuses a bytes preds Read = ⊥
Refuses a bytes preds (Memory _) = Unit {0}

-- what the words of a command and the steps before its work go by
pub record Signature : Type 0 where
  pub word : List ℕ
  pub form : Form
  pub suits : Asked
