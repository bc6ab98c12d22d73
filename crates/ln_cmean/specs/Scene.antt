-- Defines what a body can speak of, from what the code has.
use Rattle.std.specs.Prelude.{ℕ, List, option_map}
use Rattle.ln_cmean.specs.declared.inputs.Inputs.{Inputs}
use Rattle.ln_csyn.specs.Meaning.{Scene, Answer, Counts}

-- these inputs, and what a call of each name returns
abbrev pub scene_of : (Inputs → List ℕ → Counts → Answer) → Inputs → Scene
scene_of given i = record { values = i.values.now; index = option_map (λ x. x.now) i.index; call = given i }
