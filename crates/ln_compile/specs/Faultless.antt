-- A source with a table is accepted or refused: where it is refused for nothing, it is accepted.
use Rattle.std.specs.Prelude.{ℕ, List}
use Rattle.ln_tree.specs.Table.{TableOf}
use Rattle.ln_parse.specs.Text.{TextOf}
use Rattle.ln_compile.specs.declared.refusal.Refusal.{Refusal}
use Rattle.ln_compile.specs.Accepted.{Accepted}
use Rattle.ln_compile.specs.Refused.{IsRefusedFor}

-- a source that has this table and is refused for nothing is accepted with it
abbrev pub FaultlessIsAccepted : Type 0
FaultlessIsAccepted = (bytes : List ℕ) (t : TableOf) → TextOf bytes t → ((r : Refusal) → IsRefusedFor bytes r → ⊥) → Accepted bytes t
