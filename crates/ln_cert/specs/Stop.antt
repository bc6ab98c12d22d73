-- Why no listing is read.
use Rattle.std.specs.Prelude.{ℕ, List}
use Rattle.ln_base.specs.declared.lines.stop.TextStop.{TextStop}
use Rattle.ln_base.specs.declared.lines.stop.TextStop.TheVariants.{Form, NoMemory}
use Rattle.ln_cert.specs.declared.part.Part.{Part}
use Rattle.ln_cert.specs.Listing.{IsFormFault, ListText}

-- the bytes are no listing, and this is the first line at which they stop being one; or memory ran out
abbrev pub Stops : List ℕ → TextStop → Type 0
Stops bytes (Form at) = IsFormFault bytes at × ((v : ℕ) (ps : List Part) → ListText bytes v ps → ⊥)
Stops bytes (NoMemory _) = Unit {0}
