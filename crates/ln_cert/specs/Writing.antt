-- Defines the lines that are appended to a text.
use Rattle.std.specs.Prelude.{◌≡◌, ℕ, List, ◌++◌}
pub use Rattle.ln_base.specs.Lines.{Puts, spaced}
use Rattle.ln_cert.specs.declared.part.Part.{Part}
use Rattle.ln_cert.specs.Text.{text_of}

-- this line was appended
abbrev pub PutsLine : List ℕ → List ℕ → Part → Type 0
PutsLine old new p = new ≡ old ++ text_of p
