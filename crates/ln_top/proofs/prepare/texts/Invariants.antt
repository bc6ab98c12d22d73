use Rattle.std.proofs.Common.{◌≡◌, map, drop, length, string_bytes}
use Rattle.ln_base.specs.Limits.{most_file}
use Rattle.ln_top.specs.Steps.{Reads}
use Rattle.ln_top.proofs.Steps.Chain.{Behind}
use Rattle.ln_top.proofs.prepare.texts.Given as goal

abbrev pub invariant-names : goal.invariant-names
invariant-names g l =
    (g.F.Files.told l.files ≡ g.F.Files.told l.initial.files) × (g.F.Files.faults l.files ≡ g.F.Files.faults l.initial.files)
    × Behind (Reads (g.F.Files.told l.initial.files) most_file) (map string_bytes l.names)
    (map string_bytes (drop l.name-index l.names)) (map (λ t. t.items) l.texts.items) × (length l.texts.items ≡ l.name-index)
