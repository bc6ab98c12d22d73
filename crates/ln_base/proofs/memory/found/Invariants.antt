use Rattle.std.proofs.Common.{◌≡◌, drop, string_bytes}
use Rattle.ln_base.specs.Outside.{bytes_of, shelf_of}
use Rattle.ln_base.proofs.memory.found.Given as goal

abbrev pub invariant-loop-i : goal.invariant-loop-i
invariant-loop-i l = bytes_of l.name (shelf_of string_bytes (λ v. v.items) (drop l.i l.files)) ≡ bytes_of l.name (shelf_of string_bytes (λ v. v.items) l.files)
