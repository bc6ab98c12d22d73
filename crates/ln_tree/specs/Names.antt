-- Defines the bytes that a name of the program stands for.
use Rattle.std.specs.Prelude.{ℕ, List, take}
use Rattle.ln_tree.specs.declared.name.Name.{Name}

-- the bytes of a name
abbrev pub name_bytes : Name → List ℕ
name_bytes n = take n.len n.bytes
