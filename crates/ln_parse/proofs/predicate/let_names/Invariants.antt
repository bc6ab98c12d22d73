use Rattle.std.proofs.Common.{◌≡◌, map, take}
use Rattle.ln_syntax.specs.Raw.{text}
use Rattle.ln_tree.specs.Names.{name_bytes}
use Rattle.ln_parse.proofs.predicate.let_names.Given as goal

abbrev pub invariant-lets : goal.invariant-lets
invariant-lets l = map name_bytes l.names ≡ map (λ x. text l.s.bytes.now x.name) (take l.l-index l.lets)
