use Rattle.std.proofs.Common.{drop, map}
use Rattle.ln_base.specs.Lines.{Leaves}
use Rattle.ln_tree.specs.Table.{coord_of}
use Rattle.ln_parse.specs.Canonical.{coord, each, text_of}
use Rattle.ln_parse.proofs.printer.put_coords.Given as goal

abbrev pub invariant-coords : goal.invariant-coords
invariant-coords l = Leaves text_of l.initial.out.items l.out.items (each coord (map coord_of (drop l.c-index l.coords))) (each coord (map coord_of l.coords))
