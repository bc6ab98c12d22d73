-- The program that pushes 1, by its filter and by its one block, over a shape without sites.
use Rattle.std.specs.Prelude.{pos, [], ◌∷◌, Some}
use Rattle.ln_interval.specs.Range.{point}
use Rattle.ln_tree.specs.declared.shape.Shape.{Shape}
use Rattle.ln_code.specs.declared.op.Op.TheVariants.{Push}
use Rattle.ln_code.specs.Part.{Code, FilterCode, Part}

-- its block
abbrev pub one_code : Code
one_code = record { exps = []; ops = Push (pos 1) ∷ []; pairs = point (pos 1) ∷ []; depth = 1 }

-- its filter
abbrev pub one_filter : FilterCode
one_filter = record { ops = Push (pos 1) ∷ []; triples = record { k = 0; h = 1; e = 0 } ∷ []; depth = 1 }

-- the program
abbrev pub one_part : Shape → Part
one_part s = record { shape = s; filter = Some one_filter; blocks = one_code ∷ []; segments = (0 ∷ []) ∷ [] }
