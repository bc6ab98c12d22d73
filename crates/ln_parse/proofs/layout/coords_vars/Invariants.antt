use Rattle.std.proofs.Common.{◌≡◌, ◌++◌, map, drop}
use Rattle.ln_parse.specs.Says.{coord_of, site_vars}
use Rattle.ln_parse.proofs.layout.coords_vars.Given as goal

abbrev pub invariant-coords : goal.invariant-coords
invariant-coords l = l.vars ++ site_vars l.k l.s l.c (map coord_of (drop l.c l.coords)) ≡ l.fn.vars ++ site_vars l.k l.s 0 (map coord_of l.coords)
