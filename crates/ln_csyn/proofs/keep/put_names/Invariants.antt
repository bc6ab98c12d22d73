-- Invariants and measures of `put_names` in src/keep.rt.
use Rattle.std.proofs.Common.{◌≡◌, ◌++◌, map, drop}
use Rattle.ln_csyn.specs.View.{fun_tree}
use Rattle.ln_csyn.specs.Sets.{names_in}
use Rattle.ln_csyn.specs.Keeps.{fresh_on, names_of}
use Rattle.ln_csyn.proofs.keep.put_names.Given as goal

abbrev pub invariant-funs : goal.invariant-funs
invariant-funs l = record {
  fresh : fresh_on (names_in l.names) (names_of (map fun_tree (drop l.f-index l.funs))) ≡ fresh_on (names_in l.fn.names) (names_of (map fun_tree l.funs));
  all : names_in l.names ++ names_of (map fun_tree (drop l.f-index l.funs)) ≡ names_in l.fn.names ++ names_of (map fun_tree l.funs);
}
