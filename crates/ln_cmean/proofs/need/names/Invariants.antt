use Rattle.std.proofs.Common.{◌≡◌, ◌++◌, map, drop, true}
use Rattle.ln_csyn.specs.View.{fun_tree}
use Rattle.ln_csyn.specs.Sets.{names_in}
use Rattle.ln_csyn.specs.Keeps.{fresh_on, names_of}
use Rattle.ln_cmean.proofs.need.names.Given as goal

abbrev pub invariant-funs : goal.invariant-funs
invariant-funs l = record {
  fresh : fresh_on (names_in l.set) (names_of (map fun_tree (drop l.f-index l.funs))) ≡ true;
  all : names_in l.set ++ names_of (map fun_tree (drop l.f-index l.funs)) ≡ names_of (map fun_tree l.funs);
}
