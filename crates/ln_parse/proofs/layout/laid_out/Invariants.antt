use Rattle.std.proofs.Common.{◌≡◌, ◌+◌, ◌++◌, map, drop}
use Rattle.std.specs.Prelude.{count_by}
use Rattle.ln_parse.specs.Says.{arg_of, site_of, param_of, vars_behind, is_site_said}
use Rattle.ln_parse.proofs.layout.laid_out.Given as goal

abbrev pub invariant-args-2 : goal.invariant-args-2
invariant-args-2 l = record {
  vars : l.vars ++ vars_behind (map site_of l.sites) (map param_of l.params) l.k l.seen (map arg_of (drop l.k l.args))
      ≡ vars_behind (map site_of l.sites) (map param_of l.params) 0 0 (map arg_of l.args);
  sites : l.seen + count_by is_site_said (map arg_of (drop l.k l.args)) ≡ count_by is_site_said (map arg_of l.args);
}
