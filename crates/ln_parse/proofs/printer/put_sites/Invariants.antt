use Rattle.std.proofs.Common.{drop, map}
use Rattle.ln_base.specs.Lines.{Leaves}
use Rattle.ln_tree.specs.Table.{site_of}
use Rattle.ln_parse.specs.Canonical.{site, each, text_of}
use Rattle.ln_parse.proofs.printer.put_sites.Given as goal

abbrev pub invariant-sites : goal.invariant-sites
invariant-sites l = Leaves text_of l.initial.out.items l.out.items (each site (map site_of (drop l.s-index l.sites))) (each site (map site_of l.sites))
