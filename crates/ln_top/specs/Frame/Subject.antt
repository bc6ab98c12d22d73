-- Defines what a trace of a predicate is about.
use Rattle.ln_tree.specs.Table.{PredOf}
use Rattle.ln_compile.specs.Accepted.{root_of}
use Rattle.ln_trace.specs.Trace.{Subject}

-- what a trace of a predicate is about: its sites, its variables, and its root with its lets in place of their names
abbrev pub subject_of : PredOf → Subject
subject_of p = record { sites = p.sites; vars = p.vars; tree = root_of p }
