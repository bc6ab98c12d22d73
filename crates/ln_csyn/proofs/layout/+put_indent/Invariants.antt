-- The measure of `put_indent` in src/layout.rt.
use Rattle.ln_csyn.proofs.layout.+put_indent.Given as goal

abbrev pub decreases-put_indent : goal.decreases-put_indent
decreases-put_indent l = l.depth
