use Rattle.std.proofs.Common.{drop, map}
use Rattle.ln_csyn.proofs.Writing.Lays.{LaysRest}
use Rattle.ln_cemit.specs.File.{one_funs}
use Rattle.ln_cemit.specs.Names.{block_name}
use Rattle.ln_cemit.specs.Whole.{block_body}
use Rattle.ln_cemit.proofs.file.put_blocks.Given as goal

abbrev pub invariant-all : goal.invariant-all
invariant-all l = LaysRest l.fn.out.items l.out.items (one_funs (block_name l.name) l.number (map block_body (drop l.number l.blocks)))
    (one_funs (block_name l.name) 0 (map block_body l.blocks))
