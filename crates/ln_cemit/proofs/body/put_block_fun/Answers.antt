-- Answers to the goals of `put_block_fun` in src/body.rt.
use Rattle.std.proofs.lemmas.Result.{IfOk-weaker}
use Rattle.std.proofs.Common.{refl, ap, ◌∙◌, map}
use Rattle.ln_cemit.specs.Ways.{block_way}
use Rattle.ln_cemit.proofs.Writing.Loops.{fun_put}
use Rattle.ln_cemit.proofs.body.put_block_fun.Goals as goal

pub returns : goal.returns
returns c = IfOk-weaker c.put_fun.result _ _
    (λ _ p. fun_put block_way c.args.title.now 0 0 c.ops.result.now c.args.block.now.ops c.args.block.now.pairs c.in_ok-ways.ways.items
    c.as_slice.result.now c.ops.ensures c.as_slice.ensures.value (c.in_ok-ways.ensures ∙ ap (map block_way) c.pairs.ensures.value) refl p) c.put_fun.ensures
