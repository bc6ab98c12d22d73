-- Answers to the goals of `put_block` in src/put.rt.
use Rattle.std.proofs.Common.{codes, decimal, map, ◌∷◌, []}
use Rattle.ln_cert.specs.Text.{exponent_word}
use Rattle.ln_base.proofs.Texts.Putting.{line_two, number_put}
use Rattle.ln_cert.proofs.put.put_block.Goals as goal

pub returns : goal.returns
returns c = line_two c.args.out.now.items c.put.new.out.items c.put_number.new.out.items c.put_exponents.new.out.items c.push.new.self.items
    c.as_slice.result.now (codes "block") (decimal c.args.n ∷ []) (map exponent_word c.args.exps.now) c.in_ok-put.ensures c.as_slice.ensures
    (number_put c.put.new.out.items c.put_number.new.out.items c.from.result c.args.n c.in_ok-put_number.ensures c.from.ensures)
    c.in_ok-put_exponents.ensures c.in_ok-push.ensures.items
