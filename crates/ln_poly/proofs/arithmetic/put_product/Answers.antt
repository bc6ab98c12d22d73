use Rattle.std.proofs.Common.{arith, rules}
use Rattle.std.proofs.lemmas.Result.{on_ok_weaker}
use Rattle.ln_poly.proofs.TermLists.Products.{product-put}
use Rattle.ln_poly.proofs.arithmetic.put_product.Goals as goal

pub returns : goal.returns
returns c = on_ok_weaker c.put_times.result (λ t. product-put _ _ _ _ _ _ c.args.s.now c.args.t.now c.index_mut.result.now
    c.in_ok-push_product.ensures (search rules) (omega (arith, c.len-k.ensures, c.args.out.now.ok.0)) c.index_mut.ensures.value t.0 t.1) c.put_times.ensures
