-- Answers to the goals of `put_filter_fun` in src/body.rt.
use Rattle.std.proofs.Common.{ap, ◌∙◌, map, ◌≡◌, rules}
use Rattle.std.proofs.lemmas.Result.{IfOk-weaker}
use Rattle.ln_cemit.specs.Ways.{filter_way}
use Rattle.ln_cemit.specs.Law.{error_of}
use Rattle.ln_cemit.proofs.Writing.Loops.{fun_put}
use Rattle.ln_cemit.proofs.body.put_filter_fun.Goals as goal

pub returns : goal.returns
returns c =
    let e : c.error-e.result ≡ error_of c.args.filter.now = search rules in
    IfOk-weaker c.put_fun.result _ _ (λ _ p. fun_put filter_way c.args.title.now c.error-e.result (error_of c.args.filter.now) c.ops.result.now
    c.args.filter.now.ops c.args.filter.now.triples c.in_ok-ways.ways.items c.as_slice.result.now c.ops.ensures c.as_slice.ensures.value
    (c.in_ok-ways.ensures ∙ ap (map filter_way) c.triples.ensures.value) e p) c.put_fun.ensures
