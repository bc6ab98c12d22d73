-- Answers to the goals of `put_may_touch_index` in src/body.rt.
use Rattle.std.proofs.lemmas.Result.{IfOk-weaker}
use Rattle.std.proofs.Common.{rules, ◌≡◌, true, false}
use Rattle.ln_cemit.proofs.Writing.Loops.{index_none, index_put}
use Rattle.ln_cemit.proofs.body.put_may_touch_index.Goals as goal

pub returns-then-reads : goal.returns-then-reads
returns-then-reads c = let e : c.args.reads ≡ true = search rules in index_none c.args.reads e

pub returns : goal.returns
returns c =
    let e : c.args.reads ≡ false = search rules in
    IfOk-weaker c.put_touch_index.result _ _ (λ _ p. index_put c.args.reads e p) c.put_touch_index.ensures
