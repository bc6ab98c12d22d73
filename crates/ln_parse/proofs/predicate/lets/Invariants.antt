use Rattle.std.proofs.Common.{[], map, take}
use Rattle.ln_syntax.specs.Raw.{items}
use Rattle.ln_parse.specs.Says.{formula, LetsSay}
use Rattle.ln_parse.proofs.predicate.lets.Given as goal

abbrev pub invariant-lets : goal.invariant-lets
invariant-lets l =
    LetsSay l.s.bytes.now l.s.ts.now (items l.s.items.now) l.s.args.now [] (take l.nodes-index l.s.lets.now) (map formula l.values)
