use Rattle.ln_parse.proofs.Expressions.Stack.{Left, formulas}
use Rattle.ln_parse.proofs.expression.expression.Given as goal

abbrev pub invariant-nodes : goal.invariant-nodes
invariant-nodes l = Left l.nodes l.node-index (formulas l.operands.items)
