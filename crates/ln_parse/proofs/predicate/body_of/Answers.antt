use Rattle.ln_syntax.specs.Raw.{items}
use Rattle.ln_parse.proofs.Building.Loops.{is_narrow}
use Rattle.ln_parse.proofs.Expressions.Stack.{value_one, value_said}
use Rattle.ln_parse.proofs.predicate.body_of.Goals as goal

pub expression-requires : goal.expression-requires
expression-requires c =
    let s = c.args.s.now in
    rw c.as_slice.ensures (value_one c.requires.sign
    (is_narrow s.bytes.now (items s.items.now) s.args.now s.lets.now c.requires.few c.requires.args c.requires.lets) c.requires.nodes.root)

pub returns-clause-root : goal.returns-clause-root
returns-clause-root c =
    let s = c.args.s.now in
    value_said c.requires.sign (is_narrow s.bytes.now (items s.items.now) s.args.now s.lets.now c.requires.few c.requires.args c.requires.lets)
    c.requires.nodes.root (rw c.as_slice.ensures at c.in_ok-root.ensures)
