use Rattle.std.proofs.Common.{rules, FitsSigned}
use mir.Syntax.{w128}
use Rattle.std.proofs.lemmas.Int.{to_z-of_z}
use Rattle.ln_bound.specs.declared.fitted.Two.TheVariants.{Plus, Minus, Times}
use Rattle.ln_code.specs.Memory.{at}
use Rattle.ln_code.proofs.Engines.Steps.{input_leads, leads_two, set_leads}
use Rattle.ln_code.proofs.processor.apply.Goals as goal

pub binary-requires : goal.binary-requires
binary-requires c = leads_two c.args.values.now c.args.stack.now c.args.locals.now c.args.top c.args.op c.args.k Plus c.in-Add.w c.in-Add.is
    c.requires.room c.requires.answers

pub binary-requires-in-Sub : goal.binary-requires-in-Sub
binary-requires-in-Sub c = leads_two c.args.values.now c.args.stack.now c.args.locals.now c.args.top c.args.op c.args.k Minus c.in-Sub.w
    c.in-Sub.is c.requires.room c.requires.answers

pub binary-requires-in-Mul : goal.binary-requires-in-Mul
binary-requires-in-Mul c = leads_two c.args.values.now c.args.stack.now c.args.locals.now c.args.top c.args.op c.args.k Times c.in-Mul.w
    c.in-Mul.is c.requires.room c.requires.answers

pub returns-in-Input-clause-state : goal.returns-in-Input-clause-state
returns-in-Input-clause-state c =
    let f : FitsSigned w128 c.value_of.result = search rules in
    input_leads c.args.values.now c.args.stack.now c.args.locals.now c.args.top c.args.op c.args.k c.in-Input.v c.value_of.result _
    c.in-Input.is c.requires.answers c.value_of.ensures (rw (to_z-of_z w128 c.value_of.result f) at c.push-in-Input.ensures.stack)

pub returns-in-Set-clause-state : goal.returns-in-Set-clause-state
returns-in-Set-clause-state c =
    rw c.store.ensures.top (set_leads c.args.values.now c.args.stack.now c.args.locals.now c.args.top c.args.op c.args.k c.in-Set.j
    (at c.store.new.locals) c.in-Set.is c.requires.answers c.store.ensures.locals)
