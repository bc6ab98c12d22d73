use Rattle.std.proofs.Common.{List, inl, subst}
use Rattle.ln_syntax.specs.declared.raw.RawItem.{RawItem}
use Rattle.ln_syntax.specs.Raw.{items}
use Rattle.ln_names.specs.First.{FirstFault}
use Rattle.ln_parse.specs.Fault.{nesting, syntax, names}
use Rattle.ln_parse.proofs.source.checked.Goals as goal

pub returns-in-Some-clause-err : goal.returns-in-Some-clause-err
returns-in-Some-clause-err c = rw c.span_of.ensures (inl (nesting c.requires.lexed c.requires.few c.in-Some.ensures.some))

pub returns-in-Some-syntax_fault-clause-err : goal.returns-in-Some-syntax_fault-clause-err
returns-in-Some-syntax_fault-clause-err c =
    rw c.fault_place.ensures (inl (syntax c.requires.lexed c.requires.few c.in_default.ensures.none c.in-Some-syntax_fault.ensures.some))

pub returns-in-Err-Found-clause-err : goal.returns-in-Err-Found-clause-err
returns-in-Err-Found-clause-err c =
    let f = subst (λ (w : List RawItem). FirstFault c.args.bytes.now c.args.ts.now (items w) c.in-Err-Found.found)
    c.deref.ensures.value (rw c.in-Err-Found.field-0-is at c.in-Err-Found.ensures.err) in
    rw c.stop_of.ensures (inl (names c.requires.lexed c.requires.few c.in_default.ensures.none c.in-Ok.ensures.ok f))
