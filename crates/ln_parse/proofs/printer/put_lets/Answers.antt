use Rattle.std.proofs.Common.{inl, inr}
use Rattle.ln_parse.specs.Written.{table_of, pred_of, naming}
use Rattle.ln_parse.proofs.Texts.Putting.{lets_end}
use Rattle.ln_parse.proofs.printer.put_lets.Goals as goal

pub returns : goal.returns
returns c = lets_end (naming (table_of c.args.t.now.sites c.args.t.now.params c.args.t.now.preds) (pred_of c.args.p.now))
    c.lets.name-iterator.a.rest.now c.lets.name-iterator.b.rest.now (elim c.in-None.ensures.steps [ inl p ↦ inl p.1.0 | inr p ↦ inr p.1.0 ])
    c.lets.invariant
