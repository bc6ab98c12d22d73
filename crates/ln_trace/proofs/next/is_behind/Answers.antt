use Rattle.std.proofs.Common.{length}
use Rattle.ln_order.specs.Places.{order_places}
use Rattle.ln_order.specs.Sites.{sites_of}
use Rattle.ln_trace.proofs.Premises.{behind-some}
use Rattle.ln_trace.proofs.next.is_behind.Goals as goal

pub returns-in-Some : goal.returns-in-Some
returns-in-Some c = behind-some (length c.args.s.now.vars) (sites_of c.args.s.now.vars (order_places c.args.o.now)) c.args.last.now.exps
    c.args.a.now c.in-Some.b c.args.last.now.zero c.earlier.result c.in-Some.is c.earlier.ensures
