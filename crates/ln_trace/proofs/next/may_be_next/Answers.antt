use Rattle.std.proofs.Common.{◌≡◌, ◌∙◌, true, false, ap, length, map, rules, sym, true≢false}
use Rattle.ln_tree.specs.Exps.{vector}
use Rattle.ln_order.specs.Places.{order_places}
use Rattle.ln_order.specs.Sites.{sites_of}
use Rattle.ln_trace.specs.Left.{left_at}
use Rattle.ln_trace.proofs.Premises.{may, none-earlier}
use Rattle.ln_trace.proofs.next.may_be_next.Goals as goal

pub returns-else-earlier : goal.returns-else-earlier
returns-else-earlier c =
    let n = length c.args.s.now.vars in
    let sites = sites_of c.args.s.now.vars (order_places c.args.o.now) in
    let z : c.args.last.now.zero ≡ true = search rules in
    let t : c.is_behind.result ≡ true = search rules in
    let f : c.earlier.result ≡ false = search rules in
    λ e stood differ last i.
    may n sites c.args.last.now.exps c.args.last.now.zero (vector (length c.args.s.now.vars) c.args.a.now) e stood differ last
    (map (vector (length c.args.s.now.vars)) (left_at c.args.st.now (order_places c.args.o.now) c.args.spot)) z c.is_behind.result t
    (c.is_behind.ensures stood last)
    (none-earlier sites _ (vector (length c.args.s.now.vars) c.args.a.now) (vector (length c.args.s.now.vars) c.in-Some.b.now) _
    (ap (map (vector (length c.args.s.now.vars))) c.in-Some.ensures.0) (λ y. true≢false (sym (c.earlier.ensures.1 y) ∙ f))) i
