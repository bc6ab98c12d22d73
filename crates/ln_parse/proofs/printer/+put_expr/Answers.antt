use Rattle.std.proofs.Common.{[], refl, ℤ, ap, ◌∙◌, rules, FitsSigned}
use Rattle.std.proofs.lemmas.Int.{to_z-of_z}
use mir.Syntax.{w128}
use Rattle.std.specs.Prelude.{IfOk, unsigned_abs, unwrap_or, slice_get, map}
use Rattle.std.proofs.lemmas.Result.{IfOk-weaker}
use Rattle.ln_tree.specs.declared.expr.Expr.{Expr}
use Rattle.ln_tree.specs.Names.{name_bytes}
use Rattle.ln_parse.specs.Written.{formula, table_of, pred_of, Written, naming, written}
use Rattle.ln_parse.specs.declared.printer.Room.TheVariants.{OfUnary, OfAtom}
use Rattle.ln_parse.specs.Canonical.{text_of, inside}
use Rattle.ln_base.specs.Lines.{Appends}
use Rattle.ln_base.proofs.Texts.Putting.{puts_then}
use Rattle.ln_parse.proofs.Texts.Putting.{wraps, puts_name, puts_number, puts_equal, two_put}
use Rattle.ln_parse.proofs.printer.+put_expr.Goals as goal
use Rattle.ln_parse.proofs.printer.+put_expr.Goals.{in-Num, in-Input, in-Name, in-Neg+in_ok-put_tokens-in-Neg}
use Rattle.ln_parse.proofs.printer.+put_expr.Goals.{in-Add+in_ok-put_expr-in-Add+in_ok-put_between-in-Add, in-Pow+in_ok-put_expr-in-Pow+in_ok-put_tokens-in-Pow}

pub returns : goal.returns
returns t c =
    let n = naming (table_of c.args.t.now.sites c.args.t.now.params c.args.t.now.preds) (pred_of c.args.p.now) in
    let e_of : Expr → Written = λ x. written n (formula x) in
    let m : IfOk c.match-e.inside (λ _. Appends text_of c.open.new.out.items c.match-e.out.items (inside (written n (formula c.args.e.now)))) =
    elim c.match-e.branch [
      | in-Num w ↦ rw (w.inside-is, w.out-is, w.in-Num.is) (IfOk-weaker w.put_digits-inside.result _ _
          (λ x k. let f : FitsSigned w128 w.in-Num.c = search rules in puts_number (unsigned_abs w.in-Num.c)
          (w.unsigned_abs.ensures.value ∙ ap (λ (z : ℤ). unsigned_abs z) (to_z-of_z w128 w.in-Num.c f)) k) w.put_digits-inside.ensures)
      | in-Input w ↦ rw (w.inside-is, w.out-is, w.in-Input.is) w.put_input-inside.ensures
      | in-Name w ↦ rw (w.inside-is, w.out-is, w.in-Name.is) (IfOk-weaker w.put-inside.result _ _
          (λ x k. puts_name (unwrap_or (slice_get (map name_bytes c.args.p.now.let_names) w.in-Name.j) []) w.let_name.ensures k) w.put-inside.ensures)
      | in-Neg+in_ok-put_tokens-in-Neg w ↦ rw (w.inside-is, w.out-is, w.in-Neg.is) (IfOk-weaker w.put_expr-inside.result _ _
          (λ x k. puts_then w.in_ok-put_tokens-in-Neg.ensures (puts_equal OfUnary (e_of w.in-Neg.x.value) _ (ap e_of w.deref.ensures) k))
          w.put_expr-inside.ensures)
      | in-Add+in_ok-put_expr-in-Add+in_ok-put_between-in-Add w ↦ rw (w.inside-is, w.out-is) (IfOk-weaker w.put_expr-inside-in-Add.result _ _
          (λ x k. two_put n c.args.e.now.at c.args.e.now.node _ _ _ (formula w.in-Add.x.value) (formula w.in-Add.y.value) w.in-Add.is refl refl refl
          (rw w.left_room.ensures at (puts_equal w.left_room.result (e_of w.in-Add.x.value) _ (ap e_of w.deref-in-Add.ensures)
          w.in_ok-put_expr-in-Add.ensures))
          w.in_ok-put_between-in-Add.ensures
          (rw w.right_room.ensures at (puts_equal {a = w.put_between.new.out.items} {b = w.put_expr-inside-in-Add.new.out.items} w.right_room.result
          (e_of w.in-Add.y.value) _ (ap e_of w.deref-in-Add-2.ensures) k)))
          w.put_expr-inside-in-Add.ensures)
      | in-Pow+in_ok-put_expr-in-Pow+in_ok-put_tokens-in-Pow w ↦ rw (w.inside-is, w.out-is, w.in-Pow.is) (IfOk-weaker w.put_digits-inside-in-Pow.result _ _
          (λ x k. puts_then (puts_equal OfAtom (e_of w.in-Pow.x.value) _ (ap e_of w.deref-in-Pow.ensures) w.in_ok-put_expr-in-Pow.ensures)
          (puts_then w.in_ok-put_tokens-in-Pow.ensures (puts_number w.in-Pow.n w.from.ensures k))) w.put_digits-inside-in-Pow.ensures)
    ] in
    let put = rw c.in_ok-inside.was at m in
    IfOk-weaker c.close.result _ _
    (λ x h. wraps c.args.room (written n (formula c.args.e.now)) c.stands-plain.result (c.stands-plain.ensures n) c.in_ok-open.ensures put h) c.close.ensures
