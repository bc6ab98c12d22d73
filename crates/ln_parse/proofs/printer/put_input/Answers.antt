use Rattle.std.proofs.Common.{◌≡◌, ℕ, refl, ap, sym, ◌∙◌, None, map}
use Rattle.std.specs.Prelude.{slice_get, option_map}
use Rattle.std.proofs.lemmas.Option.{slice_get-map}
use Rattle.std.proofs.lemmas.Result.{IfOk-weaker}
use Rattle.ln_parse.specs.Written.{arg_of, site_of, param_of, coord_name, range_name}
use Rattle.ln_base.proofs.Texts.Putting.{puts_then}
use Rattle.ln_parse.proofs.Texts.Putting.{puts_name, found}
use Rattle.ln_parse.proofs.printer.put_input.Goals as goal

pub returns-in_ok-put_tokens-in-Some-Site : goal.returns-in_ok-put_tokens-in-Some-Site
returns-in_ok-put_tokens-in-Some-Site c =
    let e = found arg_of c.args.p.now.args c.args.v.arg c.from.result c.from.ensures c.in-Some-Site.ensures.value in
    rw (e, c.in-Some-Site.field-0-is)
    (IfOk-weaker c.put.result _ _ (λ x h.
    puts_then c.in_ok-put_name-in-Some-Site.ensures (puts_then c.in_ok-put_tokens-in-Some-Site.ensures
    (puts_name (coord_name (slice_get (map site_of c.args.t.now.sites) c.in-Some-Site.s) c.args.v.coord) c.coord_name.ensures h))) c.put.ensures)

pub returns-in-Some-Param : goal.returns-in-Some-Param
returns-in-Some-Param c =
    let e = found arg_of c.args.p.now.args c.args.v.arg c.from.result c.from.ensures c.in-Some-Param.ensures.value in
    rw (e, c.in-Some-Param.field-0-is)
    (IfOk-weaker c.put-in-Some-Param.result _ _
    (λ x h. puts_name (range_name (slice_get (map param_of c.args.t.now.params) c.in-Some-Param.k)) c.param_name.ensures h) c.put-in-Some-Param.ensures)

pub returns-in-None : goal.returns-in-None
returns-in-None c =
    let e : slice_get (map arg_of c.args.p.now.args) c.args.v.arg ≡ None = slice_get-map arg_of c.args.p.now.args c.args.v.arg
    ∙ ap (λ o. option_map arg_of o) (sym (c.in-None.ensures.value ∙ ap (λ (k : ℕ). slice_get c.args.p.now.args k) c.from.ensures)) in
    rw e (record { is = λ rest. refl })
