use Rattle.std.proofs.Common.{map}
use Rattle.std.specs.Prelude.{slice_get}
use Rattle.std.proofs.lemmas.Result.{IfOk-weaker}
use Rattle.ln_base.proofs.Texts.Putting.{puts_then}
use Rattle.ln_parse.specs.Written.{site_of, site_name}
use Rattle.ln_parse.proofs.Texts.Putting.{puts_name}
use Rattle.ln_parse.proofs.printer.put_arg.Goals as goal

pub returns-in_ok-put_tokens-in-Site : goal.returns-in_ok-put_tokens-in-Site
returns-in_ok-put_tokens-in-Site c =
    rw c.in-Site.is (IfOk-weaker c.put.result _ _ (λ x h. puts_then c.in_ok-put_name-in-Site.ensures
    (puts_then c.in_ok-put_tokens-in-Site.ensures (puts_name (site_name (slice_get (map site_of c.args.t.now.sites) c.in-Site.s)) c.site_name.ensures h)))
    c.put.ensures)
