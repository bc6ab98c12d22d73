use Rattle.ln_top.specs.Texts.Written.{IsCOf, with_filters}
use Rattle.ln_top.proofs.TextsLemmas.TextLaws.{carried}
use Rattle.ln_top.proofs.texts.emit.work.Goals as goal

pub returns : goal.returns
returns g c =
    λ given s. carried (IsCOf with_filters) c.args.ready.now given _ _ _ _ _ s c.in_ok-text.ensures (rw c.deref.ensures.value at c.put_text.ensures)
