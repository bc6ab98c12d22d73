-- `emit FILE`: C for the predicates of a source.
use Rattle.std.specs.Prelude.{codes}
use Rattle.ln_top.specs.Frame.Said.{Said}
use Rattle.ln_top.specs.Frame.Given.{Given}
use Rattle.ln_top.specs.Frame.Work.{Work}
use Rattle.ln_top.specs.Frame.Signature.{Signature}
use Rattle.ln_top.specs.Texts.Text.{Prints, source_signature, text_work}
use Rattle.ln_top.specs.Texts.Written.{IsCOf, with_filters}
pub use Rattle.ln_top.specs.Texts.Text.{done}

-- what may be said: C for the predicates of the source
abbrev pub EmitSaid : Given → Said → Type 0
EmitSaid g = Prints (IsCOf with_filters g.table.preds)

-- the signature of `emit`
abbrev pub emit_signature : Signature
emit_signature = source_signature (codes "emit")

-- the work of `emit`
abbrev pub emit_work : Work
emit_work = text_work (IsCOf with_filters) ⊥
