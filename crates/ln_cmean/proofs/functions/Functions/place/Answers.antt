use Rattle.std.proofs.Common.{◌∙◌, sym, ap, arith}
use Rattle.std.specs.Prelude.{is_some}
use mathlib.Core.Bool.{beq}
use Rattle.std.proofs.lemmas.Option.{slice_get-get_or, slice_get_within, get_or_from_slice_get}
use Rattle.ln_csyn.specs.Sets.{names_in}
use Rattle.ln_csyn.proofs.Keeping.SetLemmas.{among_any}
use Rattle.ln_cmean.proofs.Places.{index_is, unknown, none_there, first_there}
use Rattle.ln_cmean.proofs.functions.Functions.place.Goals as goal
use Rattle.ln_cmean.proofs.functions.Functions.place.Goals.{else-at-self-via-then-at-self+else-self-at, else-at-self-via-else-at-self}

pub returns-in_err-at-clause-none : goal.returns-in_err-at-clause-none
returns-in_err-at-clause-none c =
    let s = c.args.self.now in
    rw c.from_residual.ensures (unknown c.args.indexed c.args.name.now s.funs.now (names_in s.names.now) s.named
    (sym (among_any s.names.now.keys c.args.name.now) ∙ sym c.get_index_of.ensures.found ∙ ap is_some c.in_err-at.was))

pub returns-then-self-at-clause-some : goal.returns-then-self-at-clause-some
returns-then-self-at-clause-some c =
    let s = c.args.self.now in
    first_there c.args.indexed c.args.name.now s.funs.now (names_in s.names.now) c.in_ok-at.at _ s.named s.differ
    (index_is c.args.name.now s.names.now.keys c.in_ok-at.at (sym c.get_index_of.ensures.index ∙ c.in_ok-at.was))
    (slice_get-get_or s.funs.now c.in_ok-at.at c.index-self-at.result c.if-at-self.true) c.if-self-at.true

pub returns-else-at-self-clause-none : goal.returns-else-at-self-clause-none
returns-else-at-self-clause-none c =
    let s = c.args.self.now in
    let at = index_is c.args.name.now s.names.now.keys c.in_ok-at.at (sym c.get_index_of.ensures.index ∙ c.in_ok-at.was) in
    elim c.else-at-self.branch [
      | else-at-self-via-then-at-self+else-self-at w ↦
          none_there c.args.indexed c.args.name.now s.funs.now (names_in s.names.now) c.in_ok-at.at s.named s.differ at
          (λ f g. ap (λ e. beq e.indexed c.args.indexed) (sym (get_or_from_slice_get s.funs.now c.in_ok-at.at f w.index-self-at.result g)) ∙ w.if-self-at.false)
      | else-at-self-via-else-at-self w ↦ none_there c.args.indexed c.args.name.now s.funs.now (names_in s.names.now) c.in_ok-at.at s.named s.differ at
          (λ f g. absurd (omega (arith, slice_get_within s.funs.now c.in_ok-at.at f g, w.if-at-self.false)))
    ]
