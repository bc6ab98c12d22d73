-- Answers to the goals of `range_op` in src/kinds.rt.
use Rattle.std.proofs.Common.{◌≡◌, ◌==◌, not, refl, true}
use Rattle.std.proofs.lemmas.Result.{IfOk-weaker}
use Rattle.ln_interval.specs.Range.{Range}
use Rattle.ln_verify.specs.Here.{subject_of}
use Rattle.ln_verify.specs.Versions.{version_of}
use Rattle.ln_verify.specs.declared.version.Version.{Version as InCode}
use Rattle.ln_verify.specs.declared.version.Version.TheVariants.{One, Two}
use Rattle.ln_verify.proofs.Engines.AtSpots.{range-led}
use Rattle.ln_verify.proofs.kinds.range_op.Goals as goal

second : (f : InCode) → not ((version_of f).number == 1) ≡ true → (version_of f).number ≡ 2
second One e = cc
second Two e = refl

pub returns : goal.returns
returns c =
    let p : Range = record { low = c.args.ends.low; high = c.args.ends.high } in
    IfOk-weaker c.operate.result _ _ (λ ok h.
    range-led (version_of c.args.version) (subject_of c.args.case.now) c.args.state.now c.operate.new.on c.args.op p ok
    (second c.args.version) (h p c.pair_of_ends-said.ensures)) c.operate.ensures
