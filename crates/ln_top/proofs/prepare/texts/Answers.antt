use Rattle.std.proofs.Common.{◌∙◌, ap, string_bytes, rules, Err}
use Rattle.ln_base.specs.Limits.{most_file}
use Rattle.ln_top.specs.Steps.{Reads}
use Rattle.ln_top.proofs.FrameLemmas.LinesLaws.{ok_err}
use Rattle.ln_top.proofs.Steps.Chain.{behind_at, behind_more, behind_all}
use Rattle.ln_top.proofs.Steps.Prepared.{halts_behind, halts_wider, left_more, left_none, map_behind, refused_halts, rose_same}
use Rattle.ln_top.proofs.Steps.TopLaws.{err_same}
use Rattle.ln_top.proofs.prepare.texts.Goals as goal

pub returns-in-Err-clause-err : goal.returns-in-Err-clause-err
returns-in-Err-clause-err g c =
    let l = left_more string_bytes c.args.names.now c.names.name-index c.name-item.result c.names-test.true c.name-item.is in
    let told = c.names.invariant.0 in
    let stops = rw (c.as_str.ensures.value, told) at c.in-Err.ensures.err in
    halts_behind (Reads (g.F.Files.told c.args.files.now) most_file) _ _ _ _ _ _
    (behind_at (Reads (g.F.Files.told c.args.files.now) most_file) _ _ _ _ _ c.names.invariant.2 l)
    (halts_wider _ _ _ _ stops (rose_same _ _ _ c.names.invariant.1))

pub returns-in-Err-clause-quiet : goal.returns-in-Err-clause-quiet
returns-in-Err-clause-quiet g c n = c.in-Err.ensures.quiet (λ e. n (ap Err (err_same e))) ∙ c.names.invariant.1

pub returns-in_err-push-in-Ok-clause-err : goal.returns-in_err-push-in-Ok-clause-err
returns-in_err-push-in-Ok-clause-err g c = refused_halts _ _ c.from_residual.result c.from_residual.ensures.1

pub names-preserved : goal.names-preserved
names-preserved g c =
    let l = left_more string_bytes c.args.names.now c.names.name-index c.name-item.result c.names-test.true c.name-item.is in
    let told = c.names.invariant.0 in
    let read = rw (c.as_str.ensures.value, told) at c.in-Ok.ensures.ok in (
      c.file.ensures.told ∙ told,
      c.in-Ok.ensures.quiet (λ e. ok_err e) ∙ c.names.invariant.1,
      rw (map_behind (λ t. t.items) c.names.texts.items c.push.new.self.items c.in-Ok.text c.in_ok-push-in-Ok.ensures.items)
          (behind_more (Reads (g.F.Files.told c.args.files.now) most_file) _ _ _ _ _
          (behind_at (Reads (g.F.Files.told c.args.files.now) most_file) _ _ _ _ _ c.names.invariant.2 l) read),
      search rules,
    )

pub returns-clause-ok : goal.returns-clause-ok
returns-clause-ok g c =
    behind_all (Reads (g.F.Files.told c.args.files.now) most_file) _ _ _ c.names.invariant.2
    (left_none string_bytes c.args.names.now c.names.name-index (search rules))
