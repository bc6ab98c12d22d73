-- Answers to the goals of `exact` in src/unfiltered.rt.
use Rattle.std.proofs.Common.{map, sym}
use Rattle.std.specs.Prelude.{string_bytes}
use Rattle.ln_base.specs.Outside.{Rose}
use Rattle.ln_top.proofs.ExactLemmas.AnswerLaws.{ends, signs, turning, usage_carried}
use Rattle.ln_top.proofs.unfiltered.exact.Goals as goal

pub returns-in-Some-clause-done : goal.returns-in-Some-clause-done
returns-in-Some-clause-done g c = c.carry_plan.ensures.done _ (sym c.in-Some.ensures.is) (sym c.style_of.ensures)

pub returns-in-Some-clause-ends : goal.returns-in-Some-clause-ends
returns-in-Some-clause-ends g c =
    let words = map string_bytes c.args.words.now in
    ends words (g.F.Files.told c.args.files.now) _ _ _ _ _ (c.carry_plan.ensures.done words (sym c.in-Some.ensures.is) (sym c.style_of.ensures))

pub returns-in-Some-clause-signs : goal.returns-in-Some-clause-signs
returns-in-Some-clause-signs g c =
    let words = map string_bytes c.args.words.now in
    signs words (g.F.Files.told c.args.files.now) _ _ _ _ _ (c.carry_plan.ensures.done words (sym c.in-Some.ensures.is) (sym c.style_of.ensures))

pub returns-in-None-clause-done : goal.returns-in-None-clause-done
returns-in-None-clause-done g c = usage_carried _ (g.F.Files.told c.args.files.now) _ _ _ _ _ (sym c.in-None.ensures.is) c.say.ensures

pub returns-in-None-clause-ends : goal.returns-in-None-clause-ends
returns-in-None-clause-ends g c =
    let words = map string_bytes c.args.words.now in
    ends words (g.F.Files.told c.args.files.now) _ _ _ _ _
    (usage_carried words (g.F.Files.told c.args.files.now) (Rose (g.F.Files.faults c.args.files.now) (g.F.Files.faults c.args.files.now)) _ _ _ _
    (sym c.in-None.ensures.is) c.say.ensures)

pub returns-in-None-clause-signs : goal.returns-in-None-clause-signs
returns-in-None-clause-signs g c =
    let words = map string_bytes c.args.words.now in
    signs words (g.F.Files.told c.args.files.now) ⊥ _ _ _ _
    (usage_carried words (g.F.Files.told c.args.files.now) ⊥ _ _ _ _ (sym c.in-None.ensures.is) c.say.ensures)

pub returns-in-Some-clause-turning : goal.returns-in-Some-clause-turning
returns-in-Some-clause-turning g c =
    let words = map string_bytes c.args.words.now in
    turning words (g.F.Files.told c.args.files.now) _ _ _ _ _ (c.carry_plan.ensures.done words (sym c.in-Some.ensures.is) (sym c.style_of.ensures))

pub returns-in-None-clause-turning : goal.returns-in-None-clause-turning
returns-in-None-clause-turning g c =
    let words = map string_bytes c.args.words.now in
    turning words (g.F.Files.told c.args.files.now) ⊥ _ _ _ _
    (usage_carried words (g.F.Files.told c.args.files.now) ⊥ _ _ _ _ (sym c.in-None.ensures.is) c.say.ensures)
