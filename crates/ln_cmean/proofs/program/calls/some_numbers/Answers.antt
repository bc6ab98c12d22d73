use Rattle.std.proofs.Common.{rules, ℤ, List, ap, ◌∙◌, ◌<◌, ◌++◌, ◌∷◌, [], length, FitsSigned, to_z-of_z, w64, subst, sym}
use Rattle.std.specs.Prelude.{All}
use Rattle.std.proofs.lemmas.List.Elements.{All-nil, All-push}
use Rattle.ln_cmean.specs.Carrying.Calls.{IsWord}
use Rattle.ln_cmean.proofs.Carrying.CallLaws.{Found, found_all, found_more, found_none, no_number, only_all, only_more}
use Rattle.ln_cmean.proofs.program.calls.some_numbers.Goals as goal

pub words-init : goal.words-init
words-init c = record {
  found = found_none c.args.list.now c.new-found.result.items c.new-found.ensures.items;
  only = only_all c.args.list.now;
  fit = subst (All IsWord) (sym c.new-found.ensures.items) (All-nil IsWord);
}

pub words-preserved : goal.words-preserved
words-preserved c =
    let some : c.find-end.result < length c.words.rest.now = search rules in
    let fits : FitsSigned w64 c.in-Some.z = search rules in
    let pushed = c.in_ok-push.ensures.items ∙ ap (λ z. c.words.found.items ++ (z ∷ [])) (to_z-of_z fits) in
    record {
      found = subst (λ (x : List ℤ). Found c.args.list.now x c.after-rest.result.now) (sym pushed) (found_more c.args.list.now c.words.rest.now
          c.between.result.now c.after-rest.result.now c.words.found.items c.in-Some.z c.find-end.result c.words.invariant.found
          (record { place = c.find-end.ensures.place; word = c.between.ensures; text = c.in-Some.ensures.1 }) some c.after-rest.ensures);
      only = only_more c.args.list.now c.words.rest.now c.after-rest.result.now c.find-end.result c.words.invariant.only c.find-end.ensures.place some
          c.after-rest.ensures;
      fit = subst (All IsWord) (sym pushed) (All-push IsWord c.words.found.items c.in-Some.z c.words.invariant.fit fits);
    }

pub returns-in_default : goal.returns-in_default
returns-in_default c = no_number c.args.list.now c.words.rest.now c.between.result.now c.find-end.result c.words.invariant.only
    c.find-end.ensures.place c.between.ensures c.in_default.ensures

pub returns-then-end-rest : goal.returns-then-end-rest
returns-then-end-rest c =
    let fits : FitsSigned w64 c.in-Some.z = search rules in
    let pushed = c.in_ok-push.ensures.items ∙ ap (λ z. c.words.found.items ++ (z ∷ [])) (to_z-of_z fits) in (
      found_all c.args.list.now c.words.rest.now c.between.result.now c.words.found.items c.push.new.self.items c.in-Some.z c.find-end.result
          c.words.invariant.found c.if-end-rest.true c.between.ensures c.in-Some.ensures.1 pushed,
      subst (All IsWord) (sym pushed) (All-push IsWord c.words.found.items c.in-Some.z c.words.invariant.fit fits),
    )
