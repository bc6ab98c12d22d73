use Rattle.std.proofs.Common.{◌<◌, ◌+◌, ℕ, length, rules, ap, refl, sym, ◌∙◌}
use Rattle.ln_lex.proofs.Longest.{name_at, number_at, two_first, sign_at, none_at}
use Rattle.ln_lex.proofs.scan.first.Goals as goal

pub returns-then-letter-clause-some : goal.returns-then-letter-clause-some
returns-then-letter-clause-some c =
    let some : 0 < length c.args.bytes.now = search rules in
    name_at c.args.bytes.now c.after-rest.result.now _ _ _ some refl c.after-rest.ensures (sym c.letter.ensures ∙ c.if-letter.true)
    (ap (λ (w : ℕ). 1 + w) c.run-n.ensures.len) c.word.ensures

pub returns-then-digit-clause-some : goal.returns-then-digit-clause-some
returns-then-digit-clause-some c =
    let some : 0 < length c.args.bytes.now = search rules in
    number_at c.args.bytes.now c.after-rest.result.now _ _ some refl c.after-rest.ensures (sym c.letter.ensures ∙ c.if-letter.false)
    (sym c.digit.ensures ∙ c.if-digit.true) (ap (λ (w : ℕ). 1 + w) c.run.ensures.len)

pub returns-then-twice_at-clause-some : goal.returns-then-twice_at-clause-some
returns-then-twice_at-clause-some c = two_first _ (sym c.twice_at.ensures ∙ c.if-twice_at.true)

pub returns-in-Some-clause-some : goal.returns-in-Some-clause-some
returns-in-Some-clause-some c =
    let some : 0 < length c.args.bytes.now = search rules in
    sign_at c.args.bytes.now _ _ some refl (sym c.letter.ensures ∙ c.if-letter.false) (sym c.digit.ensures ∙ c.if-digit.false)
    (sym c.twice_at.ensures ∙ c.if-twice_at.false) (sym c.in-Some.ensures)

pub returns-in-None-clause-none : goal.returns-in-None-clause-none
returns-in-None-clause-none c =
    let some : 0 < length c.args.bytes.now = search rules in
    none_at c.args.bytes.now _ some refl (sym c.letter.ensures ∙ c.if-letter.false) (sym c.digit.ensures ∙ c.if-digit.false) (sym c.in-None.ensures)
