-- Answers to the goals of `tokens_from` in src/scan.rt.
use Rattle.std.proofs.Common.{rules, ◌≡◌, ◌<◌, List, ℕ, false, length, refl, ap, sym, ◌∙◌}
use Rattle.ln_csyn.specs.Text.{is_blank, first_len, tokens_by}
use Rattle.ln_csyn.proofs.Lexing.Scanned.{skip_token}
use Rattle.ln_csyn.proofs.scan.tokens_from.Goals as goal

pub returns-then-not-blank : goal.returns-then-not-blank
returns-then-not-blank c =
    let some : c.blanks.at < length c.args.bytes.now = search rules in
    let none : c.blank.result ≡ false = search rules in
    let e = ap (λ (z : List ℕ). tokens_by (first_len z) c.blanks.now z) c.after-then-not-blank.ensures in
    c.tokens_by.ensures ∙ e ∙ sym (skip_token c.args.line c.args.bytes.now c.blanks.now c.blanks.at _ c.blanks.invariant some refl
    (sym c.blank.ensures ∙ none))
