-- A line that asks for a predicate on a row is one call, and its meaning in the file that was put is the perturbed sign.
use Rattle.std.proofs.Common.{◌≡◌, ℕ, List, [], ◌∷◌, Option, Some, ap, ◌∙◌, subst}
use Rattle.std.specs.Prelude.{All}
use Rattle.std.proofs.lemmas.List.Elements.{All-contains}
use Rattle.ln_base.specs.Outside.{Shown}
use Rattle.ln_tree.specs.Row.{InRange, Row}
use Rattle.ln_tree.specs.Table.{PredOf}
use Rattle.ln_csyn.specs.Meaning.{CCall}
use Rattle.ln_csyn.specs.Text.{CText}
use Rattle.ln_csyn.specs.Tree.{Fun}
use Rattle.ln_csyn.proofs.Lexing.Scanned.{one_text}
use Rattle.ln_cemit.specs.Names.{call_name}
use Rattle.ln_cmean.specs.Carrying.Calls.{meaning_words}
use Rattle.ln_cmean.specs.Carrying.Laws.{IsSaid}
use Rattle.ln_cmean.proofs.Carrying.LineLaws.{line_said, one_call, call_there}
use Rattle.ln_top.specs.Emitted.{CallsPerturbedSign, PutC}
use Rattle.ln_top.specs.Target.Target.{OnRows}
use Rattle.ln_top.specs.Agree.{AsksFor, MeaningsAgree, ProgramsAgree, SaysPerturbedSign, line_at, nothing}

-- the line that is written for a call of a predicate on a row
line_says : (file : List Fun) (p : PredOf) (row : Row) (line said : List ℕ) → CallsPerturbedSign file p row → AsksFor p row line
    → IsSaid file line said → SaysPerturbedSign p row said
line_says file p row line said c a m =
    let one = one_call line m.name (call_name p.name) m.index row.index m.values row.values m.call a in
    let meant : CCall file m.name m.index m.values ≡ CCall file (call_name p.name) row.index row.values =
    (λ i. CCall file (one.0 i) (one.1 i) (one.2 i)) in
    record {
      sign = c.sign;
      counts = c.counts;
      says = m.is ∙ ap meaning_words (meant ∙ c.called);
      perturbed = c.perturbed;
      never_zero = c.never_zero;
      narrow = c.narrow;
      plain = c.plain;
    }

-- so it is of each line of a text of calls, since a text is of one file
pub meanings_agree : MeaningsAgree
meanings_agree preds was now put file calls out text m = λ k p row has range asks.
    let here = subst (λ (x : List Fun). All (OnRows (CallsPerturbedSign x)) preds) (one_text put.bytes put.file file put.text text) put.signs in
    let signed = All-contains (OnRows (CallsPerturbedSign file)) preds p here has in
    line_says file p row (line_at k calls) (line_at k out) (signed row range) asks (line_said file calls out m k (call_there _ _ _ _ asks))

-- what was put is what is there, where there was nothing
put_alone : (preds : List PredOf) (s : Shown) (put : PutC preds (Some nothing) (Some s)) → s.out ≡ put.bytes
put_alone preds s put = ap out_of put.shown
  where
    out_of : Option Shown → List ℕ
    out_of (Some x) = x.out
    out_of x = []

-- and so it is of what the two programs wrote
pub programs_agree : ProgramsAgree
programs_agree words others shelf disk s was now c wrote same = λ plan g f r x.
    let put = c plan g f r x in
    let m = wrote.meant in
    let text = subst (λ (b : List ℕ). CText b m.funs) (same ∙ put_alone g.table.preds s put) m.file_text in
    meanings_agree g.table.preds (Some nothing) (Some s) put m.funs m.text wrote.out text m.meanings
