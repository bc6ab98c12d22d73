use Rattle.std.proofs.Common.{◌≡◌, true, List, sym, subst}
use Rattle.std.proofs.lemmas.Result.{err_from_is_err_and}
use Rattle.std.specs.Prelude.{All}
use Rattle.ln_syntax.specs.Raw.{Token, items}
use Rattle.ln_lex.specs.Tokens.{IsSlice}
use Rattle.ln_syntax.specs.declared.raw.RawItem.{RawItem}
use Rattle.ln_names.proofs.Faultless.{faultless_is_within}
use Rattle.ln_parse.specs.Says.{ItemsSay}
use Rattle.ln_tree.specs.Whole.{is_whole}
use Rattle.ln_parse.specs.Ready.{ReadyFile}
use Rattle.ln_parse.proofs.Building.Readiness.{faultless_ready}
use Rattle.ln_parse.proofs.Settling.OneAnswer.{memory_alone}
use Rattle.ln_parse.proofs.Wholes.WholeFrom.{whole_from}
use Rattle.ln_parse.proofs.source.parse.Goals as goal

pub build-requires-clause-ready : goal.build-requires-clause-ready
build-requires-clause-ready c =
    let bytes = c.args.bytes.now in
    let ts = c.as_slice-ts.result.now in
    let s = subst (λ (w : List Token). All (IsSlice bytes) w) (sym c.as_slice-ts.ensures) c.in_ok-list.ensures.slices in
    subst (λ (w : List RawItem). ReadyFile bytes ts (items w)) (sym c.deref.ensures.value)
    (faultless_ready bytes ts (items c.in_ok-file.file.items.items) s c.in_ok-file.ensures.ok)

pub build-requires-clause-whole : goal.build-requires-clause-whole
build-requires-clause-whole c t =
    let bytes = c.args.bytes.now in
    let ts = c.as_slice-ts.result.now in
    let is = items c.in_ok-file.file.items.items in
    let f = c.in_ok-file.ensures.ok in
    let s = subst (λ (w : List Token). All (IsSlice bytes) w) (sym c.as_slice-ts.ensures) c.in_ok-list.ensures.slices in
    subst (λ (w : List RawItem). ItemsSay bytes ts (items w) t → is_whole t ≡ true) (sym c.deref.ensures.value)
    (whole_from bytes ts is f.few f.shallow f.spelt (faultless_ready bytes ts is s f) (faultless_is_within bytes ts is f.clean) t)

pub returns-in_err-list-clause-no_table : goal.returns-in_err-list-clause-no_table
returns-in_err-list-clause-no_table c =
    let p = err_from_is_err_and c.from_residual.result c.from_residual.ensures.1 in
    rw (p.1, p.2) (memory_alone c.args.bytes.now _ c.in_err-list.ensures.err)

pub returns-in_err-file-clause-no_table : goal.returns-in_err-file-clause-no_table
returns-in_err-file-clause-no_table c =
    let p = err_from_is_err_and c.from_residual-in_err-file.result c.from_residual-in_err-file.ensures.1 in
    rw (p.1, p.2) (memory_alone c.args.bytes.now _ c.in_err-file.ensures.err)
