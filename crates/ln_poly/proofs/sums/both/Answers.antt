use Rattle.std.proofs.Common.{◌≡◌, ◌≤◌, ap, arith, length, rules, subst, sym, take, ◌∙◌}
use Rattle.std.proofs.lemmas.List.{take_all}
use Rattle.std.proofs.lemmas.Result.{IfOk-weaker}
use Rattle.ln_poly.specs.Merge.{IsMerge, left_over, weight_of}
use Rattle.ln_poly.specs.Sparse.{ComesBefore, Sparse}
use Rattle.ln_poly.proofs.Sorting.Added.{size-weight}
use Rattle.ln_poly.proofs.Sorting.Summing.{none-left}
use Rattle.ln_poly.proofs.sums.both.Goals as goal

pub merged-requires : goal.merged-requires
merged-requires c =
    let n : length c.args.more.items ≤ c.len-n.result = search rules in
    let e : take c.len-n.result c.deref_mut-2.result.now ≡ c.args.more.items =
    ap (take c.len-n.result) c.deref_mut-2.ensures.value ∙ take_all c.len-n.result c.args.more.items n in
    let first : c.len-n.result ≤ length c.deref_mut-2.result.now = search rules in
    let f = ap weight_of c.deref_mut.ensures.value in
    record { first = first; room = omega (arith, c.requires, f, ap weight_of e, size-weight c.args.f.items, size-weight c.args.more.items) }

pub returns-then-is_empty : goal.returns-then-is_empty
returns-then-is_empty c = subst (λ (z : Sparse). IsMerge ComesBefore c.args.f.items z c.args.f.items)
    (sym (none-left c.args.more.items _ c.is_empty.result c.is_empty.ensures c.if-is_empty.true c.args.more.ok.0)) (left_over c.args.f.items)

pub returns : goal.returns
returns c =
    let n : length c.args.more.items ≤ c.len-n.result = search rules in
    let e : take c.len-n.result c.deref_mut-2.result.now ≡ c.args.more.items =
    ap (take c.len-n.result) c.deref_mut-2.ensures.value ∙ take_all c.len-n.result c.args.more.items n in
    IfOk-weaker c.merged.result _ _ (λ h m.
    subst (λ (z : Sparse). IsMerge ComesBefore z c.args.more.items h.items) c.deref_mut.ensures.value
    (subst (λ (z : Sparse). IsMerge ComesBefore c.deref_mut.result.now z h.items) e m)) c.merged.ensures.merge
