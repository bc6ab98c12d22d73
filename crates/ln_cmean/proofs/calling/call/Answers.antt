use Rattle.std.proofs.Common.{◌∙◌, ap, map}
use Rattle.ln_csyn.specs.Meaning.{CCall}
use Rattle.ln_csyn.specs.View.{fun_tree}
use Rattle.ln_cmean.proofs.Named.{no_function, undefined}
use Rattle.ln_cmean.proofs.calling.call.Goals as goal

pub returns-clause-no_function : goal.returns-clause-no_function
returns-clause-no_function c =
    let index = c.args.index.now in
    let values = c.args.values.now in
    let f = ap (λ fs. CCall (map fun_tree fs) c.as_bytes.result.now index values) c.as_slice.ensures in
    let n = ap (λ name. CCall (map fun_tree c.args.f.now.funs) name index values) c.as_bytes.ensures.value in
    no_function _ (map fun_tree c.args.f.now.funs) c.args.name.now index values (c.call_in.ensures.meaning ∙ f ∙ n)

pub returns-clause-undefined : goal.returns-clause-undefined
returns-clause-undefined c = λ line.
    let index = c.args.index.now in
    let values = c.args.values.now in
    let f = ap (λ fs. CCall (map fun_tree fs) c.as_bytes.result.now index values) c.as_slice.ensures in
    let n = ap (λ name. CCall (map fun_tree c.args.f.now.funs) name index values) c.as_bytes.ensures.value in
    undefined _ line (CCall (map fun_tree c.args.f.now.funs) c.args.name.now index values) (c.call_in.ensures.meaning ∙ f ∙ n)
