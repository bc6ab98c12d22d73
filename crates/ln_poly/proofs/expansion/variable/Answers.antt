use Rattle.std.proofs.Common.{◌≡◌, ◌∙◌, ap, length, pos, [], ◌∷◌}
use Rattle.std.proofs.lemmas.Result.{IfOk-weaker, MatchResult-weaker}
use Rattle.ln_algebra.specs.Tree.{Input}
use Rattle.ln_tree.specs.Variables.{number_or_end}
use Rattle.ln_poly.proofs.Expansions.Normals.{input-at}
use Rattle.ln_poly.proofs.expansion.variable.Goals as goal

pub returns : goal.returns
returns c =
    let n = length c.args.vars.now in
    let v = number_or_end c.args.vars.now c.args.v.arg c.args.v.coord in
    let q : c.in_ok-f.f ≡ ((v, 1) ∷ [], pos 1) ∷ [] = c.in_ok-f.ensures ∙ ap (λ z. ((z, 1) ∷ [], pos 1) ∷ []) c.number_in.ensures in
    let normal = input-at n v c.in_ok-f.f c.requires.within q in
    record {
      ok = IfOk-weaker c.counted.result _ _ (λ h r. r n (Input v) normal) c.counted.ensures.ok;
      err = MatchResult-weaker c.counted.result c.counted.ensures.err (λ h t. tt) (λ s r. r n (Input v) normal);
    }
