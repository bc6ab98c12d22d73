use Rattle.std.proofs.Common.{◌≡◌, ◌∙◌, ap, get_or, pos}
use Rattle.std.specs.Prelude.{slice_index_or}
use Rattle.std.proofs.lemmas.Result.{IfOk-weaker, MatchResult-weaker}
use Rattle.ln_algebra.specs.Tree.{Num}
use Rattle.ln_poly.proofs.Expansions.Normals.{let-at}
use Rattle.ln_poly.proofs.expansion.let_named.Goals as goal

pub returns : goal.returns
returns c =
    let q : c.in_ok-f.f ≡ get_or c.args.polys.now c.args.j c.index-polys-from.result =
    c.in_ok-f.ensures ∙ c.index-polys-from.is ∙ ap (λ i. get_or c.args.polys.now i c.index-polys-from.result) c.from.ensures in
    record {
      ok = IfOk-weaker c.counted.result _ _ (λ h r n es a. r n (slice_index_or es c.args.j (Num (pos 0)))
          (let-at n es c.args.polys.now c.args.j c.index-polys-from.result c.in_ok-f.f a c.requires q)) c.counted.ensures.ok;
      err = MatchResult-weaker c.counted.result c.counted.ensures.err (λ h t. tt) (λ s r n es a. r n (slice_index_or es c.args.j (Num (pos 0)))
          (let-at n es c.args.polys.now c.args.j c.index-polys-from.result c.in_ok-f.f a c.requires q));
    }
