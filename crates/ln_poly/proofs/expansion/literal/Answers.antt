use Rattle.std.proofs.Common.{ℕ, ◌∙◌, ap, sym, [], ◌∷◌}
use Rattle.std.proofs.lemmas.Int.{to_z-of_z}
use Rattle.std.proofs.lemmas.Result.{IfOk-weaker, MatchResult-weaker}
use mir.Syntax.{w128}
use Rattle.ln_algebra.specs.Tree.{Num}
use Rattle.ln_poly.proofs.Expansions.Normals.{number-normal}
use Rattle.ln_poly.proofs.expansion.literal.Goals as goal

pub returns : goal.returns
returns c =
    let z = to_z-of_z w128 c.args.c c.ranges.c in
    let normal = λ (n : ℕ). number-normal n c.args.c c.in_ok-f.f c.requires (λ e. c.in_ok-f.ensures.zero (z ∙ e))
    (λ d. c.in_ok-f.ensures.some (λ e. d (sym z ∙ e)) ∙ ap (λ y. ([], y) ∷ []) z) in
    record {
      ok = IfOk-weaker c.counted.result _ _ (λ h r n. r n (Num c.args.c) (normal n)) c.counted.ensures.ok;
      err = MatchResult-weaker c.counted.result c.counted.ensures.err (λ h t. tt) (λ s r n. r n (Num c.args.c) (normal n));
    }
