-- Answers to the goals of `decl_rest` in src/body.rt.
use Rattle.std.proofs.Common.{rules, ◌≡◌, Some}
use Rattle.std.specs.Prelude.{codes}
use Rattle.ln_csyn.specs.Seen.{tokens_of}
use Rattle.ln_csyn.specs.View.{expr_tree}
use Rattle.ln_csyn.specs.Reading.{eat, name_at, closed, expr_at}
use Rattle.ln_csyn.proofs.Reading.Steps.{decl_step}
use Rattle.ln_csyn.proofs.body.decl_rest.Goals as goal

pub returns-clause-ok : goal.returns-clause-ok
returns-clause-ok c =
    let h : name_at (tokens_of c.args.tokens) ≡ Some (c.in-Some.name.now, tokens_of c.in-Some.rest) = search rules in
    let g : eat (codes "=") (tokens_of c.in-Some.rest) ≡ Some (tokens_of c.in-Some-eat.rest) = search rules in
    let k : closed (codes ";") (expr_at c.args.depth) (tokens_of c.in-Some-eat.rest) ≡ Some (expr_tree c.in_ok-e.e, tokens_of c.in_ok-e.rest) =
    search rules in
    rw (c.declared.ensures, c.in_ok-name.ensures.ok) (decl_step (expr_at c.args.depth) c.args.line c.args.kind (tokens_of c.args.tokens)
    (tokens_of c.in-Some.rest) (tokens_of c.in-Some-eat.rest) (tokens_of c.in_ok-e.rest) c.in-Some.name.now (expr_tree c.in_ok-e.e) h g k)
