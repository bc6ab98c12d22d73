use Rattle.std.proofs.Common.{List, [], map, ap, subst, ◌∙◌, arith}
use Rattle.std.proofs.lemmas.List.{map_push, take_all}
use Rattle.ln_names.specs.Rules.{RawLet, scope}
use Rattle.ln_syntax.specs.Raw.{items}
use Rattle.ln_names.specs.Nodes.{AreNodes}
use Rattle.ln_names.proofs.Walking.{paired_next}
use Rattle.ln_tree.specs.declared.expr.Expr.{Expr}
use Rattle.ln_parse.specs.Says.{formula, Says, LetsSay}
use Rattle.ln_parse.proofs.Building.Loops.{is_narrow, let_at, paired_length}
use Rattle.ln_parse.proofs.predicate.lets.Goals as goal

-- a let where there is none
abbrev no_let : RawLet
no_let = record { name = record { start = 0; end = 0 }; value = record { from = 0; to = 0 } }

pub expression-requires : goal.expression-requires
expression-requires c =
    let s = c.args.s.now in
    let k = is_narrow s.bytes.now (items s.items.now) s.args.now s.lets.now c.requires.few c.requires.args c.requires.lets in
    rw c.as_slice.ensures (let_at s.bytes.now s.ts.now (items s.items.now) s.args.now s.lets.now c.as_slice-lets.result.now c.lets.nodes-index no_let
    c.nodes-item.result c.requires.ready (rw c.as_slice-lets.ensures c.requires.nodes) k c.lets-test.true c.nodes-item.is).one

pub lets-preserved : goal.lets-preserved
lets-preserved c =
    let s = c.args.s.now in
    let x = c.in_ok-expression.field-0 in
    let k = is_narrow s.bytes.now (items s.items.now) s.args.now s.lets.now c.requires.few c.requires.args c.requires.lets in
    let a = let_at s.bytes.now s.ts.now (items s.items.now) s.args.now s.lets.now c.as_slice-lets.result.now c.lets.nodes-index no_let
    c.nodes-item.result c.requires.ready (rw c.as_slice-lets.ensures c.requires.nodes) k c.lets-test.true c.nodes-item.is in
    let e = ap (λ (w : List Expr). map formula w) c.in_ok-push.ensures.ok ∙ map_push formula c.lets.values x in
    rw e (paired_next (λ before l y. Says s.bytes.now s.ts.now (scope (items s.items.now) s.args.now before) l.value y) s.lets.now
    (map formula c.lets.values) c.lets.nodes-index no_let (formula x) a.below c.lets.invariant (a.said (rw c.as_slice.ensures at c.in_ok-expression.ensures)))

pub returns : goal.returns
returns c =
    let s = c.args.s.now in
    let n = paired_length (λ before l v. AreNodes s.bytes.now s.ts.now (scope (items s.items.now) s.args.now before) l.value v) [] s.lets.now
    c.as_slice-lets.result.now (rw c.as_slice-lets.ensures c.requires.nodes) in
    let t = c.lets-test.false in
    subst (λ (w : List RawLet). LetsSay s.bytes.now s.ts.now (items s.items.now) s.args.now [] w (map formula c.lets.values))
    (take_all c.lets.nodes-index s.lets.now (omega arith)) c.lets.invariant
