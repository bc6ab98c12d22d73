use Rattle.std.proofs.Common.{List, map, ◌∙◌, ap, arith}
use Rattle.std.specs.Prelude.{count_by}
use Rattle.ln_syntax.specs.Raw.{Span, items}
use Rattle.ln_parse.specs.Says.{Places, vars_behind, is_site_said, arg_of, site_of, param_of}
use Rattle.ln_tree.specs.declared.items.Arg.{Arg}
use Rattle.ln_parse.specs.declared.predicate.Scene.{Scene}
use Rattle.ln_parse.proofs.Building.Predicates.{PredAt}
use Rattle.ln_parse.proofs.Building.Kept.{PredReady, few_args, shape_kept, pred_kept, args_kept, as_many}
use Rattle.ln_parse.proofs.predicate.predicate.Goals as goal

pub laid_out-requires : goal.laid_out-requires
laid_out-requires c =
    let s = c.args.s.now in
    let r = c.requires.ready in
    let f = few_args s.bytes.now (items s.items.now) s.args.now c.in_ok-args.args c.in_ok-args.ensures r.site_args r.param_args in
    record { good = c.requires.declared.good_sites; few = rw c.as_slice.ensures f.all; site_args = rw c.as_slice.ensures f.sites }

pub body_of-requires-clause-args : goal.body_of-requires-clause-args
body_of-requires-clause-args c =
    let s = c.args.s.now in
    let f =
    (few_args s.bytes.now (items s.items.now) s.args.now c.in_ok-args.args c.in_ok-args.ensures c.requires.ready.site_args c.requires.ready.param_args).raw in
    omega arith

-- a predicate of this scene
abbrev at : Scene → Span → Places → PredAt
at s name root = record {
  bytes = s.bytes.now;
  ts = s.ts.now;
  before = items s.items.now;
  name = name;
  args = s.args.now;
  lets = s.lets.now;
  root = root;
}

pub shape-shape-requires : goal.shape-shape-requires
shape-shape-requires c =
    let d : PredReady (at c.args.s.now c.args.name c.args.root) (map site_of c.args.sites.now) (map param_of c.args.params.now) c.in_ok-args.args =
    record { ready = c.requires.ready; declares = c.requires.declared; args_are = c.in_ok-args.ensures } in
    shape_kept d c.in_ok-layout.layout.sites c.in_ok-layout.layout.vars
    (c.in_ok-layout.ensures.sites ∙ ap (λ (w : List Arg). count_by is_site_said (map arg_of w)) c.as_slice.ensures)
    (c.in_ok-layout.ensures.vars
    ∙ ap (λ (w : List Arg). vars_behind (map site_of c.args.sites.now) (map param_of c.args.params.now) 0 0 (map arg_of w)) c.as_slice.ensures)

pub invariant_of-result : goal.invariant_of-result
invariant_of-result c =
    let s = c.args.s.now in
    let d : PredReady (at s c.args.name c.args.root) (map site_of c.args.sites.now) (map param_of c.args.params.now) c.in_ok-args.args =
    record { ready = c.requires.ready; declares = c.requires.declared; args_are = c.in_ok-args.ensures } in
    record {
      kept = pred_kept d c.shape-shape.result.vars c.in_ok-body.body.lets _ c.in_ok-body.body.root
          (c.shape-shape.ensures.same.1 ∙ c.in_ok-layout.ensures.vars
          ∙ ap (λ (w : List Arg). vars_behind (map site_of c.args.sites.now) (map param_of c.args.params.now) 0 0 (map arg_of w)) c.as_slice.ensures)
          (record {
            lets_are = c.in_ok-body.ensures.lets;
            root_is = c.in_ok-body.ensures.root;
            as_many = as_many s.bytes.now s.lets.now c.in_ok-body.body.let_names c.in_ok-body.ensures.names;
          });
    }

pub returns-clause-fits : goal.returns-clause-fits
returns-clause-fits c =
    let d : PredReady (at c.args.s.now c.args.name c.args.root) (map site_of c.args.sites.now) (map param_of c.args.params.now) c.in_ok-args.args =
    record { ready = c.requires.ready; declares = c.requires.declared; args_are = c.in_ok-args.ensures } in
    args_kept c.args.sites.now c.args.params.now c.shape-shape.result.vars d
    (c.shape-shape.ensures.same.1 ∙ c.in_ok-layout.ensures.vars
    ∙ ap (λ (w : List Arg). vars_behind (map site_of c.args.sites.now) (map param_of c.args.params.now) 0 0 (map arg_of w)) c.as_slice.ensures)
