use Rattle.std.proofs.Common.{◌≡◌, ◌+◌, List, [], ◌∷◌, ◌++◌, take, drop, map, ◌∙◌, ap, sym, subst, refl, arith, take-append-drop}
use Rattle.std.specs.List.{list_all}
use Rattle.std.proofs.lemmas.Bool.{and_from}
use Rattle.std.proofs.lemmas.List.{map_push, map-append}
use Rattle.std.proofs.lemmas.List.Folds.{list_all-append}
use Rattle.ln_names.specs.Rules.{RawArg, RawLet}
use Rattle.ln_syntax.specs.Raw.{Item, PredItem, item, items}
use Rattle.ln_names.specs.Nodes.{BodyIs}
use Rattle.ln_tree.specs.declared.pred.Pred.{Pred}
use Rattle.ln_tree.specs.Table.{PredOf, site_of, param_of, pred_of, pred_fits}
use Rattle.ln_parse.specs.Ready.{ReadyItem, ReadyPred}
use Rattle.ln_parse.proofs.Building.Lists.{IsAt, SeenAt}
use Rattle.ln_parse.proofs.Building.Said.{PredsOn, no_pred, preds_end, preds_skip, preds_pred}
use Rattle.ln_parse.proofs.Building.Kept.{declared}
use Rattle.ln_parse.proofs.Building.Loops.{item_index, body_index, bodies_length}
use Rattle.ln_parse.proofs.build.preds.Goals as goal
use Rattle.ln_parse.proofs.build.preds.Goals.{in-Pred+in_ok-predicate+in_ok-push, in_default}

pub predicate-requires-clause-ready : goal.predicate-requires-clause-ready
predicate-requires-clause-ready c =
    let its = c.args.s.now.items.now in
    let bytes = c.args.s.now.bytes.now in
    let ts = c.args.s.now.ts.now in
    let is = items (take c.items.i its) in
    let e = item_index (ReadyItem bytes ts) its c.items.i c.index-its-i.result c.requires.ready (omega arith) c.index-its-i.is in
    let f = subst (λ (w : Item). ReadyItem bytes ts is w) (ap item c.in-Pred.is) e in
    subst (λ (w : List RawArg). ReadyPred bytes ts is c.in-Pred.name w c.deref-in-Pred.result.now c.in-Pred.root) (sym c.deref.ensures.value)
    (subst (λ (w : List RawLet). ReadyPred bytes ts is c.in-Pred.name c.in-Pred.args.items w c.in-Pred.root) (sym c.deref-in-Pred.ensures.value) f)

pub bounds-nodes-i : goal.bounds-nodes-i
bounds-nodes-i c = let n = bodies_length _ c.args.s.now.items.now c.args.s.now.nodes.now c.requires.nodes in omega arith

pub predicate-requires-clause-nodes : goal.predicate-requires-clause-nodes
predicate-requires-clause-nodes c =
    let its = c.args.s.now.items.now in
    let bytes = c.args.s.now.bytes.now in
    let ts = c.args.s.now.ts.now in
    let is = items (take c.items.i its) in
    let b = c.index-nodes-i.result in
    let e = body_index (BodyIs bytes ts) its c.args.s.now.nodes.now c.items.i c.index-its-i.result b c.requires.nodes (omega arith) c.index-its-i.is
    c.index-nodes-i.is in
    let f = subst (λ (w : Item). BodyIs bytes ts is w b) (ap item c.in-Pred.is) e in
    rw (c.deref.ensures.value, c.deref-in-Pred.ensures.value) f

pub predicate-requires-clause-declared : goal.predicate-requires-clause-declared
predicate-requires-clause-declared c =
    let its = c.args.s.now.items.now in
    let i = c.items.i in
    let q = sym (map-append item (take i its) (drop i its)) ∙ ap items (take-append-drop i its) in
    declared c.args.s.now.bytes.now c.args.s.now.ts.now (items (take i its)) (items (drop i its)) (items its) (map site_of c.args.sites.now)
    (map param_of c.args.params.now) q c.requires.sites c.requires.params c.requires.ready

pub returns-clause-says : goal.returns-clause-says
returns-clause-says c t s p =
    preds_end c.args.s.now.bytes.now c.args.s.now.ts.now t c.args.s.now.items.now c.items.i (map pred_of c.items.preds) (omega arith)
    (c.items.invariant.says t s p)

pub items-preserved : goal.items-preserved
items-preserved c =
    let its = c.args.s.now.items.now in
    let bytes = c.args.s.now.bytes.now in
    let ts = c.args.s.now.ts.now in
    let i = c.items.i in
    let x = c.index-its-i.result in
    let done = map pred_of c.items.preds in
    let fit = pred_fits c.args.sites.now c.args.params.now in
    let at : IsAt its i x = record { below = omega arith; is = c.index-its-i.is } in
    let here : SeenAt item its i (item x) = record { element = x; at = at; seen = refl } in
    elim c.match-it.branch [
      | in_default w ↦ record {
        says = λ t s p. rw w.preds-is (preds_skip bytes ts t its i (item x) done here (no_pred x w.in_default.not-Pred)
            (c.items.invariant.says t s p));
        fits = rw w.preds-is c.items.invariant.fits;
      }
      | in-Pred+in_ok-predicate+in_ok-push w ↦
          let y = w.in_ok-predicate.field-0 in
          let e : map pred_of c.match-it.preds ≡ done ++ (pred_of y ∷ []) =
          ap (λ (w : List Pred). map pred_of w) (w.preds-is ∙ w.in_ok-push.ensures.ok) ∙ map_push pred_of c.items.preds y in
          let next : Item = PredItem w.in-Pred.name w.deref.result.now w.deref-in-Pred.result.now w.in-Pred.root in
          let q : SeenAt item its i next =
          record { element = x; at = at; seen = rw (w.deref.ensures.value, w.deref-in-Pred.ensures.value) (ap item w.in-Pred.is) } in
          record {
            says = λ t s p. subst (λ (z : List PredOf). PredsOn bytes ts t its (i + 1) z) (sym e) (preds_pred bytes ts t its i next done (pred_of y) q
                (w.in_ok-predicate.ensures.says t s p, tt) (c.items.invariant.says t s p));
            fits = ap (list_all fit) (w.preds-is ∙ w.in_ok-push.ensures.ok) ∙ list_all-append fit c.items.preds _
                ∙ and_from _ _ c.items.invariant.fits (and_from _ _ w.in_ok-predicate.ensures.fits refl);
          }
    ]
