use Rattle.std.proofs.Common.{◌≡◌, ◌∙◌, true, false, ap, arith, length, map, rules, sym, subst, List, [], ◌∷◌, true≢false}
use Rattle.std.specs.Prelude.{All}
use Rattle.ln_base.proofs.Texts.Lists.{head}
use Rattle.ln_tree.specs.Exps.{IsAbove, Pairs, same_pairs, same_pairs-is, vector}
use Rattle.ln_order.specs.Places.{order_places}
use Rattle.ln_order.specs.Sites.{sites_of}
use Rattle.ln_poly.proofs.Sorting.Collected.{vectors-same}
use Rattle.ln_stage.proofs.Walks.PairsLemmas.{same_pairs-refl}
use Rattle.ln_trace.specs.Left.{left_at}
use Rattle.ln_trace.proofs.Premises.{was-first, was-other}
use Rattle.ln_trace.proofs.next.passed.Goals as goal

pub returns-then-are_same-clause-left : goal.returns-then-are_same-clause-left
returns-then-are_same-clause-left c =
    let n = length c.args.s.now.vars in
    let sites = sites_of c.args.s.now.vars (order_places c.args.o.now) in
    let t : same_pairs c.in-Some.b.now c.args.a.now ≡ true = search rules in
    λ e stood z differ over m i.
    was-first n sites (vector (length c.args.s.now.vars) c.args.a.now) e stood z differ over m
    (map (vector (length c.args.s.now.vars)) (left_at c.args.st.now (order_places c.args.o.now) c.args.spot))
    (vector (length c.args.s.now.vars) c.in-Some.b.now) _ (ap (map (vector (length c.args.s.now.vars))) c.in-Some.ensures.0)
    (ap (vector (length c.args.s.now.vars)) (same_pairs-is c.in-Some.b.now c.args.a.now t)) i

pub returns-else-are_same-clause-left : goal.returns-else-are_same-clause-left
returns-else-are_same-clause-left c =
    let n = length c.args.s.now.vars in
    let sites = sites_of c.args.s.now.vars (order_places c.args.o.now) in
    let f : same_pairs c.in-Some.b.now c.args.a.now ≡ false = search rules in
    λ e stood z differ over m i.
    was-other n sites (vector (length c.args.s.now.vars) c.args.a.now) e stood z differ over m
    (map (vector (length c.args.s.now.vars)) (left_at c.args.st.now (order_places c.args.o.now) c.args.spot))
    (vector (length c.args.s.now.vars) c.in-Some.b.now) _ (ap (map (vector (length c.args.s.now.vars))) c.in-Some.ensures.0)
    (λ q. true≢false (sym (equal c.in-Some.b.now c.args.a.now (differ-not q)) ∙ f)) i
  where
    equal : (x y : Pairs) → x ≡ y → same_pairs x y ≡ true
    equal x y e = ap (same_pairs x) (sym e) ∙ same_pairs-refl x

    front : (xs : List Pairs) (x : Pairs) (rest : List Pairs) → xs ≡ x ∷ rest → All (λ b. IsAbove b (length c.args.s.now.vars)) xs
        → IsAbove x (length c.args.s.now.vars)
    front [] x rest e h = cc
    front (y ∷ xs) x rest e h = subst (λ b. IsAbove b (length c.args.s.now.vars)) (head e) (h 0 [] (omega arith))

    differ-not : vector (length c.args.s.now.vars) c.in-Some.b.now ≡ vector (length c.args.s.now.vars) c.args.a.now → c.in-Some.b.now ≡ c.args.a.now
    differ-not q = vectors-same (length c.args.s.now.vars) c.in-Some.b.now c.args.a.now c.are_same.ensures.left c.are_same.ensures.right
        (front _ c.in-Some.b.now _ c.in-Some.ensures.0 (c.requires.all c.args.spot)) c.requires.above q
