-- Nodes in postfix order are the formula of their tree.
use Rattle.std.proofs.Common.{◌≡◌, ℕ, ◌≤◌, ◌<◌, ◌&&◌, List, [], ◌∷◌, ◌++◌, length, drop, map, reverse, Bool, Option, Some, None, refl, sym, subst, arith}
use Rattle.std.specs.List.{position_from}
use Rattle.std.specs.Prelude.{unwrap_or}
use Rattle.ln_syntax.specs.Raw.{Span, Token, same}
use Rattle.ln_names.specs.Rules.{Places, Scope, is_site_arg, is_param_arg, coords_at}
use Rattle.ln_syntax.specs.Expression.{Tree, TNum, TName, TInput, TNeg, TAdd, TSub, TMul, TPow}
use Rattle.ln_names.specs.declared.nodes.Node.{Node}
use Rattle.ln_names.specs.declared.resolve.ArgKind.TheVariants.{Site, Param}
use Rattle.ln_names.specs.Nodes as nodes
use Rattle.ln_names.specs.Nodes.{postfix, named, AreNodes}
use Rattle.ln_names.specs.Resolve.{is_arg, let_place, arg_place, coord_place}
use Rattle.ln_names.proofs.Lists.{place_below}
use Rattle.ln_tree.specs.declared.expr.Expr.{Expr}
use Rattle.ln_parse.specs.Says.{Formula, formula, resolved, Says}
use Rattle.ln_parse.specs.Ready.{IsNarrow, ReadyValue}
use Rattle.ln_parse.specs.Stack.{applied_by, applied, arity, is_small_power, Brings, AreOne}
use Rattle.ln_parse.proofs.Building.Places.{position_is, place_is}

more : (xs : List Node) (n : Node) (fs gs : List Formula) → Brings xs fs gs → (arity n.what ≤ length gs) × is_small_power n.what
    → Brings (xs ++ (n ∷ [])) fs (applied n gs)
more [] n fs gs h k = rw h (k.0, k.1, refl)
more (x ∷ xs) n fs gs h k = (h.0, h.1, more xs n (applied x fs) gs h.2 k)

small_by : {A : Type 0} (p : A → Bool) (xs : List A) (o : Option ℕ) → length xs < 256 → position_from p 0 xs ≡ o → unwrap_or o 0 < 256
small_by p xs None l h = omega arith
small_by p xs (Some n) l h = let b = place_below p 0 xs n h in omega arith

module _ (bytes : List ℕ) (s : Scope) (narrow : IsNarrow bytes s) where
  name_small : (at : Span) (o : Option ℕ) → let_place bytes s.lets at ≡ o → (arity (nodes.name_node_of bytes s at o) ≤ 0) × is_small_power
      (nodes.name_node_of bytes s at o)
  name_small at (Some j) h = (omega arith, small_by (λ l. same bytes l.name at) s.lets (Some j) narrow.lets h)
  name_small at None h = (
    omega arith,
    (small_by (λ a. is_arg (Some Param) a && same bytes a.name at) s.args (arg_place bytes (Some Param) s.args at) narrow.args refl, omega arith),
  )

  name_leaf : (at : Span) (fs : List Formula) (o : Option ℕ) → let_place bytes s.lets at ≡ o
      → applied_by (nodes.name_node_of bytes s at o) at fs ≡ resolved bytes s (TName at) ∷ fs
  name_leaf at fs (Some j) h = let p = position_is (λ l. same bytes l.name at) s.lets (Some j) (sym h) in rw p refl
  name_leaf at fs None h =
      let p = position_is (λ l. same bytes l.name at) s.lets None (sym h) in
      let a = place_is (λ a. is_param_arg a && same bytes a.name at) s.args (arg_place bytes (Some Param) s.args at) refl in
      rw (p, a) refl

  -- after the nodes of a tree its formula is on the stack
  pub brings : (e : Tree) (ns : List Node) (fs gs : List Formula) → Brings ns fs gs → Brings (postfix bytes s e ns) fs (resolved bytes s e ∷ gs)
  brings (TNum at) ns fs gs h = more ns _ fs gs h (omega arith, tt)
  brings (TName at) ns fs gs h =
      let k = name_small at (let_place bytes s.lets at) refl in
      subst (λ (w : List Formula). Brings (postfix bytes s (TName at) ns) fs w) (name_leaf at gs (let_place bytes s.lets at) refl)
      (more ns (nodes.node (named bytes s at) at) fs gs h (omega (arith, k.0), k.1))
  brings (TInput at x) ns fs gs h =
      let a = place_is (λ a. is_site_arg a && same bytes a.name at) s.args (arg_place bytes (Some Site) s.args at) refl in
      let c = place_is (λ c. same bytes c.name x) (coords_at bytes s at) (coord_place bytes (coords_at bytes s at) x) refl in
      rw (sym a, sym c) (more ns _ fs gs h (
        omega arith,
        (
          small_by (λ a. is_arg (Some Site) a && same bytes a.name at) s.args (arg_place bytes (Some Site) s.args at) narrow.args refl,
          small_by (λ c. same bytes c.name x) (coords_at bytes s at) (coord_place bytes (coords_at bytes s at) x) (narrow.coords at) refl,
        ),
      ))
  brings (TNeg at e) ns fs gs h = more (postfix bytes s e ns) _ fs _ (brings e ns fs gs h) (omega arith, tt)
  brings (TAdd at e f) ns fs gs h =
      more (postfix bytes s f (postfix bytes s e ns)) _ fs _ (brings f (postfix bytes s e ns) fs _ (brings e ns fs gs h)) (omega arith, tt)
  brings (TSub at e f) ns fs gs h =
      more (postfix bytes s f (postfix bytes s e ns)) _ fs _ (brings f (postfix bytes s e ns) fs _ (brings e ns fs gs h)) (omega arith, tt)
  brings (TMul at e f) ns fs gs h =
      more (postfix bytes s f (postfix bytes s e ns)) _ fs _ (brings f (postfix bytes s e ns) fs _ (brings e ns fs gs h)) (omega arith, tt)
  brings (TPow at e n) ns fs gs h = more (postfix bytes s e ns) _ fs _ (brings e ns fs gs h) (omega arith, tt)

-- a loop over nodes: those that remain bring the stack to where all bring an empty one
abbrev pub Left : List Node → ℕ → List Formula → Type 0
Left ns i fs = (gs : List Formula) → Brings ns [] gs → Brings (drop i ns) fs gs

-- operands as formulas, the last first
abbrev pub formulas : List Expr → List Formula
formulas xs = reverse (map formula xs)

module _ {bytes : List ℕ} {ts : List Token} {s : Scope} {p : Places} {ns : List Node} (v : ReadyValue bytes ts s p) (k : IsNarrow bytes s)
    (a : AreNodes bytes ts s p ns) where
  -- the nodes of an expression that is ready are those of its formula
  pub value_brings : Brings ns [] (resolved bytes s v.tree ∷ [])
  value_brings = subst (λ (w : List Node). Brings w [] (resolved bytes s v.tree ∷ [])) (sym (a v.tree v.derives v.ends v.begins))
      (brings bytes s k v.tree [] [] [] refl)

  -- they bring one formula
  pub value_one : AreOne ns
  value_one = (resolved bytes s v.tree, value_brings)

  -- and their formula is what its tokens say
  pub value_said : {x : Formula} → ((f : Formula) → Brings ns [] (f ∷ []) → x ≡ f) → Says bytes ts s p x
  value_said f = record { tree = v.tree; derives = v.derives; ends = v.ends; means = sym (f (resolved bytes s v.tree) value_brings) }
