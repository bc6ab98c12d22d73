-- A table of the program is whole.
use Rattle.std.proofs.Common.{◌≡◌, ℕ, ◌+◌, ◌≤◌, ◌==◌, ◌&&◌, true, List, [], ◌∷◌, length, length-take, map, take, refl, ap, sym, subst, arith}
use Rattle.std.specs.Prelude.{nat_le}
use Rattle.std.specs.List.{list_all}
use Rattle.std.proofs.lemmas.Bool.{and_parts, leb-true, eqb-true}
use Rattle.std.proofs.lemmas.List.{length-map}
use Rattle.ln_tree.specs.declared.name.Name.{Name}
use Rattle.ln_tree.specs.declared.items.Site.{Site}
use Rattle.ln_tree.specs.declared.items.Param.{Param}
use Rattle.ln_tree.specs.declared.items.Arg.{Arg}
use Rattle.ln_tree.specs.declared.items.Arg.TheVariants.{Site as IsSite, Param as IsParam}
use Rattle.ln_tree.specs.declared.pred.Pred.{Pred}
use Rattle.ln_tree.specs.declared.expr.Expr.{Expr}
use Rattle.ln_tree.specs.declared.shape.VarInfo.{VarInfo}
use Rattle.ln_tree.specs.Names.{name_bytes}
use Rattle.ln_tree.specs.Formula.{formula, tree, tree_of, node_count, node_counts}
use Rattle.ln_tree.specs.Fits.{is_fit, lets_fit}
use Rattle.ln_tree.specs.Arguments.{are_of}
use Rattle.ln_tree.specs.Table.{coord_of, site_of, param_of, arg_of, pred_of, table_of, pred_fits, is_table}
use Rattle.ln_tree.specs.Whole.{is_whole}
use Rattle.ln_parse.proofs.Wholes.TestLemmas.{every_image}
use Rattle.ln_parse.specs.WholeTable.{IsShortName, SiteNames, ArgNames, PredKept, IsWhole}

taken : (n : ℕ) (xs : List ℕ) → length (take n xs) ≤ n
taken n xs = omega (arith, length-take n xs)

short_name : (n : Name) → IsShortName (name_bytes n)
short_name n = let a = n.within in let b = taken n.len n.bytes in (n.named, omega arith)

arg_short : (a : Arg) → ArgNames (arg_of a)
arg_short (IsSite n t) = short_name n
arg_short (IsParam p) = tt

trees_are : (vars : List VarInfo) (es : List Expr) → map (tree_of vars) es ≡ map (tree vars) (map formula es)
trees_are vars [] = refl
trees_are vars (e ∷ es) = ap (λ w. tree_of vars e ∷ w) (trees_are vars es)

pred_kept : (p : Pred) → PredKept (pred_of p)
pred_kept p =
    let vars = p.shape.vars in
    let t1 = are_of p.args vars in
    let t2 = nat_le (length p.lets) 64 in
    let t3 = length p.let_names == length p.lets in
    let t4 = lets_fit (length vars) 0 (map (tree_of vars) p.lets) in
    let t5 = is_fit (length vars) (length p.lets) (tree_of vars p.root) in
    let e = and_parts (t1 && t2 && t3 && t4 && t5) (nat_le (node_counts (map formula p.lets) + node_count (formula p.root)) 2048) p.kept in
    let d = and_parts (t1 && t2 && t3 && t4) t5 e.0 in
    let c = and_parts (t1 && t2 && t3) t4 d.0 in
    let b = and_parts (t1 && t2) t3 c.0 in
    let a = and_parts t1 t2 b.0 in
    let l = length-map p.lets formula in
    let m = length-map p.let_names name_bytes in
    let x = eqb-true (length p.let_names) (length p.lets) b.1 in
    let y = leb-true (length p.lets) 64 a.1 in
    record {
      name = short_name p.name;
      args = every_image ArgNames arg_of p.args arg_short;
      let_names = every_image IsShortName name_bytes p.let_names short_name;
      as_many = omega arith;
      few_lets = omega arith;
      lets_fit = subst (λ w. lets_fit (length vars) 0 w ≡ true) (trees_are vars p.lets) c.1;
      root_fit = subst (λ (w : ℕ). is_fit (length vars) w (tree vars (formula p.root)) ≡ true) (sym l) d.1;
      few_nodes = leb-true _ _ e.1;
    }

-- what its type keeps makes a table whole
pub table_is_whole : (sites : List Site) (params : List Param) (preds : List Pred) → is_table sites params preds ≡ true
    → is_whole (table_of sites params preds) ≡ true → IsWhole (table_of sites params preds)
table_is_whole sites params preds k w =
    let c = and_parts (nat_le (length sites) 16 && nat_le (length params) 16 && nat_le (length preds) 16) (list_all (pred_fits sites params) preds) k in
    let b = and_parts (nat_le (length sites) 16 && nat_le (length params) 16) (nat_le (length preds) 16) c.0 in
    let a = and_parts (nat_le (length sites) 16) (nat_le (length params) 16) b.0 in
    let x = leb-true (length sites) 16 a.0 in let y = leb-true (length params) 16 a.1 in let z = leb-true (length preds) 16 b.1 in
    let l = length-map sites site_of in let m = length-map params param_of in let n = length-map preds pred_of in
    record {
      sites = every_image SiteNames site_of sites
          (λ s. record { name = short_name s.name; coords = every_image _ coord_of s.coords (λ c. short_name c.name) });
      params = every_image _ param_of params (λ p. short_name p.name);
      preds = every_image PredKept pred_of preds pred_kept;
      few_sites = omega arith;
      few_params = omega arith;
      few_preds = omega arith;
      whole = w;
    }
