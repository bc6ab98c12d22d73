-- A predicate over three sites of the one type, and points for it.
use Rattle.std.proofs.Common.{◌≡◌, ◌≤◌, ℕ, List, [], ◌∷◌, length, map, refl, ap, sym, ◌∙◌, subst, arith}
use Rattle.std.proofs.Common.{get_or, Vec, Global}
use Rattle.std.specs.Prelude.{slice_get}
use Rattle.ln_tree.specs.declared.items.Arg.{Arg}
use Rattle.ln_tree.specs.declared.items.Site.{Site}
use Rattle.ln_tree.specs.declared.pred.Pred.{Pred}
use Rattle.ln_tree.specs.declared.shape.VarInfo.{VarInfo}
use Rattle.ln_tree.specs.declared.table.Table.{Table}
use Rattle.ln_tree.specs.Table.{CoordOf, SiteArg, arg_of, pred_of, site_of, table_of}
use Rattle.ln_code.specs.Part.{Part}
use Rattle.ln_rows.specs.Left.{Records}
use Rattle.ln_edges.specs.declared.point.Point.{Point}
use Rattle.ln_edges.specs.declared.read.Found.{Found}
use Rattle.ln_edges.specs.declared.read.Found.TheVariants.{Points}
use Rattle.ln_edges.specs.Edges.{AreFor, points_in, three_of}
use Rattle.ln_edges.specs.Read.{IsFound, coords_of}
use Rattle.ln_edges.proofs.SuitLemmas.{points_fit}
use Rattle.ln_edges.proofs.ThreeLemmas.{tables_three}

-- the argument is a site of the first type
abbrev pub IsFirst : Arg → Type 0
IsFirst a = (n : List ℕ) × (arg_of a ≡ SiteArg n 0)

-- three arguments that are
pub three_args : (args : List Arg) (x y z : Arg) → length args ≡ 3 → x ≡ get_or args 0 x → y ≡ get_or args 1 y → z ≡ get_or args 2 z
    → IsFirst x → IsFirst y → IsFirst z
    → (a b c : List ℕ) × (map arg_of args ≡ SiteArg a 0 ∷ SiteArg b 0 ∷ SiteArg c 0 ∷ [])
three_args [] x y z n e f g h k l = absurd (omega (arith, n))
three_args (p ∷ []) x y z n e f g h k l = absurd (omega (arith, n))
three_args (p ∷ q ∷ []) x y z n e f g h k l = absurd (omega (arith, n))
three_args (p ∷ q ∷ r ∷ []) x y z n e f g h k l =
    let a : arg_of p ≡ SiteArg h.0 0 = ap arg_of (sym e) ∙ h.1 in
    let b : arg_of q ≡ SiteArg k.0 0 = ap arg_of (sym f) ∙ k.1 in
    let c : arg_of r ≡ SiteArg l.0 0 = ap arg_of (sym g) ∙ l.1 in
    (h.0, k.0, l.0, rw (a, b, c) refl)
three_args (p ∷ q ∷ r ∷ s ∷ args) x y z n e f g h k l = absurd (omega (arith, n))

-- the variables of a program over them are the coordinates of the type, at most 32, three times
pub three_sites : (t : Table) (site : Site) (pred : Pred) (part : Part) (args : List Arg) → t.sites ≡ site ∷ [] → t.preds ≡ pred ∷ []
    → part.shape.sites ≡ pred.shape.sites → part.shape.vars ≡ pred.shape.vars → args ≡ pred.args
    → (a b c : List ℕ) × (map arg_of args ≡ SiteArg a 0 ∷ SiteArg b 0 ∷ SiteArg c 0 ∷ [])
    → (part.shape.sites ≡ 3) × (part.shape.vars ≡ three_of (coords_of site)) × (length (coords_of site) ≤ 32)
three_sites t site pred part args e f sites vars same h =
    let three = tables_three (table_of t.sites t.params t.preds) 0 (pred_of pred) (site_of site) t.whole
    (ap (λ (ps : List Pred). slice_get (map pred_of ps) 0) f)
    (record {
      kind = 0;
      first = h.0;
      second = h.1;
      third = h.2;
      args = ap (map arg_of) (sym same) ∙ h.3;
      there = ap (λ (ss : List Site). slice_get (map site_of ss) 0) e;
    }) in
    (sites ∙ three.0, vars ∙ three.1, three.2)

-- points that were found are points for it
pub found_fit : (cs : List CoordOf) (rs : Records) (f : Found) (v : Vec Point Global) (sites : ℕ) (vars : List VarInfo) → sites ≡ 3
    → vars ≡ three_of cs → length cs ≤ 32 → f ≡ Points v → IsFound cs rs f → AreFor sites vars (points_in vars v.items)
found_fit cs rs f v sites vars s o narrow e h =
    let points : IsFound cs rs (Points v) = subst (IsFound cs rs) e h in
    points_fit cs rs v.items sites vars s o narrow points.1
