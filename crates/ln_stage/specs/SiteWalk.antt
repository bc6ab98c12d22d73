-- The walk by prefixes: each prefix is visited once, and what it lists is its segment.
use Rattle.std.specs.Prelude.{◌≡◌, ℕ, true, List, [], ◌∷◌, ◌++◌, length, if◌then◌else◌}
use Rattle.std.proofs.Common.{suc}
use Rattle.ln_algebra.specs.Vector.{zeros}
use Rattle.ln_algebra.specs.Walk.{Found, walk}
use Rattle.ln_tree.specs.declared.shape.VarInfo.{VarInfo}
use Rattle.ln_tree.specs.Variables.{is_laid_out}
use Rattle.ln_order.specs.Orders.{IsOrderOf}
use Rattle.ln_order.specs.Prefixes.{joined}
use Rattle.ln_order.specs.Sites.{ranking_of, sites_of, vars_of}
use Rattle.ln_poly.specs.Sparse.{AreBelow, IsPoly, Sparse}
use Rattle.ln_stage.specs.Kept.{all_rows, list_of, tail}
use Rattle.ln_stage.specs.Segments.{AreSegments}

-- what is listed where the sites of a prefix alone have exponents
abbrev pub front_walk : ℕ → List VarInfo → List (List ℕ) → List ℕ → Found
front_walk b vars ms p = walk (suc b) (ranking_of vars p) ms (zeros (length vars))

-- after the cut there is nothing
abbrev pub unless_cut : Found → Found → Found
unless_cut r t = if r.1 then ([], true) else t

-- what is listed where one more site is reached, and needed
abbrev pub site_walk : ℕ → List VarInfo → List (List ℕ) → List ℕ → ℕ → Found
site_walk b vars ms p s = unless_cut (front_walk b vars ms p) (tail b (vars_of s vars 0) (ranking_of vars p) ms (zeros (length vars)))

-- what is listed at each further prefix of an order
abbrev pub site_walks : ℕ → List VarInfo → List (List ℕ) → List ℕ → List ℕ → List (List (List ℕ))
site_walks b vars ms p [] = []
site_walks b vars ms p (s ∷ o) = (site_walk b vars ms p s).0 ∷ site_walks b vars ms (p ++ s ∷ []) o

-- and at each prefix
abbrev pub prefix_walks : ℕ → List VarInfo → List (List ℕ) → List ℕ → List (List (List ℕ))
prefix_walks b vars ms o = (front_walk b vars ms []).0 ∷ site_walks b vars ms [] o

-- ---- laws
-- One variable of a site more: with exponents of 0 there the walk lists what it lists without the site, and then what needs the
-- site. So the cut of a prefix ends the lists of all that extend it.
abbrev pub WalkGoesSiteBySite : Type 0
WalkGoesSiteBySite =
    (b : ℕ) (vars : List VarInfo) (ms : List (List ℕ)) (p : List ℕ) (s : ℕ) →
    front_walk b vars ms (p ++ s ∷ []) ≡ ((front_walk b vars ms p).0 ++ (site_walk b vars ms p s).0, (site_walk b vars ms p s).1)

-- The list that the landed walk finds for an order is what is listed at its prefixes, one after the other.
abbrev pub ListsAreWalkedByPrefixes : Type 0
ListsAreWalkedByPrefixes =
    (vars : List VarInfo) (f : Sparse) (o : List ℕ) → list_of vars f o ≡ joined (prefix_walks 127 vars (all_rows (length vars) f) o)

-- What is listed at a prefix is its segment.
abbrev pub WalksAreSegments : Type 0
WalksAreSegments =
    (k : ℕ) (vars : List VarInfo) (f : Sparse) (o : List ℕ) → is_laid_out k vars ≡ true → IsOrderOf k o → IsPoly f →
    AreBelow (length vars) f →
    AreSegments (length vars) (sites_of vars o) f 0 (prefix_walks 127 vars (all_rows (length vars) f) o)
