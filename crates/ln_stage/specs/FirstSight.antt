-- Going through the lists of all orders and going through the segments of all prefixes: the same vectors in the same order of
-- first sight, and how many stages there are.
use Rattle.std.specs.Prelude.{◌≡◌, ℕ, ◌+◌, ◌-◌, ◌*◌, ◌≤◌, List, [], ◌∷◌, ◌++◌, length, map}
use Rattle.ln_tree.specs.declared.shape.VarInfo.{VarInfo}
use Rattle.ln_order.specs.Orders.{orders_of}
use Rattle.ln_stage.specs.Lists.{first_seen, stage_count}
use Rattle.ln_order.specs.Prefixes.{prefixes_of}
use Rattle.ln_stage.specs.SiteWalk.{front_walk, site_walk}

-- the list of an order, from the segments of its prefixes
abbrev pub list_along : (List ℕ → List (List ℕ)) → List ℕ → List (List ℕ)
list_along segment [] = segment []
list_along segment (x ∷ o) = segment [] ++ list_along (λ p. segment (x ∷ p)) o

-- how many stages there are in all lists: a segment of j sites is in as many lists as the remaining sites have orders
abbrev pub shared_count : ℕ → (List ℕ → List (List ℕ)) → List (List ℕ) → ℕ
shared_count k segment [] = 0
shared_count k segment (p ∷ ps) = length (orders_of (k - length p)) * length (segment p) + shared_count k segment ps

-- what the walk lists at a prefix: after q the site s, and then these
abbrev pub last_walk : ℕ → List VarInfo → List (List ℕ) → List ℕ → ℕ → List ℕ → List (List ℕ)
last_walk b vars ms q s [] = (site_walk b vars ms q s).0
last_walk b vars ms q s (t ∷ p) = last_walk b vars ms (q ++ s ∷ []) t p

-- what the walk lists at a prefix, which may be empty
abbrev pub prefix_walk : ℕ → List VarInfo → List (List ℕ) → List ℕ → List (List ℕ)
prefix_walk b vars ms [] = (front_walk b vars ms []).0
prefix_walk b vars ms (s ∷ p) = last_walk b vars ms [] s p

-- ---- laws
-- vectors that are numbered in order of first sight have the same numbers either way, whatever is at the prefixes
abbrev pub FirstSightByPrefixes : Type 0
FirstSightByPrefixes =
    (k : ℕ) (segment : List ℕ → List (List ℕ)) →
    (first_seen (map (list_along segment) (orders_of k)) ≡ first_seen (map segment (prefixes_of k)))
    × (stage_count (map (list_along segment) (orders_of k)) ≡ shared_count k segment (prefixes_of k))

-- the stages at the prefixes, each counted once, are at most those in all lists: where their count exceeds a limit, so does the stage count
abbrev pub SegmentsAreFewer : Type 0
SegmentsAreFewer = (k : ℕ) (segment : List ℕ → List (List ℕ)) →
    stage_count (map segment (prefixes_of k)) ≤ shared_count k segment (prefixes_of k)
