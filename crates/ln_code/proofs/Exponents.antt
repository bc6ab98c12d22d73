-- Exponents that are read pair by pair.
use Rattle.std.proofs.Common.{◌≡◌, ◌↔◌, ℕ, ◌<◌, zero, suc, List, [], ◌∷◌, length, take, drop, get_or, arith, true}
use Rattle.std.specs.Prelude.{slice_get}
use Rattle.ln_tree.specs.declared.shape.VarInfo.{VarInfo}
use Rattle.ln_tree.specs.Exps.{IsAbove, IsRising, Pairs}
use Rattle.ln_code.specs.Kept.{AreOfSites, is_of_site}

-- whether the variables from place i on are coordinates of sites decides
abbrev pub SitesDecide : List VarInfo → Pairs → ℕ → Type 0
SitesDecide vars a i = AreOfSites vars (drop i a) ↔ AreOfSites vars a

-- whether those from place i on are below v decides
abbrev pub BelowDecides : Pairs → ℕ → ℕ → Type 0
BelowDecides a v i = IsAbove (drop i a) v ↔ IsAbove a v

-- the pairs before place i were read, and rise
abbrev pub Read : Pairs → ℕ → Pairs → Type 0
Read a i out = (out ≡ take i a) × IsRising (take i a)

-- each exponent of pairs that rise is from 1 to 127
pub rising-at : (a : Pairs) (i : ℕ) → IsRising a → i < length a → (0 < (get_or a i (0, 0)).1) × ((get_or a i (0, 0)).1 < 128)
rising-at [] i r l = absurd (omega (arith, l))
rising-at (p ∷ a) zero r l = (r.0, r.1)
rising-at (p ∷ a) (suc i) r l = rising-at a i r.3 (omega (arith, l))

-- a coordinate of a site is one of the variables
pub site-within : (vars : List VarInfo) (v : ℕ) → is_of_site (slice_get vars v) ≡ true → v < length vars
site-within [] v h = cc
site-within (x ∷ vars) zero h = omega arith
site-within (x ∷ vars) (suc v) h = omega (arith, site-within vars v h)

-- coordinates of sites are below the number of variables
pub sites-above : (vars : List VarInfo) (a : Pairs) → AreOfSites vars a → IsAbove a (length vars)
sites-above vars [] h = tt
sites-above vars (x ∷ a) h = (site-within vars x.0 h.0, sites-above vars a h.1)
