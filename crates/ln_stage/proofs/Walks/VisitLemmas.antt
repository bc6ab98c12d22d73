-- One prefix: what is listed there is its segment.
use Rattle.std.proofs.Common.{◌≡◌, ◌⊎◌, inl, inr, ℕ, zero, suc, ◌+◌, ◌-◌, ◌<◌, ◌≤◌, Bool, true, false, List, [], ◌∷◌, ◌++◌, length}
use Rattle.std.proofs.Common.{length-append, get_or, set, take, drop, refl, sym, ◌∙◌, ap, subst, arith}
use Rattle.std.specs.List.{range_with_len}
use Rattle.std.proofs.lemmas.List.{get_or-set_other, get_or-set_same, take-append-drop, take-take, take_all, take_more}
use Rattle.std.proofs.lemmas.Bool.{cases_lt}
use Rattle.std.proofs.Math.Seq.{drop-append_seam, take-append_seam}
use Rattle.ln_algebra.specs.Vector.{zeros}
use Rattle.ln_algebra.specs.Walk.{Found, walk}
use Rattle.ln_algebra.proofs.Expanded.Expansion.{length-zeros}
use Rattle.ln_tree.specs.declared.shape.VarInfo.{VarInfo}
use Rattle.ln_tree.specs.Variables.{is_laid_out}
use Rattle.ln_order.specs.Prefixes.{Follows, IsPrefixOf}
use Rattle.ln_order.specs.Sites.{ranking_of, sites_of, vars_of}
use Rattle.ln_order.proofs.Signs.RankingLemmas.{ranking-is, ranking-append}
use Rattle.ln_order.proofs.Signs.SitesLemmas.{kept as shape-keeps}
use Rattle.ln_poly.specs.Sparse.{AreBelow, AreRising, Sparse}
use Rattle.ln_stage.specs.FirstSight.{last_walk, prefix_walk}
use Rattle.ln_stage.specs.Kept.{AreFresh, all_rows, listed, listed_at, listed_behind, tail}
use Rattle.ln_stage.specs.SiteWalk.{front_walk, site_walk, unless_cut}
use Rattle.ln_stage.specs.Visit.{AreCuts, AreCutsFor, IsStart, cut_before, cut_in, is_cut_at, segment_at}
use Rattle.ln_stage.proofs.Walks.SiteLemmas.{fresh-behind}
use Rattle.ln_stage.proofs.Walks.SiteWalkLemmas.{ranking-last, walk-goes-site-by-site}
use Rattle.ln_stage.proofs.Walks.StartLemmas.{fresh-few, fresh-ranking, rows-start, start-step}
use Rattle.ln_stage.proofs.Walks.WalkLemmas.{at-zero}

-- ---- a prefix and its last site
last-split : (p : List ℕ) (n : ℕ) → length p ≡ suc n → p ≡ take n p ++ get_or p n 0 ∷ []
last-split p n e = sym (take_all (n + 1) p (omega (arith, e))) ∙ take_more p n 0 (omega (arith, e))

last-walked : (b : ℕ) (vars : List VarInfo) (ms : List (List ℕ)) (q : List ℕ) (s : ℕ) (p : List ℕ) (t : ℕ)
    → last_walk b vars ms q s (p ++ t ∷ []) ≡ (site_walk b vars ms (q ++ s ∷ p) t).0
last-walked b vars ms q s [] t = refl
last-walked b vars ms q s (u ∷ p) t =
    let ih = last-walked b vars ms (q ++ s ∷ []) u p t in
    ih ∙ ap (λ z. (site_walk b vars ms z t).0) (seam q s (u ∷ p)) where
      seam : (q : List ℕ) (s : ℕ) (r : List ℕ) → (q ++ s ∷ []) ++ r ≡ q ++ s ∷ r
      seam [] s r = refl
      seam (x ∷ q) s r = ap (λ z. x ∷ z) (seam q s r)

-- what is listed at a prefix is what is listed where its last site is reached after the others
pub walked-last : (b : ℕ) (vars : List VarInfo) (ms : List (List ℕ)) (q : List ℕ) (t : ℕ) → prefix_walk b vars ms (q ++ t ∷ []) ≡ (site_walk b vars ms q t).0
walked-last b vars ms [] t = refl
walked-last b vars ms (s ∷ q) t = last-walked b vars ms [] s q t

-- after the cut nothing is listed, before it the site's walk is
unless-true : (r t : Found) → r.1 ≡ true → unless_cut r t ≡ ([], true)
unless-true (l, true) t h = refl
unless-true (l, false) t h = cc

unless-false : (r t : Found) → r.1 ≡ false → unless_cut r t ≡ t
unless-false (l, true) t h = cc
unless-false (l, false) t h = refl

pairs : (l : List (List ℕ)) (b : Bool) (r : Found) → l ≡ r.0 → b ≡ r.1 → (l, b) ≡ r
pairs l b (m, c) e q = ap (λ z. (z, b)) e ∙ ap (λ z. (m, z)) q

module _ (vars : List VarInfo) (f : Sparse) where
  -- the segment and the cut, from the walk of the last site
  at-last : (p : List ℕ) (n : ℕ) → length p ≡ suc n
      → (segment_at vars f p, is_cut_at vars f p) ≡ site_walk 127 vars (all_rows (length vars) f) (take n p) (get_or p n 0)
  unfolding segment_at is_cut_at
  at-last p n e = pairs _ _ _
      (ap (prefix_walk 127 vars (all_rows (length vars) f)) (last-split p n e) ∙ walked-last 127 vars (all_rows (length vars) f) (take n p) (get_or p n 0))
      (ap (λ z. (front_walk 127 vars (all_rows (length vars) f) z).1) (last-split p n e)
      ∙ ap (λ z. z.1) (walk-goes-site-by-site 127 vars (all_rows (length vars) f) (take n p) (get_or p n 0)))

  before-is : (p : List ℕ) (n : ℕ) → length p ≡ suc n → cut_before (is_cut_at vars f) p ≡ is_cut_at vars f (take n p)
  before-is [] n e = absurd (omega (arith, e))
  before-is (x ∷ p) n e = let q : length p ≡ n = omega (arith, e) in ap (λ m. is_cut_at vars f (take m (x ∷ p))) q

  front-cut : (q : List ℕ) (b : Bool) → is_cut_at vars f q ≡ b → (front_walk 127 vars (all_rows (length vars) f) q).1 ≡ b
  unfolding is_cut_at
  front-cut q b h = h

  some-cut : (p : List ℕ) → cut_before (is_cut_at vars f) p ≡ true → (n : ℕ) × (length p ≡ suc n)
  some-cut [] h = cc
  some-cut (x ∷ p) h = (length p, refl)

  -- where the cut is before the prefix, its segment is empty
  pub nothing-behind : (p : List ℕ) → cut_before (is_cut_at vars f) p ≡ true → ◌≡◌ {A = Found} (segment_at vars f p, is_cut_at vars f p) ([], true)
  nothing-behind p h =
      let n = some-cut p h in
      let z = unless-true (front_walk 127 vars (all_rows (length vars) f) (take n.0 p)) (tail 127 (vars_of (get_or p n.0 0) vars 0)
      (ranking_of vars (take n.0 p)) (all_rows (length vars) f) (zeros (length vars))) (front-cut (take n.0 p) true (sym (before-is p n.0 n.1) ∙ h)) in
      at-last p n.0 n.1 ∙ z

  -- ---- what the program lists
  module _ {p vs kept exps : List ℕ} (w : IsStart vars f p vs kept exps) {sites : List ℕ} (places : sites ≡ p) where
    -- at the empty prefix
    pub first-is : length sites ≡ 0 → listed_at f vs kept exps 0 ≡ (segment_at vars f p, is_cut_at vars f p)
    unfolding listed segment_at is_cut_at
    first-is e = at-zero f vs kept exps ∙ rw (w.ranking, w.all, w.none, none p (ap length (sym places) ∙ e))
        (ap (λ ms. walk 128 [] ms (zeros (length vars))) (rows-start (length vars) f)) where
          none : (q : List ℕ) → length q ≡ 0 → q ≡ []
          none [] h = refl
          none (x ∷ q) h = absurd (omega (arith, h))

    module _ {us : List ℕ} (some : 0 < length sites) (u : us ≡ vars_of (get_or sites (length sites - 1) 0) vars 0) where
      one-more : length p ≡ suc (length sites - 1)
      one-more = omega (arith, ap length places, some)

      of-last : us ≡ vars_of (get_or p (length sites - 1) 0) vars 0
      of-last = u ∙ ap (λ z. vars_of (get_or z (length sites - 1) 0) vars 0) places

      -- the variables of its last site go first
      vars-first : vs ≡ us ++ ranking_of vars (take (length sites - 1) p)
      vars-first = w.ranking ∙ ap (ranking_of vars) (last-split p (length sites - 1) one-more)
          ∙ ranking-last vars (take (length sites - 1) p) (get_or p (length sites - 1) 0)
          ∙ ap (λ z. z ++ ranking_of vars (take (length sites - 1) p)) (sym of-last)

      -- the last site of a prefix has no more variables than the prefix's ranking
      pub last-within : length us ≤ length vs
      last-within = omega (arith, ap length vars-first, length-append us (ranking_of vars (take (length sites - 1) p)))

      -- at any other prefix that no cut comes before
      pub last-is : cut_before (is_cut_at vars f) p ≡ false
          → listed_behind f (take (length us) vs) (drop (length us) vs) kept exps ≡ (segment_at vars f p, is_cut_at vars f p)
      unfolding listed_behind
      last-is c =
          let l : take (length us) vs ≡ us = ap (take (length us)) vars-first ∙ take-append_seam us (ranking_of vars (take (length sites - 1) p)) in
          let r : drop (length us) vs ≡ ranking_of vars (take (length sites - 1) p) =
          ap (drop (length us)) vars-first ∙ drop-append_seam us (ranking_of vars (take (length sites - 1) p)) in
          let z = unless-false (front_walk 127 vars (all_rows (length vars) f) (take (length sites - 1) p))
          (tail 127 (vars_of (get_or p (length sites - 1) 0) vars 0) (ranking_of vars (take (length sites - 1) p)) (all_rows (length vars) f)
          (zeros (length vars))) (front-cut (take (length sites - 1) p) false (sym (before-is p (length sites - 1) one-more) ∙ c)) in
          rw (l, r, of-last, w.all, w.none, rows-start (length vars) f) (sym z) ∙ sym (at-last p (length sites - 1) one-more)

  -- ---- the first step
  -- in the ranking of a prefix each variable is one of the predicate's, and none occurs twice
  pub fresh-front : (k : ℕ) (p : List ℕ) → is_laid_out k vars ≡ true → IsPrefixOf k p → AreFresh (length vars) (ranking_of vars p)
  fresh-front k p laid r =
      let o : List ℕ = r.order in
      let whole = fresh-ranking (length vars) (sites_of vars r.order) (ranking_of vars r.order) (ranking-is k vars r.order laid r.full.size r.full.each) in
      let split : ranking_of vars r.order ≡ ranking_of vars (drop r.places r.order) ++ ranking_of vars p =
      ap (ranking_of vars) (sym (take-append-drop r.places r.order)) ∙ ranking-append vars (take r.places r.order) (drop r.places r.order)
      ∙ ap (λ z. ranking_of vars (drop r.places r.order) ++ ranking_of vars z) (sym r.front) in
      let behind = fresh-behind (length vars) (ranking_of vars r.order) (length (ranking_of vars (drop r.places r.order))) whole in
      subst (AreFresh (length vars)) (ap (drop (length (ranking_of vars (drop r.places r.order)))) split
      ∙ drop-append_seam (ranking_of vars (drop r.places r.order)) (ranking_of vars p)) behind

-- a walk at a prefix starts as it must
pub starts : (vars : List VarInfo) (f : Sparse) {k : ℕ} {p vs kept exps : List ℕ} → is_laid_out k vars ≡ true → IsPrefixOf k p → AreBelow (length vars) f
    → AreRising f → 0 < length f → vs ≡ ranking_of vars p → kept ≡ range_with_len 0 (length f) → exps ≡ zeros (length vars) → IsStart vars f p vs kept exps
starts vars f {k} {p} {vs} {kept} {exps} laid prefix below rising some v a z =
    let r : AreFresh (length vars) vs = subst (AreFresh (length vars)) (sym v) (fresh-front vars f k p laid prefix) in
    let few = (shape-keeps k vars laid).few_vars in
    record {
      ranking = v;
      all = a;
      none = z;
      step = start-step f (length vars) vs kept exps below rising some r a z;
      few = omega (arith, ap length z, length-zeros (length vars), few);
      few_vars = omega (arith, fresh-few (length vars) vs r, few);
    }

-- the same in other words
pub start-is : {vars : List VarInfo} {f : Sparse} {p vs kept exps ws places q : List ℕ} → ws ≡ vs → places ≡ kept → q ≡ exps
    → IsStart vars f p vs kept exps → IsStart vars f p ws places q
start-is v a z h = rw (v, a, z) h

-- as many exponents as variables
pub start-size : {vars : List VarInfo} {f : Sparse} {p vs kept exps : List ℕ} → IsStart vars f p vs kept exps → length exps ≡ length vars
start-size {vars} w = ap length w.none ∙ length-zeros (length vars)

-- ---- what is kept by length
module _ (cut : List ℕ → Bool) where
  -- what is kept for the length before is whether the cut comes before the prefix
  pub cut-of : (p : List ℕ) (cuts : List Bool) → AreCuts cut (length p) p cuts → cut_in cuts (length p) ≡ cut_before cut p
  cut-of [] cuts h = refl
  cut-of (x ∷ p) cuts h = h (length p) (omega arith)

  -- one length more
  pub cuts-more : (p : List ℕ) (cuts : List Bool) (b : Bool) → length cuts ≡ 6 → length p ≤ 5 → AreCuts cut (length p) p cuts
      → b ≡ cut p → AreCuts cut (length p + 1) p (set cuts (length p) b)
  cuts-more p cuts b six few h e j l = go (cases_lt j (length p)) where
    go : (j < length p) ⊎ (length p ≤ j) → get_or (set cuts (length p) b) j false ≡ cut (take j p)
    go (inl m) = get_or-set_other cuts (length p) j b false (λ q. omega (arith, q, m)) ∙ h j m
    go (inr m) =
        let q : j ≡ length p = omega (arith, l, m) in
        rw q (get_or-set_same cuts (length p) b false (omega (arith, six, few)) ∙ e ∙ ap cut (sym (take_all (length p) p (omega arith))))

  -- at the prefix that follows
  cuts-next : (p q : List ℕ) (cuts : List Bool) → Follows p q → AreCuts cut (length p + 1) p cuts → AreCuts cut (length q) q cuts
  cuts-next p q cuts w h j l =
      let m : ℕ = length q - 1 in
      let le : j ≤ length q - 1 = omega (arith, l) in
      let same : take j p ≡ take j q = sym (take-take j (length q - 1) p le) ∙ ap (take j) w.shared ∙ take-take j (length q - 1) q le in
      h j (omega (arith, l, w.near)) ∙ ap cut same

  -- where each prefix in a list follows the one before it, the cuts kept up to one of them are those that the next one needs
  pub cuts-go : (ps : List (List ℕ)) (i : ℕ) (p : List ℕ) (rest : List (List ℕ)) (cuts : List Bool)
      → ((i : ℕ) → suc i < length ps → Follows (get_or ps i []) (get_or ps (suc i) [])) → drop i ps ≡ p ∷ rest
      → AreCuts cut (length p + 1) p cuts → AreCutsFor cut rest cuts
  cuts-go [] zero p rest cuts all e h = cc
  cuts-go [] (suc i) p rest cuts all e h = cc
  cuts-go (q ∷ ps) (suc i) p rest cuts all e h = cuts-go ps i p rest cuts (λ j l. all (suc j) (omega (arith, l))) e h
  cuts-go (q ∷ []) zero p rest cuts all e h = let z : [] ≡ rest = cc in subst (λ r. AreCutsFor cut r cuts) z tt
  cuts-go (q ∷ (u ∷ ps)) zero p rest cuts all e h =
      let z : u ∷ ps ≡ rest = cc in
      let y : q ≡ p = cc in
      let a : AreCuts cut (length q + 1) q cuts = rw y h in
      subst (λ r. AreCutsFor cut r cuts) z (cuts-next q u cuts (all 0 (omega arith)) a)
