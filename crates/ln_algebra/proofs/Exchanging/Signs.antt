-- Proves how an exchange carries the order of vectors, the first vector and the sign along to the other row.
use Rattle.std.proofs.Common.{◌≡◌, ℕ, ◌<◌, ◌≤◌, refl, sym, ◌∙◌, ap, arith, List, length, get_or, Option, Some, None, is_some, ◌⊎◌, inl, inr, true, false}
use Rattle.std.proofs.lemmas.Bool.{cases_lt}
use Rattle.std.proofs.lemmas.Int.{ints}
use Rattle.std.proofs.lemmas.List.{get_or_past}
use Rattle.std.proofs.Math.IntN.{ℤ, pos, negsuc, ◌*ℤ◌}
use Rattle.ln_algebra.proofs.Exchanging.Vectors.{degree-exchanged, exchanged-twice, get-exchanged, get-past, length-exchanged}
use Rattle.ln_algebra.proofs.Exchanging.Values.{coefficients-turn, turned}
use Rattle.ln_algebra.proofs.Ordering.Products.{sign-times}
use Rattle.ln_algebra.specs.Earlier.{Earlier, IsOver, RanksBefore, Sites}
use Rattle.ln_algebra.specs.Exchange.{Exchanges, Turns, ValuesExchange, exchanged}
use Rattle.ln_algebra.specs.Orders.{Before, ByDegree, BySmallest, Rank}
use Rattle.ln_algebra.specs.Sign.{IsFirstIn, IsSignIn, perturbed, sign_of}
use Rattle.ln_algebra.specs.Tree.{InputsBelow, Tree}

-- ---- there and back
-- one of no site
none-of : (o u : Option ℕ) → is_some o ≡ is_some u → u ≡ None → o ≡ None
none-of None u e q = refl
none-of (Some t) u e q = absurd (let z : true ≡ false = e ∙ ap is_some q in cc)

-- one of a site
some-of : (o u : Option ℕ) (s : ℕ) → is_some o ≡ is_some u → u ≡ Some s → (t : ℕ) × (o ≡ Some t)
some-of None u s e q = absurd (let z : false ≡ true = e ∙ ap is_some q in cc)
some-of (Some t) u s e q = (t, refl)

-- ranks by the names of the partners
pub ranks-named : (sites : Sites) (v w u z : ℕ) → v ≡ u → w ≡ z → RanksBefore sites v w → RanksBefore sites u z
ranks-named sites v w u z p q r = let h : RanksBefore sites u w = rw p at r in rw q at h

-- an exchange goes back
exchanges-back : (n : ℕ) (partner : ℕ → ℕ) (was now : Sites) → Exchanges n partner was now → Exchanges n partner now was
exchanges-back n partner was now ex = record {
  within = ex.within;
  twice = ex.twice;
  of_sites = λ v. ap (λ z. is_some (was.site z)) (sym (ex.twice v)) ∙ sym (ex.of_sites (partner v));
  ranks = λ v w. (
    (λ r. (ex.ranks (partner v) (partner w)).1 (ranks-named now v w (partner (partner v)) (partner (partner w)) (sym (ex.twice v)) (sym (ex.twice w)) r)),
    (λ r. ranks-named now (partner (partner v)) (partner (partner w)) v w (ex.twice v) (ex.twice w) ((ex.ranks (partner v) (partner w)).0 r)),
  );
}

-- values go back
values-back : (n : ℕ) (partner : ℕ → ℕ) (x y : ℕ → ℤ) → ((v : ℕ) → v < n → partner v < n) → ((v : ℕ) → partner (partner v) ≡ v)
    → ValuesExchange n partner x y → ValuesExchange n partner y x
values-back n partner x y within twice xy v h = ap x (sym (twice v)) ∙ sym (xy (partner v) (within v h))

-- ---- the order
module _ (n : ℕ) (partner : ℕ → ℕ) (was now : Sites) (ex : Exchanges n partner was now) where
  -- the exponent of each variable is at its partner
  at-partner : (a : List ℕ) (v : ℕ) → length a ≡ n → get_or (exchanged partner a) (partner v) 0 ≡ get_or a v 0
  at-partner a v l = by_place (cases_lt v n) where
    by_place : (v < n) ⊎ (n ≤ v) → get_or (exchanged partner a) (partner v) 0 ≡ get_or a v 0
    by_place (inl h) = get-exchanged n partner ex.within ex.twice a (partner v) l (ex.within v h) ∙ ap (λ z. get_or a z 0) (ex.twice v)
    by_place (inr h) = by_partner (cases_lt (partner v) n) where
      by_partner : (partner v < n) ⊎ (n ≤ partner v) → get_or (exchanged partner a) (partner v) 0 ≡ get_or a v 0
      by_partner (inl k) = absurd (omega (arith, h, ex.within (partner v) k, ex.twice v))
      by_partner (inr k) = get-past n partner ex.within ex.twice a (partner v) l k ∙ sym (get_or_past a v 0 (omega (arith, l, h)))

  -- where the smaller exponent is, is the smaller exponent's partner
  earlier-exchanged : (a b : List ℕ) → length a ≡ n → length b ≡ n → Earlier was a b → Earlier now (exchanged partner a) (exchanged partner b)
  earlier-exchanged a b l k (v, s, o, less, same) =
      let t = some-of (now.site (partner v)) (was.site v) s (ex.of_sites (partner v) ∙ ap (λ z. is_some (was.site z)) (ex.twice v)) o in (
        partner v,
        t.0,
        t.1,
        omega (arith, less, at-partner a v l, at-partner b v k),
        (λ w r.
            let q : partner (partner w) ≡ w = ex.twice w in
            let u : RanksBefore was v (partner w) =
            (ex.ranks v (partner w)).1 (ranks-named now (partner v) w (partner v) (partner (partner w)) refl (sym q) r) in
            let e : get_or a (partner w) 0 ≡ get_or b (partner w) 0 = same (partner w) u in
            let f : get_or (exchanged partner a) w 0 ≡ get_or a (partner w) 0 =
            ap (λ z. get_or (exchanged partner a) z 0) (sym q) ∙ at-partner a (partner w) l in
            let g : get_or (exchanged partner b) w 0 ≡ get_or b (partner w) 0 =
            ap (λ z. get_or (exchanged partner b) z 0) (sym q) ∙ at-partner b (partner w) k in
            f ∙ e ∙ sym g),
      )

  -- in either order of infinitesimals
  pub before-exchanged : (rank : Rank) (a b : List ℕ) → length a ≡ n → length b ≡ n → Before rank was a b
      → Before rank now (exchanged partner a) (exchanged partner b)
  before-exchanged BySmallest a b l k h = earlier-exchanged a b l k h
  before-exchanged ByDegree a b l k (inl h) =
      inl (omega (arith, h, degree-exchanged n partner ex.within ex.twice a l, degree-exchanged n partner ex.within ex.twice b k))
  before-exchanged ByDegree a b l k (inr h) =
      inr (degree-exchanged n partner ex.within ex.twice a l ∙ h.0 ∙ sym (degree-exchanged n partner ex.within ex.twice b k), earlier-exchanged a b l k h.1)

  -- a vector over the variables of sites stays one
  over-sites : (a : List ℕ) → IsOver n was a → IsOver n now (exchanged partner a)
  over-sites a o = record {
    size = length-exchanged n partner ex.within ex.twice a ∙ o.size;
    of_sites = λ v h.
        let q : was.site (partner v) ≡ None = none-of (was.site (partner v)) (now.site v) (sym (ex.of_sites v)) h in
        ap (λ z. get_or (exchanged partner a) z 0) (sym (ex.twice v)) ∙ at-partner a (partner v) o.size ∙ o.of_sites (partner v) q;
  }

-- ---- the first vector and the sign
-- a product of 1 or -1 that is 0
turn-zero : (s z : ℤ) → (s ≡ pos 1) ⊎ (s ≡ negsuc 0) → z ≡ pos 0 → s *ℤ z ≡ pos 0
turn-zero s z t e = rw e (omega (arith, ints))

-- 1 and -1 are their own signs
turn-sign : (s : ℤ) → (s ≡ pos 1) ⊎ (s ≡ negsuc 0) → sign_of s ≡ s
turn-sign s (inl q) = rw q refl
turn-sign s (inr q) = rw q refl

module _ (rank : Rank) (n : ℕ) (partner : ℕ → ℕ) (was now : Sites) (x y : ℕ → ℤ) (s : ℤ) (e : Tree) where
  -- the first vector is exchanged
  pub first-exchanged : Exchanges n partner was now → ValuesExchange n partner x y → InputsBelow n e → Turns n partner s e
      → (a : List ℕ) → IsFirstIn (Before rank was) n was x e a → IsFirstIn (Before rank now) n now y e (exchanged partner a)
  first-exchanged ex xy i t a f =
      let back = exchanges-back n partner was now ex in
      let turn = coefficients-turn n partner was now x y s e a ex xy i t f.over.size in
      record {
        over = over-sites n partner was now ex a f.over;
        small = omega (arith, f.small, degree-exchanged n partner ex.within ex.twice a f.over.size);
        nonzero = λ z. f.nonzero (turned s (perturbed now y e (exchanged partner a)) (perturbed was x e a) t.turn turn
            ∙ turn-zero s (perturbed now y e (exchanged partner a)) t.turn z);
        zero_before = λ b o l h.
            let c : List ℕ = exchanged partner b in
            let q : exchanged partner c ≡ b = exchanged-twice n partner ex.within ex.twice b o.size in
            let r : exchanged partner (exchanged partner a) ≡ a = exchanged-twice n partner ex.within ex.twice a f.over.size in
            let p : IsOver n was c = over-sites n partner now was back b o in
            let k : Before rank was c (exchanged partner (exchanged partner a)) =
            before-exchanged n partner now was back rank b (exchanged partner a) o.size (length-exchanged n partner ex.within ex.twice a ∙ f.over.size) h in
            let none : perturbed was x e c ≡ pos 0 =
            f.zero_before c p (omega (arith, l, degree-exchanged n partner ex.within ex.twice b o.size)) (rw r at k) in
            ap (λ z. perturbed now y e z) (sym q)
            ∙ coefficients-turn n partner was now x y s e c ex xy i t p.size
            ∙ turn-zero s (perturbed was x e c) t.turn none;
      }

-- the sign is turned
pub sign-turned : (rank : Rank) (n : ℕ) (partner : ℕ → ℕ) (was now : Sites) (x y : ℕ → ℤ) (s : ℤ) (e : Tree) (sign : ℤ) → Exchanges n partner was now
    → ValuesExchange n partner x y → InputsBelow n e → Turns n partner s e
    → IsSignIn (Before rank was) n was x e sign → IsSignIn (Before rank now) n now y e (s *ℤ sign)
sign-turned rank n partner was now x y s e sign ex xy i t (inl (a, f, p)) =
    inl (
      exchanged partner a,
      first-exchanged rank n partner was now x y s e ex xy i t a f,
      ap (λ z. s *ℤ z) p
          ∙ ap (λ z. z *ℤ sign_of (perturbed was x e a)) (sym (turn-sign s t.turn))
          ∙ sym (sign-times s (perturbed was x e a))
          ∙ ap sign_of (sym (coefficients-turn n partner was now x y s e a ex xy i t f.over.size)),
    )
sign-turned rank n partner was now x y s e sign ex xy i t (inr (none, p)) =
    inr (
      (λ b g. none (exchanged partner b)
          (first-exchanged rank n partner now was y x s e (exchanges-back n partner was now ex)
          (values-back n partner x y ex.within ex.twice xy) i t b g)),
      turn-zero s sign t.turn p,
    )
