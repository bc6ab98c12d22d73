-- Proves that the sign of a row whose sites are exchanged is turned as the polynomial is.
use Rattle.std.proofs.Common.{◌≡◌, ℕ, suc, ◌<◌, refl, sym, ◌∙◌, ap, subst, arith, List, length, Bool, true, false, eqb, if◌then◌else◌, Option, Some, None}
use Rattle.std.proofs.Common.{is_some, option_map, ◌⊎◌, inl, inr, unsigned_abs}
use Rattle.std.proofs.lemmas.Bool.Decides.{nat_tests}
use Rattle.std.proofs.lemmas.Int.{ints}
use Rattle.std.proofs.Math.IntN.{ℤ, pos, negsuc, ◌*ℤ◌}
use Rattle.ln_algebra.proofs.Expanded.Ring.{mul_assoc, one_mul}
use Rattle.ln_algebra.specs.Earlier.{Of, RanksBefore, Sites}
use Rattle.ln_algebra.specs.Orders.{Rank}
use Rattle.ln_algebra.specs.Tree.{InputsBelow, Tree}
use Rattle.ln_tree.specs.declared.shape.VarInfo.{VarInfo}
use Rattle.ln_tree.specs.Row.{Row, values}
use Rattle.ln_order.specs.Order.{index_at}
use Rattle.ln_order.specs.Rows.{RowSign}
use Rattle.ln_order.specs.Sites.{row_sites, site_of}
use Rattle.ln_algebra.specs.Exchange.{Exchanges, Turns}
use Rattle.ln_order.specs.Exchanged.{AreAlike, AreExchanged, ExchangedRowSign, StepsTo, NeighboursTurn, SignAlongSteps, goes, other_of, stays}
use Rattle.ln_algebra.proofs.Exchanging.Signs.{ranks-named, sign-turned}

-- ---- the other site
-- the other's other is the site
other-twice : (j k s : ℕ) → other_of j k (other_of j k s) ≡ s
other-twice j k s = by_case (eqb s j) refl (eqb s k) refl (eqb k j) refl where
  by_case : (b : Bool) → eqb s j ≡ b → (c : Bool) → eqb s k ≡ c → (d : Bool) → eqb k j ≡ d → other_of j k (other_of j k s) ≡ s
  by_case b p c q d r = grind (arith, nat_tests)

-- whether there is one
some-map : (f : ℕ → ℕ) (o : Option ℕ) → is_some (option_map f o) ≡ is_some o
some-map f None = refl
some-map f (Some s) = refl

-- rows are exchanged both ways
back : (vars : List VarInfo) (j k : ℕ) (partner : ℕ → ℕ) (was now : Row) → AreAlike vars j k partner
    → AreExchanged vars j k partner was now → AreExchanged vars j k partner now was
back vars j k partner was now a x = record {
  size = sym x.size;
  count = sym x.count;
  index = λ s. ap (index_at was.index) (sym (other-twice j k s)) ∙ sym (x.index (other_of j k s));
  value = λ v h. ap (values was.values) (sym (a.twice v)) ∙ sym (x.value (partner v) (a.within v h));
}

-- ranks are those of the partners
ranks-there : (vars : List VarInfo) (j k : ℕ) (partner : ℕ → ℕ) (was now : Row) → AreAlike vars j k partner
    → AreExchanged vars j k partner was now → (v w : ℕ) → RanksBefore (row_sites vars was.index) v w
    → RanksBefore (row_sites vars now.index) (partner v) (partner w)
ranks-there vars j k partner was now a x v w (s, t, o, p, h) =
    (other_of j k s, other_of j k t, a.sites v ∙ ap (option_map (other_of j k)) o, a.sites w ∙ ap (option_map (other_of j k)) p, by_case h) where
      at : (u : ℕ) → unsigned_abs (index_at now.index (other_of j k u)) ≡ unsigned_abs (index_at was.index u)
      at u = ap unsigned_abs (x.index (other_of j k u) ∙ ap (index_at was.index) (other-twice j k u))

      by_case : (unsigned_abs (index_at was.index s) < unsigned_abs (index_at was.index t)) ⊎ ((s ≡ t) × (w < v))
          → (unsigned_abs (index_at now.index (other_of j k s)) < unsigned_abs (index_at now.index (other_of j k t)))
          ⊎ ((other_of j k s ≡ other_of j k t) × (partner w < partner v))
      by_case (inl l) = inl (omega (arith, l, at s, at t))
      by_case (inr l) = inr (ap (other_of j k) l.0, a.declared w v t p (o ∙ ap Some l.0) l.1)

-- the rows' sites are exchanged
exchanges-rows : (vars : List VarInfo) (j k : ℕ) (partner : ℕ → ℕ) (was now : Row) → AreAlike vars j k partner
    → AreExchanged vars j k partner was now → Exchanges (length vars) partner (row_sites vars was.index) (row_sites vars now.index)
exchanges-rows vars j k partner was now a x = record {
  within = a.within;
  twice = a.twice;
  of_sites = λ v. sym (ap is_some (a.sites v) ∙ some-map (other_of j k) (site_of vars v));
  ranks = λ v w. (
    ranks-there vars j k partner was now a x v w,
    (λ r. ranks-named (row_sites vars was.index) (partner (partner v)) (partner (partner w)) v w (a.twice v) (a.twice w)
        (ranks-there vars j k partner now was a (back vars j k partner was now a x) (partner v) (partner w) r)),
  );
}

-- the sign is turned
pub exchanged-row : ExchangedRowSign
exchanged-row rank vars e j k partner s was now sign a x i t =
    sign-turned rank (length vars) partner (row_sites vars was.index) (row_sites vars now.index) (values was.values) (values now.values) s e sign
    (exchanges-rows vars j k partner was now a x) x.value i t

-- as often as neighbours are exchanged
steps-turn : (rank : Rank) (sites : ℕ) (vars : List VarInfo) (e : Tree) (partner : ℕ → ℕ → ℕ) (s t : ℤ) (row sorted : Row) (sign : ℤ)
    → InputsBelow (length vars) e → NeighboursTurn sites vars partner s e → StepsTo sites vars partner s row sorted t
    → RowSign rank vars e sorted sign → RowSign rank vars e row (t *ℤ sign)
steps-turn rank sites vars e partner s t row sorted sign i n (stays r) h = subst (λ z. RowSign rank vars e row z) (sym (one_mul sign)) h
steps-turn rank sites vars e partner s t row sorted sign i n (goes was now end u j l x more) h =
    let both = n j l in
    let next : RowSign rank vars e now (u *ℤ sign) = steps-turn rank sites vars e partner s u now sorted sign i n more h in
    let here : RowSign rank vars e was (s *ℤ (u *ℤ sign)) =
    exchanged-row rank vars e j (suc j) (partner j) s now was (u *ℤ sign) both.0 (back vars j (suc j) (partner j) was now both.0 x) i both.1 next in
    subst (λ z. RowSign rank vars e was z) (sym (mul_assoc s u sign)) here

-- the same for the clause
pub sign-along-steps : SignAlongSteps
sign-along-steps = steps-turn
