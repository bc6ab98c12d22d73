-- One segment after the other.
use Rattle.std.proofs.Common.{◌≡◌, ◌≢◌, ℕ, ℤ, suc, ◌+◌, ◌-◌, ◌<◌, ◌≤◌, ◌^◌, List, [], ◌∷◌, ◌++◌, length, map, take, drop, refl, sym, ◌∙◌}
use Rattle.std.proofs.Common.{ap, subst, arith, pos}
use Rattle.std.specs.Prelude.{Option, Some, slice_get, AllPairs}
use Rattle.std.specs.List.{range_with_len}
use Rattle.std.proofs.lemmas.List.{drop_all}
use Rattle.ln_order.specs.Order.{IsOrder}
use Rattle.ln_order.specs.Orders.{IsOrderOf}
use Rattle.ln_order.proofs.Listing.OrderExists.{order-exists}
use Rattle.ln_order.proofs.Signs.RowsLemmas.{order-places}
use Rattle.ln_order.specs.Prefixes.{joined}
use Rattle.ln_code.specs.declared.run.Met.{Met}
use Rattle.ln_code.specs.declared.verdict.Verdict.{Verdict}
use Rattle.ln_code.specs.declared.verdict.By.TheVariants.{Stage, Nothing}
use Rattle.ln_base.specs.declared.sign.Sign.TheVariants.{Zero}
use Rattle.ln_code.specs.Part.{Code, Part, block_value, ops_in_blocks, sum_of, wide_at}
use Rattle.ln_code.specs.Kept.{IsProgram}
use Rattle.ln_code.specs.Lists.{list_from, list_of, segment_of}
use Rattle.ln_code.specs.Met.{HasMet, IsMet}
use Rattle.ln_code.specs.Verdict.{along, settled, sign_of}
use Rattle.ln_code.proofs.Verdicts.Stages.{Turn, rest_is, settled_other, block_there}
use Rattle.ln_code.proofs.Verdicts.Sums.{list_few}

-- ---- one block after the other
module _ {zs : List ℤ} {cs : List Code} {answer : Option Verdict} {segment : List ℕ} (rest : List ℕ) {i n : ℕ} {c : Code} {z : ℤ} {w place wide calls : ℕ}
    (t : Turn zs cs segment i n c z w) (m : IsMet zs cs answer (drop i segment ++ rest) (record { place = place; wide = wide; calls = calls }))
  where
    ahead : drop i segment ++ rest ≡ n ∷ (drop (i + 1) segment ++ rest)
    ahead = ap (λ y. y ++ rest) (rest_is segment i n t.below t.named)

    here : slice_get cs n ≡ Some c
    here = block_there zs cs segment i n c z w t

    wide_is : wide_at cs n ≡ w
    wide_is = let g = here in rw (g, t.wide) refl

    settles : along zs cs (drop i segment ++ rest) place wide calls
        ≡ settled z place (wide + w) (calls + 1) (along zs cs (drop (i + 1) segment ++ rest) (place + 1) (wide + w) (calls + 1))
    settles =
        let d = ahead in
        let g = here in
        let v : block_value zs c ≡ Some z = t.value c g in
        rw (d, g, v, t.wide) refl

    sum_is : sum_of (wide_at cs) (drop i segment ++ rest) ≡ w + sum_of (wide_at cs) (drop (i + 1) segment ++ rest)
    sum_is = let d = ahead in let e = wide_is in rw (d, e) refl

    size_is : length (drop i segment ++ rest) ≡ suc (length (drop (i + 1) segment ++ rest))
    size_is = let d = ahead in rw d refl

    -- the wide operations so far and those of this block fit into 32 bits
    pub wide_fits : wide + w < 2 ^ 32
    wide_fits = omega (arith, m.wides, sum_is)

    -- the wide operations of this block fit into 32 bits
    pub block_fits : w < 2 ^ 32
    block_fits = omega (arith, m.wides, sum_is)

    -- the number of calls, with that of this block, fits into 32 bits
    pub calls_fit : calls + 1 < 2 ^ 32
    calls_fit = omega (arith, m.calls, size_is)

    -- the number of the next place fits into 32 bits
    pub place_fits : place + 1 < 2 ^ 32
    place_fits = omega (arith, m.places, size_is)

    -- a block that isn't 0 decides
    pub decides_it : z ≢ pos 0 → answer ≡ Some (record { sign = sign_of z; by = Stage place; wide = wide + w; calls = calls + 1 })
    decides_it h = sym m.goes_on ∙ settles
        ∙ settled_other z place (wide + w) (calls + 1) (along zs cs (drop (i + 1) segment ++ rest) (place + 1) (wide + w) (calls + 1)) h

    -- after one that is 0 the segment goes on
    pub passes_it : z ≡ pos 0 → IsMet zs cs answer (drop (i + 1) segment ++ rest) (record { place = place + 1; wide = wide + w; calls = calls + 1 })
    passes_it h =
        let g : along zs cs (drop i segment ++ rest) place wide calls
        ≡ along zs cs (drop (i + 1) segment ++ rest) (place + 1) (wide + w) (calls + 1) = settles ∙ rw h refl in
        record {
          goes_on = sym g ∙ m.goes_on;
          places = omega (arith, m.places, size_is);
          calls = omega (arith, m.calls, size_is);
          wides = omega (arith, m.wides, sum_is);
        }

-- after the last block the rest remains
pub all_passed : {zs : List ℤ} {cs : List Code} {answer : Option Verdict} (segment rest : List ℕ) {i : ℕ} {met : Met} → length segment ≤ i
    → IsMet zs cs answer (drop i segment ++ rest) met → IsMet zs cs answer rest met
all_passed {zs = zs} {cs = cs} {answer = answer} segment rest {i = i} {met = met} h m =
    subst (λ (y : List ℕ). IsMet zs cs answer (y ++ rest) met) (drop_all i segment h) m

-- ---- one prefix after the other
-- the list from the j-th prefix on is that prefix's segment, and then the list from the next prefix on
pub list_goes : (p : Part) (o : List ℕ) (j : ℕ) → j ≤ length o → list_from p o j ≡ segment_of p (take j o) ++ list_from p o (j + 1)
list_goes p o j h =
    let q : suc (length o) - j ≡ suc (suc (length o) - (j + 1)) = omega (arith, h) in
    ap (λ n. joined (map (λ i. segment_of p (take i o)) (range_with_len j n))) q

-- past the prefix of all places nothing remains
pub list_ends : (p : Part) (o : List ℕ) (j : ℕ) → length o < j → list_from p o j ≡ []
list_ends p o j h =
    let q : suc (length o) - j ≡ 0 = omega (arith, h) in
    ap (λ n. joined (map (λ i. segment_of p (take i o)) (range_with_len j n))) q

-- nothing was met yet
pub met_first : (p : Part) (zs indices : List ℤ) (o : List ℕ) (entered : ℕ) → IsProgram p → length indices ≡ p.shape.sites
    → IsOrder indices o → entered + ops_in_blocks p.blocks < 2 ^ 32
    → IsMet zs p.blocks (along zs p.blocks (list_of p o) 0 0 entered) (list_from p o 0) (record { place = 0; wide = 0; calls = entered })
met_first p zs indices o entered k e r f =
    let g : IsOrderOf p.shape.sites o = subst (λ n. IsOrderOf n o) e (order-places indices o r) in
    let few = list_few p.shape.vars p.blocks (list_of p o) k.blocks (k.lists o g) in
    let a = few.wide in
    let b = few.members in
    record { goes_on = refl; places = omega (arith, b, f); calls = omega (arith, b, f); wides = omega (arith, a, f) }

module _ (p : Part) {zs indices : List ℤ} (order : List ℕ) {j : ℕ} {segment : List ℕ} {met : Met} (entered : ℕ)
    (size : length order ≡ length indices) (within : j ≤ length indices)
    (front : (o : List ℕ) → IsOrder indices o → take j order ≡ take j o) (segment_there : segment ≡ segment_of p (take j order))
    (so_far : (o : List ℕ) → IsOrder indices o → IsMet zs p.blocks (along zs p.blocks (list_of p o) 0 0 entered) (list_from p o j) met) where
  -- in each order of the indices, what was met so far goes on with this segment and then with those of the longer prefixes
  pub met_here : (o : List ℕ) → IsOrder indices o → IsMet zs p.blocks (along zs p.blocks (list_of p o) 0 0 entered) (segment ++ list_from p o (j + 1)) met
  met_here o r =
      let q : segment ≡ segment_of p (take j o) = segment_there ∙ ap (segment_of p) (front o r) in
      let g : list_from p o j ≡ segment ++ list_from p o (j + 1) =
      list_goes p o j (omega (arith, within, r.size)) ∙ ap (λ y. y ++ list_from p o (j + 1)) (sym q) in
      subst (λ (y : List ℕ). IsMet zs p.blocks (along zs p.blocks (list_of p o) 0 0 entered) y met) g (so_far o r)

  -- where no two indices are equal there is an order of them, and so a list that goes on with this segment
  pub has_met : AllPairs (λ y z. y ≢ z) indices → HasMet zs p.blocks segment met
  has_met d =
      let x = order-exists indices d in
      record { answer = along zs p.blocks (list_of p x.0) 0 0 entered; rest = list_from p x.0 (j + 1); begins = met_here x.0 x.1 }

-- at the end nothing decides
pub met_all : (p : Part) (zs : List ℤ) (o : List ℕ) (j : ℕ) (answer : Option Verdict) (met : Met) → length o < j
    → IsMet zs p.blocks answer (list_from p o j) met → answer ≡ Some (record { sign = Zero; by = Nothing; wide = met.wide; calls = met.calls })
met_all p zs o j answer met h m = sym m.goes_on ∙ ap (λ y. along zs p.blocks y met.place met.wide met.calls) (list_ends p o j h)
