-- The steps of the loops over the words of a number.
use Rattle.std.proofs.Common.{◌≡◌, ◌⊎◌, inl, inr, ℕ, zero, suc, ◌+◌, ◌-◌, ◌*◌, ◌/◌, ◌%◌, ◌<◌, ◌≤◌, ◌^◌, All, List, [], ◌∷◌, ◌++◌, length, get_or, set}
use Rattle.std.proofs.Common.{refl, sym, ◌∙◌, ap, arith, subst, take, drop, replicate, Less, Equal, Greater}
use Rattle.std.proofs.Math.Nat.{add-mul-div_left, add-mul-div_right, div-div-eq-div-mul, div-eq_of_lt, div-mul-le_self, mod-eq_of_lt, mul-le-mul_left}
use Rattle.std.proofs.Math.Nat.{add-mul, mul_assoc, mul_comm, mul_left_comm}
use Rattle.std.proofs.Math.Nat.{lt_of_mul-lt-mul_right, pow-le-pow_right}
use Rattle.std.proofs.lemmas.Bool.{cases_lt}
use Rattle.std.proofs.lemmas.Cmp.{ranked}
use Rattle.std.specs.Ordering.{MatchOrdering, nat_cmp}
use Rattle.std.specs.declared.cmp.Ordering.{Ordering}
use Rattle.std.proofs.lemmas.Nat.{pow-add, pow_pos}
use Rattle.std.proofs.lemmas.List.{drop_all, get_or-replicate, length-replicate, length-set, length-take-le, take_all, take_more, take_more_set}
use Rattle.std.proofs.lemmas.List.Elements.{All-get_or, All-head, All-replicate, All-set, All-tail, All-take}
use Rattle.ln_poly.specs.Words.{AreWords, IsPlace, half, value}

-- each word is below the base
abbrev pub AreLow : List ℕ → Type 0
AreLow ws = All (λ w. w < 2 ^ 127) ws

-- words of n bits, and a further one
pub pow-suc_word : (i : ℕ) → 2 ^ (127 * suc i) ≡ 2 ^ 127 * 2 ^ (127 * i)
pow-suc_word i = ap (λ z. 2 ^ z) (omega arith) ∙ pow-add 2 127 (127 * i)

-- a further word's weight
place-suc : (x i : ℕ) → x * 2 ^ (127 * suc i) ≡ 2 ^ 127 * (x * 2 ^ (127 * i))
place-suc x i = ap (λ z. x * z) (pow-suc_word i) ∙ mul_left_comm x (2 ^ 127) (2 ^ (127 * i))

-- half of the numbers are fewer than all
pub half-le : (n : ℕ) → half n ≤ 2 ^ (127 * n)
half-le zero = omega arith
half-le (suc n) = let h : 127 * n + 126 ≤ 127 * suc n = omega arith in pow-le-pow_right (omega arith) h

-- the sum of two of that half is a number of as many words
pub half-sum : (n a b : ℕ) → a < half n → b < half n → a + b < 2 ^ (127 * n)
half-sum zero a b p q = absurd (omega (arith, p))
half-sum (suc n) a b p q = let e : 2 ^ (127 * suc n) ≡ 2 ^ (1 + (127 * n + 126)) = ap (λ z. 2 ^ z) (omega arith) in
    omega (arith, p, q, e, pow-add 2 1 (127 * n + 126))

-- ---- the number of words
-- one word more
pub value-push : (ws : List ℕ) (w : ℕ) → value (ws ++ (w ∷ [])) ≡ value ws + w * 2 ^ (127 * length ws)
value-push [] w = omega arith
value-push (x ∷ ws) w = omega (arith, value-push ws w, place-suc w (length ws))

-- no word
pub value-zero : (n : ℕ) → value (replicate n 0) ≡ 0
value-zero zero = refl
value-zero (suc n) = omega (arith, value-zero n)

-- another word in the place of one
pub value-set : (ws : List ℕ) (i x : ℕ) → i < length ws → value (set ws i x) + get_or ws i 0 * 2 ^ (127 * i) ≡ value ws + x * 2 ^ (127 * i)
value-set [] i x h = absurd (omega arith)
value-set (w ∷ ws) zero x h = omega arith
value-set (w ∷ ws) (suc i) x h = omega (arith, value-set ws i x (omega arith), place-suc x i, place-suc (get_or ws i 0) i)

-- it has as many bits as there are words
pub value-below : (ws : List ℕ) → AreLow ws → value ws < 2 ^ (127 * length ws)
value-below [] h = omega arith
value-below (w ∷ ws) h =
    let l : w < 2 ^ 127 = All-head (λ z. z < 2 ^ 127) w ws h in
    omega (arith, l, value-below ws (All-tail (λ z. z < 2 ^ 127) w ws h), pow-suc_word (length ws))

-- the words from one on
pub above : List ℕ → ℕ → ℕ
above ws i = get_or ws i 0 + 2 ^ 127 * value (drop (suc i) ws)

-- the words below one, and those from it on
pub value-split : (ws : List ℕ) (i : ℕ) → i < length ws → value ws ≡ value (take i ws) + above ws i * 2 ^ (127 * i)
unfolding above
value-split [] i h = absurd (omega arith)
value-split (w ∷ ws) zero h = omega arith
value-split (w ∷ ws) (suc i) h = omega (arith, value-split ws i (omega arith), place-suc (above ws i) i)

-- ---- order
-- the highest word that differs decides
pub value-rises : (ws us : List ℕ) (i : ℕ) → length ws ≡ length us → AreLow ws → i < length ws → drop (suc i) ws ≡ drop (suc i) us
    → get_or ws i 0 < get_or us i 0 → value ws < value us
value-rises [] us i e h l d g = absurd (omega arith)
value-rises (w ∷ ws) [] i e h l d g = absurd (omega (arith, e))
value-rises (w ∷ ws) (u ∷ us) zero e h l d g = omega (arith, g, ap value d)
value-rises (w ∷ ws) (u ∷ us) (suc i) e h l d g =
    let p : value ws < value us = value-rises ws us i (omega (arith, e)) (All-tail (λ z. z < 2 ^ 127) w ws h) (omega (arith, l)) d g in
    let q : w < 2 ^ 127 = All-head (λ z. z < 2 ^ 127) w ws h in
    omega (arith, p, q)

-- ---- sums
-- the sum of the first i words, and the carry
pub record IsSum (n : ℕ) (a b words : List ℕ) (carry i : ℕ) : Type 0 where
  pub sum : value (take i words) + carry * 2 ^ (127 * i) ≡ value (take i a) + value (take i b)
  pub form : AreWords n words
  pub low : carry ≤ 1

-- 0 in each word
zeros : (n : ℕ) → AreWords n (replicate n 0)
zeros n = (length-replicate n 0, All-replicate (λ w. w < 2 ^ 127) n 0 (omega arith))

-- no word yet
pub sum-begin : (n : ℕ) (a b words : List ℕ) → words ≡ replicate n 0 → IsSum n a b words 0 0
sum-begin n a b words e = record { sum = refl; form = subst (AreWords n) (sym e) (zeros n); low = omega arith }

-- the words so far and a further one
value-take : (ws : List ℕ) (i : ℕ) → i < length ws → value (take (i + 1) ws) ≡ value (take i ws) + get_or ws i 0 * 2 ^ (127 * i)
value-take ws i h = ap value (take_more ws i 0 h) ∙ value-push (take i ws) (get_or ws i 0)
    ∙ ap (λ z. value (take i ws) + get_or ws i 0 * 2 ^ (127 * z)) (length-take-le i ws (omega (arith, h)))

-- the sum of two words and a carry is two words
pub sum-word : (n : ℕ) (a b words : List ℕ) (carry i : ℕ) → AreWords n a → AreWords n b → IsSum n a b words carry i → i < n
    → (get_or a i 0 + get_or b i 0) + carry < 2 ^ 128
sum-word n a b words carry i p q r h = omega (
  arith,
  r.low,
  All-get_or (λ z. z < 2 ^ 127) a i 0 (omega (arith, p.0, h)) p.1,
  All-get_or (λ z. z < 2 ^ 127) b i 0 (omega (arith, q.0, h)) q.1,
)

-- one word more
pub sum-step : (n : ℕ) (a b words : List ℕ) (carry carry' i w x : ℕ) → AreWords n a → AreWords n b → IsSum n a b words carry i → i < n
    → w ≡ (get_or a i 0 + get_or b i 0) + carry → carry' ≡ w / 2 ^ 127 → x ≡ w - carry' * 2 ^ 127 % 2 ^ 128 → IsSum n a b (set words i x) carry' (i + 1)
sum-step n a b words carry carry' i w x p q r h e g y = record {
  sum = omega (arith, one, other, here, carried, weight, r.sum, weights);
  form = (length-set words i x ∙ r.form.0, All-set (λ z. z < 2 ^ 127) words i x (omega (arith, k, g)) r.form.1);
  low = omega (arith, g, f);
} where
  f : w < 2 ^ 128
  f = omega (arith, e, sum-word n a b words carry i p q r h)

  k : x ≡ w - carry' * 2 ^ 127
  k = y ∙ ap (λ z. w - z) (mod-eq_of_lt (omega (arith, f, g)))

  one : value (take (i + 1) a) ≡ value (take i a) + get_or a i 0 * 2 ^ (127 * i)
  one = value-take a i (omega (arith, p.0, h))

  other : value (take (i + 1) b) ≡ value (take i b) + get_or b i 0 * 2 ^ (127 * i)
  other = value-take b i (omega (arith, q.0, h))

  long : i < length words
  long = omega (arith, r.form.0, h)

  here : value (take (i + 1) (set words i x)) ≡ value (take i words) + x * 2 ^ (127 * i)
  here = ap value (take_more_set words i x long) ∙ value-push (take i words) x
      ∙ ap (λ z. value (take i words) + x * 2 ^ (127 * z)) (length-take-le i words (omega (arith, long)))

  weight : carry' * 2 ^ (127 * (i + 1)) ≡ 2 ^ 127 * (carry' * 2 ^ (127 * i))
  weight = ap (λ z. carry' * 2 ^ (127 * z)) {x = i + 1} {y = suc i} (omega arith) ∙ place-suc carry' i

  carried : x + 2 ^ 127 * carry' ≡ (get_or a i 0 + get_or b i 0) + carry
  carried = omega (arith, e, g, k)

  weights : (x + 2 ^ 127 * carry') * 2 ^ (127 * i) ≡ ((get_or a i 0 + get_or b i 0) + carry) * 2 ^ (127 * i)
  weights = ap (λ z. z * 2 ^ (127 * i)) carried

-- all words
pub sum-end : (n x y : ℕ) (a b words : List ℕ) (carry i : ℕ) → AreWords n a → AreWords n b → value a ≡ x → value b ≡ y → IsSum n a b words carry i
    → n ≤ i → i ≤ n → x + y < 2 ^ (127 * n) → value words ≡ x + y
sum-end n x y a b words carry i p q d g r h l room = by_case carry refl where
  whole : value words + carry * 2 ^ (127 * n) ≡ value a + value b
  whole =
      let e : i ≡ n = omega (arith, h, l) in
      omega (
        arith,
        r.sum,
        ap value (take_all i words (omega (arith, r.form.0, h))),
        ap value (take_all i a (omega (arith, p.0, h))),
        ap value (take_all i b (omega (arith, q.0, h))),
        ap (λ z. carry * 2 ^ (127 * z)) e,
      )

  by_case : (c : ℕ) → carry ≡ c → value words ≡ x + y
  by_case zero e = omega (arith, whole, d, g, ap (λ z. z * 2 ^ (127 * n)) e)
  by_case (suc c) e = absurd (omega (arith, whole, d, g, ap (λ z. z * 2 ^ (127 * n)) e, room))

-- ---- order, word by word
-- the first word that differs, from the highest on, decides
below-decided : (n k i : ℕ) (ws us : List ℕ) → AreWords n ws → AreWords n us → k < n → i ≡ (n - 1) - k → drop (n - k) ws ≡ drop (n - k) us
    → get_or ws i 0 < get_or us i 0 → value ws < value us
below-decided n k i ws us p q h e d l =
    value-rises ws us i (omega (arith, p.0, q.0)) p.1 (omega (arith, p.0, e, h))
    (subst (λ z. drop z ws ≡ drop z us) {y = suc i} (omega (arith, e, h)) d) l

-- so does its order
pub order-decided : (n k i x y : ℕ) (ws us : List ℕ) (r : Ordering) → AreWords n ws → AreWords n us → value ws ≡ x → value us ≡ y → k < n → i ≡ (n - 1) - k
    → drop (n - k) ws ≡ drop (n - k) us → (get_or ws i 0 ≡ get_or us i 0 → ⊥) → r ≡ nat_cmp (get_or ws i 0) (get_or us i 0)
    → MatchOrdering r (x < y) (x ≡ y) (y < x)
order-decided n k i x y ws us r p q a b h e d o c = by_case r (ranked (get_or ws i 0) (get_or us i 0) r c) where
  by_case : (r : Ordering) → MatchOrdering r (get_or ws i 0 < get_or us i 0) (get_or ws i 0 ≡ get_or us i 0) (get_or us i 0 < get_or ws i 0)
      → MatchOrdering r (x < y) (x ≡ y) (y < x)
  by_case Less l = omega (arith, a, b, below-decided n k i ws us p q h e d l)
  by_case Equal l = absurd (o l)
  by_case Greater l = omega (arith, a, b, below-decided n k i us ws q p h e (sym d) l)

-- ---- fields
module _ (n shift i s : ℕ) (p : IsPlace n shift) (a : i ≡ shift / 127) (b : s ≡ shift % 127) where
  -- where a field begins
  weight-is : 2 ^ shift ≡ 2 ^ (127 * i) * 2 ^ s
  weight-is = ap (λ z. 2 ^ z) (omega (arith, a, b)) ∙ pow-add 2 (127 * i) s

  times-weight : (e : ℕ) → e * 2 ^ shift ≡ e * 2 ^ s * 2 ^ (127 * i)
  times-weight e = ap (λ z. e * z) (weight-is ∙ mul_comm (2 ^ (127 * i)) (2 ^ s)) ∙ sym (mul_assoc e (2 ^ s) (2 ^ (127 * i)))

  -- an exponent stays within its word
  pub field-small : (e : ℕ) → e < 128 → e * 2 ^ shift < 2 ^ (127 * n) → e * 2 ^ s < 2 ^ 127
  field-small e h l = by_case (cases_lt (i + 1) n) where
    by_case : (i + 1 < n) ⊎ (n ≤ i + 1) → e * 2 ^ s < 2 ^ 127
    by_case (inl g) =
        let k : s ≤ 120 = omega (arith, b, p.room (omega (arith, a, g))) in
        let m : e * 2 ^ s ≤ e * 2 ^ 120 = mul-le-mul_left e (pow-le-pow_right (omega arith) k) in
        omega (arith, m, h)
    by_case (inr g) =
        let m : n ≡ suc i = omega (arith, g, p.within, a) in
        let r : 2 ^ (127 * n) ≡ 2 ^ 127 * 2 ^ (127 * i) = ap (λ z. 2 ^ (127 * z)) m ∙ pow-suc_word i in
        lt_of_mul-lt-mul_right (2 ^ (127 * i)) (omega (arith, l, times-weight e, r))

  -- the words of one field
  pub field-words : (e x : ℕ) → e < 128 → e * 2 ^ shift < 2 ^ (127 * n) → x ≡ e * 2 ^ s % 2 ^ 128 → AreWords n (set (replicate n 0) i x)
  field-words e x h l y =
      let m : e * 2 ^ s % 2 ^ 128 ≡ e * 2 ^ s = mod-eq_of_lt (omega (arith, field-small e h l)) in
      let z : AreWords n (replicate n 0) = zeros n in (
        length-set (replicate n 0) i x ∙ z.0,
        All-set (λ w. w < 2 ^ 127) (replicate n 0) i x (omega (arith, y, m, field-small e h l)) z.1,
      )

  -- their number
  pub field-value : (e x : ℕ) → e < 128 → e * 2 ^ shift < 2 ^ (127 * n) → x ≡ e * 2 ^ s % 2 ^ 128 → value (set (replicate n 0) i x) ≡ e * 2 ^ shift
  field-value e x h l y =
      let m : e * 2 ^ s % 2 ^ 128 ≡ e * 2 ^ s = mod-eq_of_lt (omega (arith, field-small e h l)) in
      let k : i < length (replicate {A = ℕ} n 0) = omega (arith, length-replicate {A = ℕ} n 0, p.within, a) in
      let g : get_or (replicate {A = ℕ} n 0) i 0 ≡ 0 = get_or-replicate {A = ℕ} n i 0 0 (omega (arith, p.within, a)) in
      omega (
        arith,
        value-set (replicate n 0) i x k,
        value-zero n,
        ap (λ z. z * 2 ^ (127 * i)) g,
        ap (λ z. z * 2 ^ (127 * i)) (y ∙ m),
        times-weight e,
      )

  -- the exponent in the highest field that isn't 0
  pub taken-exponent : (ws : List ℕ) → AreWords n ws → value ws / 2 ^ shift < 128 → value ws / 2 ^ shift ≡ get_or ws i 0 / 2 ^ s
  unfolding above
  taken-exponent ws q h = omega (arith, whole, none) where
    h' : ℕ
    h' = value (drop (suc i) ws)

    long : i < length ws
    long = omega (arith, q.0, p.within, a)

    low : value (take i ws) < 2 ^ (127 * i)
    low = subst (λ z. value (take i ws) < 2 ^ (127 * z)) (length-take-le i ws (omega (arith, long)))
        (value-below (take i ws) (All-take (λ z. z < 2 ^ 127) i ws q.1))

    from_word : value ws / 2 ^ (127 * i) ≡ above ws i
    from_word = ap (λ z. z / 2 ^ (127 * i)) (value-split ws i long)
        ∙ omega (arith, add-mul-div_right (value (take i ws)) (above ws i) (pow_pos (127 * i)), div-eq_of_lt low)

    base : 2 ^ 127 ≡ 2 ^ s * 2 ^ (127 - s)
    base = ap (λ z. 2 ^ z) {x = 127} {y = s + (127 - s)} (omega (arith, b)) ∙ pow-add 2 s (127 - s)

    whole : value ws / 2 ^ shift ≡ get_or ws i 0 / 2 ^ s + 2 ^ (127 - s) * h'
    whole = ap (λ z. value ws / z) weight-is ∙ sym (div-div-eq-div-mul (value ws) (2 ^ (127 * i)) (2 ^ s)) ∙ ap (λ z. z / 2 ^ s) from_word
        ∙ ap (λ z. (get_or ws i 0 + z) / 2 ^ s) (ap (λ z. z * h') base ∙ mul_assoc (2 ^ s) (2 ^ (127 - s)) h')
        ∙ add-mul-div_left (get_or ws i 0) (2 ^ (127 - s) * h') (pow_pos s)

    none : 2 ^ (127 - s) * h' ≡ 0
    none = by_case (cases_lt (i + 1) n) h' refl where
      by_case : (i + 1 < n) ⊎ (n ≤ i + 1) → (k : ℕ) → h' ≡ k → 2 ^ (127 - s) * h' ≡ 0
      by_case _ zero e = omega (arith, ap (λ z. 2 ^ (127 - s) * z) e)
      by_case (inr g) (suc k) e = absurd (omega (arith, e, ap value (drop_all (suc i) ws (omega (arith, q.0, g)))))
      by_case (inl g) (suc k) e =
          let r : s ≤ 120 = omega (arith, b, p.room (omega (arith, a, g))) in
          let l : 7 ≤ 127 - s = omega (arith, r) in
          let m : 2 ^ 7 ≤ 2 ^ (127 - s) = pow-le-pow_right (omega arith) l in
          let t : 2 ^ (127 - s) * 1 ≤ 2 ^ (127 - s) * h' = mul-le-mul_left (2 ^ (127 - s)) (omega (arith, e)) in
          absurd (omega (arith, whole, h, m, t))

  -- the number without it
  pub taken-rest : (ws : List ℕ) (x : ℕ) → AreWords n ws → value ws / 2 ^ shift < 128
      → x ≡ get_or ws i 0 - get_or ws i 0 / 2 ^ s * 2 ^ s % 2 ^ 128 → value (set ws i x) ≡ value ws - value ws / 2 ^ shift * 2 ^ shift
  taken-rest ws x q h y =
      let w : ℕ = get_or ws i 0 in
      let long : i < length ws = omega (arith, q.0, p.within, a) in
      let low : w < 2 ^ 127 = All-get_or (λ z. z < 2 ^ 127) ws i 0 long q.1 in
      let l : w / 2 ^ s * 2 ^ s ≤ w = div-mul-le_self w (2 ^ s) in
      let m : w / 2 ^ s * 2 ^ s % 2 ^ 128 ≡ w / 2 ^ s * 2 ^ s = mod-eq_of_lt (omega (arith, l, low)) in
      let v : x + w / 2 ^ s * 2 ^ s ≡ w = omega (arith, y, m, l) in
      let d : x * 2 ^ (127 * i) + w / 2 ^ s * 2 ^ s * 2 ^ (127 * i) ≡ w * 2 ^ (127 * i) =
      sym (add-mul x (w / 2 ^ s * 2 ^ s) (2 ^ (127 * i))) ∙ ap (λ z. z * 2 ^ (127 * i)) v in
      let e : value ws / 2 ^ shift * 2 ^ shift ≡ w / 2 ^ s * 2 ^ s * 2 ^ (127 * i) =
      ap (λ z. z * 2 ^ shift) (taken-exponent ws q h) ∙ times-weight (w / 2 ^ s) in
      omega (arith, value-set ws i x long, d, e)
