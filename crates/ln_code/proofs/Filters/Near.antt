-- What is done to truncated numbers keeps them near what they stand for.
use Rattle.std.proofs.Common.{◌≡◌, ℕ, ℤ, ◌+◌, ◌*◌, ◌/◌, ◌^◌, ◌≤◌, ◌<◌, refl, zero, suc, ap, arith, pos, negsuc, ◌+ℤ◌, ◌-ℤ◌, ◌*ℤ◌, ◌<ℤ◌}
use Rattle.std.proofs.Common.{neg_ℤ, unsigned_abs, ◌∙◌, sym}
use Rattle.std.proofs.lemmas.Int.{ints, unsigned_abs-mul, quot-rem, rem_below}
use Rattle.std.proofs.lemmas.Nat.{pow-add, pow_pos, le-div}
use Rattle.std.proofs.lemmas.Grind.{div_ceil_times}
use Rattle.std.proofs.Math.Nat.{pow-zero, mul-le-mul, mul-le-mul_right, div-mul-le_self}
use Rattle.std.specs.Int.{div_ceil}
use Rattle.std.specs.Int.RustNames.{int_rem}
use Rattle.ln_algebra.proofs.Expanded.Ring.{mul_add, mul_assoc, mul_comm, mul_neg, four}
use Rattle.ln_code.specs.declared.op.Triple.{Triple}
use Rattle.ln_code.specs.Numbers.{cut_by}
use Rattle.ln_code.specs.FilterRules.{Approximates, error_after}
use Rattle.ln_code.proofs.Following.Known.{abs_neg}
use Rattle.ln_code.proofs.Filters.Cutting.{cut_abs, cut_none}

-- the triple after a division by 2^n
abbrev pub cut : ℕ → Triple → Triple
cut n a = record { k = a.k + n; h = a.h / 2 ^ n; e = error_after n a.e }

abs_sum : (a b : ℤ) (m n : ℕ) → unsigned_abs a ≤ m → unsigned_abs b ≤ n → unsigned_abs (a +ℤ b) ≤ m + n
abs_sum a b m n h k = omega (arith, ints)

-- ---- division by 2^n
-- what is lost is below 2^n
pub cut_rest : (n : ℕ) (z : ℤ) → unsigned_abs (z -ℤ cut_by n z *ℤ pos (2 ^ n)) < 2 ^ n
cut_rest n z =
    let e : cut_by n z *ℤ pos (2 ^ n) +ℤ int_rem z (pos (2 ^ n)) ≡ z = quot-rem z (pos (2 ^ n)) in
    let f : unsigned_abs (int_rem z (pos (2 ^ n))) < 2 ^ n = rem_below z (pos (2 ^ n)) (pow_pos n) in
    let g : z -ℤ cut_by n z *ℤ pos (2 ^ n) ≡ int_rem z (pos (2 ^ n)) = omega (arith, ints, e) in
    rw g f

-- v - h' 2^(k+n) is (v - h 2^k) + (h - h' 2^n) 2^k
regroup : (v h c p q : ℤ) → v -ℤ c *ℤ (p *ℤ q) ≡ (v -ℤ h *ℤ p) +ℤ (h -ℤ c *ℤ q) *ℤ p
regroup v h c p q =
    let a : c *ℤ (p *ℤ q) ≡ (c *ℤ q) *ℤ p = ap (λ t. c *ℤ t) (mul_comm p q) ∙ sym (mul_assoc c q p) in
    let b : (h -ℤ c *ℤ q) *ℤ p ≡ h *ℤ p -ℤ (c *ℤ q) *ℤ p = diff h (c *ℤ q) p in
    omega (arith, ints, a, b)
  where
    diff : (x y z : ℤ) → (x -ℤ y) *ℤ z ≡ x *ℤ z -ℤ y *ℤ z
    diff x y z =
        let e : z *ℤ (x +ℤ neg_ℤ y) ≡ z *ℤ x +ℤ z *ℤ neg_ℤ y = mul_add z x (neg_ℤ y) in
        let f : z *ℤ neg_ℤ y ≡ neg_ℤ (z *ℤ y) = mul_neg z y in
        let g : x -ℤ y ≡ x +ℤ neg_ℤ y = omega (arith, ints) in
        let i : (x -ℤ y) *ℤ z ≡ z *ℤ (x +ℤ neg_ℤ y) = mul_comm (x -ℤ y) z ∙ ap (λ t. z *ℤ t) g in
        omega (arith, ints, e, f, i, mul_comm z x, mul_comm z y)

-- the product of two natural numbers is their product as integers
pub pos_mul : (m n : ℕ) → pos (m * n) ≡ pos m *ℤ pos n
pos_mul m n = omega (arith, ints)

div_ceil_covers : (e p : ℕ) → 0 < p → e ≤ div_ceil e p * p
div_ceil_covers e p h = (div_ceil_times e p h).0

error_enough : (n k e : ℕ) → e * 2 ^ k + 2 ^ suc n * 2 ^ k ≤ error_after (suc n) e * 2 ^ (k + suc n)
error_enough n k e =
    let p : e ≤ div_ceil e (2 ^ suc n) * 2 ^ suc n = div_ceil_covers e (2 ^ suc n) (pow_pos (suc n)) in
    rw pow-add (plain e (div_ceil e (2 ^ suc n)) (2 ^ suc n) (2 ^ k) p)
  where
    plain : (e c p q : ℕ) → e ≤ c * p → e * q + p * q ≤ (c + 1) * (q * p)
    plain e c p q h = omega (arith, mul-le-mul_right q h)

-- a truncated number that is divided by 2^n still stands for its value, by the triple after the division
pub cut_stands : (n : ℕ) (a : Triple) (h v : ℤ) → Approximates a h v → Approximates (cut n a) (cut_by n h) v
cut_stands n a h v s = record { small = rw cut_abs (div_le s.small); near = near n }
  where
    div_le : {i j : ℕ} → i ≤ j → i / 2 ^ n ≤ j / 2 ^ n
    div_le {i} {j} h = le-div (i / 2 ^ n) j (2 ^ n) (pow_pos n) (omega (arith, h, div-mul-le_self i (2 ^ n)))

    near : (n : ℕ) → unsigned_abs (v -ℤ cut_by n h *ℤ pos (2 ^ (a.k + n))) ≤ error_after n a.e * 2 ^ (a.k + n)
    near zero = rw (cut_none h) (let e : a.k + 0 ≡ a.k = omega arith in rw e s.near)
    near (suc n) =
        let p : ℤ = pos (2 ^ a.k) in
        let q : ℤ = pos (2 ^ suc n) in
        let e : pos (2 ^ (a.k + suc n)) ≡ p *ℤ q = ap pos (pow-add 2 a.k (suc n)) ∙ pos_mul (2 ^ a.k) (2 ^ suc n) in
        let f : v -ℤ cut_by (suc n) h *ℤ (p *ℤ q) ≡ (v -ℤ h *ℤ p) +ℤ (h -ℤ cut_by (suc n) h *ℤ q) *ℤ p = regroup v h (cut_by (suc n) h) p q in
        let r : unsigned_abs (h -ℤ cut_by (suc n) h *ℤ q) < 2 ^ suc n = cut_rest (suc n) h in
        let g : unsigned_abs ((h -ℤ cut_by (suc n) h *ℤ q) *ℤ p) ≤ 2 ^ suc n * 2 ^ a.k = rw unsigned_abs-mul (mul-le-mul_right (2 ^ a.k) (omega (arith, r))) in
        let b = abs_sum (v -ℤ h *ℤ p) ((h -ℤ cut_by (suc n) h *ℤ q) *ℤ p) (a.e * 2 ^ a.k) (2 ^ suc n * 2 ^ a.k) s.near g in
        let i = error_enough n a.k a.e in
        rw (e, f) (omega (arith, b, i))

-- ---- sums and products
sum_off : (v w a b p : ℤ) → (v +ℤ w) -ℤ (a +ℤ b) *ℤ p ≡ (v -ℤ a *ℤ p) +ℤ (w -ℤ b *ℤ p)
sum_off v w a b p =
    let e : p *ℤ (a +ℤ b) ≡ p *ℤ a +ℤ p *ℤ b = mul_add p a b in
    omega (arith, ints, e, mul_comm p (a +ℤ b), mul_comm p a, mul_comm p b)

diff_off : (v w a b p : ℤ) → (v -ℤ w) -ℤ (a -ℤ b) *ℤ p ≡ (v -ℤ a *ℤ p) -ℤ (w -ℤ b *ℤ p)
diff_off v w a b p =
    let e : p *ℤ (a +ℤ neg_ℤ b) ≡ p *ℤ a +ℤ p *ℤ neg_ℤ b = mul_add p a (neg_ℤ b) in
    let f : p *ℤ neg_ℤ b ≡ neg_ℤ (p *ℤ b) = mul_neg p b in
    let g : (a -ℤ b) *ℤ p ≡ p *ℤ (a +ℤ neg_ℤ b) = mul_comm (a -ℤ b) p ∙ ap (λ t. p *ℤ t) (let h : a -ℤ b ≡ a +ℤ neg_ℤ b = omega (arith, ints) in h) in
    omega (arith, ints, e, f, g, mul_comm p a, mul_comm p b)

-- v w - h i (p q) is (v - h p)(w - i q) + (v - h p)(i q) + (h p)(w - i q)
product_off : (v w h i p q : ℤ) → v *ℤ w -ℤ (h *ℤ i) *ℤ (p *ℤ q) ≡ ((v -ℤ h *ℤ p) *ℤ (w -ℤ i *ℤ q) +ℤ (v -ℤ h *ℤ p) *ℤ (i *ℤ q)) +ℤ (h *ℤ p) *ℤ (w -ℤ i *ℤ q)
product_off v w h i p q =
    let e : v *ℤ w ≡ ((v -ℤ h *ℤ p) +ℤ h *ℤ p) *ℤ ((w -ℤ i *ℤ q) +ℤ i *ℤ q) = split v w (h *ℤ p) (i *ℤ q) in
    let f : (h *ℤ i) *ℤ (p *ℤ q) ≡ (h *ℤ p) *ℤ (i *ℤ q) = four h i p q in
    let g = spread (v -ℤ h *ℤ p) (h *ℤ p) (w -ℤ i *ℤ q) (i *ℤ q) in
    omega (arith, ints, e, f, g)
  where
    again : (x y : ℤ) → x ≡ (x -ℤ y) +ℤ y
    again x y = omega (arith, ints)

    split : (v w a b : ℤ) → v *ℤ w ≡ ((v -ℤ a) +ℤ a) *ℤ ((w -ℤ b) +ℤ b)
    split v w a b = ap (λ t. t *ℤ w) (again v a) ∙ ap (λ t. ((v -ℤ a) +ℤ a) *ℤ t) (again w b)

    spread : (a b c d : ℤ) → (a +ℤ b) *ℤ (c +ℤ d) ≡ ((a *ℤ c +ℤ a *ℤ d) +ℤ b *ℤ c) +ℤ b *ℤ d
    spread a b c d = omega (
      arith,
      ints,
      mul_add (a +ℤ b) c d,
      mul_comm (a +ℤ b) c,
      mul_comm (a +ℤ b) d,
      mul_add c a b,
      mul_add d a b,
      mul_comm c a,
      mul_comm c b,
      mul_comm d a,
      mul_comm d b,
    )

-- the product of two truncated numbers stands for the product of their values
pub product_stands : (a b : Triple) (h i v w : ℤ) → Approximates a h v → Approximates b i w
    → Approximates (record { k = a.k + b.k; h = a.h * b.h; e = a.h * b.e + b.h * a.e + a.e * b.e }) (h *ℤ i) (v *ℤ w)
product_stands a b h i v w s t =
    let p : ℕ = 2 ^ a.k in
    let q : ℕ = 2 ^ b.k in
    let e : pos (2 ^ (a.k + b.k)) ≡ pos p *ℤ pos q = ap pos (pow-add 2 a.k b.k) ∙ pos_mul p q in
    let hp : unsigned_abs (h *ℤ pos p) ≤ a.h * p = rw unsigned_abs-mul (mul-le-mul_right p s.small) in
    let iq : unsigned_abs (i *ℤ pos q) ≤ b.h * q = rw unsigned_abs-mul (mul-le-mul_right q t.small) in
    let one : unsigned_abs ((v -ℤ h *ℤ pos p) *ℤ (w -ℤ i *ℤ pos q)) ≤ (a.e * p) * (b.e * q) = rw unsigned_abs-mul (mul-le-mul s.near t.near) in
    let two : unsigned_abs ((v -ℤ h *ℤ pos p) *ℤ (i *ℤ pos q)) ≤ (a.e * p) * (b.h * q) =
    rw (unsigned_abs-mul (v -ℤ h *ℤ pos p) (i *ℤ pos q)) (mul-le-mul s.near iq) in
    let three : unsigned_abs ((h *ℤ pos p) *ℤ (w -ℤ i *ℤ pos q)) ≤ (a.h * p) * (b.e * q) =
    rw (unsigned_abs-mul (h *ℤ pos p) (w -ℤ i *ℤ pos q)) (mul-le-mul hp t.near) in
    let four = abs_sum ((v -ℤ h *ℤ pos p) *ℤ (w -ℤ i *ℤ pos q)) ((v -ℤ h *ℤ pos p) *ℤ (i *ℤ pos q)) ((a.e * p) * (b.e * q)) ((a.e * p) * (b.h * q)) one two in
    let five = abs_sum ((v -ℤ h *ℤ pos p) *ℤ (w -ℤ i *ℤ pos q) +ℤ (v -ℤ h *ℤ pos p) *ℤ (i *ℤ pos q)) ((h *ℤ pos p) *ℤ (w -ℤ i *ℤ pos q))
    ((a.e * p) * (b.e * q) + (a.e * p) * (b.h * q)) ((a.h * p) * (b.e * q)) four three in
    let f = product_off v w h i (pos p) (pos q) in
    let g : (a.h * b.e + b.h * a.e + a.e * b.e) * 2 ^ (a.k + b.k) ≡ (a.e * p) * (b.e * q) + (a.e * p) * (b.h * q) + (a.h * p) * (b.e * q) =
    rw pow-add (spread a.h a.e b.h b.e p q) in
    record { small = rw unsigned_abs-mul (mul-le-mul s.small t.small); near = rw (g, e, f) five }
  where
    spread : (H E J F p q : ℕ) → (H * F + J * E + E * F) * (p * q) ≡ (E * p) * (F * q) + (E * p) * (J * q) + (H * p) * (F * q)
    spread H E J F p q = omega arith

-- the sum of two truncated numbers of one k stands for the sum of their values
pub sum_stands : (k h e i f : ℕ) (y z v w : ℤ) → Approximates (record { k = k; h = h; e = e }) y v → Approximates (record { k = k; h = i; e = f }) z w
    → Approximates (record { k = k; h = h + i; e = e + f }) (y +ℤ z) (v +ℤ w)
sum_stands k h e i f y z v w s t =
    let a = abs_sum (v -ℤ y *ℤ pos (2 ^ k)) (w -ℤ z *ℤ pos (2 ^ k)) (e * 2 ^ k) (f * 2 ^ k) s.near t.near in
    record { small = abs_sum y z h i s.small t.small; near = rw (sum_off v w y z (pos (2 ^ k))) (omega (arith, a)) }

abs_difference : (a b : ℤ) (m n : ℕ) → unsigned_abs a ≤ m → unsigned_abs b ≤ n → unsigned_abs (a -ℤ b) ≤ m + n
abs_difference a b m n h k = omega (arith, ints)

-- and their difference for the difference
pub difference_stands : (k h e i f : ℕ) (y z v w : ℤ) → Approximates (record { k = k; h = h; e = e }) y v
    → Approximates (record { k = k; h = i; e = f }) z w → Approximates (record { k = k; h = h + i; e = e + f }) (y -ℤ z) (v -ℤ w)
difference_stands k h e i f y z v w s t =
    let a = abs_difference (v -ℤ y *ℤ pos (2 ^ k)) (w -ℤ z *ℤ pos (2 ^ k)) (e * 2 ^ k) (f * 2 ^ k) s.near t.near in
    record { small = abs_difference y z h i s.small t.small; near = rw (diff_off v w y z (pos (2 ^ k))) (omega (arith, a)) }

-- a number stands for itself, without an error
pub exact_stands : (m : ℕ) (x : ℤ) → unsigned_abs x ≤ m → Approximates (record { k = 0; h = m; e = 0 }) x x
exact_stands m x h =
    let e : x -ℤ x *ℤ pos 1 ≡ pos 0 = omega (arith, ints) in
    record { small = h; near = rw pow-zero (rw e (omega arith)) }

-- the negation of a truncated number stands for the negation of its value, by the same triple
pub minus_stands : (a : Triple) (h v : ℤ) → Approximates a h v → Approximates a (neg_ℤ h) (neg_ℤ v)
minus_stands a h v s =
    record {
      small = rw abs_neg s.small;
      near = let e : neg_ℤ v -ℤ neg_ℤ h *ℤ pos (2 ^ a.k) ≡ neg_ℤ (v -ℤ h *ℤ pos (2 ^ a.k)) = turned v h (pos (2 ^ a.k)) in rw (e, abs_neg) s.near;
    }
  where
    turned : (v h p : ℤ) → neg_ℤ v -ℤ neg_ℤ h *ℤ p ≡ neg_ℤ (v -ℤ h *ℤ p)
    turned v h p = let e : neg_ℤ h *ℤ p ≡ neg_ℤ (h *ℤ p) = mul_comm (neg_ℤ h) p ∙ mul_neg p h ∙ ap neg_ℤ (mul_comm p h) in omega (arith, ints, e)

-- ---- where the filter decides, it isn't wrong
positive : (a : Triple) (h : ℕ) (v : ℤ) → a.e < suc h → Approximates a (pos (suc h)) v → pos 0 <ℤ v
positive a h v d s =
    let p : pos (suc h) *ℤ pos (2 ^ a.k) ≡ pos (suc h * 2 ^ a.k) = refl in
    let m : suc a.e * 2 ^ a.k ≤ suc h * 2 ^ a.k = mul-le-mul_right (2 ^ a.k) (omega arith) in
    let q : 0 < 2 ^ a.k = pow_pos a.k in
    let near : unsigned_abs (v -ℤ pos (suc h * 2 ^ a.k)) ≤ a.e * 2 ^ a.k = s.near in
    plain v (suc h * 2 ^ a.k) (a.e * 2 ^ a.k) near (omega (arith, m, q))
  where
    plain : (v : ℤ) (m n : ℕ) → unsigned_abs (v -ℤ pos m) ≤ n → n < m → pos 0 <ℤ v
    plain v m n h k = omega (arith, ints)

-- a truncated number that is above 0 by more than its error stands for a value above 0
pub decides_positive : (a : Triple) (h v : ℤ) → a.e < unsigned_abs h → pos 0 <ℤ h → Approximates a h v → pos 0 <ℤ v
decides_positive a (pos zero) v d g s = omega (arith, ints)
decides_positive a (pos (suc h)) v d g s = positive a h v d s
decides_positive a (negsuc h) v d g s = absurd (omega (arith, ints, g))

-- and one that is below 0 by more than its error for a value below 0
pub decides_negative : (a : Triple) (h v : ℤ) → a.e < unsigned_abs h → h <ℤ pos 0 → Approximates a h v → v <ℤ pos 0
decides_negative a h v d g s =
    let n : pos 0 <ℤ neg_ℤ h = omega (arith, ints, g) in
    let e : unsigned_abs (neg_ℤ h) ≡ unsigned_abs h = abs_neg h in
    let p : pos 0 <ℤ neg_ℤ v = decides_positive a (neg_ℤ h) (neg_ℤ v) (omega (arith, d, e)) n (minus_stands a h v s) in
    omega (arith, ints, p)
