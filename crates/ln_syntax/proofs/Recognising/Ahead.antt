-- Which tokens have to follow in a text that is whole: no expression has a semicolon in it, so the next one ends it.
use Rattle.std.proofs.Common.{◌≡◌, ℕ, suc, ◌<◌, ◌≤◌, inl, inr, List, subst, arith}
use Rattle.std.proofs.lemmas.Bool.{cases_lt}
use Rattle.ln_syntax.specs.Raw.{Token, Is, Semi}
use Rattle.ln_syntax.specs.Expression.{Tree, Sort, Derives, number, name, input, parens, plain, power, base, minus, term, no_factor, times, sum, no_term, plus}
use Rattle.ln_syntax.specs.Expression.{less, IsExpr}

-- from place i up to place j no token is a semicolon
pub record NoSemi (ts : List Token) (i j : ℕ) : Type 0 where
  pub rises : i ≤ j
  pub none : (m : ℕ) → i ≤ m → m < j → Is ts m Semi → ⊥

nothing : {ts : List Token} (i : ℕ) → NoSemi ts i i
nothing i = record { rises = omega arith; none = λ m h l s. omega arith }

one : {ts : List Token} (i : ℕ) → (Is ts i Semi → ⊥) → NoSemi ts i (suc i)
one {ts = ts} i n = record {
  rises = omega arith;
  none = λ m h l s. let e : m ≡ i = omega arith in n (subst (λ (w : ℕ). Is ts w Semi) e s);
}

joined : {ts : List Token} {i j k : ℕ} → NoSemi ts i j → NoSemi ts j k → NoSemi ts i k
joined {ts = ts} {i = i} {j = j} {k = k} a b = record {
  rises = let p = a.rises in let q = b.rises in omega arith;
  none = λ m h l s. elim (cases_lt m j) [ inl p ↦ a.none m h p s | inr p ↦ b.none m p l s ];
}

-- a token of another kind before
before_one : {ts : List Token} {i j : ℕ} → (Is ts i Semi → ⊥) → NoSemi ts (suc i) j → NoSemi ts i j
before_one {i = i} n a = joined (one i n) a

-- no expression has a semicolon in it
pub no_semi : {ts : List Token} {s : Sort} {i j : ℕ} {e : Tree} → Derives ts s i j e → NoSemi ts i j
no_semi (number {i = i} n) = one i (λ h. cc)
no_semi (name {i = i} n) = one i (λ h. cc)
no_semi (input {i = i} n d x) = before_one (λ h. cc) (before_one (λ h. cc) (one (suc (suc i)) (λ h. cc)))
no_semi (parens {j = j} n d c) = before_one (λ h. cc) (joined (no_semi d) (one j (λ h. cc)))
no_semi (plain d) = no_semi d
no_semi (power {j = j} d c n) = joined (no_semi d) (before_one (λ h. cc) (one (suc j) (λ h. cc)))
no_semi (base d) = no_semi d
no_semi (minus n d) = before_one (λ h. cc) (no_semi d)
no_semi (term d r) = joined (no_semi d) (no_semi r)
no_semi (no_factor {i = i}) = nothing i
no_semi (times is d r) = before_one (λ h. cc) (joined (no_semi d) (no_semi r))
no_semi (sum d r) = joined (no_semi d) (no_semi r)
no_semi (no_term {i = i}) = nothing i
no_semi (plus is d r) = before_one (λ h. cc) (joined (no_semi d) (no_semi r))
no_semi (less is d r) = before_one (λ h. cc) (joined (no_semi d) (no_semi r))

-- an expression ends at the first semicolon after its first token
pub next_semi : {ts : List Token} {i j k : ℕ} → IsExpr ts i j → Is ts j Semi → i ≤ k → ((m : ℕ) → i ≤ m → m < k → Is ts m Semi → ⊥) → Is ts k Semi → j ≡ k
next_semi {j = j} {k = k} e s r n t =
    let a = no_semi e.1 in
    let p = a.rises in
    elim (cases_lt k j) [
      | inl l ↦ absurd (a.none k r l t)
      | inr h ↦ elim (cases_lt j k) [ inl l ↦ absurd (n j p l s) | inr g ↦ omega arith ]
    ]

-- an expression before a semicolon has one end
pub one_end : {ts : List Token} {i j k : ℕ} → IsExpr ts i j → Is ts j Semi → IsExpr ts i k → Is ts k Semi → j ≡ k
one_end e s f t = let a = no_semi f.1 in next_semi e s a.rises a.none t
