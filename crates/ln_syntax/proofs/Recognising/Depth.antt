-- How deep parentheses are nested at the tokens that were read.
use Rattle.std.proofs.Common.{◌≡◌, ℕ, zero, suc, ◌+◌, ◌<◌, List, [], ◌∷◌, length, take, ap, subst, arith, inl, inr}
use Rattle.std.proofs.lemmas.Bool.{cases_lt}
use Rattle.ln_syntax.specs.Raw.{Token, Is, Kind, ParL}
use Rattle.ln_syntax.specs.Place.{depth_behind, depth_after, IsShallow, IsNestingFault}

-- the depth after one more token
pub depth_taken : (ts : List Token) (i : ℕ) (k : Kind) (d : ℕ) → Is ts i k → depth_after d (take (suc i) ts) ≡ depth_behind (depth_after d (take i ts)) k
depth_taken [] i k d is = absurd (cc)
depth_taken (t ∷ ts) zero k d is = let e : t.kind ≡ k = cc in ap (λ (w : Kind). depth_behind d w) e
depth_taken (t ∷ ts) (suc i) k d is = depth_taken ts i k (depth_behind d t.kind) is

-- one more token is read
pub depth_more : (ts : List Token) (i : ℕ) (k : Kind) (d e : ℕ) → d ≡ depth_after 0 (take i ts) → Is ts i k → e ≡ depth_behind d k
    → e ≡ depth_after 0 (take (i + 1) ts)
depth_more ts i k d e w is n =
    let s : i + 1 ≡ suc i = omega arith in
    let t = depth_taken ts i k 0 is in
    let q : depth_behind d k ≡ depth_behind (depth_after 0 (take i ts)) k = ap (λ (x : ℕ). depth_behind x k) w in
    let r : depth_after 0 (take (i + 1) ts) ≡ depth_after 0 (take (suc i) ts) = ap (λ (m : ℕ). depth_after 0 (take m ts)) s in
    cc

-- no parenthesis before place i is nested too deep
abbrev pub ShallowTo : List Token → ℕ → Type 0
ShallowTo ts i = (j : ℕ) → j < i → Is ts j ParL → depth_after 0 (take j ts) < 64

-- one more token is read, and it is not nested too deep
pub shallow_more : (ts : List Token) (i : ℕ) (k : Kind) (d : ℕ) → ShallowTo ts i → d ≡ depth_after 0 (take i ts) → Is ts i k
    → (k ≡ ParL → d < 64) → ShallowTo ts (i + 1)
shallow_more ts i k d h w is n j l p = elim (cases_lt j i) [ inl b ↦ h j b p | inr b ↦ at (omega arith) ]
  where
    at : j ≡ i → depth_after 0 (take j ts) < 64
    at e =
        let p2 : Is ts i ParL = subst (λ (m : ℕ). Is ts m ParL) e p in
        let q : k ≡ ParL = cc in
        let r = n q in
        let s : depth_after 0 (take j ts) ≡ depth_after 0 (take i ts) = ap (λ (m : ℕ). depth_after 0 (take m ts)) e in
        omega (arith, r, s, w)

-- past the last token there is no parenthesis
inside : (ts : List Token) (j : ℕ) (k : Kind) → Is ts j k → j < length ts
inside [] j k is = absurd (cc)
inside (t ∷ ts) zero k is = omega arith
inside (t ∷ ts) (suc j) k is = let h = inside ts j k is in omega (arith, h)

-- where no parenthesis before the end is nested too deep, none is
pub shallow_all : (ts : List Token) → ShallowTo ts (length ts) → IsShallow ts
shallow_all ts h = λ j p. h j (inside ts j ParL p) p

too_deep : (ts : List Token) (i j : ℕ) → IsNestingFault ts i → IsNestingFault ts j → i < j → ⊥
too_deep ts i j f g l =
    let a = g.first i l f.opens in
    let b = f.deep in
    absurd (omega (arith, a, b))

-- there is one place at most
pub one_depth : (ts : List Token) (i j : ℕ) → IsNestingFault ts i → IsNestingFault ts j → i ≡ j
one_depth ts i j f g =
    let a = too_deep ts i j f in
    let b = too_deep ts j i g in omega (arith, a g, b f)

-- there is none where no parenthesis is nested too deep
pub no_depth : (ts : List Token) (i : ℕ) → IsNestingFault ts i → IsShallow ts → ⊥
no_depth ts i f h =
    let a = h i f.opens in
    let b = f.deep in
    absurd (omega (arith, a, b))
