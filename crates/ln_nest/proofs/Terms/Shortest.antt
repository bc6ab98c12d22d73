-- The normal polynomial has the fewest terms.
use Rattle.std.proofs.Common.{◌≡◌, ℕ, ◌≤◌, List, [], ◌∷◌, length, arith, ◌∙◌, sym}
use Rattle.ln_algebra.specs.Terms.{IsCollected, IsNormalOf, Term, factor_at}
use Rattle.ln_algebra.specs.Tree.{Tree}
use Rattle.ln_algebra.proofs.Bounding.Weights.{IsCollected-Once}
use Rattle.ln_poly.proofs.Derivations.Combined.{everywhere}
use Rattle.ln_poly.proofs.TermLists.Fewest.{EachHas, each-has, shortest}
use Rattle.ln_nest.specs.Lean.{AreUnder, HasNoZero, IsLean}
use Rattle.ln_nest.specs.Nested.{exponent_of}

-- two lists of the normal polynomial have the same coefficient at each vector
same : (n : ℕ) (e : Tree) (f g : List Term) → IsNormalOf n e f → IsNormalOf n e g → (k : List ℕ) → factor_at f k ≡ factor_at g k
same n e f g a b = everywhere n f g a.over b.over (λ k q. a.coefficients k q ∙ sym (b.coefficients k q))

-- limits on the exponents, term by term
abbrev Under : (ℕ → ℕ) → List ℕ → Type 0
Under top m = (v : ℕ) → exponent_of v m ≤ top v

under-each : (top : ℕ → ℕ) (f : List Term) → AreUnder top f → EachHas (Under top) f
under-each top [] a = tt
under-each top (t ∷ f) a = (a.0, under-each top f a.1)

each-under : (top : ℕ → ℕ) (f : List Term) → EachHas (Under top) f → AreUnder top f
each-under top [] a = tt
each-under top (t ∷ f) a = (a.0, each-under top f a.1)

-- the normal polynomial of a lean tree has few terms, with small exponents
pub lean_count : (n count : ℕ) (top : ℕ → ℕ) (e : Tree) (f : List Term) → IsLean n count top e → IsNormalOf n e f → IsCollected f
    → HasNoZero f → length f ≤ count
lean_count n count top e f l a c z =
    let s = shortest f l.terms (IsCollected-Once f c) z (same n e f l.terms a l.normal) in
    let k = l.few in
    omega (arith, s, k)

-- and small exponents
pub lean_exponents : (n count : ℕ) (top : ℕ → ℕ) (e : Tree) (f : List Term) → IsLean n count top e → IsNormalOf n e f → IsCollected f
    → HasNoZero f → AreUnder top f
lean_exponents n count top e f l a c z =
    each-under top f (each-has (Under top) f l.terms (IsCollected-Once f c) z (same n e f l.terms a l.normal) (under-each top l.terms l.under))
