-- Defines exchanges of sites, and expressions whose sign they keep or turn.
use Rattle.std.specs.Prelude.{◌≡◌, ◌↔◌, ℕ, ◌<◌, ◌⊎◌, ℤ, pos, negsuc, ◌*ℤ◌, List, [], ◌∷◌, length, slice_index, is_some, All}
use Rattle.std.proofs.Common.{zero, suc}
use Rattle.ln_algebra.specs.Coefficient.{normal_coefficient}
use Rattle.ln_algebra.specs.Earlier.{RanksBefore, Sites}
use Rattle.ln_algebra.specs.Orders.{Before, Rank}
use Rattle.ln_algebra.specs.Sign.{IsFirstIn, IsSignIn, perturbed}
use Rattle.ln_algebra.specs.Terms.{IsCollected, IsNormalOf, Term, factor_at}
use Rattle.ln_algebra.specs.Tree.{InputsBelow, Tree}

-- The first n values of f.
abbrev pub listed : ℕ → (ℕ → ℕ) → List ℕ
listed zero f = []
listed (suc n) f = f 0 ∷ listed n (λ v. f (suc v))

-- The vector in which each variable has the exponent of its partner.
abbrev pub exchanged : (ℕ → ℕ) → List ℕ → List ℕ
exchanged partner a = listed (length a) (λ v. slice_index a (partner v))

-- Each of n variables has a partner, maybe itself, whose partner it is; and by the sites of one row the infinitesimals have the order that those of
-- their partners have by the sites of another.
pub record Exchanges (n : ℕ) (partner : ℕ → ℕ) (was now : Sites) : Type 0 where
  pub within : (v : ℕ) → v < n → partner v < n
  pub twice : (v : ℕ) → partner (partner v) ≡ v
  pub of_sites : (v : ℕ) → is_some (now.site v) ≡ is_some (was.site (partner v))
  pub ranks : (v w : ℕ) → RanksBefore was v w ↔ RanksBefore now (partner v) (partner w)

-- Each variable has the value that its partner had.
abbrev pub ValuesExchange : ℕ → (ℕ → ℕ) → (ℕ → ℤ) → (ℕ → ℤ) → Type 0
ValuesExchange n partner x y = (v : ℕ) → v < n → y v ≡ x (partner v)

-- The exchange multiplies the normal polynomial by s, which is 1 or -1.
pub record Turns (n : ℕ) (partner : ℕ → ℕ) (s : ℤ) (e : Tree) : Type 0 where
  pub turn : (s ≡ pos 1) ⊎ (s ≡ negsuc 0)
  pub each : (m : List ℕ) → length m ≡ n → normal_coefficient e (exchanged partner m) ≡ s *ℤ normal_coefficient e m

-- ---- laws
-- The coefficient on the other row, at the exchanged vector, is s times the coefficient.
abbrev pub CoefficientsTurn : Type 0
CoefficientsTurn =
    (n : ℕ) (partner : ℕ → ℕ) (was now : Sites) (x y : ℕ → ℤ) (s : ℤ) (e : Tree) (a : List ℕ) →
    Exchanges n partner was now → ValuesExchange n partner x y → InputsBelow n e → Turns n partner s e → length a ≡ n →
    perturbed now y e (exchanged partner a) ≡ s *ℤ perturbed was x e a

-- The order of vectors is carried along, in either order of infinitesimals.
abbrev pub OrdersExchange : Type 0
OrdersExchange =
    (rank : Rank) (n : ℕ) (partner : ℕ → ℕ) (was now : Sites) (a b : List ℕ) → Exchanges n partner was now → length a ≡ n → length b ≡ n →
    Before rank was a b → Before rank now (exchanged partner a) (exchanged partner b)

-- The first vector is exchanged.
abbrev pub FirstsExchange : Type 0
FirstsExchange =
    (rank : Rank) (n : ℕ) (partner : ℕ → ℕ) (was now : Sites) (x y : ℕ → ℤ) (s : ℤ) (e : Tree) (a : List ℕ) →
    Exchanges n partner was now → ValuesExchange n partner x y → InputsBelow n e → Turns n partner s e →
    IsFirstIn (Before rank was) n was x e a → IsFirstIn (Before rank now) n now y e (exchanged partner a)

-- The sign on the other row is s times the sign.
abbrev pub SignsTurn : Type 0
SignsTurn =
    (rank : Rank) (n : ℕ) (partner : ℕ → ℕ) (was now : Sites) (x y : ℕ → ℤ) (s : ℤ) (e : Tree) (sign : ℤ) →
    Exchanges n partner was now → ValuesExchange n partner x y → InputsBelow n e → Turns n partner s e →
    IsSignIn (Before rank was) n was x e sign → IsSignIn (Before rank now) n now y e (s *ℤ sign)

-- Where f is the normal polynomial and its like monomials are collected, it is enough that the exchanged exponents of each of its terms have s
-- times its factor.
abbrev pub TermsTurn : Type 0
TermsTurn =
    (n : ℕ) (partner : ℕ → ℕ) (s : ℤ) (e : Tree) (f : List Term) →
    ((v : ℕ) → v < n → partner v < n) → ((v : ℕ) → partner (partner v) ≡ v) → (s ≡ pos 1) ⊎ (s ≡ negsuc 0) → IsNormalOf n e f → IsCollected f →
    All (λ t. factor_at f (exchanged partner t.exponents) ≡ s *ℤ t.factor) f →
    Turns n partner s e
