-- Whether the exponents of a product fit.
use Rattle.std.specs.Prelude.{◌+◌, ◌<◌, List, [], ◌∷◌}
use Rattle.ln_tree.specs.Exps.{Pairs, exponent}
use Rattle.ln_poly.specs.Sparse.{Sparse}

-- each of several
abbrev pub EachOf : {A : Type 0} → (A → Type 0) → List A → Type 0
EachOf H [] = Unit {0}
EachOf H (x ∷ xs) = H x × EachOf H xs

-- the exponents of two monomials, taken together, are below 128
abbrev pub PairsFit : Pairs → Pairs → Type 0
PairsFit a b = EachOf (λ p. p.1 + exponent p.0 b < 128) a

-- those of one monomial and each of several
abbrev pub RowFits : Pairs → Sparse → Type 0
RowFits a g = EachOf (λ t. PairsFit a t.0) g

-- those of each of several and each of several
abbrev pub AllFit : Sparse → Sparse → Type 0
AllFit f g = EachOf (λ s. RowFits s.0 g) f
