-- Which token places an item has.
use Rattle.std.specs.Prelude.{ℕ, ◌<◌}
use Rattle.std.specs.List.{All}
use Rattle.ln_syntax.specs.Raw.{Places, RawItem}
use Rattle.ln_syntax.specs.declared.raw.RawItem.TheVariants.{Site, Param, Pred}

-- the places of an expression are one token or more, and one more of the n tokens follows them
abbrev pub AreWithin : ℕ → Places → Type 0
AreWithin n p = (p.from < p.to) × (p.to < n)

-- each expression of the item lies within n tokens
abbrev pub IsWithin : ℕ → RawItem → Type 0
IsWithin n (Site name coords) = Unit {0}
IsWithin n (Param name range) = Unit {0}
IsWithin n (Pred name args lets root) = All (λ l. AreWithin n l.value) lets.items × AreWithin n root
