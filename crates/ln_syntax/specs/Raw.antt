-- The items of a file, without where they lie in memory, and the tokens by their places.
use Rattle.std.specs.Prelude.{◌≡◌, ℕ, ◌-◌, Bool, true, false, List, [], Option, Some, None, option_map, slice_get, take, drop, map, bytes_eq}
pub use Rattle.ln_base.specs.declared.span.Span.{Span}
pub use Rattle.ln_lex.specs.declared.token.Token.{Token}
pub use Rattle.ln_syntax.specs.declared.raw.RawEnd.{RawEnd}
pub use Rattle.ln_syntax.specs.declared.raw.RawRange.{RawRange}
pub use Rattle.ln_syntax.specs.declared.raw.RawCoord.{RawCoord}
pub use Rattle.ln_syntax.specs.declared.raw.RawArg.{RawArg}
pub use Rattle.ln_syntax.specs.declared.raw.RawLet.{RawLet}
pub use Rattle.ln_syntax.specs.declared.raw.Places.{Places}
pub use Rattle.ln_syntax.specs.declared.raw.RawItem.{RawItem}
use Rattle.ln_syntax.specs.declared.raw.RawItem.TheVariants.{Site as OfSite, Param as OfParam, Pred as OfPred}
pub use Rattle.ln_lex.specs.declared.token.Kind.{Kind}
pub use Rattle.ln_lex.specs.declared.token.Kind.TheVariants.{BraceL, BraceR, Caret, Colon, Comma, Dot, Dots, Equals, Let, Minus, Name, Number, ParL, ParR}
pub use Rattle.ln_lex.specs.declared.token.Kind.TheVariants.{Param, Plus, Predicate, Semi, Sign, Site, Star}

-- a site type, a param, or a predicate: the spans of its names and numbers, the token places of its expressions
pub data Item : Type 0 where
  SiteItem : Span → List RawCoord → Item
  ParamItem : Span → RawRange → Item
  PredItem : Span → List RawArg → List RawLet → Places → Item

-- the item that a value of the program is
abbrev pub item : RawItem → Item
item (OfSite name coords) = SiteItem name coords.items
item (OfParam name range) = ParamItem name range
item (OfPred name args lets root) = PredItem name args.items lets.items root

-- the items that values of the program are
abbrev pub items : List RawItem → List Item
items is = map item is

-- the place of an item's name
abbrev pub item_name : Item → Span
item_name (SiteItem name coords) = name
item_name (ParamItem name range) = name
item_name (PredItem name args lets root) = name

-- is it a site type?
abbrev pub is_site : Item → Bool
is_site (SiteItem name coords) = true
is_site i = false

-- is it a param?
abbrev pub is_param : Item → Bool
is_param (ParamItem name range) = true
is_param i = false

-- is it a predicate?
abbrev pub is_pred : Item → Bool
is_pred (PredItem name args lets root) = true
is_pred i = false

-- the coordinates of a site type; of anything else none
abbrev pub coords_in : Option Item → List RawCoord
coords_in (Some (SiteItem name coords)) = coords
coords_in o = []

-- the bytes of a stretch of a source
abbrev pub text : List ℕ → Span → List ℕ
text bytes s = take (s.end - s.start) (drop s.start bytes)

-- two stretches have the same bytes
abbrev pub same : List ℕ → Span → Span → Bool
same bytes a b = bytes_eq (text bytes a) (text bytes b)

-- the kind of token number i, counted from 0
abbrev pub kind_at : List Token → ℕ → Option Kind
kind_at ts i = option_map (λ t. t.kind) (slice_get ts i)

-- token number i is of this kind
abbrev pub Is : List Token → ℕ → Kind → Type 0
Is ts i k = kind_at ts i ≡ Some k

-- the span of a token; the empty span at 0 where there is no token
abbrev pub span_or : Option Token → Span
span_or None = record { start = 0; end = 0 }
span_or (Some t) = t.span

-- where token number i is
abbrev pub span_at : List Token → ℕ → Span
span_at ts i = span_or (slice_get ts i)
