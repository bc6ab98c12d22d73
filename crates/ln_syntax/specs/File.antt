-- Which tokens spell which items: the grammar from FILE down to its expressions, one rule a constructor.
use Rattle.std.specs.Prelude.{ℕ, suc, List, [], ◌∷◌, length, true, false}
use Rattle.ln_syntax.specs.Raw.{Token, RawEnd, RawRange, RawCoord, RawArg, RawLet, Item, SiteItem, ParamItem, PredItem, Is, span_at, Name, Number, Site, Param}
use Rattle.ln_syntax.specs.Raw.{Predicate, Let, Sign, BraceL, BraceR, ParL, ParR, Colon, Semi, Comma, Dots, Minus, Equals}
use Rattle.ln_syntax.specs.Expression.{IsExpr}

-- SNUM := NUMBER | - NUMBER
pub data End (ts : List Token) : ℕ → ℕ → RawEnd → Type 0 where
  plain : {i : ℕ} → Is ts i Number → End ts i (suc i) (record { negative = false; at = span_at ts i })
  minus : {i : ℕ} → Is ts i Minus → Is ts (suc i) Number → End ts i (suc (suc i)) (record { negative = true; at = span_at ts (suc i) })

-- RANGE := SNUM .. SNUM
pub data Range (ts : List Token) : ℕ → ℕ → RawRange → Type 0 where
  range : {i j k : ℕ} {a b : RawEnd} → End ts i j a → Is ts j Dots → End ts (suc j) k b → Range ts i k (record { low = a; high = b })

-- COORD*, COORD := NAME : RANGE ;
pub data Coords (ts : List Token) : ℕ → ℕ → List RawCoord → Type 0 where
  no_coord : {i : ℕ} → Coords ts i i []
  coord : {i j k : ℕ} {r : RawRange} {cs : List RawCoord} → Is ts i Name → Is ts (suc i) Colon → Range ts (suc (suc i)) j r →
      Is ts j Semi → Coords ts (suc j) k cs
      → Coords ts i k (record { name = span_at ts i; range = r } ∷ cs)

-- ARG := NAME : NAME | NAME : param
pub data Arg (ts : List Token) : ℕ → RawArg → Type 0 where
  site_arg : {i : ℕ} → Is ts i Name → Is ts (suc i) Colon → Is ts (suc (suc i)) Name →
      Arg ts i (record { name = span_at ts i; kind = span_at ts (suc (suc i)); is_param = false })
  param_arg : {i : ℕ} → Is ts i Name → Is ts (suc i) Colon → Is ts (suc (suc i)) Param →
      Arg ts i (record { name = span_at ts i; kind = span_at ts (suc (suc i)); is_param = true })

-- ARG (, ARG)*
pub data Args (ts : List Token) : ℕ → ℕ → List RawArg → Type 0 where
  last_arg : {i : ℕ} {a : RawArg} → Arg ts i a → Args ts i (suc (suc (suc i))) (a ∷ [])
  more_args : {i k : ℕ} {a : RawArg} {rest : List RawArg} → Arg ts i a → Is ts (suc (suc (suc i))) Comma →
      Args ts (suc (suc (suc (suc i)))) k rest → Args ts i k (a ∷ rest)

-- LET*, LET := let NAME = EXPR ;
pub data Lets (ts : List Token) : ℕ → ℕ → List RawLet → Type 0 where
  no_let : {i : ℕ} → Lets ts i i []
  a_let : {i j k : ℕ} {ls : List RawLet} → Is ts i Let → Is ts (suc i) Name → Is ts (suc (suc i)) Equals →
      IsExpr ts (suc (suc (suc i))) j → Is ts j Semi → Lets ts (suc j) k ls
      → Lets ts i k (record { name = span_at ts (suc i); value = record { from = suc (suc (suc i)); to = j } } ∷ ls)

-- ITEM
pub data IsItem (ts : List Token) : ℕ → ℕ → Item → Type 0 where
  -- site NAME { COORD+ }
  site : {i j : ℕ} {c : RawCoord} {cs : List RawCoord} → Is ts i Site → Is ts (suc i) Name → Is ts (suc (suc i)) BraceL →
      Coords ts (suc (suc (suc i))) j (c ∷ cs) → Is ts j BraceR
      → IsItem ts i (suc j) (SiteItem (span_at ts (suc i)) (c ∷ cs))
  -- param NAME : RANGE ;
  param : {i j : ℕ} {r : RawRange} → Is ts i Param → Is ts (suc i) Name → Is ts (suc (suc i)) Colon →
      Range ts (suc (suc (suc i))) j r → Is ts j Semi
      → IsItem ts i (suc j) (ParamItem (span_at ts (suc i)) r)
  -- predicate NAME ( ARG (, ARG)* ) { LET* sign EXPR ; }
  predicate : {i j k l : ℕ} {args : List RawArg} {ls : List RawLet} → Is ts i Predicate → Is ts (suc i) Name →
      Is ts (suc (suc i)) ParL → Args ts (suc (suc (suc i))) j args → Is ts j ParR
      → Is ts (suc j) BraceL → Lets ts (suc (suc j)) k ls → Is ts k Sign → IsExpr ts (suc k) l → Is ts l Semi → Is ts (suc l) BraceR
      → IsItem ts i (suc (suc l)) (PredItem (span_at ts (suc i)) args ls (record { from = suc k; to = l }))

-- ITEM*
pub data Items (ts : List Token) : ℕ → ℕ → List Item → Type 0 where
  no_item : {i : ℕ} → Items ts i i []
  an_item : {i j k : ℕ} {x : Item} {xs : List Item} → IsItem ts i j x → Items ts j k xs → Items ts i k (x ∷ xs)

-- the tokens spell the items
abbrev pub Spelt : List Token → List Item → Type 0
Spelt ts xs = Items ts 0 (length ts) xs
