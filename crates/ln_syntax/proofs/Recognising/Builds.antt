-- What the automaton has read is a prefix of a derivation: what a state still wants is the function that takes it.
use Rattle.std.proofs.Common.{◌≡◌, ℕ, zero, suc, ◌+◌, ◌<◌, List, [], ◌∷◌, length, drop, Some, None, refl, ap, sym, subst, arith}
use Rattle.ln_syntax.specs.Raw.{Token, RawEnd, RawCoord, RawArg, RawLet, Item, Is, span_at, Kind, Name, Number, Site, Param, Predicate, Let, Sign, BraceL}
use Rattle.ln_syntax.specs.Raw.{BraceR, ParL, ParR, Colon, Semi, Comma, Dot, Dots, Plus, Minus, Star, Caret, Equals}
use Rattle.ln_syntax.specs.declared.place.Ranged.{Ranged}
use Rattle.ln_syntax.specs.declared.place.Ranged.TheVariants.{Coordinate, Parameter}
use Rattle.ln_syntax.specs.declared.place.Part.{Part}
use Rattle.ln_syntax.specs.declared.place.Part.TheVariants.{Value, Root}
use Rattle.ln_syntax.specs.declared.place.Last.{Last}
use Rattle.ln_syntax.specs.declared.place.Last.TheVariants.{Named, Whole, Raised}
use Rattle.ln_syntax.specs.declared.place.State.{State}
use Rattle.ln_syntax.specs.declared.place.State.TheVariants.{AnItem, SiteName, SiteOpen, CoordName, CoordColon, CoordOrEnd, ParamName, ParamColon, Low}
use Rattle.ln_syntax.specs.declared.place.State.TheVariants.{LowNumber, Between, High, HighNumber, RangeEnd, PredicateName, PredicateOpen, ArgName, ArgColon}
use Rattle.ln_syntax.specs.declared.place.State.TheVariants.{ArgKind, ArgEnd, BodyOpen, Body, LetName, LetEquals, Operand, InputName, Exponent, After, BodyEnd}
use Rattle.ln_syntax.specs.Expression.{Tree, TAdd, TSub, TMul, Sort, Atom, Power, Unary, Sum, Factors, Terms, Derives, number, name, input, parens, plain}
use Rattle.ln_syntax.specs.Expression.{power, base, minus, term, no_factor, times, sum, no_term, plus, less}
use Rattle.ln_syntax.specs.File.{End, range, Coords, no_coord, coord, Arg, site_arg, param_arg, Args, last_arg, more_args, Lets, no_let, a_let, site, param}
use Rattle.ln_syntax.specs.File.{predicate, Items, no_item, an_item}
use Rattle.ln_syntax.specs.File as File
use Rattle.ln_syntax.specs.Place.{IsText}
use Rattle.ln_syntax.specs.Automaton.{Standing, next_of, behind, next_at, goes, start}

-- terms that end before place k, in a sum that begins at place s
pub record Added (ts : List Token) (s k : ℕ) : Type 0 where
  pub tree : Tree
  pub on : (l : ℕ) (h : Tree) → Derives ts (Terms tree) k l h → Derives ts Sum s l h

-- factors that end before place j
pub record Timed (ts : List Token) (s j : ℕ) : Type 0 where
  pub tree : Tree
  pub on : (k : ℕ) (e : Tree) → Derives ts (Factors tree) j k e → Added ts s k

-- a factor is wanted at place i
pub record Wanted (ts : List Token) (s i : ℕ) : Type 0 where
  pub on : (j : ℕ) (e : Tree) → Derives ts Unary i j e → Timed ts s j

-- items from place i up to place k
abbrev SomeItems : List Token → ℕ → ℕ → Type 0
SomeItems ts i k = (xs : List Item) × Items ts i k xs

-- items up to place i
pub record Front (ts : List Token) (i : ℕ) : Type 0 where
  pub on : (k : ℕ) → SomeItems ts i k → SomeItems ts 0 k

-- a coordinate or the end of a site type is wanted
abbrev WantsMore : List Token → ℕ → Type 0
WantsMore ts i = (j : ℕ) (cs : List RawCoord) → Coords ts i j cs → Is ts j BraceR → Front ts (suc j)

-- a coordinate is wanted
abbrev WantsCoords : List Token → ℕ → Type 0
WantsCoords ts i = (j : ℕ) (c : RawCoord) (cs : List RawCoord) → Coords ts i j (c ∷ cs) → Is ts j BraceR → Front ts (suc j)

abbrev WantsRangeEnd : List Token → Ranged → ℕ → Type 0
WantsRangeEnd ts Coordinate i = Is ts i Semi → WantsMore ts (suc i)
WantsRangeEnd ts Parameter i = Is ts i Semi → Front ts (suc i)

abbrev WantsHigh : List Token → Ranged → ℕ → Type 0
WantsHigh ts r i = (j : ℕ) (b : RawEnd) → End ts i j b → WantsRangeEnd ts r j

abbrev WantsBetween : List Token → Ranged → ℕ → Type 0
WantsBetween ts r i = Is ts i Dots → WantsHigh ts r (suc i)

abbrev WantsLow : List Token → Ranged → ℕ → Type 0
WantsLow ts r i = (j : ℕ) (a : RawEnd) → End ts i j a → WantsBetween ts r j

abbrev WantsBodyEnd : List Token → ℕ → Type 0
WantsBodyEnd ts i = Is ts i BraceR → Front ts (suc i)

-- the expression of the sign part is wanted
abbrev WantsRoot : List Token → ℕ → Type 0
WantsRoot ts i = (j : ℕ) (e : Tree) → Derives ts Sum i j e → Is ts j Semi → WantsBodyEnd ts (suc j)

-- lets and the sign part are wanted
abbrev WantsBody : List Token → ℕ → Type 0
WantsBody ts i = (j : ℕ) (ls : List RawLet) → Lets ts i j ls → Is ts j Sign → WantsRoot ts (suc j)

abbrev WantsBodyOpen : List Token → ℕ → Type 0
WantsBodyOpen ts i = Is ts i BraceL → WantsBody ts (suc i)

abbrev WantsArgName : List Token → ℕ → Type 0
WantsArgName ts i = (j : ℕ) (xs : List RawArg) → Args ts i j xs → Is ts j ParR → WantsBodyOpen ts (suc j)

abbrev WantsArgEnd : List Token → ℕ → Type 0
WantsArgEnd ts i = (Is ts i Comma → WantsArgName ts (suc i)) × (Is ts i ParR → WantsBodyOpen ts (suc i))

abbrev WantsArgKind : List Token → ℕ → Type 0
WantsArgKind ts i = (Is ts i Name → WantsArgEnd ts (suc i)) × (Is ts i Param → WantsArgEnd ts (suc i))

-- an expression is wanted
abbrev WantsSum : List Token → Part → ℕ → Type 0
WantsSum ts Root i = WantsRoot ts i
WantsSum ts Value i = (j : ℕ) (e : Tree) → Derives ts Sum i j e → Is ts j Semi → WantsBody ts (suc j)

-- a factor is wanted in this many parentheses
abbrev Before : List Token → Part → ℕ → ℕ → Type 0
Before ts p zero i = (s : ℕ) × WantsSum ts p s × Wanted ts s i
Before ts p (suc d) i = (s : ℕ) × Before ts p d s × Is ts s ParL × Wanted ts (suc s) i

-- at an expression's first place a factor is wanted
begins : (ts : List Token) (s : ℕ) → Wanted ts s s
begins ts s = record { on = λ j e d. record { tree = e; on = λ k f x. record { tree = f; on = λ l h y. sum (term d x) y } } }

inner : {ts : List Token} (p : Part) {i j : ℕ} (d : ℕ) → ((s : ℕ) → Wanted ts s i → Wanted ts s j) → Before ts p d i → Before ts p d j
inner p zero f w = (w.0, w.1, f w.0 w.2)
inner p (suc d) f w = (w.0, w.1, w.2, f (suc w.0) w.3)

negated : {ts : List Token} {i : ℕ} → Is ts i Minus → (s : ℕ) → Wanted ts s i → Wanted ts s (suc i)
negated is s w = record { on = λ j e d. w.on j _ (minus is d) }

times_more : {ts : List Token} {i j : ℕ} {e : Tree} → Derives ts Unary i j e → Is ts j Star → (s : ℕ) → Wanted ts s i → Wanted ts s (suc j)
times_more {ts = ts} {j = j} {e = e} d is s w =
    let t = w.on j e d in
    record { on = λ k g x. record { tree = TMul (span_at ts j) t.tree g; on = λ l h y. t.on l h (times is x y) } }

term_end : {ts : List Token} {s i j : ℕ} {e : Tree} → Derives ts Unary i j e → Wanted ts s i → Added ts s j
term_end {j = j} {e = e} d w = let t = w.on j e d in t.on j t.tree no_factor

plus_more : {ts : List Token} {i j : ℕ} {e : Tree} → Derives ts Unary i j e → Is ts j Plus → (s : ℕ) → Wanted ts s i → Wanted ts s (suc j)
plus_more {ts = ts} {j = j} d is s w =
    let t = term_end d w in
    record { on = λ k g x. record { tree = g; on = λ l h y. record { tree = TAdd (span_at ts j) t.tree h; on = λ m u z. t.on m u (plus is (term x y) z) } } }

less_more : {ts : List Token} {i j : ℕ} {e : Tree} → Derives ts Unary i j e → Is ts j Minus → (s : ℕ) → Wanted ts s i → Wanted ts s (suc j)
less_more {ts = ts} {j = j} d is s w =
    let t = term_end d w in
    record { on = λ k g x. record { tree = g; on = λ l h y. record { tree = TSub (span_at ts j) t.tree h; on = λ m u z. t.on m u (less is (term x y) z) } } }

-- an operand ends before place j
pub record Read (ts : List Token) (p : Part) (d : ℕ) (s : Sort) (j : ℕ) : Type 0 where
  pub from : ℕ
  pub tree : Tree
  pub before : Before ts p d from
  pub derives : Derives ts s from j tree

-- a bare name ends before place j
pub record NameRead (ts : List Token) (p : Part) (d j : ℕ) : Type 0 where
  pub from : ℕ
  pub before : Before ts p d from
  pub is : Is ts from Name
  pub next : j ≡ suc from

-- what comes before place j in each state
abbrev ComesBeforeIn : List Token → State → ℕ → ℕ → Type 0
ComesBeforeIn ts AnItem d j = Front ts j
ComesBeforeIn ts SiteName d j = Is ts j Name → Is ts (suc j) BraceL → WantsCoords ts (suc (suc j))
ComesBeforeIn ts SiteOpen d j = Is ts j BraceL → WantsCoords ts (suc j)
ComesBeforeIn ts CoordName d j = WantsCoords ts j
ComesBeforeIn ts CoordColon d j = Is ts j Colon → WantsLow ts Coordinate (suc j)
ComesBeforeIn ts CoordOrEnd d j = WantsMore ts j
ComesBeforeIn ts ParamName d j = Is ts j Name → Is ts (suc j) Colon → WantsLow ts Parameter (suc (suc j))
ComesBeforeIn ts ParamColon d j = Is ts j Colon → WantsLow ts Parameter (suc j)
ComesBeforeIn ts (Low r) d j = WantsLow ts r j
ComesBeforeIn ts (LowNumber r) d j = Is ts j Number → WantsBetween ts r (suc j)
ComesBeforeIn ts (Between r) d j = WantsBetween ts r j
ComesBeforeIn ts (High r) d j = WantsHigh ts r j
ComesBeforeIn ts (HighNumber r) d j = Is ts j Number → WantsRangeEnd ts r (suc j)
ComesBeforeIn ts (RangeEnd r) d j = WantsRangeEnd ts r j
ComesBeforeIn ts PredicateName d j = Is ts j Name → Is ts (suc j) ParL → WantsArgName ts (suc (suc j))
ComesBeforeIn ts PredicateOpen d j = Is ts j ParL → WantsArgName ts (suc j)
ComesBeforeIn ts ArgName d j = WantsArgName ts j
ComesBeforeIn ts ArgColon d j = Is ts j Colon → WantsArgKind ts (suc j)
ComesBeforeIn ts ArgKind d j = WantsArgKind ts j
ComesBeforeIn ts ArgEnd d j = WantsArgEnd ts j
ComesBeforeIn ts BodyOpen d j = WantsBodyOpen ts j
ComesBeforeIn ts Body d j = WantsBody ts j
ComesBeforeIn ts LetName d j = Is ts j Name → Is ts (suc j) Equals → WantsSum ts Value (suc (suc j))
ComesBeforeIn ts LetEquals d j = Is ts j Equals → WantsSum ts Value (suc j)
ComesBeforeIn ts (Operand p) d j = Before ts p d j
ComesBeforeIn ts (InputName p) d j = Is ts j Name → Read ts p d Atom (suc j)
ComesBeforeIn ts (Exponent p) d j = Is ts j Number → Read ts p d Power (suc j)
ComesBeforeIn ts (After p Named) d j = NameRead ts p d j
ComesBeforeIn ts (After p Whole) d j = Read ts p d Atom j
ComesBeforeIn ts (After p Raised) d j = Read ts p d Power j
ComesBeforeIn ts BodyEnd d j = WantsBodyEnd ts j

abbrev ComesBefore : List Token → Standing → ℕ → Type 0
ComesBefore ts None j = Unit {0}
ComesBefore ts (Some c) j = ComesBeforeIn ts c.0 c.1 j

-- a name is an atom
named : {ts : List Token} {p : Part} {d j : ℕ} → NameRead ts p d j → Read ts p d Atom j
named {ts = ts} {p = p} {d = d} r =
    subst (λ (w : ℕ). Read ts p d Atom w) (sym r.next) (record { from = r.from; tree = _; before = r.before; derives = name r.is })

as_unary : {ts : List Token} {p : Part} {d j : ℕ} (l : Last) → ComesBeforeIn ts (After p l) d j → Read ts p d Unary j
as_unary Named h = let r = named h in record { from = r.from; tree = r.tree; before = r.before; derives = base (plain r.derives) }
as_unary Whole r = record { from = r.from; tree = r.tree; before = r.before; derives = base (plain r.derives) }
as_unary Raised r = record { from = r.from; tree = r.tree; before = r.before; derives = base r.derives }

close : (ts : List Token) (p : Part) (d j : ℕ) → Read ts p (suc d) Unary j → Is ts j ParR → Read ts p d Atom (suc j)
close ts p d j r is =
    let b = r.before in
    let t = term_end r.derives b.3 in
    record { from = b.0; tree = t.tree; before = b.1; derives = parens b.2 (t.on j t.tree no_term) is }

end : (ts : List Token) (p : Part) (j : ℕ) → Read ts p 0 Unary j → Is ts j Semi → ComesBefore ts (behind p Whole 0 Semi) (suc j)
end ts Root j r s = let b = r.before in let t = term_end r.derives b.2 in b.1 j t.tree (t.on j t.tree no_term) s
end ts Value j r s = let b = r.before in let t = term_end r.derives b.2 in b.1 j t.tree (t.on j t.tree no_term) s

raise : (ts : List Token) (p : Part) (d j : ℕ) → Read ts p d Atom j → Is ts j Caret → Is ts (suc j) Number → Read ts p d Power (suc (suc j))
raise ts p d j r h n = record { from = r.from; tree = _; before = r.before; derives = power r.derives h n }

field_of : (ts : List Token) (p : Part) (d j : ℕ) → NameRead ts p d j → Is ts j Dot → Is ts (suc j) Name → Read ts p d Atom (suc (suc j))
field_of ts p d j r h n =
    let h2 : Is ts (suc r.from) Dot = subst (λ (w : ℕ). Is ts w Dot) r.next h in
    let n2 : Is ts (suc (suc r.from)) Name = subst (λ (w : ℕ). Is ts (suc w) Name) r.next n in
    subst (λ (w : ℕ). Read ts p d Atom (suc (suc w))) (sym r.next) (record { from = r.from; tree = _; before = r.before; derives = input r.is h2 n2 })

-- a token after an operand
past : (ts : List Token) (p : Part) (l : Last) (d j : ℕ) (k : Kind) → ComesBeforeIn ts (After p l) d j → Is ts j k → ComesBefore ts (behind p l d k) (suc j)
past ts p l d j Plus h is = let r = as_unary l h in inner p d (plus_more r.derives is) r.before
past ts p l d j Minus h is = let r = as_unary l h in inner p d (less_more r.derives is) r.before
past ts p l d j Star h is = let r = as_unary l h in inner p d (times_more r.derives is) r.before
past ts p l zero j ParR h is = tt
past ts p l (suc d) j ParR h is = close ts p d j (as_unary l h) is
past ts p l zero j Semi h is = end ts p j (as_unary l h) is
past ts Root l (suc d) j Semi h is = tt
past ts Value l (suc d) j Semi h is = tt
past ts p Named d j Caret h is = λ n. raise ts p d j (named h) is n
past ts p Whole d j Caret h is = λ n. raise ts p d j h is n
past ts p Raised d j Caret h is = tt
past ts p Named d j Dot h is = λ n. field_of ts p d j h is n
past ts p Whole d j Dot h is = tt
past ts p Raised d j Dot h is = tt
past ts p l d j k h is = tt

arg_ends : {ts : List Token} {i : ℕ} {a : RawArg} → WantsArgName ts i → Arg ts i a → WantsArgEnd ts (suc (suc (suc i)))
arg_ends w a = (λ c k xs ys b. w k _ (more_args a c ys) b, λ b. w _ _ (last_arg a) b)

first_coord : {ts : List Token} {i : ℕ} → WantsCoords ts i → Is ts i Name → Is ts (suc i) Colon → WantsLow ts Coordinate (suc (suc i))
first_coord h is c = λ j a l o k b u s m cs ds e. h m _ cs (coord is c (range l o u) s ds) e

coord_more : {ts : List Token} {i : ℕ} → WantsMore ts i → Is ts i Name → Is ts (suc i) Colon → WantsLow ts Coordinate (suc (suc i))
coord_more h is c = λ j a l o k b u s m cs ds e. h m _ (coord is c (range l o u) s ds) e

let_more : {ts : List Token} {i : ℕ} → WantsBody ts i → Is ts i Let → Is ts (suc i) Name → Is ts (suc (suc i)) Equals → WantsSum ts Value (suc (suc (suc i)))
let_more h is n q = λ j e x s k ls ds. h k _ (a_let is n q (e, x) s ds)

site_begins : {ts : List Token} {i : ℕ} → Front ts i → Is ts i Site → Is ts (suc i) Name → Is ts (suc (suc i)) BraceL → WantsCoords ts (suc (suc (suc i)))
site_begins f is n b = λ j c cs ds e. record { on = λ m x. f.on m (_, an_item (site is n b ds e) x.1) }

param_begins : {ts : List Token} {i : ℕ} → Front ts i → Is ts i Param → Is ts (suc i) Name → Is ts (suc (suc i)) Colon
    → WantsLow ts Parameter (suc (suc (suc i)))
param_begins f is n c = λ j a l o k b h s. record { on = λ m x. f.on m (_, an_item (param is n c (range l o h) s) x.1) }

predicate_begins : {ts : List Token} {i : ℕ} → Front ts i → Is ts i Predicate → Is ts (suc i) Name → Is ts (suc (suc i)) ParL
    → WantsArgName ts (suc (suc (suc i)))
predicate_begins f is n o = λ j xs ys c b k ls ds g l t e s z. record { on = λ m x. f.on m (_, an_item (predicate is n o ys c b ds g (t, e) s z) x.1) }

-- a token in each state
more : (ts : List Token) (s : State) (d j : ℕ) (k : Kind) → ComesBeforeIn ts s d j → Is ts j k → ComesBefore ts (next_of s d k) (suc j)
more ts AnItem d j Site h is = λ n b. site_begins h is n b
more ts AnItem d j Param h is = λ n c. param_begins h is n c
more ts AnItem d j Predicate h is = λ n o. predicate_begins h is n o
more ts SiteName d j Name h is = h is
more ts SiteOpen d j BraceL h is = h is
more ts CoordName d j Name h is = λ c. first_coord h is c
more ts CoordColon d j Colon h is = h is
more ts CoordOrEnd d j Name h is = λ c. coord_more h is c
more ts CoordOrEnd d j BraceR h is = h j [] no_coord is
more ts ParamName d j Name h is = h is
more ts ParamColon d j Colon h is = h is
more ts (Low r) d j Number h is = h (suc j) _ (File.plain is)
more ts (Low r) d j Minus h is = λ n. h (suc (suc j)) _ (File.minus is n)
more ts (LowNumber r) d j Number h is = h is
more ts (Between r) d j Dots h is = h is
more ts (High r) d j Number h is = h (suc j) _ (File.plain is)
more ts (High r) d j Minus h is = λ n. h (suc (suc j)) _ (File.minus is n)
more ts (HighNumber r) d j Number h is = h is
more ts (RangeEnd Coordinate) d j Semi h is = h is
more ts (RangeEnd Parameter) d j Semi h is = h is
more ts PredicateName d j Name h is = h is
more ts PredicateOpen d j ParL h is = h is
more ts ArgName d j Name h is = λ c. (λ n. arg_ends h (site_arg is c n), λ p. arg_ends h (param_arg is c p))
more ts ArgColon d j Colon h is = h is
more ts ArgKind d j Name h is = h.0 is
more ts ArgKind d j Param h is = h.1 is
more ts ArgEnd d j Comma h is = h.0 is
more ts ArgEnd d j ParR h is = h.1 is
more ts BodyOpen d j BraceL h is = h is
more ts Body d j Let h is = λ n q. let_more h is n q
more ts Body d j Sign h is = (suc j, h j [] no_let is, begins ts (suc j))
more ts LetName d j Name h is = h is
more ts LetEquals d j Equals h is = (suc j, h is, begins ts (suc j))
more ts (Operand p) d j Name h is = record { from = j; before = h; is = is; next = refl }
more ts (Operand p) d j Number h is = record { from = j; tree = _; before = h; derives = number is }
more ts (Operand p) d j ParL h is = (j, h, is, begins ts (suc j))
more ts (Operand p) d j Minus h is = inner p d (negated is) h
more ts (InputName p) d j Name h is = h is
more ts (Exponent p) d j Number h is = h is
more ts (After p l) d j k h is = past ts p l d j k h is
more ts BodyEnd d j BraceR h is = h is
more ts s d j k h is = tt

more_at : (ts : List Token) (o : Standing) (j : ℕ) (k : Kind) → ComesBefore ts o j → Is ts j k → ComesBefore ts (next_at o k) (suc j)
more_at ts None j k h is = tt
more_at ts (Some c) j k h is = more ts c.0 c.1 j k h is

-- the list from place j on
pub record From (ts : List Token) (j : ℕ) (t : Token) (us : List Token) : Type 0 where
  pub first : Is ts j t.kind
  pub span : span_at ts j ≡ t.span
  pub rest : drop (suc j) ts ≡ us
  pub more : j < length ts

-- so it is where the remaining list begins with a token
pub from : (ts : List Token) (j : ℕ) (t : Token) (us : List Token) → drop j ts ≡ t ∷ us → From ts j t us
from [] zero t us e = absurd (cc)
from [] (suc j) t us e = absurd (cc)
from (x ∷ xs) zero t us e =
    let q : x ≡ t = cc in
    record { first = ap (λ (w : Token). Some w.kind) q; span = ap (λ (w : Token). w.span) q; rest = cc; more = omega arith }
from (x ∷ xs) (suc j) t us e = let r = from xs j t us e in record { first = r.first; span = r.span; rest = r.rest; more = omega (arith, r.more) }

stands_all : (ts us : List Token) (o : Standing) (j : ℕ) → drop j ts ≡ us → ComesBefore ts o j → ComesBefore ts (goes o us) (j + length us)
stands_all ts [] o j e h = let q : j ≡ j + 0 = omega arith in subst (λ (w : ℕ). ComesBefore ts o w) q h
stands_all ts (t ∷ us) o j e h =
    let r = from ts j t us e in
    let q : suc j + length us ≡ j + length (t ∷ us) = omega arith in
    subst (λ (w : ℕ). ComesBefore ts (goes (next_at o t.kind) us) w) q (stands_all ts us (next_at o t.kind) (suc j) r.rest (more_at ts o j t.kind h r.first))

-- tokens that take the automaton to its end are a file
pub text : (ts : List Token) (d : ℕ) → goes start ts ≡ Some (AnItem, d) → IsText ts
text ts d e =
    let h : ComesBefore ts (goes start ts) (0 + length ts) = stands_all ts ts start 0 refl (record { on = λ k x. x }) in
    let g : ComesBefore ts (Some (AnItem, d)) (0 + length ts) = subst (λ (o : Standing). ComesBefore ts o (0 + length ts)) e h in
    let z : 0 + length ts ≡ length ts = omega arith in
    let r : Front ts (length ts) = subst (λ (w : ℕ). Front ts w) z g in
    r.on (length ts) ([], no_item)
