-- A derivation of a file takes the automaton from its start to its end.
use Rattle.std.proofs.Common.{◌≡◌, ℕ, zero, suc, List, [], ◌∷◌, ◌++◌, length, drop, Some, None, refl, ap, ◌∙◌, arith}
use Rattle.std.proofs.lemmas.List.{drop_all}
use Rattle.ln_syntax.specs.Raw.{Token, RawEnd, RawRange, RawCoord, RawArg, RawLet, Item, Is, Kind, Name, Number, Site, Param, Predicate, Let, Sign, BraceL}
use Rattle.ln_syntax.specs.Raw.{BraceR, ParL, ParR, Colon, Semi, Comma, Dot, Dots, Plus, Minus, Star, Caret, Equals}
use Rattle.ln_syntax.specs.declared.place.Ranged.{Ranged}
use Rattle.ln_syntax.specs.declared.place.Ranged.TheVariants.{Coordinate, Parameter}
use Rattle.ln_syntax.specs.declared.place.Part.{Part}
use Rattle.ln_syntax.specs.declared.place.Part.TheVariants.{Value, Root}
use Rattle.ln_syntax.specs.declared.place.Last.{Last}
use Rattle.ln_syntax.specs.declared.place.Last.TheVariants.{Named, Whole, Raised}
use Rattle.ln_syntax.specs.declared.place.State.{State}
use Rattle.ln_syntax.specs.declared.place.State.TheVariants.{AnItem, SiteName, SiteOpen, CoordName, CoordColon, CoordOrEnd, ParamName, ParamColon, Low}
use Rattle.ln_syntax.specs.declared.place.State.TheVariants.{LowNumber, Between, High, HighNumber, RangeEnd, PredicateName, PredicateOpen, ArgName, ArgColon}
use Rattle.ln_syntax.specs.declared.place.State.TheVariants.{ArgKind, ArgEnd, BodyOpen, Body, LetName, LetEquals, Operand, InputName, Exponent, After, BodyEnd}
use Rattle.ln_syntax.specs.Expression.{Tree, Sort, Atom, Power, Unary, Term, Sum, Factors, Terms, Derives, number, name, input, parens, plain, power, base}
use Rattle.ln_syntax.specs.Expression.{minus, term, no_factor, times, sum, no_term, plus, less}
use Rattle.ln_syntax.specs.File.{End, Range, range, Coords, no_coord, coord, Arg, site_arg, param_arg, Args, last_arg, more_args, Lets, no_let, a_let, IsItem}
use Rattle.ln_syntax.specs.File.{site, param, predicate, Items, no_item, an_item}
use Rattle.ln_syntax.specs.File as File
use Rattle.ln_syntax.specs.Place.{IsText}
use Rattle.ln_syntax.specs.Automaton.{Standing, behind, next_at, goes, start}

-- steps at tokens and then at more
pub goes_append : (o : Standing) (xs ys : List Token) → goes o (xs ++ ys) ≡ goes (goes o xs) ys
goes_append o [] ys = refl
goes_append o (x ∷ xs) ys = goes_append (next_at o x.kind) xs ys

-- from nowhere there is no way on
pub goes_none : (ts : List Token) → goes None ts ≡ None
goes_none [] = refl
goes_none (t ∷ ts) = goes_none ts

-- one step at the token at place i
one : (ts : List Token) (i : ℕ) (k : Kind) (o : Standing) → Is ts i k → goes o (drop i ts) ≡ goes (next_at o k) (drop (suc i) ts)
one [] i k o is = absurd (cc)
one (t ∷ ts) zero k o is = let e : t.kind ≡ k = cc in ap (λ (w : Kind). goes (next_at o w) ts) e
one (t ∷ ts) (suc i) k o is = one ts i k o is

-- from this state at place i the automaton comes to an operand that ends before place j
record Comes (ts : List Token) (p : Part) (s : State) (d i j : ℕ) : Type 0 where
  last : Last
  same : goes (Some (s, d)) (drop i ts) ≡ goes (Some (After p last, d)) (drop j ts)

-- the same, where the operand is an atom: a ^ may follow
record ComesAtom (ts : List Token) (p : Part) (d i j : ℕ) : Type 0 where
  last : Last
  same : goes (Some (Operand p, d)) (drop i ts) ≡ goes (Some (After p last, d)) (drop j ts)
  raised : Is ts j Caret → goes (Some (After p last, d)) (drop j ts) ≡ goes (Some (Exponent p, d)) (drop (suc j) ts)

-- what a derivation of each sort does to the automaton
abbrev Reads : List Token → Sort → Part → ℕ → ℕ → ℕ → Type 0
Reads ts Atom p d i j = ComesAtom ts p d i j
Reads ts Power p d i j = Comes ts p (Operand p) d i j
Reads ts Unary p d i j = Comes ts p (Operand p) d i j
Reads ts Term p d i j = Comes ts p (Operand p) d i j
Reads ts Sum p d i j = Comes ts p (Operand p) d i j
Reads ts (Factors f) p d i j = (l : Last) → Comes ts p (After p l) d i j
Reads ts (Terms f) p d i j = (l : Last) → Comes ts p (After p l) d i j

atom : (ts : List Token) (p : Part) (l : Last) (d i j : ℕ) → behind p l d Caret ≡ Some (Exponent p, d)
    → goes (Some (Operand p, d)) (drop i ts) ≡ goes (Some (After p l, d)) (drop j ts) → ComesAtom ts p d i j
atom ts p l d i j q e = record { last = l; same = e; raised = λ h. one ts j Caret (Some (After p l, d)) h ∙ ap (λ (o : Standing). goes o (drop (suc j) ts)) q }

-- a derivation within an expression is a run
reads : {ts : List Token} {s : Sort} {i j : ℕ} {e : Tree} (p : Part) (d : ℕ) → Derives ts s i j e → Reads ts s p d i j
reads {ts = ts} {i = i} {j = j} p d (number is) = atom ts p Whole d i j refl (one ts i Number (Some (Operand p, d)) is)
reads {ts = ts} {i = i} {j = j} p d (name is) = atom ts p Named d i j refl (one ts i Name (Some (Operand p, d)) is)
reads {ts = ts} {i = i} {j = j} p d (input is o n) = atom ts p Whole d i j refl
    (one ts i Name (Some (Operand p, d)) is ∙ one ts (suc i) Dot (Some (After p Named, d)) o ∙ one ts (suc (suc i)) Name (Some (InputName p, d)) n)
reads {ts = ts} {i = i} p d (parens {j = j} is x e) =
    let r = reads p (suc d) x in
    atom ts p Whole d i (suc j) refl (one ts i ParL (Some (Operand p, d)) is ∙ r.same ∙ one ts j ParR (Some (After p r.last, suc d)) e)
reads p d (plain x) = let r = reads p d x in record { last = r.last; same = r.same }
reads {ts = ts} p d (power {j = j} x h n) =
    let r = reads p d x in
    record { last = Raised; same = r.same ∙ r.raised h ∙ one ts (suc j) Number (Some (Exponent p, d)) n }
reads p d (base x) = reads p d x
reads {ts = ts} {i = i} p d (minus is x) = let r = reads p d x in record { last = r.last; same = one ts i Minus (Some (Operand p, d)) is ∙ r.same }
reads p d (term x y) = let r = reads p d x in let q = reads p d y r.last in record { last = q.last; same = r.same ∙ q.same }
reads p d no_factor = λ l. record { last = l; same = refl }
reads {ts = ts} {i = i} p d (times is x y) = λ l. let r = reads p d x in
    let q = reads p d y r.last in
    record { last = q.last; same = one ts i Star (Some (After p l, d)) is ∙ r.same ∙ q.same }
reads p d (sum x y) = let r = reads p d x in let q = reads p d y r.last in record { last = q.last; same = r.same ∙ q.same }
reads p d no_term = λ l. record { last = l; same = refl }
reads {ts = ts} {i = i} p d (plus is x y) = λ l. let r = reads p d x in
    let q = reads p d y r.last in
    record { last = q.last; same = one ts i Plus (Some (After p l, d)) is ∙ r.same ∙ q.same }
reads {ts = ts} {i = i} p d (less is x y) = λ l. let r = reads p d x in
    let q = reads p d y r.last in
    record { last = q.last; same = one ts i Minus (Some (After p l, d)) is ∙ r.same ∙ q.same }

low : {ts : List Token} {i j : ℕ} {e : RawEnd} (r : Ranged) → End ts i j e → goes (Some (Low r, 0)) (drop i ts) ≡ goes (Some (Between r, 0)) (drop j ts)
low {ts = ts} {i = i} r (File.plain n) = one ts i Number (Some (Low r, 0)) n
low {ts = ts} {i = i} r (File.minus m n) = one ts i Minus (Some (Low r, 0)) m ∙ one ts (suc i) Number (Some (LowNumber r, 0)) n

high : {ts : List Token} {i j : ℕ} {e : RawEnd} (r : Ranged) → End ts i j e → goes (Some (High r, 0)) (drop i ts) ≡ goes (Some (RangeEnd r, 0)) (drop j ts)
high {ts = ts} {i = i} r (File.plain n) = one ts i Number (Some (High r, 0)) n
high {ts = ts} {i = i} r (File.minus m n) = one ts i Minus (Some (High r, 0)) m ∙ one ts (suc i) Number (Some (HighNumber r, 0)) n

ranged : {ts : List Token} {i j : ℕ} {x : RawRange} (r : Ranged) → Range ts i j x → goes (Some (Low r, 0)) (drop i ts) ≡ goes (Some (RangeEnd r, 0)) (drop j ts)
ranged {ts = ts} r (range {j = j} l o h) = low r l ∙ one ts j Dots (Some (Between r, 0)) o ∙ high r h

arg : {ts : List Token} {i : ℕ} {a : RawArg} → Arg ts i a → goes (Some (ArgName, 0)) (drop i ts) ≡ goes (Some (ArgEnd, 0)) (drop (suc (suc (suc i))) ts)
arg {ts = ts} {i = i} (site_arg n c t) =
    one ts i Name (Some (ArgName, 0)) n ∙ one ts (suc i) Colon (Some (ArgColon, 0)) c ∙ one ts (suc (suc i)) Name (Some (ArgKind, 0)) t
arg {ts = ts} {i = i} (param_arg n c t) =
    one ts i Name (Some (ArgName, 0)) n ∙ one ts (suc i) Colon (Some (ArgColon, 0)) c ∙ one ts (suc (suc i)) Param (Some (ArgKind, 0)) t

args : {ts : List Token} {i j : ℕ} {xs : List RawArg} → Args ts i j xs → goes (Some (ArgName, 0)) (drop i ts) ≡ goes (Some (ArgEnd, 0)) (drop j ts)
args (last_arg a) = arg a
args {ts = ts} {i = i} (more_args a c ys) = arg a ∙ one ts (suc (suc (suc i))) Comma (Some (ArgEnd, 0)) c ∙ args ys

lets : {ts : List Token} {i j : ℕ} {ls : List RawLet} → Lets ts i j ls → goes (Some (Body, 0)) (drop i ts) ≡ goes (Some (Body, 0)) (drop j ts)
lets no_let = refl
lets {ts = ts} {i = i} (a_let {j = j} l n q x s r) =
    let e = reads Value 0 x.1 in
    one ts i Let (Some (Body, 0)) l ∙ one ts (suc i) Name (Some (LetName, 0)) n ∙ one ts (suc (suc i)) Equals (Some (LetEquals, 0)) q
    ∙ e.same ∙ one ts j Semi (Some (After Value e.last, 0)) s ∙ lets r

-- further coordinates
coords : {ts : List Token} {i j : ℕ} {cs : List RawCoord} → Coords ts i j cs → goes (Some (CoordOrEnd, 0)) (drop i ts) ≡ goes (Some (CoordOrEnd, 0)) (drop j ts)
coords no_coord = refl
coords {ts = ts} {i = i} (coord {j = j} n c r s x) = one ts i Name (Some (CoordOrEnd, 0)) n ∙ one ts (suc i) Colon (Some (CoordColon, 0)) c
    ∙ ranged Coordinate r ∙ one ts j Semi (Some (RangeEnd Coordinate, 0)) s ∙ coords x

-- all coordinates of a site type
all_coords : {ts : List Token} {i j : ℕ} {c : RawCoord} {cs : List RawCoord} → Coords ts i j (c ∷ cs)
    → goes (Some (CoordName, 0)) (drop i ts) ≡ goes (Some (CoordOrEnd, 0)) (drop j ts)
all_coords {ts = ts} {i = i} (coord {j = j} n c r s x) = one ts i Name (Some (CoordName, 0)) n
    ∙ one ts (suc i) Colon (Some (CoordColon, 0)) c ∙ ranged Coordinate r ∙ one ts j Semi (Some (RangeEnd Coordinate, 0)) s ∙ coords x

item : {ts : List Token} {i j : ℕ} {x : Item} → IsItem ts i j x → goes (Some (AnItem, 0)) (drop i ts) ≡ goes (Some (AnItem, 0)) (drop j ts)
item {ts = ts} {i = i} (site {j = j} p n b cs e) =
    one ts i Site (Some (AnItem, 0)) p ∙ one ts (suc i) Name (Some (SiteName, 0)) n ∙ one ts (suc (suc i)) BraceL (Some (SiteOpen, 0)) b
    ∙ all_coords cs ∙ one ts j BraceR (Some (CoordOrEnd, 0)) e
item {ts = ts} {i = i} (param {j = j} p n c r s) =
    one ts i Param (Some (AnItem, 0)) p ∙ one ts (suc i) Name (Some (ParamName, 0)) n ∙ one ts (suc (suc i)) Colon (Some (ParamColon, 0)) c
    ∙ ranged Parameter r ∙ one ts j Semi (Some (RangeEnd Parameter, 0)) s
item {ts = ts} {i = i} (predicate {j = j} {k = k} {l = l} p n o ys c b ls g x s e) =
    let r = reads Root 0 x.1 in
    one ts i Predicate (Some (AnItem, 0)) p ∙ one ts (suc i) Name (Some (PredicateName, 0)) n ∙ one ts (suc (suc i)) ParL (Some (PredicateOpen, 0)) o
    ∙ args ys ∙ one ts j ParR (Some (ArgEnd, 0)) c ∙ one ts (suc j) BraceL (Some (BodyOpen, 0)) b ∙ lets ls
    ∙ one ts k Sign (Some (Body, 0)) g ∙ r.same ∙ one ts l Semi (Some (After Root r.last, 0)) s ∙ one ts (suc l) BraceR (Some (BodyEnd, 0)) e

items : {ts : List Token} {i j : ℕ} {xs : List Item} → Items ts i j xs → goes (Some (AnItem, 0)) (drop i ts) ≡ goes (Some (AnItem, 0)) (drop j ts)
items no_item = refl
items (an_item x xs) = item x ∙ items xs

-- a file takes the automaton to its end
pub whole : {ts : List Token} → IsText ts → goes start ts ≡ Some (AnItem, 0)
whole {ts = ts} x = items x.1 ∙ ap (λ (w : List Token). goes (Some (AnItem, 0)) w) (drop_all (length ts) ts (omega arith))
