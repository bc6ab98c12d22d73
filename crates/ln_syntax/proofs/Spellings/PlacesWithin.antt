-- The token places of items that tokens spell lie within the tokens.
use Rattle.std.proofs.Common.{◌≡◌, ℕ, ◌+◌, ◌≤◌, List, [], ◌∷◌, length, refl, ap, subst, arith}
use Rattle.std.specs.List.{All}
use Rattle.std.proofs.lemmas.List.Elements.{All-nil, All-cons}
use Rattle.ln_syntax.specs.Raw.{Token, RawLet, Places, RawItem, Item, PredItem, item, items, Is, Semi}
use Rattle.ln_syntax.specs.declared.raw.RawItem.TheVariants.{Site, Param, Pred}
use Rattle.ln_syntax.specs.Expression.{Tree, Sort, Atom, Power, Unary, Term, Sum, Factors, Terms, Derives, number, name, input, parens, plain, power, base}
use Rattle.ln_syntax.specs.Expression.{minus, term, no_factor, times, sum, no_term, plus, less, IsExpr}
use Rattle.ln_syntax.specs.File.{Lets, no_let, a_let, IsItem, site, param, predicate, Items, no_item, an_item, Spelt}
use Rattle.ln_syntax.specs.Within.{AreWithin, IsWithin}
use Rattle.ln_syntax.proofs.Spellings.Parts.{is_within}

-- how many tokens a text of the sort has at least
abbrev least : Sort → ℕ
least Atom = 1
least Power = 1
least Unary = 1
least Term = 1
least Sum = 1
least (Factors f) = 0
least (Terms f) = 0

-- a derivation ends at least that many tokens after its beginning
pub grows : {ts : List Token} {s : Sort} {i j : ℕ} {e : Tree} → Derives ts s i j e → i + least s ≤ j
grows (number n) = omega arith
grows (name n) = omega arith
grows (input n d x) = omega arith
grows (parens n d c) = let a = grows d in omega arith
grows (plain d) = grows d
grows (power d c n) = let a = grows d in omega arith
grows (base d) = grows d
grows (minus n d) = let a = grows d in omega arith
grows (term d r) = let a = grows d in let b = grows r in omega arith
grows no_factor = omega arith
grows (times is d r) = let a = grows d in let b = grows r in omega arith
grows (sum d r) = let a = grows d in let b = grows r in omega arith
grows no_term = omega arith
grows (plus is d r) = let a = grows d in let b = grows r in omega arith
grows (less is d r) = let a = grows d in let b = grows r in omega arith

-- the places of an expression before a semicolon
places : {ts : List Token} {i j : ℕ} → IsExpr ts i j → Is ts j Semi → AreWithin (length ts) (record { from = i; to = j })
places {ts = ts} {i = i} {j = j} e s =
    let a : i + 1 ≤ j = grows e.1 in
    (omega arith, is_within ts j Semi s)

lets_within : {ts : List Token} {i j : ℕ} {ls : List RawLet} → Lets ts i j ls → All (λ l. AreWithin (length ts) l.value) ls
lets_within {ts = ts} no_let = All-nil (λ l. AreWithin (length ts) l.value)
lets_within {ts = ts} (a_let p q r e s t) = All-cons (λ l. AreWithin (length ts) l.value) _ _ (places e s) (lets_within t)

-- the lets of a predicate, and its root
abbrev lets_of : Item → List RawLet
lets_of (PredItem n us vs p) = vs
lets_of x = []

abbrev root_of : Places → Item → Places
root_of o (PredItem n us vs p) = p
root_of o x = o

item_by : {ts : List Token} {i j : ℕ} {x : Item} (r : RawItem) → x ≡ item r → IsItem ts i j x → IsWithin (length ts) r
item_by (Site n cs) q d = tt
item_by (Param n c) q d = tt
item_by (Pred n us vs p) q (site a b m d e) = absurd (cc)
item_by (Pred n us vs p) q (param a b m d e) = absurd (cc)
item_by {ts = ts} (Pred n us vs p) q (predicate {k = k} {l = l} {ls = ls} a b m d e f g h v s r) =
    let x : ls ≡ vs.items = ap lets_of q in
    let y : _ ≡ p = ap (root_of p) q in
    (subst (λ (w : List RawLet). All (λ l. AreWithin (length ts) l.value) w) x (lets_within g), subst (λ (w : Places). AreWithin (length ts) w) y (places v s))

items_by : {ts : List Token} {i j : ℕ} {xs : List Item} (rs : List RawItem) → xs ≡ items rs → Items ts i j xs → All (IsWithin (length ts)) rs
items_by {ts = ts} [] q d = All-nil (IsWithin (length ts))
items_by (r ∷ rs) q no_item = absurd (cc)
items_by {ts = ts} (r ∷ rs) q (an_item {x = x} {xs = xs} h t) =
    let a : x ≡ item r = cc in
    let b : xs ≡ items rs = cc in
    All-cons (IsWithin (length ts)) r rs (item_by r a h) (items_by rs b t)

-- each item that the tokens spell lies within them
pub all_within : (ts : List Token) (rs : List RawItem) → Spelt ts (items rs) → All (IsWithin (length ts)) rs
all_within ts rs d = items_by rs refl d
