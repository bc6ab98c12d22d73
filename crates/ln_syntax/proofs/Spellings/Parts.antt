-- The parts of an item, one after the other: what a part is, where it is, and where the next one begins.
use Rattle.std.proofs.Common.{◌≡◌, ℕ, zero, suc, ◌+◌, ◌<◌, ◌≤◌, inl, inr, List, [], ◌∷◌, ◌++◌, length, refl, ap}
use Rattle.std.proofs.Common.{sym, ◌∙◌, subst, arith, append_assoc, ◌^◌, Fits, w64}
use Rattle.std.proofs.Math.Numerals.{add-one, add-two, add-three, add-four}
use Rattle.std.proofs.lemmas.Bool.{cases_lt}
use Rattle.ln_syntax.specs.Raw.{Span, Token, RawEnd, RawRange, RawCoord, RawArg, RawLet, Item, SiteItem, ParamItem, PredItem, Is, span_at, Kind, Name}
use Rattle.ln_syntax.specs.Raw.{Site, Param, Let, Sign, BraceR, ParR, Colon, Semi, Comma, Dots}
use Rattle.ln_syntax.specs.Expression.{IsExpr}
use Rattle.ln_syntax.specs.File.{End, plain, minus, Range, range, Coords, no_coord, coord, Arg, site_arg, param_arg, Args, last_arg, more_args, Lets, no_let}
use Rattle.ln_syntax.specs.File.{a_let, IsItem, site, param, predicate, Items, no_item, an_item, Spelt}
use Rattle.ln_syntax.specs.Reading.{HasEnd, HasRange, HasCoords, HasArg, HasArgs, HasLets, HasExpr}
use Rattle.ln_syntax.proofs.Recognising.Ahead.{NoSemi, no_semi, one_end}
use Rattle.ln_syntax.proofs.Spellings.OneSpelling.{end_same, range_same, coords_same, args_same, lets_same, item_same, no_more}

-- a token that is there is before the end
pub is_within : (ts : List Token) (i : ℕ) (k : Kind) → Is ts i k → i < length ts
is_within [] i k h = absurd (cc)
is_within (t ∷ ts) zero k h = omega arith
is_within (t ∷ ts) (suc i) k h = let r = is_within ts i k h in omega arith

-- a place after a token that is there, and the next few, are small
pub near_fits : (ts : List Token) (i m : ℕ) (k : Kind) → Is ts i k → length ts < 2 ^ 32 → m ≤ 4 → Fits w64 (i + m)
near_fits ts i m k t s l = omega (arith, is_within ts i k t, s, l)

-- where no semicolon has come yet, an expression's end is still ahead
pub end_ahead : {ts : List Token} {i k : ℕ} → HasExpr ts i → NoSemi ts i k → k < length ts
end_ahead {ts = ts} {k = k} h n =
    let a = (no_semi h.derives.1).rises in
    let w = is_within ts h.to Semi h.stops in
    elim (cases_lt h.to k) [ inl l ↦ absurd (n.none h.to a l h.stops) | inr g ↦ omega arith ]

-- each part ends after its beginning
end_rises : {ts : List Token} {i j : ℕ} {e : RawEnd} → End ts i j e → i < j
end_rises (plain m) = omega arith
end_rises (minus m n) = omega arith

-- a range ends after its beginning
pub range_rises : {ts : List Token} {i j : ℕ} {r : RawRange} → Range ts i j r → i < j
range_rises (range l d h) = let a = end_rises l in let b = end_rises h in omega arith

coords_rise : {ts : List Token} {i j : ℕ} {cs : List RawCoord} → Coords ts i j cs → i ≤ j
coords_rise no_coord = omega arith
coords_rise (coord p q r s t) = let a = range_rises r in let b = coords_rise t in omega arith

args_rise : {ts : List Token} {i j : ℕ} {as' : List RawArg} → Args ts i j as' → i ≤ j
args_rise (last_arg a) = omega arith
args_rise (more_args a c r) = let b = args_rise r in omega arith

lets_rise : {ts : List Token} {i j : ℕ} {ls : List RawLet} → Lets ts i j ls → i ≤ j
lets_rise no_let = omega arith
lets_rise (a_let p q r e s t) = let a = (no_semi e.1).rises in let b = lets_rise t in omega arith

-- an item ends after its beginning
pub item_rises : {ts : List Token} {i j : ℕ} {x : Item} → IsItem ts i j x → i < j
item_rises (site a b c d e) = let r = coords_rise d in omega arith
item_rises (param a b c d e) = let r = range_rises d in omega arith
item_rises (predicate a b c d e f g h v s k) = let x = args_rise d in let y = lets_rise g in let z = (no_semi v.1).rises in omega arith

items_rise : {ts : List Token} {i j : ℕ} {xs : List Item} → Items ts i j xs → i ≤ j
items_rise no_item = omega arith
items_rise (an_item h t) = let a = item_rises h in let b = items_rise t in omega arith

-- in a range, after the low end and the dots comes the high end
pub high_there : {ts : List Token} {i j k : ℕ} {a : RawEnd} {r : RawRange} → Range ts i k r → End ts i j a → HasEnd ts (j + 1)
high_there {ts = ts} {j = j} {k = k} (range {j = q} {b = b} l m h) d =
    let p = (end_same l d).place in
    let e : suc q ≡ j + 1 = omega arith in
    record { to = k; value = b; derives = subst (λ (w : ℕ). End ts w k b) e h }

-- the places of an argument are small
pub arg_fits : {ts : List Token} {i : ℕ} {a : RawArg} (m : ℕ) → Arg ts i a → length ts < 2 ^ 32 → m ≤ 4 → Fits w64 (i + m)
arg_fits {ts = ts} {i = i} m (site_arg n c k) s l = near_fits ts i m Name n s l
arg_fits {ts = ts} {i = i} m (param_arg n c k) s l = near_fits ts i m Name n s l

-- both ends make the range
pub range_read : {ts : List Token} {i j k m : ℕ} {a b : RawEnd} {r : RawRange} → Range ts i k r → End ts i j a → End ts (j + 1) m b
    → Range ts i m (record { low = a; high = b })
range_read {ts = ts} {j = j} {m = m} {b = b} (range l d h) x y =
    range x (subst (λ (w : ℕ). Is ts w Dots) (end_same l x).place d) (rw add-one at y)

-- the coordinates up to place i, and what follows
pub record CoordsRead (ts : List Token) (at i : ℕ) (cs : List RawCoord) : Type 0 where
  pub done : Coords ts at i cs
  pub rest : HasCoords ts i

-- no coordinate is read at the start
pub coords_begin : {ts : List Token} {at : ℕ} → HasCoords ts at → CoordsRead ts at at []
coords_begin h = record { done = no_coord; rest = h }

-- a name among coordinates begins one, which has a range
pub coord_range : {ts : List Token} {i k : ℕ} {cs : List RawCoord} → Coords ts i k cs → Is ts k BraceR → Is ts i Name → HasRange ts (i + 2)
coord_range no_coord b n = absurd (cc)
coord_range {ts = ts} {i = i} (coord {j = j} {r = r} p q d s t) b n =
    record { to = j; value = r; derives = rw add-two d }

-- after the range of a coordinate comes its semicolon
pub coord_semi : {ts : List Token} {i j k : ℕ} {r : RawRange} {cs : List RawCoord} → Coords ts i k cs → Is ts k BraceR → Is ts i Name
    → Range ts (i + 2) j r → Is ts j Semi
coord_semi no_coord b n x = absurd (cc)
coord_semi {ts = ts} {i = i} {j = j} {r = r} (coord p q d s t) b n x =
    let y : Range ts (suc (suc i)) j r = rw add-two at x in
    subst (λ (w : ℕ). Is ts w Semi) (range_same d y).place s

-- one more coordinate after the others
coords_with : {ts : List Token} {i j k : ℕ} {cs : List RawCoord} {r : RawRange} → Coords ts i j cs → Is ts j Name → Is ts (suc j) Colon
    → Range ts (suc (suc j)) k r → Is ts k Semi
    → Coords ts i (suc k) (cs ++ (record { name = span_at ts j; range = r } ∷ []))
coords_with no_coord n c r s = coord n c r s no_coord
coords_with (coord p q d m t) n c r s = coord p q d m (coords_with t n c r s)

-- one more coordinate is read, with its semicolon
pub coord_more : {ts : List Token} {at i j k : ℕ} {cs ds : List RawCoord} {r : RawRange} {sp : Span} → Coords ts at i cs → Coords ts i k ds
    → Is ts k BraceR → Is ts i Name → sp ≡ span_at ts i → Range ts (i + 2) j r
    → CoordsRead ts at (j + 1) (cs ++ (record { name = sp; range = r } ∷ []))
coord_more a no_coord b n q x = absurd (cc)
coord_more {ts = ts} {at = at} {i = i} {j = j} {k = k} {cs = cs} {r = r} {sp = sp} a (coord {j = m} {cs = es} p c d s t) b n q x =
    let y : Range ts (suc (suc i)) j r = rw add-two at x in
    let o = (range_same d y).place in
    let g : suc m ≡ j + 1 = omega arith in
    let v : Coords ts at (suc j) (cs ++ (record { name = span_at ts i; range = r } ∷ [])) = coords_with a n c y (subst (λ (w : ℕ). Is ts w Semi) o s) in
    record {
      done = rw add-one (rw q v);
      rest = record { to = k; value = es; derives = subst (λ (w : ℕ). Coords ts w k es) g t; stops = b };
    }

-- the arguments before place i, at which one more begins
pub record ArgsRead (ts : List Token) (at i : ℕ) (as' : List RawArg) : Type 0 where
  pub joins : (k : ℕ) (bs : List RawArg) → Args ts i k bs → Args ts at k (as' ++ bs)
  pub rest : HasArgs ts i

-- arguments begin with an argument
pub arg_first : {ts : List Token} {i k : ℕ} {as' : List RawArg} → Args ts i k as' → HasArg ts i
arg_first (last_arg {a = a} d) = record { value = a; derives = d }
arg_first (more_args {a = a} d c r) = record { value = a; derives = d }

-- the last argument
pub args_last : {ts : List Token} {at i : ℕ} {as' : List RawArg} {a : RawArg} → ArgsRead ts at i as' → Arg ts i a → Args ts at (i + 3) (as' ++ (a ∷ []))
args_last {ts = ts} {at = at} {i = i} {as' = as'} {a = a} s d =
    rw add-three (s.joins (suc (suc (suc i))) (a ∷ []) (last_arg d))

args_rest_by : {ts : List Token} {i k : ℕ} {as' : List RawArg} → Args ts i k as' → Is ts k ParR → Is ts (i + 3) Comma → HasArgs ts (i + 4)
args_rest_by {ts = ts} {i = i} (last_arg d) p c =
    let e : i + 3 ≡ suc (suc (suc i)) = omega arith in
    let x : Is ts (suc (suc (suc i))) Comma = rw add-three at c in absurd (cc)
args_rest_by {ts = ts} {i = i} {k = k} (more_args {rest = bs} d m r) p c =
    record { to = k; value = bs; derives = rw add-four r; stops = p }

-- an argument before a comma
pub args_more : {ts : List Token} {at i : ℕ} {as' : List RawArg} {a : RawArg} → ArgsRead ts at i as' → Arg ts i a → Is ts (i + 3) Comma
    → ArgsRead ts at (i + 4) (as' ++ (a ∷ []))
args_more {ts = ts} {at = at} {i = i} {as' = as'} {a = a} s d c =
    record {
      joins = λ k bs r. rw append_assoc (s.joins k (a ∷ bs) (more_args d (rw add-three at c) (rw add-four at r)));
      rest = args_rest_by s.rest.derives s.rest.stops c;
    }

-- the lets up to place i, and what follows
pub record LetsRead (ts : List Token) (at i : ℕ) (ls : List RawLet) : Type 0 where
  pub done : Lets ts at i ls
  pub rest : HasLets ts i

-- no let is read at the start
pub lets_begin : {ts : List Token} {at : ℕ} → HasLets ts at → LetsRead ts at at []
lets_begin h = record { done = no_let; rest = h }

-- one more let after the others
lets_with : {ts : List Token} {i j k : ℕ} {ls : List RawLet} {x : RawLet} → Lets ts i j ls → Lets ts j k (x ∷ []) → Lets ts i k (ls ++ (x ∷ []))
lets_with no_let d = d
lets_with (a_let p q r e m t) d = a_let p q r e m (lets_with t d)

-- one more let is read, with its semicolon
pub let_more : {ts : List Token} {at i j k : ℕ} {ls ms : List RawLet} {sp : Span} → Lets ts at i ls → Lets ts i k ms → Is ts k Sign
    → Is ts i Let → sp ≡ span_at ts (i + 1) → IsExpr ts (i + 3) j → Is ts j Semi
    → LetsRead ts at (j + 1) (ls ++ (record { name = sp; value = record { from = i + 3; to = j } } ∷ []))
let_more a no_let s n q x y = absurd (cc)
let_more {ts = ts} {at = at} {i = i} {j = j} {k = k} {ls = ls} {sp = sp} a (a_let {j = m} {ls = us} p c r e semi t) s n q x y =
    let o : i + 3 ≡ suc (suc (suc i)) = omega arith in
    let w : IsExpr ts (suc (suc (suc i))) j = subst (λ (w : ℕ). IsExpr ts w j) o x in
    let z = one_end e semi w y in
    let g : suc m ≡ j + 1 = omega arith in
    let b : i + 1 ≡ suc i = omega arith in
    let q2 : sp ≡ span_at ts (suc i) = q ∙ ap (span_at ts) b in
    let v : Lets ts at (suc j) (ls ++ (record { name = span_at ts (suc i); value = record { from = suc (suc (suc i)); to = j } } ∷ [])) =
    lets_with a (a_let p c r w y no_let) in
    record {
      done = rw add-one (rw (q2, o) v);
      rest = record { to = k; value = us; derives = subst (λ (u : ℕ). Lets ts u k us) g t; stops = s };
    }

-- an item at an equal place is an equal one
item_is : {ts : List Token} {i j k : ℕ} {x y : Item} → IsItem ts i j x → j ≡ k → x ≡ y → IsItem ts i k y
item_is {ts = ts} {i = i} {j = j} {y = y} d p q = subst (λ (w : ℕ). IsItem ts i w y) p (subst (λ (w : Item). IsItem ts i j w) q d)

-- a site type has coordinates
pub site_coords : {ts : List Token} {i j : ℕ} {x : Item} → IsItem ts i j x → Is ts i Site → HasCoords ts (i + 3)
site_coords {ts = ts} {i = i} (site {j = j} {c = c} {cs = cs} a b m d e) k =
    record { to = j; value = c ∷ cs; derives = rw add-three d; stops = e }
site_coords (param a b m d e) k = absurd (cc)
site_coords (predicate a b m d e f g h v s r) k = absurd (cc)

-- a name and all coordinates make the item of a site type
pub site_read : {ts : List Token} {i j k : ℕ} {x : Item} {sp : Span} {ds : List RawCoord} → IsItem ts i j x → Is ts i Site
    → sp ≡ span_at ts (i + 1) → Coords ts (i + 3) k ds → Is ts k BraceR → IsItem ts i (k + 1) (SiteItem sp ds)
site_read {ts = ts} {i = i} {k = k} {sp = sp} {ds = ds} (site {j = j} {c = c} {cs = cs} a b m d e) n q x y =
    let b1 : suc i ≡ i + 1 = omega arith in
    let s = coords_same d e (rw add-three at x) y in
    let p = s.place in
    let r : suc j ≡ k + 1 = omega arith in
    let q2 : span_at ts (suc i) ≡ sp = ap (span_at ts) b1 ∙ sym q in
    item_is (site a b m d e) r (ap (λ (w : Span). SiteItem w (c ∷ cs)) q2 ∙ ap (λ (w : List RawCoord). SiteItem sp w) s.value)
site_read (param a b m d e) n q x y = absurd (cc)
site_read (predicate a b m d e f g h v s r) n q x y = absurd (cc)

-- a param has a range
pub param_range : {ts : List Token} {i j : ℕ} {x : Item} → IsItem ts i j x → Is ts i Param → HasRange ts (i + 3)
param_range (site a b m d e) k = absurd (cc)
param_range {ts = ts} {i = i} (param {j = j} {r = r} a b m d e) k =
    record { to = j; value = r; derives = rw add-three d }
param_range (predicate a b m d e f g h v s r) k = absurd (cc)

-- after the range of a param comes its semicolon
pub param_semi : {ts : List Token} {i j k : ℕ} {x : Item} {r : RawRange} → IsItem ts i j x → Is ts i Param → Range ts (i + 3) k r → Is ts k Semi
param_semi (site a b m d e) n y = absurd (cc)
param_semi {ts = ts} {i = i} {k = k} {r = r} (param a b m d e) n y =
    subst (λ (w : ℕ). Is ts w Semi) (range_same d (rw add-three at y)).place e
param_semi (predicate a b m d e f g h v s r) n y = absurd (cc)

-- a name and a range make the item of a param
pub param_read : {ts : List Token} {i j k : ℕ} {x : Item} {sp : Span} {r : RawRange} → IsItem ts i j x → Is ts i Param → sp ≡ span_at ts (i + 1)
    → Range ts (i + 3) k r → IsItem ts i (k + 1) (ParamItem sp r)
param_read (site a b m d e) n q y = absurd (cc)
param_read {ts = ts} {i = i} {k = k} {sp = sp} {r = r} (param {j = j} {r = t} a b m d e) n q y =
    let b1 : suc i ≡ i + 1 = omega arith in
    let s = range_same d (rw add-three at y) in
    let p = s.place in
    let v : suc j ≡ k + 1 = omega arith in
    let q2 : span_at ts (suc i) ≡ sp = ap (span_at ts) b1 ∙ sym q in
    item_is (param a b m d e) v (ap (λ (w : Span). ParamItem w t) q2 ∙ ap (λ (w : RawRange). ParamItem sp w) s.value)
param_read (predicate a b m d e f g h v s r) n q y = absurd (cc)

-- an item that is no site type and no param has arguments
pub pred_args : {ts : List Token} {i j : ℕ} {x : Item} → IsItem ts i j x → (Is ts i Site → ⊥) → (Is ts i Param → ⊥) → HasArgs ts (i + 3)
pred_args (site a b m d e) n p = absurd (n a)
pred_args (param a b m d e) n p = absurd (p a)
pred_args {ts = ts} {i = i} (predicate {j = j} {args = args} a b m d e f g h v s r) n p =
    record { to = j; value = args; derives = rw add-three d; stops = e }

-- after its arguments come its lets
pub pred_lets : {ts : List Token} {i j k : ℕ} {x : Item} {us : List RawArg} → IsItem ts i k x → (Is ts i Site → ⊥) → (Is ts i Param → ⊥)
    → Args ts (i + 3) j us → Is ts j ParR → HasLets ts (j + 2)
pred_lets (site a b m d e) n p y z = absurd (n a)
pred_lets (param a b m d e) n p y z = absurd (p a)
pred_lets {ts = ts} {i = i} {j = j} {us = us} (predicate {j = q} {k = k} {ls = ls} a b m d e f g h v s r) n p y z =
    let t = (args_same d e (rw add-three at y) z).place in
    let u : suc (suc q) ≡ j + 2 = omega arith in
    record { to = k; value = ls; derives = subst (λ (w : ℕ). Lets ts w k ls) u g; stops = h }

-- after its lets comes its sign expression
pub pred_expr : {ts : List Token} {i j k l : ℕ} {x : Item} {us : List RawArg} {vs : List RawLet} → IsItem ts i l x → (Is ts i Site → ⊥)
    → (Is ts i Param → ⊥) → Args ts (i + 3) j us → Is ts j ParR → Lets ts (j + 2) k vs → Is ts k Sign
    → HasExpr ts (k + 1)
pred_expr (site a b m d e) n p y z g2 h2 = absurd (n a)
pred_expr (param a b m d e) n p y z g2 h2 = absurd (p a)
pred_expr {ts = ts} {i = i} {j = j} {k = k} {us = us} {vs = vs} (predicate {j = q} {k = c} {l = l} a b m d e f g h v s r) n p y z g2 h2 =
    let t = (args_same d e (rw add-three at y) z).place in
    let u : j + 2 ≡ suc (suc q) = omega arith in
    let w = (lets_same g h (subst (λ (w : ℕ). Lets ts w k vs) u g2) h2).place in
    let x : suc c ≡ k + 1 = omega arith in
    record { to = l; derives = subst (λ (w : ℕ). IsExpr ts w l) x v; stops = s }

-- a name, the arguments, the lets and the sign expression make the item of a predicate
pub pred_read : {ts : List Token} {i j k l m : ℕ} {x : Item} {sp : Span} {us : List RawArg} {vs : List RawLet} → IsItem ts i m x
    → (Is ts i Site → ⊥) → (Is ts i Param → ⊥) → sp ≡ span_at ts (i + 1)
    → Args ts (i + 3) j us → Is ts j ParR → Lets ts (j + 2) k vs → Is ts k Sign → IsExpr ts (k + 1) l → Is ts l Semi
    → IsItem ts i (l + 2) (PredItem sp us vs (record { from = k + 1; to = l }))
pred_read (site a b m d e) n p q y z g2 h2 v2 s2 = absurd (n a)
pred_read (param a b m d e) n p q y z g2 h2 v2 s2 = absurd (p a)
pred_read {ts = ts} {i = i} {j = j} {k = k} {l = l} {sp = sp} {us = us} {vs = vs} (predicate {j = a1} {k = a2} {l = a3} a b m d e f g h v s
    r) n p q y z g2 h2 v2 s2 =
    let b1 : suc i ≡ i + 1 = omega arith in
    let q2 : span_at ts (suc i) ≡ sp = ap (span_at ts) b1 ∙ sym q in
    let t = args_same d e (rw add-three at y) z in
    let tp = t.place in
    let u : j + 2 ≡ suc (suc a1) = omega arith in
    let t2 = lets_same g h (subst (λ (w : ℕ). Lets ts w k vs) u g2) h2 in
    let t2p = t2.place in
    let o2 : k + 1 ≡ suc a2 = omega arith in
    let t3 = one_end v s (subst (λ (w : ℕ). IsExpr ts w l) o2 v2) s2 in
    let x : suc (suc a3) ≡ l + 2 = omega arith in
    let o3 : suc a2 ≡ k + 1 = omega arith in
    item_is (predicate a b m d e f g h v s r) x (rw (q2, t.value, t2.value, o3, t3) refl)

-- the items up to place i, and what follows
pub record ItemsRead (ts : List Token) (i : ℕ) (xs : List Item) : Type 0 where
  pub done : Items ts 0 i xs
  pub others : List Item
  pub rest : Items ts i (length ts) others

-- no item is read at the start
pub items_begin : {ts : List Token} → (xs : List Item) × Spelt ts xs → ItemsRead ts 0 []
items_begin t = record { done = no_item; others = t.0; rest = t.1 }

items_with : {ts : List Token} {i j k : ℕ} {xs : List Item} {x : Item} → Items ts i j xs → IsItem ts j k x → Items ts i k (xs ++ (x ∷ []))
items_with no_item d = an_item d no_item
items_with (an_item h t) d = an_item h (items_with t d)

item_more_by : {ts : List Token} {i j k : ℕ} {xs ys : List Item} {x : Item} → Items ts 0 i xs → Items ts i k ys → k ≡ length ts
    → IsItem ts i j x → ItemsRead ts j (xs ++ (x ∷ []))
item_more_by a no_item q d = absurd (no_more q d)
item_more_by {ts = ts} {j = j} {k = k} a (an_item {xs = zs} h t) q d =
    let p = (item_same h d).place in
    record { done = items_with a d; others = zs; rest = subst (λ (w : ℕ). Items ts j w zs) q (subst (λ (w : ℕ). Items ts w k zs) p t) }

-- one more item is read
pub item_more : {ts : List Token} {i j : ℕ} {xs : List Item} {x : Item} → ItemsRead ts i xs → IsItem ts i j x → ItemsRead ts j (xs ++ (x ∷ []))
item_more r d = item_more_by r.done r.rest refl d

-- at the end all items are read
pub items_end : {ts : List Token} {i : ℕ} {xs : List Item} → ItemsRead ts i xs → length ts ≤ i → Spelt ts xs
items_end {ts = ts} {i = i} {xs = xs} r l =
    let h = items_rise r.rest in
    let q : i ≡ length ts = omega arith in
    subst (λ (w : ℕ). Items ts 0 w xs) q r.done
