-- No tokens spell two lists of items: each part of an item has one end and one value.
use Rattle.std.proofs.Common.{◌≡◌, ℕ, suc, List, length, None, refl, ap, sym, subst, arith, option_map}
use Rattle.std.proofs.lemmas.Option.{slice_get_past}
use Rattle.ln_syntax.specs.Raw.{Token, RawEnd, RawRange, RawCoord, RawArg, RawLet, Item, SiteItem, ParamItem, Is, kind_at, span_at, Sign, BraceR, ParR}
use Rattle.ln_syntax.specs.Expression.{IsExpr}
use Rattle.ln_syntax.specs.File.{End, plain, minus, Range, range, Coords, no_coord, coord, Arg, site_arg, param_arg, Args, last_arg, more_args, Lets, no_let}
use Rattle.ln_syntax.specs.File.{a_let, IsItem, site, param, predicate, Items, no_item, an_item, Spelt}
use Rattle.ln_syntax.proofs.Recognising.Ahead.{one_end}

-- the same end and the same value
pub record Same {A : Type 0} (i j : ℕ) (e f : A) : Type 0 where
  pub place : i ≡ j
  pub value : e ≡ f

-- an end of a range is one end
pub end_same : {ts : List Token} {i j k : ℕ} {a b : RawEnd} → End ts i j a → End ts i k b → Same j k a b
end_same (plain m) (plain n) = record { place = refl; value = refl }
end_same (plain m) (minus n o) = absurd (cc)
end_same (minus m o) (plain n) = absurd (cc)
end_same (minus m o) (minus n p) = record { place = refl; value = refl }

-- a range
pub range_same : {ts : List Token} {i j k : ℕ} {a b : RawRange} → Range ts i j a → Range ts i k b → Same j k a b
range_same {ts = ts} {k = k} (range {a = a} {b = b} l d h) (range {a = a2} {b = b2} l2 d2 h2) =
    let p = end_same l l2 in
    let h3 : End ts _ k b2 = subst (λ (w : ℕ). End ts (suc w) k b2) (sym p.place) h2 in
    let q = end_same h h3 in
    record { place = q.place; value = rw (p.value, q.value) refl }

-- coordinates before a brace
pub coords_same : {ts : List Token} {i j k : ℕ} {as' bs : List RawCoord} → Coords ts i j as' → Is ts j BraceR → Coords ts i k bs
    → Is ts k BraceR → Same j k as' bs
coords_same no_coord m no_coord n = record { place = refl; value = refl }
coords_same no_coord m (coord p q r s t) n = absurd (cc)
coords_same (coord p q r s t) m no_coord n = absurd (cc)
coords_same {ts = ts} {i = i} {k = k} (coord {j = j} {cs = cs} p q r s t) m (coord {cs = ds} p2 q2 r2 s2 t2) n =
    let a = range_same r r2 in
    let t3 : Coords ts (suc j) k ds = subst (λ (w : ℕ). Coords ts (suc w) k ds) (sym a.place) t2 in
    let b = coords_same t m t3 n in
    record { place = b.place; value = rw (a.value, b.value) refl }

-- an argument
pub arg_same : {ts : List Token} {i : ℕ} {a b : RawArg} → Arg ts i a → Arg ts i b → a ≡ b
arg_same (site_arg m n o) (site_arg p q r) = refl
arg_same (site_arg m n o) (param_arg p q r) = absurd (cc)
arg_same (param_arg m n o) (site_arg p q r) = absurd (cc)
arg_same (param_arg m n o) (param_arg p q r) = refl

-- arguments before a parenthesis
pub args_same : {ts : List Token} {i j k : ℕ} {as' bs : List RawArg} → Args ts i j as' → Is ts j ParR → Args ts i k bs → Is ts k ParR → Same j k as' bs
args_same (last_arg a) m (last_arg b) n = let e = arg_same a b in record { place = refl; value = rw e refl }
args_same (last_arg a) m (more_args b c r) n = absurd (cc)
args_same (more_args b c r) m (last_arg a) n = absurd (cc)
args_same (more_args a c r) m (more_args b d s) n =
    let e = arg_same a b in
    let q = args_same r m s n in
    record { place = q.place; value = rw (e, q.value) refl }

-- lets before their sign
pub lets_same : {ts : List Token} {i j k : ℕ} {as' bs : List RawLet} → Lets ts i j as' → Is ts j Sign → Lets ts i k bs → Is ts k Sign → Same j k as' bs
lets_same no_let m no_let n = record { place = refl; value = refl }
lets_same no_let m (a_let p q r s t u) n = absurd (cc)
lets_same (a_let p q r s t u) m no_let n = absurd (cc)
lets_same {ts = ts} {k = k} (a_let {j = v} p q r s t u) m (a_let {ls = ds} p2 q2 r2 s2 t2 u2) n =
    let e = one_end s t s2 t2 in
    let u3 : Lets ts (suc v) k ds = subst (λ (x : ℕ). Lets ts (suc x) k ds) (sym e) u2 in
    let b = lets_same u m u3 n in
    record { place = b.place; value = rw (e, b.value) refl }

-- an item
pub item_same : {ts : List Token} {i j k : ℕ} {x y : Item} → IsItem ts i j x → IsItem ts i k y → Same j k x y
item_same {ts = ts} {i = i} (site a b c d e) (site a2 b2 c2 d2 e2) =
    let s = coords_same d e d2 e2 in record { place = ap suc s.place; value = ap (λ (cs : List RawCoord). SiteItem (span_at ts (suc i)) cs) s.value }
item_same (site a b c d e) (param a2 b2 c2 d2 e2) = absurd (cc)
item_same (site a b c d e) (predicate a2 b2 c2 d2 e2 f2 g2 h2 i2 j2 k2) = absurd (cc)
item_same (param a b c d e) (site a2 b2 c2 d2 e2) = absurd (cc)
item_same {ts = ts} {i = i} (param a b c d e) (param a2 b2 c2 d2 e2) =
    let s = range_same d d2 in record { place = ap suc s.place; value = ap (ParamItem (span_at ts (suc i))) s.value }
item_same (param a b c d e) (predicate a2 b2 c2 d2 e2 f2 g2 h2 i2 j2 k2) = absurd (cc)
item_same (predicate a b c d e f g h i1 j1 k1) (site a2 b2 c2 d2 e2) = absurd (cc)
item_same (predicate a b c d e f g h i1 j1 k1) (param a2 b2 c2 d2 e2) = absurd (cc)
item_same {ts = ts} (predicate {j = p} {k = q} a b c d e f g h v semi k1) (predicate {k = q2} {l = l2} {ls = ls2} a2 b2 c2 d2 e2 f2 g2 h2 v2 semi2 k2) =
    let s = args_same d e d2 e2 in
    let g3 : Lets ts (suc (suc p)) q2 ls2 = subst (λ (w : ℕ). Lets ts (suc (suc w)) q2 ls2) (sym s.place) g2 in
    let t = lets_same g h g3 h2 in
    let v3 : IsExpr ts (suc q) l2 = subst (λ (w : ℕ). IsExpr ts (suc w) l2) (sym t.place) v2 in
    let u = one_end v semi v3 semi2 in
    record { place = ap (λ (w : ℕ). suc (suc w)) u; value = rw (s.value, t.value, t.place, u) refl }

past : (us : List Token) → kind_at us (length us) ≡ None
past us = ap (option_map (λ (t : Token). t.kind)) (slice_get_past us (length us) (omega arith))

-- no item follows the last token
pub no_more : {ts : List Token} {i j : ℕ} {x : Item} → i ≡ length ts → IsItem ts i j x → ⊥
no_more {ts = ts} q (site a b c d e) = let p = past ts in cc
no_more {ts = ts} q (param a b c d e) = let p = past ts in cc
no_more {ts = ts} q (predicate a b c d e f g h v s k) = let p = past ts in cc

items_same : {ts : List Token} {i k l : ℕ} {xs ys : List Item} → Items ts i k xs → k ≡ length ts → Items ts i l ys → l ≡ length ts → xs ≡ ys
items_same no_item p no_item q = refl
items_same no_item p (an_item h t) q = absurd (no_more p h)
items_same (an_item h t) p no_item q = absurd (no_more q h)
items_same {ts = ts} {l = l} (an_item {j = j} h t) p (an_item {xs = vs} h2 t2) q =
    let s = item_same h h2 in
    let t3 : Items ts j l vs = subst (λ (w : ℕ). Items ts w l vs) (sym s.place) t2 in
    let e = items_same t p t3 q in
    rw (s.value, e) refl

-- no tokens spell two lists of items
pub one_spelling : (ts : List Token) (xs ys : List Item) → Spelt ts xs → Spelt ts ys → xs ≡ ys
one_spelling ts xs ys d e = items_same d refl e refl
