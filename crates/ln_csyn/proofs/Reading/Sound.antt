-- Proves that what is read is derived: expressions.
use Rattle.std.proofs.Common.{◌≡◌, ℕ, zero, suc, ◌≤◌, Bool, true, false, List, [], ◌∷◌, Some, None, refl, sym, ap, ◌∙◌, subst, arith, ◌⊎◌, inl, inr}
use Rattle.std.specs.Prelude.{codes, bytes_eq, Option}
use Rattle.std.proofs.Math.Nat.{max-le}
use Rattle.std.proofs.lemmas.Slice.Eq.{bytes_eq-Decides}
use Rattle.std.proofs.lemmas.Option.{cond_some, same_Some}
use Rattle.ln_csyn.specs.declared.tree.CType.{CType}
use Rattle.ln_csyn.specs.declared.tree.COp.{COp}
use Rattle.ln_csyn.specs.Tree.{Expr, Number, Value, Index, Call, Inner}
use Rattle.ln_csyn.specs.Words.{is_c_name, number_of, type_of, op_of}
use Rattle.ln_csyn.specs.Grammar.{Token, Sort, Whole, Primary, Derives, two, minus, cast, number, name, value, index, call, inner}
use Rattle.ln_csyn.specs.Reading.{go_on, choose, eat, with_rest, type_at, number_at, op_at, name_at, cast_at, cast_rest, closed, minus_rest}
use Rattle.ln_csyn.specs.Reading.{two_rest, primary, named, place_rest, place_of, call_rest, inside, expr_at, ReadExpr}
use Rattle.ln_csyn.specs.Keeps.{parens}

-- it went on with this
pub record Went {A B : Type 0} (o : Option A) (f : A → Option B) (y : B) : Type 0 where
  pub x : A
  pub found : o ≡ Some x
  pub next : f x ≡ Some y

-- what went on was found
pub went : {A B : Type 0} (o : Option A) (f : A → Option B) (y : B) → go_on o f ≡ Some y → Went o f y
went None f y h = absurd (cc)
went (Some x) f y h = record { x = x; found = refl; next = h }

-- it was this, or nothing and the other
pub chose : {A B : Type 0} (o : Option A) (f : A → Option B) (other : Option B) (y : B) → choose o f other ≡ Some y → Went o f y ⊎ (other ≡ Some y)
chose None f other y h = inr h
chose (Some x) f other y h = inl (record { x = x; found = refl; next = h })

-- a token with this text stood there
pub record Ate (u : List ℕ) (ts us : List Token) : Type 0 where
  pub t : Token
  pub is : ts ≡ t ∷ us
  pub text : t.text ≡ u

-- what was taken was at the beginning
pub ate : (u : List ℕ) (ts us : List Token) → eat u ts ≡ Some us → Ate u ts us
ate u [] us h = absurd (cc)
ate u (t ∷ ts) us h =
    let c = cond_some (bytes_eq t.text u) ts us h in
    record { t = t; is = ap (λ (z : List Token). t ∷ z) c.1; text = (bytes_eq-Decides t.text u).0 c.0 }

-- a token of which something was read
pub record Took {A : Type 0} (f : List ℕ → Option A) (ts : List Token) (y : A × List Token) : Type 0 where
  pub t : Token
  pub is : ts ≡ t ∷ y.1
  pub reads : f t.text ≡ Some y.0

took_by : {A : Type 0} (f : List ℕ → Option A) (t : Token) (ts : List Token) (y : A × List Token) (o : Option A) → f t.text ≡ o
    → with_rest ts o ≡ Some y → Took f (t ∷ ts) y
took_by f t ts y None e h = absurd (cc)
took_by f t ts y (Some x) e h =
    subst (λ (z : _ × List Token). Took f (t ∷ ts) z) (same_Some (x, ts) y h) (record { t = t; is = refl; reads = e })

-- the first token was a NUMBER
pub took_number : (ts : List Token) (y : ℕ × List Token) → number_at ts ≡ Some y → Took number_of ts y
took_number [] y h = absurd (cc)
took_number (t ∷ ts) y h = took_by number_of t ts y (number_of t.text) refl h

-- a type
pub took_type : (ts : List Token) (y : CType × List Token) → type_at ts ≡ Some y → Took type_of ts y
took_type [] y h = absurd (cc)
took_type (t ∷ ts) y h = took_by type_of t ts y (type_of t.text) refl h

-- an operation
pub took_op : (ts : List Token) (y : COp × List Token) → op_at ts ≡ Some y → Took op_of ts y
took_op [] y h = absurd (cc)
took_op (t ∷ ts) y h = took_by op_of t ts y (op_of t.text) refl h

-- a name stood there
pub record Named (ts : List Token) (y : List ℕ × List Token) : Type 0 where
  pub t : Token
  pub is : ts ≡ t ∷ y.1
  pub name : is_c_name t.text ≡ true
  pub text : t.text ≡ y.0

-- a NAME
pub was_named : (ts : List Token) (y : List ℕ × List Token) → name_at ts ≡ Some y → Named ts y
was_named [] y h = absurd (cc)
was_named (t ∷ ts) y h =
    let c = cond_some (is_c_name t.text) (t.text, ts) y h in
    subst (λ (z : List ℕ × List Token). Named (t ∷ ts) z) c.1 (record { t = t; is = refl; name = c.0; text = refl })

-- ---- expressions

-- what was read is derived from the tokens, with at most this many parentheses round a place
pub record Sound (s : Sort) (d : ℕ) (ts : List Token) (y : Expr × List Token) : Type 0 where
  pub is : Derives s ts y.1 y.0
  pub within : parens y.0 ≤ d

-- what this way of reading expressions returns is derived, within the depth
abbrev pub IsSound : ℕ → ReadExpr → Type 0
IsSound d go = (ts : List Token) (y : Expr × List Token) → go ts ≡ Some y → Sound Whole d ts y

-- an expression, with a token of this text after it
pub record Closes (u : List ℕ) (d : ℕ) (ts : List Token) (y : Expr × List Token) : Type 0 where
  pub t : Token
  pub text : t.text ≡ u
  pub is : Derives Whole ts (t ∷ y.1) y.0
  pub within : parens y.0 ≤ d

-- what `closed` reads is an expression with a token of this text after it
pub closes : (u : List ℕ) (d : ℕ) (go : ReadExpr) → IsSound d go → (ts : List Token) (y : Expr × List Token) → closed u go ts ≡ Some y → Closes u d ts y
closes u d go hyp ts y h =
    let w = went (go ts) _ y h in
    let v = went (eat u w.x.1) _ y w.next in
    let a = ate u w.x.1 v.x v.found in
    let s = hyp ts w.x w.found in
    let m : Derives Whole ts (a.t ∷ v.x) w.x.0 = subst (λ (z : List Token). Derives Whole ts z w.x.0) a.is s.is in
    subst (λ (z : Expr × List Token). Closes u d ts z) (same_Some _ y v.next) (record { t = a.t; text = a.text; is = m; within = s.within })

minus_sound : (d : ℕ) (go : ReadExpr) → IsSound d go → (p q : Token) → p.text ≡ codes "(" → q.text ≡ codes "-"
    → (ts : List Token) (y : Expr × List Token) → minus_rest go ts ≡ Some y → Sound Whole (suc d) (p ∷ q ∷ ts) y
minus_sound d go hyp p q hp hq ts y h =
    let w = went (closed (codes ")") go ts) _ y h in
    let s = closes (codes ")") d go hyp ts w.x w.found in
    subst (λ (z : Expr × List Token). Sound Whole (suc d) (p ∷ q ∷ ts) z) (same_Some _ y w.next)
    (record { is = minus hp hq s.is s.text; within = omega (arith, s.within) })

two_sound : (d : ℕ) (go : ReadExpr) → IsSound d go → (p : Token) → p.text ≡ codes "(" → (ts : List Token) (y : Expr × List Token)
    → two_rest go ts ≡ Some y → Sound Whole (suc d) (p ∷ ts) y
two_sound d go hyp p hp ts y h =
    let w = went (go ts) _ y h in
    let o = went (op_at w.x.1) _ y w.next in
    let u = went (closed (codes ")") go o.x.1) _ y o.next in
    let k = took_op w.x.1 o.x o.found in
    let s = hyp ts w.x w.found in
    let r = closes (codes ")") d go hyp o.x.1 u.x u.found in
    let m : Derives Whole ts (k.t ∷ o.x.1) w.x.0 = subst (λ (z : List Token). Derives Whole ts z w.x.0) k.is s.is in
    subst (λ (z : Expr × List Token). Sound Whole (suc d) (p ∷ ts) z) (same_Some _ y u.next)
    (record { is = two hp m k.reads r.is r.text; within = omega (arith, max-le s.within r.within) })

-- the `( TYPE )` of a cast stood there
record Casts (ts : List Token) (y : CType × List Token) : Type 0 where
  q : Token
  k : Token
  r : Token
  is : ts ≡ q ∷ k ∷ r ∷ y.1
  left : q.text ≡ codes "("
  type : type_of k.text ≡ Some y.0
  right : r.text ≡ codes ")"

casts : (ts : List Token) (y : CType × List Token) → cast_at ts ≡ Some y → Casts ts y
casts ts y h =
    let w = went (eat (codes "(") ts) _ y h in
    let v = went (type_at w.x) _ y w.next in
    let u = went (eat (codes ")") v.x.1) _ y v.next in
    let a = ate (codes "(") ts w.x w.found in
    let k = took_type w.x v.x v.found in
    let b = ate (codes ")") v.x.1 u.x u.found in
    subst (λ (z : CType × List Token). Casts ts z) (same_Some _ y u.next) (record {
      q = a.t;
      k = k.t;
      r = b.t;
      is = a.is ∙ ap (λ (z : List Token). a.t ∷ z) (k.is ∙ ap (λ (z : List Token). k.t ∷ z) b.is);
      left = a.text;
      type = k.reads;
      right = b.text;
    })

-- `v[N]` or `x[N]`
places_by : (t : CType) (d : ℕ) (p q m r : Token) (rest : List Token) (n : ℕ) (e : Expr) → q.text ≡ codes "[" → number_of m.text ≡ Some n
    → r.text ≡ codes "]" → (u v : Bool) → bytes_eq p.text (codes "v") ≡ u → bytes_eq p.text (codes "x") ≡ v → place_of t p.text n ≡ Some e
    → Sound (Primary t) (suc (suc d)) (p ∷ q ∷ m ∷ r ∷ rest) (e, rest)
places_by t d p q m r rest n e hq hm hr true v a b h =
    let g : place_of t p.text n ≡ Some (Value t n) = rw a refl in
    subst (λ (z : Expr). Sound (Primary t) (suc (suc d)) (p ∷ q ∷ m ∷ r ∷ rest) (z, rest)) (same_Some _ e (sym g ∙ h))
    (record { is = value ((bytes_eq-Decides p.text (codes "v")).0 a) hq hm hr; within = omega arith })
places_by t d p q m r rest n e hq hm hr false true a b h =
    let g : place_of t p.text n ≡ Some (Index t n) = rw (a, b) refl in
    subst (λ (z : Expr). Sound (Primary t) (suc (suc d)) (p ∷ q ∷ m ∷ r ∷ rest) (z, rest)) (same_Some _ e (sym g ∙ h))
    (record { is = index ((bytes_eq-Decides p.text (codes "x")).0 b) hq hm hr; within = omega arith })
places_by t d p q m r rest n e hq hm hr false false a b h = let g : place_of t p.text n ≡ None = rw (a, b) refl in absurd (cc)

with_found : {A : Type 0} (ts : List Token) (o : Option A) (y : A × List Token) → with_rest ts o ≡ Some y → (o ≡ Some y.0) × (ts ≡ y.1)
with_found ts None y h = absurd (cc)
with_found ts (Some x) y h = let e = same_Some (x, ts) y h in (ap (λ (z : _ × List Token). Some z.0) e, ap (λ (z : _ × List Token). z.1) e)

place_sound : (t : CType) (d : ℕ) (p q : Token) (ts : List Token) (y : Expr × List Token) → q.text ≡ codes "["
    → place_rest t p.text ts ≡ Some y → Sound (Primary t) (suc (suc d)) (p ∷ q ∷ ts) y
place_sound t d p q ts y hq h =
    let w = went (number_at ts) _ y h in
    let v = went (eat (codes "]") w.x.1) _ y w.next in
    let n = took_number ts w.x w.found in
    let a = ate (codes "]") w.x.1 v.x v.found in
    let f = with_found v.x (place_of t p.text w.x.0) y v.next in
    let e : n.t ∷ a.t ∷ y.1 ≡ ts = sym (n.is ∙ ap (λ (z : List Token). n.t ∷ z) (a.is ∙ ap (λ (z : List Token). a.t ∷ z) f.1)) in
    subst (λ (z : List Token). Sound (Primary t) (suc (suc d)) (p ∷ q ∷ z) y) e (places_by t d p q n.t a.t y.1 w.x.0 y.0 hq n.reads a.text _ _ refl refl f.0)

call_sound : (t : CType) (d : ℕ) (p q : Token) (ts : List Token) (y : Expr × List Token) → is_c_name p.text ≡ true → q.text ≡ codes "("
    → call_rest t p.text ts ≡ Some y → Sound (Primary t) (suc (suc d)) (p ∷ q ∷ ts) y
call_sound t d p q ts y hp hq h =
    let w = went (eat (codes "v") ts) _ y h in
    let v = went (eat (codes ")") w.x) _ y w.next in
    let a = ate (codes "v") ts w.x w.found in
    let b = ate (codes ")") w.x v.x v.found in
    let e : a.t ∷ b.t ∷ v.x ≡ ts = sym (a.is ∙ ap (λ (z : List Token). a.t ∷ z) b.is) in
    let m : Derives (Primary t) (p ∷ q ∷ ts) v.x (Call t p.text) =
    subst (λ (z : List Token). Derives (Primary t) (p ∷ q ∷ z) v.x (Call t p.text)) e (call hp hq a.text b.text) in
    subst (λ (z : Expr × List Token). Sound (Primary t) (suc (suc d)) (p ∷ q ∷ ts) z) (same_Some _ y v.next) (record { is = m; within = omega arith })

named_sound : (t : CType) (d : ℕ) (p : Token) (ts : List Token) (y : Expr × List Token) → is_c_name p.text ≡ true
    → named t p.text ts ≡ Some y → Sound (Primary t) (suc (suc d)) (p ∷ ts) y
named_sound t d p ts y hp h =
    elim (chose (eat (codes "[") ts) (place_rest t p.text) _ y h) [
      | inl w ↦ (let a = ate (codes "[") ts w.x w.found in
          subst (λ (z : List Token). Sound (Primary t) (suc (suc d)) (p ∷ z) y) (sym a.is) (place_sound t d p a.t w.x y a.text w.next))
      | inr g ↦ elim (chose (eat (codes "(") ts) (call_rest t p.text) _ y g) [
        | inl w ↦ (let a = ate (codes "(") ts w.x w.found in
            subst (λ (z : List Token). Sound (Primary t) (suc (suc d)) (p ∷ z) y) (sym a.is) (call_sound t d p a.t w.x y hp a.text w.next))
        | inr k ↦ subst (λ (z : Expr × List Token). Sound (Primary t) (suc (suc d)) (p ∷ ts) z) (same_Some _ y k)
            (record { is = name hp; within = omega arith })
      ]
    ]

inner_sound : (d : ℕ) (go : ReadExpr) → IsSound (suc d) go → (t : CType) (ts : List Token) (y : Expr × List Token)
    → go_on (go ts) (λ e. Some (Inner t e.0, e.1)) ≡ Some y → Sound (Primary t) (suc (suc d)) ts y
inner_sound d go hyp t ts y h =
    let w = went (go ts) (λ (e : Expr × List Token). Some (Inner t e.0, e.1)) y h in
    let s = hyp ts w.x w.found in
    let one : 1 ≤ suc d = omega arith in
    subst (λ (z : Expr × List Token). Sound (Primary t) (suc (suc d)) ts z) (same_Some _ y w.next)
    (record { is = inner s.is; within = omega (arith, max-le one s.within) })

primary_sound : (d : ℕ) (go : ReadExpr) → IsSound (suc d) go → (t : CType) (ts : List Token) (y : Expr × List Token)
    → primary go t ts ≡ Some y → Sound (Primary t) (suc (suc d)) ts y
primary_sound d go hyp t ts y h =
    elim (chose (number_at ts) _ _ y h) [
      | inl w ↦ (let n = took_number ts w.x w.found in
          let m : Derives (Primary t) ts w.x.1 (Number t w.x.0) =
          subst (λ (z : List Token). Derives (Primary t) z w.x.1 (Number t w.x.0)) (sym n.is) (number n.reads) in
          subst (λ (z : Expr × List Token). Sound (Primary t) (suc (suc d)) ts z) (same_Some _ y w.next) (record { is = m; within = omega arith }))
      | inr g ↦ elim (chose (name_at ts) _ _ y g) [
        | inl w ↦ (let n = was_named ts w.x w.found in
            let k : named t n.t.text w.x.1 ≡ Some y = subst (λ (z : List ℕ). named t z w.x.1 ≡ Some y) (sym n.text) w.next in
            subst (λ (z : List Token). Sound (Primary t) (suc (suc d)) z y) (sym n.is) (named_sound t d n.t w.x.1 y n.name k))
        | inr k ↦ inner_sound d go hyp t ts y k
      ]
    ]

cast_sound : (d : ℕ) (go : ReadExpr) → IsSound d go → (p q k r : Token) (t : CType) → p.text ≡ codes "(" → q.text ≡ codes "(" → type_of k.text ≡ Some t
    → r.text ≡ codes ")" → (ts : List Token) (y : Expr × List Token) → cast_rest d go t ts ≡ Some y → Sound Whole (suc d) (p ∷ q ∷ k ∷ r ∷ ts) y
cast_sound zero go hyp p q k r t hp hq hk hr ts y h = absurd (cc)
cast_sound (suc d) go hyp p q k r t hp hq hk hr ts y h =
    let w = went (primary go t ts) _ y h in
    let v = went (eat (codes ")") w.x.1) _ y w.next in
    let a = ate (codes ")") w.x.1 v.x v.found in
    let s = primary_sound d go hyp t ts w.x w.found in
    let m : Derives (Primary t) ts (a.t ∷ v.x) w.x.0 = subst (λ (z : List Token). Derives (Primary t) ts z w.x.0) a.is s.is in
    subst (λ (z : Expr × List Token). Sound Whole (suc (suc d)) (p ∷ q ∷ k ∷ r ∷ ts) z) (same_Some _ y v.next)
    (record { is = cast hp hq hk hr m a.text; within = s.within })

inside_sound : (d : ℕ) (go : ReadExpr) → IsSound d go → (p : Token) → p.text ≡ codes "(" → (ts : List Token) (y : Expr × List Token)
    → inside d go ts ≡ Some y → Sound Whole (suc d) (p ∷ ts) y
inside_sound d go hyp p hp ts y h =
    elim (chose (eat (codes "-") ts) (minus_rest go) _ y h) [
      | inl w ↦ (let a = ate (codes "-") ts w.x w.found in
          subst (λ (z : List Token). Sound Whole (suc d) (p ∷ z) y) (sym a.is) (minus_sound d go hyp p a.t hp a.text w.x y w.next))
      | inr g ↦ elim (chose (cast_at ts) _ (two_rest go ts) y g) [
        | inl w ↦ (let c = casts ts w.x w.found in
            subst (λ (z : List Token). Sound Whole (suc d) (p ∷ z) y) (sym c.is)
            (cast_sound d go hyp p c.q c.k c.r w.x.0 hp c.left c.type c.right w.x.1 y w.next))
        | inr k ↦ two_sound d go hyp p hp ts y k
      ]
    ]

-- an expression that is read is derived, within the depth
pub expr_sound : (d : ℕ) → IsSound d (expr_at d)
expr_sound zero ts y h = absurd (cc)
expr_sound (suc d) ts y h =
    let w = went (eat (codes "(") ts) (inside d (expr_at d)) y h in
    let a = ate (codes "(") ts w.x w.found in
    subst (λ (z : List Token). Sound Whole (suc d) z y) (sym a.is) (inside_sound d (expr_at d) (expr_sound d) a.t a.text w.x y w.next)
