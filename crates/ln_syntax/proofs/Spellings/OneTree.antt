-- An expression before a semicolon has one end and one tree: two derivations of a sort from one place are the same, if neither goes on after its end.
use Rattle.std.proofs.Common.{◌≡◌, ℕ, suc, ◌<◌, List, refl, ap, sym, subst, arith}
use Rattle.ln_syntax.specs.Raw.{Token, Is, kind_at, span_at, Kind, ParR, Dot, Plus, Minus, Star, Caret, Semi}
use Rattle.ln_syntax.specs.Stops.{strength, strength_of, bar, Stops}
use Rattle.ln_syntax.specs.Expression.{Tree, TNeg, TAdd, TSub, TMul, Sort, Atom, Power, Unary, Term, Sum, Factors, Terms, Derives, number, name, input, parens}
use Rattle.ln_syntax.specs.Expression.{plain, power, base, minus, term, no_factor, times, sum, no_term, plus, less}

-- the same end and the same tree
pub record SameTree (i j : ℕ) (e f : Tree) : Type 0 where
  pub place : i ≡ j
  pub tree : e ≡ f

strength_is : (ts : List Token) (j : ℕ) (k : Kind) → Is ts j k → strength_of (kind_at ts j) ≡ strength k
strength_is ts j k is = ap strength_of is

-- a token of this kind stops the sort
pub stops : {ts : List Token} {j : ℕ} (s : Sort) (k : Kind) → Is ts j k → strength k < bar s → Stops ts s j
stops {ts = ts} {j = j} s k is h = let e = strength_is ts j k is in record { weak = omega arith }

-- a token of this kind goes on with the sort
pub never : {ts : List Token} {s : Sort} {j : ℕ} (k : Kind) → Is ts j k → Stops ts s j → (strength k < bar s → ⊥) → ⊥
never {ts = ts} {j = j} k is st n = let e = strength_is ts j k is in let h = st.weak in n (omega arith)

-- what stops a sort stops each that binds as tightly or more
pub tighter : {ts : List Token} {s : Sort} {j : ℕ} (r : Sort) → Stops ts s j → (bar r < bar s → ⊥) → Stops ts r j
tighter r st n = let h = st.weak in record { weak = omega arith }

-- a factor stops before more factors and at the end of them
pub factors_stop : {ts : List Token} {f : Tree} {i j : ℕ} {e : Tree} → Derives ts (Factors f) i j e → Stops ts Term j → Stops ts Unary i
factors_stop no_factor st = tighter Unary st (λ h. omega arith)
factors_stop (times is d r) st = stops Unary Star is (omega arith)

-- a term stops before more terms and at the end of them
pub terms_stop : {ts : List Token} {f : Tree} {i j : ℕ} {e : Tree} → Derives ts (Terms f) i j e → Stops ts Sum j → Stops ts Term i
terms_stop no_term st = tighter Term st (λ h. omega arith)
terms_stop (plus is d r) st = stops Term Plus is (omega arith)
terms_stop (less is d r) st = stops Term Minus is (omega arith)

-- the first token of an atom or a power is no minus
atom_first : {ts : List Token} {i j : ℕ} {e : Tree} → Derives ts Atom i j e → Is ts i Minus → ⊥
atom_first (number n) m = cc
atom_first (name n) m = cc
atom_first (input n d x) m = cc
atom_first (parens n d c) m = cc

-- a power doesn't begin with a minus sign
pub power_first : {ts : List Token} {i j : ℕ} {e : Tree} → Derives ts Power i j e → Is ts i Minus → ⊥
power_first (plain d) m = atom_first d m
power_first (power d c n) m = atom_first d m

-- a derivation after the same tree, from the same place
moved : {ts : List Token} (S : Tree → Sort) {f g : Tree} {j l m : ℕ} {y : Tree} → f ≡ g → j ≡ l → Derives ts (S g) l m y → Derives ts (S f) j m y
moved {ts = ts} S {g = g} {j = j} {m = m} {y = y} a b d =
    subst (λ (w : Tree). Derives ts (S w) j m y) (sym a) (subst (λ (w : ℕ). Derives ts (S g) w m y) (sym b) d)

same : {ts : List Token} {s : Sort} {i j k : ℕ} {e f : Tree} → Derives ts s i j e → Derives ts s i k f → Stops ts s j → Stops ts s k → SameTree j k e f
same (number n) (number m) p q = record { place = refl; tree = refl }
same (number n) (name m) p q = absurd (cc)
same (number n) (input m d x) p q = absurd (cc)
same (number n) (parens m d c) p q = absurd (cc)
same (name n) (number m) p q = absurd (cc)
same (name n) (name m) p q = record { place = refl; tree = refl }
same (name n) (input m d x) p q = absurd (never Dot d p (λ h. omega arith))
same (name n) (parens m d c) p q = absurd (cc)
same (input m d x) (number n) p q = absurd (cc)
same (input m d x) (name n) p q = absurd (never Dot d q (λ h. omega arith))
same (input m d x) (input n e y) p q = record { place = refl; tree = refl }
same (input m d x) (parens n e c) p q = absurd (cc)
same (parens n d c) (number m) p q = absurd (cc)
same (parens n d c) (name m) p q = absurd (cc)
same (parens n d c) (input m e x) p q = absurd (cc)
same (parens n d c) (parens m e g) p q =
    let r = same d e (stops Sum ParR c (omega arith)) (stops Sum ParR g (omega arith)) in
    record { place = ap suc r.place; tree = r.tree }
same (plain d) (plain e) p q = same d e (tighter Atom p (λ h. omega arith)) (tighter Atom q (λ h. omega arith))
same {ts = ts} (plain d) (power e c n) p q =
    let r = same d e (tighter Atom p (λ h. omega arith)) (stops Atom Caret c (omega arith)) in
    let v : Is ts _ Caret = subst (λ (w : ℕ). Is ts w Caret) (sym r.place) c in
    absurd (never Caret v p (λ h. omega arith))
same {ts = ts} (power d c n) (plain e) p q =
    let r = same d e (stops Atom Caret c (omega arith)) (tighter Atom q (λ h. omega arith)) in
    let v : Is ts _ Caret = subst (λ (w : ℕ). Is ts w Caret) r.place c in
    absurd (never Caret v q (λ h. omega arith))
same (power d c n) (power e b m) p q =
    let r = same d e (stops Atom Caret c (omega arith)) (stops Atom Caret b (omega arith)) in
    record { place = ap (λ (w : ℕ). suc (suc w)) r.place; tree = rw (r.place, r.tree) refl }
same (base d) (base e) p q = same d e (tighter Power p (λ h. omega arith)) (tighter Power q (λ h. omega arith))
same (base d) (minus m e) p q = absurd (power_first d m)
same (minus n d) (base e) p q = absurd (power_first e n)
same {ts = ts} (minus {i = i} n d) (minus m e) p q =
    let r = same d e p q in record { place = r.place; tree = ap (λ (w : Tree). TNeg (span_at ts i) w) r.tree }
same (term {f = f} d r) (term e t) p q =
    let a = same d e (factors_stop r p) (factors_stop t q) in
    same r (moved Factors a.tree a.place t) (tighter (Factors f) p (λ h. omega arith)) (tighter (Factors f) q (λ h. omega arith))
same no_factor no_factor p q = record { place = refl; tree = refl }
same no_factor (times is e t) p q = absurd (never Star is p (λ h. omega arith))
same (times is e t) no_factor p q = absurd (never Star is q (λ h. omega arith))
same {ts = ts} (times {i = i} {f = f} {g = g} is d r) (times it e t) p q =
    let a = same d e (factors_stop r (tighter Term p (λ h. omega arith))) (factors_stop t (tighter Term q (λ h. omega arith))) in
    let h = Factors (TMul (span_at ts i) f g) in
    same r (moved (λ w. Factors (TMul (span_at ts i) f w)) a.tree a.place t) (tighter h p (λ h. omega arith)) (tighter h q (λ h. omega arith))
same (sum {f = f} d r) (sum e t) p q =
    let a = same d e (terms_stop r p) (terms_stop t q) in
    same r (moved Terms a.tree a.place t) (tighter (Terms f) p (λ h. omega arith)) (tighter (Terms f) q (λ h. omega arith))
same no_term no_term p q = record { place = refl; tree = refl }
same no_term (plus is e t) p q = absurd (never Plus is p (λ h. omega arith))
same no_term (less is e t) p q = absurd (never Minus is p (λ h. omega arith))
same (plus is d r) no_term p q = absurd (never Plus is q (λ h. omega arith))
same {ts = ts} (plus {i = i} {f = f} {g = g} is d r) (plus it e t) p q =
    let a = same d e (terms_stop r (tighter Sum p (λ h. omega arith))) (terms_stop t (tighter Sum q (λ h. omega arith))) in
    let h = Terms (TAdd (span_at ts i) f g) in
    same r (moved (λ w. Terms (TAdd (span_at ts i) f w)) a.tree a.place t) (tighter h p (λ h. omega arith)) (tighter h q (λ h. omega arith))
same (plus is d r) (less it e t) p q = absurd (cc)
same (less is d r) no_term p q = absurd (never Minus is q (λ h. omega arith))
same (less is d r) (plus it e t) p q = absurd (cc)
same {ts = ts} (less {i = i} {f = f} {g = g} is d r) (less it e t) p q =
    let a = same d e (terms_stop r (tighter Sum p (λ h. omega arith))) (terms_stop t (tighter Sum q (λ h. omega arith))) in
    let h = Terms (TSub (span_at ts i) f g) in
    same r (moved (λ w. Terms (TSub (span_at ts i) f w)) a.tree a.place t) (tighter h p (λ h. omega arith)) (tighter h q (λ h. omega arith))

-- two expressions from one place, each before a semicolon, have one end and one tree
pub one_tree : {ts : List Token} {i j k : ℕ} {e f : Tree} → Derives ts Sum i j e → Is ts j Semi → Derives ts Sum i k f → Is ts k Semi → SameTree j k e f
one_tree d s e t = same d e (stops Sum Semi s (omega arith)) (stops Sum Semi t (omega arith))
