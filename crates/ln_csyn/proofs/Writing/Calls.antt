-- Proves that the result of a call doesn't depend on lines.
use Rattle.std.proofs.Common.{◌≡◌, ℕ, Bool, true, false, List, [], ◌∷◌, ◌++◌, refl, subst}
use Rattle.std.specs.Prelude.{Option, Some, None, ℤ, if◌then◌else◌}
use Rattle.ln_csyn.specs.declared.tree.CType.{CType}
use Rattle.ln_csyn.specs.declared.tree.CType.TheVariants.{Int}
use Rattle.ln_csyn.specs.declared.tree.COp.{COp}
use Rattle.ln_csyn.specs.Tree.{Expr, Number, Name, Value, Index, Call, Inner, Minus, Two, Body, Fun}
use Rattle.ln_csyn.specs.Meaning.{Counts, Answer, Gives, Fails, then_with, given, cast, operated, negated, is_same, is_zero, Seen, Scene}
use Rattle.ln_csyn.specs.Meaning.{value_of, entered, Outcome, Went, Said, Wrong, wanted, then_on, runs, answer_of, is_wanted, called}
use Rattle.ln_csyn.specs.Meaning.{CMeaning, Signed, Undefined, called_at, runs_behind, called_behind}
use Rattle.ln_csyn.specs.Lines.{SameBody, end, decl, group, when, return, SameFun, SameUpToLines, none, one}
use Rattle.ln_csyn.specs.Laws.{LinesSayNothing}

-- the same number, or no meaning in both
data SameAnswer : Answer → Answer → Type 0 where
  gives : {t : CType} {z : ℤ} {k : Counts} → SameAnswer (Gives t z k) (Gives t z k)
  fails : {o p : Option ℕ} → SameAnswer (Fails o) (Fails p)

itself : (a : Answer) → SameAnswer a a
itself (Gives t z k) = gives
itself (Fails o) = fails

with_same : {a b : Answer} (f g : CType → ℤ → Counts → Answer) → SameAnswer a b
    → ((t : CType) (z : ℤ) (k : Counts) → SameAnswer (f t z k) (g t z k)) → SameAnswer (then_with a f) (then_with b g)
with_same f g (gives {t = t} {z = z} {k = k}) h = h t z k
with_same f g fails h = fails

cast_same : {a b : Answer} (t : CType) → SameAnswer a b → SameAnswer (cast t a) (cast t b)
cast_same t s = with_same (λ u z k. given t z k) (λ u z k. given t z k) s (λ u z k. itself (given t z k))

-- functions that return the same
abbrev SameCalls : (List ℕ → Counts → Answer) → (List ℕ → Counts → Answer) → Type 0
SameCalls c d = (x : List ℕ) (k : Counts) → SameAnswer (c x k) (d x k)

abbrev scene : List ℤ → Option (List ℤ) → (List ℕ → Counts → Answer) → Scene
scene v i c = record { values = v; index = i; call = c }

both_same : (o : COp) (t u : CType) (x y : ℤ) (k : Counts)
    → SameAnswer (if is_same t u then operated o t x y k else Fails None) (if is_same t u then operated o t x y k else Fails None)
both_same o t u x y k = itself (if is_same t u then operated o t x y k else Fails None)

value_same : (v : List ℤ) (i : Option (List ℤ)) (c d : List ℕ → Counts → Answer) → SameCalls c d → (ds : List Seen) (e : Expr) (k : Counts)
    → SameAnswer (value_of (scene v i c) ds e k) (value_of (scene v i d) ds e k)
value_same v i c d h ds (Number t n) k = itself (value_of (scene v i c) ds (Number t n) k)
value_same v i c d h ds (Name t x) k = itself (value_of (scene v i c) ds (Name t x) k)
value_same v i c d h ds (Value t n) k = itself (value_of (scene v i c) ds (Value t n) k)
value_same v i c d h ds (Index t n) k = itself (value_of (scene v i c) ds (Index t n) k)
value_same v i c d h ds (Call t f) k = cast_same t (h f (entered k))
value_same v i c d h ds (Inner t e) k = cast_same t (value_same v i c d h ds e k)
value_same v i c d h ds (Minus e) k =
    with_same (λ t z j. negated t z j) (λ t z j. negated t z j) (value_same v i c d h ds e k) (λ t z j. itself (negated t z j))
value_same v i c d h ds (Two o a b) k =
    with_same (λ t x m. then_with (value_of (scene v i c) ds b m) (λ u y j. if is_same t u then operated o t x y j else Fails None))
    (λ t x m. then_with (value_of (scene v i d) ds b m) (λ u y j. if is_same t u then operated o t x y j else Fails None))
    (value_same v i c d h ds a k)
    (λ t x m. with_same (λ u y j. if is_same t u then operated o t x y j else Fails None) (λ u y j. if is_same t u then operated o t x y j else Fails None)
    (value_same v i c d h ds b m) (λ u y j. both_same o t u x y j))

-- the same doing, or no meaning in both
data SameOutcome : Outcome → Outcome → Type 0 where
  went : {k : Counts} → SameOutcome (Went k) (Went k)
  said : {z : ℤ} {k : Counts} → SameOutcome (Said z k) (Said z k)
  wrong : {l m : ℕ} → SameOutcome (Wrong l) (Wrong m)

wanted_same : {a b : Answer} (l m : ℕ) (t : CType) (f g : ℤ → Counts → Outcome) → SameAnswer a b
    → ((z : ℤ) (k : Counts) → SameOutcome (f z k) (g z k)) → SameOutcome (wanted l t a f) (wanted m t b g)
wanted_same l m t f g (gives {t = u} {z = z} {k = k}) h = by_type (is_same t u) refl where
  by_type : (v : Bool) → is_same t u ≡ v → SameOutcome (if v then f z k else Wrong l) (if v then g z k else Wrong m)
  by_type true e = h z k
  by_type false e = wrong
wanted_same l m t f g fails h = wrong

on_same : {a b : Outcome} (f g : Counts → Outcome) → SameOutcome a b → ((k : Counts) → SameOutcome (f k) (g k)) → SameOutcome (then_on a f) (then_on b g)
on_same f g (went {k = k}) h = h k
on_same f g said h = said
on_same f g wrong h = wrong

if_same : {a b c d : Outcome} (v : Bool) → SameOutcome a b → SameOutcome c d → SameOutcome (if v then a else c) (if v then b else d)
if_same true s r = s
if_same false s r = r

runs_same : (v : List ℤ) (i : Option (List ℤ)) (c d : List ℕ → Counts → Answer) → SameCalls c d → {a b : Body} → SameBody a b
    → (ds : List Seen) (k : Counts) → SameOutcome (runs (scene v i c) ds a k) (runs (scene v i d) ds b k)
runs_same v i c d h end ds k = went
runs_same v i c d h (decl {l = l} {m = m} {t = t} {x = x} {e = e} {b = a} {c = b} s) ds k =
    wanted_same l m t (λ z j. runs (scene v i c) (record { name = x; kind = t; number = Some z } ∷ ds) a j)
    (λ z j. runs (scene v i d) (record { name = x; kind = t; number = Some z } ∷ ds) b j)
    (value_same v i c d h (record { name = x; kind = t; number = None } ∷ ds) e k)
    (λ z j. runs_same v i c d h s (record { name = x; kind = t; number = Some z } ∷ ds) j)
runs_same v i c d h (group {b = a} {d = b} s r) ds k =
    on_same (λ j. runs (scene v i c) ds a j) (λ j. runs (scene v i d) ds b j) (runs_same v i c d h s ds k) (λ j. runs_same v i c d h r ds j)
runs_same v i c d h (when {l = l} {m = m} {e = e} {a = a} {b = a2} {c = b} {d = b2} s r) ds k =
    wanted_same l m Int (λ z j. if is_zero z then runs (scene v i c) ds a2 j else then_on (runs (scene v i c) ds a j) (λ n. runs (scene v i c) ds a2 n))
    (λ z j. if is_zero z then runs (scene v i d) ds b2 j else then_on (runs (scene v i d) ds b j) (λ n. runs (scene v i d) ds b2 n))
    (value_same v i c d h ds e k)
    (λ z j. if_same (is_zero z) (runs_same v i c d h r ds j) (on_same (λ n. runs (scene v i c) ds a2 n) (λ n. runs (scene v i d) ds b2 n)
    (runs_same v i c d h s ds j) (λ n. runs_same v i c d h r ds n)))
runs_same v i c d h (return {l = l} {m = m} {e = e} s) ds k = wanted_same l m Int Said Said (value_same v i c d h ds e k) (λ z j. said)

answer_same : {a b : Outcome} (l m : ℕ) → SameOutcome a b → SameAnswer (answer_of l a) (answer_of m b)
answer_same l m went = fails
answer_same l m said = gives
answer_same l m wrong = fails

no_calls : SameCalls (λ g j. Fails None) (λ g j. Fails None)
no_calls x k = fails

if_answers : {a b c d : Answer} (w : Bool) → SameAnswer a b → SameAnswer c d → SameAnswer (if w then a else c) (if w then b else d)
if_answers true p q = p
if_answers false p q = q

same_wanted : (f g : Fun) (i : Bool) (x : List ℕ) → SameFun f g → is_wanted f i x ≡ is_wanted g i x
same_wanted f g i x s = rw (s.indexed, s.name) refl

called_same : {fs gs : List Fun} → SameUpToLines fs gs → (v : List ℤ) → SameCalls (called fs v) (called gs v)
called_same none v x k = fails
called_same (one {f = f} {g = g} {fs = fs} {gs = gs} s r) v x k =
    subst (λ (w : Bool). SameAnswer (if is_wanted f false x then answer_of f.end (runs (scene v None (λ y j. Fails None)) [] f.body k) else called fs v x k)
    (if w then answer_of g.end (runs (scene v None (λ y j. Fails None)) [] g.body k) else called gs v x k)) (same_wanted f g false x s)
    (if_answers (is_wanted f false x)
    (answer_same f.end g.end (runs_same v None (λ y j. Fails None) (λ y j. Fails None) no_calls s.body [] k)) (called_same r v x k))

-- the same sign, or no meaning in both, or no function in both
data SameMeaning : Option CMeaning → Option CMeaning → Type 0 where
  nothing : SameMeaning None None
  signed : {z : ℤ} {k : Counts} → SameMeaning (Some (Signed z k)) (Some (Signed z k))
  undefined : {l m : ℕ} → SameMeaning (Some (Undefined l)) (Some (Undefined m))

at_same : {a b : Outcome} (l m : ℕ) → SameOutcome a b → SameMeaning (Some (called_at l a)) (Some (called_at m b))
at_same l m went = undefined
at_same l m said = signed
at_same l m wrong = undefined

if_meanings : {a b c d : Option CMeaning} (w : Bool) → SameMeaning a b → SameMeaning c d → SameMeaning (if w then a else c) (if w then b else d)
if_meanings true p q = p
if_meanings false p q = q

joined_same : {fs gs : List Fun} {f g : Fun} → SameUpToLines fs gs → SameFun f g → SameUpToLines (fs ++ f ∷ []) (gs ++ g ∷ [])
joined_same none s = one s none
joined_same (one r q) s = one r (joined_same q s)

behind_same : {fs gs as' bs : List Fun} → SameUpToLines fs gs → SameUpToLines as' bs → (x : List ℕ) (i v : List ℤ)
    → SameMeaning (called_behind as' fs x i v) (called_behind bs gs x i v)
behind_same none q x i v = nothing
behind_same {as' = as'} {bs = bs} (one {f = f} {g = g} {fs = fs} {gs = gs} s r) q x i v =
    subst (λ (w : Bool). SameMeaning (if is_wanted f true x then Some (called_at f.end (runs_behind as' f.body i v)) else called_behind (as' ++ f ∷ []) fs
    x i v) (if w then Some (called_at g.end (runs_behind bs g.body i v)) else called_behind (bs ++ g ∷ []) gs x i v)) (same_wanted f g true x s)
    (if_meanings (is_wanted f true x) (at_same f.end g.end (runs_same v (Some i) (called as' v) (called bs v) (called_same q v) s.body []
    (record { wide = 0; calls = 0 }))) (behind_same r (joined_same q s) x i v))

says_on : {a b : Option CMeaning} (z : ℤ) (k : Counts) → SameMeaning a b → a ≡ Some (Signed z k) → b ≡ Some (Signed z k)
says_on z k nothing e = e
says_on z k signed e = e
says_on z k undefined e = absurd (cc)

says_back : {a b : Option CMeaning} (z : ℤ) (k : Counts) → SameMeaning a b → b ≡ Some (Signed z k) → a ≡ Some (Signed z k)
says_back z k nothing e = e
says_back z k signed e = e
says_back z k undefined e = absurd (cc)

-- both ways
pub lines_say_nothing : LinesSayNothing
lines_say_nothing fs gs s x i v z k =
    let m = behind_same s none x i v in
    (says_on z k m, says_back z k m)
