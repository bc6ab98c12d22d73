-- Drafts, one piece after the other.
use Rattle.std.proofs.Common.{◌≡◌, ◌≢◌, ap₂, Bool, inl, inr, ℕ, true, false, ◌+◌, ◌≤◌, List, [], ◌∷◌, ◌++◌, length, map}
use Rattle.std.proofs.Common.{refl, zero, suc, ap, arith, ◌∙◌, sym, subst, append_assoc, append-nil}
use Rattle.std.specs.Prelude.{Some, slice_get, pos}
use Rattle.ln_bound.specs.declared.fitted.Width.{Width}
use Rattle.ln_bound.specs.declared.fitted.Two.{Two}
use Rattle.ln_interval.specs.Range.{Range}
use Rattle.ln_bound.specs.Typed.{Typed, TInput, TNeg, TPow, TTwo}
use Rattle.ln_code.specs.Engine.{Line}
use Rattle.ln_code.specs.StackCode.{IsCode, Style, after_left, after_right, again, factors, keep, keeping, line, name, number, opposite, power_of, raised}
use Rattle.ln_code.specs.StackCode.{raised_to, two, variable, with_division, zeroth}
use Rattle.ln_code.specs.Walk.{AreKeptNumbers, Coded, Done, Gives, KeptIn, MayKeep, Puts, Wrote, plain, told_line, after_excess}
use Rattle.ln_code.specs.declared.draft.Draft.{Draft}
use Rattle.ln_code.specs.declared.op.Op.TheVariants.{Get, Input, Mul, Neg, Push, Set}

joined : {A : Type 0} (a b c l m : List A) → b ≡ a ++ l → c ≡ b ++ m → c ≡ a ++ (l ++ m)
joined a b c l m p q = q ∙ ap (λ t. t ++ m) p ∙ append_assoc a l m

-- what is written in two pieces is written as one: the lines of both, and the kept subtrees of both
pub wrote_then : {A B : Type 0} {told : A → B} {a b c : Draft A} {l m : List (Line B)} {p q : List ℕ} → Wrote told a b l p → Wrote told b c m q
    → Wrote told a c (l ++ m) (p ++ q)
wrote_then {told = told} {a = a} {b = b} {c = c} {l = l} {m = m} {p = p} {q = q} v w = record {
  code = joined (map (told_line told) a.code) (map (told_line told) b.code) (map (told_line told) c.code) l m v.code w.code;
  kept = joined a.kept b.kept c.kept p q v.kept w.kept;
}

-- the same, where the second piece keeps nothing
pub wrote_more : {A B : Type 0} {told : A → B} {a b c : Draft A} {l m : List (Line B)} {p : List ℕ} → Wrote told a b l p → Wrote told b c m []
    → Wrote told a c (l ++ m) p
wrote_more {told = told} {a = a} {c = c} {l = l} {m = m} {p = p} v w = subst (λ q. Wrote told a c (l ++ m) q) (append-nil p) (wrote_then v w)

-- the same, where the second piece is empty
pub wrote_same : {A B : Type 0} {told : A → B} {a b c : Draft A} {l : List (Line B)} {p : List ℕ} → Wrote told a b l p → Wrote told b c [] []
    → Wrote told a c l p
wrote_same {told = told} {a = a} {c = c} {l = l} {p = p} v w = subst (λ n. Wrote told a c n p) (append-nil l) (wrote_more v w)

-- ---- powers

-- one factor more at the end
factors_snoc : {B : Type 0} (y : Style B) (t : Typed) (w : Width) (m n k : ℕ) → k ≡ m + n → factors y t w m n
    ++ (line (Get 64) (y.mark t) ∷ with_division y (Mul (y.at_width w)) (y.raw (raised_to t (suc k) w))) ≡ factors y t w m (suc n)
factors_snoc y t w m zero k e =
    let f : k ≡ m = omega (arith, e) in
    rw f (ap (λ l. line (Get 64) (y.mark t) ∷ l) (sym (append-nil (with_division y (Mul (y.at_width w)) (y.raw (raised_to t (suc m) w))))))
factors_snoc y t w m (suc n) k e =
    let own = with_division y (Mul (y.at_width w)) (y.raw (raised_to t (suc m) w)) in
    ap (λ l. line (Get 64) (y.mark t) ∷ l) (append_assoc own (factors y t w (suc m) n) _
    ∙ ap (λ l. own ++ l) (factors_snoc y t w (suc m) n k (omega (arith, e))))

-- the base is in local 64 and as many factors are written, and z is the bound of the power so far
abbrev pub Raises : {A B : Type 0} → (A → B) → Style B → Typed → Width → ℕ → Draft A → Draft A → A → Type 0
Raises told y t w j a b z =
    Gives told a b (line (Set 64) y.none ∷ (line (Get 64) (y.mark t) ∷ factors y t w 1 j)) (y.mark (raised_to t (suc j) w)) z

module _ {A B : Type 0} (told : A → B) (y : Style B) (t : Typed) (w : Width) where
  -- one factor more
  pub raises_next : (a b c : Draft A) (j : ℕ) (r p z x : A) → told r ≡ y.mark t → told p ≡ y.raw (raised_to t (suc (j + 1)) w)
      → (1 ≤ suc j → y.mark (raised_to t (suc (suc j)) w) ≡ after_excess y (y.raw (raised_to t (suc (suc j)) w))) → Raises told y t w j a b z
      → Gives told b c (line (Get 64) (told r) ∷ with_division y (Mul (y.at_width w)) (told p)) (after_excess y (told p)) x
      → Raises told y t w (j + 1) a c x
  raises_next a b c j r p z x e f q h g =
      let i : j + 1 ≡ suc j = omega arith in
      let f' : told p ≡ y.raw (raised_to t (suc (suc j)) w) = rw i at f in
      let v = wrote_then h.wrote (rw (e, f') at g.wrote) in
      let l = factors_snoc y t w 1 j (suc j) (omega arith) in
      rw i (record {
        bound = g.bound ∙ ap (λ b. after_excess y b) f' ∙ sym (q (omega arith));
        wrote = subst (λ l. Wrote told a c (line (Set 64) y.none ∷ (line (Get 64) (y.mark t) ∷ l)) []) l v;
      })

  -- after the last factor
  pub raises_all : (a b : Draft A) (j n : ℕ) (z : A) → n ≢ 0 → j ≤ n → n ≤ j → Raises told y t w j a b z
      → Gives told a b (power_of y t w n) (y.mark (raised_to t (suc n) w)) z
  raises_all a b j zero z h l g r = absurd (h refl)
  raises_all a b j (suc n) z h l g r = let e : j ≡ suc n = omega (arith, l, g) in rw e at r

-- ---- trees without operands

-- the code of a tree that is kept
pub again_code : {B : Type 0} (y : Style B) (is_number : ℕ → Typed → Type 0) (shares : Type 0) (ns : List ℕ) (t : Typed) (k j : ℕ)
    → KeptIn shares is_number ns k j → is_number k t → (kept : List Typed) → AreKeptNumbers is_number ns kept
    → IsCode y kept t (line (Get j) (y.mark t) ∷ []) [] false
again_code y is_number shares ns t k j h n kept are =
    rw h.place.2 (again h.place.0 (kept_at ns kept h.place.0 are h.place.1))
  where
    kept_at : (ns : List ℕ) (ts : List Typed) (i : ℕ) → AreKeptNumbers is_number ns ts → slice_get ns i ≡ Some k → slice_get ts i ≡ Some t
    kept_at [] ts i a e = cc
    kept_at (m ∷ ms) [] i a e = absurd a
    kept_at (m ∷ ms) (u ∷ us) zero a e =
        let f : m ≡ k = cc in
        ap Some (h.unique u t (subst (λ x. is_number x u) f a.0) n)
    kept_at (m ∷ ms) (u ∷ us) (suc i) a e = kept_at ms us i a.1 e

-- a leaf, or a tree that is kept
pub puts_leaf : {A B : Type 0} {told : A → B} {y : Style B} {is_number : ℕ → Typed → Type 0} {shares : Type 0} {a b : Draft A} {t : Typed}
    {lines : List (Line B)} (c : Bool) {z : A} → ((kept : List Typed) → AreKeptNumbers is_number a.kept kept → IsCode y kept t lines [] c)
    → Gives told a b lines (y.mark t) z → Puts told y is_number shares a b t z
puts_leaf {lines = lines} c h g = record {
  lines = lines;
  more = [];
  computed = c;
  wrote = g.wrote;
  coded = λ kept are. record { new = []; are = tt; code = h kept are };
  bound = g.bound;
  none_kept = λ f. refl;
}

-- a variable
pub puts_variable : {A B : Type 0} {told : A → B} {y : Style B} {is_number : ℕ → Typed → Type 0} {shares : Type 0} {a b : Draft A} {t : Typed}
    {v : ℕ} {p : Range} {w : Width} (r : A) {x : A} (z : A) → t ≡ TInput v p w → told r ≡ y.raw t → told z ≡ y.mark t
    → Gives told a b (with_division y (Input v) (told r)) (after_excess y (told r)) x → Puts told y is_number shares a b t z
puts_variable {v = v} {p = p} {w = w} r z e f h g =
    puts_leaf true (λ kept are. rw e (variable v p w)) (record { bound = h; wrote = rw f at g.wrote })

-- numbers of trees in two lists, one after the other
pub all_append : (is_number : ℕ → Typed → Type 0) (ms ns : List ℕ) (ts us : List Typed) → AreKeptNumbers is_number ms ts → AreKeptNumbers is_number ns us
    → AreKeptNumbers is_number (ms ++ ns) (ts ++ us)
all_append is_number [] ns [] us a b = b
all_append is_number [] ns (t ∷ ts) us a b = absurd a
all_append is_number (m ∷ ms) ns [] us a b = absurd a
all_append is_number (m ∷ ms) ns (t ∷ ts) us a b = (a.0, all_append is_number ms ns ts us a.1 b)

-- there are as many numbers as trees
pub all_length : (is_number : ℕ → Typed → Type 0) (ns : List ℕ) (ts : List Typed) → AreKeptNumbers is_number ns ts → length ns ≡ length ts
all_length is_number [] [] a = refl
all_length is_number [] (t ∷ ts) a = absurd a
all_length is_number (n ∷ ns) [] a = absurd a
all_length is_number (n ∷ ns) (t ∷ ts) a = ap suc (all_length is_number ns ts a.1)

-- ---- trees with operands
module _ {A B : Type 0} {told : A → B} {y : Style B} {is_number : ℕ → Typed → Type 0} {shares : Type 0} where
  -- what is computed may be kept
  pub puts_kept : {a b c : Draft A} {t : Typed} {k : ℕ} {z : A} → is_number k t → told z ≡ y.mark t → MayKeep told y shares b c k (y.mark t)
      → Done told y is_number shares a b t → Puts told y is_number shares a c t z
  puts_kept s e (inl h) x =
      record { lines = x.lines; more = x.more; computed = true; wrote = wrote_same x.wrote h; coded = x.coded; bound = e; none_kept = x.none_kept }
  puts_kept {a = a} {b = b} {t = t} {k = k} s e (inr h) x = record {
    lines = x.lines ++ keeping y.none (65 + length b.kept) (y.mark t);
    more = x.more ++ (k ∷ []);
    computed = false;
    wrote = wrote_then x.wrote h.1;
    coded = coded;
    bound = e;
    none_kept = λ f. absurd (f h.0);
  }
    where
      coded : (kept : List Typed) → AreKeptNumbers is_number a.kept kept
          → Coded y is_number kept t (x.lines ++ keeping y.none (65 + length b.kept) (y.mark t)) (x.more ++ (k ∷ [])) false
      coded kept are =
          let q = x.coded kept are in
          let n : length (kept ++ q.new) ≡ length b.kept = sym (all_length is_number b.kept (kept ++ q.new)
          (rw x.wrote.kept (all_append is_number a.kept x.more kept q.new are q.are))) in
          rw (← n) (record { new = q.new ++ (t ∷ []); are = all_append is_number x.more (k ∷ []) q.new (t ∷ []) q.are (s, tt); code = keep q.code })

  -- a negation is done by its operand and its operation
  pub done_neg : {a b c : Draft A} {t u : Typed} {p : Range} {w : Width} {z x : A} → u ≡ TNeg t p w → Puts told y is_number shares a b t z
      → Gives told b c (line (Neg (y.at_width w)) (y.mark u) ∷ []) (y.mark u) x → Done told y is_number shares a c u
  done_neg {t = t} {p = p} {w = w} e f g = rw e (record {
    lines = f.lines ++ (line (Neg (y.at_width w)) (y.mark (TNeg t p w)) ∷ []);
    more = f.more;
    wrote = wrote_more f.wrote (rw e at g.wrote);
    coded = λ kept are. let q = f.coded kept are in record { new = q.new; are = q.are; code = opposite p w q.code };
    none_kept = f.none_kept;
  })

  -- an operation on two is done by its operands, what divides the left one, and its operation
  pub done_two : {a b c d e : Draft A} {o : Two} {t u v : Typed} {p : Range} {w : Width} {z x : A} → v ≡ TTwo o t u p w
      → Puts told y is_number shares a b t z → Wrote told b c (after_left y o t u) [] → Puts told y is_number shares c d u x
      → Wrote told d e (after_right y o t u p w) [] → Done told y is_number shares a e v
  done_two {a = a} {b = b} {c = c} {o = o} {t = t} {u = u} {p = p} {w = w} q f l r h = rw q (record {
    lines = f.lines ++ (after_left y o t u ++ (r.lines ++ after_right y o t u p w));
    more = f.more ++ r.more;
    wrote = wrote_then f.wrote (wrote_then l (wrote_more r.wrote h));
    coded = coded;
    none_kept = λ n. rw (f.none_kept n, r.none_kept n) refl;
  })
    where
      coded : (kept : List Typed) → AreKeptNumbers is_number a.kept kept
          → Coded y is_number kept (TTwo o t u p w) (f.lines ++ (after_left y o t u ++ (r.lines ++ after_right y o t u p w))) (f.more ++ r.more) true
      coded kept are =
          let q = f.coded kept are in
          let k : c.kept ≡ a.kept ++ f.more = l.kept ∙ append-nil b.kept ∙ f.wrote.kept in
          let s = r.coded (kept ++ q.new) (rw k (all_append is_number a.kept f.more kept q.new are q.are)) in
          record { new = q.new ++ s.new; are = all_append is_number f.more r.more q.new s.new q.are s.are; code = two o p w q.code s.code }

  -- the power 0 is done by the number 1
  pub done_zeroth : {a b : Draft A} {t u : Typed} {p : Range} {w : Width} {x : A} → u ≡ TPow t 0 p w
      → Gives told a b (line (Push (pos 1)) (y.mark u) ∷ []) (y.mark u) x → Done told y is_number shares a b u
  done_zeroth {t = t} {p = p} {w = w} e g = rw e (record {
    lines = line (Push (pos 1)) (y.mark (TPow t 0 p w)) ∷ [];
    more = [];
    wrote = rw e at g.wrote;
    coded = λ kept are. record { new = []; are = tt; code = zeroth t p w };
    none_kept = λ f. refl;
  })

  -- any other power is done by its base and the factors after it
  pub done_power : {a b c : Draft A} {t u : Typed} {n : ℕ} {p : Range} {w : Width} {z : A} → u ≡ TPow t (suc n) p w
      → Puts told y is_number shares a b t z → Wrote told b c (power_of y t w n) [] → Done told y is_number shares a c u
  done_power {t = t} {n = n} {p = p} {w = w} e f h = rw e (record {
    lines = f.lines ++ power_of y t w n;
    more = f.more;
    wrote = wrote_more f.wrote h;
    coded = λ kept are. let q = f.coded kept are in record { new = q.new; are = q.are; code = raised n p w q.code };
    none_kept = f.none_kept;
  })

-- ---- code in which nothing is kept
no_more : {A : Type 0} (xs ys : List A) → xs ++ ys ≡ [] → (xs ≡ []) × (ys ≡ [])
no_more [] ys e = (refl, e)
no_more (x ∷ xs) ys e = cc

-- code of a tree in which nothing is kept is one list
pub plain_code : {B : Type 0} (y : Style B) {kept more : List Typed} {t : Typed} {lines : List (Line B)} {b : Bool} → IsCode y kept t lines more b
    → kept ≡ [] → more ≡ [] → lines ≡ plain y t
plain_code y (number c p w) e f = refl
plain_code y (variable v p w) e f = refl
plain_code y (name j p w) e f = refl
plain_code y (again {t = t} i h) e f = let g : slice_get [] i ≡ Some t = rw e at h in cc
plain_code y (opposite {t = t} p w x) e f =
    ap (λ l. l ++ (line (Neg (y.at_width w)) (y.mark (TNeg t p w)) ∷ [])) (plain_code y x e f)
plain_code y (two {kept = kept} {m = m} {n = n} {t = t} {u = u} {right = right} o p w x z) e f =
    let s = no_more m n f in
    let a = plain_code y x e s.0 in
    let k : kept ++ m ≡ [] = rw (e, s.0) refl in
    let c = plain_code y z k s.1 in
    ap₂ (λ l r. l ++ (after_left y o t u ++ (r ++ after_right y o t u p w))) a c
plain_code y (zeroth t p w) e f = refl
plain_code y (raised {t = t} n p w x) e f = ap (λ l. l ++ power_of y t w n) (plain_code y x e f)
plain_code y (keep {more = before} {t = t} x) e f = let s = no_more before (t ∷ []) f in let g : t ∷ [] ≡ [] = s.1 in cc
