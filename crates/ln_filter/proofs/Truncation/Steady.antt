-- Triples that are worked out: where there is a result each node is steady, and where each is there is one.
use Rattle.std.proofs.Common.{◌≡◌, ◌⊎◌, inl, inr, ℕ, ◌≤◌, ◌<◌, true, List, [], ◌∷◌, ◌++◌, refl, zero, suc, arith, sym, ◌∙◌, nat_le, ◌-◌}
use Rattle.std.specs.Prelude.{Some, None, All, slice_index_or}
use Rattle.std.proofs.lemmas.Bool.{leb-true, le-leb, and_parts, cases_lt}
use Rattle.std.proofs.lemmas.List.Elements.{All-head, All-tail}
use Rattle.ln_algebra.specs.Tree.{Tree, Num, Input, Name, Neg, Add, Sub, Mul, Pow}
use Rattle.ln_tree.specs.declared.shape.VarInfo.{VarInfo}
use Rattle.ln_code.specs.declared.op.Triple.{Triple}
use Rattle.ln_code.specs.Engine.{next}
use Rattle.ln_code.specs.Kept.{no_triple}
use Rattle.ln_code.proofs.Engines.Follow.{when_some}
use Rattle.ln_code.proofs.Following.Known.{next_some}
use Rattle.ln_filter.specs.Triples.{bits, whole, leaf, trimmed, added, multiplied, powered, triple, let_triples}
use Rattle.ln_filter.specs.Steady.{IsSteady, ArePowersSteady, AreSteady, AreLetsSteady, HasFilter}
use Rattle.ln_filter.specs.Tried.{is_steady, settled, power_tried, tried, lets_tried, IsSmall}
use Rattle.ln_filter.proofs.Truncation.Bits.{excess_leaves}

-- a steady triple passes the test
pub test_of : (a : Triple) → IsSteady a → is_steady a ≡ true
test_of a s = rw (le-leb a.e 2147483647 s.error, le-leb a.k 255 s.power) refl

-- a triple that passes the test is steady
pub steady_by : (a : Triple) → is_steady a ≡ true → IsSteady a
steady_by a h =
    let p = and_parts (nat_le a.e 2147483647) (nat_le a.k 255) h in
    record { error = leb-true _ _ p.0; power = leb-true _ _ p.1 }

-- `settled` of a steady triple is that triple
pub settled_is : (a : Triple) → IsSteady a → settled a ≡ Some a
settled_is a s = rw (test_of a s) refl

-- what `settled` returns is steady, and is the triple that it was given
pub settled_some : (a b : Triple) → settled a ≡ Some b → IsSteady a × (a ≡ b)
settled_some a b h = let w = when_some (is_steady a) a b h in (steady_by a w.0, w.1)

-- the number 1
pub one_steady : IsSteady (leaf 1)
unfolding bits
one_steady = record { error = omega arith; power = omega arith }

-- ---- powers

-- where the products on the way to a power are steady, its triple is worked out
pub powers_tried : (a : Triple) (n : ℕ) → ArePowersSteady a n → power_tried a n ≡ Some (powered a n)
powers_tried a zero s = settled_is (leaf 1) one_steady
powers_tried a (suc zero) s = refl
powers_tried a (suc (suc n)) s =
    let h : power_tried a (suc n) ≡ Some (powered a (suc n)) = powers_tried a (suc n) (λ m l k. s m l (omega arith)) in
    rw h (settled_is (multiplied (powered a (suc n)) a) (s (suc (suc n)) (omega arith) (omega arith)))

one_more : (a : Triple) (n j : ℕ) → j ≡ suc n → ArePowersSteady a n → IsSteady (powered a j) → ArePowersSteady a j
one_more a n j e h s m l k = by_case (cases_lt m j)
  where
    by_case : (m < j) ⊎ (j ≤ m) → IsSteady (powered a m)
    by_case (inl p) = h m l (omega arith)
    by_case (inr p) = let q : m ≡ j = omega arith in rw q s

-- the products on the way to the power are steady, and this is its triple
abbrev pub PowerTried : Triple → Triple → ℕ → Type 0
PowerTried a p n = ArePowersSteady a n × (powered a n ≡ p)

-- where a triple is worked out for a power, the products on the way are steady, and it is the power's
pub tried_powers : (a p : Triple) (n : ℕ) → power_tried a n ≡ Some p → PowerTried a p n
tried_powers a p zero h = let w = settled_some (leaf 1) p h in (λ m l k. absurd (omega arith), w.1)
tried_powers a p (suc zero) h = (λ m l k. absurd (omega arith), cc)
tried_powers a p (suc (suc n)) h =
    let w = next_some (power_tried a (suc n)) (λ (q : Triple). settled (multiplied q a)) p h in
    let r = tried_powers a w.0 (suc n) w.1 in
    let v = settled_some (multiplied w.0 a) p w.2 in
    let s : IsSteady (multiplied (powered a (suc n)) a) = rw r.1 v.0 in
    let e : multiplied (powered a (suc n)) a ≡ p = rw r.1 v.1 in
    (one_more a (suc n) (suc (suc n)) refl r.0 s, e)

-- ---- trees

-- where the nodes of an expression are steady, its triple is worked out
pub steady_tried : (vars : List VarInfo) (lets : List Triple) (t : Tree) → AreSteady vars lets t → tried vars lets t ≡ Some (triple vars lets t)
steady_tried vars lets (Num c) s = settled_is _ s
steady_tried vars lets (Input v) s = settled_is _ s
steady_tried vars lets (Name j) s = refl
steady_tried vars lets (Neg e) s = steady_tried vars lets e s
steady_tried vars lets (Add e f) s = rw (steady_tried vars lets e s.0, steady_tried vars lets f s.1) (settled_is _ s.2)
steady_tried vars lets (Sub e f) s = rw (steady_tried vars lets e s.0, steady_tried vars lets f s.1) (settled_is _ s.2)
steady_tried vars lets (Mul e f) s = rw (steady_tried vars lets e s.0, steady_tried vars lets f s.1) (settled_is _ s.2)
steady_tried vars lets (Pow e n) s = rw (steady_tried vars lets e s.0) (powers_tried (triple vars lets e) n s.1)

-- the nodes of the expression are steady, and this is its triple
abbrev pub Tried : List VarInfo → List Triple → Tree → Triple → Type 0
Tried vars lets t a = AreSteady vars lets t × (triple vars lets t ≡ a)

-- where a triple is worked out for an operation on two, the operands have one each, and it is that of the operation on these
two_tried : (vars : List VarInfo) (lets : List Triple) (e f : Tree) (join : Triple → Triple → Triple) (x : Triple)
    → ((a : Triple) → tried vars lets e ≡ Some a → Tried vars lets e a) → ((a : Triple) → tried vars lets f ≡ Some a → Tried vars lets f a)
    → next (tried vars lets e) (λ a. next (tried vars lets f) (λ b. settled (join a b))) ≡ Some x
    → (AreSteady vars lets e × AreSteady vars lets f × IsSteady (join (triple vars lets e) (triple vars lets f)))
    × (join (triple vars lets e) (triple vars lets f) ≡ x)
two_tried vars lets e f join x u v h =
    let m = next_some (tried vars lets e) (λ (a : Triple). next (tried vars lets f) (λ b. settled (join a b))) x h in
    let n = next_some (tried vars lets f) (λ (b : Triple). settled (join m.0 b)) x m.2 in
    let w = settled_some (join m.0 n.0) x n.2 in
    let r = u m.0 m.1 in
    let s = v n.0 n.1 in
    ((r.0, s.0, rw (r.1, s.1) w.0), rw (r.1, s.1) w.1)

-- where a triple is worked out for an expression, its nodes are steady, and it is the expression's
pub tried_steady : (vars : List VarInfo) (lets : List Triple) (t : Tree) (a : Triple) → tried vars lets t ≡ Some a → Tried vars lets t a
tried_steady vars lets (Num c) a h = settled_some _ a h
tried_steady vars lets (Input v) a h = settled_some _ a h
tried_steady vars lets (Name j) a h = (tt, cc)
tried_steady vars lets (Neg e) a h = tried_steady vars lets e a h
tried_steady vars lets (Add e f) a h = two_tried vars lets e f added a (tried_steady vars lets e) (tried_steady vars lets f) h
tried_steady vars lets (Sub e f) a h = two_tried vars lets e f added a (tried_steady vars lets e) (tried_steady vars lets f) h
tried_steady vars lets (Mul e f) a h = two_tried vars lets e f multiplied a (tried_steady vars lets e) (tried_steady vars lets f) h
tried_steady vars lets (Pow e n) a h =
    let w = next_some (tried vars lets e) (λ (b : Triple). power_tried b n) a h in
    let r = tried_steady vars lets e w.0 w.1 in
    let p = tried_powers w.0 a n w.2 in
    let z : ArePowersSteady (triple vars lets e) n = rw r.1 p.0 in
    let i : powered (triple vars lets e) n ≡ a = rw r.1 p.1 in
    ((r.0, z), i)

-- ---- lets

-- where the nodes of the lets are steady, their triples are worked out
pub steady_lets_tried : (vars : List VarInfo) (done : List Triple) (ts : List Tree) → AreLetsSteady vars done ts
    → lets_tried vars done ts ≡ Some (let_triples vars done ts)
steady_lets_tried vars done [] s = refl
steady_lets_tried vars done (t ∷ ts) s = rw (steady_tried vars done t s.0) (steady_lets_tried vars (done ++ (triple vars done t ∷ [])) ts s.1)

-- the nodes of the lets are steady, and these are their triples
abbrev pub LetsTried : List VarInfo → List Triple → List Tree → List Triple → Type 0
LetsTried vars done ts xs = AreLetsSteady vars done ts × (let_triples vars done ts ≡ xs)

-- where triples are worked out for the lets, their nodes are steady, and these are the triples of the lets
pub lets_tried_steady : (vars : List VarInfo) (done : List Triple) (ts : List Tree) (xs : List Triple) → lets_tried vars done ts ≡ Some xs
    → LetsTried vars done ts xs
lets_tried_steady vars done [] xs h = (tt, cc)
lets_tried_steady vars done (t ∷ ts) xs h =
    let w = next_some (tried vars done t) (λ (a : Triple). lets_tried vars (done ++ (a ∷ [])) ts) xs h in
    let s = tried_steady vars done t w.0 w.1 in
    let q : lets_tried vars (done ++ (triple vars done t ∷ [])) ts ≡ Some xs = rw s.1 w.2 in
    let r = lets_tried_steady vars (done ++ (triple vars done t ∷ [])) ts xs q in
    ((s.0, r.0), r.1)

-- ---- which predicates have a filter

-- a predicate has a filter where triples are worked out for its lets and its sign expression
pub has_filter : (vars : List VarInfo) (lets : List Tree) (root : Tree) (ts : List Triple) (a : Triple) → Some ts ≡ lets_tried vars [] lets
    → Some a ≡ tried vars ts root → HasFilter vars lets root
has_filter vars lets root ts a h k =
    let l = lets_tried_steady vars [] lets ts (sym h) in
    let r = tried_steady vars ts root a (sym k) in
    record { lets_steady = l.0; root_steady = rw l.1 r.0 }

-- a predicate has no filter where no triples are worked out for its lets
pub no_lets_filter : (vars : List VarInfo) (lets : List Tree) (root : Tree) → None ≡ lets_tried vars [] lets → HasFilter vars lets root → ⊥
no_lets_filter vars lets root h f = let e : None ≡ Some (let_triples vars [] lets) = h ∙ steady_lets_tried vars [] lets f.lets_steady in cc

-- nor where no triple is worked out for its sign expression
pub no_root_filter : (vars : List VarInfo) (lets : List Tree) (root : Tree) (ts : List Triple) → Some ts ≡ lets_tried vars [] lets
    → None ≡ tried vars ts root → HasFilter vars lets root → ⊥
no_root_filter vars lets root ts h k f =
    let l = lets_tried_steady vars [] lets ts (sym h) in
    let s : AreSteady vars ts root = rw l.1 at f.root_steady in
    let e : None ≡ Some (triple vars ts root) = k ∙ steady_tried vars ts root s in
    cc

-- ---- 31 bits

-- a triple that is steady after its cut is small
pub trimmed_small : (a : Triple) → IsSteady (trimmed a) → IsSmall (trimmed a)
trimmed_small a s =
    let h = excess_leaves a.h in
    let e = s.error in
    let k = s.power in
    record { power = k; size = h; error = omega arith }

-- the power of what has a small triple has one, where the products on the way are steady
pub powered_small : (a : Triple) (n : ℕ) → IsSmall a → ArePowersSteady a n → IsSmall (powered a n)
powered_small a zero s p = trimmed_small (whole 1) one_steady
powered_small a (suc zero) s p = s
powered_small a (suc (suc n)) s p = trimmed_small _ (p (suc (suc n)) (omega arith) (omega arith))

-- each of small triples is small, and so is the one that is read past the end
small_at : (ts : List Triple) (j : ℕ) → All IsSmall ts → IsSmall (slice_index_or ts j no_triple)
small_at [] j s = record { power = omega arith; size = omega arith; error = omega arith }
small_at (a ∷ ts) zero s = All-head IsSmall a ts s
small_at (a ∷ ts) (suc j) s = small_at ts j (All-tail IsSmall a ts s)

-- the triple of an expression with steady nodes is small, where those of the lets are
pub triple_small : (vars : List VarInfo) (lets : List Triple) (t : Tree) → All IsSmall lets → AreSteady vars lets t → IsSmall (triple vars lets t)
triple_small vars lets (Num c) g s = trimmed_small _ s
triple_small vars lets (Input v) g s = trimmed_small _ s
triple_small vars lets (Name j) g s = small_at lets j g
triple_small vars lets (Neg e) g s = triple_small vars lets e g s
triple_small vars lets (Add e f) g s = trimmed_small _ s.2
triple_small vars lets (Sub e f) g s = trimmed_small _ s.2
triple_small vars lets (Mul e f) g s = trimmed_small _ s.2
triple_small vars lets (Pow e n) g s = powered_small (triple vars lets e) n (triple_small vars lets e g s.0) s.1
