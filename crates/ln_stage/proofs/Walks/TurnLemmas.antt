-- Listing in turn: one part, and after it another, unless the cut ended the first.
use Rattle.std.proofs.Common.{◌≡◌, ◌∙◌, ◌<◌, ℕ, Bool, true, false, List, [], ◌∷◌, ◌++◌, length, refl, sym, ap, subst, arith, append_assoc}
use Rattle.std.proofs.lemmas.List.{append-nil}
use Rattle.ln_algebra.specs.Walk.{Found, before, unless_none}
use Rattle.ln_poly.specs.Sparse.{Sparse}
use Rattle.ln_stage.specs.Tally.{EndsAs, IsOver, IsStoppedBy, Tallied, see_all}
use Rattle.ln_stage.specs.declared.stop.StageStop.{StageStop}
use Rattle.ln_stage.specs.declared.stop.StageStop.TheVariants.{Zero, Stages, NoMemory}
use Rattle.ln_stage.proofs.Walks.StepLemmas.{over-more, see_all-append}

-- another cause, where the one implies the other
pub stopped-more : (e : StageStop) {P Q : Type 0} → (P → Q) → IsStoppedBy e P → IsStoppedBy e Q
stopped-more Zero f h = h
stopped-more Stages f h = f h
stopped-more (NoMemory m) f h = tt

-- where there is a vector, the test for none changes nothing
pub unless_some : (ms : List (List ℕ)) (r : Found) → 0 < length ms → unless_none ms r ≡ r
unless_some [] r h = absurd (omega arith)
unless_some (m ∷ ms) r h = refl

-- without any vector nothing is found
pub unless_empty : (ms : List (List ℕ)) (r : Found) → length ms ≡ 0 → unless_none ms r ≡ ([], false)
unless_empty [] r h = refl
unless_empty (m ∷ ms) r h = absurd (omega arith)

-- after the cut nothing is found, and else what was found goes on
before-cut : (r s : Found) → r.1 ≡ true → before r s ≡ r
before-cut (l, true) s h = refl
before-cut (l, false) s h = cc

before-on : (r s : Found) → r.1 ≡ false → before r s ≡ (r.0 ++ s.0, s.1)
before-on (l, true) s h = cc
before-on (l, false) s h = refl

-- nothing after it
pub before-end : (r : Found) → before r ([], false) ≡ r
before-end (l, true) = refl
before-end (l, false) = ap (λ z. (z, false)) (append-nil l)

-- three parts in turn
pub before-assoc : (r s t : Found) → before (before r s) t ≡ before r (before s t)
before-assoc (l, true) s t = refl
before-assoc (l, false) (m, true) t = refl
before-assoc (l, false) (m, false) t = ap (λ z. (z, t.1)) (append_assoc l m t.0)

before-over : (n : ℕ) (f : Sparse) (t : Tallied) (r s : Found) → IsOver (see_all n f t r.0) → IsOver (see_all n f t (before r s).0)
before-over n f t (l, true) s o = o
before-over n f t (l, false) s o = subst IsOver (sym (see_all-append n f t l s.0)) (over-more n f (see_all n f t l) s.0 o)

-- the same is found
pub ends-same : {n : ℕ} {f : Sparse} {t : Tallied} {r s : Found} → r ≡ s → EndsAs n f t r t s
ends-same {n} {f} {t} e = record { seen = ap (λ z. see_all n f t z.0) e; cut = ap (λ z. z.1) e }

-- what remains is put in another form
pub ends-left : {n : ℕ} {f : Sparse} {u t : Tallied} {r s all : Found} → r ≡ s → EndsAs n f u r t all → EndsAs n f u s t all
ends-left {n} {f} {u} {t} {all = all} e h = subst (λ z. EndsAs n f u z t all) e h

-- so is the whole
pub ends-whole : {n : ℕ} {f : Sparse} {u t : Tallied} {r s rest : Found} → r ≡ s → EndsAs n f u rest t r → EndsAs n f u rest t s
ends-whole {n} {f} {u} {t} {rest = rest} e h = subst (λ z. EndsAs n f u rest t z) e h

-- over n variables, `here` and then `later` are all; m is n in another form
pub record Turn (m n : ℕ) (here later all : Found) : Type 0 where
  pub size : m ≡ n
  pub next : all ≡ before here later

-- where listing the first part stops, so does listing the whole: a limit that is exceeded stays so
pub turn-over : {m n : ℕ} {f : Sparse} {here later all whole : Found} {u t : Tallied} (x : StageStop) → Turn m n here later all
    → EndsAs n f u all t whole → IsStoppedBy x (IsOver (see_all m f u here.0)) → IsStoppedBy x (IsOver (see_all n f t whole.0))
turn-over {m} {n} {f} {here} {later} {u = u} x w i o = stopped-more x (λ z. subst IsOver (ap (λ y. see_all n f u y.0) (sym w.next) ∙ i.seen)
    (before-over n f u here later (subst IsOver (ap (λ k. see_all k f u here.0) w.size) z))) o

-- where the cut ends the first part, it ends the whole
pub turn-cut : {m n : ℕ} {f : Sparse} {here later all whole : Found} {u t v : Tallied} {stop : Bool} → Turn m n here later all
    → EndsAs n f u all t whole → EndsAs m f v ([], stop) u here → stop ≡ true → EndsAs n f v ([], true) t whole
turn-cut {m} {n} {f} {here} {later} {u = u} w i h c =
    let a = w.next ∙ before-cut here later (sym h.cut ∙ c) in
    record {
      seen = h.seen ∙ ap (λ k. see_all k f u here.0) w.size ∙ ap (λ y. see_all n f u y.0) (sym a) ∙ i.seen;
      cut = sym c ∙ h.cut ∙ ap (λ y. y.1) (sym a) ∙ i.cut;
    }

-- where it doesn't, the second part comes to the same end
pub turn-more : {m n : ℕ} {f : Sparse} {here later all whole : Found} {u t v : Tallied} {stop : Bool} → Turn m n here later all
    → EndsAs n f u all t whole → EndsAs m f v ([], stop) u here → stop ≡ false → EndsAs n f v later t whole
turn-more {m} {n} {f} {here} {later} {u = u} w i h c =
    let a = w.next ∙ before-on here later (sym h.cut ∙ c) in
    record {
      seen = ap (λ z. see_all n f z later.0) (h.seen ∙ ap (λ k. see_all k f u here.0) w.size) ∙ sym (see_all-append n f u here.0 later.0)
          ∙ ap (λ y. see_all n f u y.0) (sym a) ∙ i.seen;
      cut = ap (λ y. y.1) (sym a) ∙ i.cut;
    }

-- one part more is listed, where no cut was before it
pub behind-listed : {n : ℕ} {f : Sparse} {front here : Found} {u t v : Tallied} {stop : Bool} → EndsAs n f u ([], false) t front
    → EndsAs n f v ([], stop) u here → EndsAs n f v ([], stop) t (before front here)
behind-listed {n} {f} {front} {here} {u} {t} i h =
    let a = before-on front here (sym i.cut) in
    record {
      seen = h.seen ∙ ap (λ z. see_all n f z here.0) i.seen ∙ sym (see_all-append n f t front.0 here.0) ∙ ap (λ y. see_all n f t y.0) (sym a);
      cut = h.cut ∙ ap (λ y. y.1) (sym a);
    }

-- the cut ends all that would come after it
pub cut-listed : {n : ℕ} {f : Sparse} {front : Found} {u t : Tallied} (rest : Found) → EndsAs n f u ([], true) t front
    → EndsAs n f u ([], true) t (before front rest)
cut-listed {front = front} rest i = ends-whole (sym (before-cut front rest (sym i.cut))) i

-- where one part more stops the listing, it is stopped
pub stops-behind : {n : ℕ} {f : Sparse} {front : Found} {u t : Tallied} (here rest : Found) (x : StageStop) → EndsAs n f u ([], false) t front
    → IsStoppedBy x (IsOver (see_all n f u here.0)) → IsStoppedBy x (IsOver (see_all n f t (before (before front here) rest).0))
stops-behind {n} {f} {front} {u} {t} here rest x i o = stopped-more x (λ z. before-over n f t (before front here) rest (subst IsOver
    (ap (λ y. see_all n f y here.0) i.seen ∙ sym (see_all-append n f t front.0 here.0)
    ∙ ap (λ y. see_all n f t y.0) (sym (before-on front here (sym i.cut)))) z)) o
