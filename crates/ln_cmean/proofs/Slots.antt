-- The declarations that are seen, with one more and with a number.
use Rattle.std.proofs.Common.{◌≡◌, ℕ, zero, suc, ◌+◌, ◌-◌, ◌≤◌, List, [], ◌∷◌, ◌++◌, length, take, map, reverse, Some, None, refl, sym, ap, ◌∙◌, arith}
use Rattle.std.specs.Prelude.{slice_get, slice_set, ℤ}
use Rattle.std.proofs.lemmas.List.{take_all, take_more, set_split, drop_all, reverse-append}
use Rattle.std.proofs.lemmas.Option.{get_or_from_slice_get}
use Rattle.ln_cmean.specs.declared.slot.Slot.{Slot}
use Rattle.ln_csyn.specs.Meaning.{Counts}
use Rattle.ln_csyn.specs.declared.tree.CType.{CType}
use Rattle.ln_csyn.specs.Tree.{Expr, Body, Decl}
use Rattle.ln_csyn.specs.Meaning.{Seen, Scene, Outcome, Wrong, wanted, value_of, runs}
use Rattle.ln_cmean.specs.declared.stack.Stack.{Stack}
use Rattle.ln_cmean.specs.Room.{IsSame}
use Rattle.ln_cmean.specs.Slots.{shown, seen, seen_from}

-- the same declarations are seen
pub seen_same : (old new : Stack) → IsSame old new → seen new ≡ seen old
seen_same old new s = rw (s.base_same, s.slots_same) refl

-- one more declaration is the innermost
pub pushed : (ds : List Slot) (d : Slot) → reverse (ds ++ d ∷ []) ≡ d ∷ reverse ds
pushed ds d = reverse-append ds (d ∷ [])

-- a declaration that is added is seen last
pub seen_push : (base : ℕ) (ds : List Slot) (d : Slot) → base ≤ length ds → seen_from base (d ∷ ds) ≡ shown d ∷ seen_from base ds
seen_push base ds d l = let n : suc (length ds) - base ≡ suc (length ds - base) = omega arith in rw n refl

-- the innermost declaration with another number
pub seen_set : (base : ℕ) (ds : List Slot) (d e : Slot) (x : Seen) (xs : List Seen) → e.name ≡ d.name → e.kind ≡ d.kind →
    seen_from base (d ∷ ds) ≡ x ∷ xs → seen_from base (e ∷ ds) ≡ record { name = x.name; kind = x.kind; number = e.number } ∷ xs
seen_set base ds d e x xs n k h = by (suc (length ds) - base) h where
  by : (m : ℕ) → map shown (take m (d ∷ ds)) ≡ x ∷ xs → map shown (take m (e ∷ ds)) ≡ record { name = x.name; kind = x.kind; number = e.number } ∷ xs
  by zero h = cc
  by (suc m) h =
      let p : shown d ≡ x = cc in
      let q : map shown (take m ds) ≡ xs = cc in
      rw (← p, ← q, n, k) refl

-- a write at the end
pub last_of : (ds : List Slot) (d : Slot) (n : ℕ) → n + 1 ≡ length ds → slice_get ds n ≡ Some d → ds ≡ take n ds ++ d ∷ []
last_of ds d n l g =
    sym (take_all (n + 1) ds (omega (arith, l))) ∙ take_more ds n d (omega (arith, l)) ∙ ap (λ x. take n ds ++ x ∷ []) (get_or_from_slice_get ds n d d g)

-- a list with another last item is what is before it and that item
pub last_set : (ds : List Slot) (e : Slot) (n : ℕ) → n + 1 ≡ length ds → slice_set ds n e ≡ take n ds ++ e ∷ []
last_set ds e n l = set_split ds n e (omega (arith, l)) ∙ ap (λ t. take n ds ++ e ∷ t) (drop_all (suc n) ds (omega (arith, l)))

-- a declaration whose expression has a number of its type
pub declared : (sc : Scene) (l : ℕ) (t : CType) (x : List ℕ) (e : Expr) (rest : Body) (ds inside after : List Seen) (k j : Counts) (z : ℤ) →
    inside ≡ record { name = x; kind = t; number = None } ∷ ds → after ≡ record { name = x; kind = t; number = Some z } ∷ ds →
    ((go : ℤ → Counts → Outcome) → wanted l t (value_of sc inside e k) go ≡ go z j) →
    runs sc ds (Decl l t x e rest) k ≡ runs sc after rest j
declared sc l t x e rest ds inside after k j z i a h = rw (← i, a) (h (λ y i. runs sc (record { name = x; kind = t; number = Some y } ∷ ds) rest i))

-- one whose expression has none
pub not_declared : (sc : Scene) (l m : ℕ) (t : CType) (x : List ℕ) (e : Expr) (rest : Body) (ds inside : List Seen) (k : Counts) →
    inside ≡ record { name = x; kind = t; number = None } ∷ ds →
    ((go : ℤ → Counts → Outcome) → wanted l t (value_of sc inside e k) go ≡ Wrong m) →
    runs sc ds (Decl l t x e rest) k ≡ Wrong m
not_declared sc l m t x e rest ds inside k i h = rw (← i) (h (λ y i. runs sc (record { name = x; kind = t; number = Some y } ∷ ds) rest i))
