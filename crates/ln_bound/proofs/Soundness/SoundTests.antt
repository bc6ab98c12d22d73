-- Soundness is what the tests of soundness test.
use Rattle.std.proofs.Common.{◌≡◌, ℕ, ℤ, true, List, [], ◌∷◌, ◌++◌, refl, arith}
use Rattle.std.specs.Prelude.{Option, Some, None, slice_get, int_le, ◌≤ℤ◌}
use Rattle.std.proofs.lemmas.Int.{ints}
use Rattle.ln_algebra.specs.Sizes.{one}
use Rattle.ln_algebra.specs.Tree.{Tree, Num, Input, Name, Neg, Add, Sub, Mul, Pow}
use Rattle.ln_tree.specs.declared.shape.VarInfo.{VarInfo}
use Rattle.ln_interval.specs.Range.{Range, Holds, Covers, opposite, power}
use Rattle.ln_bound.specs.declared.fitted.Width.{Width}
use Rattle.ln_bound.specs.Sound.{AreSound, CoversLet, IsIn, Sound, SoundNodes, are_sound, covers, covers_let, has_room, holds, is_in}
use Rattle.ln_bound.specs.Sound.{is_sound, running, sound_nodes}
use Rattle.ln_bound.specs.Typed.{Typed, TNum, TInput, TLet, TNeg, TTwo, TPow, pair, range_of, untyped}
use Rattle.ln_bound.specs.Ranges.{ranges}
use Rattle.ln_bound.specs.Room.{HasRoom}
use Rattle.ln_bound.proofs.Soundness.WidthLaws.{both_true, test_le, test_lt}

test_int : (a b : ℤ) → a ≤ℤ b → int_le a b ≡ true
test_int a b h = grind (arith, ints, h)

test_holds : (p : Range) (z : ℤ) → Holds p z → holds p z ≡ true
test_holds p z h = both_true _ _ (test_int _ _ h.0) (test_int _ _ h.1)

test_covers : (p q : Range) → Covers p q → covers p q ≡ true
test_covers p q h = both_true _ _ (test_int _ _ h.0) (test_int _ _ h.1)

test_in : (p : Range) (w : Width) → IsIn p w → is_in p w ≡ true
test_in p w h = both_true _ _ (test_int _ _ h.0) (test_le _ _ h.1)

test_let : (o : Option Typed) (p : Range) (w : Width) → CoversLet o p w → covers_let o p w ≡ true
test_let None p w h = absurd h
test_let (Some u) p w h = both_true _ _ (test_covers p (pair u) h.0) h.1

-- sound nodes pass the test
test_nodes : (vars : List VarInfo) (lets : List Typed) (t : Typed) → SoundNodes vars lets t → sound_nodes vars lets t ≡ true
test_nodes vars lets (TNum c p w) h = both_true _ _ (test_holds p c h.0) (test_in p w h.1)
test_nodes vars lets (TInput v p w) h = both_true _ _ (both_true _ _ (test_lt _ _ h.0) (test_covers p (ranges vars v) h.1)) (test_in p w h.2)
test_nodes vars lets (TLet j p w) h = both_true _ _ (test_let (slice_get lets j) p w h.0) (test_in p w h.1)
test_nodes vars lets (TNeg t p w) h =
    both_true _ _ (both_true _ _ (both_true _ _ (test_nodes vars lets t h.0) (test_covers p (opposite (pair t)) h.1)) (test_in p w h.2)) h.3
test_nodes vars lets (TTwo k s t p w) h = both_true _ _ (both_true _ _ (both_true _ _ (both_true _ _
    (both_true _ _ (test_nodes vars lets s h.0) (test_nodes vars lets t h.1)) (test_covers p (range_of k (pair s) (pair t)) h.2)) (test_in p w h.3)) h.4) h.5
test_nodes vars lets (TPow t n p w) h =
    both_true _ _ (both_true _ _ (both_true _ _ (test_nodes vars lets t h.0) (test_covers p (power (pair t) n) h.1)) (test_in p w h.2)) h.3

test_room : (ss : List ℕ) (e : Tree) → HasRoom one ss e → has_room ss e ≡ true
test_room ss (Num c) h = test_le _ _ h
test_room ss (Input v) h = test_le _ _ h
test_room ss (Name j) h = test_le _ _ h
test_room ss (Neg e) h = both_true _ _ (test_room ss e h.0) (test_le _ _ h.1)
test_room ss (Add e f) h = both_true _ _ (both_true _ _ (test_room ss e h.0) (test_room ss f h.1)) (test_le _ _ h.2)
test_room ss (Sub e f) h = both_true _ _ (both_true _ _ (test_room ss e h.0) (test_room ss f h.1)) (test_le _ _ h.2)
test_room ss (Mul e f) h = both_true _ _ (both_true _ _ (test_room ss e h.0) (test_room ss f h.1)) (test_le _ _ h.2)
test_room ss (Pow e n) h = both_true _ _ (test_room ss e h.0) (test_le _ _ h.1)

-- so does a sound tree, and so do sound lets
pub test_sound : (vars : List VarInfo) (lets : List Typed) (t : Typed) → Sound vars lets t → is_sound vars lets t ≡ true
test_sound vars lets t h = both_true _ _ (both_true _ _ (test_nodes vars lets t h.nodes) (test_room (running lets) (untyped t) h.sizes)) (test_le _ _ h.deep)

-- sound lets pass the test of soundness
pub test_sounds : (vars : List VarInfo) (done ts : List Typed) → AreSound vars done ts → are_sound vars done ts ≡ true
test_sounds vars done [] h = refl
test_sounds vars done (t ∷ ts) h = both_true _ _ (test_sound vars done t h.0) (test_sounds vars (done ++ t ∷ []) ts h.1)
