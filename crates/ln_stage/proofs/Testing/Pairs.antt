-- Proves the test of two neighbouring sites, and of all neighbours.
use Rattle.std.proofs.Common.{◌≡◌, ℕ, suc, ◌+◌, ◌<◌, ◌≤◌, sym, ◌∙◌, ap, subst, arith, List, length, Bool, true, false, All, ◌⊎◌, inl, inr}
use Rattle.std.specs.Bool.{Decides}
use Rattle.std.proofs.lemmas.Bool.{cases_lt}
use Rattle.ln_algebra.specs.Coefficient.{normal_coefficient}
use Rattle.ln_algebra.specs.Exchange.{Turns}
use Rattle.ln_algebra.specs.Tree.{Tree}
use Rattle.ln_algebra.proofs.Exchanging.Vectors.{exchanged-same}
use Rattle.ln_tree.specs.declared.shape.VarInfo.{VarInfo}
use Rattle.ln_tree.specs.Variables.{is_laid_out}
use Rattle.ln_order.specs.Exchanged.{AreShifted, IsShift, shift_of}
use Rattle.ln_order.proofs.Exchanging.Shifted.{alike-shifted}
use Rattle.ln_order.proofs.Exchanging.Shifts.{shifts-alike}
use Rattle.ln_poly.specs.Sparse.{Sparse}
use Rattle.ln_stage.specs.declared.symmetry.Symmetry.{Symmetry}
use Rattle.ln_stage.specs.declared.symmetry.Symmetry.TheVariants.{Alternating, Symmetric}
use Rattle.ln_stage.specs.Symmetry.{HasPartner, HasSymmetry, LacksSymmetry, PairNeverTurns, PairTurns, neighbour_partners, turn_of}
use Rattle.ln_stage.proofs.Testing.Terms.{all_turn, turn_all}

-- ---- two sites
-- A shift under which each term has a partner turns the polynomial by the sign of the symmetry.
pub pair_yes : (vars : List VarInfo) (j d : ℕ) (y : Symmetry) (f : Sparse) (a b : Bool) → d ≡ shift_of vars j → Decides a (IsShift vars j d) → a ≡ true
    → Decides b (All (λ t. HasPartner vars j d y f t) f) → b ≡ true → PairTurns vars j y f
pair_yes vars j d y f a b q x p z r = λ e normal.
    let shift : IsShift vars j (shift_of vars j) = subst (IsShift vars j) q (x.0 p) in
    let all : All (λ t. HasPartner vars j (shift_of vars j) y f t) f = subst (λ k. All (λ t. HasPartner vars j k y f t) f) q (z.0 r) in
    (shifts-alike vars j (shift_of vars j) shift, all_turn vars j (shift_of vars j) y f shift e normal all)

-- turning by other partners is turning by these, which are the same
turns-too : (vars : List VarInfo) (j : ℕ) (partner : ℕ → ℕ) (y : Symmetry) (e : Tree) → AreShifted vars j partner → Turns (length vars) partner (turn_of y) e
    → Turns (length vars) (neighbour_partners vars j) (turn_of y) e
turns-too vars j partner y e a t = record {
  turn = t.turn;
  each = λ m l. ap (normal_coefficient e) (exchanged-same (neighbour_partners vars j) partner m (λ v. sym (a.partners v))) ∙ t.each m l;
}

-- Sites that are no shift apart are of no one type, so no exchange of them turns the polynomial.
pub pair_unlike : (sites : ℕ) (vars : List VarInfo) (j d : ℕ) (y : Symmetry) (f : Sparse) (a : Bool) → is_laid_out sites vars ≡ true → suc j < sites
    → d ≡ shift_of vars j → Decides a (IsShift vars j d) → a ≡ false → PairNeverTurns vars j y f
pair_unlike sites vars j d y f a laid l q x p = λ e normal partner alike turns.
    let s = alike-shifted sites vars j partner laid l alike in
    let z : true ≡ false = sym (x.1 (subst (IsShift vars j) (sym q) s.shift)) ∙ p in cc

-- Where a term has no partner, no exchange of the two sites turns the polynomial.
pub pair_no : (sites : ℕ) (vars : List VarInfo) (j d : ℕ) (y : Symmetry) (f : Sparse) (b : Bool) → is_laid_out sites vars ≡ true → suc j < sites
    → d ≡ shift_of vars j → Decides b (All (λ t. HasPartner vars j d y f t) f) → b ≡ false → PairNeverTurns vars j y f
pair_no sites vars j d y f b laid l q x p = λ e normal partner alike turns.
    let s = alike-shifted sites vars j partner laid l alike in
    let all : All (λ t. HasPartner vars j (shift_of vars j) y f t) f =
    turn_all vars j (shift_of vars j) y f s.shift e normal (turns-too vars j partner y e s turns) in
    let z : true ≡ false = sym (x.1 (subst (λ k. All (λ t. HasPartner vars j k y f t) f) (sym q) all)) ∙ p in cc

-- ---- all neighbours
-- those before the pair of site n - 1 and n turn
abbrev pub TurnsTo : ℕ → List VarInfo → Symmetry → Sparse → Type 0
TurnsTo n vars y f = (j : ℕ) → suc j < n → PairTurns vars j y f

-- Of one site there is nothing to exchange.
pub turns_none : (vars : List VarInfo) (y : Symmetry) (f : Sparse) → TurnsTo 1 vars y f
turns_none vars y f = λ j l. absurd (omega (arith, l))

-- The next pair of neighbours is added to those that turn the polynomial.
pub turns_more : (n i : ℕ) (vars : List VarInfo) (y : Symmetry) (f : Sparse) → n ≡ suc i → PairTurns vars i y f → TurnsTo n vars y f → TurnsTo (n + 1) vars y f
turns_more n i vars y f q p t = λ j l. by_place j l (cases_lt (suc j) n) where
  by_place : (j : ℕ) → suc j < n + 1 → (suc j < n) ⊎ (n ≤ suc j) → PairTurns vars j y f
  by_place j l (inl m) = t j m
  by_place j l (inr m) = let e : i ≡ j = omega (arith, l, m, q) in subst (λ k. PairTurns vars k y f) e p

-- Where all pairs of neighbours turn it, the polynomial has the symmetry.
pub turns_all : (n sites : ℕ) (vars : List VarInfo) (y : Symmetry) (f : Sparse) → sites ≤ n → TurnsTo n vars y f → HasSymmetry sites vars y f
turns_all n sites vars y f h t = λ e normal j l. t j (omega (arith, h, l)) e normal

-- One pair of neighbours that never turns it shows that the polynomial lacks the symmetry.
pub never_all : (i sites : ℕ) (vars : List VarInfo) (y : Symmetry) (f : Sparse) → suc i < sites → PairNeverTurns vars i y f → LacksSymmetry sites vars y f
never_all i sites vars y f l n = λ e normal partner both. n e normal (partner i) (both i l).0 (both i l).1

-- neither symmetry is none
pub neither : (sites : ℕ) (vars : List VarInfo) (f : Sparse) → LacksSymmetry sites vars Alternating f → LacksSymmetry sites vars Symmetric f
    → (y : Symmetry) → LacksSymmetry sites vars y f
neither sites vars f a s Alternating = a
neither sites vars f a s Symmetric = s
