-- Proves what is tested of the terms of a polynomial.
use Rattle.std.proofs.Common.{◌≡◌, ◌≢◌, ℕ, zero, suc, ◌+◌, ◌^◌, ◌<◌, ◌≤◌, unsigned_abs, refl, sym, ◌∙◌, ap, subst, arith, List, [], ◌∷◌, length, get_or, take}
use Rattle.std.proofs.Common.{Bool, true, false, All, Contains, ◌⊎◌, inl, inr}
use Rattle.std.specs.Bool.{Decides}
use Rattle.std.proofs.lemmas.Int.{ints}
use Rattle.std.proofs.lemmas.List.{ext_get_or, get_or-map, get_or_default, length-map, take_all}
use Rattle.std.proofs.lemmas.List.Elements.{All-contains, All-map, All-more}
use Rattle.std.proofs.Math.IntN.{ℤ, pos, negsuc, ◌*ℤ◌}
use Rattle.ln_algebra.specs.Exchange.{Turns, exchanged}
use Rattle.ln_algebra.specs.Terms.{IsCollected, Lacks, Term, factor_at, same_vector}
use Rattle.ln_algebra.specs.Tree.{Tree}
use Rattle.ln_algebra.proofs.Exchanging.Tests.{Found, find, found, lacking, lacks-zero, terms-turn}
use Rattle.ln_algebra.proofs.Exchanging.Vectors.{get-listed, length-exchanged, length-listed}
use Rattle.ln_algebra.proofs.Expanded.Normal.{same_vector-is, same_vector-refl}
use Rattle.ln_tree.specs.declared.shape.VarInfo.{VarInfo}
use Rattle.ln_tree.specs.Exps.{Pairs, exponent, vector}
use Rattle.ln_tree.proofs.Powers.{vector-get, vector-length}
use Rattle.ln_order.specs.Exchanged.{IsShift, partner_at}
use Rattle.ln_order.proofs.Exchanging.Shifts.{shifts-alike}
use Rattle.ln_poly.specs.Expansion.{IsNormal}
use Rattle.ln_poly.specs.Sparse.{IsPoly, Sparse, term_of, terms_of}
use Rattle.ln_poly.proofs.Sorting.Collected.{collected}
use Rattle.ln_stage.specs.declared.symmetry.Symmetry.{Symmetry}
use Rattle.ln_stage.specs.declared.symmetry.Symmetry.TheVariants.{Alternating, Symmetric}
use Rattle.ln_stage.specs.Symmetry.{ArePartners, HasPartner, IsPartner, turn_of}

-- ---- exponents
module _ (vars : List VarInfo) (j d : ℕ) (within : (v : ℕ) → v < length vars → partner_at vars j d v < length vars) where
  -- where the exponents of all variables are those of their partners
  are-partners : (t u : Pairs) → ((v : ℕ) → v < length vars → exponent v u ≡ exponent (partner_at vars j d v) t) → ArePartners vars j d t u
  are-partners t u same =
      let n : ℕ = length vars in
      let m : List ℕ = vector n t in
      ext_get_or 0 (vector n u) (exchanged (partner_at vars j d) m)
      (vector-length n u ∙ sym (length-listed (length m) (λ v. get_or m (partner_at vars j d v) 0) ∙ vector-length n t))
      (λ v i. let l : v < length vars = omega (arith, i, vector-length n u) in
      vector-get n v u l ∙ same v l ∙ sym (get-listed (length m) (λ v. get_or m (partner_at vars j d v) 0) v (omega (arith, l, vector-length n t))
      ∙ vector-get n (partner_at vars j d v) t (within v l)))

  -- and back
  partners-each : (t u : Pairs) → ArePartners vars j d t u → (v : ℕ) → v < length vars → exponent v u ≡ exponent (partner_at vars j d v) t
  partners-each t u h v l =
      let n : ℕ = length vars in
      sym (vector-get n v u l) ∙ ap (λ z. get_or z v 0) h
      ∙ get-listed (length (vector n t)) (λ v. get_or (vector n t) (partner_at vars j d v) 0) v (omega (arith, l, vector-length n t))
      ∙ vector-get n (partner_at vars j d v) t (within v l)

-- all exponents are those of their partners
pub partners_all : (vars : List VarInfo) (j d n : ℕ) (t u : Pairs) → ((v : ℕ) → v < length vars → partner_at vars j d v < length vars)
    → length vars ≤ n → ((v : ℕ) → v < n → exponent v u ≡ exponent (partner_at vars j d v) t) → Decides true (ArePartners vars j d t u)
partners_all vars j d n t u within l same = ((λ _. are-partners vars j d within t u (λ v m. same v (omega (arith, l, m)))), (λ _. refl))

-- or one isn't
pub partners_not : (vars : List VarInfo) (j d v a b : ℕ) (t u : Pairs) → ((v : ℕ) → v < length vars → partner_at vars j d v < length vars)
    → v < length vars → a ≡ exponent v u → b ≡ exponent (partner_at vars j d v) t → a ≢ b → Decides false (ArePartners vars j d t u)
partners_not vars j d v a b t u within l x y n =
    ((λ z. cc), (λ h. absurd (n (x ∙ partners-each vars j d within t u h v l ∙ sym y))))

-- ---- factors
-- of equal factors
pub factor_there : (y : Symmetry) (a b x z : ℤ) (r : Bool) → Decides r (b ≡ turn_of y *ℤ a) → a ≡ x → b ≡ z → Decides r (z ≡ turn_of y *ℤ x)
factor_there y a b x z r h p q = subst (λ w. Decides r (w ≡ turn_of y *ℤ x)) q (subst (λ w. Decides r (b ≡ turn_of y *ℤ w)) p h)

-- ---- a partner
-- A term with another factor is no partner.
pub partner_not : (vars : List VarInfo) (j d : ℕ) (y : Symmetry) (t u : Pairs × ℤ) (r : Bool) → Decides r (u.1 ≡ turn_of y *ℤ t.1) → r ≡ false
    → Decides false (IsPartner vars j d y t u)
partner_not vars j d y t u r h e = ((λ z. cc), (λ p. let z : false ≡ true = sym e ∙ h.1 p.factor in cc))

-- A term with the right factor is a partner exactly where its exponents are.
pub partner_by : (vars : List VarInfo) (j d : ℕ) (y : Symmetry) (t u : Pairs × ℤ) (a b : Pairs) (r s : Bool) → Decides r (u.1 ≡ turn_of y *ℤ t.1) → r ≡ true
    → a ≡ t.0 → b ≡ u.0 → Decides s (ArePartners vars j d a b) → Decides s (IsPartner vars j d y t u)
partner_by vars j d y t u a b r s h e p q g = (
  (λ z. record { exponents = subst (λ x. ArePartners vars j d x u.0) p (subst (λ x. ArePartners vars j d a x) q (g.0 z)); factor = h.0 e }),
  (λ i. g.1 (subst (λ x. ArePartners vars j d x b) (sym p) (subst (λ x. ArePartners vars j d t.0 x) (sym q) i.exponents))),
)

-- ---- among terms
-- A partner that was met is one among the terms.
pub partner_found : (vars : List VarInfo) (j d i : ℕ) (y : Symmetry) (f : Sparse) (t u : Pairs × ℤ) (r : Bool) → i < length f → u ≡ get_or f i u
    → Decides r (IsPartner vars j d y t u) → r ≡ true → Decides true (HasPartner vars j d y f t)
partner_found vars j d i y f t u r l e h q = ((λ _. record { other = u; member = (i, l, sym e); is = h.0 q }), (λ _. refl))

-- One more term is no partner.
pub partner_next : (vars : List VarInfo) (j d i : ℕ) (y : Symmetry) (f : Sparse) (t u : Pairs × ℤ) (r : Bool) → i < length f → u ≡ get_or f i u
    → Decides r (IsPartner vars j d y t u) → r ≡ false → All (λ u. IsPartner vars j d y t u → ⊥) (take i f)
    → All (λ u. IsPartner vars j d y t u → ⊥) (take (i + 1) f)
partner_next vars j d i y f t u r l e h q a =
    let n : IsPartner vars j d y t u → ⊥ = λ p. (let z : true ≡ false = sym (h.1 p) ∙ q in cc) in
    All-more (λ u. IsPartner vars j d y t u → ⊥) f i u l a (rw e at n)

-- Where none of all terms is a partner, there is none.
pub partner_none : (vars : List VarInfo) (j d i : ℕ) (y : Symmetry) (f : Sparse) (t : Pairs × ℤ) → length f ≤ i
    → All (λ u. IsPartner vars j d y t u → ⊥) (take i f) → Decides false (HasPartner vars j d y f t)
partner_none vars j d i y f t l a = (
  (λ z. cc),
  (λ p. absurd (All-contains (λ u. IsPartner vars j d y t u → ⊥) f p.other (rw (take_all i f l) at a) p.member p.is)),
)

-- ---- all terms
-- One more term has a partner.
pub partners_more : (vars : List VarInfo) (j d i : ℕ) (y : Symmetry) (f : Sparse) (t : Pairs × ℤ) (r : Bool) → i < length f → t ≡ get_or f i t
    → Decides r (HasPartner vars j d y f t) → r ≡ true → All (λ t. HasPartner vars j d y f t) (take i f)
    → All (λ t. HasPartner vars j d y f t) (take (i + 1) f)
partners_more vars j d i y f t r l e h q a =
    let p : HasPartner vars j d y f t = h.0 q in
    All-more (λ t. HasPartner vars j d y f t) f i t l a (subst (λ u. HasPartner vars j d y f u) e p)

-- All terms have partners at the end of the list.
pub partners_end : (vars : List VarInfo) (j d i : ℕ) (y : Symmetry) (f : Sparse) → length f ≤ i → All (λ t. HasPartner vars j d y f t) (take i f)
    → Decides true (All (λ t. HasPartner vars j d y f t) f)
partners_end vars j d i y f l a = ((λ _. rw (take_all i f l) at a), (λ _. refl))

-- One term without a partner decides that not all have one.
pub partners_missing : (vars : List VarInfo) (j d i : ℕ) (y : Symmetry) (f : Sparse) (t : Pairs × ℤ) (r : Bool) → i < length f → t ≡ get_or f i t
    → Decides r (HasPartner vars j d y f t) → r ≡ false → Decides false (All (λ t. HasPartner vars j d y f t) f)
partners_missing vars j d i y f t r l e h q = (
  (λ z. cc),
  (λ a. let p : HasPartner vars j d y f t = subst (λ u. HasPartner vars j d y f u) (sym e) (a i t l) in
      let z : true ≡ false = sym (h.1 p) ∙ q in cc),
)

-- a factor is within 2^127 - 1
pub factor-small : (f : Sparse) (i : ℕ) (t : Pairs × ℤ) → i < length f → t ≡ get_or f i t → IsPoly f → unsigned_abs t.1 < 2 ^ 127
factor-small f i t l e p = subst (λ (u : Pairs × ℤ). unsigned_abs u.1 < 2 ^ 127) (sym e) (p.factors i t l).1

-- ---- the polynomial
-- each term's factor is the coefficient
each-factor : (f : List Term) → IsCollected f → All (λ t. factor_at f t.exponents ≡ t.factor) f
each-factor [] c k d l = absurd (omega (arith, l))
each-factor (t ∷ f) c zero d l = rw (same_vector-refl t.exponents) (omega (arith, ints, lacks-zero f t.exponents c.0))
each-factor (t ∷ f) c (suc k) d l =
    let h : k < length f = omega (arith, l) in
    other (get_or f k d) (lacks f t.exponents c.0 k d h) (each-factor f c.1 k d h) where
      lacks : (f : List Term) (m : List ℕ) → Lacks f m → (k : ℕ) (d : Term) → k < length f → same_vector (get_or f k d).exponents m ≡ false
      lacks [] m h k d l = absurd (omega (arith, l))
      lacks (u ∷ f) m h zero d l = h.0
      lacks (u ∷ f) m h (suc k) d l = lacks f m h.1 k d (omega (arith, l))

      other : (u : Term) → same_vector u.exponents t.exponents ≡ false → factor_at f u.exponents ≡ u.factor → factor_at (t ∷ f) u.exponents ≡ u.factor
      other u n e = by_case (same_vector t.exponents u.exponents) refl where
        by_case : (b : Bool) → same_vector t.exponents u.exponents ≡ b → factor_at (t ∷ f) u.exponents ≡ u.factor
        by_case false q = rw q (omega (arith, ints, e))
        by_case true q =
            let s : t.exponents ≡ u.exponents = same_vector-is t.exponents u.exponents q in
            let z : same_vector u.exponents t.exponents ≡ true = ap (λ m. same_vector m t.exponents) (sym s) ∙ same_vector-refl t.exponents in
            absurd (let y : false ≡ true = sym n ∙ z in cc)

is-turn : (y : Symmetry) → (turn_of y ≡ pos 1) ⊎ (turn_of y ≡ negsuc 0)
is-turn Symmetric = inl refl
is-turn Alternating = inr refl

-- 1 or -1 times a number that isn't 0 isn't 0
turned-some : (y : Symmetry) (z : ℤ) → z ≢ pos 0 → turn_of y *ℤ z ≢ pos 0
turned-some Symmetric z h = λ e. h (omega (arith, ints, e))
turned-some Alternating z h = λ e. h (omega (arith, ints, e))

module _ (vars : List VarInfo) (j d : ℕ) (y : Symmetry) (f : Sparse) (shift : IsShift vars j d) (e : Tree) (normal : IsNormal (length vars) e f) where
  abbrev F : List Term
  F = terms_of (length vars) f

  abbrev P : ℕ → ℕ
  P = partner_at vars j d

  are-collected : IsCollected F
  are-collected = collected (length vars) f normal.form normal.below

  factors : All (λ (t : Pairs × ℤ). factor_at F (vector (length vars) t.0) ≡ t.1) f
  factors k z l =
      ap (λ (t : Term). factor_at F t.exponents) (sym (get_or-map (term_of (length vars)) f k z (term_of (length vars) z) l))
      ∙ each-factor F are-collected k (term_of (length vars) z) (omega (arith, l, length-map f (term_of (length vars))))
      ∙ ap (λ (t : Term). t.factor) (get_or-map (term_of (length vars)) f k z (term_of (length vars) z) l)

  -- where each term has its partner, the normal coefficients turn
  pub all_turn : All (λ t. HasPartner vars j d y f t) f → Turns (length vars) P (turn_of y) e
  all_turn all =
      let n : ℕ = length vars in
      let a = shifts-alike vars j d shift in
      terms-turn n P (turn_of y) e F a.within a.twice (is-turn y) normal.normal are-collected
      (All-map (λ (t : Term). factor_at F (exchanged P t.exponents) ≡ turn_of y *ℤ t.factor) (term_of n) f
      (λ k z l. let h = all k z l in
      ap (factor_at F) (sym h.is.exponents) ∙ All-contains (λ (t : Pairs × ℤ). factor_at F (vector n t.0) ≡ t.1) f h.other factors h.member ∙ h.is.factor))

  -- a term over the variables is one of the polynomial's
  abbrev IsOne : Term → Type 0
  IsOne t = (u : Pairs × ℤ) × Contains f u × (term_of (length vars) u ≡ t)

  all-ones : All IsOne F
  all-ones = All-map IsOne (term_of (length vars)) f (λ k z l. (get_or f k z, (k, l, get_or_default f k (get_or f k z) z l), refl))

  -- and where they turn, each term has its partner
  pub turn_all : Turns (length vars) P (turn_of y) e → All (λ t. HasPartner vars j d y f t) f
  turn_all turns k z l =
      let n : ℕ = length vars in
      let t : Pairs × ℤ = get_or f k z in
      let m : List ℕ = vector n t.0 in
      let a = shifts-alike vars j d shift in
      let size : length m ≡ n = vector-length n t.0 in
      let there : factor_at F (exchanged P m) ≡ turn_of y *ℤ t.1 =
      normal.normal.coefficients (exchanged P m) (length-exchanged n P a.within a.twice m ∙ size) ∙ turns.each m size
      ∙ ap (λ w. turn_of y *ℤ w) (sym (normal.normal.coefficients m size) ∙ factors k z l) in
      by_found t there (turned-some y t.1 (normal.form.factors k z l).0) (find IsOne F (exchanged P m) are-collected all-ones) where
        by_found : (t : Pairs × ℤ) → factor_at F (exchanged P (vector (length vars) t.0)) ≡ turn_of y *ℤ t.1 → turn_of y *ℤ t.1 ≢ pos 0
            → Found IsOne F (exchanged P (vector (length vars) t.0)) → HasPartner vars j d y f t
        by_found t h some (lacking i) = absurd (some (sym h ∙ lacks-zero F (exchanged P (vector (length vars) t.0)) i))
        by_found t h some (found u q c one) =
            let w : Pairs × ℤ = one.0 in
            let same : term_of (length vars) w ≡ u = one.2 in
            record {
              other = w;
              member = one.1;
              is = record {
                exponents = ap (λ (r : Term). r.exponents) same ∙ q;
                factor = ap (λ (r : Term). r.factor) same ∙ sym c ∙ h;
              };
            }
