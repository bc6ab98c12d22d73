-- What is expanded, one node after the other.
use Rattle.std.proofs.Common.{◌≡◌, ℕ, ◌<◌, ◌≤◌, zero, suc, refl, sym, ◌∙◌, ap, arith, subst, All, List, [], ◌∷◌, ◌++◌, ◌*◌, ◌^◌, append_assoc, ◌⊎◌, inl, inr}
use Rattle.std.proofs.lemmas.Bool.{cases_lt}
use Rattle.std.proofs.Math.IntN.{pos}
use Rattle.std.proofs.Math.Nat.{pow-suc}
use Rattle.ln_base.specs.declared.span.Span.{Span}
use Rattle.ln_algebra.specs.Tree.{Mul, Pow, Tree}
use Rattle.ln_poly.specs.declared.expansion.PolyStop.{PolyStop}
use Rattle.ln_poly.specs.declared.expansion.PolyStop.TheVariants.{Terms, NoMemory}
use Rattle.ln_algebra.specs.Weights.{weight}
use Rattle.ln_bound.specs.Light.{most}
use Rattle.ln_bound.proofs.Measures.Fitting.{lower}
use Rattle.ln_poly.specs.Sparse.{Sparse, size_of}
use Rattle.ln_poly.specs.Rows.{PowersFit}
use Rattle.ln_poly.specs.Expansion.{HaveFewTerms, IsNormal, IsTermsFault, powers}
use Rattle.ln_poly.specs.Ready.{Expands, HasPower}
use Rattle.ln_poly.specs.Stop.{StopsExpanding}
use Rattle.ln_poly.proofs.TermLists.Leaves.{one-term}
use Rattle.ln_poly.proofs.Expansions.Normals.{number-some, power-many, power-many-back, power-more, power-none}
use Rattle.ln_poly.proofs.Loads.Room.{product-powers, product-room}

-- what is expanded: trees, each with its place in the text
abbrev pub Nodes : Type 0
Nodes = List (Span × Tree)

-- none of either has too many terms
pub few-both : (n : ℕ) (xs ys : Nodes) → HaveFewTerms n xs → HaveFewTerms n ys → HaveFewTerms n (xs ++ ys)
few-both n [] ys h g = g
few-both n (x ∷ xs) ys h g = (h.0, few-both n xs ys h.1 g)

-- the first that has too many stays the first where more follow
pub stop-before : (n : ℕ) (xs ys : Nodes) (s : PolyStop) → StopsExpanding n xs s → StopsExpanding n (xs ++ ys) s
stop-before n xs ys (Terms at) f = record {
  before = f.before;
  node = f.node;
  after = f.after ++ ys;
  stands = ap (λ (zs : Nodes). zs ++ ys) f.stands ∙ append_assoc f.before ((at, f.node) ∷ f.after) ys;
  few = f.few;
  many = f.many;
}
stop-before n xs ys (NoMemory m) f = tt

-- it is the first after those that have few
pub stop-after : (n : ℕ) (xs ys : Nodes) (s : PolyStop) → HaveFewTerms n xs → StopsExpanding n ys s → StopsExpanding n (xs ++ ys) s
stop-after n xs ys (Terms at) l f = record {
  before = xs ++ f.before;
  node = f.node;
  after = f.after;
  stands = ap (λ (zs : Nodes). xs ++ zs) f.stands ∙ sym (append_assoc xs f.before ((at, f.node) ∷ f.after));
  few = few-both n xs f.before l f.few;
  many = f.many;
}
stop-after n xs ys (NoMemory m) l f = tt

-- ---- nodes
-- after one operand
pub one-expands : (n : ℕ) (xs ys : Nodes) (d c : Tree) (f h : Sparse) → Expands n xs d f → Expands n ys c h → Expands n (xs ++ ys) c h
one-expands n xs ys d c f h p q = record { normal = q.normal; terms = q.terms; few = few-both n xs ys p.few q.few }

-- after two
pub two-expand : (n : ℕ) (xs ys zs : Nodes) (d e c : Tree) (f g h : Sparse) → Expands n xs d f → Expands n ys e g → Expands n zs c h
    → Expands n (xs ++ ys ++ zs) c h
two-expand n xs ys zs d e c f g h p q r = record { normal = r.normal; terms = r.terms; few = few-both n (xs ++ ys) zs (few-both n xs ys p.few q.few) r.few }

-- ---- powers
-- where the powers up to e^k were expanded, and so was e^k times e, the powers up to e^(k + 1) were expanded
pub powers-more : (n : ℕ) (at : Span) (e : Tree) (k : ℕ) (p h : Sparse) → Expands n (powers at e k) (Pow e k) p
    → Expands n ((at, Mul (Pow e k) e) ∷ []) (Mul (Pow e k) e) h → Expands n (powers at e (suc k)) (Pow e (suc k)) h
powers-more n at e k p h a b = record {
  normal = power-more n e k h b.normal;
  terms = b.terms;
  few = few-both n (powers at e k) ((at, Pow e (suc k)) ∷ []) a.few (λ m. b.few.0 (power-many-back n e k m), tt);
}

-- the stop at a product that is the next power
stop-power : (n : ℕ) (at : Span) (e : Tree) (k : ℕ) (s : PolyStop) → StopsExpanding n ((at, Mul (Pow e k) e) ∷ []) s
    → StopsExpanding n ((at, Pow e (suc k)) ∷ []) s
stop-power n at e k (NoMemory m) f = tt
stop-power n at e k (Terms t) f = by_before f.before f.stands f.few where
  by_before : (before : Nodes) → (at, Mul (Pow e k) e) ∷ [] ≡ before ++ (t, f.node) ∷ f.after → HaveFewTerms n before
      → IsTermsFault n ((at, Pow e (suc k)) ∷ []) t
  by_before [] q l =
      let h : (at, Mul (Pow e k) e) ≡ (t, f.node) = cc in
      let a : at ≡ t = ap (λ (z : Span × Tree). z.0) h in
      let b : Mul (Pow e k) e ≡ f.node = ap (λ (z : Span × Tree). z.1) h in
      record { before = []; node = Pow e (suc k); after = []; stands = rw a refl; few = tt; many = power-many n e k (rw b f.many) }
  by_before (x ∷ xs) q l = absurd (none xs (t, f.node) f.after (tails q)) where
    tails : (at, Mul (Pow e k) e) ∷ [] ≡ x ∷ (xs ++ (t, f.node) ∷ f.after) → [] ≡ xs ++ (t, f.node) ∷ f.after
    tails w = cc

    none : (ys : Nodes) (y : Span × Tree) (zs : Nodes) → [] ≡ ys ++ y ∷ zs → ⊥
    none [] y zs w = cc
    none (u ∷ ys) y zs w = cc

-- more powers follow
pub powers-after : (n : ℕ) (at : Span) (e : Tree) (j k : ℕ) (s : PolyStop) → j ≤ k → StopsExpanding n (powers at e j) s → StopsExpanding n (powers at e k) s
powers-after n at e j zero s l f = let q : j ≡ 0 = omega arith in subst (λ z. StopsExpanding n (powers at e z) s) q f
powers-after n at e j (suc k) s l f = by_case (powers-after n at e j k s) (cases_lt k j) where
  by_case : (j ≤ k → StopsExpanding n (powers at e j) s → StopsExpanding n (powers at e k) s) → (k < j) ⊎ (j ≤ k) → StopsExpanding n (powers at e (suc k)) s
  by_case ih (inl h) = let q : j ≡ suc k = omega arith in subst (λ z. StopsExpanding n (powers at e z) s) q f
  by_case ih (inr h) = stop-before n (powers at e k) ((at, Pow e (suc k)) ∷ []) s (ih h f)

-- the step of `raised` that stops: a stop at the next power is one of all powers
pub powers-stop : (n : ℕ) (at : Span) (e : Tree) (j k : ℕ) (p : Sparse) (s : PolyStop) → j < k → Expands n (powers at e j) (Pow e j) p
    → StopsExpanding n ((at, Mul (Pow e j) e) ∷ []) s → StopsExpanding n (powers at e k) s
powers-stop n at e j k p s l a f =
    powers-after n at e (suc j) k s (omega arith) (stop-after n (powers at e j) ((at, Pow e (suc j)) ∷ []) s a.few (stop-power n at e j s f))

-- the loop begins with the number 1
pub power-begin : (n : ℕ) (e : Tree) (f : Sparse) → f ≡ ([], pos 1) ∷ [] → Expands n [] (Pow e 0) f
power-begin n e f h =
    let q : IsNormal n (Pow e 0) (([], pos 1) ∷ []) =
    power-none n e (([], pos 1) ∷ []) (number-some n (pos 1) (one-term [] (pos 1) tt (λ z. cc) (omega arith))) in
    record { normal = subst (IsNormal n (Pow e 0)) (sym h) q; terms = rw h (omega arith); few = tt }

next-light : (b j k : ℕ) → j < k → b ^ k ≤ most → b ^ j * b ≤ most
next-light b j k l h = omega (arith, pow-suc b j, lower b (suc j) k l h)

-- there is room for the next power
pub power-room : (f p : Sparse) (k j : ℕ) (r : HasPower f k) → j < k → IsNormal r.n (Pow r.tree j) p → size_of p * size_of f < 2 ^ 127
power-room f p k j r l q = product-room r.n r.w (Pow r.tree j) r.tree p f r.two r.inputs r.inputs (next-light (weight r.w r.tree) j k l r.light) q r.normal

-- in `raised` no exponent of the next power exceeds 127
pub power-powers : (f p : Sparse) (k j : ℕ) (r : HasPower f k) → j < k → IsNormal r.n (Pow r.tree j) p → All (λ s. PowersFit s f) p
power-powers f p k j r l q = product-powers r.n r.w (Pow r.tree j) r.tree p f r.two r.inputs r.inputs (next-light (weight r.w r.tree) j k l r.light) q r.normal
