-- A row requires at most one verdict; without params never the sign 0.
use Rattle.std.proofs.Common.{◌≡◌, ◌≢◌, inl, inr, ℕ, ◌+◌, ◌<◌, zero, suc, true, List, [], ◌∷◌, length, refl, sym, ◌∙◌, ap, arith, subst}
use Rattle.std.proofs.Common.{is_some, Option, Some, None}
use Rattle.std.specs.Prelude.{All}
use Rattle.std.proofs.Math.IntN.{ℤ, pos, negsuc}
use Rattle.std.proofs.lemmas.List.Elements.{All-head, All-tail}
use Rattle.ln_base.specs.declared.sign.Sign.{Sign}
use Rattle.ln_base.specs.declared.sign.Sign.TheVariants.{Minus, Plus, Zero}
use Rattle.ln_algebra.proofs.Ordering.Admissible.{both-admissible}
use Rattle.ln_algebra.proofs.Ordering.First.{all-first-in}
use Rattle.ln_algebra.proofs.Ordering.Unique.{first-unique-in, stage_list-unique-in}
use Rattle.ln_algebra.specs.Earlier.{Sites}
use Rattle.ln_algebra.specs.Orders.{Before, IsAdmissible, Rank}
use Rattle.ln_algebra.specs.Sign.{perturbed}
use Rattle.ln_algebra.specs.Sign as algebra
use Rattle.ln_algebra.specs.Tree.{Tree}
use Rattle.ln_tree.specs.Row.{InRange, Row, values}
use Rattle.ln_tree.specs.declared.shape.Shape.{Shape}
use Rattle.ln_tree.specs.declared.shape.VarInfo.{VarInfo}
use Rattle.ln_order.proofs.Signs.RowSigns.{row_sign-unique, rows-differ}
use Rattle.ln_order.specs.Rows.{RowFirst, RowSign}
use Rattle.ln_order.specs.Sites.{row_sites, site_of}
use Rattle.ln_code.specs.declared.verdict.By.{By}
use Rattle.ln_code.specs.declared.verdict.By.TheVariants.{Filter, Nothing, Stage}
use Rattle.ln_code.specs.declared.verdict.Verdict.{Verdict}
use Rattle.ln_due.specs.Due.{Decided, Due, Filtering, IsDecidedBy, IsOwedByStages, IsPositionIn, NoFilter, Undecided, sign_number}
use Rattle.ln_due.specs.DueLaw.{Agree, DueIsUnique, WithoutParamsNeverZero}

-- ---- one verdict
-- signs with one number are one
pub sign-number-same : (s t : Sign) → sign_number s ≡ sign_number t → s ≡ t
sign-number-same Minus Minus e = refl
sign-number-same Minus Zero e = cc
sign-number-same Minus Plus e = cc
sign-number-same Zero Minus e = cc
sign-number-same Zero Zero e = refl
sign-number-same Zero Plus e = cc
sign-number-same Plus Minus e = cc
sign-number-same Plus Zero e = cc
sign-number-same Plus Plus e = refl

-- a vector has one position
pub position-unique : (before : List ℕ → List ℕ → Type 0) (list : List (List ℕ)) (a : List ℕ) (i j : ℕ) → IsPositionIn before list a i
    → IsPositionIn before list a j → i ≡ j
position-unique before [] a i j h k = h ∙ sym k
position-unique before (b ∷ list) a i j (inl h) (inl k) = h.1.2 ∙ ap (λ m. m + 1) (position-unique before list a h.1.0 k.1.0 h.1.1 k.1.1) ∙ sym k.1.2
position-unique before (b ∷ list) a i j (inl h) (inr k) = absurd (k.0 h.0)
position-unique before (b ∷ list) a i j (inr h) (inl k) = absurd (h.0 k.0)
position-unique before (b ∷ list) a i j (inr h) (inr k) = position-unique before list a i j h.1 k.1

module _ (n : ℕ) (sites : Sites) (before : List ℕ → List ℕ → Type 0) (order : IsAdmissible n sites before) (x : ℕ → ℤ) (e : Tree) where
  -- one thing decides
  decided-unique : (list : List (List ℕ)) (b c : By) (i j : ℕ) → IsDecidedBy before n sites x e list b i
      → IsDecidedBy before n sites x e list c j → (b ≡ c) × (i ≡ j)
  decided-unique list Filter c i j h k = absurd h
  decided-unique list (Stage s) Filter i j h k = absurd k
  decided-unique list Nothing Filter i j h k = absurd k
  decided-unique list (Stage s) (Stage t) i j h k =
      let a : h.0 ≡ k.0 = first-unique-in n sites before order x e h.0 k.0 h.1 k.1 in
      let q : s ≡ t = position-unique before list k.0 s t (subst (λ (u : List ℕ). IsPositionIn before list u s) a h.2) k.2 in
      (ap Stage q, h.3 ∙ ap (λ m. m + 1) q ∙ sym k.3)
  decided-unique list (Stage s) Nothing i j h k = absurd (k.0 h.0 h.1)
  decided-unique list Nothing (Stage t) i j h k = absurd (h.0 k.0 k.1)
  decided-unique list Nothing Nothing i j h k = (refl, h.1 ∙ sym k.1)

-- the stages owe one verdict
owed-unique : (rank : Rank) (s : Shape) (e : Tree) (row : Row) (entered : ℕ) (v w : Verdict) → InRange s.sites s.vars row
    → IsOwedByStages rank s.vars e row entered v → IsOwedByStages rank s.vars e row entered w → Agree v w
owed-unique rank s e row entered v w r d g =
    let n : ℕ = length s.vars in
    let sites : Sites = row_sites s.vars row.index in
    let before : List ℕ → List ℕ → Type 0 = Before rank sites in
    let order : IsAdmissible n sites before = both-admissible rank n sites (rows-differ s row r) in
    let list : d.list ≡ g.list = stage_list-unique-in n sites before order e d.list g.list d.stages g.stages in
    let both = decided-unique n sites before order (values row.values) e g.list v.by w.by d.blocks g.blocks
    (subst (λ (q : List (List ℕ)). IsDecidedBy before n sites (values row.values) e q v.by d.blocks) list d.decided) g.decided in
    record {
      sign = sign-number-same v.sign w.sign (row_sign-unique rank s e row (sign_number v.sign) (sign_number w.sign) r d.sign g.sign);
      by = both.0;
      calls = d.calls ∙ ap (λ m. entered + m) both.1 ∙ sym g.calls;
    }

-- so there is one verdict
pub due-unique : DueIsUnique
due-unique rank s e row NoFilter v w r d g = owed-unique rank s e row 0 v w r d g
due-unique rank s e row Undecided v w r d g = owed-unique rank s e row 1 v w r d g
due-unique rank s e row Decided v w r d g = record {
  sign = sign-number-same v.sign w.sign (row_sign-unique rank s e row (sign_number v.sign) (sign_number w.sign) r d.sign g.sign);
  by = d.by ∙ sym g.by;
  calls = d.calls ∙ sym g.calls;
}

-- the required verdict has the perturbed sign
pub due-sign : (rank : Rank) (vars : List VarInfo) (e : Tree) (row : Row) (does : Filtering) (v : Verdict) → Due rank does vars e row v
    → RowSign rank vars e row (sign_number v.sign)
due-sign rank vars e row NoFilter v d = d.sign
due-sign rank vars e row Decided v d = d.sign
due-sign rank vars e row Undecided v d = d.sign

-- ---- without params
some-site : (o : Option ℕ) → o ≢ None → is_some o ≡ true
some-site None h = absurd (h refl)
some-site (Some t) h = refl

-- each variable is one of a site
pub all-sites : (vars : List VarInfo) (v : ℕ) → All (λ i. i.site ≢ None) vars → v < length vars → is_some (site_of vars v) ≡ true
all-sites [] v a h = absurd (omega arith)
all-sites (i ∷ vars) zero a h = some-site i.site (All-head (λ (j : VarInfo). j.site ≢ None) i vars a)
all-sites (i ∷ vars) (suc v) a h = all-sites vars v (All-tail (λ (j : VarInfo). j.site ≢ None) i vars a) (omega arith)

-- a number that isn't 0 hasn't the sign 0
pub sign-nonzero : (z : ℤ) → z ≢ pos 0 → algebra.sign_of z ≡ pos 0 → ⊥
sign-nonzero (pos zero) h e = h refl
sign-nonzero (pos (suc n)) h e = cc
sign-nonzero (negsuc n) h e = cc

-- without params the first vector is there, since some coefficient isn't 0
pub never-zero : WithoutParamsNeverZero
never-zero rank s e m row does v a below mono r d q = by_sign (due-sign rank s.vars e row does v d) where
  first : (b : List ℕ) × RowFirst rank s.vars e row b
  first = all-first-in (length s.vars) (row_sites s.vars row.index) (Before rank (row_sites s.vars row.index)) (both-admissible rank
      (length s.vars) (row_sites s.vars row.index) (rows-differ s row r)) (values row.values) e below (λ u k. all-sites s.vars u a k) m mono

  by_sign : RowSign rank s.vars e row (sign_number v.sign) → ⊥
  by_sign (inl t) = sign-nonzero (perturbed (row_sites s.vars row.index) (values row.values) e t.0) t.1.nonzero (sym t.2 ∙ ap sign_number q)
  by_sign (inr t) = t.0 first.0 first.1
