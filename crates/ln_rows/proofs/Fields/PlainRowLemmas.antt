-- A row of plain numbers, variable by variable.
use Rattle.std.proofs.Common.{◌≡◌, ◌≢◌, ℕ, suc, ◌+◌, ◌-◌, ◌^◌, ◌<◌, ◌≤◌, Bool, true, false, List, [], ◌∷◌, ◌++◌, length, get_or, drop, set}
use Rattle.std.proofs.Common.{ℤ, pos, Ok, refl, ap, sym, subst, ◌∙◌, arith, append_assoc, eq-eqb, ne_eqb, length-append, inl, inr}
use Rattle.std.specs.Prelude.{◌==◌}
use Rattle.std.proofs.lemmas.List.{append-nil, drop_all}
use Rattle.csv.specs.Machine.{next_record}
use Rattle.csv.specs.Reading.{default_config}
use Rattle.csv.specs.declared.parser.State.{State}
use Rattle.csv.specs.declared.parser.State.TheVariants as st
use Rattle.ln_tree.specs.declared.shape.VarInfo.{VarInfo}
use Rattle.ln_tree.specs.Variables.{starts_site, no_var}
use Rattle.ln_code.specs.declared.row.Row.{Row}
use Rattle.ln_rows.specs.Left.{first_of, HasFirst}
use Rattle.ln_rows.specs.Number.{number_in}
use Rattle.ln_rows.specs.Plain.{HasValue, IsPlainRow}
use Rattle.ln_rows.specs.Record.{columns, in_column, IsRead}
use Rattle.ln_rows.proofs.Records.PlainLemmas.{IsFresh, number_goes, comma_goes, end_goes}
use Rattle.ln_rows.proofs.Fields.RowLemmas.{Filled, filled_none, filled_site, filled_other, filled_all, site_fits}

-- these fields of the first record have been read, and the next one begins
pub record IsBetweenFields (text : List ℕ) (fields : List (List ℕ)) (rest : List ℕ) : Type 0 where
  pub state : State
  pub fresh : IsFresh state
  pub is : first_of text ≡ next_record default_config state fields [] rest

-- ---- the next field of a record is a value
module _ (text : List ℕ) (fields : List (List ℕ)) (rest more : List ℕ) (lo hi z : ℤ)
    (s : IsBetweenFields text fields rest) where
  -- a value with a comma after it: the next field begins
  value_stands : (h : HasValue rest lo hi false z more) → IsBetweenFields text (fields ++ (h.number.first ∷ h.number.others) ∷ []) more
  value_stands h = record {
    state = st.StartField;
    fresh = inr refl;
    is = s.is ∙ number_goes s.state fields rest h.behind lo hi z s.fresh h.number ∙ comma_goes fields (h.number.first ∷ h.number.others) h.behind more h.past;
  }

  -- a value with the end of the record after it
  value_gives : (h : HasValue rest lo hi true z more) → HasFirst text (fields ++ (h.number.first ∷ h.number.others) ∷ []) more
  value_gives h =
      let e = end_goes fields (h.number.first ∷ h.number.others) h.behind more h.past in
      record { state = e.state; between = e.between; first = s.is ∙ number_goes s.state fields rest h.behind lo hi z s.fresh h.number ∙ e.ends }

  -- where the record goes on after a value, and where it ends
  behind_value : (vars : List VarInfo) (v : ℕ) (last : Bool) → last ≡ (v + 1 == length vars) → (h : HasValue rest lo hi last z more)
      → (v + 1 < length vars → IsBetweenFields text (fields ++ (h.number.first ∷ h.number.others) ∷ []) more)
      × (v + 1 ≡ length vars → HasFirst text (fields ++ (h.number.first ∷ h.number.others) ∷ []) more)
  behind_value vars v true e h =
      (λ l. absurd (no_eq (omega (arith, l)) (sym e)), λ l. value_gives h)
    where
      no_eq : v + 1 ≢ length vars → (v + 1 == length vars) ≡ true → ⊥
      no_eq n q = absurd (cc_of (ne_eqb (v + 1) (length vars) n) q) where
        cc_of : {b : Bool} → b ≡ false → b ≡ true → ⊥
        cc_of p r = let w : false ≡ true = sym p ∙ r in absurd (cc)
  behind_value vars v false e h =
      (λ l. value_stands h, λ l. absurd (not_false (eq-eqb (v + 1) (length vars) l) (sym e)))
    where
      not_false : {b : Bool} → b ≡ true → b ≡ false → ⊥
      not_false p r = let w : true ≡ false = sym p ∙ r in absurd (cc)

-- how far a record has been read: its next field begins, or after the last variable it ends
pub record Reading (vars : List VarInfo) (text : List ℕ) (index0 value0 : List ℤ) (v site : ℕ) (rest : List ℕ) (index value : List ℤ) : Type 0 where
  pub fields : List (List ℕ)
  pub filled : (more : List (List ℕ)) → Filled vars (fields ++ more) index0 value0 v site (length fields) index value
  pub going : v < length vars → IsBetweenFields text fields rest
  pub gone : v ≡ length vars → HasFirst text fields rest

-- before any variable
pub reading_none : (vars : List VarInfo) (text : List ℕ) (index value : List ℤ) → 0 < length vars → length index ≡ 5 → length value ≡ 168
    → Reading vars text index value 0 0 text index value
reading_none vars text index value some five all = record {
  fields = [];
  filled = λ more. filled_none vars more index value five all;
  going = λ l. record { state = st.StartRecord; fresh = inl refl; is = refl };
  gone = λ e. absurd (omega (arith, e, some));
}

-- the places of fields after others
place : (xs ys : List (List ℕ)) (k : ℕ) → get_or (xs ++ ys) (length xs + k) [] ≡ get_or ys k []
place [] ys k = let e : 0 + k ≡ k = omega arith in ap (λ (n : ℕ). get_or ys n []) e
place (x ∷ xs) ys k = let e : suc (length xs) + k ≡ suc (length xs + k) = omega arith in ap (λ (n : ℕ). get_or (x ∷ (xs ++ ys)) n []) e ∙ place xs ys k

first_place : (xs : List (List ℕ)) (f : List ℕ) (ys : List (List ℕ)) → get_or (xs ++ f ∷ ys) (length xs) [] ≡ f
first_place xs f ys = let e : length xs ≡ length xs + 0 = omega arith in ap (λ (n : ℕ). get_or (xs ++ f ∷ ys) n []) e ∙ place xs (f ∷ ys) 0

says_there : (at : ℕ) (lo hi z : ℤ) (g f : List ℕ) → g ≡ f → number_in lo hi f ≡ Ok z → in_column at (number_in lo hi g) ≡ Ok z
says_there at lo hi z g f e s = ap (λ (w : List ℕ). in_column at (number_in lo hi w)) e ∙ ap (in_column at) s

-- the variable of this number
abbrev var_at : List VarInfo → ℕ → VarInfo
var_at vars v = get_or vars v no_var

-- ---- a variable is next
module _ {vars : List VarInfo} {text : List ℕ} {index0 value0 : List ℤ} {v site : ℕ} {rest : List ℕ} {index value : List ℤ}
    (r : Reading vars text index0 value0 v site rest index value) (l : v < length vars) where
  -- a site's index and its first coordinate
  pub reading_site : (z y : ℤ) (behind more : List ℕ) (last : Bool) → starts_site (var_at vars v) ≡ true → length vars ≤ 168
      → length (columns vars) ≤ length vars + 5 → last ≡ (v + 1 == length vars)
      → HasValue rest (pos 0) (pos (2 ^ 63 - 1)) false z behind → HasValue behind (var_at vars v).lo (var_at vars v).hi last y more
      → Reading vars text index0 value0 (v + 1) (site + 1) more (set index site z) (set value v y)
  reading_site z y behind more last e few five is_last a b =
      let f : List ℕ = a.number.first ∷ a.number.others in
      let g : List ℕ = b.number.first ∷ b.number.others in
      let one = value_stands text r.fields rest behind (pos 0) (pos (2 ^ 63 - 1)) z (r.going l) a in
      let two = behind_value text (r.fields ++ f ∷ []) behind more (var_at vars v).lo (var_at vars v).hi y one vars v last is_last b in
      record {
        fields = (r.fields ++ f ∷ []) ++ g ∷ [];
        filled = λ rest_.
            let same : r.fields ++ (f ∷ g ∷ rest_) ≡ ((r.fields ++ f ∷ []) ++ g ∷ []) ++ rest_ =
            sym (append_assoc (r.fields ++ f ∷ []) (g ∷ []) rest_ ∙ append_assoc r.fields (f ∷ []) (g ∷ rest_)) in
            let size : length r.fields + 2 ≡ length ((r.fields ++ f ∷ []) ++ g ∷ []) =
            omega (arith, length-append (r.fields ++ f ∷ []) (g ∷ []), length-append r.fields (f ∷ [])) in
            let room : length r.fields + 1 < length (r.fields ++ (f ∷ g ∷ rest_)) = omega (arith, length-append r.fields (f ∷ g ∷ rest_)) in
            let p = says_there (length r.fields) (pos 0) (pos (2 ^ 63 - 1)) z (get_or (r.fields ++ (f ∷ g ∷ rest_)) (length r.fields) []) f
            (first_place r.fields f (g ∷ rest_)) a.number.says in
            let q = says_there (length r.fields + 1) (var_at vars v).lo (var_at vars v).hi y
            (get_or (r.fields ++ (f ∷ g ∷ rest_)) (length r.fields + 1) []) g (place r.fields (f ∷ g ∷ rest_) 1) b.number.says in
            let step = filled_site z y (r.filled (f ∷ g ∷ rest_)) l e room few five p q in
            subst (λ (xs : List (List ℕ)). Filled vars xs index0 value0 (v + 1) (site + 1) (length ((r.fields ++ f ∷ []) ++ g ∷ []))
            (set index site z) (set value v y)) same
            (subst (λ (n : ℕ). Filled vars (r.fields ++ (f ∷ g ∷ rest_)) index0 value0 (v + 1) (site + 1) n (set index site z) (set value v y)) size step);
        going = two.0;
        gone = two.1;
      }

  -- another variable
  pub reading_other : (y : ℤ) (more : List ℕ) (last : Bool) → starts_site (var_at vars v) ≡ false → length vars ≤ 168 → last ≡ (v + 1 == length vars)
      → HasValue rest (var_at vars v).lo (var_at vars v).hi last y more
      → Reading vars text index0 value0 (v + 1) site more index (set value v y)
  reading_other y more last e few is_last b =
      let g : List ℕ = b.number.first ∷ b.number.others in
      let two = behind_value text r.fields rest more (var_at vars v).lo (var_at vars v).hi y (r.going l) vars v last is_last b in
      record {
        fields = r.fields ++ g ∷ [];
        filled = λ rest_.
            let same : r.fields ++ (g ∷ rest_) ≡ (r.fields ++ g ∷ []) ++ rest_ = sym (append_assoc r.fields (g ∷ []) rest_) in
            let size : length r.fields + 1 ≡ length (r.fields ++ g ∷ []) = omega (arith, length-append r.fields (g ∷ [])) in
            let room : length r.fields < length (r.fields ++ (g ∷ rest_)) = omega (arith, length-append r.fields (g ∷ rest_)) in
            let q = says_there (length r.fields) (var_at vars v).lo (var_at vars v).hi y
            (get_or (r.fields ++ (g ∷ rest_)) (length r.fields) []) g (first_place r.fields g rest_) b.number.says in
            let step = filled_other y (r.filled (g ∷ rest_)) l e room few q in
            subst (λ (xs : List (List ℕ)). Filled vars xs index0 value0 (v + 1) site (length (r.fields ++ g ∷ [])) index (set value v y)) same
            (subst (λ (n : ℕ). Filled vars (r.fields ++ (g ∷ rest_)) index0 value0 (v + 1) site n index (set value v y)) size step);
        going = two.0;
        gone = two.1;
      }

  -- there is a place for the index of a site
  pub reading_fits : starts_site (var_at vars v) ≡ true → length (columns vars) ≤ length vars + 5 → site < 5
  reading_fits e five = site_fits (r.filled []) l e five

-- after the last variable
pub reading_all : {vars : List VarInfo} {text : List ℕ} {index0 value0 : List ℤ} {v site : ℕ} {rest : List ℕ} {r : Row}
    → Reading vars text index0 value0 v site rest r.index r.values → length vars ≤ v → IsPlainRow vars text rest r
reading_all {vars = vars} {v = v} {r = r} h l =
    let f = h.filled [] in
    let all : v ≡ length vars = omega (arith, f.within, l) in
    let none : drop v vars ≡ [] = drop_all v vars l in
    record {
      fields = h.fields;
      gives = h.gone all;
      size = omega (arith, ap (λ (w : List VarInfo). length (columns w)) none, f.size);
      read = subst (λ (xs : List (List ℕ)). IsRead vars xs r) (append-nil h.fields) (filled_all f l);
    }
