-- Proves what remains after a record, and what a few of its fields say.
use Rattle.std.proofs.Common.{◌≡◌, ◌≢◌, ℕ, ◌+◌, ◌-◌, ◌^◌, ◌<◌, ◌≤◌, min, Bool, List, [], ◌∷◌, length, get_or, take, drop, Option}
use Rattle.std.proofs.Common.{None, Ok, Err, refl, ap, sym, subst, ◌∙◌, arith, inl, inr, true, false, true≢false}
use Rattle.std.specs.Prelude.{if◌then◌else◌, ◌⊎◌, ◌==◌, Result, IfOk}
use Rattle.std.proofs.lemmas.Bool.{cases_lt, eqb-true}
use Rattle.std.proofs.lemmas.List.{take_all, length-take}
use Rattle.csv.specs.Machine.{next_record}
use Rattle.csv.specs.Reading.{is_bom, strip_bom}
use Rattle.ln_tree.specs.declared.shape.VarInfo.{VarInfo}
use Rattle.ln_code.specs.declared.row.Row as code
use Rattle.ln_rows.specs.Left.{Records, records_of, first_of, left_of, HasFirst, Takes, TakesFirst, TakesWithin}
use Rattle.ln_rows.specs.Plain.{IsPlainRow, TakenRow}
use Rattle.ln_rows.specs.Record.{columns, read_row, IsReadAs}
use Rattle.ln_rows.specs.declared.record.RowStop.{RowStop}
use Rattle.ln_rows.proofs.Fields.ExactLemmas.{not_fields}
use Rattle.ln_rows.proofs.Records.FirstLemmas.{gives_records, few_fields, none_records, same_first}

first_none : first_of [] ≡ None
unfolding next_record
first_none = refl

-- no bytes, no records
pub no_records : records_of [] ≡ []
no_records = none_records [] first_none

-- the first record after what counts for nothing
pub gives_past : (a b : List ℕ) (fields : List (List ℕ)) (rest : List ℕ) → first_of a ≡ first_of b → HasFirst b fields rest → HasFirst a fields rest
gives_past a b fields rest e g = record { state = g.state; between = g.between; first = e ∙ g.first }

-- a text begins with a byte order mark or not
pub no_mark : (xs : List ℕ) → length xs < 3 → strip_bom xs ≡ xs
unfolding strip_bom
no_mark [] h = refl
no_mark (a ∷ []) h = refl
no_mark (a ∷ b ∷ []) h = refl
no_mark (a ∷ b ∷ c ∷ rest) h = absurd (omega (arith, h))

-- the first three bytes of a text decide whether they are a byte order mark, which is then dropped
pub mark_by : (xs : List ℕ) (m : Bool) → 3 ≤ length xs → m ≡ is_bom (get_or xs 0 0) (get_or xs 1 0) (get_or xs 2 0)
    → strip_bom xs ≡ (if m then drop 3 xs else xs)
unfolding strip_bom
mark_by [] m h e = absurd (omega (arith, h))
mark_by (a ∷ []) m h e = absurd (omega (arith, h))
mark_by (a ∷ b ∷ []) m h e = absurd (omega (arith, h))
mark_by (a ∷ b ∷ c ∷ rest) m h e = ap (λ (t : Bool). if t then rest else a ∷ b ∷ c ∷ rest) (sym e)

-- a row of plain numbers is taken
pub row_taken : (vars : List VarInfo) (old : Records) (o : Option Records) (text behind rest : List ℕ) (r : code.Row) → left_of text o ≡ old
    → ((bytes : List ℕ) → left_of bytes o ≡ records_of bytes) → first_of text ≡ first_of behind
    → IsPlainRow vars behind rest r → TakenRow vars old (left_of rest o) r
row_taken vars old o text behind rest r view none same h = record {
  fields = h.fields;
  next = sym view ∙ none text ∙ gives_records text h.fields rest (gives_past text behind h.fields rest same h.gives)
      ∙ ap (λ (rs : Records). h.fields ∷ rs) (sym (none rest));
  size = h.size;
  read = h.read;
}

-- bytes whose length is 0 are none
pub no_bytes : (xs : List ℕ) → (length xs == 0) ≡ true → xs ≡ []
no_bytes [] h = refl
no_bytes (x ∷ xs) h = absurd (omega (arith, eqb-true (length (x ∷ xs)) 0 h))

-- ---- no record had a quote yet: what remains is in rest, and in text, which is rest after its line ends
module _ (old : Records) (o : Option Records) (rest text : List ℕ) (view : left_of rest o ≡ old) (none : o ≡ None)
    (same : first_of rest ≡ first_of text) where
  -- no bytes but line ends remain
  pub left_ends : text ≡ [] → old ≡ []
  left_ends e = sym view ∙ ap (left_of rest) none ∙ none_records rest (same ∙ ap first_of e ∙ first_none)

  -- a record without quotes is taken
  pub left_takes : (most : ℕ) (more : List ℕ) (kept : List (List ℕ)) → length text + 1 < 2 ^ 64
      → (all : List (List ℕ)) × HasFirst text all more × (kept ≡ take most all) → TakesFirst most old (left_of more o) kept
  left_takes most more kept small t = record {
    fields = t.0;
    next = sym view ∙ ap (left_of rest) none ∙ gives_records rest t.0 more (gives_past rest text t.0 more same t.1)
        ∙ ap (λ (p : Option Records). t.0 ∷ left_of more p) (sym none);
    first = t.2;
    few = let few = few_fields text t.0 more t.1 in omega (arith, few, small);
  }

  -- csv's own reader takes the next record
  pub left_reads : {E : Type 0} (most : ℕ) (r : Result Bool E) (quoted new : Records) (kept : List (List ℕ)) → quoted ≡ records_of text
      → IfOk r (λ found. TakesWithin most found quoted new kept) → IfOk r (λ found. TakesWithin most found old new kept)
  left_reads most r quoted new kept q t =
      subst (λ (rs : Records). IfOk r (λ found. TakesWithin most found rs new kept))
      (q ∙ sym (same_first rest text same) ∙ ap (left_of rest) (sym none) ∙ view) t

-- a read that finds a record takes the first of the remaining ones
pub takes_some : (most : ℕ) (found : Bool) (old new : Records) (kept : List (List ℕ)) → TakesWithin most found old new kept → found ≡ true
    → TakesFirst most old new kept
takes_some most true old new kept t e = t
takes_some most false old new kept t e = absurd (true≢false (sym e))

-- a read with room for 2^64 - 1 fields keeps all of a record's
pub takes_all : (most : ℕ) (found : Bool) (old new : Records) (kept : List (List ℕ)) → TakesWithin most found old new kept
    → most ≡ 2 ^ 64 - 1 → Takes found old new kept
takes_all most false old new kept t e = t
takes_all most true old new kept t e =
    let few : length t.fields ≤ most = omega (arith, t.few, e) in
    t.next ∙ ap (λ (fs : List (List ℕ)). fs ∷ new) (sym (t.first ∙ take_all most t.fields few))

-- the first fields are the names just where all are
pub names_cut : (all kept names : List (List ℕ)) (most : ℕ) → kept ≡ take most all → most ≡ min (length names + 1) (2 ^ 64 - 1)
    → length all < 2 ^ 64 → (kept ≡ names → all ≡ names) × (all ≡ names → kept ≡ names)
names_cut all kept names most k r few = (λ e. one e, λ e. two e) where
  one : kept ≡ names → all ≡ names
  one e =
      let size : min most (length all) ≡ length names = sym (length-take most all) ∙ ap length (sym k ∙ e) in
      let small : length all ≤ most = omega (arith, size, r, few) in
      sym (take_all most all small) ∙ sym k ∙ e

  two : all ≡ names → kept ≡ names
  two e =
      let size : length all ≡ length names = ap length e in
      let small : length all ≤ most = omega (arith, size, r, few) in
      k ∙ take_all most all small ∙ e

-- a first record that isn't the header
pub not_header : (all names : List (List ℕ)) (old new others : Records) → old ≡ all ∷ new → (all ≡ names → ⊥) → old ≡ names ∷ others → ⊥
not_header all names old new others o ne e = ne (first_same (sym o ∙ e)) where
  first_same : {x y : List (List ℕ)} {xs ys : Records} → x ∷ xs ≡ y ∷ ys → x ≡ y
  first_same {x = x} q = ap (λ (zs : Records). elim zs [ [] ↦ x | z ∷ r ↦ z ]) q

-- a record's first fields, one more than there are columns, say what it says
row_cut : (sites : ℕ) (vars : List VarInfo) (all : List (List ℕ)) (most : ℕ) → length (columns vars) < most
    → read_row sites vars (take most all) ≡ read_row sites vars all
row_cut sites vars all most h = by_size (cases_lt most (length all)) where
  by_size : (most < length all) ⊎ (length all ≤ most) → read_row sites vars (take most all) ≡ read_row sites vars all
  by_size (inr small) = ap (read_row sites vars) (take_all most all small)
  by_size (inl large) =
      let cut : length (take most all) ≢ length (columns vars) = λ e. omega (arith, e, h, large, length-take most all) in
      let long : length all ≢ length (columns vars) = λ e. omega (arith, e, h, large) in
      not_fields sites vars (take most all) cut ∙ sym (not_fields sites vars all long)

-- the result on the first fields of a record, with room for more than the columns, is that on the record
pub read_cut : {T : Type 0} (sites : ℕ) (vars : List VarInfo) (all kept : List (List ℕ)) (most : ℕ) (read : Result T RowStop) (r : code.Row)
    → kept ≡ take most all → length (columns vars) < most → IsReadAs sites vars kept read r → IsReadAs sites vars all read r
read_cut {T = T} sites vars all kept most read r k h s =
    let same : read_row sites vars kept ≡ read_row sites vars all = ap (read_row sites vars) k ∙ row_cut sites vars all most h in
    by_read read s same
  where
    by_read : (o : Result T RowStop) → IsReadAs sites vars kept o r → read_row sites vars kept ≡ read_row sites vars all → IsReadAs sites vars all o r
    by_read (Ok u) t e = record { ok = sym e ∙ t.ok; err = tt; in_range = t.in_range }
    by_read (Err stop) t e = record { ok = tt; err = sym e ∙ t.err; in_range = tt }

-- the same where there is room for one field more than there are names
pub point_cut : (all kept names : List (List ℕ)) (most : ℕ) → kept ≡ take most all → length names < most
    → (kept ≡ names → all ≡ names) × (all ≡ names → kept ≡ names)
point_cut all kept names most k h = (λ e. one e, λ e. k ∙ take_all most all (omega (arith, ap length e, h)) ∙ e) where
  one : kept ≡ names → all ≡ names
  one e =
      let size : min most (length all) ≡ length names = sym (length-take most all) ∙ ap length (sym k ∙ e) in
      sym (take_all most all (omega (arith, size, h))) ∙ sym k ∙ e
