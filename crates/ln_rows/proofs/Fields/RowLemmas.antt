-- Reading the columns from the left.
use Rattle.std.proofs.Common.{◌≡◌, ◌≢◌, ℕ, zero, suc, ◌+◌, ◌-◌, ◌^◌, ◌<◌, ◌≤◌, Bool, true, false, ◌&&◌, List, [], ◌∷◌, ◌++◌, length, get_or}
use Rattle.std.proofs.Common.{take, drop, set, ℤ, pos, Option, Some, None, Ok, Err, refl, ap, sym, subst, ◌∙◌, arith, add-one, drop-cons}
use Rattle.std.proofs.Common.{append_assoc, get_or-set_other, replicate}
use Rattle.std.specs.Prelude.{unwrap_or, int_le, if◌then◌else◌, OnErr, Result}
use Rattle.std.proofs.lemmas.List.{take_more_set, append-nil, length-set, length-drop, length-take-le, drop_all}
use Rattle.csv.specs.Records.{field_at}
use Rattle.ln_base.specs.Decimal.{integer_value}
use Rattle.ln_tree.specs.declared.shape.VarInfo.{VarInfo}
use Rattle.ln_tree.specs.Variables.{starts_site, no_var}
use Rattle.ln_code.specs.declared.row.Row.{Row}
use Rattle.ln_code.specs.RowOf.{IsZeroPast}
use Rattle.ln_rows.specs.Number.{within, number_in}
use Rattle.ln_rows.specs.Record.{Column, SiteIndex, Variable, columns, column_number, in_column, first_fault, said, indices, values, IsBegun, IsRead, StaysPast}
use Rattle.ln_rows.specs.declared.numbers.NumberStop.TheVariants as stop
use Rattle.ln_rows.specs.declared.record.RowStop.{RowStop}

-- what has been read of the columns cs, where the field at `at` is next, and what remains
pub record Front (cs : List Column) (fields : List (List ℕ)) (at : ℕ) (left : List Column) (index value : List ℤ) : Type 0 where
  pub fault : first_fault at left (drop at fields) ≡ first_fault 0 cs fields
  pub indices : index ++ indices left (drop at fields) ≡ indices cs fields
  pub values : value ++ values left (drop at fields) ≡ values cs fields

-- before any column
pub front_none : (cs : List Column) (fields : List (List ℕ)) → Front cs fields 0 cs [] []
front_none cs fields = record { fault = refl; indices = refl; values = refl }

-- a number within a range is what the field says
said_by : (lo hi z : ℤ) (o : Option ℤ) (k : ℕ) (b : ℤ → Bool) → ((y : ℤ) → b y ≡ (int_le lo y && int_le y hi))
    → in_column k (within lo hi o) ≡ Ok z → unwrap_or o (pos 0) ≡ z
said_by lo hi z None k b same h = absurd (cc)
said_by lo hi z (Some y) k b same h = go (int_le lo y && int_le y hi) h where
  go : (t : Bool) → in_column k (if t then Ok y else Err stop.Range) ≡ Ok z → y ≡ z
  go true e = cc
  go false e = absurd (cc)

-- a field with a number within a range says that number
pub said_is : (lo hi z : ℤ) (field : List ℕ) (k : ℕ) → in_column k (number_in lo hi field) ≡ Ok z → said field ≡ z
said_is lo hi z field k h = said_by lo hi z (integer_value field) k (λ y. int_le lo y && int_le y hi) (λ y. refl) h

-- one more index
pub front_index : (cs : List Column) (fields : List (List ℕ)) (at : ℕ) (left : List Column) (index value : List ℤ) (z : ℤ)
    → Front cs fields at (SiteIndex ∷ left) index value → at < length fields
    → in_column at (number_in (pos 0) (pos (2 ^ 63 - 1)) (get_or fields at [])) ≡ Ok z → Front cs fields (suc at) left (index ++ z ∷ []) value
front_index cs fields at left index value z f h e =
    let says : said (get_or fields at []) ≡ z = said_is (pos 0) (pos (2 ^ 63 - 1)) z (get_or fields at []) at e in
    record {
      fault = rw (drop-cons fields at [], e) at f.fault;
      indices = rw append_assoc (rw (drop-cons fields at [], says) at f.indices);
      values = rw (drop-cons fields at []) at f.values;
    }

-- one more value
pub front_value : (cs : List Column) (fields : List (List ℕ)) (at : ℕ) (i : VarInfo) (left : List Column) (index value : List ℤ) (z : ℤ)
    → Front cs fields at (Variable i ∷ left) index value → at < length fields
    → in_column at (number_in i.lo i.hi (get_or fields at [])) ≡ Ok z → Front cs fields (suc at) left index (value ++ z ∷ [])
front_value cs fields at i left index value z f h e =
    let says : said (get_or fields at []) ≡ z = said_is i.lo i.hi z (get_or fields at []) at e in
    record {
      fault = rw (drop-cons fields at [], e) at f.fault;
      indices = rw (drop-cons fields at []) at f.indices;
      values = rw append_assoc (rw (drop-cons fields at [], says) at f.values);
    }

-- a column with a fault
pub front_fault : (cs : List Column) (fields : List (List ℕ)) (at : ℕ) (c : Column) (left : List Column) (index value : List ℤ) (e : RowStop)
    → Front cs fields at (c ∷ left) index value → at < length fields
    → in_column at (column_number c (get_or fields at [])) ≡ Err e → first_fault 0 cs fields ≡ Some e
front_fault cs fields at c left index value e f h k = sym f.fault ∙ rw (drop-cons fields at [], k) refl

-- the field at a place by the word of csv
pub field_or : (fields : List (List ℕ)) (i : ℕ) → get_or fields i [] ≡ unwrap_or (field_at fields i) []
unfolding field_at
field_or [] i = refl
field_or (f ∷ fs) zero = refl
field_or (f ∷ fs) (suc i) = field_or fs i

-- how far the variables have been read into the arrays of a row, which had these before
pub record Filled (vars : List VarInfo) (fields : List (List ℕ)) (index0 value0 : List ℤ) (v site at : ℕ) (index value : List ℤ) : Type 0 where
  pub front : Front (columns vars) fields at (columns (drop v vars)) (take site index) (take v value)
  pub size : at + length (columns (drop v vars)) ≡ length (columns vars)
  pub places : at ≡ v + site
  pub within : v ≤ length vars
  pub index_stays : (k : ℕ) → site ≤ k → get_or index k (pos 0) ≡ get_or index0 k (pos 0)
  pub value_stays : (k : ℕ) → v ≤ k → get_or value k (pos 0) ≡ get_or value0 k (pos 0)
  pub index_size : length index ≡ 5
  pub value_size : length value ≡ 168

-- before any variable
pub filled_none : (vars : List VarInfo) (fields : List (List ℕ)) (index value : List ℤ) → length index ≡ 5 → length value ≡ 168
    → Filled vars fields index value 0 0 0 index value
filled_none vars fields index value five all = record {
  front = front_none (columns vars) fields;
  size = omega arith;
  places = refl;
  within = omega arith;
  index_stays = λ k h. refl;
  value_stays = λ k h. refl;
  index_size = five;
  value_size = all;
}

-- each variable has a column
pub columns_at_least : (vars : List VarInfo) → length vars ≤ length (columns vars)
columns_at_least [] = omega arith
columns_at_least (i ∷ is) = go (starts_site i) (columns_at_least is) where
  go : (b : Bool) → length is ≤ length (columns is) → suc (length is) ≤ length (if b then SiteIndex ∷ Variable i ∷ columns is else Variable i ∷ columns is)
  go true h = omega (arith, h)
  go false h = omega (arith, h)

-- the variable of this number
abbrev pub var_at : List VarInfo → ℕ → VarInfo
var_at vars v = get_or vars v no_var

-- the columns from a site on
pub at_site : (vars : List VarInfo) (v : ℕ) → v < length vars → starts_site (var_at vars v) ≡ true
    → columns (drop v vars) ≡ SiteIndex ∷ Variable (var_at vars v) ∷ columns (drop (suc v) vars)
at_site vars v h e = rw (drop-cons vars v no_var, e) refl

-- the columns from another variable on
pub at_other : (vars : List VarInfo) (v : ℕ) → v < length vars → starts_site (var_at vars v) ≡ false
    → columns (drop v vars) ≡ Variable (var_at vars v) ∷ columns (drop (suc v) vars)
at_other vars v h e = rw (drop-cons vars v no_var, e) refl

-- from a variable on there are at least as many columns as variables
behind_at_least : (vars : List VarInfo) (v : ℕ) → length vars ≤ v + length (columns (drop v vars))
behind_at_least vars v = omega (arith, columns_at_least (drop v vars), length-drop v vars)

-- two more is one more twice
two_more : (n : ℕ) → n + 2 ≡ suc (suc n)
two_more n = omega arith

-- ---- this much has been read, and what another column adds
module _ {vars : List VarInfo} {fields : List (List ℕ)} {index0 value0 : List ℤ} {v site at : ℕ} {index value : List ℤ} where
  -- there is a place for the index of a site
  pub site_fits : Filled vars fields index0 value0 v site at index value → v < length vars → starts_site (var_at vars v) ≡ true
      → length (columns vars) ≤ length vars + 5 → site < 5
  site_fits f h e few =
      let here = ap length (at_site vars v h e) in
      omega (arith, f.size, f.places, here, behind_at_least vars (suc v), few)

  -- the fields of a site and of its first coordinate are there
  pub site_room : Filled vars fields index0 value0 v site at index value → v < length vars → starts_site (var_at vars v) ≡ true
      → length fields ≡ length (columns vars) → at + 1 < length fields
  site_room f h e size = let here = ap length (at_site vars v h e) in omega (arith, f.size, here, size)

  -- and that of another variable
  pub other_room : Filled vars fields index0 value0 v site at index value → v < length vars → starts_site (var_at vars v) ≡ false
      → length fields ≡ length (columns vars) → at < length fields
  other_room f h e size = let here = ap length (at_other vars v h e) in omega (arith, f.size, here, size)

  -- one more site
  pub filled_site : (z y : ℤ) → Filled vars fields index0 value0 v site at index value → v < length vars → starts_site (var_at vars v) ≡ true
      → at + 1 < length fields → length vars ≤ 168 → length (columns vars) ≤ length vars + 5
      → in_column at (number_in (pos 0) (pos (2 ^ 63 - 1)) (get_or fields at [])) ≡ Ok z
      → in_column (at + 1) (number_in (var_at vars v).lo (var_at vars v).hi (get_or fields (at + 1) [])) ≡ Ok y
      → Filled vars fields index0 value0 (v + 1) (site + 1) (at + 2) (set index site z) (set value v y)
  filled_site z y f h e room few five p q =
      let cols = at_site vars v h e in
      let here = ap length cols in
      let fits : site < 5 = site_fits f h e five in
      let in_index : site < length index = omega (arith, f.index_size, fits) in
      let in_value : v < length value = omega (arith, f.value_size, few, h) in
      let one : Front (columns vars) fields at (SiteIndex ∷ Variable (var_at vars v) ∷ columns (drop (suc v) vars)) (take site index)
      (take v value) = rw cols at f.front in
      let two = front_index (columns vars) fields at _ _ _ z one (omega (arith, room)) p in
      let q2 : in_column (suc at) (number_in (var_at vars v).lo (var_at vars v).hi (get_or fields (suc at) [])) ≡ Ok y = rw (add-one at) at q in
      let three = front_value (columns vars) fields (suc at) _ _ _ _ y two (omega (arith, room)) q2 in
      record {
        front = rw (take_more_set index site z in_index, take_more_set value v y in_value, two_more at, add-one v) three;
        size = rw (add-one v) (omega (arith, f.size, here));
        places = omega (arith, f.places);
        within = omega (arith, h);
        index_stays = λ k l. let ne : k ≢ site = omega arith in rw get_or-set_other (f.index_stays k (omega arith));
        value_stays = λ k l. let ne : k ≢ v = omega arith in rw get_or-set_other (f.value_stays k (omega arith));
        index_size = length-set index site z ∙ f.index_size;
        value_size = length-set value v y ∙ f.value_size;
      }

  -- one more variable that begins no site
  pub filled_other : (y : ℤ) → Filled vars fields index0 value0 v site at index value → v < length vars → starts_site (var_at vars v) ≡ false
      → at < length fields → length vars ≤ 168 → in_column at (number_in (var_at vars v).lo (var_at vars v).hi (get_or fields at [])) ≡ Ok y
      → Filled vars fields index0 value0 (v + 1) site (at + 1) index (set value v y)
  filled_other y f h e room few p =
      let cols = at_other vars v h e in
      let here = ap length cols in
      let in_value : v < length value = omega (arith, f.value_size, few, h) in
      let one : Front (columns vars) fields at (Variable (var_at vars v) ∷ columns (drop (suc v) vars)) (take site index) (take v value) = rw cols at f.front in
      let two = front_value (columns vars) fields at _ _ _ _ y one room p in
      record {
        front = rw (take_more_set value v y in_value, add-one at, add-one v) two;
        size = rw (add-one v) (omega (arith, f.size, here));
        places = omega (arith, f.places);
        within = omega (arith, h);
        index_stays = λ k l. f.index_stays k l;
        value_stays = λ k l. let ne : k ≢ v = omega arith in rw get_or-set_other (f.value_stays k (omega arith));
        index_size = f.index_size;
        value_size = length-set value v y ∙ f.value_size;
      }

  -- the fault of the value after a site's index
  pub value_fault : (z : ℤ) (s : RowStop) → Filled vars fields index0 value0 v site at index value → v < length vars → starts_site (var_at vars v) ≡ true
      → length fields ≡ length (columns vars)
      → in_column at (number_in (pos 0) (pos (2 ^ 63 - 1)) (get_or fields at [])) ≡ Ok z
      → in_column (at + 1) (number_in (var_at vars v).lo (var_at vars v).hi (get_or fields (at + 1) [])) ≡ Err s
      → first_fault 0 (columns vars) fields ≡ Some s
  value_fault z s f h e size p q =
      let cols = at_site vars v h e in
      let here = ap length cols in
      let one : Front (columns vars) fields at (SiteIndex ∷ Variable (var_at vars v) ∷ columns (drop (suc v) vars)) (take site index)
      (take v value) = rw cols at f.front in
      let two = front_index (columns vars) fields at _ _ _ z one (omega (arith, f.size, here, size)) p in
      let q2 : in_column (suc at) (number_in (var_at vars v).lo (var_at vars v).hi (get_or fields (suc at) [])) ≡ Err s = rw (add-one at) at q in
      front_fault (columns vars) fields (suc at) _ _ _ _ s two (omega (arith, f.size, here, size)) q2

  -- no more sites have been read than there are
  sites_below : Filled vars fields index0 value0 v site at index value → site ≤ length (columns vars) - length vars
  sites_below f = omega (arith, f.size, f.places, behind_at_least vars v)

  -- and one more is there
  site_below : Filled vars fields index0 value0 v site at index value → v < length vars → starts_site (var_at vars v) ≡ true
      → site < length (columns vars) - length vars
  site_below f h e = let here = ap length (at_site vars v h e) in omega (arith, f.size, f.places, here, behind_at_least vars (suc v))

-- after the last variable
pub filled_all : {vars : List VarInfo} {fields : List (List ℕ)} {index0 value0 : List ℤ} {v site at : ℕ} {r : Row}
    → Filled vars fields index0 value0 v site at r.index r.values → length vars ≤ v → IsRead vars fields r
filled_all {vars = vars} {fields = fields} {v = v} {site = site} {at = at} {r = r} f h =
    let all : v ≡ length vars = omega (arith, f.within, h) in
    let none : drop v vars ≡ [] = rw (all, drop_all (length vars) vars (omega arith)) refl in
    let size : at ≡ length (columns vars) = omega (arith, ap (λ l. length (columns l)) none, f.size) in
    let sites : length (columns vars) - length vars ≡ site = omega (arith, size, all, f.places) in
    record {
      fault = sym (rw none at f.front.fault);
      index = rw sites (sym (append-nil (take site r.index)) ∙ rw none at f.front.indices);
      values = rw (← all) (sym (append-nil (take v r.values)) ∙ rw none at f.front.values);
    }

-- ---- an old row and a new one, of which this much has been read
module _ {vars : List VarInfo} {fields : List (List ℕ)} {v site at : ℕ} (old new : Row) where
  -- so what is past them stays
  pub filled_stays : Filled vars fields old.index old.values v site at new.index new.values
      → StaysPast (length (columns vars) - length vars) (length vars) old new
  filled_stays f = record {
    index = λ k h. let s = sites_below f in f.index_stays k (omega (arith, s, h));
    values = λ k h. f.value_stays k (omega (arith, f.within, h));
  }

  -- also where the index of one more site has been written
  pub index_stays_past : {index : List ℤ} (z : ℤ) → Filled vars fields old.index old.values v site at index new.values → v < length vars
      → starts_site (var_at vars v) ≡ true → new.index ≡ set index site z → StaysPast (length (columns vars) - length vars) (length vars) old new
  index_stays_past {index = index} z f h e q = record {
    index = λ k l. let s = site_below f h e in
        let ne : k ≢ site = omega (arith, s, l) in
        rw (q, get_or-set_other index site k z (pos 0) ne) (f.index_stays k (omega (arith, s, l)));
    values = λ k l. f.value_stays k (omega (arith, f.within, l));
  }

-- of a predicate with this many sites
pub stays_past : (sites : ℕ) (vars : List VarInfo) (old new : Row) → length (columns vars) ≡ length vars + sites
    → StaysPast (length (columns vars) - length vars) (length vars) old new → StaysPast sites (length vars) old new
stays_past sites vars old new e s = let n : length (columns vars) - length vars ≡ sites = omega (arith, e) in subst (λ k. StaysPast k (length vars) old new) n s

-- zeros stay zeros
pub zero_stays : (sites vars : ℕ) (old new : Row) → StaysPast sites vars old new → IsZeroPast sites vars old → IsZeroPast sites vars new
zero_stays sites vars old new s z = record { index = λ k h. s.index k h ∙ z.index k h; values = λ k h. s.values k h ∙ z.values k h }

-- a list of zeros has zeros alone
pub zeros : (n k : ℕ) → get_or (replicate n (pos 0)) k (pos 0) ≡ pos 0
zeros zero k = refl
zeros (suc n) zero = refl
zeros (suc n) (suc k) = zeros n k

-- a row of zeros
pub all_zero : IsZeroPast 0 0 (record { index = replicate 5 (pos 0); values = replicate 168 (pos 0) })
all_zero = record { index = λ k h. zeros 5 k; values = λ k h. zeros 168 k }

-- is 0 past any places
pub zero_past : (sites vars : ℕ) (r : Row) → IsZeroPast 0 0 r → IsZeroPast sites vars r
zero_past sites vars r z = record { index = λ k h. z.index k (omega arith); values = λ k h. z.values k (omega arith) }

-- ---- what a refused record leaves
-- what holds in any case holds on an error
pub on_err : {A E : Type 0} (r : Result A E) (P : Type 0) → P → OnErr r P
on_err (Ok x) P p = tt
on_err (Err e) P p = p

front_of : (xs rest all : List ℤ) (n : ℕ) → length xs ≡ n → xs ++ rest ≡ all → xs ≡ take n all
front_of [] rest all zero e q = refl
front_of [] rest all (suc n) e q = absurd (cc)
front_of (x ∷ xs) rest all zero e q = absurd (cc)
front_of (x ∷ xs) rest all (suc n) e q = rw (← q) (ap (λ l. x ∷ l) (front_of xs rest (xs ++ rest) n (omega (arith, e)) refl))

-- nothing was read
pub begun_none : (vars : List VarInfo) (fields : List (List ℕ)) (r : Row) → IsBegun vars fields r r
begun_none vars fields r = record {
  sites_read = 0;
  vars_read = 0;
  index = refl;
  value = refl;
  index_stays = λ k h. refl;
  value_stays = λ k h. refl;
}

take_self : (k : ℕ) (xs : List ℤ) → take k (take k xs) ≡ take k xs
take_self zero xs = refl
take_self (suc k) [] = refl
take_self (suc k) (x ∷ xs) = ap (λ l. x ∷ l) (take_self k xs)

-- ---- a new row for an old one, where a fault stops the reading
module _ {vars : List VarInfo} {fields : List (List ℕ)} {v site at : ℕ} (old new : Row) where
  -- the columns before one with a fault
  pub begun_filled : Filled vars fields old.index old.values v site at new.index new.values
      → length vars ≤ 168 → length (columns vars) ≤ length vars + 5 → IsBegun vars fields old new
  begun_filled f few five =
      let s = sites_below f in
      record {
        sites_read = site;
        vars_read = v;
        index = front_of _ _ _ site (length-take-le site new.index (omega (arith, s, five, f.index_size))) f.front.indices;
        value = front_of _ _ _ v (length-take-le v new.values (omega (arith, f.within, few, f.value_size))) f.front.values;
        index_stays = f.index_stays;
        value_stays = f.value_stays;
      }

  -- and the index of one more site, whose first coordinate has the fault
  pub begun_site : {index : List ℤ} (z y : ℤ) → Filled vars fields old.index old.values v site at index new.values → v < length vars
      → starts_site (var_at vars v) ≡ true → length fields ≡ length (columns vars) → length vars ≤ 168 → length (columns vars) ≤ length vars + 5
      → in_column at (number_in (pos 0) (pos (2 ^ 63 - 1)) (get_or fields at [])) ≡ Ok z → y ≡ z → new.index ≡ set index site y → IsBegun vars fields old new
  begun_site {index = index} z y f h e size few five p q r =
      let cols = at_site vars v h e in
      let here = ap length cols in
      let fits : site < 5 = site_fits f h e five in
      let in_index : site < length index = omega (arith, f.index_size, fits) in
      let one : Front (columns vars) fields at (SiteIndex ∷ Variable (var_at vars v) ∷ columns (drop (suc v) vars)) (take site index)
      (take v new.values) = rw cols at f.front in
      let left = Variable (var_at vars v) ∷ columns (drop (suc v) vars) in
      let two : Front (columns vars) fields (suc at) left (take site index ++ z ∷ []) (take v new.values) =
      front_index (columns vars) fields at left _ _ z one (omega (arith, f.size, here, size)) p in
      let front : take (site + 1) new.index ≡ take site index ++ z ∷ [] = rw (r, q) (take_more_set index site z in_index) in
      let whole : take (site + 1) new.index ++ indices left (drop (suc at) fields) ≡ indices (columns vars) fields = rw front two.indices in
      let long : length new.index ≡ 5 = rw r (length-set index site y ∙ f.index_size) in
      record {
        sites_read = site + 1;
        vars_read = v;
        index = front_of _ _ _ (site + 1) (length-take-le (site + 1) new.index (omega (arith, fits, long))) whole;
        value = front_of _ _ _ v (length-take-le v new.values (omega (arith, f.within, few, f.value_size))) f.front.values;
        index_stays = λ k l. let ne : k ≢ site = omega arith in rw (r, get_or-set_other index site k y (pos 0) ne) (f.index_stays k (omega (arith, l)));
        value_stays = f.value_stays;
      }

-- all columns were read, and an index is that of an earlier site
pub begun_read : (sites : ℕ) (vars : List VarInfo) (fields : List (List ℕ)) (old new : Row) → length (columns vars) ≡ length vars + sites
    → IsRead vars fields new
    → StaysPast (length (columns vars) - length vars) (length vars) old new → IsBegun vars fields old new
begun_read sites vars fields old new e r s =
    let n : length (columns vars) - length vars ≡ sites = omega (arith, e) in
    record {
      sites_read = sites;
      vars_read = length vars;
      index = twice sites new.index _ (rw n at r.index);
      value = twice (length vars) new.values _ r.values;
      index_stays = rw n at s.index;
      value_stays = s.values;
    }
  where
    twice : (k : ℕ) (xs ys : List ℤ) → take k xs ≡ ys → take k xs ≡ take k ys
    twice k xs ys q = rw (← q) (sym (take_self k xs))
