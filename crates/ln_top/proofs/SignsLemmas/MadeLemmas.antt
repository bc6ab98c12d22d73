-- Making a row from the left, a word for each column.
use Rattle.std.proofs.Common.{◌≡◌, ◌≢◌, ℕ, suc, ◌+◌, ◌<◌, ◌≤◌, true, false, List, []}
use Rattle.std.proofs.Common.{◌∷◌, ◌++◌, length, get_or, take, drop, set, ℤ, pos, refl, ap, ◌∙◌, arith}
use Rattle.std.proofs.Common.{add-one, append_assoc, get_or-set_other, replicate}
use Rattle.std.proofs.lemmas.List.{take_more_set, length-set, length-drop}
use Rattle.rand_pcg.specs.Lcg.{Lcg}
use Rattle.rand_pcg.specs.Pcg.{pcg64}
use Rattle.ln_tree.specs.declared.shape.VarInfo.{VarInfo}
use Rattle.ln_tree.specs.Variables.{starts_site}
use Rattle.ln_rows.specs.Record.{Column, SiteIndex, Variable, columns}
use Rattle.ln_rows.proofs.Fields.RowLemmas.{at_other, at_site, columns_at_least, var_at, zeros}
use Rattle.ln_top.specs.Signs.GenRow.{words, past, index_by, variable_by, indices_by, values_by}

-- the words of these columns, from this generator on
abbrev words_of : List Column → Lcg → List ℕ
words_of cs g = words (length cs) g

-- what has been made by the words of the columns before cs, where the generator stands at g
pub record Front (n : ℕ) (all : List Column) (first : Lcg) (site : ℕ) (cs : List Column) (g : Lcg)
    (index value : List ℤ) : Type 0 where
  pub indices : index ++ indices_by site cs (words_of cs g) ≡ indices_by 0 all (words_of all first)
  pub values : value ++ values_by n cs (words_of cs g) ≡ values_by n all (words_of all first)
  pub past : past (length cs) g ≡ past (length all) first

-- one more index
front_index : {n : ℕ} {all : List Column} {first : Lcg} {site : ℕ} {cs : List Column} {g : Lcg} {index value : List ℤ}
    → Front n all first site (SiteIndex ∷ cs) g index value
    → Front n all first (suc site) cs (pcg64 g).1 (index ++ index_by site (pcg64 g).0 ∷ []) value
front_index f = record { indices = rw append_assoc f.indices; values = f.values; past = f.past }

-- one more value
front_value : {n : ℕ} {all : List Column} {first : Lcg} {site : ℕ} {i : VarInfo} {cs : List Column} {g : Lcg}
    {index value : List ℤ} → Front n all first site (Variable i ∷ cs) g index value
    → Front n all first site cs (pcg64 g).1 index (value ++ variable_by n i (pcg64 g).0 ∷ [])
front_value f = record { indices = f.indices; values = rw append_assoc f.values; past = f.past }

-- the row that is made: its number, the variables, and the generator before it
pub record Making : Type 0 where
  pub number : ℕ
  pub vars : List VarInfo
  pub first : Lcg

-- how far it is made: how many variables and sites so far, the generator after them, and the arrays
pub record Progress : Type 0 where
  pub v : ℕ
  pub site : ℕ
  pub from : Lcg
  pub index : List ℤ
  pub value : List ℤ

-- the first variables have been made in the arrays of a row, as far as the progress says
pub record Filled (m : Making) (p : Progress) : Type 0 where
  pub front : Front m.number (columns m.vars) m.first p.site (columns (drop p.v m.vars)) p.from (take p.site p.index) (take p.v p.value)
  pub size : p.v + p.site + length (columns (drop p.v m.vars)) ≡ length (columns m.vars)
  pub within : p.v ≤ length m.vars
  pub index_zero : (k : ℕ) → p.site ≤ k → get_or p.index k (pos 0) ≡ pos 0
  pub value_zero : (k : ℕ) → p.v ≤ k → get_or p.value k (pos 0) ≡ pos 0
  pub index_size : length p.index ≡ 5
  pub value_size : length p.value ≡ 168

-- an index is that of a site by the next word, and a generator is the one after it
pub record IsIndex (site : ℕ) (g : Lcg) (index : ℤ) (after : Lcg) : Type 0 where
  pub is : index ≡ index_by site (pcg64 g).0
  pub past : after ≡ (pcg64 g).1

-- a value is that of a variable by the next word, and a generator is the one after it
pub record IsValue (n : ℕ) (var : VarInfo) (g : Lcg) (value : ℤ) (after : Lcg) : Type 0 where
  pub is : value ≡ variable_by n var (pcg64 g).0
  pub past : after ≡ (pcg64 g).1

-- variables and their sites fit in the arrays of a row
pub record AreFew (vars : List VarInfo) : Type 0 where
  pub vars_fit : length vars ≤ 168
  pub sites_fit : length (columns vars) ≤ length vars + 5

-- before any variable
pub filled_none : (n : ℕ) (vars : List VarInfo) (first : Lcg) → Filled (record { number = n; vars = vars; first = first }) (record {
  v = 0;
  site = 0;
  from = first;
  index = replicate 5 (pos 0);
  value = replicate 168 (pos 0);
})
filled_none n vars first = record {
  front = record { indices = refl; values = refl; past = refl };
  size = omega arith;
  within = omega arith;
  index_zero = λ k h. zeros 5 k;
  value_zero = λ k h. zeros 168 k;
  index_size = refl;
  value_size = refl;
}

-- there is a place for the index of a site
pub site_fits : {m : Making} {p : Progress} → Filled m p → p.v < length m.vars → starts_site (var_at m.vars p.v) ≡ true
    → length (columns m.vars) ≤ length m.vars + 5 → p.site < 5
site_fits {m = m} {p = p} f h e few =
    let here = ap length (at_site m.vars p.v h e) in
    omega (arith, f.size, here, columns_at_least (drop (suc p.v) m.vars), length-drop (suc p.v) m.vars, few)

-- one more site
pub filled_site : {m : Making} {p : Progress} {z y : ℤ} {one two : Lcg} → Filled m p → p.v < length m.vars
    → starts_site (var_at m.vars p.v) ≡ true → AreFew m.vars → IsIndex p.site p.from z one
    → IsValue m.number (var_at m.vars p.v) one y two
    → Filled m (record { v = p.v + 1; site = p.site + 1; from = two; index = set p.index p.site z; value = set p.value p.v y })
filled_site {m = m} {p = p} {z = z} {y = y} f h e few i w =
    let v = p.v in
    let site = p.site in
    let cols = at_site m.vars v h e in
    let here = ap length cols in
    let fits : site < 5 = site_fits f h e few.sites_fit in
    let in_index : site < length p.index = omega (arith, f.index_size, fits) in
    let in_value : v < length p.value = omega (arith, f.value_size, few.vars_fit, h) in
    let start : Front m.number (columns m.vars) m.first site (SiteIndex ∷ Variable (var_at m.vars v) ∷ columns (drop (suc v) m.vars))
    p.from (take site p.index) (take v p.value) = rw cols at f.front in
    let mid = front_index start in
    let end = front_value mid in
    record {
      front = rw (take_more_set p.index site z in_index, take_more_set p.value v y in_value, add-one site, add-one v, w.past, w.is, i.past, i.is) end;
      size = rw (add-one v) (omega (arith, f.size, here));
      within = omega (arith, h);
      index_zero = λ k l. let ne : k ≢ site = omega arith in rw get_or-set_other (f.index_zero k (omega arith));
      value_zero = λ k l. let ne : k ≢ v = omega arith in rw get_or-set_other (f.value_zero k (omega arith));
      index_size = length-set p.index site z ∙ f.index_size;
      value_size = length-set p.value v y ∙ f.value_size;
    }

-- one more variable that begins no site
pub filled_other : {m : Making} {p : Progress} {y : ℤ} {two : Lcg} → Filled m p → p.v < length m.vars
    → starts_site (var_at m.vars p.v) ≡ false → length m.vars ≤ 168 → IsValue m.number (var_at m.vars p.v) p.from y two
    → Filled m (record { v = p.v + 1; site = p.site; from = two; index = p.index; value = set p.value p.v y })
filled_other {m = m} {p = p} {y = y} f h e few w =
    let v = p.v in
    let site = p.site in
    let cols = at_other m.vars v h e in
    let here = ap length cols in
    let in_value : v < length p.value = omega (arith, f.value_size, few, h) in
    let start : Front m.number (columns m.vars) m.first site (Variable (var_at m.vars v) ∷ columns (drop (suc v) m.vars)) p.from
    (take site p.index) (take v p.value) = rw cols at f.front in
    let end = front_value start in
    record {
      front = rw (take_more_set p.value v y in_value, add-one v, w.past, w.is) end;
      size = rw (add-one v) (omega (arith, f.size, here));
      within = omega (arith, h);
      index_zero = λ k l. f.index_zero k l;
      value_zero = λ k l. let ne : k ≢ v = omega arith in rw get_or-set_other (f.value_zero k (omega arith));
      index_size = f.index_size;
      value_size = length-set p.value v y ∙ f.value_size;
    }
