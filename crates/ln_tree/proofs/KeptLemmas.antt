-- What the facts that shapes and predicates keep say of their parts.
use Rattle.std.proofs.Common.{◌≡◌, ℕ, ◌≤◌, true, List, length, suc, [], ◌∷◌, ℤ, refl, ap}
use Rattle.std.specs.Prelude.{nat_le, ◌&&◌, ◌==◌, count_by}
use Rattle.std.specs.List.{list_all}
use Rattle.std.proofs.lemmas.Bool.{and_parts, eqb-true, leb-true}
use Rattle.ln_tree.specs.declared.shape.VarInfo.{VarInfo}
use Rattle.ln_tree.specs.Variables.{is_laid_out, in_order, no_var, has_range, starts_site, is_param}
use Rattle.ln_tree.specs.Row.{AreWithin}

-- what variables that are laid out keep, one by one
pub record LaidOut (sites : ℕ) (vars : List VarInfo) : Type 0 where
  pub order : in_order 0 0 no_var vars ≡ true
  pub ranges : list_all has_range vars ≡ true
  pub counted : count_by starts_site vars ≡ sites
  pub few_sites : sites ≤ 5
  pub few_params : count_by is_param vars ≤ 8
  pub few_vars : length vars ≤ 168

-- they keep it
pub laid_out : (sites : ℕ) (vars : List VarInfo) → is_laid_out sites vars ≡ true → LaidOut sites vars
laid_out sites vars h =
    let a = and_parts (in_order 0 0 no_var vars && list_all has_range vars && (count_by starts_site vars == sites) && nat_le sites 5
    && nat_le (count_by is_param vars) 8) (nat_le (length vars) 168) h in
    let b = and_parts (in_order 0 0 no_var vars && list_all has_range vars && (count_by starts_site vars == sites) && nat_le sites 5)
    (nat_le (count_by is_param vars) 8) a.0 in
    let c = and_parts (in_order 0 0 no_var vars && list_all has_range vars && (count_by starts_site vars == sites)) (nat_le sites 5) b.0 in
    let d = and_parts (in_order 0 0 no_var vars && list_all has_range vars) (count_by starts_site vars == sites) c.0 in
    let e = and_parts (in_order 0 0 no_var vars) (list_all has_range vars) d.0 in
    record {
      order = e.0;
      ranges = e.1;
      counted = eqb-true (count_by starts_site vars) sites d.1;
      few_sites = leb-true sites 5 c.1;
      few_params = leb-true (count_by is_param vars) 8 b.1;
      few_vars = leb-true (length vars) 168 a.1;
    }

-- a shape has at most 168 variables
pub few_vars : (sites : ℕ) (vars : List VarInfo) → is_laid_out sites vars ≡ true → length vars ≤ 168
few_vars sites vars h = (laid_out sites vars h).few_vars

-- a row in range has a value for each variable
pub within_length : (vars : List VarInfo) (zs : List ℤ) → AreWithin vars zs → length zs ≡ length vars
within_length [] [] h = refl
within_length [] (z ∷ zs) h = absurd h
within_length (i ∷ is) [] h = absurd h
within_length (i ∷ is) (z ∷ zs) h = ap suc (within_length is zs h.2)
