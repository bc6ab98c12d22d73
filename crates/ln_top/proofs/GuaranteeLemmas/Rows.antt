-- Fields that are a row of declared arguments are a row of their variables, which is in range.
use Rattle.std.proofs.Common.{◌≡◌, ◌≢◌, ℕ, suc, arith, length, Bool, true, false, ℤ, pos, Some, None, refl, ap}
use Rattle.std.specs.Prelude.{List, [], ◌∷◌, ◌++◌, map, option_map, ◌==◌, if◌then◌else◌}
use Rattle.std.proofs.lemmas.Bool.Decides.{nat_tests}
use Rattle.std.proofs.lemmas.Bool.{and_parts}
use Rattle.std.proofs.lemmas.Option.{none-some}
use Rattle.std.specs.List.{list_all}
use Rattle.std.specs.Char.{is_ascii_digit}
use Rattle.std.specs.Prelude.{nat_lt}
use Rattle.ln_base.specs.Decimal.{decimal_value, integer_value, is_digits, natural_value}
use Rattle.ln_tree.specs.declared.shape.VarInfo.{VarInfo}
use Rattle.ln_tree.specs.Row.{AreWithin}
use Rattle.ln_top.specs.Guarantee as told
use Rattle.ln_top.specs.Guarantee.{AreRowFields, AreValues, PredArgument, OfParam, OfType, Ranged}
use Rattle.ln_top.proofs.GuaranteeLemmas.ByTable as by_table
use Rattle.ln_top.proofs.GuaranteeLemmas.ByTable.{FieldsSay}

-- the variables of arguments, from argument k and site s on
abbrev pub coords_vars : ℕ → ℕ → ℕ → List Ranged → List VarInfo
coords_vars k s c [] = []
coords_vars k s c (r ∷ rs) = record { arg = k; site = Some s; coord = c; lo = r.lo; hi = r.hi } ∷ coords_vars k s (suc c) rs

-- of all arguments
abbrev pub vars_for : ℕ → ℕ → List PredArgument → List VarInfo
vars_for k s [] = []
vars_for k s (OfType n t ∷ args) = coords_vars k s 0 t.coords ++ vars_for (suc k) (suc s) args
vars_for k s (OfParam p ∷ args) = record { arg = k; site = None; coord = 0; lo = p.lo; hi = p.hi } ∷ vars_for (suc k) s args

-- each site type has a coordinate
abbrev pub HaveCoords : List PredArgument → Type 0
HaveCoords [] = Unit {0}
HaveCoords (OfType n t ∷ args) = (t.coords ≢ []) × HaveCoords args
HaveCoords (OfParam p ∷ args) = HaveCoords args

later_coord : (c : ℕ) → (suc c == 0) ≡ false
later_coord c = grind (arith, nat_tests)

natural_integer : (f : List ℕ) (n : ℕ) → natural_value f ≡ Some n → integer_value f ≡ Some (pos n)
natural_integer [] n h = absurd (cc)
natural_integer (b ∷ bs) n h = go (is_digits (b ∷ bs)) refl h
  where
    go : (v : Bool) → is_digits (b ∷ bs) ≡ v → (if v then Some (decimal_value (b ∷ bs)) else None) ≡ Some n
        → integer_value (b ∷ bs) ≡ Some (pos n)
    go false e k = absurd (none-some n k)
    go true e k =
        let p = and_parts (list_all is_ascii_digit (b ∷ bs)) (nat_lt 0 (length (b ∷ bs))) e in
        let q = and_parts (is_ascii_digit b) (list_all is_ascii_digit bs) p.0 in
        let m : (b == 45) ≡ false = grind (arith, nat_tests, q.0) in
        rw m (ap (option_map pos) h)

rest_say : {rs : List Ranged} {gs fs : List (List ℕ)} {ys zs : List ℤ} {vs : List VarInfo} {index : List ℤ} → AreValues rs gs ys
    → (k s c : ℕ) → FieldsSay vs fs index zs → FieldsSay (coords_vars k s (suc c) rs ++ vs) (gs ++ fs) index (ys ++ zs)
rest_say told.none k s c h = h
rest_say (told.more e l u rest) k s c h = by_table.next (later_coord c) e (rest_say rest k s (suc c) h)

-- fields that are a row of arguments are one of their variables
pub fields_say : {args : List PredArgument} {fs : List (List ℕ)} {ns : List ℕ} {zs : List ℤ} → AreRowFields args fs ns zs → (k s : ℕ)
    → HaveCoords args → FieldsSay (vars_for k s args) fs (map pos ns) zs
fields_say told.none k s h = by_table.none
fields_say (told.site {f = f} {n = n} a b told.none rest) k s h = absurd (h.0 refl)
fields_say (told.site {f = f} {n = n} a b (told.more e l u others) rest) k s h =
    by_table.site refl (natural_integer f n a) e (rest_say others k s 0 (fields_say rest (suc k) (suc s) h.1))
fields_say (told.param (told.more e l u told.none) rest) k s h = by_table.next refl e (fields_say rest (suc k) s h)

rest_within : {rs : List Ranged} {gs : List (List ℕ)} {ys : List ℤ} (zs : List ℤ) (vs : List VarInfo) → AreValues rs gs ys → (k s c : ℕ) → AreWithin vs zs
    → AreWithin (coords_vars k s c rs ++ vs) (ys ++ zs)
rest_within zs vs told.none k s c w = w
rest_within zs vs (told.more e l u rest) k s c w = (l, u, rest_within zs vs rest k s (suc c) w)

-- whose values are in their ranges
pub fields_within : {args : List PredArgument} {fs : List (List ℕ)} {ns : List ℕ} {zs : List ℤ} → AreRowFields args fs ns zs → (k s : ℕ)
    → AreWithin (vars_for k s args) zs
fields_within told.none k s = tt
fields_within (told.site {args = args} {zs = zs} a b v rest) k s = rest_within zs (vars_for (suc k) (suc s) args) v k s 0 (fields_within rest (suc k) (suc s))
fields_within (told.param (told.more e l u told.none) rest) k s = (l, u, fields_within rest (suc k) s)
