-- The variables and columns of a predicate of the table are those of its declared arguments.
use Rattle.std.proofs.Common.{◌≡◌, ℕ, suc, arith, Bool, true, false, cond, ◌&&◌, Option, Some, None, ℤ, pos, refl, ap, ◌∙◌, subst}
use Rattle.std.specs.Prelude.{map, List, [], ◌∷◌, ◌++◌, slice_get}
use Rattle.std.specs.List.{find, list_any, position_or_len}
use Rattle.ln_base.specs.declared.span.Span.{Span}
use Rattle.ln_syntax.specs.declared.raw.RawArg.{RawArg}
use Rattle.ln_syntax.specs.declared.raw.RawCoord.{RawCoord}
use Rattle.ln_syntax.specs.declared.raw.RawEnd.{RawEnd}
use Rattle.ln_syntax.specs.declared.raw.RawRange.{RawRange}
use Rattle.ln_syntax.specs.Raw.{Item, ParamItem, PredItem, SiteItem, is_param, is_site, item_name, same, text}
use Rattle.ln_names.specs.Limits.{ArgWithin, Each, IsKnown}
use Rattle.ln_names.specs.Numbers as names
use Rattle.ln_names.specs.Numbers.{end_value, signed}
use Rattle.ln_parse.specs.Says.{arg_said, param_names, params_said, place, ranged, site_names, sites_said}
use Rattle.ln_parse.proofs.Expressions.Found.{any_param, any_site, get_longer, place_len}
use Rattle.ln_rows.specs.Header as header
use Rattle.ln_tree.specs.Table.{ArgOf, CoordOf, SiteOf}
use Rattle.ln_tree.specs.Whole.{coords_or, param_vars, site_vars, vars_behind}
use Rattle.ln_top.specs.Guarantee.{PredArgument, Ranged, SiteType, Word, columns_of_arguments}
use Rattle.ln_top.proofs.GuaranteeLemmas.Expr.{number_is}
use Rattle.ln_top.proofs.GuaranteeLemmas.Items.{a_param, a_site, ArgsMean, an_arg, no_arg, CoordsMean, coord, no_coord, EndMeans, minus, plain}
use Rattle.ln_top.proofs.GuaranteeLemmas.Names.{ParamsThere, TypesThere}
use Rattle.ln_top.proofs.GuaranteeLemmas.Rows.{coords_vars, vars_for}

-- the end of a range is what it means
pub end_is : (bytes : List ℕ) (e : RawEnd) (z : ℤ) → EndMeans bytes e z → end_value bytes e ≡ z
end_is bytes e z (plain h) = ap (λ (b : Bool). signed b (names.number bytes e.at)) h ∙ ap pos (number_is bytes e.at)
end_is bytes e z (minus h) = ap (λ (b : Bool). signed b (names.number bytes e.at)) h ∙ ap (λ (n : ℕ). signed true n) (number_is bytes e.at)

-- ---- what the table has at the place of a name
head_len : {A : Type 0} (p : A → Bool) (x : A) (xs : List A) → p x ≡ true → position_or_len p (x ∷ xs) ≡ 0
head_len p x xs h = rw h refl

tail_len : {A : Type 0} (p : A → Bool) (x : A) (xs : List A) → p x ≡ false → position_or_len p (x ∷ xs) ≡ suc (position_or_len p xs)
tail_len p x xs h = rw h (omega arith)

module _ (bytes : List ℕ) (q : Span → Bool) where
  abbrev site_is : Span → List RawCoord → SiteOf
  site_is n cs = record { name = text bytes n; coords = map (λ (c : RawCoord). ranged bytes c.name c.range) cs }

  site_step : (m : Span) (ds : List RawCoord) (is : List Item) (n : Span) (cs : List RawCoord) (b : Bool) → q m ≡ b
      → cond b (Some (SiteItem m ds)) (find (λ (i : Item). is_site i && q (item_name i)) is) ≡ Some (SiteItem n cs)
      → (find (λ (i : Item). is_site i && q (item_name i)) is ≡ Some (SiteItem n cs)
      → slice_get (sites_said bytes is) (position_or_len q (site_names is)) ≡ Some (site_is n cs))
      → slice_get (site_is m ds ∷ sites_said bytes is) (position_or_len q (m ∷ site_names is)) ≡ Some (site_is n cs)
  site_step m ds is n cs true e h ih =
      let l = head_len q m (site_names is) e in
      let same_name : m ≡ n = cc in
      let same_coords : ds ≡ cs = cc in
      rw l (λ i. Some (site_is (same_name i) (same_coords i)))
  site_step m ds is n cs false e h ih = let l = tail_len q m (site_names is) e in rw l (ih h)

  site_found : (is : List Item) (n : Span) (cs : List RawCoord) → find (λ (i : Item). is_site i && q (item_name i)) is ≡ Some (SiteItem n cs)
      → slice_get (sites_said bytes is) (position_or_len q (site_names is)) ≡ Some (site_is n cs)
  site_found [] n cs h = absurd (cc)
  site_found (SiteItem m ds ∷ is) n cs h = site_step m ds is n cs (q m) refl h (site_found is n cs)
  site_found (ParamItem m r ∷ is) n cs h = site_found is n cs h
  site_found (PredItem m a l r ∷ is) n cs h = site_found is n cs h

  param_step : (m : Span) (d : RawRange) (is : List Item) (n : Span) (r : RawRange) (b : Bool) → q m ≡ b
      → cond b (Some (ParamItem m d)) (find (λ (i : Item). is_param i && q (item_name i)) is) ≡ Some (ParamItem n r)
      → (find (λ (i : Item). is_param i && q (item_name i)) is ≡ Some (ParamItem n r)
      → slice_get (params_said bytes is) (position_or_len q (param_names is)) ≡ Some (ranged bytes n r))
      → slice_get (ranged bytes m d ∷ params_said bytes is) (position_or_len q (m ∷ param_names is)) ≡ Some (ranged bytes n r)
  param_step m d is n r true e h ih =
      let l = head_len q m (param_names is) e in
      let same_name : m ≡ n = cc in
      let same_range : d ≡ r = cc in
      rw l (λ i. Some (ranged bytes (same_name i) (same_range i)))
  param_step m d is n r false e h ih = let l = tail_len q m (param_names is) e in rw l (ih h)

  param_found : (is : List Item) (n : Span) (r : RawRange) → find (λ (i : Item). is_param i && q (item_name i)) is ≡ Some (ParamItem n r)
      → slice_get (params_said bytes is) (position_or_len q (param_names is)) ≡ Some (ranged bytes n r)
  param_found [] n r h = absurd (cc)
  param_found (SiteItem m ds ∷ is) n r h = param_found is n r h
  param_found (ParamItem m d ∷ is) n r h = param_step m d is n r (q m) refl h (param_found is n r)
  param_found (PredItem m a l x ∷ is) n r h = param_found is n r h

-- ---- coordinates
coords_same : (bytes : List ℕ) (k s c : ℕ) {cs : List RawCoord} {rs : List Ranged} → CoordsMean bytes cs rs
    → site_vars k s c (map (λ (c : RawCoord). ranged bytes c.name c.range) cs) ≡ coords_vars k s c rs
coords_same bytes k s c no_coord = refl
coords_same bytes k s c (coord {c = rc} {r = r} n m rest) =
    let lo = end_is bytes rc.range.low r.lo m.low in
    let hi = end_is bytes rc.range.high r.hi m.high in
    let ih = coords_same bytes k s (suc c) rest in
    (λ i. record { arg = k; site = Some s; coord = c; lo = lo i; hi = hi i } ∷ ih i)

coords_named : (bytes : List ℕ) (n : Word) {cs : List RawCoord} {rs : List Ranged} → CoordsMean bytes cs rs
    → map (header.coord_name n) (map (λ (c : RawCoord). ranged bytes c.name c.range) cs) ≡ map (λ (c : Ranged). n ++ 46 ∷ c.name) rs
coords_named bytes n no_coord = refl
coords_named bytes n (coord {c = rc} {r = r} e m rest) =
    let ih = coords_named bytes n rest in
    (λ i. (n ++ 46 ∷ e i) ∷ ih i)

-- ---- arguments
module _ (bytes : List ℕ) (is : List Item) (types : List SiteType) (params : List Ranged) (S : List SiteOf) (P : List CoordOf) where
  -- the items so far are among those of the table, and found by name
  pub record Holds : Type 0 where
    pub types_there : TypesThere bytes is types params
    pub params_there : ParamsThere bytes is types params
    pub more_sites : List SiteOf
    pub sites_are : S ≡ sites_said bytes is ++ more_sites
    pub more_params : List CoordOf
    pub params_are : P ≡ params_said bytes is ++ more_params

  abbrev args_said : List RawArg → List ArgOf
  args_said rargs = map (λ (a : RawArg). arg_said bytes is a a.is_param) rargs

  known_site : (a : RawArg) → a.is_param ≡ false → IsKnown bytes is a a.is_param → list_any (λ (n : Span). same bytes n a.kind) (site_names is) ≡ true
  known_site a q h =
      any_site (λ (n : Span). same bytes n a.kind) is ∙ subst (λ (b : Bool). IsKnown bytes is a b) q h

  known_param : (a : RawArg) → a.is_param ≡ true → IsKnown bytes is a a.is_param → list_any (λ (n : Span). same bytes n a.name) (param_names is) ≡ true
  known_param a q h =
      any_param (λ (n : Span). same bytes n a.name) is ∙ subst (λ (b : Bool). IsKnown bytes is a b) q h

  site_got : Holds → (a : RawArg) (n : Span) (cs : List RawCoord) → a.is_param ≡ false → IsKnown bytes is a a.is_param
      → find (λ (i : Item). is_site i && same bytes (item_name i) a.kind) is ≡ Some (SiteItem n cs)
      → slice_get S (place (λ (n : Span). same bytes n a.kind) (site_names is)) ≡ Some (site_is bytes (λ (n : Span). same bytes n a.kind) n cs)
  site_got h a n cs q k f =
      let p : Span → Bool = λ (n : Span). same bytes n a.kind in
      ap (slice_get S) (place_len p (site_names is) (known_site a q k))
      ∙ ap (λ (z : List SiteOf). slice_get z (position_or_len p (site_names is))) h.sites_are
      ∙ get_longer (sites_said bytes is) h.more_sites (position_or_len p (site_names is)) (site_is bytes p n cs) (site_found bytes p is n cs f)

  param_got : Holds → (a : RawArg) (n : Span) (r : RawRange) → a.is_param ≡ true → IsKnown bytes is a a.is_param
      → find (λ (i : Item). is_param i && same bytes (item_name i) a.name) is ≡ Some (ParamItem n r)
      → slice_get P (place (λ (n : Span). same bytes n a.name) (param_names is)) ≡ Some (ranged bytes n r)
  param_got h a n r q k f =
      let p : Span → Bool = λ (n : Span). same bytes n a.name in
      ap (slice_get P) (place_len p (param_names is) (known_param a q k))
      ∙ ap (λ (z : List CoordOf). slice_get z (position_or_len p (param_names is))) h.params_are
      ∙ get_longer (params_said bytes is) h.more_params (position_or_len p (param_names is)) (ranged bytes n r) (param_found bytes p is n r f)

  -- the variables of the table are those of the arguments
  pub args_vars : Holds → {rargs : List RawArg} {bs : List PredArgument} → ArgsMean bytes types params rargs bs → (before : List RawArg) (k s : ℕ)
      → Each (ArgWithin bytes is) before rargs → vars_behind S P k s (args_said rargs) ≡ vars_for k s bs
  args_vars h no_arg before k s w = refl
  args_vars h (an_arg {as' = rest} {bs = bs} (a_site {a = a} {t = t} q n d x) m) before k s w =
      let y = h.types_there t a.kind d x in
      let g = site_got h a y.name y.cs q w.0.known y.found in
      let ih = args_vars h m (before ++ a ∷ []) (suc k) (suc s) w.1 in
      ap (λ (b : Bool). vars_behind S P k s (arg_said bytes is a b ∷ args_said rest)) q
      ∙ ap (λ (o : Option SiteOf). site_vars k s 0 (coords_or o) ++ vars_behind S P (suc k) (suc s) (args_said rest)) g
      ∙ (λ i. coords_same bytes k s 0 y.means i ++ ih i)
  args_vars h (an_arg {as' = rest} {bs = bs} (a_param {a = a} {p = p} q d x) m) before k s w =
      let y = h.params_there p a.name d x in
      let g = param_got h a y.name y.range q w.0.known y.found in
      let ih = args_vars h m (before ++ a ∷ []) (suc k) s w.1 in
      let lo = end_is bytes y.range.low p.lo y.means.low in
      let hi = end_is bytes y.range.high p.hi y.means.high in
      ap (λ (b : Bool). vars_behind S P k s (arg_said bytes is a b ∷ args_said rest)) q
      ∙ ap (λ (o : Option CoordOf). param_vars k o ++ vars_behind S P (suc k) s (args_said rest)) g
      ∙ (λ i. record { arg = k; site = None; coord = 0; lo = lo i; hi = hi i } ∷ ih i)

  -- and so are the columns
  pub args_columns : Holds → {rargs : List RawArg} {bs : List PredArgument} → ArgsMean bytes types params rargs bs → (before : List RawArg)
      → Each (ArgWithin bytes is) before rargs → header.names_over S P (args_said rargs) ≡ columns_of_arguments bs
  args_columns h no_arg before w = refl
  args_columns h (an_arg {as' = rest} {bs = bs} (a_site {a = a} {t = t} q n d x) m) before w =
      let y = h.types_there t a.kind d x in
      let g = site_got h a y.name y.cs q w.0.known y.found in
      let ih = args_columns h m (before ++ a ∷ []) w.1 in
      ap (λ (b : Bool). header.names_over S P (arg_said bytes is a b ∷ args_said rest)) q
      ∙ ap (λ (o : Option SiteOf). header.site_names (text bytes a.name) o ++ header.names_over S P (args_said rest)) g
      ∙ (λ i. text bytes a.name ∷ (coords_named bytes (text bytes a.name) y.means i ++ ih i))
  args_columns h (an_arg {as' = rest} {bs = bs} (a_param {a = a} {p = p} q d x) m) before w =
      let y = h.params_there p a.name d x in
      let g = param_got h a y.name y.range q w.0.known y.found in
      let ih = args_columns h m (before ++ a ∷ []) w.1 in
      ap (λ (b : Bool). header.names_over S P (arg_said bytes is a b ∷ args_said rest)) q
      ∙ ap (λ (o : Option CoordOf). header.param_names o ++ header.names_over S P (args_said rest)) g
      ∙ (λ i. y.named i ∷ ih i)
