-- What names stand for is there.
use Rattle.std.proofs.Common.{◌≡◌, ℕ, zero, suc, ◌+◌, ◌<◌, ◌==◌, ◌&&◌, ◌||◌, Bool, true, false, cond, nat_lt, List, [], ◌∷◌}
use Rattle.std.proofs.Common.{◌++◌, length, take, map, Option, Some, None, refl, ap, sym, ◌∙◌, subst, arith, append_assoc, append-nil}
use Rattle.std.specs.Prelude.{slice_get, position, filter_map, count_by, is_some}
use Rattle.std.specs.List.{list_any, find, position_or_len, cons_option}
use Rattle.std.proofs.lemmas.Bool.{and_from, or_left, or_right, ltb-true, lt-ltb, eq-eqb}
use Rattle.std.proofs.lemmas.List.Folds.{list_any-append}
use Rattle.ln_syntax.specs.Raw.{Span, Item, SiteItem, ParamItem, PredItem, item_name, is_site, is_param, coords_in, text}
use Rattle.ln_parse.specs.Says.{RawCoord, place, ranged, site_names, param_names, sites_said, params_said, site_vars, coords_or, param_vars, vars_behind}
use Rattle.ln_names.specs.Limits.{Each}
use Rattle.ln_tree.specs.declared.shape.VarInfo.{VarInfo}
use Rattle.ln_tree.specs.Variables.{is_var, number_or_end}
use Rattle.ln_tree.specs.Table.{CoordOf, SiteOf, ArgOf, SiteArg, ParamArg}
use Rattle.ln_parse.proofs.Building.LaidOut.{count_cons}

-- the first place of an element that passes
len_head : {A : Type 0} (p : A → Bool) (x : A) (xs : List A) → p x ≡ true → position_or_len p (x ∷ xs) ≡ 0
len_head p x xs h = rw h refl

len_tail : {A : Type 0} (p : A → Bool) (x : A) (xs : List A) → p x ≡ false → position_or_len p (x ∷ xs) ≡ suc (position_or_len p xs)
len_tail p x xs h = rw h (omega arith)

-- an element that passes: where it is, and that it is found
pub record Found {A : Type 0} (p : A → Bool) (xs : List A) (n : ℕ) : Type 0 where
  pub element : A
  pub there : slice_get xs n ≡ Some element
  pub passes : p element ≡ true
  pub found : find p xs ≡ Some element
  pub below : n < length xs

found_by : {A : Type 0} (p : A → Bool) (x : A) (xs : List A) (b : Bool) → p x ≡ b → (b || list_any p xs) ≡ true
    → (list_any p xs ≡ true → Found p xs (position_or_len p xs)) → Found p (x ∷ xs) (position_or_len p (x ∷ xs))
found_by p x xs true e h on =
    let q = len_head p x xs e in
    record { element = x; there = rw q refl; passes = e; found = rw e refl; below = omega arith }
found_by p x xs false e h on =
    let q = len_tail p x xs e in
    let r = on h in
    record { element = r.element; there = rw q r.there; passes = r.passes; found = rw e r.found; below = let l = r.below in omega arith }

found_len : {A : Type 0} (p : A → Bool) (xs : List A) → list_any p xs ≡ true → Found p xs (position_or_len p xs)
found_len p [] h = absurd (cc)
found_len p (x ∷ xs) h = found_by p x xs (p x) refl h (found_len p xs)

-- the place is that of the first element that passes
pub place_len : {A : Type 0} (p : A → Bool) (xs : List A) → list_any p xs ≡ true → place p xs ≡ position_or_len p xs
place_len p xs h = let e = lt-ltb (position_or_len p xs) (length xs) (found_len p xs h).below in rw e refl

-- where some element passes, it is found at its place
pub found_at : {A : Type 0} (p : A → Bool) (xs : List A) → list_any p xs ≡ true → Found p xs (place p xs)
found_at p xs h = subst (λ (n : ℕ). Found p xs n) (sym (place_len p xs h)) (found_len p xs h)

-- a position is below the length
position_by : (b : Bool) (n l j : ℕ) → nat_lt n l ≡ b → cond b (Some n) None ≡ Some j → j < l
position_by true n l j e h = let q : n ≡ j = cc in let r = ltb-true n l e in omega arith
position_by false n l j e h = absurd (cc)

position_at : (b : Bool) (n j : ℕ) → cond b (Some n) None ≡ Some j → n ≡ j
position_at true n j h = cc
position_at false n j h = absurd (cc)

-- a position is that of the first that passes
pub position_is_len : {A : Type 0} (p : A → Bool) (xs : List A) (j : ℕ) → position p xs ≡ Some j → position_or_len p xs ≡ j
position_is_len p xs j h = position_at (nat_lt (position_or_len p xs) (length xs)) (position_or_len p xs) j h

-- and so the position of the first that passes is
pub position_below : {A : Type 0} (p : A → Bool) (xs : List A) (j : ℕ) → position p xs ≡ Some j → j < length xs
position_below p xs j h = position_by (nat_lt (position_or_len p xs) (length xs)) (position_or_len p xs) (length xs) j refl h

no_position_by : {A : Type 0} (p : A → Bool) (xs : List A) (b : Bool) → list_any p xs ≡ b → position p xs ≡ None → list_any p xs ≡ false
no_position_by p xs false e h = e
no_position_by p xs true e h = let q = lt-ltb (position_or_len p xs) (length xs) (found_len p xs e).below in absurd (let r = rw q at h in cc)

-- where there is no position, none passes
pub no_position : {A : Type 0} (p : A → Bool) (xs : List A) → position p xs ≡ None → list_any p xs ≡ false
no_position p xs h = no_position_by p xs (list_any p xs) refl h

-- a variable that is there has a number
pub number_below : (vars : List VarInfo) (k c : ℕ) → list_any (is_var k c) vars ≡ true → number_or_end vars k c < length vars
number_below vars k c h =
    let l = (found_len (is_var k c) vars h).below in
    let e = lt-ltb (position_or_len (is_var k c) vars) (length vars) l in
    rw e l

-- the same with the number of the argument as it is counted from 0 on
pub number_from : (vars : List VarInfo) (k c : ℕ) → list_any (is_var (0 + k) c) vars ≡ true → number_or_end vars k c < length vars
number_from vars k c h = let e : 0 + k ≡ k = omega arith in number_below vars k c (subst (λ (w : ℕ). list_any (is_var w c) vars ≡ true) e h)

any_left : {A : Type 0} (p : A → Bool) (xs ys : List A) → list_any p xs ≡ true → list_any p (xs ++ ys) ≡ true
any_left p xs ys h = list_any-append p xs ys ∙ or_left _ _ h

any_right : {A : Type 0} (p : A → Bool) (xs ys : List A) → list_any p ys ≡ true → list_any p (xs ++ ys) ≡ true
any_right p xs ys h = list_any-append p xs ys ∙ or_right _ _ h

site_there : (k s n c : ℕ) (xs : List CoordOf) → c < length xs → list_any (is_var k (n + c)) (site_vars k s n xs) ≡ true
site_there k s n c [] h = absurd (omega arith)
site_there k s n zero (x ∷ xs) h = or_left _ _ (and_from (k == k) (n == n + 0) (eq-eqb k k refl) (eq-eqb n (n + 0) (omega arith)))
site_there k s n (suc c) (x ∷ xs) h =
    let e : suc n + c ≡ n + suc c = omega arith in
    or_right _ _ (subst (λ (w : ℕ). list_any (is_var k w) (site_vars k s (suc n) xs) ≡ true) e (site_there k s (suc n) c xs (omega arith)))

-- argument d is a site of a type that has a coordinate c
pub record HasCoord (S : List SiteOf) (args : List ArgOf) (d c : ℕ) : Type 0 where
  pub name : List ℕ
  pub type : ℕ
  pub site : SiteOf
  pub arg_is : slice_get args d ≡ Some (SiteArg name type)
  pub type_is : slice_get S type ≡ Some site
  pub below : c < length site.coords

-- the coordinates of a site argument are variables
pub coord_there : (S : List SiteOf) (P : List CoordOf) (a s d c : ℕ) (args : List ArgOf) → HasCoord S args d c
    → list_any (is_var (a + d) c) (vars_behind S P a s args) ≡ true
coord_there S P a s d c [] h = let e = h.arg_is in absurd (cc)
coord_there S P a s zero c (SiteArg m u ∷ args) h =
    let e = h.arg_is in
    let x = h.site in
    let q : u ≡ h.type = cc in
    let f : slice_get S u ≡ Some x = ap (slice_get S) q ∙ h.type_is in
    let z : a + 0 ≡ a = omega arith in
    let w : 0 + c ≡ c = omega arith in
    let r : list_any (is_var a c) (site_vars a s 0 x.coords) ≡ true =
    subst (λ (v : ℕ). list_any (is_var a v) (site_vars a s 0 x.coords) ≡ true) w (site_there a s 0 c x.coords h.below) in
    rw (z, f) (any_left (is_var a c) (site_vars a s 0 x.coords) (vars_behind S P (suc a) (suc s) args) r)
coord_there S P a s zero c (ParamArg p ∷ args) h = let e = h.arg_is in absurd (cc)
coord_there S P a s (suc d) c (SiteArg m u ∷ args) h =
    let z : suc a + d ≡ a + suc d = omega arith in
    let later : HasCoord S args d c =
    record { name = h.name; type = h.type; site = h.site; arg_is = h.arg_is; type_is = h.type_is; below = h.below } in
    let r = subst (λ (w : ℕ). list_any (is_var w c) (vars_behind S P (suc a) (suc s) args) ≡ true) z (coord_there S P (suc a) (suc s) d c args later) in
    any_right (is_var (a + suc d) c) (site_vars a s 0 (coords_or (slice_get S u))) (vars_behind S P (suc a) (suc s) args) r
coord_there S P a s (suc d) c (ParamArg p ∷ args) h =
    let z : suc a + d ≡ a + suc d = omega arith in
    let later : HasCoord S args d c =
    record { name = h.name; type = h.type; site = h.site; arg_is = h.arg_is; type_is = h.type_is; below = h.below } in
    let r = subst (λ (w : ℕ). list_any (is_var w c) (vars_behind S P (suc a) s args) ≡ true) z (coord_there S P (suc a) s d c args later) in
    any_right (is_var (a + suc d) c) (param_vars a (slice_get P p)) (vars_behind S P (suc a) s args) r

-- a param argument is a variable
pub param_there : (S : List SiteOf) (P : List CoordOf) (a s d p : ℕ) (x : CoordOf) (args : List ArgOf)
    → slice_get args d ≡ Some (ParamArg p) → slice_get P p ≡ Some x
    → list_any (is_var (a + d) 0) (vars_behind S P a s args) ≡ true
param_there S P a s d p x [] h e = absurd (cc)
param_there S P a s zero p x (SiteArg m u ∷ args) h e = absurd (cc)
param_there S P a s zero p x (ParamArg q ∷ args) h e =
    let u : q ≡ p = cc in
    let f : slice_get P q ≡ Some x = ap (slice_get P) u ∙ e in
    let z : a + 0 ≡ a = omega arith in
    rw (z, f) (or_left _ _ (and_from (a == a) true (eq-eqb a a refl) refl))
param_there S P a s (suc d) p x (SiteArg m u ∷ args) h e =
    let z : suc a + d ≡ a + suc d = omega arith in
    let r = subst (λ (w : ℕ). list_any (is_var w 0) (vars_behind S P (suc a) (suc s) args) ≡ true) z (param_there S P (suc a) (suc s) d p x args h e) in
    any_right (is_var (a + suc d) 0) (site_vars a s 0 (coords_or (slice_get S u))) (vars_behind S P (suc a) (suc s) args) r
param_there S P a s (suc d) p x (ParamArg q ∷ args) h e =
    let z : suc a + d ≡ a + suc d = omega arith in
    let r = subst (λ (w : ℕ). list_any (is_var w 0) (vars_behind S P (suc a) s args) ≡ true) z (param_there S P (suc a) s d p x args h e) in
    any_right (is_var (a + suc d) 0) (param_vars a (slice_get P q)) (vars_behind S P (suc a) s args) r

-- ---- the site types and the params among items
-- the names of the site types, as texts
pub sites_named : (bytes : List ℕ) (is : List Item) → map (λ (s : SiteOf). s.name) (sites_said bytes is) ≡ map (text bytes) (site_names is)
sites_named bytes [] = refl
sites_named bytes (SiteItem n cs ∷ is) = ap (λ (w : List (List ℕ)). text bytes n ∷ w) (sites_named bytes is)
sites_named bytes (ParamItem n r ∷ is) = sites_named bytes is
sites_named bytes (PredItem n as' ls r ∷ is) = sites_named bytes is

-- the names of the params, as texts
pub params_named : (bytes : List ℕ) (is : List Item) → map (λ (c : CoordOf). c.name) (params_said bytes is) ≡ map (text bytes) (param_names is)
params_named bytes [] = refl
params_named bytes (SiteItem n cs ∷ is) = params_named bytes is
params_named bytes (ParamItem n r ∷ is) = ap (λ (w : List (List ℕ)). text bytes n ∷ w) (params_named bytes is)
params_named bytes (PredItem n as' ls r ∷ is) = params_named bytes is

-- some name of a site type passes exactly where some item is a site type whose name does
pub any_site : (q : Span → Bool) (is : List Item) → list_any q (site_names is) ≡ list_any (λ i. is_site i && q (item_name i)) is
any_site q [] = refl
any_site q (SiteItem n cs ∷ is) = ap (λ (b : Bool). q n || b) (any_site q is)
any_site q (ParamItem n r ∷ is) = any_site q is
any_site q (PredItem n as' ls r ∷ is) = any_site q is

-- and some name of a param where some item is such a param
pub any_param : (q : Span → Bool) (is : List Item) → list_any q (param_names is) ≡ list_any (λ i. is_param i && q (item_name i)) is
any_param q [] = refl
any_param q (SiteItem n cs ∷ is) = any_param q is
any_param q (ParamItem n r ∷ is) = ap (λ (b : Bool). q n || b) (any_param q is)
any_param q (PredItem n as' ls r ∷ is) = any_param q is

coords_by : (bytes : List ℕ) (q : Span → Bool) (n : Span) (cs : List RawCoord) (is : List Item) (b : Bool) → q n ≡ b
    → coords_or (slice_get (sites_said bytes is) (position_or_len q (site_names is)))
    ≡ map (λ c. ranged bytes c.name c.range) (coords_in (find (λ i. is_site i && q (item_name i)) is))
    → coords_or (slice_get (sites_said bytes (SiteItem n cs ∷ is)) (position_or_len q (n ∷ site_names is)))
    ≡ map (λ c. ranged bytes c.name c.range) (coords_in (find (λ i. is_site i && q (item_name i)) (SiteItem n cs ∷ is)))
coords_by bytes q n cs is true e h = let l = len_head q n (site_names is) e in rw (l, e) refl
coords_by bytes q n cs is false e h = let l = len_tail q n (site_names is) e in rw (l, e) h

-- the coordinates of the first site type whose name passes
pub coords_found : (bytes : List ℕ) (q : Span → Bool) (is : List Item) → coords_or (slice_get (sites_said bytes is) (position_or_len q (site_names is)))
    ≡ map (λ c. ranged bytes c.name c.range) (coords_in (find (λ i. is_site i && q (item_name i)) is))
coords_found bytes q [] = refl
coords_found bytes q (SiteItem n cs ∷ is) = coords_by bytes q n cs is (q n) refl (coords_found bytes q is)
coords_found bytes q (ParamItem n r ∷ is) = coords_found bytes q is
coords_found bytes q (PredItem n as' ls r ∷ is) = coords_found bytes q is

one_said : {X A : Type 0} (f : X → Option A) (p : X → Bool) (x : X) (xs : List X) (o : Option A) → p x ≡ is_some o
    → length (filter_map f xs) ≡ count_by p xs → length (cons_option o (filter_map f xs)) ≡ count_by p (x ∷ xs)
one_said f p x xs None h r = sym (count_cons p x xs ∙ rw h (omega arith))
one_said f p x xs (Some a) h r = sym (count_cons p x xs ∙ rw h (omega arith))

-- there are as many as elements that pass, where those that pass are some
pub said_count : {X A : Type 0} (f : X → Option A) (p : X → Bool) (xs : List X) → ((x : X) → p x ≡ is_some (f x)) → length (filter_map f xs) ≡ count_by p xs
said_count f p [] h = refl
said_count f p (x ∷ xs) h = one_said f p x xs (f x) (h x) (said_count f p xs h)

-- what is in a list is in a longer one
pub get_longer : {A : Type 0} (xs ys : List A) (k : ℕ) (x : A) → slice_get xs k ≡ Some x → slice_get (xs ++ ys) k ≡ Some x
get_longer [] ys k x h = absurd (cc)
get_longer (y ∷ xs) ys zero x h = h
get_longer (y ∷ xs) ys (suc k) x h = get_longer xs ys k x h

-- what holds of each element, a weaker fact holds of each
pub each_weaker : {A : Type 0} (P Q : List A → A → Type 0) → ((before : List A) (x : A) → P before x → Q before x) → (before xs : List A)
    → Each P before xs → Each Q before xs
each_weaker P Q f before [] e = tt
each_weaker P Q f before (x ∷ xs) e = (f before x e.0, each_weaker P Q f (before ++ (x ∷ [])) xs e.1)

-- what holds of each element holds of the one at a place
pub each_get : {A : Type 0} (P : List A → A → Type 0) (before xs : List A) (k : ℕ) (x : A) → Each P before xs → slice_get xs k ≡ Some x
    → P (before ++ take k xs) x
each_get P before [] k x e h = absurd (cc)
each_get {A} P before (y ∷ xs) zero x e h =
    let q : y ≡ x = cc in
    let z : before ≡ before ++ [] = sym (append-nil before) in
    subst (λ (w : A). P (before ++ []) w) q (subst (λ (w : List A). P w y) z e.0)
each_get {A} P before (y ∷ xs) (suc k) x e h =
    subst (λ (w : List A). P w x) (append_assoc before (y ∷ []) (take k xs)) (each_get P (before ++ (y ∷ [])) xs k x e.1 h)
