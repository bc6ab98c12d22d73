-- The inputs of a predicate resolve to its variables, and its lets are new, where names of arguments, coordinates and lets are their own.
use Rattle.std.proofs.Common.{◌≡◌, ℕ, zero, suc, arith, ◌<◌, ◌≤◌, ◌+◌, length, Bool, true, false}
use Rattle.std.proofs.Common.{cond, nat_lt, ◌&&◌, ◌||◌, Option, Some, None, refl, ap, sym, ◌∙◌, subst}
use Rattle.std.proofs.Common.{length-append, append_assoc}
use Rattle.std.specs.Prelude.{map, ◌≢◌, List, [], ◌∷◌, ◌++◌, Contains, codes, position, slice_index_or, bytes_eq, unwrap_or, ◌==◌}
use Rattle.std.specs.List.{find, list_any, position_or_len}
use Rattle.std.proofs.lemmas.Bool.{and_from, and_parts, eq-eqb, lt-ltb}
use Rattle.std.proofs.lemmas.Bool.Decides.{nat_tests}
use Rattle.std.proofs.lemmas.List.Folds.{list_any-append}
use Rattle.ln_base.specs.declared.span.Span.{Span}
use Rattle.ln_algebra.specs.Tree as algebra
use Rattle.ln_syntax.specs.declared.raw.RawArg.{RawArg}
use Rattle.ln_syntax.specs.declared.raw.RawCoord.{RawCoord}
use Rattle.ln_syntax.specs.declared.raw.RawRange.{RawRange}
use Rattle.ln_syntax.specs.Raw.{Item, ParamItem, SiteItem, coords_in, is_param, is_site, item_name, same, text}
use Rattle.ln_names.specs.Limits.{ArgWithin, CoordWithin, Each}
use Rattle.ln_names.specs.Rules.{coords_of, is_param_arg, is_site_arg, scope}
use Rattle.ln_parse.specs.Says.{place}
use Rattle.ln_parse.proofs.ReadBack.NamePlaces.{same_bytes}
use Rattle.ln_tree.specs.declared.shape.VarInfo.{VarInfo}
use Rattle.ln_tree.specs.Variables.{is_var, number_or_end}
use Rattle.ln_top.specs.Guarantee.{PredArgument, Ranged, SiteType, Word, inputs, numbered_inputs}
use Rattle.ln_top.proofs.GuaranteeLemmas.Expr.{Linked}
use Rattle.ln_top.proofs.GuaranteeLemmas.Items.{a_param, a_site, ArgsMean, an_arg, no_arg, CoordsMean, coord, no_coord, RangeMeans}
use Rattle.ln_top.proofs.GuaranteeLemmas.Rows.{coords_vars, vars_for}

-- ---- the first that passes
module _ {A : Type 0} (p : A → Bool) where
  -- the first that passes is this one
  pub first_here : (before : List A) (x : A) (rest : List A) → list_any p before ≡ false → p x ≡ true
      → position_or_len p (before ++ x ∷ rest) ≡ length before
  first_here [] x rest n h = rw h refl
  first_here (y ∷ ys) x rest n h = go (p y) refl n (λ k. first_here ys x rest k h)
    where
      go : (b : Bool) → p y ≡ b → (b || list_any p ys) ≡ false
          → (list_any p ys ≡ false → position_or_len p (ys ++ x ∷ rest) ≡ length ys) → position_or_len p (y ∷ (ys ++ x ∷ rest)) ≡ suc (length ys)
      go true e k ih = absurd (cc)
      go false e k ih = let r = ih k in rw e (omega (arith, r))

  -- and so is its place
  pub position_here : (before : List A) (x : A) (rest : List A) → list_any p before ≡ false → p x ≡ true
      → position p (before ++ x ∷ rest) ≡ Some (length before)
  position_here before x rest n h =
      let here = first_here before x rest n h in
      let long = length-append before (x ∷ rest) in
      let less : nat_lt (position_or_len p (before ++ x ∷ rest)) (length (before ++ x ∷ rest)) ≡ true =
      lt-ltb (position_or_len p (before ++ x ∷ rest)) (length (before ++ x ∷ rest)) (omega (arith, here, long)) in
      ap (λ (b : Bool). cond b (Some (position_or_len p (before ++ x ∷ rest))) None) less ∙ ap (λ (n : ℕ). Some n) here

  -- and it is what is found
  pub find_here : (before : List A) (x : A) (rest : List A) → list_any p before ≡ false → p x ≡ true → find p (before ++ x ∷ rest) ≡ Some x
  find_here [] x rest n h = rw h refl
  find_here (y ∷ ys) x rest n h = go (p y) refl n (λ k. find_here ys x rest k h)
    where
      go : (b : Bool) → p y ≡ b → (b || list_any p ys) ≡ false → (list_any p ys ≡ false → find p (ys ++ x ∷ rest) ≡ Some x)
          → find p (y ∷ (ys ++ x ∷ rest)) ≡ Some x
      go true e k ih = absurd (cc)
      go false e k ih = rw e (ih k)

  -- where none passes, there is no place
  pub none_len : (xs : List A) → list_any p xs ≡ false → position_or_len p xs ≡ length xs
  none_len [] h = refl
  none_len (y ∷ ys) h = go (p y) refl h (λ k. none_len ys k)
    where
      go : (b : Bool) → p y ≡ b → (b || list_any p ys) ≡ false → (list_any p ys ≡ false → position_or_len p ys ≡ length ys)
          → position_or_len p (y ∷ ys) ≡ suc (length ys)
      go true e k ih = absurd (cc)
      go false e k ih = let r = ih k in rw e (omega (arith, r))

  -- and none is found
  pub nowhere : (xs : List A) → list_any p xs ≡ false → position p xs ≡ None
  nowhere xs h =
      let n = none_len xs h in
      let less : nat_lt (position_or_len p xs) (length xs) ≡ false = grind (arith, nat_tests, n) in
      ap (λ (b : Bool). cond b (Some (position_or_len p xs)) None) less

  -- a stronger test passes nowhere either
  pub none_weaker : (q : A → Bool) → ((x : A) → p x ≡ true → q x ≡ true) → (xs : List A) → list_any q xs ≡ false → list_any p xs ≡ false
  none_weaker q f [] n = refl
  none_weaker q f (x ∷ xs) n = go (p x) refl (q x) refl n (λ k. none_weaker q f xs k)
    where
      go : (b : Bool) → p x ≡ b → (c : Bool) → q x ≡ c → (c || list_any q xs) ≡ false → (list_any q xs ≡ false → list_any p xs ≡ false)
          → list_any p (x ∷ xs) ≡ false
      go b e true d k ih = absurd (cc)
      go true e false d k ih = let t = f x e in absurd (let z : true ≡ false = sym t ∙ d in cc)
      go false e false d k ih = rw e (ih k)

  -- where none passes in two lists, none does in both
  pub free_more : (xs ys : List A) → list_any p xs ≡ false → list_any p ys ≡ false → list_any p (xs ++ ys) ≡ false
  free_more xs ys a b = list_any-append p xs ys ∙ rw (a, b) refl

  -- the place of the first that passes
  pub place_here : (before : List A) (x : A) (rest : List A) → list_any p before ≡ false → p x ≡ true → place p (before ++ x ∷ rest) ≡ length before
  place_here before x rest n h = ap (λ (o : Option ℕ). unwrap_or o 0) (position_here before x rest n h)

-- a member is the first or one of the others
pub tail_of : {A : Type 0} (x y : A) (xs : List A) (P : Type 0) → Contains (x ∷ xs) y → (x ≡ y → P) → (Contains xs y → P) → P
tail_of x y xs P c f g = go c.0 c.1 c.2
  where
    go : (n : ℕ) → n < suc (length xs) → slice_index_or (x ∷ xs) n y ≡ y → P
    go zero h e = f e
    go (suc n) h e = g (n, omega (arith, h), e)

-- the number of a variable that comes first with its argument and coordinate
pub number_here : (done more : List VarInfo) (i : VarInfo) (m d : ℕ) → list_any (is_var m d) done ≡ false → is_var m d i ≡ true
    → number_or_end (done ++ i ∷ more) m d ≡ length done
number_here done more i m d n h = ap (λ (o : Option ℕ). unwrap_or o (length (done ++ i ∷ more))) (position_here (is_var m d) done i more n h)

-- no variable is of argument k or a later one
abbrev pub Free : ℕ → List VarInfo → Type 0
Free k vars = (m d : ℕ) → k ≤ m → list_any (is_var m d) vars ≡ false

-- none is of coordinate c of argument k or a later one
abbrev pub FreeFrom : ℕ → ℕ → List VarInfo → Type 0
FreeFrom k c vars = (d : ℕ) → c ≤ d → list_any (is_var k d) vars ≡ false

coords_free : (k s c : ℕ) (rs : List Ranged) (m d : ℕ) → k < m → list_any (is_var m d) (coords_vars k s c rs) ≡ false
coords_free k s c [] m d h = refl
coords_free k s c (r ∷ rs) m d h = let e : (k == m) ≡ false = grind (arith, nat_tests, h) in rw e (coords_free k s (suc c) rs m d h)

not_arg : (k m c d : ℕ) → k < m → ((k == m) && (c == d)) ≡ false
not_arg k m c d h = let e : (k == m) ≡ false = grind (arith, nat_tests, h) in rw e refl

is_arg : (k m c d : ℕ) → k ≡ m → c ≡ d → ((k == m) && (c == d)) ≡ true
is_arg k m c d h g = and_from (k == m) (c == d) (eq-eqb k m h) (eq-eqb c d g)

not_coord : (k c d : ℕ) → c < d → (((k == k) && (c == d)) || false) ≡ false
not_coord k c d h = let e : (c == d) ≡ false = grind (arith, nat_tests, h) in let f : (k == k) ≡ true = eq-eqb k k refl in rw (e, f) refl

-- a name alone is behind those with a dot
pub skip : (n : Word) (rs : List Ranged) (more : List (List Word)) (v w : ℕ) (t : Word) (e : algebra.Tree) → w ≡ v + length rs
    → Contains (numbered_inputs v (map (λ (c : Ranged). n ∷ codes "." ∷ c.name ∷ []) rs ++ more)) (t ∷ [], e) → Contains (numbered_inputs w more) (t ∷ [], e)
skip n [] more v w t e h c = let q : v ≡ w = omega (arith, h) in subst (λ (x : ℕ). Contains (numbered_inputs x more) (t ∷ [], e)) q c
skip n (r ∷ rs) more v w t e h c =
    tail_of (n ∷ codes "." ∷ r.name ∷ [], algebra.Input v) (t ∷ [], e)
    (numbered_inputs (suc v) (map (λ (c : Ranged). n ∷ codes "." ∷ c.name ∷ []) rs ++ more)) (Contains (numbered_inputs w more) (t ∷ [], e)) c
    (λ x. let z : 3 ≡ length (t ∷ []) = ap (λ (y : List Word × algebra.Tree). length y.0) x in absurd (omega (arith, z)))
    (λ d. skip n rs more (suc v) w t e (omega (arith, h)) d)

-- a word of several
abbrev pub word_at : ℕ → List Word → Word
word_at n ws = slice_index_or ws n []

coords_many : (k s c : ℕ) (rs : List Ranged) → length (coords_vars k s c rs) ≡ length rs
coords_many k s c [] = refl
coords_many k s c (r ∷ rs) = ap suc (coords_many k s (suc c) rs)

-- ---- names resolve
module _ (bytes : List ℕ) (is : List Item) (types : List SiteType) (params : List Ranged) where
  -- the first site type of a name has coordinates that mean these
  pub record TypeFound (t : SiteType) (kind : Span) : Type 0 where
    pub name : Span
    pub cs : List RawCoord
    pub found : find (λ (i : Item). is_site i && same bytes (item_name i) kind) is ≡ Some (SiteItem name cs)
    pub means : CoordsMean bytes cs t.coords
    pub some : t.coords ≢ []
    pub own : Each (CoordWithin bytes) [] cs

  -- the first param of a name has this range
  pub record ParamFound (p : Ranged) (at : Span) : Type 0 where
    pub name : Span
    pub range : RawRange
    pub found : find (λ (i : Item). is_param i && same bytes (item_name i) at) is ≡ Some (ParamItem name range)
    pub named : text bytes name ≡ p.name
    pub means : RangeMeans bytes range p

  -- each param of these is found by its name
  abbrev pub ParamsThere : Type 0
  ParamsThere = (p : Ranged) (at : Span) → Contains params p → text bytes at ≡ p.name → ParamFound p at

  -- each site type of these is found by its name
  abbrev pub TypesThere : Type 0
  TypesThere = (t : SiteType) (kind : Span) → Contains types t → text bytes kind ≡ t.name → TypeFound t kind

  same_at : (m n at : Span) → text bytes n ≡ text bytes at → same bytes m at ≡ true → same bytes m n ≡ true
  same_at m n at q h = subst (λ (w : List ℕ). bytes_eq (text bytes m) w ≡ true) (sym q) h

  same_own : (n at : Span) → text bytes n ≡ text bytes at → same bytes n at ≡ true
  same_own n at q = subst (λ (w : List ℕ). bytes_eq (text bytes n) w ≡ true) q (same_bytes (text bytes n))

  -- no argument before has the name, so none that passes a further test either
  arg_free : (test : RawArg → Bool) (a : RawArg) (at : Span) (before : List RawArg) → text bytes a.name ≡ text bytes at
      → list_any (λ (b : RawArg). same bytes b.name a.name) before ≡ false → list_any (λ (b : RawArg). test b && same bytes b.name at) before ≡ false
  arg_free test a at before q n =
      none_weaker (λ (b : RawArg). test b && same bytes b.name at) (λ (b : RawArg). same bytes b.name a.name)
      (λ b h. same_at b.name a.name at q (and_parts (test b) (same bytes b.name at) h).1) before n

  short_ok : {rargs : List RawArg} {bs : List PredArgument} → ArgsMean bytes types params rargs bs → (before : List RawArg) (done : List VarInfo)
      (k s v : ℕ) (at : Span) (e : algebra.Tree) → Each (ArgWithin bytes is) before rargs → k ≡ length before → v ≡ length done → Free k done
      → Contains (numbered_inputs v (inputs bs)) (text bytes at ∷ [], e)
      → algebra.Input (number_or_end (done ++ vars_for k s bs)
      (place (λ (a : RawArg). is_param_arg a && same bytes a.name at) (before ++ rargs)) 0) ≡ e
  short_ok no_arg before done k s v at e w kl vl free c = absurd (omega (arith, c.1))
  short_ok (an_arg {as' = rest} {bs = bs} (a_site {a = a} {t = t} q n d x) m) before done k s v at e w kl vl free c =
      let p : RawArg → Bool = λ (a : RawArg). is_param_arg a && same bytes a.name at in
      let cv = coords_vars k s 0 t.coords in
      let later = skip (text bytes a.name) t.coords (inputs bs) v (v + length t.coords) (text bytes at) e refl c in
      let long : v + length t.coords ≡ length (done ++ cv) = omega (arith, vl, length-append done cv, coords_many k s 0 t.coords) in
      let r = short_ok m (before ++ a ∷ []) (done ++ cv) (suc k) (suc s) (v + length t.coords) at e w.1
      (omega (arith, kl, length-append before (a ∷ []))) long
      (λ m d h. free_more (is_var m d) done cv (free m d (omega (arith, h))) (coords_free k s 0 t.coords m d h)) later in
      ap (λ (z : List VarInfo). algebra.Input (number_or_end z (place p (before ++ a ∷ rest)) 0)) (sym (append_assoc done cv (vars_for (suc k) (suc s) bs)))
      ∙ ap (λ (z : List RawArg). algebra.Input (number_or_end ((done ++ cv) ++ vars_for (suc k) (suc s) bs) (place p z) 0))
      (sym (append_assoc before (a ∷ []) rest)) ∙ r
  short_ok (an_arg {as' = rest} {bs = bs} (a_param {a = a} {p = p} q d x) m) before done k s v at e w kl vl free c =
      let f : RawArg → Bool = λ (a : RawArg). is_param_arg a && same bytes a.name at in
      let i : VarInfo = record { arg = k; site = None; coord = 0; lo = p.lo; hi = p.hi } in
      tail_of (p.name ∷ [], algebra.Input v) (text bytes at ∷ [], e) (numbered_inputs (suc v) (inputs bs))
      (algebra.Input (number_or_end (done ++ i ∷ vars_for (suc k) s bs) (place f (before ++ a ∷ rest)) 0) ≡ e) c
      (λ y.
      let nm : text bytes a.name ≡ text bytes at = x ∙ ap (λ (z : List Word × algebra.Tree). word_at 0 z.0) y in
      let pl : place f (before ++ a ∷ rest) ≡ k =
      place_here f before a rest (arg_free is_param_arg a at before nm w.0.new) (and_from _ _ q (same_own a.name at nm)) ∙ sym kl in
      let nu : number_or_end (done ++ i ∷ vars_for (suc k) s bs) k 0 ≡ v =
      number_here done (vars_for (suc k) s bs) i k 0 (free k 0 (omega arith)) (is_arg k k 0 0 refl refl) ∙ sym vl in
      ap (λ (n : ℕ). algebra.Input (number_or_end (done ++ i ∷ vars_for (suc k) s bs) n 0)) pl ∙ ap algebra.Input nu
      ∙ ap (λ (z : List Word × algebra.Tree). z.1) y)
      (λ later.
      let r = short_ok m (before ++ a ∷ []) (done ++ i ∷ []) (suc k) s (suc v) at e w.1
      (omega (arith, kl, length-append before (a ∷ []))) (omega (arith, vl, length-append done (i ∷ [])))
      (λ m d h. free_more (is_var m d) done (i ∷ []) (free m d (omega (arith, h))) (rw (not_arg k m 0 d h) refl)) later in
      ap (λ (z : List VarInfo). algebra.Input (number_or_end z (place f (before ++ a ∷ rest)) 0)) (sym (append_assoc done (i ∷ []) (vars_for (suc k) s bs)))
      ∙ ap (λ (z : List RawArg). algebra.Input (number_or_end ((done ++ i ∷ []) ++ vars_for (suc k) s bs) (place f z) 0))
      (sym (append_assoc before (a ∷ []) rest)) ∙ r)

  -- the same of a name with a dot: within the coordinates of one site, or behind them
  coords_ok : {cs : List RawCoord} {rs : List Ranged} → CoordsMean bytes cs rs → (n : Word) (before : List RawCoord) (done vmore : List VarInfo)
      (more : List (List Word)) (k s c v w : ℕ) (at x : Span) (e : algebra.Tree) (P : Type 0) → Each (CoordWithin bytes) before cs → c ≡ length before
      → v ≡ length done → w ≡ v + length rs → FreeFrom k c done
      → (n ≡ text bytes at → algebra.Input (number_or_end (done ++ (coords_vars k s c rs ++ vmore)) k
      (place (λ (d : RawCoord). same bytes d.name x) (before ++ cs))) ≡ e → P)
      → (Contains (numbered_inputs w more) (text bytes at ∷ codes "." ∷ text bytes x ∷ [], e) → P)
      → Contains (numbered_inputs v (map (λ (c : Ranged). n ∷ codes "." ∷ c.name ∷ []) rs ++ more)) (text bytes at ∷ codes "." ∷ text bytes x ∷ [], e) → P
  coords_ok no_coord n before done vmore more k s c v w at x e P ws cl vl wl free f g h =
      let q : v ≡ w = omega (arith, wl) in
      g (subst (λ (y : ℕ). Contains (numbered_inputs y more) (text bytes at ∷ codes "." ∷ text bytes x ∷ [], e)) q h)
  coords_ok (coord {c = rc} {cs = cs} {r = r} {rs = rs} nm rm m) n before done vmore more k s c v w at x e P ws cl vl wl free f g h =
      let i : VarInfo = record { arg = k; site = Some s; coord = c; lo = r.lo; hi = r.hi } in
      let p : RawCoord → Bool = λ (d : RawCoord). same bytes d.name x in
      tail_of (n ∷ codes "." ∷ r.name ∷ [], algebra.Input v) (text bytes at ∷ codes "." ∷ text bytes x ∷ [], e)
      (numbered_inputs (suc v) (map (λ (c : Ranged). n ∷ codes "." ∷ c.name ∷ []) rs ++ more)) P h
      (λ y.
      let a : n ≡ text bytes at = ap (λ (z : List Word × algebra.Tree). word_at 0 z.0) y in
      let b : text bytes rc.name ≡ text bytes x = nm ∙ ap (λ (z : List Word × algebra.Tree). word_at 2 z.0) y in
      let none : list_any p before ≡ false =
      none_weaker p (λ (d : RawCoord). same bytes d.name rc.name) (λ d o. same_at d.name rc.name x b o) before ws.0.new in
      let pl : place p (before ++ rc ∷ cs) ≡ c = place_here p before rc cs none (same_own rc.name x b) ∙ sym cl in
      let nu : number_or_end (done ++ i ∷ (coords_vars k s (suc c) rs ++ vmore)) k c ≡ v =
      number_here done (coords_vars k s (suc c) rs ++ vmore) i k c (free c (omega arith)) (is_arg k k c c refl refl) ∙ sym vl in
      f a (ap (λ (n : ℕ). algebra.Input (number_or_end (done ++ i ∷ (coords_vars k s (suc c) rs ++ vmore)) k n)) pl ∙ ap algebra.Input nu
      ∙ ap (λ (z : List Word × algebra.Tree). z.1) y))
      (λ later.
      coords_ok m n (before ++ rc ∷ []) (done ++ i ∷ []) vmore more k s (suc c) (suc v) w at x e P ws.1
      (omega (arith, cl, length-append before (rc ∷ []))) (omega (arith, vl, length-append done (i ∷ []))) (omega (arith, wl))
      (λ d o. free_more (is_var k d) done (i ∷ []) (free d (omega (arith, o))) (not_coord k c d o))
      (λ a q. f a (
      ap (λ (z : List VarInfo). algebra.Input (number_or_end z k (place p (before ++ rc ∷ cs))))
      (sym (append_assoc done (i ∷ []) (coords_vars k s (suc c) rs ++ vmore)))
      ∙ ap (λ (z : List RawCoord). algebra.Input (number_or_end ((done ++ i ∷ []) ++ (coords_vars k s (suc c) rs ++ vmore)) k (place p z)))
      (sym (append_assoc before (rc ∷ []) cs)) ∙ q)) g later)

  abbrev long_tree : List VarInfo → List RawArg → Span → Span → algebra.Tree
  long_tree vars args at x = algebra.Input (number_or_end vars (place (λ (a : RawArg). is_site_arg a && same bytes a.name at) args)
      (place (λ (c : RawCoord). same bytes c.name x) (coords_of bytes is (find (λ (a : RawArg). is_site_arg a && same bytes a.name at) args))))

  long_ok : TypesThere → {rargs : List RawArg} {bs : List PredArgument} → ArgsMean bytes types params rargs bs → (before : List RawArg)
      (done : List VarInfo) (k s v : ℕ) (at x : Span) (e : algebra.Tree) → Each (ArgWithin bytes is) before rargs → k ≡ length before
      → v ≡ length done → Free k done → Contains (numbered_inputs v (inputs bs)) (text bytes at ∷ codes "." ∷ text bytes x ∷ [], e)
      → long_tree (done ++ vars_for k s bs) (before ++ rargs) at x ≡ e
  long_ok there no_arg before done k s v at x e w kl vl free c = absurd (omega (arith, c.1))
  long_ok there (an_arg {as' = rest} {bs = bs} (a_site {a = a} {t = t} q n d kd) m) before done k s v at x e w kl vl free c =
      let p : RawArg → Bool = λ (a : RawArg). is_site_arg a && same bytes a.name at in
      let ty = there t a.kind d kd in
      let cv = coords_vars k s 0 t.coords in
      let vars = done ++ (cv ++ vars_for (suc k) (suc s) bs) in
      coords_ok ty.means (text bytes a.name) [] done (vars_for (suc k) (suc s) bs) (inputs bs) k s 0 v (v + length t.coords) at x e
      (long_tree vars (before ++ a ∷ rest) at x ≡ e) ty.own refl vl refl (λ d h. free k d (omega arith))
      (λ nm y.
      let none = arg_free is_site_arg a at before nm w.0.new in
      let pass : p a ≡ true = and_from _ _ (rw q refl) (same_own a.name at nm) in
      let pl : place p (before ++ a ∷ rest) ≡ k = place_here p before a rest none pass ∙ sym kl in
      let co : coords_of bytes is (find p (before ++ a ∷ rest)) ≡ ty.cs =
      ap (coords_of bytes is) (find_here p before a rest none pass) ∙ ap coords_in ty.found in
      ap (λ (z : ℕ). algebra.Input (number_or_end vars z
      (place (λ (c : RawCoord). same bytes c.name x) (coords_of bytes is (find p (before ++ a ∷ rest)))))) pl
      ∙ ap (λ (z : List RawCoord). algebra.Input (number_or_end vars k (place (λ (c : RawCoord). same bytes c.name x) z))) co ∙ y)
      (λ later.
      let long : v + length t.coords ≡ length (done ++ cv) = omega (arith, vl, length-append done cv, coords_many k s 0 t.coords) in
      let r = long_ok there m (before ++ a ∷ []) (done ++ cv) (suc k) (suc s) (v + length t.coords) at x e w.1
      (omega (arith, kl, length-append before (a ∷ []))) long
      (λ m d h. free_more (is_var m d) done cv (free m d (omega (arith, h))) (coords_free k s 0 t.coords m d h)) later in
      ap (λ (z : List VarInfo). long_tree z (before ++ a ∷ rest) at x) (sym (append_assoc done cv (vars_for (suc k) (suc s) bs)))
      ∙ ap (λ (z : List RawArg). long_tree ((done ++ cv) ++ vars_for (suc k) (suc s) bs) z at x) (sym (append_assoc before (a ∷ []) rest)) ∙ r) c
  long_ok there (an_arg {as' = rest} {bs = bs} (a_param {a = a} {p = p} q d y) m) before done k s v at x e w kl vl free c =
      let i : VarInfo = record { arg = k; site = None; coord = 0; lo = p.lo; hi = p.hi } in
      tail_of (p.name ∷ [], algebra.Input v) (text bytes at ∷ codes "." ∷ text bytes x ∷ [], e) (numbered_inputs (suc v) (inputs bs))
      (long_tree (done ++ i ∷ vars_for (suc k) s bs) (before ++ a ∷ rest) at x ≡ e) c
      (λ u. let z : 1 ≡ length (text bytes at ∷ codes "." ∷ text bytes x ∷ []) = ap (λ (y : List Word × algebra.Tree). length y.0) u in
      absurd (omega (arith, z)))
      (λ later.
      let r = long_ok there m (before ++ a ∷ []) (done ++ i ∷ []) (suc k) s (suc v) at x e w.1
      (omega (arith, kl, length-append before (a ∷ []))) (omega (arith, vl, length-append done (i ∷ [])))
      (λ m d h. free_more (is_var m d) done (i ∷ []) (free m d (omega (arith, h))) (rw (not_arg k m 0 d h) refl)) later in
      ap (λ (z : List VarInfo). long_tree z (before ++ a ∷ rest) at x) (sym (append_assoc done (i ∷ []) (vars_for (suc k) s bs)))
      ∙ ap (λ (z : List RawArg). long_tree ((done ++ i ∷ []) ++ vars_for (suc k) s bs) z at x) (sym (append_assoc before (a ∷ []) rest)) ∙ r)

  -- the names of the inputs resolve to their variables
  pub linked : {rargs : List RawArg} {bs : List PredArgument} (vars : List VarInfo) → ArgsMean bytes types params rargs bs → TypesThere
      → Each (ArgWithin bytes is) [] rargs → vars ≡ vars_for 0 0 bs → Linked (numbered_inputs 0 (inputs bs)) bytes (scope is rargs []) vars []
  linked {rargs = rargs} {bs = bs} vars m there w q = record {
    short = λ at e c.
        ap (λ (z : List VarInfo). algebra.Input (number_or_end z (place (λ (a : RawArg). is_param_arg a && same bytes a.name at) rargs) 0)) q
        ∙ short_ok m [] [] 0 0 0 at e w refl refl (λ m d h. refl) c;
    long = λ at x e c. ap (λ (z : List VarInfo). long_tree z rargs at x) q ∙ long_ok there m [] [] 0 0 0 at x e w refl refl (λ m d h. refl) c;
  }

-- ---- lets are new
