-- What has been said so far, and what remains to be said.
use Rattle.std.proofs.Common.{◌≡◌, ℕ, ◌<◌, get_or, false, ◌+◌, ◌≤◌, List, [], ◌∷◌, ◌++◌, length, take, drop, map, refl, ap, sym}
use Rattle.std.proofs.Common.{subst, ◌∙◌, Global, Vec, append-nil, append_assoc}
use Rattle.std.specs.Prelude.{filter_map, Option, Some, None}
use Rattle.std.specs.List.{cons_option}
use Rattle.std.proofs.lemmas.List.{drop_all, map_push}
use Rattle.ln_syntax.specs.Raw.{Span, Token, Item, SiteItem, ParamItem, PredItem, item, items, is_pred}
use Rattle.ln_parse.specs.Says.{Places, RawArg, RawCoord, RawLet, PredsSay, site_said, TableOf, PredOf}
use Rattle.ln_syntax.specs.declared.raw.RawItem.{RawItem}
use Rattle.ln_syntax.specs.declared.raw.RawItem.TheVariants.{Site, Param, Pred}
use Rattle.ln_parse.proofs.Building.Lists.{SeenAt, drop_seen, take_seen}

-- what these say, and what the items from place i on say, is all that the items say
abbrev pub SaidOn : {A B : Type 0} → (Item → Option B) → (A → B) → List RawItem → ℕ → List A → Type 0
SaidOn says of its i done = map of done ++ filter_map says (items (drop i its)) ≡ filter_map says (items its)

module _ {A B : Type 0} (says : Item → Option B) (of : A → B) (its : List RawItem) (i : ℕ) (y : RawItem) (done more : List A)
    (l : i < length its) (h : y ≡ get_or its i y) where
  next : filter_map says (items (drop i its)) ≡ cons_option (says (item y)) (filter_map says (items (drop (i + 1) its)))
  next = ap (λ (w : List Item). filter_map says w) (drop_seen item its i (item y) (record { element = y; at = record { below = l; is = h }; seen = refl }))

  -- one more is said
  pub said_more : (x : A) → says (item y) ≡ Some (of x) → more ≡ done ++ (x ∷ []) → SaidOn says of its i done → SaidOn says of its (i + 1) more
  said_more x e m on =
      let rest = filter_map says (items (drop (i + 1) its)) in
      ap (λ (w : List A). map of w ++ rest) m ∙ ap (λ (w : List B). w ++ rest) (map_push of done x) ∙ append_assoc (map of done) (of x ∷ []) rest
      ∙ ap (λ (o : Option B). map of done ++ cons_option o rest) (sym e) ∙ ap (λ (w : List B). map of done ++ w) (sym next) ∙ on

  -- an item that says none adds none
  pub said_skip : says (item y) ≡ None → more ≡ done → SaidOn says of its i done → SaidOn says of its (i + 1) more
  said_skip e m on =
      let rest = filter_map says (items (drop (i + 1) its)) in
      let b : filter_map says (items (drop i its)) ≡ rest = next ∙ ap (λ (o : Option B). cons_option o rest) e in
      rw (m, ← b) on

-- the predicates among the items from place i on, after these predicates
abbrev pub PredsOn : List ℕ → List Token → TableOf → List RawItem → ℕ → List PredOf → Type 0
PredsOn bytes ts t its i done =
    (ps : List PredOf) → PredsSay bytes ts (items (take i its)) t (items (drop i its)) ps → PredsSay bytes ts [] t (items its) (done ++ ps)

-- all predicates are said
pub preds_end : (bytes : List ℕ) (ts : List Token) (t : TableOf) (its : List RawItem) (i : ℕ) (done : List PredOf) → length its ≤ i
    → PredsOn bytes ts t its i done → PredsSay bytes ts [] t (items its) done
preds_end bytes ts t its i done h on =
    let q : items (drop i its) ≡ [] = ap items (drop_all i its h) in
    let d : PredsSay bytes ts (items (take i its)) t (items (drop i its)) [] =
    subst (λ (w : List Item). PredsSay bytes ts (items (take i its)) t w []) (sym q) tt in
    subst (λ (w : List PredOf). PredsSay bytes ts [] t (items its) w) (append-nil done) (on [] d)

step : (bytes : List ℕ) (ts : List Token) (t : TableOf) (its : List RawItem) (i : ℕ) (y : Item) (ps qs : List PredOf) → SeenAt item its i y
    → (PredsSay bytes ts (items (take i its) ++ (y ∷ [])) t (items (drop (i + 1) its)) ps
    → PredsSay bytes ts (items (take i its)) t (y ∷ items (drop (i + 1) its)) qs)
    → PredsSay bytes ts (items (take (i + 1) its)) t (items (drop (i + 1) its)) ps → PredsSay bytes ts (items (take i its)) t (items (drop i its)) qs
step bytes ts t its i y ps qs h f d =
    let d' : PredsSay bytes ts (items (take i its) ++ (y ∷ [])) t (items (drop (i + 1) its)) ps =
    subst (λ (w : List Item). PredsSay bytes ts w t (items (drop (i + 1) its)) ps) (take_seen item its i y h) d in
    subst (λ (w : List Item). PredsSay bytes ts (items (take i its)) t w qs) (sym (drop_seen item its i y h)) (f d')

none_said : (bytes : List ℕ) (ts : List Token) (before : List Item) (t : TableOf) (y : Item) (is : List Item) (ps : List PredOf) → is_pred y ≡ false
    → PredsSay bytes ts (before ++ (y ∷ [])) t is ps → PredsSay bytes ts before t (y ∷ is) ps
none_said bytes ts before t (SiteItem name coords) is ps h g = g
none_said bytes ts before t (ParamItem name range) is ps h g = g
none_said bytes ts before t (PredItem name args ls root) is ps h g = absurd (cc)

-- an item of another variant
pub no_site : (bytes : List ℕ) (x : RawItem) → ((n : Span) (cs : Vec RawCoord Global) → x ≡ Site n cs → ⊥) → site_said bytes (item x) ≡ None
no_site bytes (Site n cs) h = absurd (h n cs refl)
no_site bytes (Param n r) h = refl
no_site bytes (Pred n args ls root) h = refl

-- an item that isn't a predicate says none
pub no_pred : (x : RawItem) → ((n : Span) (args : Vec RawArg Global) (ls : Vec RawLet Global) (root : Places) → x ≡ Pred n args ls root → ⊥)
    → is_pred (item x) ≡ false
no_pred (Site n cs) h = refl
no_pred (Param n r) h = refl
no_pred (Pred n args ls root) h = absurd (h n args ls root refl)

-- an item that is no predicate adds none
pub preds_skip : (bytes : List ℕ) (ts : List Token) (t : TableOf) (its : List RawItem) (i : ℕ) (y : Item) (done : List PredOf)
    → SeenAt item its i y → is_pred y ≡ false → PredsOn bytes ts t its i done → PredsOn bytes ts t its (i + 1) done
preds_skip bytes ts t its i y done h n on ps d =
    on ps (step bytes ts t its i y ps ps h (λ g. none_said bytes ts (items (take i its)) t y (items (drop (i + 1) its)) ps n g) d)

one_said : (bytes : List ℕ) (ts : List Token) (before : List Item) (t : TableOf) (y : Item) (is : List Item) (p : PredOf) (ps : List PredOf)
    → PredsSay bytes ts before t (y ∷ []) (p ∷ []) → PredsSay bytes ts (before ++ (y ∷ [])) t is ps → PredsSay bytes ts before t (y ∷ is) (p ∷ ps)
one_said bytes ts before t (SiteItem name coords) is p ps h g = absurd h
one_said bytes ts before t (ParamItem name range) is p ps h g = absurd h
one_said bytes ts before t (PredItem name args ls root) is p ps h g = (h.0, g)

-- an item that says one more predicate
pub preds_pred : (bytes : List ℕ) (ts : List Token) (t : TableOf) (its : List RawItem) (i : ℕ) (y : Item) (done : List PredOf) (p : PredOf)
    → SeenAt item its i y → PredsSay bytes ts (items (take i its)) t (y ∷ []) (p ∷ []) → PredsOn bytes ts t its i done
    → PredsOn bytes ts t its (i + 1) (done ++ (p ∷ []))
preds_pred bytes ts t its i y done p h s on ps d =
    let rest = items (drop (i + 1) its) in
    let here = step bytes ts t its i y ps (p ∷ ps) h (λ g. one_said bytes ts (items (take i its)) t y rest p ps s g) d in
    subst (λ (w : List PredOf). PredsSay bytes ts [] t (items its) w) (sym (append_assoc done (p ∷ []) ps)) (on (p ∷ ps) here)
