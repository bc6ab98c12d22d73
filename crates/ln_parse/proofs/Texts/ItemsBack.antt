-- The tokens of a canonical text spell the table's items.
use Rattle.std.proofs.Common.{◌≡◌, ℕ, suc, ◌<◌, ◌^◌, Bool, true, false, ℤ, pos, negsuc, List, [], ◌∷◌, length, map, refl, ap, ◌∙◌, subst, arith, codes}
use Rattle.std.specs.Prelude.{int_lt, unsigned_abs}
use Rattle.std.proofs.lemmas.Int.{ints}
use Rattle.std.proofs.lemmas.List.{length-map}
use Rattle.std.specs.Fmt.{decimal}
use Rattle.ln_syntax.specs.Raw.{Span, Token, Item, SiteItem, ParamItem, PredItem, Is, span_at, text, Name, Site, BraceL, BraceR, ParR, Colon, Semi, Comma, Dots}
use Rattle.ln_names.specs.Rules.{RawEnd, RawRange, RawCoord, RawArg, RawLet, Places}
use Rattle.ln_syntax.specs.File as file
use Rattle.ln_names.specs.Numbers as names
use Rattle.ln_parse.specs.Written.{Formula, CoordOf, SiteOf, ArgOf, SiteArg, ParamArg, PredOf, TableOf, Naming, naming, written}
use Rattle.ln_parse.specs.Says as said
use Rattle.ln_parse.specs.Canonical.{Lexeme, gap, line, word, signed, minus_if, number, each, ranged, coord, site, param, arg, args, lets, root, pred}
use Rattle.ln_parse.specs.ReadsBack.{Every, CoordNamed, SiteNamed, LetsNamed, PredNamed, ArgWritten, ArgsWritten, LetsWritten, PredWritten, PredsWritten}
use Rattle.ln_base.specs.Decimal.{decimal_value}
use Rattle.ln_base.proofs.DecimalLemmas.{value_of_text}
use Rattle.ln_parse.proofs.Texts.DeriveBack.{Sits, Back, back, whole_back}

not_below : (n : ℕ) → int_lt (pos n) (pos 0) ≡ false
not_below n = grind (arith, ints)

below : (n : ℕ) → int_lt (negsuc n) (pos 0) ≡ true
below n = grind (arith, ints)

sign_says : (z : ℤ) (v : Bool) → int_lt z (pos 0) ≡ v → names.signed v (unsigned_abs z) ≡ z
sign_says (pos n) true h = let e = not_below n in absurd (cc)
sign_says (pos n) false h = refl
sign_says (negsuc n) true h = refl
sign_says (negsuc n) false h = let e = below n in absurd (cc)

-- the coordinate that is read
abbrev pub of_coord : List ℕ → RawCoord → CoordOf
of_coord bytes c = said.ranged bytes c.name c.range

-- items that are these site types, then these params, and then these predicates
pub data Like (bytes : List ℕ) (ts : List Token) (t : TableOf) : List Item → List SiteOf → List CoordOf → List PredOf → Type 0 where
  no_more : Like bytes ts t [] [] [] []
  a_site : {n : Span} {raws : List RawCoord} {is : List Item} {s : SiteOf} {ss : List SiteOf} {cs : List CoordOf} {ps : List PredOf}
      → text bytes n ≡ s.name → map (of_coord bytes) raws ≡ s.coords → Like bytes ts t is ss cs ps
      → Like bytes ts t (SiteItem n raws ∷ is) (s ∷ ss) cs ps
  a_param : {n : Span} {r : RawRange} {is : List Item} {c : CoordOf} {cs : List CoordOf} {ps : List PredOf} → said.ranged bytes n r ≡ c
      → Like bytes ts t is [] cs ps → Like bytes ts t (ParamItem n r ∷ is) [] (c ∷ cs) ps
  a_pred : {n : Span} {raws : List RawArg} {ls : List RawLet} {r : Places} {is : List Item} {p : PredOf} {ps : List PredOf}
      → PredWritten bytes ts t n raws ls r p → Like bytes ts t is [] [] ps → Like bytes ts t (PredItem n raws ls r ∷ is) [] [] (p ∷ ps)

-- such items say these site types
pub like_sites : {bytes : List ℕ} {ts : List Token} {t : TableOf} {is : List Item} {ss : List SiteOf} {cs : List CoordOf} {ps : List PredOf}
    → Like bytes ts t is ss cs ps → said.sites_said bytes is ≡ ss
like_sites no_more = refl
like_sites (a_site n m l) = let e = like_sites l in rw (n, m, e) refl
like_sites (a_param e l) = like_sites l
like_sites (a_pred w l) = like_sites l

-- and these params
pub like_params : {bytes : List ℕ} {ts : List Token} {t : TableOf} {is : List Item} {ss : List SiteOf} {cs : List CoordOf} {ps : List PredOf}
    → Like bytes ts t is ss cs ps → said.params_said bytes is ≡ cs
like_params no_more = refl
like_params (a_site n m l) = like_params l
like_params (a_param n l) = let e = like_params l in rw (n, e) refl
like_params (a_pred w l) = like_params l

-- and these predicates
pub like_preds : {bytes : List ℕ} {ts : List Token} {t : TableOf} {is : List Item} {ss : List SiteOf} {cs : List CoordOf} {ps : List PredOf}
    → Like bytes ts t is ss cs ps → PredsWritten bytes ts t is ps
like_preds no_more = tt
like_preds (a_site n m l) = like_preds l
like_preds (a_param n l) = like_preds l
like_preds (a_pred w l) = (w, like_preds l)

-- the items from place i on, up to the end
pub record FileBack (bytes : List ℕ) (ts : List Token) (t : TableOf) (i : ℕ) (ss : List SiteOf) (cs : List CoordOf) (ps : List PredOf) : Type 0 where
  pub items : List Item
  pub derives : file.Items ts i (length ts) items
  pub like : Like bytes ts t items ss cs ps

module _ (bytes : List ℕ) (ts : List Token) where
  -- an end of a range
  abbrev EndBack : ℕ → ℤ → List Lexeme → Type 0
  EndBack i z rest = Back bytes ts RawEnd (file.End ts) (λ v. names.end_value bytes v ≡ z) i rest

  end_says : (v : Bool) (z : ℤ) (at : Span) → int_lt z (pos 0) ≡ v → unsigned_abs z < 10 ^ 64 → text bytes at ≡ decimal (unsigned_abs z)
      → names.signed v (names.number bytes at) ≡ z
  end_says v z at e n h =
      ap (λ (t : List ℕ). names.signed v (decimal_value t)) h ∙ ap (λ (m : ℕ). names.signed v m) (value_of_text (unsigned_abs z) n) ∙ sign_says z v e

  end_by : (z : ℤ) (v : Bool) → int_lt z (pos 0) ≡ v → unsigned_abs z < 10 ^ 64 → (i : ℕ) (rest : List Lexeme)
      → Sits bytes ts i (minus_if v (number (unsigned_abs z) rest)) → EndBack i z rest
  end_by z false e n i rest h =
      back (suc i) (record { negative = false; at = span_at ts i }) (file.plain h.0) (end_says false z (span_at ts i) e n h.1) h.2
  end_by z true e n i rest h =
      let q = h.2 in
      back (suc (suc i)) (record { negative = true; at = span_at ts (suc i) }) (file.minus h.0 q.0) (end_says true z (span_at ts (suc i)) e n q.1) q.2

  -- NAME: LOW .. HIGH and what follows it, a semicolon first
  range_back : (c : CoordOf) → CoordNamed c → (i : ℕ) (rest : List Lexeme) → Sits bytes ts i (ranged c rest)
      → Back bytes ts RawRange (λ i j r. Is ts i Name × Is ts (suc i) Colon × file.Range ts (suc (suc i)) j r)
      (λ r. said.ranged bytes (span_at ts i) r ≡ c) i (word Semi (codes ";") ∷ rest)
  range_back c n i rest h =
      let a = h.2 in
      let low = end_by c.lo (int_lt c.lo (pos 0)) refl n.low (suc (suc i))
      (gap ∷ word Dots (codes "..") ∷ gap ∷ signed c.hi (word Semi (codes ";") ∷ rest)) a.2 in
      let d = low.after in
      let high = end_by c.hi (int_lt c.hi (pos 0)) refl n.high (suc low.to) (word Semi (codes ";") ∷ rest) d.2 in
      back high.to (record { low = low.raw; high = high.raw }) (h.0, a.0, file.range low.derives d.0 high.derives)
      (rw (h.1, low.says, high.says) refl) high.after

  -- coordinates
  coords_back : (cs : List CoordOf) → Every CoordNamed cs → (i : ℕ) (rest : List Lexeme) → Sits bytes ts i (each coord cs rest)
      → Back bytes ts (List RawCoord) (file.Coords ts) (λ raws. map (of_coord bytes) raws ≡ cs) i rest
  coords_back [] n i rest h = back i [] file.no_coord refl h
  coords_back (c ∷ cs) n i rest h =
      let r = range_back c n.0 i (gap ∷ each coord cs rest) h in
      let m = coords_back cs n.1 (suc r.to) rest r.after.2 in
      back m.to (record { name = span_at ts i; range = r.raw } ∷ m.raw)
      (file.coord r.derives.0 r.derives.1 r.derives.2 r.after.0 m.derives) (rw (r.says, m.says) refl) m.after

  as_site : {i k : ℕ} {raws : List RawCoord} → Is ts i Site → Is ts (suc i) Name → Is ts (suc (suc i)) BraceL → file.Coords ts (suc (suc (suc i))) k raws
      → 0 < length raws → Is ts k BraceR → file.IsItem ts i (suc k) (SiteItem (span_at ts (suc i)) raws)
  as_site s n b file.no_coord l e = absurd (omega arith)
  as_site s n b (file.coord n1 c r m cs) l e = file.site s n b (file.coord n1 c r m cs) e

  -- a site type
  site_back : (s : SiteOf) → SiteNamed s → (i : ℕ) (rest : List Lexeme) → Sits bytes ts i (site s rest)
      → Back bytes ts (List RawCoord) (λ i k raws. file.IsItem ts i k (SiteItem (span_at ts (suc i)) raws))
      (λ raws. (text bytes (span_at ts (suc i)) ≡ s.name) × (map (of_coord bytes) raws ≡ s.coords)) i rest
  site_back s n i rest h =
      let a = h.2 in let b = a.2 in
      let m = coords_back s.coords n.coords (suc (suc (suc i))) (word BraceR (codes "}") ∷ line ∷ rest) b.2 in
      let e = m.after in
      let l = length-map m.raw (of_coord bytes) in let q = ap (λ (w : List CoordOf). length w) m.says in let some = n.some in
      back (suc m.to) m.raw (as_site h.0 a.0 b.0 m.derives (omega arith) e.0) (a.1, m.says) e.2

  module _ (t : TableOf) where
    -- an argument
    arg_back : (a : ArgOf) (i : ℕ) (rest : List Lexeme) → Sits bytes ts i (arg t a rest)
        → (r : RawArg) × file.Arg ts i r × ArgWritten bytes t r a × Sits bytes ts (suc (suc (suc i))) rest
    arg_back (SiteArg a s) i rest h =
        let b = h.2 in let c = b.2 in
        (record { name = span_at ts i; kind = span_at ts (suc (suc i)); is_param = false }, file.site_arg h.0 b.0 c.0, (refl, h.1, c.1), c.2)
    arg_back (ParamArg p) i rest h =
        let b = h.2 in let c = b.2 in
        (record { name = span_at ts i; kind = span_at ts (suc (suc i)); is_param = true }, file.param_arg h.0 b.0 c.0, (refl, h.1), c.2)

    -- arguments
    args_back : (xs : List ArgOf) → 0 < length xs → (i : ℕ) (rest : List Lexeme) → Sits bytes ts i (args t xs rest)
        → Back bytes ts (List RawArg) (file.Args ts) (λ raws. ArgsWritten bytes t raws xs) i rest
    args_back [] n i rest h = absurd (omega arith)
    args_back (a ∷ []) n i rest h =
        let r = arg_back a i rest h in back (suc (suc (suc i))) (r.0 ∷ []) (file.last_arg r.1) (r.2, tt) r.3
    args_back (a ∷ b ∷ bs) n i rest h =
        let r = arg_back a i (word Comma (codes ",") ∷ gap ∷ args t (b ∷ bs) rest) h in let c = r.3 in
        let m = args_back (b ∷ bs) (omega arith) (suc (suc (suc (suc i)))) rest c.2 in
        back m.to (r.0 ∷ m.raw) (file.more_args r.1 c.0 m.derives) (r.2, m.says) m.after

    -- lets
    lets_back : (n : Naming) (us : List (List ℕ)) (es : List Formula) → LetsNamed n us es → (i : ℕ) (rest : List Lexeme)
        → Sits bytes ts i (lets n us es rest) → Back bytes ts (List RawLet) (file.Lets ts) (λ raws. LetsWritten bytes ts n raws us es) i rest
    lets_back n [] [] m i rest h = back i [] file.no_let tt h
    lets_back n [] (e ∷ es) m i rest h = absurd m
    lets_back n (t ∷ us) [] m i rest h = absurd m
    lets_back n (t ∷ us) (e ∷ es) m i rest h =
        let a = h.2 in let b = a.2 in
        let x = whole_back bytes ts (written n e) m.1 (suc (suc (suc i))) (word Semi (codes ";") ∷ gap ∷ lets n us es rest) b.2 in
        let s = x.after in
        let r = lets_back n us es m.2 (suc x.to) rest s.2 in
        back r.to (record { name = span_at ts (suc i); value = record { from = suc (suc (suc i)); to = x.to } } ∷ r.raw)
        (file.a_let h.0 a.0 b.0 (x.raw, x.derives) s.0 r.derives)
        (a.1, record { tree = x.raw; derives = x.derives; ends = s.0; same = x.says }, r.says) r.after

    -- a predicate: its arguments, its lets and where its root is
    pred_back : (p : PredOf) → PredNamed t p → (i : ℕ) (rest : List Lexeme) → Sits bytes ts i (pred t p rest)
        → Back bytes ts (List RawArg × List RawLet × Places) (λ i k x. file.IsItem ts i k (PredItem (span_at ts (suc i)) x.0 x.1 x.2))
        (λ x. PredWritten bytes ts t (span_at ts (suc i)) x.0 x.1 x.2 p) i rest
    pred_back p m i rest h =
        let n = naming t p in
        let a = h.2 in let b = a.2 in
        let xs = args_back p.args m.some (suc (suc (suc i)))
        (word ParR (codes ")") ∷ gap ∷ word BraceL (codes "{") ∷ gap ∷ lets n p.let_names p.lets (root n p.root rest)) b.2 in
        let c = xs.after in let d = c.2 in
        let ls = lets_back n p.let_names p.lets m.lets (suc (suc xs.to)) (root n p.root rest) d.2 in
        let e = ls.after in
        let x = whole_back bytes ts (written n p.root) m.root (suc ls.to) (word Semi (codes ";") ∷ gap ∷ word BraceR (codes "}") ∷ line ∷ rest) e.2 in
        let s = x.after in let z = s.2 in
        back (suc (suc x.to)) (xs.raw, ls.raw, record { from = suc ls.to; to = x.to })
        (file.predicate h.0 a.0 b.0 xs.derives c.0 d.0 ls.derives e.0 (x.raw, x.derives) s.0 z.0)
        (record {
          name_is = a.1;
          args_are = xs.says;
          lets_are = ls.says;
          root_is = record { tree = x.raw; derives = x.derives; ends = s.0; same = x.says };
        }) z.2

    preds_back : (ps : List PredOf) → Every (PredNamed t) ps → (i : ℕ) → Sits bytes ts i (each (pred t) ps []) → FileBack bytes ts t i [] [] ps
    preds_back [] n i h = record { items = []; derives = subst (λ (k : ℕ). file.Items ts i k []) h file.no_item; like = no_more }
    preds_back (p ∷ ps) n i h =
        let r = pred_back p n.0 i (each (pred t) ps []) h in
        let m = preds_back ps n.1 r.to r.after in
        record { items = PredItem _ _ _ _ ∷ m.items; derives = file.an_item r.derives m.derives; like = a_pred r.says m.like }

    params_back : (ps : List PredOf) → Every (PredNamed t) ps → (cs : List CoordOf) → Every CoordNamed cs → (i : ℕ)
        → Sits bytes ts i (each param cs (each (pred t) ps [])) → FileBack bytes ts t i [] cs ps
    params_back ps n [] m i h = preds_back ps n i h
    params_back ps n (c ∷ cs) m i h =
        let r = range_back c m.0 (suc i) (line ∷ each param cs (each (pred t) ps [])) h.2 in
        let d = r.derives in
        let f = params_back ps n cs m.1 (suc r.to) r.after.2 in
        record { items = ParamItem _ r.raw ∷ f.items; derives = file.an_item (file.param h.0 d.0 d.1 d.2 r.after.0) f.derives; like = a_param r.says f.like }

    -- the tokens of the site types, the params and the predicates spell items that are these
    pub sites_back : (ps : List PredOf) → Every (PredNamed t) ps → (cs : List CoordOf) → Every CoordNamed cs → (ss : List SiteOf)
        → Every SiteNamed ss → (i : ℕ) → Sits bytes ts i (each site ss (each param cs (each (pred t) ps []))) → FileBack bytes ts t i ss cs ps
    sites_back ps n cs m [] k i h = params_back ps n cs m i h
    sites_back ps n cs m (s ∷ ss) k i h =
        let r = site_back s k.0 i (each site ss (each param cs (each (pred t) ps []))) h in
        let f = sites_back ps n cs m ss k.1 r.to r.after in
        record { items = SiteItem _ r.raw ∷ f.items; derives = file.an_item r.derives f.derives; like = a_site r.says.0 r.says.1 f.like }
