-- The items of a canonical text say the table's, and their tokens have no fault.
use Rattle.std.proofs.Common.{◌≡◌, ℕ, suc, ◌<◌, ◌≤◌, ◌^◌, Bool, true, false, List, [], ◌∷◌, ◌++◌, length, map, None, refl, ap}
use Rattle.std.proofs.Common.{sym, ◌∙◌, subst, arith, append_assoc, append-nil, length-append}
use Rattle.std.specs.Prelude.{int_lt, unsigned_abs, count_by, filter_map, Option}
use Rattle.std.specs.List.{list_any}
use Rattle.std.proofs.lemmas.Bool.Decides.{nat_tests}
use Rattle.std.proofs.lemmas.Int.{ints}
use Rattle.std.proofs.lemmas.List.{length-map}
use Rattle.std.proofs.lemmas.List.Elements.{filter_map-append}
use Rattle.ln_syntax.specs.Raw.{Span, Token, Item, item_name, is_site, is_param, is_pred, text, same, Sign}
use Rattle.ln_names.specs.Rules.{RawRange, RawCoord, SiteName, ParamName, PredName, fault_at}
use Rattle.ln_syntax.specs.File as file
use Rattle.ln_base.specs.Limits.{most_literal}
use Rattle.ln_names.specs.Numbers.{number, signed, end_value, most_end}
use Rattle.ln_names.specs.Visits.{visits_by, range_visits, coord_visits, item_visits}
use Rattle.ln_names.specs.First.{Clean}
use Rattle.ln_parse.specs.Says.{CoordOf, SiteOf, PredOf, TableOf, ranged, site_said, param_said, sites_said, params_said, PredsSay}
use Rattle.ln_tree.specs.Whole.{item_names}
use Rattle.ln_parse.specs.ReadsBack.{Every}
use Rattle.ln_parse.specs.Spanless.{pred_spanless}
use Rattle.ln_parse.specs.WholeTable.{IsShortName, SiteNames, PredKept, IsWhole}
use Rattle.ln_parse.proofs.Texts.ItemsBack.{of_coord, Like, no_more, a_site, a_param, a_pred, like_sites, like_params}
use Rattle.ln_parse.proofs.Building.Predicates.{PredAt}
use Rattle.ln_parse.proofs.Building.Kept.{pred_name, said_sites, said_params, preds_counted}
use Rattle.ln_names.proofs.Machine.{begins}
use Rattle.ln_parse.proofs.ReadBack.NamePlaces.{Differ}
use Rattle.ln_parse.proofs.ReadBack.CleanValue.{clean_join, not_over, not_at}
use Rattle.ln_parse.proofs.ReadBack.ScopeNames.{differ_left, differ_right, coord_map}
use Rattle.ln_parse.proofs.ReadBack.ValueBack.{new_among, room}
use Rattle.ln_parse.proofs.ReadBack.ArgsBack.{Facts, Declared}
use Rattle.ln_parse.proofs.ReadBack.PredBack.{pred_back}
use Rattle.ln_parse.proofs.Wholes.TestLemmas.{in_order, every_pair}
use Rattle.ln_parse.proofs.Wholes.WholeParts.{InRange, SiteParts, PredParts, TableParts}

in_end : (b : Bool) (n : ℕ) → unsigned_abs (signed b n) < 2 ^ 63 → n < 2 ^ 63
in_end true n h = grind (arith, nat_tests, ints)
in_end false n h = grind (arith, nat_tests, ints)

-- a range within the limits has no fault
range_clean : (bytes : List ℕ) (name : Span) (r : RawRange) (c : CoordOf) → ranged bytes name r ≡ c → InRange c → Clean bytes (range_visits r)
range_clean bytes name r c e h =
    let l : end_value bytes r.low ≡ c.lo = ap (λ (x : CoordOf). x.lo) e in
    let u : end_value bytes r.high ≡ c.hi = ap (λ (x : CoordOf). x.hi) e in
    let a : number bytes r.low.at < 2 ^ 63 = in_end r.low.negative (number bytes r.low.at) (rw l h.low) in
    let b : number bytes r.high.at < 2 ^ 63 = in_end r.high.negative (number bytes r.high.at) (rw u h.high) in
    let o : int_lt (end_value bytes r.high) (end_value bytes r.low) ≡ false = in_order (end_value bytes r.low) (end_value bytes r.high) (rw (l, u) h.order) in
    let p = not_over most_literal (number bytes r.low.at) (omega arith) in
    let q = not_over most_end (number bytes r.low.at) (omega arith) in
    let v = not_over most_literal (number bytes r.high.at) (omega arith) in
    let w = not_over most_end (number bytes r.high.at) (omega arith) in
    (rw (p, q) refl, (rw (v, w, o) refl, tt))

abbrev coord_name : List ℕ → RawCoord → List ℕ
coord_name bytes c = text bytes c.name

short : {a b : List ℕ} → a ≡ b → IsShortName b → length a ≤ 32
short e s = rw e s.1

module _ (bytes : List ℕ) (all : List RawCoord) (own : Differ (map (coord_name bytes) all)) (few : length all ≤ 32) where
  coords_clean : (before raws : List RawCoord) (cs : List CoordOf) → before ++ raws ≡ all → map (of_coord bytes) raws ≡ cs → Every InRange cs
      → Every (λ c. IsShortName c.name) cs → Clean bytes (visits_by coord_visits before raws)
  coords_clean before [] cs q e r s = tt
  coords_clean before (x ∷ raws) [] q e r s = absurd (cc)
  coords_clean before (x ∷ raws) (c ∷ cs) q e r s =
      let e1 : of_coord bytes x ≡ c = cc in
      let e2 : map (of_coord bytes) raws ≡ cs = cc in
      let n : text bytes x.name ≡ c.name = ap (λ (w : CoordOf). w.name) e1 in
      let l = length-append before (x ∷ raws) in
      let m = ap (λ (w : List RawCoord). length w) q in
      let k = new_among (coord_name bytes) all before x raws own q in (
        rw (not_over 32 _ (short n s.0), not_at (length before) 32 (omega arith), k) refl,
        clean_join bytes (range_visits x.range) _ (range_clean bytes x.name x.range c e1 r.0)
            (coords_clean (before ++ (x ∷ [])) raws cs (append_assoc before (x ∷ []) raws ∙ q) e2 r.1 s.1),
      )

abbrev name_of : List ℕ → Item → List ℕ
name_of bytes i = text bytes (item_name i)

-- items say predicates that are the table's but for spans
pub record ItemsDone (bytes : List ℕ) (ts : List Token) (t : TableOf) (before is : List Item) (ps : List PredOf) : Type 0 where
  pub preds : List PredOf
  pub say : (u : TableOf) → u.sites ≡ t.sites → u.params ≡ t.params → PredsSay bytes ts before u is preds
  pub same : map pred_spanless preds ≡ map pred_spanless ps
  pub clean : Clean bytes (visits_by (item_visits ts) before is)

like_names : {bytes : List ℕ} {ts : List Token} {t : TableOf} {is : List Item} {ss : List SiteOf} {cs : List CoordOf} {ps : List PredOf}
    → Like bytes ts t is ss cs ps → map (name_of bytes) is ≡ item_names (record { sites = ss; params = cs; preds = ps })
like_names no_more = refl
like_names (a_site n m l) = let e = like_names l in rw (n, e) refl
like_names (a_param n l) = let e = like_names l in rw (ap (λ (c : CoordOf). c.name) n, e) refl
like_names (a_pred w l) = let n = w.name_is in let e = like_names l in rw (n, e) refl

like_count : {bytes : List ℕ} {ts : List Token} {t : TableOf} {is : List Item} {ss : List SiteOf} {cs : List CoordOf} {ps : List PredOf}
    → Like bytes ts t is ss cs ps → length (filter_map pred_name is) ≡ length ps
like_count no_more = refl
like_count (a_site n m l) = like_count l
like_count (a_param n l) = like_count l
like_count (a_pred w l) = ap suc (like_count l)

-- the items of a file, whose names differ, and which are the site types, params and predicates of a table
record IsFile (bytes : List ℕ) (t : TableOf) (all : List Item) : Type 0 where
  facts : Facts t
  differ : Differ (map (name_of bytes) all)
  few_sites : count_by is_site all ≤ 16
  few_params : count_by is_param all ≤ 16
  few_preds : count_by is_pred all ≤ 16
  sites : sites_said bytes all ≡ t.sites
  params : params_said bytes all ≡ t.params

all_before : {A : Type 0} (f : Item → Option A) (all before is : List Item) (zs : List A) → filter_map f all ≡ zs → before ++ is ≡ all
    → filter_map f is ≡ [] → filter_map f before ≡ zs
all_before f all before is zs h q e =
    sym (append-nil (filter_map f before)) ∙ ap (λ (w : List _). filter_map f before ++ w) (sym e) ∙ sym (filter_map-append f before is)
    ∙ ap (filter_map f) q ∙ h

module _ (bytes : List ℕ) (ts : List Token) (t : TableOf) (all : List Item) (w : IsFile bytes t all) where
  own : (before : List Item) (x : Item) (xs : List Item) → before ++ (x ∷ xs) ≡ all → list_any (λ i. same bytes (item_name i) (item_name x)) before ≡ false
  own before x xs q = new_among (name_of bytes) all before x xs w.differ q

  items_done : (before : List Item) {i k : ℕ} {is : List Item} {ss : List SiteOf} {cs : List CoordOf} {ps : List PredOf} → before ++ is ≡ all
      → file.Items ts i k is → Like bytes ts t is ss cs ps → Every (λ s. SiteParts s × SiteNames s) ss
      → Every (λ c. InRange c × IsShortName c.name) cs → Every (λ p. PredKept p × PredParts t.sites t.params p) ps → ItemsDone bytes ts t before is ps
  items_done before q file.no_item no_more gs gc gp = record { preds = []; say = λ u s p. tt; same = refl; clean = tt }
  items_done before q (file.an_item {x = x} {xs = xs} (file.site {c = rc} {cs = rcs} a1 a2 a3 a4 a5) r) (a_site {s = s} n m l) gs gc gp =
      let p = gs.0.0 in
      let names = gs.0.1 in
      let few = p.few in
      let y = items_done (before ++ (x ∷ [])) (append_assoc before (x ∷ []) xs ∙ q) r l gs.1 gc gp in
      let cm : map (coord_name bytes) (rc ∷ rcs) ≡ map (λ (c : CoordOf). c.name) s.coords =
      sym (coord_map bytes (rc ∷ rcs)) ∙ ap (map (λ (c : CoordOf). c.name)) m in
      let k = ap (λ (v : List CoordOf). length v) m in
      let j = length-map (rc ∷ rcs) (of_coord bytes) in
      let co = coords_clean bytes (rc ∷ rcs) (subst (λ (v : List (List ℕ)). Differ v) (sym cm) p.differ) (omega arith) [] (rc ∷ rcs) s.coords refl m
      p.ranges names.coords in
      let few_before = room is_site 16 all before x xs q refl w.few_sites in
      let c : fault_at bytes (SiteName before) (item_name x) ≡ None =
      rw (not_over 32 _ (short n names.name), not_at (count_by is_site before) 16 few_before, own before x xs q) refl in
      record { preds = y.preds; say = y.say; same = y.same; clean = (c, clean_join bytes (visits_by coord_visits [] (rc ∷ rcs)) _ co y.clean) }
  items_done before q (file.an_item {x = x} {xs = xs} (file.param {r = rr} a1 a2 a3 a4 a5) r) (a_param {c = c} e l) gs gc gp =
      let n : name_of bytes x ≡ c.name = ap (λ (z : CoordOf). z.name) e in
      let y = items_done (before ++ (x ∷ [])) (append_assoc before (x ∷ []) xs ∙ q) r l gs gc.1 gp in
      let few_before = room is_param 16 all before x xs q refl w.few_params in
      let f : fault_at bytes (ParamName before) (item_name x) ≡ None =
      rw (not_over 32 _ (short n gc.0.1), not_at (count_by is_param before) 16 few_before, own before x xs q) refl in
      record {
        preds = y.preds;
        say = y.say;
        same = y.same;
        clean = (f, clean_join bytes (range_visits rr) _ (range_clean bytes (item_name x) rr c e gc.0.0) y.clean);
      }
  items_done before q (file.an_item {x = x} {xs = xs}
      (file.predicate {i = i} {k = kk} {l = l} {args = raws} {ls = ls} a1 a2 a3 a4 a5 a6 a7 a8 a9 b1 b2) r) (a_pred {p = p} v m) gs gc gp =
      let d : Declared bytes before t = record {
        sites = all_before (site_said bytes) all before (x ∷ xs) t.sites w.sites q (like_sites m);
        params = all_before (param_said bytes) all before (x ∷ xs) t.params w.params q (like_params m);
        facts = w.facts;
      } in
      let here : PredAt = record {
        bytes = bytes;
        ts = ts;
        before = before;
        name = item_name x;
        args = raws;
        lets = ls;
        root = record { from = suc kk; to = l };
      } in
      let b = pred_back here t p d a7 (begins Sign a8 refl refl refl) v gp.0.0 gp.0.1 in
      let y = items_done (before ++ (x ∷ [])) (append_assoc before (x ∷ []) xs ∙ q) r m gs gc gp.1 in
      let few_before = room is_pred 16 all before x xs q refl w.few_preds in
      let f : fault_at bytes (PredName before) (item_name x) ≡ None =
      rw (not_over 32 _ (short v.name_is gp.0.0.name), not_at (count_by is_pred before) 16 few_before, own before x xs q) refl in
      record {
        preds = b.pred ∷ y.preds;
        say = λ u s c. (b.says u s c, y.say u s c);
        same = let sa = b.same in let sb = y.same in rw (sa, sb) refl;
        clean = (f, clean_join bytes _ _ b.clean y.clean);
      }

-- the items of the canonical text of a whole table are done from the first on
pub file_done : (bytes : List ℕ) (ts : List Token) (t : TableOf) → IsWhole t → TableParts t → (is : List Item) {k : ℕ} → file.Items ts 0 k is
    → Like bytes ts t is t.sites t.params t.preds → ItemsDone bytes ts t [] is t.preds
file_done bytes ts t w p is d h =
    let site_list = map (λ (s : SiteOf). s.name) t.sites in
    let param_list = map (λ (c : CoordOf). c.name) t.params in
    let pred_list = map (λ (q : PredOf). q.name) t.preds in
    let few_sites = w.few_sites in let few_params = w.few_params in let few_preds = w.few_preds in
    let a = said_sites bytes is in let b = said_params bytes is in let c = like_count h in let e = preds_counted is in
    let sa = ap (λ (v : List SiteOf). length v) (like_sites h) in let sb = ap (λ (v : List CoordOf). length v) (like_params h) in
    items_done bytes ts t is (record {
      facts = record {
        site_names = differ_left site_list (param_list ++ pred_list) p.names;
        param_names = differ_left param_list pred_list (differ_right site_list (param_list ++ pred_list) p.names);
        short_sites = w.sites;
        short_params = w.params;
        site_parts = p.sites;
      };
      differ = subst (λ (v : List (List ℕ)). Differ v) (sym (like_names h)) p.names;
      few_sites = omega arith;
      few_params = omega arith;
      few_preds = omega arith;
      sites = like_sites h;
      params = like_params h;
    }) [] refl d h (every_pair SiteParts SiteNames t.sites p.sites w.sites) (every_pair InRange (λ c. IsShortName c.name) t.params p.params w.params)
    (every_pair PredKept (PredParts t.sites t.params) t.preds w.preds p.preds)
