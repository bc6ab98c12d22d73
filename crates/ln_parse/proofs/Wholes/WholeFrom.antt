-- The table of a file without a fault is whole.
use Rattle.std.proofs.Common.{◌≡◌, ℕ, zero, suc, ◌+◌, ◌*◌, ◌<◌, ◌≤◌, ◌==◌, ◌&&◌, ◌||◌, Bool, true, false, nat_lt, List}
use Rattle.std.proofs.Common.{[], ◌∷◌, ◌++◌, length, map, Option, Some, None, refl, ap, sym, ◌∙◌, subst, arith, append_assoc, append-nil}
use Rattle.std.specs.Prelude.{filter_map, ℤ, pos, int_lt, nat_le, slice_get, bytes_eq, count_by}
use Rattle.std.specs.List.{list_any, list_all}
use Rattle.std.specs.Ordering.{int_eq}
use Rattle.std.specs.Cmp.{signed_Decides}
use Rattle.std.proofs.lemmas.Bool.{and_from, le-leb, lt-ltb, eq-eqb}
use Rattle.std.proofs.lemmas.Int.{ints}
use Rattle.std.proofs.lemmas.List.{length-map, map-append}
use Rattle.std.proofs.lemmas.List.Folds.{list_any-append}
use Rattle.std.proofs.lemmas.Slice.Eq.{bytes_eq-Decides}
use Rattle.ln_base.specs.Limits.{most_tokens}
use Rattle.ln_syntax.specs.Raw.{Span, Token, Item, SiteItem, ParamItem, PredItem, item_name, is_param, span_at, text, same}
use Rattle.ln_names.specs.Rules.{RawCoord, RawRange, RawEnd, RawArg, RawLet, Places, scope}
use Rattle.ln_syntax.specs.Place.{IsShallow}
use Rattle.ln_syntax.specs.File as file
use Rattle.ln_syntax.specs.File.{Spelt}
use Rattle.ln_syntax.proofs.Spellings.OneTree.{one_tree}
use Rattle.ln_names.specs.Numbers.{number, signed, end_value}
use Rattle.ln_names.specs.Limits.{Each, CoordWithin, IsKnown, ArgWithin, LetWithin, ItemWithin, FileWithin}
use Rattle.ln_tree.specs.declared.shape.VarInfo.{VarInfo}
use Rattle.ln_tree.specs.Variables.{same_site}
use Rattle.ln_parse.specs.Says.{Formula, CoordOf, SiteOf, ArgOf, PredOf, TableOf, place, ranged, resolved, Says, LetsSay, PredSays, PredsSay, ItemsSay}
use Rattle.ln_parse.specs.Says.{arg_said, site_names, param_names, sites_said, params_said, is_site_said}
use Rattle.ln_tree.specs.Whole.{is_new, differ, is_range, site_whole, is_one_of, is_param_said, arg_name, range_name, same_var, same_vars, nesting, tokens_of}
use Rattle.ln_tree.specs.Whole.{total, end_tokens, range_tokens, site_tokens, param_tokens, pred_tokens, text_tokens, item_names, pred_whole, vars_behind}
use Rattle.ln_tree.specs.Whole.{is_whole}
use Rattle.ln_parse.specs.Ready.{ReadyValue, ReadyLet, ReadyPred, ReadyItem, ReadySite, ReadyFile, Declares}
use Rattle.ln_parse.proofs.Expressions.Fitting.{said, all_known}
use Rattle.ln_parse.proofs.Expressions.Found.{found_at, sites_named, params_named, any_param, get_longer, each_weaker}
use Rattle.ln_parse.proofs.Wholes.FromTokens.{expression_covers}
use Rattle.ln_parse.proofs.Building.Kept.{ranged_good, coords_good, sees, sites_are, params_are, declared, pred_name, preds_named}
use Rattle.ln_parse.proofs.ReadBack.NamePlaces.{NoneIs, Differ}
use Rattle.ln_parse.proofs.ReadBack.ScopeNames.{flip, coord_map}
use Rattle.ln_parse.proofs.Wholes.TestLemmas.{neither, or_false, get_map}
use Rattle.ln_parse.proofs.ReadBack.ValueBack.{any_map}

-- names that differ, as a test
none_test : (t : List ℕ) (us : List (List ℕ)) → NoneIs t us → is_new t us ≡ true
none_test t [] h = refl
none_test t (u ∷ us) h = let q = none_test t us h.1 in rw h.0 q

-- names that differ pass the test that they do
pub differ_test : (us : List (List ℕ)) → Differ us → differ us ≡ true
differ_test [] h = refl
differ_test (u ∷ us) h = and_from (is_new u us) (differ us) (none_test u us h.0) (differ_test us h.1)

none_insert : (u t : List ℕ) (us vs : List (List ℕ)) → NoneIs u (us ++ vs) → bytes_eq u t ≡ false → NoneIs u (us ++ (t ∷ vs))
none_insert u t [] vs h e = (e, h)
none_insert u t (x ∷ us) vs h e = (h.0, none_insert u t us vs h.1 e)

none_of : (t : List ℕ) (vs : List (List ℕ)) → list_any (λ v. bytes_eq v t) vs ≡ false → NoneIs t vs
none_of t [] h = tt
none_of t (v ∷ vs) h = let q = neither (bytes_eq v t) (list_any (λ w. bytes_eq w t) vs) h in (flip v t q.0, none_of t vs q.1)

none_both : (t : List ℕ) (us vs : List (List ℕ)) → NoneIs t us → NoneIs t vs → NoneIs t (us ++ vs)
none_both t [] vs a b = b
none_both t (u ∷ us) vs a b = (a.0, none_both t us vs a.1 b)

-- names that differ go on differing with a further one among them
insert : (us vs : List (List ℕ)) (t : List ℕ) → NoneIs t (us ++ vs) → Differ (us ++ vs) → Differ (us ++ (t ∷ vs))
insert [] vs t n d = (n, d)
insert (u ∷ us) vs t n d = (none_insert u t us vs d.0 (flip t u n.0), insert us vs t n.1 d.1)

push : (us : List (List ℕ)) (t : List ℕ) → Differ us → list_any (λ u. bytes_eq u t) us ≡ false → Differ (us ++ (t ∷ []))
push us t d a = insert us [] t (rw append-nil (none_of t us a)) (rw append-nil d)

-- names each of which is none of these and none of those before it differ
each_differ : {A : Type 0} (us : List (List ℕ)) (name : A → List ℕ) (before xs : List A) → Differ (us ++ map name before)
    → Each (λ b x. (list_any (λ u. bytes_eq u (name x)) us || list_any (λ d. bytes_eq (name d) (name x)) b) ≡ false) before xs
    → Differ (us ++ map name (before ++ xs))
each_differ us name before [] d e = subst (λ w. Differ (us ++ map name w)) (sym (append-nil before)) d
each_differ us name before (x ∷ xs) d e =
    let t = name x in
    let q = neither (list_any (λ u. bytes_eq u t) us) (list_any (λ d. bytes_eq (name d) t) before) e.0 in
    let a = list_any-append (λ u. bytes_eq u t) us (map name before) ∙ or_false _ _ q.0 (sym (any_map name t before) ∙ q.1) in
    let m = append_assoc us (map name before) (t ∷ []) ∙ ap (λ (w : List (List ℕ)). us ++ w) (sym (map-append name before (x ∷ []))) in
    let n = subst (λ (w : List (List ℕ)). Differ w) m (push (us ++ map name before) t d a) in
    subst (λ w. Differ (us ++ map name w)) (append_assoc before (x ∷ []) xs) (each_differ us name (before ++ (x ∷ [])) xs n e.1)

-- a site type
site_from : (bytes : List ℕ) (n : Span) (cs : List RawCoord) → ReadySite bytes n cs → Each (CoordWithin bytes) [] cs
    → site_whole (record { name = text bytes n; coords = map (λ (c : RawCoord). ranged bytes c.name c.range) cs }) ≡ true
site_from bytes n cs r e =
    let xs = map (λ (c : RawCoord). ranged bytes c.name c.range) cs in
    let l = length-map cs (λ (c : RawCoord). ranged bytes c.name c.range) in
    let a = r.some in let b = r.few in
    let d : Differ (map (λ (c : RawCoord). text bytes c.name) cs) =
    each_differ [] (λ (c : RawCoord). text bytes c.name) [] cs tt (each_weaker (CoordWithin bytes) _ (λ b c w. w.new) [] cs e) in
    and_from _ _ (and_from _ _ (and_from _ _ (lt-ltb 0 (length xs) (omega arith)) (le-leb (length xs) 32 (omega arith))) (coords_good bytes [] cs r.coords))
    (differ_test (map (λ (c : CoordOf). c.name) xs) (subst (λ (w : List (List ℕ)). Differ w) (sym (coord_map bytes cs)) d))

-- the same variables
same_site_self : (o : Option ℕ) → same_site o o ≡ true
same_site_self None = refl
same_site_self (Some s) = eq-eqb s s refl

int_self : (z : ℤ) → int_eq z z ≡ true
int_self z = (signed_Decides z z).1 refl

vars_self : (vs : List VarInfo) → same_vars vs vs ≡ true
vars_self [] = refl
vars_self (v ∷ vs) =
    and_from (same_var v v) (same_vars vs vs) (and_from _ _ (and_from _ _ (and_from _ _
    (and_from _ _ (eq-eqb v.arg v.arg refl) (same_site_self v.site)) (eq-eqb v.coord v.coord refl)) (int_self v.lo)) (int_self v.hi)) (vars_self vs)

-- an argument's name is that of its tokens
get_back : {A B : Type 0} (f : A → B) (xs : List A) (k : ℕ) (y : B) → slice_get (map f xs) k ≡ Some y → (x : A) × (slice_get xs k ≡ Some x) × (f x ≡ y)
get_back f [] k y h = absurd (cc)
get_back f (x ∷ xs) zero y h = (x, refl, cc)
get_back f (x ∷ xs) (suc k) y h = get_back f xs k y h

param_named : (bytes : List ℕ) (is : List Item) (S : List SiteOf) (P : List CoordOf) (name : Span) → Declares bytes is S P
    → list_any (λ i. is_param i && same bytes (item_name i) name) is ≡ true
    → range_name (slice_get P (place (λ n. same bytes n name) (param_names is))) ≡ text bytes name
param_named bytes is S P name d h =
    let q = λ (n : Span). same bytes n name in
    let k = place q (param_names is) in
    let f = found_at q (param_names is) (any_param q is ∙ h) in
    let g : text bytes f.element ≡ text bytes name = (bytes_eq-Decides (text bytes f.element) (text bytes name)).0 f.passes in
    let a : slice_get (map (λ (c : CoordOf). c.name) (params_said bytes is)) k ≡ Some (text bytes f.element) =
    ap (λ (w : List (List ℕ)). slice_get w k) (params_named bytes is) ∙ get_map (text bytes) (param_names is) k f.element f.there in
    let b = get_back (λ (c : CoordOf). c.name) (params_said bytes is) k (text bytes f.element) a in
    let c : slice_get P k ≡ Some b.0 = ap (λ (w : List CoordOf). slice_get w k) d.params_are ∙ get_longer (params_said bytes is) d.more_params k b.0 b.1 in
    ap range_name c ∙ b.2 ∙ g

arg_named : (bytes : List ℕ) (is : List Item) (S : List SiteOf) (P : List CoordOf) (r : RawArg) (b : Bool) → r.is_param ≡ b
    → Declares bytes is S P → IsKnown bytes is r b → arg_name P (arg_said bytes is r b) ≡ text bytes r.name
arg_named bytes is S P r true e d k = param_named bytes is S P r.name d k
arg_named bytes is S P r false e d k = refl

args_named : (bytes : List ℕ) (is : List Item) (S : List SiteOf) (P : List CoordOf) (before raws : List RawArg) → Declares bytes is S P
    → Each (ArgWithin bytes is) before raws → map (arg_name P) (said bytes is raws) ≡ map (λ (a : RawArg). text bytes a.name) raws
args_named bytes is S P before [] d e = refl
args_named bytes is S P before (r ∷ raws) d e =
    let a = arg_named bytes is S P r r.is_param refl d e.0.known in
    let b = args_named bytes is S P (before ++ (r ∷ [])) raws d e.1 in
    rw (a, b) refl

-- what an expression says: its canonical text has no more tokens than it, and is nested at most 64 deep
value_whole : (bytes : List ℕ) (ts : List Token) (is : List Item) (raws : List RawArg) (ls : List RawLet) (p : Places) (x : Formula)
    → IsShallow ts → Says bytes ts (scope is raws ls) p x → ReadyValue bytes ts (scope is raws ls) p
    → (p.from + tokens_of (said bytes is raws) 0 x ≤ p.to) × (nesting 0 x ≤ 64)
value_whole bytes ts is raws ls p x h s v =
    let t = (one_tree s.derives s.ends v.derives v.ends).tree in
    let q : resolved bytes (scope is raws ls) v.tree ≡ x = ap (resolved bytes (scope is raws ls)) (sym t) ∙ s.means in
    subst (λ (w : Formula). (p.from + tokens_of (said bytes is raws) 0 w ≤ p.to) × (nesting 0 w ≤ 64)) q
    (expression_covers bytes is raws ls ts h v.derives v.fit)

-- the same of lets that say these formulas and are ready, each after the lets before it
lets_whole : (bytes : List ℕ) (ts : List Token) (is : List Item) (raws : List RawArg) {i k : ℕ} {ls : List RawLet} → IsShallow ts → file.Lets ts i k ls
    → (before : List RawLet) (xs : List Formula) → LetsSay bytes ts is raws before ls xs → Each (ReadyLet bytes ts is raws) before ls
    → (i + total (λ e. 4 + tokens_of (said bytes is raws) 0 e) xs ≤ k) × (list_all (λ e. nat_le (nesting 0 e) 64) xs ≡ true)
lets_whole bytes ts is raws h file.no_let before [] s r = (omega arith, refl)
lets_whole bytes ts is raws h file.no_let before (x ∷ xs) s r = absurd s
lets_whole bytes ts is raws h (file.a_let l n q d m g) before [] s r = absurd s
lets_whole bytes ts is raws h (file.a_let {i = i} {j = j} l n q d m g) before (x ∷ xs) s r =
    let v = value_whole bytes ts is raws before (record { from = suc (suc (suc i)); to = j }) x h s.0 r.0.value in
    let y = lets_whole bytes ts is raws h g _ xs s.1 r.1 in
    let a = v.0 in let b = y.0 in
    (omega arith, and_from _ _ (le-leb (nesting 0 x) 64 v.1) y.1)

args_some : {ts : List Token} {i k : ℕ} {raws : List RawArg} → file.Args ts i k raws → (0 < length raws) × (i + 4 * length raws ≤ suc k)
args_some (file.last_arg a) = (omega arith, omega arith)
args_some (file.more_args a m r) = let q = args_some r in let x = q.0 in let y = q.1 in (omega arith, omega arith)

plain_end : (n : ℕ) → int_lt (pos n) (pos 0) ≡ false
plain_end n = grind (arith, ints)

end_by : (z : ℤ) (v : Bool) → int_lt z (pos 0) ≡ v → end_tokens z ≤ 2
end_by z true h = rw h (omega arith)
end_by z false h = rw h (omega arith)

end_count : (bytes : List ℕ) {ts : List Token} {i j : ℕ} {v : RawEnd} → file.End ts i j v → i + end_tokens (end_value bytes v) ≤ j
end_count bytes {ts = ts} (file.plain {i = i} n) =
    let q : end_tokens (pos (number bytes (span_at ts i))) ≡ 1 = rw (plain_end (number bytes (span_at ts i))) refl in
    omega arith
end_count bytes {ts = ts} (file.minus {i = i} m n) =
    let z = signed true (number bytes (span_at ts (suc i))) in
    let q = end_by z (int_lt z (pos 0)) refl in
    omega arith

range_count : (bytes : List ℕ) {ts : List Token} {i j : ℕ} {r : RawRange} → file.Range ts i j r
    → i + (end_tokens (end_value bytes r.low) + end_tokens (end_value bytes r.high)) + 1 ≤ j
range_count bytes (file.range a m b) = let x = end_count bytes a in let y = end_count bytes b in omega arith

coords_count : (bytes : List ℕ) {ts : List Token} {i k : ℕ} {cs : List RawCoord} → file.Coords ts i k cs
    → i + total range_tokens (map (λ (c : RawCoord). ranged bytes c.name c.range) cs) ≤ k
coords_count bytes file.no_coord = omega arith
coords_count bytes {ts = ts} (file.coord {i = i} n c r s m) = let x = range_count bytes r in let y = coords_count bytes m in omega arith

abbrev pred_tests : List SiteOf → List CoordOf → List ℕ → List ℕ → List ArgOf → ℕ → List VarInfo → List (List ℕ) → List Formula → Formula → Bool
pred_tests S P shape name args sites vars names lets root =
    bytes_eq shape name && nat_lt 0 (length args) && list_all (is_one_of (length S) (length P)) args
    && nat_le (count_by is_site_said args) 5 && nat_le (count_by is_param_said args) 8
    && (sites == count_by is_site_said args) && same_vars vars (vars_behind S P 0 0 args) && differ (map (arg_name P) args ++ names)
    && list_all (λ e. nat_le (nesting 0 e) 64) lets && nat_le (nesting 0 root) 64

-- the tokens of a predicate say p of the table: it is ready and within the limits, after items that declare the table's site types and params
record PredRead (bytes : List ℕ) (ts : List Token) (is : List Item) (t : TableOf) (name : Span) (raws : List RawArg) (ls : List RawLet)
    (root : Places) (p : PredOf) : Type 0 where
  says : PredSays bytes ts is t name raws ls root p
  ready : ReadyPred bytes ts is name raws ls root
  declares : Declares bytes is t.sites t.params
  args : Each (ArgWithin bytes is) [] raws
  lets : Each (LetWithin bytes ts is raws) [] ls

pred_from : {bytes : List ℕ} {ts : List Token} {is : List Item} {t : TableOf} {name : Span} {raws : List RawArg} {ls : List RawLet} (p : PredOf)
    {i j k l : ℕ} → IsShallow ts → file.Args ts (suc (suc (suc i))) j raws → file.Lets ts (suc (suc j)) k ls
    → PredRead bytes ts is t name raws ls (record { from = suc k; to = l }) p → (pred_whole t.sites t.params p ≡ true) × (i + pred_tokens p ≤ suc (suc l))
pred_from {bytes = bytes} {ts = ts} {is = is} {t = t} {raws = raws} {ls = ls} p {k = k} {l = l} h as' lets m =
    let s = m.says in
    let r = m.ready in
    let aw = m.args in
    let S = t.sites in
    let P = t.params in
    let xs = said bytes is raws in
    let g = sees bytes is raws S P m.declares r.args in
    let y = lets_whole bytes ts is raws h lets [] p.lets s.lets_are r.lets in
    let v = value_whole bytes ts is raws ls (record { from = suc k; to = l }) p.root h s.root_is r.root in
    let c = args_some as' in
    let c0 = c.0 in let c1 = c.1 in
    let n = length-map raws (λ (a : RawArg). arg_said bytes is a a.is_param) in
    let q : p.args ≡ xs = s.args_are in
    let f1 = r.site_args in let f2 = r.param_args in
    let f3 = sites_are bytes is raws in let f4 = params_are bytes is raws in
    let names : map (arg_name P) xs ≡ map (λ (a : RawArg). text bytes a.name) raws = args_named bytes is S P [] raws m.declares aw in
    let us = map (λ (a : RawArg). text bytes a.name) raws in
    let df1 : Differ us = each_differ [] (λ (a : RawArg). text bytes a.name) [] raws tt (each_weaker (ArgWithin bytes is) _ (λ b a w. w.new) [] raws aw) in
    let df2 = each_differ us (λ (l : RawLet). text bytes l.name) [] ls (rw append-nil df1) (each_weaker (LetWithin bytes ts is raws) _
    (λ b l w. rw (any_map (λ (a : RawArg). text bytes a.name) (text bytes l.name) raws) at w.new) [] ls m.lets) in
    let df3 : Differ (map (arg_name P) xs ++ p.let_names) = rw (names, s.names_are) df2 in
    let t0 = y.0 in let t1 = v.0 in
    let tests : pred_tests S P p.shape_name p.name p.args p.sites p.vars p.let_names p.lets p.root ≡ true =
    subst (λ (w : List ArgOf). pred_tests S P p.shape_name p.name w p.sites p.vars p.let_names p.lets p.root ≡ true) (sym q)
    (and_from _ _ (and_from _ _ (and_from _ _ (and_from _ _ (and_from _ _ (and_from _ _
    (and_from _ _ (and_from _ _ (and_from _ _ (name_same p.shape_name p.name (s.shape_is ∙ sym s.name_is)) (lt-ltb 0 (length xs) (omega arith)))
    (all_known bytes is raws S P g)) (le-leb (count_by is_site_said xs) 5 (omega arith)))
    (le-leb (count_by is_param_said xs) 8 (omega arith)))
    (eq-eqb p.sites (count_by is_site_said xs) (s.sites_are ∙ ap (count_by is_site_said) q)))
    (vars_same p.vars (vars_behind S P 0 0 xs) (s.vars_are ∙ ap (vars_behind S P 0 0) q)))
    (differ_test (map (arg_name P) xs ++ p.let_names) df3)) y.1) (le-leb (nesting 0 p.root) 64 v.1)) in
    let len : length p.args ≡ length xs = ap (λ (w : List ArgOf). length w) q in
    let k1 : total (λ z. 4 + tokens_of p.args 0 z) p.lets ≡ total (λ z. 4 + tokens_of xs 0 z) p.lets =
    ap (λ (w : List ArgOf). total (λ z. 4 + tokens_of w 0 z) p.lets) q in
    let k2 : tokens_of p.args 0 p.root ≡ tokens_of xs 0 p.root = ap (λ (w : List ArgOf). tokens_of w 0 p.root) q in
    (tests, omega arith)
  where
    name_same : (a b : List ℕ) → a ≡ b → bytes_eq a b ≡ true
    name_same a b h = (bytes_eq-Decides a b).1 h

    vars_same : (a b : List VarInfo) → a ≡ b → same_vars a b ≡ true
    vars_same a b h = rw h (vars_self b)

-- what is whole from place i on
record ItemsWhole (bytes : List ℕ) (t : TableOf) (i k : ℕ) (is : List Item) (ps : List PredOf) : Type 0 where
  sites : list_all site_whole (sites_said bytes is) ≡ true
  params : list_all is_range (params_said bytes is) ≡ true
  preds : list_all (pred_whole t.sites t.params) ps ≡ true
  tokens : i + (total site_tokens (sites_said bytes is) + (total param_tokens (params_said bytes is) + total pred_tokens ps)) ≤ k

-- the items of a file: they are ready, say the site types and params of the table, and are nested no deeper than the limit
record FileRead (bytes : List ℕ) (ts : List Token) (t : TableOf) (all : List Item) : Type 0 where
  sites : t.sites ≡ sites_said bytes all
  params : t.params ≡ params_said bytes all
  ready : Each (ReadyItem bytes ts) [] all
  shallow : IsShallow ts

module _ (bytes : List ℕ) (ts : List Token) (t : TableOf) (all : List Item) (f : FileRead bytes ts t all) where
  items_whole : (before : List Item) {i k : ℕ} {is : List Item} → file.Items ts i k is → (ps : List PredOf) → PredsSay bytes ts before t is ps
      → before ++ is ≡ all → Each (ReadyItem bytes ts) before is → Each (ItemWithin bytes ts) before is → ItemsWhole bytes t i k is ps
  items_whole before file.no_item [] s q r w = record { sites = refl; params = refl; preds = refl; tokens = omega arith }
  items_whole before file.no_item (p ∷ ps) s q r w = absurd s
  items_whole before (file.an_item {x = x} {xs = xs} (file.site {i = i} {c = rc} {cs = rcs} a1 a2 a3 a4 a5) y) ps s q r w =
      let m = items_whole (before ++ (x ∷ [])) y ps s (append_assoc before (x ∷ []) xs ∙ q) r.1 w.1 in
      let c = coords_count bytes a4 in
      let g = m.tokens in
      record {
        sites = and_from _ _ (site_from bytes (span_at ts (suc i)) (rc ∷ rcs) r.0 w.0.parts.1) m.sites;
        params = m.params;
        preds = m.preds;
        tokens = omega arith;
      }
  items_whole before (file.an_item {x = x} {xs = xs} (file.param {i = i} {r = rr} a1 a2 a3 a4 a5) y) ps s q r w =
      let m = items_whole (before ++ (x ∷ [])) y ps s (append_assoc before (x ∷ []) xs ∙ q) r.1 w.1 in
      let c = range_count bytes a4 in
      let g = m.tokens in
      record { sites = m.sites; params = and_from _ _ (ranged_good bytes (span_at ts (suc i)) rr w.0.parts) m.params; preds = m.preds; tokens = omega arith }
  items_whole before (file.an_item (file.predicate a1 a2 a3 a4 a5 a6 a7 a8 a9 b1 b2) y) [] s q r w = absurd s
  items_whole before (file.an_item {x = x} {xs = xs} (file.predicate a1 a2 a3 a4 a5 a6 a7 a8 a9 b1 b2) y) (p ∷ ps) s q r w =
      let d = declared bytes ts before (x ∷ xs) all t.sites t.params q f.sites f.params f.ready in
      let v = pred_from p f.shallow a4 a7 (record { says = s.0; ready = r.0; declares = d; args = w.0.parts.args_each; lets = w.0.parts.lets_each }) in
      let m = items_whole (before ++ (x ∷ [])) y ps s.1 (append_assoc before (x ∷ []) xs ∙ q) r.1 w.1 in
      let a = v.1 in let g = m.tokens in
      record { sites = m.sites; params = m.params; preds = and_from _ _ v.0 m.preds; tokens = omega arith }

-- a name that no item has is none of those of any kind
record Spread (bytes : List ℕ) (t : List ℕ) (is : List Item) : Type 0 where
  sites : NoneIs t (map (text bytes) (site_names is))
  params : NoneIs t (map (text bytes) (param_names is))
  preds : NoneIs t (map (text bytes) (filter_map pred_name is))

spread : (bytes : List ℕ) (t : List ℕ) (is : List Item) → NoneIs t (map (λ (i : Item). text bytes (item_name i)) is) → Spread bytes t is
spread bytes t [] h = record { sites = tt; params = tt; preds = tt }
spread bytes t (SiteItem n cs ∷ is) h =
    let r = spread bytes t is h.1 in
    record { sites = (h.0, r.sites); params = r.params; preds = r.preds }
spread bytes t (ParamItem n rr ∷ is) h =
    let r = spread bytes t is h.1 in
    record { sites = r.sites; params = (h.0, r.params); preds = r.preds }
spread bytes t (PredItem n as' ls rr ∷ is) h =
    let r = spread bytes t is h.1 in
    record { sites = r.sites; params = r.params; preds = (h.0, r.preds) }

-- the names of the site types, of the params and of the predicates
abbrev all_texts : List ℕ → List Item → List (List ℕ)
all_texts bytes is = map (text bytes) (site_names is) ++ (map (text bytes) (param_names is) ++ map (text bytes) (filter_map pred_name is))

none_of_all : (bytes : List ℕ) (t : List ℕ) (is : List Item) → NoneIs t (map (λ (i : Item). text bytes (item_name i)) is) → NoneIs t (all_texts bytes is)
none_of_all bytes t is h = let s = spread bytes t is h in none_both t _ _ s.sites (none_both t _ _ s.params s.preds)

-- names of items that differ differ kind by kind
kinds_differ : (bytes : List ℕ) (is : List Item) → Differ (map (λ (i : Item). text bytes (item_name i)) is) → Differ (all_texts bytes is)
kinds_differ bytes [] d = tt
kinds_differ bytes (SiteItem n cs ∷ is) d = (none_of_all bytes (text bytes n) is d.0, kinds_differ bytes is d.1)
kinds_differ bytes (ParamItem n r ∷ is) d =
    insert (map (text bytes) (site_names is)) _ (text bytes n) (none_of_all bytes (text bytes n) is d.0) (kinds_differ bytes is d.1)
kinds_differ bytes (PredItem n as' ls r ∷ is) d =
    let S = map (text bytes) (site_names is) in
    let P = map (text bytes) (param_names is) in
    let Q = map (text bytes) (filter_map pred_name is) in
    let t = text bytes n in
    let a : NoneIs t ((S ++ P) ++ Q) = rw (append_assoc S P Q) (none_of_all bytes t is d.0) in
    let b : Differ ((S ++ P) ++ Q) = rw (append_assoc S P Q) (kinds_differ bytes is d.1) in
    subst (λ (w : List (List ℕ)). Differ w) (append_assoc S P (t ∷ Q)) (insert (S ++ P) Q t a b)

-- the table that the items of a file without a fault say is whole
pub whole_from : (bytes : List ℕ) (ts : List Token) (is : List Item) → length ts ≤ most_tokens → IsShallow ts → Spelt ts is
    → ReadyFile bytes ts is → FileWithin bytes ts is → (t : TableOf) → ItemsSay bytes ts is t → is_whole t ≡ true
whole_from bytes ts is l h d r w t s =
    let f : FileRead bytes ts t is = record { sites = s.sites_are; params = s.params_are; ready = r.each; shallow = h } in
    let m = items_whole bytes ts t is f [] d t.preds s.preds_are refl r.each w.each in
    let a : list_all site_whole t.sites ≡ true = ap (list_all site_whole) s.sites_are ∙ m.sites in
    let b : list_all is_range t.params ≡ true = ap (list_all is_range) s.params_are ∙ m.params in
    let x = ap (map (λ (v : SiteOf). v.name)) s.sites_are ∙ sites_named bytes is in
    let y = ap (map (λ (v : CoordOf). v.name)) s.params_are ∙ params_named bytes is in
    let z = preds_named bytes ts t [] is t.preds s.preds_are in
    let n : item_names t ≡ all_texts bytes is = rw (x, y, z) refl in
    let own = each_differ [] (λ (i : Item). text bytes (item_name i)) [] is tt (each_weaker (ItemWithin bytes ts) _ (λ b i v. v.new) [] is w.each) in
    let c : differ (item_names t) ≡ true = ap differ n ∙ differ_test (all_texts bytes is) (kinds_differ bytes is own) in
    let k1 = ap (λ (v : List SiteOf). total site_tokens v) s.sites_are in
    let k2 = ap (λ (v : List CoordOf). total param_tokens v) s.params_are in
    let k3 = m.tokens in
    and_from _ _ (and_from _ _ (and_from _ _ (and_from _ _ a b) m.preds) c) (le-leb (text_tokens t) most_tokens (omega arith))
