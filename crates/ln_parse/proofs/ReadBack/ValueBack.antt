-- The expressions, lets and arguments of a canonical text say those of the table, and their tokens have no fault.
use Rattle.std.proofs.Common.{◌≡◌, ℕ, suc, ◌+◌, ◌<◌, ◌≤◌, ◌||◌, Bool, true, false, List, [], ◌∷◌, ◌++◌, length, map, None}
use Rattle.std.proofs.Common.{refl, ap, sym, ◌∙◌, subst, arith, append_assoc, append-nil, length-append}
use Rattle.std.specs.Prelude.{bytes_eq, count_by}
use Rattle.std.specs.List.{list_any}
use Rattle.std.proofs.lemmas.Bool.{and_parts}
use Rattle.std.proofs.lemmas.List.{map-append}
use Rattle.std.proofs.lemmas.List.Folds.{list_any-append}
use Rattle.std.proofs.lemmas.List.Sums.{sum_by-append}
use Rattle.ln_syntax.specs.Raw.{Span, Token, span_at, text, same, Equals}
use Rattle.ln_names.specs.Rules.{RawArg, RawLet, Places, Scope, scope, LetName, fault_at}
use Rattle.ln_syntax.specs.File.{Lets, no_let, a_let}
use Rattle.ln_names.specs.Visits.{visits_by, let_visits, value_visits, value_nodes, nodes_before}
use Rattle.ln_names.specs.First.{Clean}
use Rattle.ln_parse.specs.Says.{Formula, FNum, FInput, FName, FNeg, FAdd, FSub, FMul, FPow, tree, node_count, node_counts, PredOf, TableOf, resolved, Says}
use Rattle.ln_parse.specs.Says.{LetsSay}
use Rattle.ln_tree.specs.Fits.{is_fit, lets_fit}
use Rattle.ln_tree.specs.Whole.{arg_name}
use Rattle.ln_parse.specs.ReadsBack.{Every, Spells, LetsWritten}
use Rattle.ln_parse.specs.Spanless.{spanless}
use Rattle.ln_parse.specs.WholeTable.{IsShortName}
use Rattle.ln_parse.specs.Written.{Written, naming, written, spelling}
use Rattle.ln_parse.proofs.Building.LaidOut.{count_cons, count_append}
use Rattle.ln_parse.proofs.Expressions.Counts.{node_count_is}
use Rattle.ln_names.specs.Nodes.{Begins}
use Rattle.ln_names.proofs.Machine.{begins}
use Rattle.ln_parse.proofs.ReadBack.NamePlaces.{NoneIs, Differ}
use Rattle.ln_parse.proofs.Expressions.Meaning.{meaning, meaning_is}
use Rattle.ln_parse.proofs.ReadBack.CleanValue.{Meant, value_clean, clean_join, not_over, not_at}
use Rattle.ln_parse.proofs.ReadBack.ScopeNames.{PredIn, InScope, written_names, means}
use Rattle.ln_parse.proofs.Wholes.TestLemmas.{neither}

-- spans count for nothing
pub nodes_spanless : (f : Formula) → node_count (spanless f) ≡ node_count f
nodes_spanless (FNum at c) = refl
nodes_spanless (FInput at a c) = refl
nodes_spanless (FName at j) = refl
nodes_spanless (FNeg at e) = let p = nodes_spanless e in omega arith
nodes_spanless (FAdd at e f) = let p = nodes_spanless e in let q = nodes_spanless f in omega arith
nodes_spanless (FSub at e f) = let p = nodes_spanless e in let q = nodes_spanless f in omega arith
nodes_spanless (FMul at e f) = let p = nodes_spanless e in let q = nodes_spanless f in omega arith
nodes_spanless (FPow at e n) = let p = nodes_spanless e in omega arith

-- an expression that is written so says the formula
pub record ValueBack (bytes : List ℕ) (ts : List Token) (s : Scope) (p : Places) (f : Formula) : Type 0 where
  pub formula : Formula
  pub says : Says bytes ts s p formula
  pub same : spanless formula ≡ spanless f
  pub count : value_nodes ts p ≡ node_count f
  pub clean : (m : ℕ) → m + node_count f ≤ 2048 → Clean bytes (value_visits ts s m p)

-- an expression of a canonical text says the table's formula, and its tokens have no fault
pub value_back : (bytes : List ℕ) (ts : List Token) (s : Scope) (t : TableOf) (p : PredOf) → InScope bytes s t p → (f : Formula)
    → is_fit (length p.vars) (length s.lets) (tree p.vars f) ≡ true → (at : Places) → Spells bytes ts at (written (naming t p) f) → Begins ts at.from
    → ValueBack bytes ts s at f
value_back bytes ts s t p v f h at sp fr =
    let m = means bytes s t p v f h in
    let same : spanless (resolved bytes s sp.tree) ≡ spanless f = meaning_is bytes s sp.tree ∙ ap (meaning bytes s) sp.same ∙ m.0 in
    let mt : Meant bytes s (spelling bytes sp.tree) = subst (λ (w : Written). Meant bytes s w) (sym sp.same) m.1 in
    let c : node_count (resolved bytes s sp.tree) ≡ value_nodes ts at = node_count_is bytes s sp.derives sp.ends fr in
    let d = nodes_spanless (resolved bytes s sp.tree) in
    let e = nodes_spanless f in
    let x = ap node_count same in
    let count : value_nodes ts at ≡ node_count f = omega arith in
    record {
      formula = resolved bytes s sp.tree;
      says = record { tree = sp.tree; derives = sp.derives; ends = sp.ends; means = refl };
      same = same;
      count = count;
      clean = λ m l. value_clean bytes s sp.derives sp.ends fr mt m (omega arith);
    }

-- a name is that of one of the elements exactly where it is among their names
pub any_map : {A : Type 0} (name : A → List ℕ) (t : List ℕ) (xs : List A) → list_any (λ x. bytes_eq (name x) t) xs ≡ list_any (λ u. bytes_eq u t) (map name xs)
any_map name t [] = refl
any_map name t (x ∷ xs) = ap (λ b. bytes_eq (name x) t || b) (any_map name t xs)

member : (u t : List ℕ) (us vs : List (List ℕ)) → NoneIs u (us ++ (t ∷ vs)) → bytes_eq u t ≡ false
member u t [] vs h = h.0
member u t (x ∷ us) vs h = member u t us vs h.1

-- a name is none of those before it
pub new_behind : (us vs : List (List ℕ)) (t : List ℕ) → Differ (us ++ (t ∷ vs)) → list_any (λ u. bytes_eq u t) us ≡ false
new_behind [] vs t h = refl
new_behind (u ∷ us) vs t h = let a = member u t us vs h.0 in let b = new_behind us vs t h.1 in rw (a, b) refl

-- of elements whose names differ, none before another has its name
pub new_among : {A : Type 0} (name : A → List ℕ) (all before : List A) (x : A) (xs : List A) → Differ (map name all) → before ++ (x ∷ xs) ≡ all
    → list_any (λ d. bytes_eq (name d) (name x)) before ≡ false
new_among name all before x xs d q =
    let e : map name all ≡ map name before ++ (name x ∷ map name xs) = ap (map name) (sym q) ∙ map-append name before (x ∷ xs) in
    any_map name (name x) before ∙ new_behind (map name before) (map name xs) (name x) (subst (λ (w : List (List ℕ)). Differ w) e d)

-- of at most n elements that pass, fewer than n are before another
pub room : {A : Type 0} (p : A → Bool) (n : ℕ) (all before : List A) (x : A) (xs : List A) → before ++ (x ∷ xs) ≡ all → p x ≡ true → count_by p all ≤ n
    → count_by p before < n
room p n all before x xs q h l =
    let a = ap (count_by p) q in
    let b = count_append p before (x ∷ xs) in
    let c : count_by p (x ∷ xs) ≡ 1 + count_by p xs = count_cons p x xs ∙ rw h refl in omega arith

abbrev let_name : List ℕ → RawLet → List ℕ
let_name bytes l = text bytes l.name

-- what holds of each holds of one in the middle
middle : {A : Type 0} (Q : A → Type 0) (us vs : List A) (t : A) → Every Q (us ++ (t ∷ vs)) → Q t
middle Q [] vs t e = e.0
middle Q (u ∷ us) vs t e = middle Q us vs t e.1

-- a place among the lets of a predicate: those of the scope before it, and the remaining ones, written with the table's names and formulas
pub record RemainingLets (bytes : List ℕ) (ts : List Token) (s : Scope) (t : TableOf) (p : PredOf) (ls : List RawLet) (us : List (List ℕ))
    (es : List Formula) : Type 0 where
  pub pred : PredIn bytes s.items s.args t p
  pub names : p.let_names ≡ map (let_name bytes) s.lets ++ us
  pub writes : LetsWritten bytes ts (naming t p) ls us es
  pub few : length s.lets + length us ≤ 64
  pub fit : lets_fit (length p.vars) (length s.lets) (map (tree p.vars) es) ≡ true
  pub nodes : nodes_before ts s.lets + node_counts es ≤ 2048

-- lets that are written so say the formulas
pub record LetsBack (bytes : List ℕ) (ts : List Token) (s : Scope) (ls : List RawLet) (us : List (List ℕ)) (es : List Formula) : Type 0 where
  pub formulas : List Formula
  pub say : LetsSay bytes ts s.items s.args s.lets ls formulas
  pub same : map spanless formulas ≡ map spanless es
  pub named : map (let_name bytes) ls ≡ us
  pub count : nodes_before ts (s.lets ++ ls) ≡ nodes_before ts s.lets + node_counts es
  pub clean : Clean bytes (visits_by (let_visits ts s.items s.args) s.lets ls)

-- the name of the next let is new and short, and there are few lets before it
let_clean : (bytes : List ℕ) (s : Scope) (t : TableOf) (p : PredOf) (at : Span) (u : List ℕ) (us : List (List ℕ)) → PredIn bytes s.items s.args t p
    → p.let_names ≡ map (let_name bytes) s.lets ++ (u ∷ us) → text bytes at ≡ u → length s.lets < 64
    → fault_at bytes (LetName s.args s.lets) at ≡ None
let_clean bytes s t p at u us g e q l =
    let names = map (let_name bytes) s.lets in
    let args = map (arg_name t.params) p.args in
    let df : Differ ((args ++ names) ++ (u ∷ us)) =
    subst (λ (w : List (List ℕ)). Differ w) (ap (λ (w : List (List ℕ)). args ++ w) e ∙ sym (append_assoc args names (u ∷ us))) g.differ in
    let nw = neither (list_any (λ w. bytes_eq w u) args) (list_any (λ w. bytes_eq w u) names)
    (sym (list_any-append (λ w. bytes_eq w u) args names) ∙ new_behind (args ++ names) us u df) in
    let n1 : list_any (λ (a : RawArg). bytes_eq (text bytes a.name) u) s.args ≡ false =
    any_map (λ (a : RawArg). text bytes a.name) u s.args ∙ ap (list_any (λ w. bytes_eq w u)) (written_names bytes t s.args p.args g.args) ∙ nw.0 in
    let n2 : list_any (λ (m : RawLet). bytes_eq (text bytes m.name) u) s.lets ≡ false = any_map (let_name bytes) u s.lets ∙ nw.1 in
    let n3 : (list_any (λ (a : RawArg). bytes_eq (text bytes a.name) u) s.args || list_any (λ (m : RawLet). bytes_eq (text bytes m.name) u) s.lets)
    ≡ false = rw (n1, n2) refl in
    let n4 : (list_any (λ (a : RawArg). same bytes a.name at) s.args || list_any (λ (m : RawLet). same bytes m.name at) s.lets) ≡ false =
    subst (λ (z : List ℕ). (list_any (λ (a : RawArg). bytes_eq (text bytes a.name) z) s.args
    || list_any (λ (m : RawLet). bytes_eq (text bytes m.name) z) s.lets) ≡ false) (sym q) n3 in
    let short : IsShortName u = middle IsShortName names us u (subst (λ (w : List (List ℕ)). Every IsShortName w) e g.good.lets) in
    let sh : length (text bytes at) ≤ 32 = subst (λ (z : List ℕ). length z ≤ 32) (sym q) short.1 in
    rw (not_over 32 _ sh, not_at (length s.lets) 64 l, n4) refl

-- the lets of a canonical text say the table's formulas, and their tokens have no fault
pub lets_back : (bytes : List ℕ) (ts : List Token) (s : Scope) (t : TableOf) (p : PredOf) {i k : ℕ} {ls : List RawLet} → Lets ts i k ls
    → (us : List (List ℕ)) (es : List Formula) → RemainingLets bytes ts s t p ls us es → LetsBack bytes ts s ls us es
lets_back bytes ts s t p no_let [] [] w =
    record {
      formulas = [];
      say = tt;
      same = refl;
      named = refl;
      count = let z = ap (nodes_before ts) (append-nil s.lets) in omega arith;
      clean = tt;
    }
lets_back bytes ts s t p no_let [] (e ∷ es) w = absurd w.writes
lets_back bytes ts s t p no_let (u ∷ us) es w = absurd w.writes
lets_back bytes ts s t p (a_let l m c d e r) [] es w = absurd w.writes
lets_back bytes ts s t p (a_let l m c d e r) (u ∷ us) [] w = absurd w.writes
lets_back bytes ts s t p (a_let {i = i} {j = j} {ls = ls} l m c d e r) (u ∷ us) (f ∷ fs) w =
    let here : RawLet = record { name = span_at ts (suc i); value = record { from = suc (suc (suc i)); to = j } } in
    let next : Scope = scope s.items s.args (s.lets ++ (here ∷ [])) in
    let q = and_parts (is_fit (length p.vars) (length s.lets) (tree p.vars f)) (lets_fit (length p.vars) (suc (length s.lets)) (map (tree p.vars) fs)) w.fit in
    let wr = w.writes in
    let v : InScope bytes s t p = record { pred = w.pred; more = u ∷ us; lets = w.names } in
    let x = value_back bytes ts s t p v f q.0 here.value wr.1 (begins Equals c refl refl refl) in
    let xc = x.count in
    let wf = w.few in
    let wn = w.nodes in
    let a1 : length (s.lets ++ (here ∷ [])) ≡ suc (length s.lets) = length-append s.lets (here ∷ []) ∙ (omega arith) in
    let a2 : nodes_before ts (s.lets ++ (here ∷ [])) ≡ nodes_before ts s.lets + (0 + value_nodes ts here.value) =
    sum_by-append (λ (m : RawLet). value_nodes ts m.value) s.lets (here ∷ []) in
    let bn : map (let_name bytes) (s.lets ++ (here ∷ [])) ≡ map (let_name bytes) s.lets ++ (u ∷ []) =
    map-append (let_name bytes) s.lets (here ∷ []) ∙ rw wr.0 refl in
    let y = lets_back bytes ts next t p r us fs (record {
      pred = w.pred;
      names = w.names ∙ sym (append_assoc (map (let_name bytes) s.lets) (u ∷ []) us) ∙ ap (λ (z : List (List ℕ)). z ++ us) (sym bn);
      writes = wr.2;
      few = omega arith;
      fit = subst (λ (m : ℕ). lets_fit (length p.vars) m (map (tree p.vars) fs) ≡ true) (sym a1) q.1;
      nodes = omega arith;
    }) in
    let b1 : (s.lets ++ (here ∷ [])) ++ ls ≡ s.lets ++ (here ∷ ls) = append_assoc s.lets (here ∷ []) ls in
    let yc = y.count in
    let b2 = ap (nodes_before ts) b1 in
    record {
      formulas = x.formula ∷ y.formulas;
      say = (x.says, y.say);
      same = let sx = x.same in let sy = y.same in rw (sx, sy) refl;
      named = let ny = y.named in rw (wr.0, ny) refl;
      count = omega arith;
      clean = (
        let_clean bytes s t p here.name u us w.pred w.names wr.0 (omega arith),
        clean_join bytes (value_visits ts s (nodes_before ts s.lets) here.value) _ (x.clean (nodes_before ts s.lets) (omega arith)) y.clean,
      );
    }
