-- `edges`: its points file comes to one thing; what it requires is one and is carried out by a whole text, and where it ends.
use Rattle.std.proofs.Common.{◌≡◌, ℕ, ◌<◌, ◌≤◌, true, false, List, [], ◌∷◌, length, map, Some, None, Option}
use Rattle.std.proofs.Common.{refl, ap, sym, ◌∙◌, subst, arith, true≢false, get_or, option_map}
use Rattle.std.specs.Prelude.{Result, slice_get, slice_index_or, nat_eq, nat_lt}
use Rattle.std.specs.List.{list_all}
use Rattle.std.proofs.lemmas.Bool.{and_parts}
use Rattle.std.proofs.lemmas.Bool.Decides.{nat_tests}
use Rattle.std.proofs.lemmas.List.{length-map}
use Rattle.std.proofs.lemmas.Option.{same_Some, slice_get-map}
use Rattle.ln_base.specs.Outside.{Shown, refused}
use Rattle.ln_algebra.specs.Orders.{BySmallest}
use Rattle.ln_tree.specs.declared.items.Arg.{Arg}
use Rattle.ln_tree.specs.declared.items.Site.{Site}
use Rattle.ln_tree.specs.declared.pred.Pred.{Pred}
use Rattle.ln_tree.specs.declared.shape.VarInfo.{VarInfo}
use Rattle.ln_tree.specs.declared.table.Table.{Table}
use Rattle.ln_tree.specs.Table.{ArgOf, ParamArg, PredOf, SiteArg, SiteOf, TableOf, arg_of, coord_of, pred_of, site_of}
use Rattle.ln_tree.specs.Whole.{is_one_of}
use Rattle.ln_parse.proofs.Wholes.TestLemmas.{below}
use Rattle.ln_parse.proofs.Wholes.WholeParts.{PredParts, SiteParts, table_parts}
use Rattle.ln_compile.specs.Accepted.{root_of}
use Rattle.ln_compile.specs.Filtered.{AnswersFor}
use Rattle.ln_code.specs.Kept.{IsProgram}
use Rattle.ln_code.specs.Part.{Part}
use Rattle.ln_code.proofs.Verdicts.Machine.{programs-run}
use Rattle.ln_rows.specs.Columns.{site_columns}
use Rattle.ln_rows.specs.Left.{Records, records_in}
use Rattle.ln_edges.specs.declared.point.Point.{Point as code_point}
use Rattle.ln_edges.specs.Edges.{ArePointsFor, Edge, points_in, three_of, width}
use Rattle.ln_edges.specs.Lines.{AreEdgeLines, edge_line}
use Rattle.ln_edges.specs.Pairs.{AreLines}
use Rattle.ln_edges.specs.Points.{PointOf, point_of}
use Rattle.ln_edges.specs.Read.{ArePointsOf, IsPointFault}
use Rattle.ln_edges.specs.Three.{IsOfThree}
use Rattle.ln_edges.proofs.LawLemmas.{lines_are}
use Rattle.ln_edges.proofs.OneLemmas.{fault-one, points-faultless, points-one}
use Rattle.ln_edges.proofs.PairLemmas.{lines-one}
use Rattle.ln_edges.proofs.RowLemmas.{three_width}
use Rattle.ln_edges.proofs.SuitLemmas.{points_fit}
use Rattle.ln_edges.proofs.ThreeLemmas.{tables_three, every_at}
use Rattle.ln_top.specs.declared.frame.ready.Ready.{Ready}
use Rattle.ln_top.specs.declared.frame.status.End.{End}
use Rattle.ln_top.specs.declared.frame.status.End.TheVariants.{Done}
use Rattle.ln_top.specs.declared.frame.status.Early.{Early}
use Rattle.ln_top.specs.declared.frame.stop.Stop.{Stop}
use Rattle.ln_top.specs.declared.frame.stop.Stop.TheVariants as stop
use Rattle.ln_top.specs.declared.frame.stop.Why.{Why}
use Rattle.ln_top.specs.declared.frame.stop.Why.TheVariants.{Header, Point}
use Rattle.ln_top.proofs.JudgesLemmas.AuditLaws.{firsts_same}
use Rattle.ln_top.specs.Judges.Three.{is_three, one_type, type_of}
use Rattle.ln_top.specs.Frame.Carried.{CarriesOut, Halts, NoPart, Says, short, tells}
use Rattle.ln_top.specs.Judges.Edges as edges
use Rattle.ln_top.specs.Judges.Edges.{AreEdgesOf, AreOfType, EdgesEnds, EdgesSaid, HasPoints, HasType, HoldsPoints, IsTypeOf, ReadsPoints, edges_work}
use Rattle.ln_top.specs.Judges.Edges.{StopsPoints, point_names}
use Rattle.ln_compile.specs.Compiled.{AreNumbered}
use Rattle.ln_top.specs.Frame.Ready.{StandsFor}
use Rattle.ln_rows.specs.Header.{IsWrongHeader}
use Rattle.ln_top.specs.Frame.Said.{Said, Count, whole}
use Rattle.ln_top.specs.Frame.Source.{view}
use Rattle.ln_top.specs.Frame.Given.{Given, Outcome, stops, missing, gives}
use Rattle.ln_top.specs.Frame.Stop.{said_of, why_end}
use Rattle.ln_top.specs.Frame.Work as kind_of
use Rattle.ln_top.specs.Frame.Work.{IsWorkEnd}
use Rattle.ln_top.proofs.FrameLemmas.Carry.{says_carried}
use Rattle.ln_top.proofs.FrameLemmas.Outcomes.{some_same}
use Rattle.ln_rows.proofs.HeaderLaws.{site_like}
use Rattle.ln_compile.proofs.Numbers.{one_numbered}
use Rattle.ln_top.proofs.FrameLemmas.Laws.{IsLawful, shape_objects}
use Rattle.ln_top.specs.declared.frame.asked.Asked.TheVariants.{ThreeSites}
use Rattle.ln_top.specs.Frame.Signature.{AreAsked}
use Rattle.ln_rows.proofs.HeaderLaws.{header_is, tail_same}

-- ---- what is given is one
same_kind : {a b c d e f : List ℕ} {k l : ℕ} → SiteArg a k ∷ SiteArg b k ∷ SiteArg c k ∷ [] ≡ SiteArg d l ∷ SiteArg e l ∷ SiteArg f l ∷ [] → k ≡ l
same_kind e = cc

same_stop : {why other : Why} → (let o : Outcome (List PointOf) = stops why in o ≡ stops other) → why ≡ other
same_stop e = cc

-- a predicate is over three sites of one type
one_three : (t : TableOf) (p : PredOf) (a b : SiteOf) → IsOfThree t p a → IsOfThree t p b → a ≡ b
one_three t p a b h k =
    same_Some a b (sym h.there ∙ ap (slice_get t.sites) (same_kind (sym h.args ∙ k.args)) ∙ k.there)

-- two ways to see what is given have one predicate
pub same_pred : (g : Given) (p q : PredOf) (a b : SiteOf) → HasType g p a → HasType g q b → p ≡ q
same_pred g p q a b h k = firsts_same (sym h.pred ∙ k.pred)

same_type : (g : Given) (p q : PredOf) (a b : SiteOf) → HasType g p a → HasType g q b → a ≡ b
same_type g p q a b h k = one_three g.table q a b (rw (same_pred g p q a b h k) at h.three) k.three

same_records : (g : Given) (p q : PredOf) (a b : SiteOf) (rs ss : Records) → HasPoints g p a rs → HasPoints g q b ss → rs ≡ ss
same_records g p q a b rs ss h k = sym h.are ∙ ap records_in (firsts_same (sym h.text ∙ k.text)) ∙ k.are

-- ---- the points file comes to one thing
not_wrong : {P : Type 0} {names : List (List ℕ)} {rs xs : Records} → IsWrongHeader names rs → rs ≡ names ∷ xs → P
not_wrong w e = absurd ((rw e at w) refl)

not_few : {P : Type 0} {first : List (List ℕ)} {rs xs ys : Records} → rs ≡ first ∷ xs → rs ≡ first ∷ ys → 256 < length xs → length ys ≤ 256 → P
not_few {xs = xs} {ys = ys} e f h k =
    let l : length xs ≡ length ys = ap length (tail_same (sym e ∙ f)) in
    absurd (omega (arith, h, k, l))

module _ (type : SiteOf) (rs : Records) where
  faultless : {P : Type 0} (xs ys : Records) (n : ℕ) (ps : List PointOf) → rs ≡ point_names type ∷ xs → rs ≡ point_names type ∷ ys
      → IsPointFault type.coords xs n → ArePointsOf type.coords ys ps → P
  faultless xs ys n ps e f i k = absurd (points-faultless type.coords ys ps n k (rw (tail_same (sym e ∙ f)) at i))

  one_points : (o p : Outcome (List PointOf)) → ReadsPoints type rs o → ReadsPoints type rs p → o ≡ p
  one_points o p (edges.wrong w) (edges.wrong x) = refl
  one_points o p (edges.wrong w) (edges.many ys f y) = not_wrong w f
  one_points o p (edges.wrong w) (edges.fault ys m f y k) = not_wrong w f
  one_points o p (edges.wrong w) (edges.points ys qs f y k) = not_wrong w f
  one_points o p (edges.many xs e h) (edges.wrong w) = not_wrong w e
  one_points o p (edges.many xs e h) (edges.many ys f y) = refl
  one_points o p (edges.many xs e h) (edges.fault ys m f y k) = not_few e f h y
  one_points o p (edges.many xs e h) (edges.points ys qs f y k) = not_few e f h y
  one_points o p (edges.fault xs n e h i) (edges.wrong w) = not_wrong w e
  one_points o p (edges.fault xs n e h i) (edges.many ys f y) = not_few f e y h
  one_points o p (edges.fault xs n e h i) (edges.fault ys m f y k) =
      ap (λ (z : ℕ). stops (Point z)) (fault-one type.coords ys n m (rw (tail_same (sym e ∙ f)) at i) k)
  one_points o p (edges.fault xs n e h i) (edges.points ys qs f y k) = faultless xs ys n qs e f i k
  one_points o p (edges.points xs ps e h i) (edges.wrong w) = not_wrong w e
  one_points o p (edges.points xs ps e h i) (edges.many ys f y) = not_few f e y h
  one_points o p (edges.points xs ps e h i) (edges.fault ys m f y k) = faultless ys xs m ps f e k i
  one_points o p (edges.points xs ps e h i) (edges.points ys qs f y k) =
      ap gives (points-one type.coords ys ps qs (rw (tail_same (sym e ∙ f)) at i) k)

-- also by two ways to see what is given
pub one_outcome : (g : Given) (p q : PredOf) (a b : SiteOf) (rs ss : Records) (o r : Outcome (List PointOf)) → HasPoints g p a rs
    → HasPoints g q b ss → ReadsPoints a rs o → ReadsPoints b ss r → o ≡ r
one_outcome g p q a b rs ss o r h k x y =
    one_points b ss o r (rw (same_type g p q a b h.has k.has, same_records g p q a b rs ss h k) at x) y

-- a points file is read as one list of points
pub one_read : (g : Given) (p q : PredOf) (a b : SiteOf) (rs ss : Records) (ps qs : List PointOf) → HasPoints g p a rs
    → HasPoints g q b ss → ReadsPoints a rs (gives ps) → ReadsPoints b ss (gives qs) → ps ≡ qs
one_read g p q a b rs ss ps qs h k x y = cc (one_outcome g p q a b rs ss (gives ps) (gives qs) h k x y)

-- a points file doesn't both stop the command and have points
pub never_both : {P : Type 0} (g : Given) (p q : PredOf) (a b : SiteOf) (rs ss : Records) (why : Why) (qs : List PointOf)
    → HasPoints g p a rs → HasPoints g q b ss → ReadsPoints a rs (stops why) → ReadsPoints b ss (gives qs) → P
never_both g p q a b rs ss why qs h k x y =
    cc (one_outcome g p q a b rs ss (stops why) (gives qs) h k x y)

-- ---- what it requires is one
one_text : (p q : PredOf) (ps qs : List PointOf) (s t : List ℕ) → p ≡ q → ps ≡ qs → AreEdgesOf p ps s → AreEdgesOf q qs t → s ≡ t
one_text p q ps qs s t e f x y =
    lines-one (Edge q.vars (root_of q) qs) (edge_line qs) s t (rw (e, f) at x) y

-- the output that `edges` requires is one
pub one_said : (g : Given) (a b : Said) → EdgesSaid g a → EdgesSaid g b → a ≡ b
one_said g a b (edges.stopped p s rs why h x) (edges.stopped q t ss other k y) =
    ap said_of (same_stop (one_outcome g p q s t rs ss (stops why) (stops other) h k x y))
one_said g a b (edges.stopped p s rs why h x) (edges.listed q t ss qs text k y z) = never_both g p q s t rs ss why qs h k x y
one_said g a b (edges.listed p s rs ps text h x z) (edges.stopped q t ss other k y) = never_both g q p t s ss rs other ps k h y x
one_said g a b (edges.listed p s rs ps text h x z) (edges.listed q t ss qs more k y w) =
    ap (whole Done) (one_text p q ps qs text more (same_pred g p q s t h.has k.has) (one_read g p q s t rs ss ps qs h k x y) z w)

ends_so : (g : Given) (a : Said) → EdgesSaid g a → EdgesEnds g a.end
ends_so g a (edges.stopped p s rs why h x) = edges.stopped p s rs why h x refl
ends_so g a (edges.listed p s rs ps text h x z) = edges.done p s rs ps h x refl

one : (g : Given) (a b : End) → EdgesEnds g a → EdgesEnds g b → a ≡ b
one g a b (edges.stopped p s rs why h x e) (edges.stopped q t ss other k y f) =
    e ∙ ap why_end (same_stop (one_outcome g p q s t rs ss (stops why) (stops other) h k x y)) ∙ sym f
one g a b (edges.stopped p s rs why h x e) (edges.done q t ss qs k y f) = never_both g p q s t rs ss why qs h k x y
one g a b (edges.done p s rs ps h x e) (edges.stopped q t ss other k y f) = never_both g q p t s ss rs other ps k h y x
one g a b (edges.done p s rs ps h x e) (edges.done q t ss qs k y f) = e ∙ sym f

-- the ends of stops that a points file has
kind_stopped : (type : SiteOf) (rs : Records) (why : Why) → ReadsPoints type rs (stops why) → IsWorkEnd (why_end why)
kind_stopped type rs _ (edges.wrong w) = kind_of.rows
kind_stopped type rs _ (edges.many xs f h) = kind_of.many
kind_stopped type rs _ (edges.fault xs n f h i) = kind_of.rows

kind : (g : Given) (e : End) → EdgesEnds g e → IsWorkEnd e
kind g e (edges.stopped p s rs why h x f) = subst IsWorkEnd (sym f) (kind_stopped s rs why x)
kind g e (edges.done p s rs ps h x f) = subst IsWorkEnd (sym f) kind_of.done

-- the laws of a work hold for `edges`
pub lawful : IsLawful ThreeSites edges_work
lawful = record {
  tells = λ boxes. ends_so;
  single = one;
  kind = kind;
  objects = shape_objects;
  said = λ v boxes g i q. one_said g;
}

-- ---- from the code
-- a points file isn't missing: it was read before the work
none_missing : (type : SiteOf) (rs : Records) (o : Outcome (List PointOf)) → ReadsPoints type rs o → o ≡ missing → ⊥
none_missing type rs o (edges.wrong w) e = cc
none_missing type rs o (edges.many xs f k) e = cc
none_missing type rs o (edges.fault xs n f k i) e = cc
none_missing type rs o (edges.points xs ps f k i) e = cc

-- the line of a stop was written
pub stop_carried : (g : Given) (s : Stop) (puts : Count) (result : Result End Early) (was now : Option Shown) → StopsPoints g s
    → Says s puts result was now → CarriesOut (EdgesSaid g) NoPart ⊥ ⊥ puts result was now
stop_carried g s puts result was now h x =
    says_carried (ReadsPoints h.type h.records) s (record { owes = EdgesSaid g; part = NoPart; lacks = ⊥; reads = ⊥ }) puts result was now
    (λ why o. edges.stopped h.pred h.type h.records why h.has o) (λ m. none_missing h.type h.records missing m refl) h.halts x

-- the one predicate that is given is that with the number
pub one_given : (table preds : List PredOf) (numbers : List ℕ) → AreNumbered table numbers preds → length numbers ≡ 1
    → (p : PredOf) × (preds ≡ p ∷ []) × (slice_get table (slice_index_or numbers 0 0) ≡ Some p)
one_given table preds [] h l = absurd (omega (arith, l))
one_given table [] (i ∷ []) h l = absurd h
one_given table (p ∷ []) (i ∷ []) h l = (p, refl, h.0)
one_given table (p ∷ q ∷ rest) (i ∷ []) h l = absurd h.1
one_given table preds (i ∷ j ∷ rest) h l = absurd (omega (arith, l))

-- the points are in range for the program of the predicate
module _ (r : Ready) (g : Given) (p : PredOf) (number : ℕ) (program : Part) (points : List code_point) (stands : StandsFor r g)
    (given : g.preds ≡ p ∷ []) (there : slice_get (map pred_of r.compiled.table.preds) number ≡ Some p)
    (kept : IsProgram program) (answers : AnswersFor BySmallest p program) (holds : HoldsPoints g points) where
  same : holds.pred ≡ p
  same = firsts_same (sym holds.has.has.pred ∙ given)

  parts : (p.sites ≡ 3) × (p.vars ≡ three_of holds.type.coords) × (length holds.type.coords ≤ 32)
  parts =
      tables_three (view r.compiled.table) number p holds.type r.compiled.table.whole there
      (rw (same, stands.table) at holds.has.has.three)

  vars : program.shape.vars ≡ three_of holds.type.coords
  vars = answers.vars ∙ parts.1

  rest_of : (o : Outcome (List PointOf)) (ps : List PointOf) → ReadsPoints holds.type holds.records o → o ≡ gives ps
      → (rest : Records) × ArePointsOf holds.type.coords rest ps
  rest_of o ps (edges.wrong w) e = cc
  rest_of o ps (edges.many xs f h) e = cc
  rest_of o ps (edges.fault xs n f h i) e = cc
  rest_of o ps (edges.points xs qs f h i) e = let same : ps ≡ qs = cc in (xs, rw same i)

  -- the points that are held are points of the type of the program's three sites
  pub points_for : ArePointsFor program points
  points_for =
      let a = rest_of (gives (map (point_of (length holds.type.coords)) points)) (map (point_of (length holds.type.coords)) points)
      holds.read refl in
      points_fit holds.type.coords a.0 points program.shape.sites program.shape.vars (answers.sites ∙ parts.0) vars
      parts.2 a.1

  same_width : width program.shape.vars ≡ length holds.type.coords
  same_width = ap width vars ∙ three_width holds.type.coords

  -- so the lines by the program are those of the edges
  pub edges_said : (text : List ℕ) → AreEdgeLines program points text → EdgesSaid g (whole Done text)
  edges_said text h =
      let law = lines_are program (root_of p) _ (points_in program.shape.vars points) text
      (programs-run program kept) answers.carries points_for h in
      let by_vars = subst (λ (vs : List VarInfo). AreLines (Edge vs (root_of p) (points_in program.shape.vars points))
      (edge_line (points_in program.shape.vars points)) text) answers.vars law in
      edges.listed holds.pred holds.type holds.records (map (point_of (length holds.type.coords)) points) text holds.has holds.read
      (rw (same, ← same_width) by_vars)

-- ---- the type of the three sites
nat_same : (k l : ℕ) → nat_eq k l ≡ true → k ≡ l
nat_same k l h = grind (arith, nat_tests)

three_same : (x y z : ArgOf) → one_type (type_of x) (type_of y) (type_of z) ≡ true
    → (k : ℕ) × (type_of x ≡ Some k) × AreOfType k (x ∷ y ∷ z ∷ [])
three_same (SiteArg a k) (SiteArg b l) (SiteArg c m) h =
    let p = and_parts (nat_eq k l) (nat_eq l m) h in
    let e : k ≡ l = nat_same k l p.0 in
    let f : l ≡ m = nat_same l m p.1 in
    let are : SiteArg a k ∷ SiteArg b l ∷ SiteArg c m ∷ [] ≡ SiteArg a k ∷ SiteArg b k ∷ SiteArg c k ∷ [] =
    ap (λ (n : ℕ). SiteArg a k ∷ SiteArg b n ∷ SiteArg c m ∷ []) (sym e)
    ∙ ap (λ (n : ℕ). SiteArg a k ∷ SiteArg b k ∷ SiteArg c n ∷ []) (sym (e ∙ f)) in
    (k, refl, (a, b, c, are))
three_same (SiteArg a k) (SiteArg b l) (ParamArg m) h = absurd (true≢false (sym h))
three_same (SiteArg a k) (ParamArg l) z h = absurd (true≢false (sym h))
three_same (ParamArg k) y z h = absurd (true≢false (sym h))

-- exactly three sites of one type, of which this is the first
record ThreeParts (args : List ArgOf) : Type 0 where
  first : ArgOf
  rest : List ArgOf
  kind : ℕ
  is : args ≡ first ∷ rest
  of : type_of first ≡ Some kind
  are : AreOfType kind args

three_args : (args : List ArgOf) → is_three args ≡ true → ThreeParts args
three_args [] h = absurd (true≢false (sym h))
three_args (x ∷ []) h = absurd (true≢false (sym h))
three_args (x ∷ y ∷ []) h = absurd (true≢false (sym h))
three_args (x ∷ y ∷ z ∷ []) h =
    let t = three_same x y z h in record { first = x; rest = y ∷ z ∷ []; kind = t.0; is = refl; of = t.1; are = t.2 }
three_args (x ∷ y ∷ z ∷ w ∷ rest) h = absurd (true≢false (sym h))

first_is : (args : List Arg) (x : Arg) (y : ArgOf) (rest : List ArgOf) → map arg_of args ≡ y ∷ rest → x ≡ get_or args 0 x → arg_of x ≡ y
first_is [] x y rest e h = cc
first_is (a ∷ args) x y rest e h = cc

-- the type of the first of them is the type of all
pub number_is : (args : List Arg) (x : Arg) (t : ℕ) → is_three (map arg_of args) ≡ true → x ≡ get_or args 0 x
    → Some t ≡ type_of (arg_of x) → AreOfType t (map arg_of args)
number_is args x t h i e =
    let p = three_args (map arg_of args) h in
    let same : p.kind ≡ t = some_same p.kind t (sym p.of ∙ ap type_of (sym (first_is args x p.first p.rest p.is i)) ∙ sym e) in
    subst (λ (m : ℕ). AreOfType m (map arg_of args)) same p.are

-- three arguments have a first
pub first_there : (args : List Arg) → is_three (map arg_of args) ≡ true → 0 < length args
first_there args h = omega (arith, length-map args arg_of, ap length (three_args (map arg_of args) h).is)

-- and it has a type
pub first_typed : (args : List Arg) (x : Arg) → is_three (map arg_of args) ≡ true → x ≡ get_or args 0 x → None ≡ type_of (arg_of x) → ⊥
first_typed args x h i e =
    let p = three_args (map arg_of args) h in
    let never : None ≡ Some p.kind = e ∙ ap type_of (first_is args x p.first p.rest p.is i) ∙ p.of in
    cc

-- a command's one predicate in memory has what the command asked
pub asked_three : (ps : List Pred) (numbers : List ℕ) (preds : List PredOf) (p : Pred) → AreNumbered (map pred_of ps) numbers preds
    → length numbers ≡ 1 → slice_get ps (slice_index_or numbers 0 0) ≡ Some p → AreAsked ThreeSites preds
    → is_three (map arg_of p.args) ≡ true
asked_three ps numbers preds p h l e a = subst (AreAsked ThreeSites) (one_numbered ps numbers preds p h l e) a

first_within : (sites params k : ℕ) (a b c : List ℕ)
    → list_all (is_one_of sites params) (SiteArg a k ∷ SiteArg b k ∷ SiteArg c k ∷ []) ≡ true → k < sites
first_within sites params k a b c h =
    below k sites (and_parts (nat_lt k sites)
    (list_all (is_one_of sites params) (SiteArg b k ∷ SiteArg c k ∷ [])) h).0

-- the type of the three sites of a table's predicate is one of the table's
pub type_within : (t : Table) (i : ℕ) (p : Pred) (k : ℕ) → slice_get t.preds i ≡ Some p → AreOfType k (map arg_of p.args)
    → k < length t.sites
type_within t i p k e (a, b, c, are) =
    let parts = table_parts (view t) t.whole in
    let there : slice_get (map pred_of t.preds) i ≡ Some (pred_of p) = slice_get-map pred_of t.preds i ∙ ap (option_map pred_of) e in
    let of_pred = every_at (PredParts (view t).sites (view t).params) (map pred_of t.preds) i (pred_of p) there parts.preds in
    let known = subst (λ (args : List ArgOf). list_all (is_one_of (length (view t).sites) (length (view t).params)) args ≡ true)
    are of_pred.known in
    subst (λ (n : ℕ). k < n) (length-map t.sites site_of) (first_within (length (view t).sites) (length (view t).params) k a b c known)

-- so it is that of the one predicate that is given
pub type_given : (r : Ready) (g : Given) (p : Pred) (k : ℕ) (s : Site) → StandsFor r g → length r.numbers.items ≡ 1
    → slice_get r.compiled.table.preds (slice_index_or r.numbers.items 0 0) ≡ Some p → AreOfType k (map arg_of p.args)
    → slice_get r.compiled.table.sites k ≡ Some s → IsTypeOf g (site_of s)
type_given r g p k s stands l e (a, b, c, are) f = record {
  pred = pred_of p;
  has = record {
    pred = one_numbered r.compiled.table.preds r.numbers.items g.preds p stands.numbered l e;
    three = record {
      kind = k;
      first = a;
      second = b;
      third = c;
      args = are;
      there = ap (λ (t : TableOf). slice_get t.sites k) stands.table
          ∙ slice_get-map site_of r.compiled.table.sites k ∙ ap (option_map site_of) f;
    };
  };
}

-- a site type of a table has at most 32 coordinates
pub type_few : (t : Table) (k : ℕ) (s : Site) → slice_get t.sites k ≡ Some s → length s.coords ≤ 32
type_few t k s e =
    let parts = table_parts (view t) t.whole in
    let there : slice_get (map site_of t.sites) k ≡ Some (site_of s) = slice_get-map site_of t.sites k ∙ ap (option_map site_of) e in
    subst (λ (n : ℕ). n ≤ 32) (length-map s.coords coord_of) (every_at SiteParts (map site_of t.sites) k (site_of s) there parts.sites).few

-- ---- the points file
-- its columns are those of the type in memory
pub names_like : (s : Site) → site_columns s.name (Some s) ≡ point_names (site_of s)
names_like s = site_like s.name (Some s)

-- a wrong header stops the command
pub header_stops : (s : Site) (old : Records) → IsWrongHeader (site_columns s.name (Some s)) old
    → Halts (ReadsPoints (site_of s) old) ⊥ (stop.Tell Header)
header_stops s old w = tells Header (edges.wrong (rw (names_like s) at w))

-- ---- the returns of the code
header_right : (s : Site) (old now : Records) → old ≡ site_columns s.name (Some s) ∷ now → old ≡ point_names (site_of s) ∷ now
header_right s old now e = e ∙ ap (λ (names : List (List ℕ)). names ∷ now) (names_like s)

module _ (r : Ready) (s : Site) (bytes : List ℕ) (old : Records) (type : (g : Given) → StandsFor r g → IsTypeOf g (site_of s))
    (texts : (g : Given) → StandsFor r g → g.texts ≡ bytes ∷ []) (are : records_in bytes ≡ old) where
  has_points : (g : Given) (k : StandsFor r g) → HasPoints g (type g k).pred (site_of s) old
  has_points g k = record { has = (type g k).has; bytes = bytes; text = texts g k; are = are }

  stops_by : (x : Stop) → Halts (ReadsPoints (site_of s) old) ⊥ x → (g : Given) → StandsFor r g → StopsPoints g x
  stops_by x h g k = record { pred = (type g k).pred; type = site_of s; records = old; has = has_points g k; halts = h }

  -- records after a right header that are read as points are the points of the file that is given
  pub return_points : (now : Records) (points : List code_point) → old ≡ site_columns s.name (Some s) ∷ now
      → ((all : Records) → all ≡ point_names (site_of s) ∷ now
      → ReadsPoints (site_of s) all (gives (map (point_of (length (site_of s).coords)) points)))
      → (g : Given) → StandsFor r g → HoldsPoints g points
  return_points now points e h g k = record {
    pred = (type g k).pred;
    type = site_of s;
    records = old;
    has = has_points g k;
    read = h old (header_right s old now e);
  }

  -- where the records after a right header stop the command, the file that is given stops it
  pub return_stop : (now : Records) (x : Stop) → old ≡ site_columns s.name (Some s) ∷ now
      → ((all : Records) → all ≡ point_names (site_of s) ∷ now → Halts (ReadsPoints (site_of s) all) ⊥ x)
      → (g : Given) → StandsFor r g → StopsPoints g x
  return_stop now x e h = stops_by x (h old (header_right s old now e))

  -- a points file that doesn't begin with the right header stops the command as one with a wrong header
  pub return_wrong : ((rest : Records) → old ≡ site_columns s.name (Some s) ∷ rest → ⊥)
      → (g : Given) → StandsFor r g → StopsPoints g (stop.Tell Header)
  return_wrong w = stops_by (stop.Tell Header) (header_stops s old (header_is _ old [] false (λ e. cc) (λ e. w)))

  -- where memory runs out the command stops, whatever the points file is
  pub return_short : (g : Given) → StandsFor r g → StopsPoints g (stop.Memory refused)
  return_short = stops_by (stop.Memory refused) short
