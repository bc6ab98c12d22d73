-- What the filter of a predicate is.
use Rattle.std.proofs.Common.{◌≡◌, ℕ, ℤ, ◌≤◌, ◌<◌, ◌^◌, List, [], ◌∷◌, length, map, refl, ap, arith, ◌∙◌, sym, inl, inr}
use Rattle.std.proofs.Common.{append_assoc, append-nil, ◌*◌, ◌++◌, subst}
use Rattle.std.specs.Prelude.{All, Some}
use Rattle.std.proofs.lemmas.List.{length-map}
use Rattle.std.proofs.lemmas.List.Elements.{All-nil, All-push}
use Rattle.ln_algebra.specs.Coefficient.{Series, normal_coefficient}
use Rattle.ln_algebra.specs.Tree.{Tree}
use Rattle.ln_tree.specs.declared.shape.VarInfo.{VarInfo}
use Rattle.ln_tree.specs.Row.{AreWithin}
use Rattle.ln_bound.specs.declared.fitted.Width.TheVariants.{W64}
use Rattle.ln_bound.specs.Widths.{limit}
use Rattle.ln_bound.specs.Typed.{Typed, cost, untyped}
use Rattle.ln_bound.specs.declared.fitted.Width.{Width}
use Rattle.ln_bound.specs.Sound.{Sound, AreSound}
use Rattle.ln_bound.specs.Value.{sizes}
use Rattle.ln_bound.specs.View.{typed}
use Rattle.ln_bound.specs.declared.fitted_pred.FittedPred.{FittedPred}
use Rattle.ln_bound.proofs.Soundness.SoundLaws.{is_sound_says, are_sound_say}
use Rattle.ln_code.specs.declared.draft.Draft.{Draft}
use Rattle.ln_code.specs.declared.op.Triple.{Triple}
use Rattle.ln_code.specs.Engine.{Line, answer, run}
use Rattle.ln_code.specs.Numbers.{no_locals}
use Rattle.ln_code.specs.Exact.{Held, exact_filter}
use Rattle.ln_code.specs.FilterRules.{FilterKnown, filter_rules}
use Rattle.ln_code.specs.Nodes.{IsLetNode, IsNodeOf}
use Rattle.ln_code.specs.Part.{FilterCode, lines_of, filter_known_of, filter_value}
use Rattle.ln_code.specs.Kept.{FollowsFilterRules, IsFilter, no_triple}
use Rattle.ln_code.proofs.Engines.Follow.{LocalsStand, Reaches}
use Rattle.ln_code.proofs.Filters.FilterKnown.{IsNumber}
use Rattle.ln_code.proofs.Engines.Runs.{answer_follows, same_lines, reached_some}
use Rattle.ln_code.proofs.Lines.{lines_length}
use Rattle.ln_code.proofs.Following.Means.{filters_mean}
use Rattle.ln_filter.specs.Truncated.{root_triple, root_number}
use Rattle.ln_filter.specs.Steady.{AreLetsSteady, HasFilter}
use Rattle.ln_filter.specs.Tried.{IsSmall}
use Rattle.ln_filter.specs.Lines.{all_lines, filter_lines}
use Rattle.ln_filter.specs.Wrote.{LetsPut, SteadyPut, Wrote}
use Rattle.ln_filter.specs.Planned.{IsPlanned}
use Rattle.ln_filter.proofs.Truncation.Steady.{has_filter, lets_tried_steady, triple_small}
use Rattle.ln_code.proofs.Building.Names.{closed, closed_snoc}
use Rattle.ln_code.proofs.Building.Lands.{AreGood, CodeLands, code_lands}
use Rattle.ln_code.proofs.Building.Sizes.{code_stores, code_weight}
use Rattle.ln_filter.proofs.Operations.Style.{filter_code, style_in, triple_in as triple_after, triples_of, triples_snoc}
use Rattle.ln_filter.proofs.Operations.Meaning.{IsGood, Setting, meaning}
use Rattle.ln_filter.proofs.Operations.Nodes.{facts}
use Rattle.ln_filter.proofs.Operations.Leaves as leaves
use Rattle.ln_filter.proofs.Operations.Leaves.{loose, loose_follows}
use Rattle.ln_filter.proofs.Operations.Costs.{all_weigh, filter_weighs}

-- ---- the predicate

-- a predicate over these variables: its lets and its sign expression
pub record Predicate : Type 0 where
  pub vars : List VarInfo
  pub lets : List Typed
  pub root : Typed

-- that of the program
abbrev pub predicate_of : FittedPred → Predicate
predicate_of p = record { vars = p.shape.vars; lets = map typed p.lets; root = typed p.root }

-- it has at most 64 lets, they and its sign expression are sound, it has a filter, and the size of each variable fits 64 bits
record Filtered (p : Predicate) : Type 0 where
  few : length p.lets ≤ 64
  lets_sound : AreSound p.vars [] p.lets
  root_sound : Sound p.vars p.lets p.root
  has : HasFilter p.vars (map untyped p.lets) (untyped p.root)
  narrow : (v : ℕ) → sizes p.vars v < 2 ^ 63

-- its operations
abbrev lines_in : Predicate → List (Line Triple)
lines_in p = all_lines p.vars (map untyped p.lets) (untyped p.root)

-- the triple of its sign expression
abbrev triple_in : Predicate → Triple
triple_in p = root_triple p.vars (map untyped p.lets) (untyped p.root)

-- the truncated number of its sign expression
abbrev number_in : Predicate → List ℤ → ℤ
number_in p zs = root_number p.vars zs (map untyped p.lets) (untyped p.root)

-- where its filter runs: with a stack of this depth, and its nodes may be pushed
abbrev setting_of : Predicate → ℕ → Setting
setting_of p depth = record { vars = p.vars; depth = depth; is_node = IsNodeOf p.lets p.root }

-- lets may be written, each after those before it, and all have small triples
record LetsGood (r : Setting) (done ts : List Typed) : Type 0 where
  good : AreGood (meaning r) done ts
  small : All IsSmall (triples_of r.vars (done ++ ts))

lets_good : (r : Setting) (done ts : List Typed) → AreSound r.vars done ts → AreLetsSteady r.vars (triples_of r.vars done) (map untyped ts)
    → All IsSmall (triples_of r.vars done) → ((e : Tree) (v : Width) → IsLetNode (closed done) ts e v → r.is_node e v)
    → LetsGood r done ts
lets_good r done [] s a k f = record { good = tt; small = subst (λ ls. All IsSmall (triples_of r.vars ls)) (sym (append-nil done)) k }
lets_good r done (t ∷ us) s a k f =
    let e = sym (triples_snoc r.vars done t) in
    let small = All-push IsSmall (triples_of r.vars done) (triple_after r.vars done t) k (triple_small r.vars (triples_of r.vars done) (untyped t) k a.0) in
    let x = lets_good r (done ++ (t ∷ [])) us s.1 (subst (λ ls. AreLetsSteady r.vars ls (map untyped us)) e a.1) (subst (λ ls. All IsSmall ls) e small)
    (λ e v h. f e v (inr (subst (λ es. IsLetNode es us e v) (closed_snoc done t) h))) in
    record {
      good = (record { sound = s.0; steady = a.0; small = k; nodes = λ e v h. f e v (inl h) }, x.good);
      small = subst (λ ls. All IsSmall (triples_of r.vars ls)) (append_assoc done (t ∷ []) us) x.small;
    }

-- without any test too
numbers_good : (r : Setting) (zs : List ℤ) (done ts : List Typed) → AreGood (meaning r) done ts → AreGood (leaves.meaning r zs) done ts
numbers_good r zs done [] g = tt
numbers_good r zs done (t ∷ us) g = (g.0, numbers_good r zs (done ++ (t ∷ [])) us g.1)

-- by the rules, its operations leave one value, with the triple and the polynomial of its sign expression; without any test, its truncated number
record RootLands (p : Predicate) (depth : ℕ) : Type 0 where
  code : CodeLands (meaning (setting_of p depth)) p.lets p.root (lines_in p)
  error : (triple_in p).e ≤ limit W64
  number : (zs : List ℤ) → AreWithin p.vars zs → answer (loose zs) no_locals (lines_in p) ≡ Some (number_in p zs)

root_lands : (p : Predicate) (depth : ℕ) → 2048 ≤ depth → Filtered p → RootLands p depth
root_lands p depth d f =
    let r : Setting = setting_of p depth in
    let has = f.has in
    let x = lets_good r [] p.lets f.lets_sound has.lets_steady (All-nil IsSmall) (λ e v h. inl h) in
    let g : IsGood (setting_of p depth) p.lets p.root =
    record { sound = f.root_sound; steady = has.root_steady; small = x.small; nodes = λ e v h. inr h } in
    let i : (triple_in p).e < 2 ^ 31 = (triple_small p.vars (triples_of p.vars p.lets) (untyped p.root) x.small has.root_steady).error in
    let c = filter_code p.vars p.lets p.root in
    record {
      code = code_lands (meaning r) (facts r d f.narrow) p.lets p.root (lines_in p) c f.few x.good g;
      error = omega (arith, i);
      number = λ zs h.
          let y = code_lands (leaves.meaning r zs) (leaves.facts r zs h (facts r d f.narrow)) p.lets p.root (lines_in p) c f.few
          (numbers_good r zs [] p.lets x.good) g in
          let e : run (loose zs) (lines_in p) (record { stack = []; locals = no_locals }) ≡ Some (record { stack = y.value ∷ []; locals = y.locals }) =
          y.runs.ends in
          let v : y.value ≡ number_in p zs = y.stands in
          rw (e, v) refl;
    }

held_is : (y : Held) (h : ℤ) (e : ℕ) → y.number ≡ h → y.error ≡ e → y ≡ record { number = h; error = e }
held_is y h e p q = rw (← p, ← q) refl

number_is : (zs : List ℤ) (lines : List (Line Triple)) (y : Held) (h : ℤ) → answer (exact_filter zs) no_locals lines ≡ Some y
    → answer (loose zs) no_locals lines ≡ Some h → y.number ≡ h
number_is zs lines y h p q =
    let n = answer_follows (exact_filter zs) (loose zs) (λ (a : Triple). a) IsNumber (LocalsStand (Reaches IsNumber))
    (loose_follows zs) no_locals no_locals lines y (λ j v e. cc) p in
    let m = reached_some IsNumber y _ (rw same_lines at n) in
    let e : Some m.0 ≡ Some h = sym m.1 ∙ q in
    let i : m.0 ≡ h = cc in
    m.2.same ∙ i

same_top : (vars : List VarInfo) (code : FilterCode) (top m : FilterKnown) → filter_known_of vars code ≡ Some top → filter_known_of vars code ≡ Some m → m ≡ top
same_top vars code top m p q = let e : Some m ≡ Some top = sym q ∙ p in cc

value_is : (p : Predicate) (zs : List ℤ) (code : FilterCode) (top : FilterKnown) → AreWithin p.vars zs
    → answer (loose zs) no_locals (lines_in p) ≡ Some (number_in p zs) → FollowsFilterRules p.vars code
    → top.triple ≡ triple_in p → lines_of code.ops code.triples ≡ lines_in p → filter_known_of p.vars code ≡ Some top
    → filter_value zs code ≡ Some (record { number = number_in p zs; error = (triple_in p).e })
value_is p zs code top h l g x e k =
    let m = filters_mean p.vars zs code h g in
    let t : m.what ≡ top = same_top p.vars code top m.what k m.known in
    let err : m.left.error ≡ (triple_in p).e = m.error ∙ ap (λ (y : FilterKnown). y.triple.e) t ∙ ap (λ (z : Triple). z.e) x in
    let a : answer (exact_filter zs) no_locals (lines_in p) ≡ Some m.left = rw e at m.answer in
    let num : m.left.number ≡ number_in p zs = number_is zs (lines_in p) m.left (number_in p zs) a l in
    m.answer ∙ ap Some (held_is m.left (number_in p zs) (triple_in p).e num err)

-- the code is a filter, and the one that is planned for the predicate
pub record Sealed (p : Predicate) (code : FilterCode) : Type 0 where
  pub filter : IsFilter code
  pub planned : IsPlanned p.vars p.lets p.root code

filter_is : (p : Predicate) (code : FilterCode) → Filtered p → code.depth ≡ 2048 → lines_of code.ops code.triples ≡ lines_in p
    → length code.ops ≡ length code.triples → Sealed p code
filter_is p code f d e b =
    let all : List (Line Triple) = lines_in p in
    let x = root_lands p code.depth (let h : 2048 ≤ code.depth = omega arith in h) f in
    let top = x.code in
    let stands = top.stands in
    let t : top.value.triple ≡ triple_in p = stands.triple in
    let poly = stands.same in
    let ends : run (filter_rules p.vars code.depth) (lines_in p) (record { stack = []; locals = no_locals })
    ≡ Some (record { stack = top.value ∷ []; locals = top.locals }) = top.runs.ends in
    let k : filter_known_of p.vars code ≡ Some top.value = rw (e, ends) refl in
    let n : top.value.triple.e ≤ limit W64 = rw t x.error in
    let g : FollowsFilterRules p.vars code = record { bounded = b; what = top.value; known = k; narrow = n } in
    let l : length code.ops ≡ length all = lines_length code.ops code.triples b ∙ ap (λ (l : List (Line Triple)). length l) e in
    let c = code_weight (style_in p.vars) 1 (λ t. 6 * cost t) (filter_weighs p.vars) p.lets p.root all (filter_code p.vars p.lets p.root) in
    let w = all_weigh p.lets in
    let few : length p.lets ≤ 64 = f.few in
    let st = code_stores (style_in p.vars) no_triple (λ lets. refl) p.lets p.root all (filter_code p.vars p.lets p.root) in
    record {
      filter = record { shallow = let h : code.depth ≤ 2048 = omega arith in h; stores_have = rw e st; vars = p.vars; rules = g };
      planned = record {
        has = f.has;
        rules = g;
        triple = λ m h. ap (λ (y : FilterKnown). y.triple) (same_top p.vars code top.value m k h) ∙ t;
        whole = λ m h i. ap (λ (y : FilterKnown). normal_coefficient y.tree i) (same_top p.vars code top.value m k h) ∙ ap (λ (z : Series). z i) poly.series;
        lines = e;
        nodes = rw e top.runs.each;
        value = λ zs h. value_is p zs code top.value h (x.number zs h) g t e k;
        small = omega (arith, l, c, w, few);
      };
    }

-- where the lets and then the sign expression were written and nothing before them, what was written is the filter of the predicate
pub sealed : (p : FittedPred) {a b c : Draft Triple} (ts : List Triple) (t : Triple) (code : FilterCode)
    → ((v : ℕ) → sizes p.shape.vars v < 2 ^ 63) → a.code ≡ []
    → LetsPut p.shape.vars 0 [] a b (map untyped (map typed p.lets)) (Some ts) → SteadyPut p.shape.vars ts b c (untyped (typed p.root)) (Some t)
    → code.depth ≡ 2048 → lines_of code.ops code.triples ≡ c.code → length code.ops ≡ length code.triples → Sealed (predicate_of p) code
sealed p {b = b} {c = c} ts t code narrow n l r d e k =
    let vars : List VarInfo = p.shape.vars in
    let ls : List Tree = map untyped (map typed p.lets) in
    let root : Tree = untyped (typed p.root) in
    let z : triples_of vars (map typed p.lets) ≡ ts = (lets_tried_steady vars [] ls ts (sym l.tried)).1 in
    let own : List (Line Triple) = filter_lines vars (triples_of vars (map typed p.lets)) root in
    let w : Wrote b c own = rw z r.wrote in
    let x : c.code ≡ lines_in (predicate_of p) = w.code ∙ ap (λ m. m ++ own) (rw n at l.wrote.code) in
    filter_is (predicate_of p) code (record {
      few = let n = p.few in simp length-map n;
      lets_sound = are_sound_say vars [] (map typed p.lets) p.sound_lets;
      root_sound = is_sound_says vars (map typed p.lets) (typed p.root) p.sound_root;
      has = has_filter vars ls root ts t l.tried r.tried;
      narrow = narrow;
    }) d (e ∙ x) k
