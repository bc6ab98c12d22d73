-- The factors of a product: their programs, the places of these, their common variables, and their verdicts on a row.
use Rattle.std.proofs.Common.{◌≡◌, ◌≢◌, ℕ, zero, suc, ◌+◌, ◌<◌, ◌≤◌, true, false, true≢false, List, [], ◌∷◌, ◌++◌, map, length, take}
use Rattle.std.proofs.Common.{Some, refl, ap, sym, ◌∙◌, subst, arith, All}
use Rattle.std.specs.Prelude.{bytes_eq, nat_eq, slice_get, slice_index_or, count_by}
use Rattle.std.proofs.lemmas.Bool.{and_parts}
use Rattle.std.proofs.lemmas.Bool.Decides.{nat_tests}
use Rattle.std.proofs.lemmas.List.{length-map, take_more}
use Rattle.std.proofs.lemmas.List.Elements.{All-nil, All-cons, All-head, All-tail}
use Rattle.std.proofs.lemmas.Option.{none-some, same_Some, slice_get_within}
use Rattle.std.proofs.lemmas.Slice.Eq.{bytes_eq-Decides}
use Rattle.std.proofs.lemmas.Slice.Zip.{AllZip-long, all_zipped_more}
use Rattle.std.specs.List.{AllZip}
use Rattle.ln_algebra.specs.Orders.{BySmallest}
use Rattle.ln_tree.specs.declared.pred.Pred.{Pred}
use Rattle.ln_tree.specs.declared.shape.VarInfo.{VarInfo}
use Rattle.ln_tree.specs.declared.table.Table.{Table}
use Rattle.ln_tree.specs.Names.{name_bytes}
use Rattle.ln_tree.specs.Table.{ArgOf, SiteArg, ParamArg, CoordOf, PredOf, SiteOf, TableOf, pred_of, table_of}
use Rattle.ln_tree.specs.Whole.{is_site_said, vars_behind}
use Rattle.ln_tree.specs.Row.{InRange, Row}
use Rattle.ln_parse.specs.ReadsBack.{Every}
use Rattle.ln_parse.proofs.ReadBack.NamePlaces.{Differ, NoneIs, same_bytes}
use Rattle.ln_parse.proofs.Wholes.WholeParts.{PredParts, differing, every, table_parts}
use Rattle.ln_parse.proofs.Expressions.Found.{get_longer}
use Rattle.ln_parse.proofs.ReadBack.InputsThere.{every_at, at_place}
use Rattle.ln_code.specs.declared.scratch.Scratch.{Scratch}
use Rattle.ln_code.specs.Kept.{IsProgram}
use Rattle.ln_code.specs.Memory.{MadeFor}
use Rattle.ln_code.specs.Part.{Part}
use Rattle.ln_code.specs.RowOf.{row_of}
use Rattle.ln_code.specs.Verdict.{IsVerdict}
use Rattle.ln_code.specs.declared.row.Row as code
use Rattle.ln_code.specs.declared.verdict.Verdict.{Verdict}
use Rattle.ln_code.proofs.Verdicts.Machine.{programs-run, rows-have}
use Rattle.ln_compile.specs.Compiled.{AreNumbered, IsProgramAt, IsProgramOf}
use Rattle.ln_compile.proofs.Making.BuildingLemmas.{names-differ}
use Rattle.ln_compile.proofs.Listing.FilteredLemmas.{answers_for, programs_answer}
use Rattle.ln_compile.proofs.Numbers.{same_at}
use Rattle.ln_factor.specs.Factors.{AreMadeFor, AreOver, AreVerdicts, IsFactor, IsRowOfFactors}
use Rattle.ln_top.specs.Target.Alike.{are_alike, same_arg, same_args}
use Rattle.ln_top.specs.Target.Factors.{AreDue, AreFactors, AreMade, AreMadeAt, AreProgramsAt}
use Rattle.ln_top.specs.Target.Factors.{FactorsOf, Grows, HaveOneShape, IsInRangeOf, IsMadeOf, IsRoomFor, StandAt, factors_of}
use Rattle.ln_top.specs.Target.Target.{HasProgram}
use Rattle.ln_top.proofs.TargetLemmas.TargetLaws.{has_program}

-- ---- lists that are related place by place
module _ {A B : Type 0} (R : A → B → Type 0) where
  -- what an element of the second list is related to
  pub paired_there : (xs : List A) (ys : List B) (k : ℕ) (y : B) → AllZip R xs ys → slice_get ys k ≡ Some y
      → (x : A) × (slice_get xs k ≡ Some x) × R x y
  paired_there [] [] k y h e = absurd (none-some y e)
  paired_there [] (z ∷ ys) k y h e = absurd h
  paired_there (x ∷ xs) [] k y h e = absurd h
  paired_there (x ∷ xs) (z ∷ ys) zero y h e = (x, refl, subst (R x) (same_Some z y e) h.0)
  paired_there (x ∷ xs) (z ∷ ys) (suc k) y h e = paired_there xs ys k y h.1 e

-- ---- numbers at their places
-- numbers at their places stay there where more are appended
pub stand_grown : (ns ms ks is : List ℕ) → StandAt ns ks is → StandAt (ns ++ ms) ks is
stand_grown ns ms [] [] s = tt
stand_grown ns ms [] (j ∷ is) s = absurd s
stand_grown ns ms (l ∷ ks) [] s = absurd s
stand_grown ns ms (l ∷ ks) (j ∷ is) s = (get_longer ns ms l j s.0, stand_grown ns ms ks is s.1)

-- one more number of those that are wanted, at a place of as many numbers or more
pub stand_next : (old new ks more wanted : List ℕ) (n k : ℕ) → StandAt old ks (take n wanted) → Grows old new
    → slice_get new k ≡ Some (slice_index_or wanted n 0) → n < length wanted → more ≡ ks ++ k ∷ [] → StandAt new more (take (n + 1) wanted)
stand_next old new ks more wanted n k s g t l m =
    rw (m, take_more wanted n 0 l) (all_zipped_more (λ k i. slice_get new k ≡ Some i) ks (take n wanted) k (slice_index_or wanted n 0)
    (rw g.is (stand_grown old g.more ks (take n wanted) s)) t)

-- ---- programs that were made
-- a program that the compiler made
pub new_made : (preds : List Pred) (i : ℕ) (c : Part) → i < length preds → IsProgramAt (map pred_of preds) i c → IsProgram c
    → IsMadeOf (map pred_of preds) i c
new_made preds i c l h k =
    let t = at_place (map pred_of preds) i (subst (λ (n : ℕ). i < n) (sym (length-map preds pred_of)) l) in
    record { pred = t.0; there = t.1; carries = h t.0 t.1; kept = k }

places_within : (table : List PredOf) (ns : List ℕ) (cs : List Part) (ks is : List ℕ) → AreMade table ns cs → StandAt ns ks is
    → All (λ k. k < length cs) ks
places_within table ns cs [] [] a s = All-nil (λ k. k < length cs)
places_within table ns cs [] (i ∷ is) a s = absurd s
places_within table ns cs (k ∷ ks) [] a s = absurd s
places_within table ns cs (k ∷ ks) (i ∷ is) a s =
    All-cons (λ (n : ℕ). n < length cs) k ks (subst (λ (n : ℕ). k < n) (sym (AllZip-long (IsMadeOf table) ns cs a)) (slice_get_within ns k i s.0))
    (places_within table ns cs ks is a s.1)

-- they are those of the predicates with these numbers
pub programs_at : (table : List PredOf) (ns : List ℕ) (cs : List Part) (ks is : List ℕ) (ps : List PredOf) → AreMade table ns cs
    → StandAt ns ks is → AreNumbered table is ps → AreProgramsAt cs ks ps
programs_at table ns cs [] [] [] a s n = tt
programs_at table ns cs [] [] (p ∷ ps) a s n = absurd n
programs_at table ns cs [] (i ∷ is) ps a s n = absurd s
programs_at table ns cs (k ∷ ks) [] ps a s n = absurd s
programs_at table ns cs (k ∷ ks) (i ∷ is) [] a s n = absurd n
programs_at table ns cs (k ∷ ks) (i ∷ is) (p ∷ ps) a s n = (
  λ part e.
      let m = paired_there (IsMadeOf table) ns cs k part a e in
      let same : m.2.pred ≡ p = cc (m.1, s.0, m.2.there, n.0) in
      subst (λ (q : PredOf). IsProgramOf q part) same m.2.carries,
  programs_at table ns cs ks is ps a s.1 n.1,
)

-- ---- names
none_there : (ps : List PredOf) (u : List ℕ) (j : ℕ) (q : PredOf) → NoneIs u (map (λ (p : PredOf). p.shape_name) ps)
    → slice_get ps j ≡ Some q → u ≡ q.shape_name → ⊥
none_there [] u j q n e h = none-some q e
none_there (p ∷ ps) u zero q n e h =
    let same : u ≡ p.shape_name = h ∙ ap (λ (x : PredOf). x.shape_name) (sym (same_Some p q e)) in
    true≢false (sym (same_bytes u) ∙ subst (λ (v : List ℕ). bytes_eq u v ≡ false) (sym same) n.0)
none_there (p ∷ ps) u (suc j) q n e h = none_there ps u j q n.1 e h

name_apart : (ps : List PredOf) → Differ (map (λ (p : PredOf). p.shape_name) ps) → (i j : ℕ) (p q : PredOf) → slice_get ps i ≡ Some p
    → slice_get ps j ≡ Some q → (i ≡ j → ⊥) → p.shape_name ≡ q.shape_name → ⊥
name_apart [] d i j p q e f n h = none-some p e
name_apart (x ∷ ps) d zero zero p q e f n h = n refl
name_apart (x ∷ ps) d zero (suc j) p q e f n h =
    none_there ps x.shape_name j q d.0 f (ap (λ (y : PredOf). y.shape_name) (same_Some x p e) ∙ h)
name_apart (x ∷ ps) d (suc i) zero p q e f n h =
    none_there ps x.shape_name i p d.0 e (ap (λ (y : PredOf). y.shape_name) (same_Some x q f) ∙ sym h)
name_apart (x ∷ ps) d (suc i) (suc j) p q e f n h = name_apart ps d.1 i j p q e f (λ s. n (ap (λ (m : ℕ). suc m) s)) h

-- the name of a program that isn't there yet is new
names_new : (table : List PredOf) → Differ (map (λ (p : PredOf). p.shape_name) table) → (ns : List ℕ) (cs : List Part) (i : ℕ)
    (c : Part) → AreMade table ns cs → All (λ j. j ≢ i) ns → IsMadeOf table i c
    → All (λ d. name_bytes d.shape.name ≢ name_bytes c.shape.name) cs
names_new table d [] [] i c a n m = All-nil (λ e. name_bytes e.shape.name ≢ name_bytes c.shape.name)
names_new table d [] (x ∷ cs) i c a n m = absurd a
names_new table d (j ∷ ns) [] i c a n m = absurd a
names_new table d (j ∷ ns) (x ∷ cs) i c a n m =
    All-cons (λ (y : Part). name_bytes y.shape.name ≢ name_bytes c.shape.name) x cs
    (λ e. name_apart table d j i a.0.pred m.pred a.0.there m.there (All-head (λ (k : ℕ). k ≢ i) j ns n)
    (sym a.0.carries.name ∙ e ∙ m.carries.name))
    (names_new table d ns cs i c a.1 (All-tail (λ (k : ℕ). k ≢ i) j ns n) m)

-- a program of a table that isn't made yet has a name that none of those made has
pub new_name : (t : Table) (ns : List ℕ) (cs : List Part) (i : ℕ) (c : Part) → AreMade (map pred_of t.preds) ns cs
    → All (λ j. j ≢ i) ns → IsMadeOf (map pred_of t.preds) i c → All (λ d. name_bytes d.shape.name ≢ name_bytes c.shape.name) cs
new_name t ns cs i c a n m =
    names_new (map pred_of t.preds) (differing (map (λ (p : PredOf). p.shape_name) (map pred_of t.preds))
    (names-differ (table_of t.sites t.params t.preds) t.whole)) ns cs i c a n m

-- ---- predicates with the same arguments are over the same variables
eq_true : (a b : ℕ) → nat_eq a b ≡ true → a ≡ b
eq_true a b h = grind (arith, nat_tests)

same_arg_is : (a b : ArgOf) → same_arg a b ≡ true → a ≡ b
same_arg_is (SiteArg n t) (SiteArg m u) h =
    let q = and_parts (bytes_eq n m) (nat_eq t u) h in
    ap (λ (x : List ℕ). SiteArg x t) ((bytes_eq-Decides n m).0 q.0) ∙ ap (λ (x : ℕ). SiteArg m x) (eq_true t u q.1)
same_arg_is (SiteArg n t) (ParamArg q) h = absurd (true≢false (sym h))
same_arg_is (ParamArg p) (SiteArg m u) h = absurd (true≢false (sym h))
same_arg_is (ParamArg p) (ParamArg q) h = ap (λ (x : ℕ). ParamArg x) (eq_true p q h)

same_args_are : (xs ys : List ArgOf) → same_args xs ys ≡ true → xs ≡ ys
same_args_are [] [] h = refl
same_args_are [] (y ∷ ys) h = absurd (true≢false (sym h))
same_args_are (x ∷ xs) [] h = absurd (true≢false (sym h))
same_args_are (x ∷ xs) (y ∷ ys) h =
    let q = and_parts (same_arg x y) (same_args xs ys) h in
    ap (λ (z : ArgOf). z ∷ xs) (same_arg_is x y q.0) ∙ ap (λ (zs : List ArgOf). y ∷ zs) (same_args_are xs ys q.1)

-- a predicate is over this many sites and these variables
abbrev pub IsOver : ℕ → List VarInfo → PredOf → Type 0
IsOver sites vars q = (q.sites ≡ sites) × (q.vars ≡ vars)

module _ (S : List SiteOf) (P : List CoordOf) where
  shape_same : (p q : PredOf) → PredParts S P p → PredParts S P q → same_args p.args q.args ≡ true → IsOver p.sites p.vars q
  shape_same p q h k e =
      let same = same_args_are p.args q.args e in (
        k.sites ∙ ap (λ (xs : List ArgOf). count_by is_site_said xs) (sym same) ∙ sym h.sites,
        k.vars ∙ ap (λ (xs : List ArgOf). vars_behind S P 0 0 xs) (sym same) ∙ sym h.vars,
      )

  shapes_same : (p : PredOf) (qs : List PredOf) → PredParts S P p → Every (PredParts S P) qs
      → Every (λ (q : PredOf). same_args p.args q.args ≡ true) qs → Every (IsOver p.sites p.vars) qs
  shapes_same p [] h k e = tt
  shapes_same p (q ∷ qs) h k e = (shape_same p q h k.0 e.0, shapes_same p qs h k.1 e.1)

  -- predicates with the arguments of the first are over its sites and variables
  pub alike_over : (p : PredOf) (others : List PredOf) → Every (PredParts S P) (p ∷ others) → are_alike (p ∷ others) ≡ true
      → Every (IsOver p.sites p.vars) (p ∷ others)
  alike_over p others h e =
      shapes_same p (p ∷ others) h.0 h (every (λ (q : PredOf). same_args p.args q.args) (p ∷ others) e)

numbered_every : (Q : PredOf → Type 0) (table : List PredOf) (is : List ℕ) (ps : List PredOf) → Every Q table
    → AreNumbered table is ps → Every Q ps
numbered_every Q table [] [] h n = tt
numbered_every Q table [] (p ∷ ps) h n = absurd n
numbered_every Q table (i ∷ is) [] h n = absurd n
numbered_every Q table (i ∷ is) (p ∷ ps) h n = (every_at Q table i p h n.0, numbered_every Q table is ps h n.1)

-- the programs are over the variables of their predicates
over_programs : (sites : ℕ) (vars : List VarInfo) (cs : List Part) (ks : List ℕ) (ps : List PredOf) → AreProgramsAt cs ks ps
    → Every (IsOver sites vars) ps → AreOver sites vars cs ks
over_programs sites vars cs [] ps a h k part f = absurd (none-some f.place f.named)
over_programs sites vars cs (i ∷ ks) [] a h k part f = absurd a
over_programs sites vars cs (i ∷ ks) (p ∷ ps) a h zero part f =
    let o : IsProgramOf p part = a.0 part (subst (λ (n : ℕ). slice_get cs n ≡ Some part) (sym (same_Some i f.place f.named)) f.there) in
    (o.sites ∙ h.0.0, o.vars ∙ h.0.1)
over_programs sites vars cs (i ∷ ks) (p ∷ ps) a h (suc k) part f =
    over_programs sites vars cs ks ps a.1 h.1 k part (record { place = f.place; named = f.named; there = f.there })

-- two or more are one or more
pub some_of_two : (n : ℕ) → 2 ≤ n → 1 ≤ n
some_of_two n h = omega arith

-- ---- all of it
-- the first predicate is that of the first number
pub first_pred : (preds : List Pred) (p : Pred) (is : List ℕ) (ps : List PredOf) → AreNumbered (map pred_of preds) is ps → 1 ≤ length is
    → slice_get preds (slice_index_or is 0 0) ≡ Some p → (others : List PredOf) × (ps ≡ pred_of p ∷ others)
first_pred preds p [] ps n l e = absurd (omega (arith, l))
first_pred preds p (i ∷ is) [] n l e = absurd n
first_pred preds p (i ∷ is) (q ∷ ps) n l e = (ps, ap (λ (x : PredOf). x ∷ ps) (same_at preds i p q e n.0))

module _ (t : Table) (numbers : List ℕ) (pred : Pred) where
  -- named predicates of one shape, from one to eight, are factors: their programs keep the rules, over the same variables
  pub factors_fit : (names : List (List ℕ)) (programs : List Part) (which : List ℕ)
      → AreMadeAt (map pred_of t.preds) programs which numbers → HaveOneShape (map pred_of t.preds) numbers → 1 ≤ length numbers
      → length numbers ≤ 8 → slice_get t.preds (slice_index_or numbers 0 0) ≡ Some pred
      → AreFactors (factors_of pred names programs which)
  factors_fit names programs which m s l few e =
      let first = first_pred t.preds pred numbers s.preds s.numbered l e in
      let v : TableOf = table_of t.sites t.params t.preds in
      let parts : Every (PredParts v.sites v.params) (pred_of pred ∷ first.0) =
      subst (λ (ps : List PredOf). Every (PredParts v.sites v.params) ps) first.1
      (numbered_every (PredParts v.sites v.params) (map pred_of t.preds) numbers s.preds (table_parts v t.whole).preds s.numbered) in
      let alike : are_alike (pred_of pred ∷ first.0) ≡ true = subst (λ (ps : List PredOf). are_alike ps ≡ true) first.1 s.alike in
      let over = alike_over v.sites v.params (pred_of pred) first.0 parts alike in
      let at : AreProgramsAt programs which (pred_of pred ∷ first.0) = subst (λ (ps : List PredOf). AreProgramsAt programs which ps) first.1
      (programs_at (map pred_of t.preds) m.numbers programs which numbers s.preds m.made m.stand s.numbered) in
      record {
        places = places_within (map pred_of t.preds) m.numbers programs which numbers m.made m.stand;
        kept = λ i part there. (paired_there (IsMadeOf (map pred_of t.preds)) m.numbers programs i part m.made there).2.kept;
        over = over_programs pred.shape.sites pred.shape.vars programs which (pred_of pred ∷ first.0) at over;
        few = rw (← AllZip-long (λ k i. slice_get m.numbers k ≡ Some i) which numbers m.stand) few;
      }

-- ---- scratches
-- a scratch is made for the program at a place
abbrev pub IsMadeAt : List Part → ℕ → Scratch → Type 0
IsMadeAt programs i s = (p : Part) → slice_get programs i ≡ Some p → MadeFor p s

-- scratches for the programs at the factors' places are those of the factors
pub made_for : (programs : List Part) (which : List ℕ) (ss : List Scratch) → AllZip (IsMadeAt programs) which ss → AreMadeFor programs which ss
made_for programs which ss h = record {
  size = AllZip-long (IsMadeAt programs) which ss h;
  made = λ k p s f e.
      let r = paired_there (IsMadeAt programs) which ss k s h e in
      let same : r.0 ≡ f.place = cc (r.1, f.named) in
      r.2 p (rw same f.there);
}

-- a row in range, by equal sites and variables
pub range_as : (s t : ℕ) (v w : List VarInfo) (row : Row) → s ≡ t → v ≡ w → InRange s v row → InRange t w row
range_as s t v w row e f h =
    subst (λ (n : ℕ). InRange n w row) e (subst (λ (us : List VarInfo). InRange s us row) f h)

-- ---- verdicts
module _ (sites : ℕ) (vars : List VarInfo) (programs : List Part)
    (kept : (i : ℕ) (part : Part) → slice_get programs i ≡ Some part → IsProgram part) where
  later : (k : ℕ) (ks : List ℕ) (j : ℕ) (part : Part) → IsFactor programs ks j part → IsFactor programs (k ∷ ks) (suc j) part
  later k ks j part f = record { place = f.place; named = f.named; there = f.there }

  -- the verdict of each factor's machine is the one that the row requires
  pub due_all : (r : code.Row) (ks : List ℕ) (ps : List PredOf) (vs : List Verdict) → AreOver sites vars programs ks
      → AreVerdicts programs ks r vs → InRange sites vars (row_of sites vars r) → All (λ i. i < length programs) ks
      → AreProgramsAt programs ks ps → AreDue ps (row_of sites vars r) vs
  due_all r [] [] [] o ve range pl a = tt
  due_all r [] [] (v ∷ vs) o ve range pl a = absurd (omega (arith, ve.size))
  due_all r [] (p ∷ ps) vs o ve range pl a = absurd a
  due_all r (k ∷ ks) [] vs o ve range pl a = absurd a
  due_all r (k ∷ ks) (p ∷ ps) [] o ve range pl a = absurd (omega (arith, ve.size))
  due_all r (k ∷ ks) (p ∷ ps) (v ∷ vs) o ve range pl a =
      let here = at_place programs k (All-head (λ (i : ℕ). i < length programs) k ks pl) in
      let f : IsFactor programs (k ∷ ks) 0 here.0 = record { place = k; named = refl; there = here.1 } in
      let same = o 0 here.0 f in
      let carries : IsProgramOf p here.0 = a.0 here.0 here.1 in
      let verdict : IsVerdict here.0 (row_of sites vars r) v = rw (same.0, same.1) at (ve.each 0 here.0 v f refl) in
      let within = range_as sites p.sites vars p.vars (row_of sites vars r) (sym same.0 ∙ carries.sites) (sym same.1 ∙ carries.vars)
      range in (
        programs_answer p here.0 (row_of sites vars r) v (kept k here.0 here.1) carries within verdict,
        due_all r ks ps vs (λ j part g. o (suc j) part (later k ks j part g))
            (record { size = omega (arith, ve.size); each = λ j part u g e. ve.each (suc j) part u (later k ks j part g) e })
            range (All-tail (λ (i : ℕ). i < length programs) k ks pl) a.1,
      )

  -- each factor requires a verdict of a row in range
  pub owed_all : (row : Row) (ks : List ℕ) (ps : List PredOf) → AreOver sites vars programs ks → InRange sites vars row
      → All (λ i. i < length programs) ks → AreProgramsAt programs ks ps → (vs : List Verdict) × AreDue ps row vs
  owed_all row [] [] o range pl a = ([], tt)
  owed_all row [] (p ∷ ps) o range pl a = absurd a
  owed_all row (k ∷ ks) [] o range pl a = absurd a
  owed_all row (k ∷ ks) (p ∷ ps) o range pl a =
      let here = at_place programs k (All-head (λ (i : ℕ). i < length programs) k ks pl) in
      let f : IsFactor programs (k ∷ ks) 0 here.0 = record { place = k; named = refl; there = here.1 } in
      let same = o 0 here.0 f in
      let carries : IsProgramOf p here.0 = a.0 here.0 here.1 in
      let inside = range_as sites here.0.shape.sites vars here.0.shape.vars row (sym same.0) (sym same.1) range in
      let within = range_as sites p.sites vars p.vars row (sym same.0 ∙ carries.sites) (sym same.1 ∙ carries.vars) range in
      let v = rows-have here.0 row (programs-run here.0 (kept k here.0 here.1)) inside in
      let rest = owed_all row ks ps (λ j part g. o (suc j) part (later k ks j part g)) range
      (All-tail (λ (i : ℕ). i < length programs) k ks pl) a.1 in
      (v.0 ∷ rest.0, (programs_answer p here.0 row v.0 (kept k here.0 here.1) carries within v.1, rest.1))

-- each predicate of factors has a program
pub programs_had : (programs : List Part) → ((i : ℕ) (part : Part) → slice_get programs i ≡ Some part → IsProgram part) → (ks : List ℕ)
    (ps : List PredOf) → All (λ i. i < length programs) ks → AreProgramsAt programs ks ps → All (HasProgram BySmallest) ps
programs_had programs kept [] [] pl a = All-nil (HasProgram BySmallest)
programs_had programs kept [] (p ∷ ps) pl a = absurd a
programs_had programs kept (k ∷ ks) [] pl a = absurd a
programs_had programs kept (k ∷ ks) (p ∷ ps) pl a =
    let here = at_place programs k (All-head (λ (i : ℕ). i < length programs) k ks pl) in
    All-cons (HasProgram BySmallest) p ps
    (has_program BySmallest p here.0 (kept k here.0 here.1) (answers_for p here.0 (a.0 here.0 here.1)))
    (programs_had programs kept ks ps (All-tail (λ (i : ℕ). i < length programs) k ks pl) a.1)

-- the row that arrays hold is one of factors, and their verdicts on it are those required
pub row_of_factors : (t : FactorsOf) (programs : List Part) (which : List ℕ) (r : code.Row) → AreFactors t → programs ≡ t.programs
    → which ≡ t.which → IsInRangeOf t.pred r → IsRowOfFactors programs which r
row_of_factors t programs which r f e w range =
    record { sites = t.pred.shape.sites; vars = t.pred.shape.vars; alike = rw (e, w) f.over; range = range }

-- a slice that was filled in is in its vector
pub take_front : {A : Type 0} (n : ℕ) (xs ys : List A) → n ≡ length xs → take n (xs ++ ys) ≡ xs
take_front zero [] ys e = refl
take_front zero (x ∷ xs) ys e = absurd (omega (arith, e))
take_front (suc n) [] ys e = absurd (omega (arith, e))
take_front {A = A} (suc n) (x ∷ xs) ys e = ap (λ (zs : List A). x ∷ zs) (take_front n xs ys (omega (arith, e)))

-- slices that were filled in leave room for the factors in their vectors
pub room_kept : (t : FactorsOf) (which : List ℕ) (n m : ℕ) (ss more : List Scratch) (vs rest : List Verdict) → AreFactors t
    → which ≡ t.which → n ≡ length ss → m ≡ length vs → AreMadeFor t.programs which ss → length vs ≡ length which
    → IsRoomFor t (take n (ss ++ more)) (take m (vs ++ rest))
room_kept t which n m ss more vs rest f w a b made size =
    rw (take_front n ss more a, take_front m vs rest b) (record {
      made = rw w at made;
      size = rw w at size;
      few = rw (size, w) f.few;
    })

-- the verdicts of the factors' programs on a row in range are those that it requires of the factors
pub due_for : (t : FactorsOf) (which : List ℕ) (r : code.Row) (vs shown : List Verdict) → AreFactors t → which ≡ t.which
    → IsInRangeOf t.pred r → AreVerdicts t.programs which r vs → shown ≡ vs
    → (ps : List PredOf) → AreProgramsAt t.programs t.which ps → AreDue ps (row_of t.pred.shape.sites t.pred.shape.vars r) shown
due_for t which r vs shown f w range ve same ps a =
    let there : AreVerdicts t.programs t.which r vs = subst (λ (ks : List ℕ). AreVerdicts t.programs ks r vs) w ve in
    subst (λ (us : List Verdict). AreDue ps (row_of t.pred.shape.sites t.pred.shape.vars r) us) (sym same)
    (due_all t.pred.shape.sites t.pred.shape.vars t.programs f.kept r t.which ps vs f.over there range f.places a)
