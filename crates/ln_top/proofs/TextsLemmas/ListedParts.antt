-- The machine of a listed program has the verdicts of the program.
use Rattle.std.proofs.Common.{◌≡◌, ℕ, ◌+◌, zero, suc, Bool, true, false, List, [], ◌∷◌, length, map, refl, sym}
use Rattle.std.proofs.Common.{◌∙◌, ap, arith, subst, if◌then◌else◌}
use Rattle.std.specs.Prelude.{All, Option, Some, None, IfSome, slice_get}
use Rattle.std.specs.Option.{option_map}
use Rattle.std.proofs.Math.IntN.{ℤ}
use Rattle.std.proofs.lemmas.List.{length-map}
use Rattle.std.proofs.lemmas.List.Elements.{All-head, All-tail}
use Rattle.std.proofs.lemmas.Option.{slice_get-get_or, slice_get-map}
use Rattle.ln_algebra.specs.Orders.{BySmallest}
use Rattle.ln_algebra.specs.Tree.{Tree}
use Rattle.ln_algebra.specs.Vector.{same_vector}
use Rattle.ln_algebra.proofs.Expanded.Normal.{same_vector-is, same_vector-refl}
use Rattle.ln_tree.specs.declared.shape.VarInfo.{VarInfo}
use Rattle.ln_tree.specs.Row.{InRange, Row}
use Rattle.ln_tree.specs.Table.{PredOf}
use Rattle.ln_order.specs.Orders.{IsOrderOf, orders_of}
use Rattle.ln_order.specs.Prefixes.{beside}
use Rattle.ln_order.proofs.Listing.OrdersLemmas.{is-member}
use Rattle.ln_code.specs.declared.op.Op.{Op}
use Rattle.ln_code.specs.declared.verdict.By.{By}
use Rattle.ln_code.specs.declared.verdict.By.TheVariants.{Filter}
use Rattle.ln_code.specs.declared.verdict.Verdict.{Verdict}
use Rattle.ln_code.specs.Engine.{Line, next}
use Rattle.ln_code.specs.Kept.{FollowsFilterRules, FollowsRules, IsProgram}
use Rattle.ln_code.specs.Lists.{list_of}
use Rattle.ln_code.specs.Part.{Code, FilterCode, Part, block_value, filter_value, lines_of, wide_in}
use Rattle.ln_code.specs.Verdict.{IsVerdict, along, decides, settled, through}
use Rattle.ln_code.proofs.Verdicts.Machine.{programs-run, rows-have}
use Rattle.ln_due.specs.Due.{Decided, Due, Filtering, IsOwedByStages, NoFilter, Undecided, DecidesRow}
use Rattle.ln_compile.specs.Accepted.{root_of}
use Rattle.ln_compile.specs.Compiled.{IsProgramOf}
use Rattle.ln_compile.specs.Filtered.{IsDue}
use Rattle.ln_compile.proofs.Listing.FilteredLemmas.{programs_answer}
use Rattle.ln_verify.specs.AsPart.{code_of, filter_of, part_of}
use Rattle.ln_verify.specs.BlockRules.{deepest}
use Rattle.ln_verify.proofs.Judging.Wholes.{list-is}
use Rattle.ln_top.specs.Texts.Listing.{AnswersDue, PartIsDue}
use Rattle.ln_top.proofs.TextsLemmas.GoodParts.{lines_in, piece_of, written_of}

-- ---- the same code on a deeper stack
abbrev deeper : Code → Code
deeper c = record { exps = c.exps; ops = c.ops; pairs = c.pairs; depth = deepest }

abbrev deeper_filter : Option FilterCode → Option FilterCode
deeper_filter None = None
deeper_filter (Some f) = Some (record { ops = f.ops; triples = f.triples; depth = deepest })

ops_back : {B : Type 0} (os : List Op) (bs : List B) → length os ≡ length bs → map (λ (x : Line B). x.op) (lines_of os bs) ≡ os
ops_back [] bs h = refl
ops_back (o ∷ os) [] h = absurd (omega (arith, h))
ops_back (o ∷ os) (b ∷ bs) h = ap (λ z. o ∷ z) (ops_back os bs (omega (arith, h)))

bounds_back : {B : Type 0} (os : List Op) (bs : List B) → length os ≡ length bs
    → map (λ (x : Line B). x.bound) (lines_of os bs) ≡ bs
bounds_back [] [] h = refl
bounds_back [] (b ∷ bs) h = absurd (omega (arith, h))
bounds_back (o ∷ os) [] h = absurd (omega (arith, h))
bounds_back (o ∷ os) (b ∷ bs) h = ap (λ z. b ∷ z) (bounds_back os bs (omega (arith, h)))

codes_back : (vars : List VarInfo) (cs : List Code) → All (FollowsRules vars) cs → map code_of (map piece_of cs) ≡ map deeper cs
codes_back vars [] h = refl
codes_back vars (c ∷ cs) h =
    let k : FollowsRules vars c = All-head (FollowsRules vars) c cs h in
    let a = ops_back c.ops c.pairs k.bounded in
    let b = bounds_back c.ops c.pairs k.bounded in
    let r = codes_back vars cs (All-tail (FollowsRules vars) c cs h) in
    λ i. record { exps = c.exps; ops = a i; pairs = b i; depth = deepest } ∷ r i

filter_back : (vars : List VarInfo) (o : Option FilterCode) → IfSome o (FollowsFilterRules vars)
    → filter_of (lines_in o) ≡ deeper_filter o
filter_back vars None h = refl
filter_back vars (Some f) h =
    let a = ops_back f.ops f.triples h.bounded in
    let b = bounds_back f.ops f.triples h.bounded in
    λ i. Some (record { ops = a i; triples = b i; depth = deepest })

-- how deep the stack may be changes no value
along_deeper : (zs : List ℤ) (cs : List Code) (ns : List ℕ) (place wide calls : ℕ)
    → along zs (map deeper cs) ns place wide calls ≡ along zs cs ns place wide calls
along_deeper zs cs [] place wide calls = refl
along_deeper zs cs (n ∷ ns) place wide calls =
    let q : slice_get (map deeper cs) n ≡ option_map deeper (slice_get cs n) = slice_get-map deeper cs n in
    rw q (go (slice_get cs n) (λ w. along_deeper zs cs ns (place + 1) w (calls + 1)))
  where
    go : (o : Option Code)
        → ((w : ℕ) → along zs (map deeper cs) ns (place + 1) w (calls + 1) ≡ along zs cs ns (place + 1) w (calls + 1)) →
        next (option_map deeper o) (λ c. next (block_value zs c)
        (λ z. settled z place (wide + wide_in c.ops) (calls + 1)
        (along zs (map deeper cs) ns (place + 1) (wide + wide_in c.ops) (calls + 1))))
        ≡ next o (λ c. next (block_value zs c) (λ z. settled z place (wide + wide_in c.ops) (calls + 1)
        (along zs cs ns (place + 1) (wide + wide_in c.ops) (calls + 1))))
    go None ih = refl
    go (Some c) ih =
        ap (λ (r : Option Verdict). next (block_value zs c) (λ z. settled z place (wide + wide_in c.ops) (calls + 1) r))
        (ih (wide + wide_in c.ops))

through_deeper : (o : Option FilterCode) (zs : List ℤ) (cs : List Code) (list : List ℕ)
    → through (deeper_filter o) zs (map deeper cs) list ≡ through o zs cs list
through_deeper None zs cs list = along_deeper zs cs list 0 0 0
through_deeper (Some f) zs cs list =
    ap (λ (r : Option Verdict). next (filter_value zs f) (λ h. decides h r)) (along_deeper zs cs list 0 0 1)

-- what stands beside a member of a list
beside_map : (qs : List (List ℕ)) (f : List ℕ → List ℕ) (o : List ℕ) (k : ℕ) → slice_get qs k ≡ Some o
    → beside qs (map f qs) o ≡ f o
beside_map [] f o k h = cc
beside_map (q ∷ qs) f o k h = go (same_vector q o) refl k h (λ j g. beside_map qs f o j g)
  where
    go : (b : Bool) → same_vector q o ≡ b → (k : ℕ) → slice_get (q ∷ qs) k ≡ Some o
        → ((j : ℕ) → slice_get qs j ≡ Some o → beside qs (map f qs) o ≡ f o)
        → (if b then f q else beside qs (map f qs) o) ≡ f o
    go true t k h ih = ap f (same_vector-is q o t)
    go false t zero h ih =
        let z : q ≡ o = cc in let u : true ≡ false = sym (same_vector-refl q) ∙ ap (same_vector q) z ∙ t in absurd cc
    go false t (suc k) h ih = ih k h

module _ (part : Part) (kept : IsProgram part) where
  list_back : (o : List ℕ) → IsOrderOf part.shape.sites o → list_of (part_of part.shape (written_of part)) o ≡ list_of part o
  list_back o h =
      let c = is-member part.shape.sites o h in
      let there : slice_get (orders_of part.shape.sites) c.0 ≡ Some o = slice_get-get_or (orders_of part.shape.sites) c.0 o c.1
      ∙ ap (λ z. Some z) c.2 in
      list-is part.shape (written_of part) (length-map (orders_of part.shape.sites) (list_of part)) o h ∙ beside_map
      (orders_of part.shape.sites) (list_of part) o c.0 there

  through_back : (zs : List ℤ) (list : List ℕ)
      → through (filter_of (lines_in part.filter)) zs (map code_of (map piece_of part.blocks)) list
      ≡ through part.filter zs part.blocks list
  through_back zs list =
      let a = filter_back part.shape.vars part.filter kept.filter in
      let b = codes_back part.shape.vars part.blocks kept.blocks in
      (λ i. through (a i) zs (b i) list) ∙ through_deeper part.filter zs part.blocks list

  -- a verdict on a row by what the listing states is one by the program itself
  pub verdict_back : (row : Row) (v : Verdict) → IsVerdict (part_of part.shape (written_of part)) row v → IsVerdict part row v
  verdict_back row v h = record {
    places = h.places;
    order = h.order;
    list = h.list;
    chosen = record { order = h.chosen.order; list_is = h.chosen.list_is ∙ list_back h.places h.chosen.order };
    answered = sym (through_back row.values h.list) ∙ h.answered;
  }

  -- a verdict on a row by the program itself is one by what the listing states
  pub verdict_there : (row : Row) (v : Verdict) → IsVerdict part row v → IsVerdict (part_of part.shape (written_of part)) row v
  verdict_there row v h = record {
    places = h.places;
    order = h.order;
    list = h.list;
    chosen = record { order = h.chosen.order; list_is = h.chosen.list_is ∙ sym (list_back h.places h.chosen.order) };
    answered = through_back row.values h.list ∙ h.answered;
  }

-- ---- what a row requires
-- the stages don't decide by the filter
not_by_filter : (vars : List VarInfo) (e : Tree) (row : Row) (entered : ℕ) (v : Verdict)
    → IsOwedByStages BySmallest vars e row entered v → v.by ≡ Filter → ⊥
not_by_filter vars e row entered v d b = subst (λ (x : By). DecidesRow BySmallest vars e row d.list x d.blocks) b d.decided

no_wide : (vars : List VarInfo) (e : Tree) (row : Row) (does : Filtering) (v : Verdict) → Due BySmallest does vars e row v
    → v.by ≡ Filter → v.wide ≡ 0
no_wide vars e row NoFilter v d b = absurd (not_by_filter vars e row 0 v d b)
no_wide vars e row Decided v d b = d.wide
no_wide vars e row Undecided v d b = absurd (not_by_filter vars e row 1 v d b)

-- the machine of what a listing states of a compiled program has the verdicts that the predicate's rows require
pub part_due : (p : PredOf) (part : Part) → IsProgram part → IsProgramOf p part → PartIsDue p (written_of part)
part_due p part k o = record {
  shape = part.shape;
  name = o.name;
  sites = o.sites;
  vars = o.vars;
  rows = λ row range. answers row range (there row range);
}
  where
    there : (row : Row) → InRange p.sites p.vars row → InRange part.shape.sites part.shape.vars row
    there row range = rw (o.sites, o.vars) range

    due : (row : Row) (v : Verdict) → InRange p.sites p.vars row → IsVerdict (part_of part.shape (written_of part)) row v
        → IsDue p row v
    due row v range m = programs_answer p part row v k o range (verdict_back part k row v m)

    answers : (row : Row) → InRange p.sites p.vars row → InRange part.shape.sites part.shape.vars row
        → AnswersDue p (part_of part.shape (written_of part)) row
    answers row range h =
        let a = rows-have part row (programs-run part k) h in
        record {
          verdict = a.0;
          answers = verdict_there part k row a.0 a.1;
          due = λ v m. due row v range m;
          narrow = λ v m b. let d = due row v range m in no_wide p.vars (root_of p) row d.filtering v d.due b;
        }
