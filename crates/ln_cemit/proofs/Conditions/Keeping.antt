-- The conditions of the subset, on the functions of blocks and filters.
use Rattle.std.proofs.Common.{◌≡◌, ℕ, ◌≤◌, ◌/◌, ◌^◌, true, false, List, [], ◌∷◌, length, refl, sym, ap}
use Rattle.std.proofs.Common.{arith, ℤ, pos, unsigned_abs}
use Rattle.std.specs.Prelude.{Option, Some, nat_le, slice_get}
use Rattle.std.proofs.lemmas.Bool.{le-leb, and_parts}
use Rattle.std.proofs.lemmas.Option.{slice_get_within}
use Rattle.ln_tree.specs.declared.shape.VarInfo.{VarInfo}
use Rattle.ln_bound.specs.declared.fitted.Width.TheVariants.{W64, W128}
use Rattle.ln_bound.specs.Value.{size_of}
use Rattle.ln_bound.specs.Widths.{limit, least}
use Rattle.ln_algebra.specs.Tree as tree
use Rattle.ln_code.specs.declared.op.Op.{Op}
use Rattle.ln_code.specs.declared.op.Op.TheVariants.{Push, Input, Get, Set, Add, Sub, Mul, Neg, Cut}
use Rattle.ln_code.specs.declared.op.Triple.{Triple}
use Rattle.ln_code.specs.Engine.{Engine, State, Line, step, run, only, pushed}
use Rattle.ln_code.specs.Numbers.{cut_by, no_locals}
use Rattle.ln_interval.specs.Range.{Range, point, magnitude}
use Rattle.ln_interval.proofs.Magnitudes.{holds_magnitude, covers_holds}
use Rattle.ln_code.specs.Rules.{declared, known, rules}
use Rattle.ln_code.specs.FilterRules.{FilterKnown, filter_known, filter_rules, push_error}
use Rattle.ln_code.specs.Part.{lines_of, known_of, filter_known_of}
use Rattle.ln_code.proofs.Following.Known.{next_some, known_some, limit_wide}
use Rattle.ln_code.proofs.Filters.FilterKnown.{known_says}
use Rattle.ln_code.proofs.Engines.Runs.{some_is, filter_runs}
use Rattle.ln_code.proofs.Filters.Cutting.{cut_none, cut_abs}
use Rattle.ln_csyn.specs.Words.{is_c_name, most_number}
use Rattle.ln_cemit.specs.declared.slot.Way.{Way}
use Rattle.ln_cemit.specs.Ways.{ways, block_way, filter_way, block_lines, lines_of_filter}
use Rattle.ln_cemit.specs.Emit.{body_of}
use Rattle.ln_cemit.specs.Law.{error_of}
use Rattle.ln_cemit.specs.Conditions.{is_fine, are_fine, FunsKeep, BlocksKeep, FiltersKeep}
use Rattle.ln_cemit.proofs.Meanings.Follows.{number_held}
use Rattle.ln_cemit.proofs.Conditions.Shapes.{shape_is}
use Rattle.ln_cemit.proofs.Conditions.Numbered.{meets}

-- the function of lines keeps the conditions, where its names are free and differ and its numbers are small
pub funs_keep : FunsKeep
funs_keep names name own e xs differ free w o b h =
    meets name (length xs) false differ names true own {d = 1} (body_of name e xs) free w o (omega arith)
    (shape_is name (length xs) (λ i l. (and_parts (is_c_name (name i)) _ (free i l)).0) e xs b h (omega arith))

-- ---- what the rules say of each line

-- what an engine pushes and reads is fine
record IsStrict {B V L : Type 0} (g : B → Way) (e : Engine B V L) : Type 0 where
  push : (z : ℤ) (b : B) (v : V) → e.push z b ≡ Some v → is_fine (Push z) (g b) ≡ true
  input : (i : ℕ) (b : B) (v : V) → e.input i b ≡ Some v → is_fine (Input i) (g b) ≡ true

fine_step : {B V L : Type 0} (g : B → Way) (e : Engine B V L) → IsStrict g e → (oper : Op) (b : B) (l : L) (vs : List V) (t : State V L)
    → step e oper b l vs ≡ Some t → is_fine oper (g b) ≡ true
fine_step g e h (Push z) b l vs t q = let r = next_some (e.push z b) (pushed e l vs) t q in h.push z b r.0 r.1
fine_step g e h (Input i) b l vs t q = let r = next_some (e.input i b) (pushed e l vs) t q in h.input i b r.0 r.1
fine_step g e h (Get j) b l vs t q = refl
fine_step g e h (Set j) b l vs t q = refl
fine_step g e h (Add w) b l vs t q = refl
fine_step g e h (Sub w) b l vs t q = refl
fine_step g e h (Mul w) b l vs t q = refl
fine_step g e h (Neg w) b l vs t q = refl
fine_step g e h (Cut m) b l vs t q = refl

fine_run : {B V L : Type 0} (g : B → Way) (e : Engine B V L) → IsStrict g e → (lines : List (Line B)) (s t : State V L)
    → run e lines s ≡ Some t → are_fine (ways g lines) ≡ true
fine_run g e h [] s t q = refl
fine_run {V = V} {L = L} g e h (x ∷ xs) s t q =
    let r = next_some (step e x.op x.bound s.locals s.stack) (λ (u : State V L). run e xs u) t q in
    rw (fine_step g e h x.op x.bound s.locals s.stack r.0 r.1, fine_run g e h xs r.0 t r.2) refl

strict_rules : (vars : List VarInfo) (depth : ℕ) → length vars ≤ most_number → IsStrict block_way (rules vars depth)
strict_rules vars depth few = record {
  push = λ z p k q. let r = known_some (point z) p (least (magnitude p)) (unsigned_abs z) (tree.Num z) k q in
      short z p (holds_magnitude p z (covers_holds p (point z) z r.0 (number_held z))) r.1.1;
  input = λ i p k q. let r = next_some (slice_get vars i) (λ (v : VarInfo). known (declared v) p (least (magnitude p)) 1 (tree.Input i)) k q in
      le-leb i most_number (omega (arith, slice_get_within vars i r.0 r.1, few));
}
  where
    short : (z : ℤ) (p : Range) → unsigned_abs z ≤ magnitude p → magnitude p ≤ limit (least (magnitude p))
        → nat_le (unsigned_abs (cut_by 0 z)) (limit W128) ≡ true
    short z p h q =
        let e : cut_by 0 z ≡ z = cut_none z in
        rw e (le-leb (unsigned_abs z) (limit W128) (omega (arith, h, q, limit_wide (least (magnitude p)))))

strict_filter : (vars : List VarInfo) (depth : ℕ) → length vars ≤ most_number → IsStrict filter_way (filter_rules vars depth)
strict_filter vars depth few = record {
  push = λ z a k q. let r = known_says a.k _ (push_error a.k) (unsigned_abs z) (tree.Num z) a k q in short z a r.enough_h r.narrow;
  input = λ i a k q. let r = next_some (slice_get vars i) (λ (v : VarInfo). filter_known 0 (size_of v) 0 1 (tree.Input i) a) k q in
      le-leb i most_number (omega (arith, slice_get_within vars i r.0 r.1, few));
}
  where
    short : (z : ℤ) (a : Triple) → unsigned_abs z / 2 ^ a.k ≤ a.h → a.h ≤ 9223372036854775807 → nat_le (unsigned_abs (cut_by a.k z)) (limit W128) ≡ true
    short z a p q = le-leb (unsigned_abs (cut_by a.k z)) (limit W128) (rw (cut_abs a.k z) (omega (arith, p, q)))

-- the function of a block that follows the rules keeps the conditions
pub blocks_keep : BlocksKeep
blocks_keep names name own vars code differ free w o few r =
    let k = some_is (known_of vars code) r.answers in
    let q = next_some (run (rules vars code.depth) (lines_of code.ops code.pairs) (record { stack = []; locals = no_locals })) (λ s. only s.stack) k.0 k.1 in
    funs_keep names name own 0 (block_lines code) differ free w o (omega arith) (fine_run block_way (rules vars code.depth)
    (strict_rules vars code.depth few) (lines_of code.ops code.pairs) (record { stack = []; locals = no_locals }) q.0 q.1)

-- the function of a filter that follows the rules keeps the conditions, where there is a row in range
pub filters_keep : FiltersKeep
filters_keep names name own vars zs f range differ free w o few r =
    let b = filter_runs vars zs f f.depth (λ k. pos 0) r range (omega arith) in
    let one : b.what ≡ r.what = one_known (filter_known_of vars f) b.what r.what b.known r.known in
    let small : error_of f ≤ most_number =
    at_most (error_of f) b.left.error b.what.triple.e r.what.triple.e (sym b.error) b.holds.error (ap (λ (y : FilterKnown). y.triple.e) one) r.narrow in
    let q = next_some (run (filter_rules vars f.depth) (lines_of f.ops f.triples) (record { stack = []; locals = no_locals }))
    (λ s. only s.stack) r.what r.known in
    funs_keep names name own (error_of f) (lines_of_filter f) differ free w o small (fine_run filter_way (filter_rules vars f.depth)
    (strict_filter vars f.depth few) (lines_of f.ops f.triples) (record { stack = []; locals = no_locals }) q.0 q.1)
  where
    one_known : (o : Option FilterKnown) (a b : FilterKnown) → o ≡ Some a → o ≡ Some b → a ≡ b
    one_known o a b p q = cc

    at_most : (a b d e : ℕ) → a ≡ b → b ≡ d → d ≡ e → e ≤ limit W64 → a ≤ most_number
    at_most a b d e p q r h = rw (p, q, r) h
