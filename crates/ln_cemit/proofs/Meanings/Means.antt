-- The functions of blocks and filters on a row.
use Rattle.std.proofs.Common.{◌≡◌, ℕ, ℤ, zero, suc, ◌≤◌, Bool, true, false, List, [], ◌∷◌, refl, sym, ap, ◌∙◌, subst, arith, pos, negsuc, unsigned_abs}
use Rattle.std.specs.Prelude.{Option, Some, None, if◌then◌else◌, nat_lt}
use Rattle.std.proofs.lemmas.Bool.{lt-ltb}
use Rattle.ln_bound.specs.declared.fitted.Width.{Width}
use Rattle.ln_bound.specs.declared.fitted.Width.TheVariants.{W64}
use Rattle.ln_bound.specs.Value.{value, values}
use Rattle.ln_bound.specs.Widths.{limit}
use Rattle.ln_code.specs.Engine.{Line, run, only}
use Rattle.ln_code.specs.Numbers.{no_locals}
use Rattle.ln_code.specs.Exact.{Held, exact_filter}
use Rattle.ln_code.specs.Rules.{rules}
use Rattle.ln_code.specs.Part.{lines_of, filter_known_of}
use Rattle.ln_code.specs.FilterRules.{FilterKnown}
use Rattle.ln_code.proofs.Engines.Follow.{relined}
use Rattle.ln_code.proofs.Following.Known.{next_some}
use Rattle.ln_code.proofs.Engines.Runs.{answer_follows, reached_some, filter_runs}
use Rattle.ln_code.proofs.Following.Means.{blocks_mean}
use Rattle.ln_csyn.specs.declared.tree.CType.TheVariants.{Int}
use Rattle.ln_csyn.specs.Tree.{Body}
use Rattle.ln_csyn.specs.Meaning.{Counts, Scene, Fails, Said, has, runs}
use Rattle.ln_cemit.specs.declared.slot.Way.{Way}
use Rattle.ln_cemit.specs.Ways.{ways, block_way, filter_way, block_lines, lines_of_filter}
use Rattle.ln_cemit.specs.Emit.{emitted, touching, reads_row, wide_lines}
use Rattle.ln_cemit.specs.Checked.{Sized, checked, sign_of, sign_above, plus, Quiet, without, narrow}
use Rattle.ln_cemit.specs.Law.{BlocksSay, FiltersSay, error_of}
use Rattle.ln_cemit.proofs.Meanings.Numbers.{fits_from}
use Rattle.ln_cemit.proofs.Meanings.Blocks.{emitted_means}
use Rattle.ln_cemit.proofs.Meanings.Follows.{Has, HasLocals, checked_follows}
use Rattle.ln_cemit.proofs.Meanings.Filters.{IsNarrow, NarrowLocals, narrow_follows, no_wide}

same_ways : {B : Type 0} (g : B → Way) (lines : List (Line B)) → relined g lines ≡ ways g lines
same_ways g [] = refl
same_ways g (x ∷ xs) = ap (λ t. record { op = x.op; bound = g x.bound } ∷ t) (same_ways g xs)

abbrev scene : List ℤ → Scene
scene zs = record { values = zs; index = None; call = λ g j. Fails None }

-- what is never reached does nothing
touched : (zs : List ℤ) (b : Bool) (body : Body) (k : Counts) → runs (scene zs) [] (touching b body) k ≡ runs (scene zs) [] body k
touched zs true body k = refl
touched zs false body k = refl

above_none : (z : ℤ) → sign_above 0 z ≡ sign_of z
above_none (pos zero) = refl
above_none (pos (suc n)) = rw (lt-ltb 0 (suc n) (omega arith)) refl
above_none (negsuc n) = rw (lt-ltb 0 (suc n) (omega arith)) refl

has_sign : (z : ℤ) → has Int (sign_of z) ≡ true
has_sign (pos zero) = refl
has_sign (pos (suc n)) = refl
has_sign (negsuc n) = refl

has_either : (b : Bool) (z : ℤ) → has Int (if b then sign_of z else pos 0) ≡ true
has_either true z = has_sign z
has_either false z = refl

-- the body of a block that follows the rules returns, on each row in range, the sign of the block's value
pub blocks_say : BlocksSay
blocks_say name vars zs code differ range r =
    let b = blocks_mean vars zs code range r in
    let lines = lines_of code.ops code.pairs in
    let f = answer_follows (rules vars code.depth) (checked zs) block_way (Has zs) (HasLocals zs)
    (checked_follows vars code.depth zs range) no_locals no_locals lines b.what (λ j v e. cc) b.known in
    let p = reached_some (Has zs) b.what _ (rw (same_ways block_way lines) at f) in
    let x : Sized = p.0 in
    let z : ℤ = value (values zs) [] b.what.tree in
    let e : x.number ≡ z = p.2.fits.same in
    let says : (k : Counts)
    → runs (scene zs) [] (emitted name 0 (block_lines code) 0 [] no_locals) k ≡ Said (sign_of z) (plus (wide_lines (block_lines code)) k)
    = λ k. emitted_means name 0 (scene zs) (block_lines code) x k differ without p.1
    ∙ ap (λ (s : ℤ). Said s (plus (wide_lines (block_lines code)) k)) (above_none x.number ∙ ap sign_of e) in
    record {
      value = z;
      machine = b.answer;
      means = record { says = λ k. touched zs (reads_row (block_lines code)) _ k ∙ says k; small = has_sign z; keeps = λ k. refl };
    }

-- the body of a filter that follows the rules returns, on each row in range, the sign where it decides, else 0
pub filters_say : FiltersSay
filters_say name vars zs f differ range r =
    let b = filter_runs vars zs f f.depth (λ k. pos 0) r range (omega arith) in
    let lines = lines_of f.ops f.triples in
    let g = answer_follows (exact_filter zs) (checked zs) filter_way IsNarrow NarrowLocals
    (narrow_follows zs) no_locals no_locals lines b.left (λ j v e. cc) b.exactly in
    let p = reached_some IsNarrow b.left _ (rw (same_ways filter_way lines) at g) in
    let x : Sized = p.0 in
    let h : Held = b.left in
    let w = next_some (run (exact_filter zs) lines (record { stack = []; locals = no_locals })) (λ s. only s.stack) h b.exactly in
    let no : wide_lines (lines_of_filter f) ≡ 0 = no_wide zs lines (record { stack = []; locals = no_locals }) w.0 w.1 in
    let small : error_of f ≤ limit W64 = error_small (error_of f) h.error b.what.triple.e r.what.triple.e (sym b.error) b.holds.error
    (ap (λ (y : FilterKnown). y.triple.e) (one_known (filter_known_of vars f) b.what r.what b.known r.known)) r.narrow in
    let q : Quiet (error_of f) x.width = subst (λ (u : Width). Quiet (error_of f) u) (sym p.2.width) (narrow (fits_from W64 (pos (error_of f)) small)) in
    let says : (k : Counts) → runs (scene zs) [] (emitted name (error_of f) (lines_of_filter f) 0 [] no_locals) k ≡ Said (sign_above h.error h.number) k
    = λ k. emitted_means name (error_of f) (scene zs) (lines_of_filter f) x k differ q p.1
    ∙ alike (error_of f) h.error x.number h.number (wide_lines (lines_of_filter f)) k (sym b.error) p.2.same no in
    record {
      left = h;
      machine = b.exactly;
      means = record {
        says = λ k. touched zs (reads_row (lines_of_filter f)) _ k ∙ says k;
        small = has_either (nat_lt h.error (unsigned_abs h.number)) h.number;
        keeps = λ k. refl;
      };
    }
  where
    one_known : (o : Option FilterKnown) (a b : FilterKnown) → o ≡ Some a → o ≡ Some b → a ≡ b
    one_known o a b p q = cc

    alike : (d e : ℕ) (x y : ℤ) (n : ℕ) (k : Counts) → d ≡ e → x ≡ y → n ≡ 0 → Said (sign_above d x) (plus n k) ≡ Said (sign_above e y) k
    alike d e x y n k p q r = rw (p, q, r) refl

    error_small : (a b d e : ℕ) → a ≡ b → b ≡ d → d ≡ e → e ≤ limit W64 → a ≤ limit W64
    error_small a b d e p q r h = rw (p, q, r) h
