-- A block and the filter of a program, on a row in range.
use Rattle.std.proofs.Common.{◌≡◌, ℕ, ℤ, ◌≤◌, ◌<◌, List, length, ap, arith, get_or, ◌∙◌, sym, subst}
use Rattle.std.specs.Prelude.{All, Contains, Option, Some, None, slice_get, IfSome}
use Rattle.std.specs.Vec.{with_items}
use Rattle.std.proofs.lemmas.List.{with_items_is}
use Rattle.std.proofs.lemmas.Option.{slice_get-get_or}
use Rattle.ln_tree.specs.Row.{AreWithin}
use Rattle.ln_code.specs.declared.scratch.Scratch.{Scratch}
use Rattle.ln_code.specs.Part.{Code, FilterCode, Part, block_value, filter_value}
use Rattle.ln_code.specs.Errors.{left_error}
use Rattle.ln_code.specs.Kept.{FollowsRules, FollowsFilterRules, IsProgram}
use Rattle.ln_code.specs.Memory.{MadeFor, at, plain, shifted, bare_value}
use Rattle.ln_code.proofs.Engines.Runs.{block_runs, filter_runs}

if_at : {X : Type 0} (P : X → Type 0) (o : Option X) (x : X) → IfSome o P → o ≡ Some x → P x
if_at P None x h e = cc
if_at P (Some y) x h e = let r : y ≡ x = cc in subst P r h

-- what is made for a program stays so while its stack and its locals keep their lengths
pub made_again : (p : Part) (s : Scratch) (stack locals : List ℤ) → MadeFor p s → length stack ≡ length s.stack.items
    → length locals ≡ length s.locals.items → MadeFor p (record { stack = with_items s.stack stack; locals = with_items s.locals locals })
made_again p s stack locals m e f =
    let a : length (with_items s.stack stack).items ≡ length s.stack.items = ap length (with_items_is s.stack stack (e ∙ sym s.stack.ok.0)) ∙ e in
    let b : length (with_items s.locals locals).items ≡ length s.locals.items = ap length (with_items_is s.locals locals (f ∙ sym s.locals.ok.0)) ∙ f in
    record {
      locals = omega (arith, m.locals, b);
      blocks = subst (λ n. All (λ (c : Code). c.depth ≤ n) p.blocks) (sym a) m.blocks;
      filter = subst (λ n. IfSome p.filter (λ (g : FilterCode). g.depth ≤ n)) (sym a) m.filter;
    }

-- on a row in range the processor has a result, the block's value
pub block_gives : {p : Part} {s : Scratch} {stack : List ℤ} (block : Code) (zs locals : List ℤ) → IsProgram p → MadeFor p s → AreWithin p.shape.vars zs
    → Contains p.blocks block → stack ≡ s.stack.items → (z : ℤ) × (bare_value (plain block.ops) zs stack locals ≡ Some z) × (block_value zs block ≡ Some z)
block_gives {p = p} {s = s} {stack = stack} block zs locals program made row its e =
    let f : FollowsRules p.shape.vars block = subst (FollowsRules p.shape.vars) its.2 (program.blocks its.0 block its.1) in
    let d : block.depth ≤ length s.stack.items = subst (λ (b : Code). b.depth ≤ length s.stack.items) its.2 (made.blocks its.0 block its.1) in
    let r = block_runs p.shape.vars zs block (length stack) (at locals) f row (rw e d) in
    (_, r.barely, r.exactly)

-- the block with this number is one of them, and no other has the number
pub its_block : (cs : List Code) (number : ℕ) (block : Code) → number < length cs → block ≡ get_or cs number block → Contains cs block
its_block cs number block h e = (number, h, sym e)

-- each block with this number has that block's value
pub the_block : (zs : List ℤ) (cs : List Code) (number : ℕ) (block : Code) (z : ℤ) → number < length cs → block ≡ get_or cs number block →
    block_value zs block ≡ Some z →
    (c : Code) → slice_get cs number ≡ Some c → block_value zs c ≡ Some z
the_block zs cs number block z h e v c q =
    let t : slice_get cs number ≡ Some block = slice_get-get_or cs number block h ∙ ap Some (sym e) in
    let u : Some c ≡ Some block = sym q ∙ t in
    let i : c ≡ block = cc in
    rw i v

-- on a row in range the processor has a result, what the filter leaves, with the error of the operation that pushed it
pub filter_gives : {p : Part} {s : Scratch} {stack : List ℤ} (f : FilterCode) (zs locals : List ℤ) → IsProgram p → MadeFor p s → AreWithin p.shape.vars zs
    → p.filter ≡ Some f → stack ≡ s.stack.items → (z : ℤ) × (bare_value (shifted f.ops f.triples) zs stack locals ≡ Some z)
    × (filter_value zs f ≡ Some (record { number = z; error = left_error f.ops f.triples 0 0 }))
filter_gives {p = p} {s = s} {stack = stack} f zs locals program made row its e =
    let h : FollowsFilterRules p.shape.vars f = if_at (FollowsFilterRules p.shape.vars) p.filter f program.filter its in
    let d : f.depth ≤ length s.stack.items = if_at (λ (g : FilterCode). g.depth ≤ length s.stack.items) p.filter f made.filter its in
    let r = filter_runs p.shape.vars zs f (length stack) (at locals) h row (rw e d) in
    (_, r.barely, rw (← r.error) r.exactly)
