-- The listing of programs has the form of a listing.
use Rattle.std.proofs.Common.{◌≡◌, ℕ, suc, ◌+◌, ◌<◌, List, [], ◌∷◌, ◌++◌, length, length-append, map, zero, Option, Some, None, inr, refl, ap, ◌∙◌, arith}
use Rattle.std.proofs.lemmas.List.{length-map}
use Rattle.ln_interval.specs.Range.{Range}
use Rattle.ln_code.specs.declared.op.Triple.{Triple}
use Rattle.ln_code.specs.Engine.{Line}
use Rattle.ln_code.specs.Part.{Code, FilterCode, lines_of}
use Rattle.ln_code.specs.Part.{Part as Program}
use Rattle.ln_order.specs.Orders.{behind, firsts, orders_of}
use Rattle.ln_cert.specs.declared.part.Part.{Part}
use Rattle.ln_cert.specs.declared.part.Part.TheVariants.{Decide, End, Done}
use Rattle.ln_cert.specs.declared.part.State.{State}
use Rattle.ln_cert.specs.declared.part.State.TheVariants.{Top, Opened, InFilter, Planned, InBlock, Blocks, Orders}
use Rattle.ln_cert.specs.Listing.{Predicates}
use Rattle.ln_cert.specs.Written.{block_lines, blocks_lines, filter_line, filter_parts, order_lines, program_lines, range_line}
use Rattle.ln_cert.proofs.Reading.Walk.{goes, is_form, whole}
use Rattle.ln_cert.specs.Reading.{list_rules}
use Rattle.ln_base.proofs.Forms.Walk.{goes_append}

join : (o p q : Option State) (xs ys : List Part) → goes 2 o xs ≡ p → goes 2 p ys ≡ q → goes 2 o (xs ++ ys) ≡ q
join o p q xs ys e f = goes_append (list_rules 2) o xs ys ∙ ap (λ (z : Option State). goes 2 z ys) e ∙ f

filter_ops : (ls : List (Line Triple)) → goes 2 (Some InFilter) (map filter_line ls) ≡ Some InFilter
filter_ops [] = refl
filter_ops (l ∷ ls) = filter_ops ls

a_filter : (f : Option FilterCode) → goes 2 (Some Opened) (filter_parts f) ≡ Some Planned
a_filter None = refl
a_filter (Some f) = join (Some InFilter) (Some InFilter) (Some Planned) (map filter_line (lines_of f.ops f.triples)) (Decide ∷ [])
    (filter_ops (lines_of f.ops f.triples)) refl

range_ops : (ls : List (Line Range)) → goes 2 (Some InBlock) (map range_line ls) ≡ Some InBlock
range_ops [] = refl
range_ops (l ∷ ls) = range_ops ls

in_block : (c : Code) → goes 2 (Some InBlock) (map range_line (lines_of c.ops c.pairs) ++ End ∷ []) ≡ Some Blocks
in_block c = join (Some InBlock) (Some InBlock) (Some Blocks) (map range_line (lines_of c.ops c.pairs)) (End ∷ []) (range_ops (lines_of c.ops c.pairs)) refl

more_blocks : (n : ℕ) (cs : List Code) → goes 2 (Some Blocks) (blocks_lines n cs) ≡ Some Blocks
more_blocks n [] = refl
more_blocks n (c ∷ cs) = join (Some Blocks) (Some Blocks) (Some Blocks) (block_lines n c) (blocks_lines (suc n) cs) (in_block c) (more_blocks (suc n) cs)

all_blocks : (n : ℕ) (cs : List Code) → 0 < length cs → goes 2 (Some Planned) (blocks_lines n cs) ≡ Some Blocks
all_blocks n [] h = absurd (omega arith)
all_blocks n (c ∷ cs) h = join (Some Planned) (Some Blocks) (Some Blocks) (block_lines n c) (blocks_lines (suc n) cs) (in_block c) (more_blocks (suc n) cs)

more_orders : (p : Program) (os : List (List ℕ)) → goes 2 (Some Orders) (order_lines p os) ≡ Some Orders
more_orders p [] = refl
more_orders p (o ∷ os) = more_orders p os

all_orders : (p : Program) (os : List (List ℕ)) → 0 < length os → goes 2 (Some Blocks) (order_lines p os) ≡ Some Orders
all_orders p [] h = absurd (omega arith)
all_orders p (o ∷ os) h = more_orders p os

-- any number of sites has an order
pub some_order : (k : ℕ) → 0 < length (orders_of k)
some_order zero = omega arith
some_order (suc k) =
    let a : length (orders_of (suc k)) ≡ length (firsts k (orders_of k)) + length (map (behind k) (orders_of k)) =
    length-append (firsts k (orders_of k)) (map (behind k) (orders_of k)) in
    let b : length (map (behind k) (orders_of k)) ≡ length (orders_of k) = length-map (orders_of k) (behind k) in
    omega (arith, some_order k)

-- the lines of a program with a block have the form of a predicate of version 2
pub program_form : (p : Program) → 0 < length p.blocks → Predicates 2 (program_lines p)
program_form p h =
    is_form 2 (program_lines p) (inr refl)
    (join (Some Opened) (Some Planned) (Some Top) (filter_parts p.filter)
    (blocks_lines 0 p.blocks ++ (order_lines p (orders_of p.shape.sites) ++ Done ∷ [])) (a_filter p.filter)
    (join (Some Planned) (Some Blocks) (Some Top) (blocks_lines 0 p.blocks) (order_lines p (orders_of p.shape.sites) ++ Done ∷ []) (all_blocks 0 p.blocks h)
    (join (Some Blocks) (Some Orders) (Some Top) (order_lines p (orders_of p.shape.sites)) (Done ∷ [])
    (all_orders p (orders_of p.shape.sites) (some_order p.shape.sites)) refl)))

-- predicates of version 2 after others are predicates of it
pub both_forms : (xs ys : List Part) → Predicates 2 xs → Predicates 2 ys → Predicates 2 (xs ++ ys)
both_forms xs ys p q = is_form 2 (xs ++ ys) (inr refl) (join (Some Top) (Some Top) (Some Top) xs ys (whole 2 p) (whole 2 q))
