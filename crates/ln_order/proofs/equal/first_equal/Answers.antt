use Rattle.std.proofs.Common.{◌∙◌, sym, arith, pos, Some, None}
use Rattle.ln_order.proofs.Listing.OrderLemmas.{found_here, passed_by, none_behind, first_equal_says}
use Rattle.ln_order.proofs.equal.first_equal.Goals as goal

pub returns-then-is_among-clause-value : goal.returns-then-is_among-clause-value
returns-then-is_among-clause-value c = sym (found_here c.args.indices.now c.places.k (pos 0) (omega arith) (sym c.if-is_among.ensures)) ∙ c.places.invariant

pub returns-then-is_among-clause-first : goal.returns-then-is_among-clause-first
returns-then-is_among-clause-first c = first_equal_says c.args.indices.now (Some c.places.k) (returns-then-is_among-clause-value c)

pub returns-clause-value : goal.returns-clause-value
returns-clause-value c = sym (none_behind c.args.indices.now c.places.k c.places-test.false) ∙ c.places.invariant

pub returns-clause-first : goal.returns-clause-first
returns-clause-first c = first_equal_says c.args.indices.now None (returns-clause-value c)

pub places-preserved : goal.places-preserved
places-preserved c = passed_by c.args.indices.now c.places.k (pos 0) (omega arith) (sym c.if-is_among.ensures) ∙ c.places.invariant
