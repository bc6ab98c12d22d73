use Rattle.std.proofs.Common.{◌≡◌, arith, sym, ap, ◌∙◌, map}
use Rattle.std.specs.Option.{is_some}
use Rattle.std.proofs.lemmas.List.{length-map}
use Rattle.indexmap.specs.IndexMap.{insert_entry, keys}
use Rattle.ln_tree.specs.Exps.{same_pairs}
use Rattle.ln_stage.proofs.Results.TallyLemmas.{at-most-one, keys-insert, number-within, numbered-known, numbered-new, over-new}
use Rattle.ln_stage.proofs.tally.Tally.number.Goals as goal

pub returns-in-Some-clause-blocks : goal.returns-in-Some-clause-blocks
returns-in-Some-clause-blocks c = numbered-known _ _ c.args.cover c.args.a c.in-Some.i c.self.view_is (sym c.in-Some.ensures.index)

pub returns-then-cover-self-clause-err : goal.returns-then-cover-self-clause-err
returns-then-cover-self-clause-err c = over-new _ _ c.args.cover c.args.a c.self.view_is (sym c.get_index_of.ensures.index ∙ c.in_default.is)
    (let w = c.self.invariant.weighed in omega (arith, w, c.if-cover-self.true))

pub returns-clause-blocks : goal.returns-clause-blocks
returns-clause-blocks c =
    let es = c.self.inside.blocks.entries in
    let k : c.insert_full.new.self.entries ≡ insert_entry same_pairs es c.args.a tt = c.in_ok-i.ensures.entries in
    numbered-new _ _ c.args.cover c.args.a (map (λ e. e.0) c.insert_full.new.self.entries) c.self.view_is
    (ap (λ z. map (λ e. e.0) z) k ∙ keys-insert es c.args.a tt) (sym c.get_index_of.ensures.index ∙ c.in_default.is)

pub overflow_cast-result : goal.overflow_cast-result
overflow_cast-result c =
    let w = c.self.invariant in
    omega (arith, c.in-Some.ensures.within, length-map c.self.inside.blocks.entries (λ e. e.0), w.few, w.weighed, w.light)

pub overflow_cast-result-2 : goal.overflow_cast-result-2
overflow_cast-result-2 c =
    let w = c.self.invariant in
    omega (arith, c.in_ok-i.ensures.index, number-within (keys c.self.inside.blocks) c.args.a, w.few, w.light, c.if-cover-self.false, c.requires)

pub invariant_of-self-2 : goal.invariant_of-self-2
invariant_of-self-2 c =
    let w = c.self.invariant in
    record {
      counted = w.counted;
      weighed = omega (arith, w.weighed, c.if-cover-self.false);
      light = w.light;
      few = omega (
        arith,
        w.few,
        c.in_ok-i.ensures.len,
        at-most-one (is_some c.in_ok-i.field-0-1),
        c.requires,
        length-map c.self.inside.blocks.entries (λ e. e.0),
        length-map c.insert_full.new.self.entries (λ e. e.0),
      );
    }
