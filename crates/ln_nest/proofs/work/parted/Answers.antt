use Rattle.std.proofs.Common.{◌≡◌, ◌∙◌, sym, true, false}
use Rattle.ln_nest.specs.Nested.{is_positive, exponent_of}
use Rattle.ln_nest.proofs.Terms.Vectors.{with_step, with_same, without_step, without_same}
use Rattle.ln_nest.proofs.work.parted.Goals as goal

pub loop-term-preserved-in-Continue-1 : goal.loop-term-preserved-in-Continue-1
loop-term-preserved-in-Continue-1 c =
    let e : is_positive (exponent_of c.args.v c.in-Some.term.exponents.items) ≡ true = sym c.has.ensures ∙ c.if-has.true in
    let j = c.loop-term.invariant in
    let k = c.lower.ensures in
    record {
      with_it = with_step c.args.e c.args.v c.loop-term.with.items c.push.new.self.items c.lower.new.term c.loop-term.yielded c.in-Some.term
          c.in_ok-push.ensures.items k.exponents k.factor j.with_it e;
      without_it = without_same c.args.v c.loop-term.without.items c.loop-term.yielded c.in-Some.term j.without_it e;
    }

pub loop-term-preserved : goal.loop-term-preserved
loop-term-preserved c =
    let e : is_positive (exponent_of c.args.v c.in-Some.term.exponents.items) ≡ false = sym c.has.ensures ∙ c.if-has.false in
    let j = c.loop-term.invariant in
    record {
      with_it = with_same c.args.e c.args.v c.loop-term.with.items c.loop-term.yielded c.in-Some.term j.with_it e;
      without_it = without_step c.args.v c.loop-term.without.items c.push-else-has.new.self.items c.loop-term.yielded c.in-Some.term
          c.in_ok-push-2.ensures.items j.without_it e;
    }
