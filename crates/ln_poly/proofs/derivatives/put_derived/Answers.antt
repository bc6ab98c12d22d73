use Rattle.std.proofs.Common.{◌≡◌, ◌-◌, ◌∙◌, FitsSigned, ap, arith, get_or, refl, rules}
use Rattle.std.proofs.lemmas.Int.{to_z-of_z}
use Rattle.std.proofs.lemmas.Result.{on_ok_weaker}
use mir.Syntax.{w128}
use Rattle.ln_tree.specs.Exps.{exponent}
use Rattle.ln_algebra.specs.Terms.{binomial}
use Rattle.ln_poly.proofs.Derivations.Lowering.{binomial-small}
use Rattle.ln_poly.proofs.derivatives.put_derived.Goals as goal

pub push_times-requires-clause-times : goal.push_times-requires-clause-times
push_times-requires-clause-times c =
    let e : c.exponent_of-e.result ≡ exponent c.args.v c.args.t.now.0 = c.exponent_of-e.ensures.value ∙ ap (exponent c.args.v) c.pairs.ensures.value in
    let b : get_or c.args.column.now (exponent c.args.v c.args.t.now.0 - c.args.n) 0 ≡ binomial (exponent c.args.v c.args.t.now.0) c.args.n =
    c.requires.column (omega (arith, c.if-e-n.false, e)) in
    rw (c.from.ensures, e) (omega (arith, b, binomial-small (exponent c.args.v c.args.t.now.0) c.args.n (omega (arith, c.exponent_of-e.ensures.small, e))))

pub push_times-requires-clause-room : goal.push_times-requires-clause-room
push_times-requires-clause-room c =
    let e : c.exponent_of-e.result ≡ exponent c.args.v c.args.t.now.0 = c.exponent_of-e.ensures.value ∙ ap (exponent c.args.v) c.pairs.ensures.value in
    let b : get_or c.args.column.now (exponent c.args.v c.args.t.now.0 - c.args.n) 0 ≡ binomial (exponent c.args.v c.args.t.now.0) c.args.n =
    c.requires.column (omega (arith, c.if-e-n.false, e)) in
    let f : FitsSigned w128 c.args.t.now.1 = search rules in
    rw (to_z-of_z w128 c.args.t.now.1 f, c.from.ensures, e, b) (c.requires.room (omega (arith, c.if-e-n.false, e)))

pub lowered-requires : goal.lowered-requires
lowered-requires c =
    let e : c.exponent_of-e.result ≡ exponent c.args.v c.args.t.now.0 = c.exponent_of-e.ensures.value ∙ ap (exponent c.args.v) c.pairs.ensures.value in
    omega (arith, c.if-e-n.false, e)

pub returns-then-e-n : goal.returns-then-e-n
returns-then-e-n c =
    let e : c.exponent_of-e.result ≡ exponent c.args.v c.args.t.now.0 = c.exponent_of-e.ensures.value ∙ ap (exponent c.args.v) c.pairs.ensures.value in
    record { none = λ h. refl; some = λ h. absurd (omega (arith, h, e, c.if-e-n.true)) }

pub returns : goal.returns
returns c =
    let e : c.exponent_of-e.result ≡ exponent c.args.v c.args.t.now.0 = c.exponent_of-e.ensures.value ∙ ap (exponent c.args.v) c.pairs.ensures.value in
    let b : get_or c.args.column.now (exponent c.args.v c.args.t.now.0 - c.args.n) 0 ≡ binomial (exponent c.args.v c.args.t.now.0) c.args.n =
    c.requires.column (omega (arith, c.if-e-n.false, e)) in
    let f : FitsSigned w128 c.args.t.now.1 = search rules in
    let put = rw (to_z-of_z w128 c.args.t.now.1 f, c.from.ensures, e, b) at c.push_times.ensures in
    record {
      none = on_ok_weaker c.push_times.result (λ _ h. absurd (omega (arith, h, e, c.if-e-n.false))) put;
      some = on_ok_weaker c.push_times.result (λ p h. record { exps = c.in_ok-exps.exps; put = p; lowered = c.in_ok-exps.ensures }) put;
    }
