use Rattle.std.proofs.Common.{FitsSigned, ◌≡◌, true, false, length, rules}
use mir.Syntax.{w128}
use Rattle.ln_algebra.specs.Terms.{derived, value}
use Rattle.ln_tree.specs.Exps.{vector}
use Rattle.ln_tree.specs.Row.{values}
use Rattle.ln_poly.specs.Sparse.{terms_of}
use Rattle.ln_trace.proofs.Premises.{is-next, not-next, other-value}
use Rattle.ln_trace.proofs.at_line.is_next_at.Goals as goal

pub returns-then-not-may_be_next : goal.returns-then-not-may_be_next
returns-then-not-may_be_next c =
    let f : c.may_be_next.result ≡ false = search rules in
    let fz : FitsSigned w128 c.args.z = search rules in
    λ e stood r same range ord differ below normal over last left.
    not-next c.args.grounds.now.pred.now.shape r _ range ord e stood c.args.row.now _ c.args.z c.may_be_next.result f
    (c.may_be_next.ensures e stood differ last left)

pub returns-then-value-z : goal.returns-then-value-z
returns-then-value-z c =
    let d : c.value_at-value.result ≡ c.args.z → ⊥ = search rules in
    let v : c.value_at-value.result ≡ value (values c.args.row.now) (derived (vector (length c.args.grounds.now.pred.now.shape.vars) c.args.a.now)
    (terms_of (length c.args.grounds.now.pred.now.shape.vars) c.args.grounds.now.poly.now)) = rw c.pairs.ensures.value at c.value_at-value.ensures in
    λ e stood r same range ord differ below normal over last left.
    other-value c.args.grounds.now.pred.now.shape r _ range ord e stood c.args.row.now _ _ c.value_at-value.result c.args.z below normal over v d

pub returns : goal.returns
returns c =
    let d : c.value_at-value.result ≡ c.args.z = search rules in
    let t : c.may_be_next.result ≡ true = search rules in
    let v : c.value_at-value.result ≡ value (values c.args.row.now) (derived (vector (length c.args.grounds.now.pred.now.shape.vars) c.args.a.now)
    (terms_of (length c.args.grounds.now.pred.now.shape.vars) c.args.grounds.now.poly.now)) = rw c.pairs.ensures.value at c.value_at-value.ensures in
    λ e stood r same range ord differ below normal over last left.
    is-next c.args.grounds.now.pred.now.shape r _ range ord e stood c.args.row.now _ _ c.value_at-value.result c.args.z c.may_be_next.result below normal over
    v d t (c.may_be_next.ensures e stood differ last left)
