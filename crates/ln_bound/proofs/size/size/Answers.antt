use Rattle.std.proofs.Common.{length, map, ap, refl}
use Rattle.ln_tree.specs.declared.shape.Shape.{Shape}
use Rattle.ln_tree.proofs.KeptLemmas.{few_vars}
use Rattle.ln_bound.specs.View.{typed}
use Rattle.ln_bound.proofs.Measures.Measuring.{ordered}
use Rattle.ln_bound.proofs.Soundness.KeptLaws.{kept_of, light_kept, room_of, root_fit, root_range}
use Rattle.ln_bound.proofs.size.size.Goals as goal

pub fit_lets-requires-clause-few : goal.fit_lets-requires-clause-few
fit_lets-requires-clause-few c = rw c.as_slice-vars.ensures (few_vars c.args.p.now.shape.sites c.args.p.now.shape.vars c.args.p.now.shape.kept)

pub fit_lets-requires-clause-ordered : goal.fit_lets-requires-clause-ordered
fit_lets-requires-clause-ordered c =
    ordered c.args.p.now.shape.sites c.args.p.now.shape.vars c.as_slice-vars.result.now c.args.p.now.shape.kept c.as_slice-vars.ensures

pub fit_lets-requires-clause-small : goal.fit_lets-requires-clause-small
fit_lets-requires-clause-small c =
    let r = room_of c.args.p.now.shape.vars c.args.p.now.lets c.args.p.now.root c.requires in
    rw (c.as_slice-vars.ensures, c.as_slice.ensures) r.lets_ranges

pub fit-requires-clause-few : goal.fit-requires-clause-few
fit-requires-clause-few c = rw c.as_slice-vars.ensures (few_vars c.args.p.now.shape.sites c.args.p.now.shape.vars c.args.p.now.shape.kept)

pub fit-requires-clause-ordered : goal.fit-requires-clause-ordered
fit-requires-clause-ordered c =
    ordered c.args.p.now.shape.sites c.args.p.now.shape.vars c.as_slice-vars.result.now c.args.p.now.shape.kept c.as_slice-vars.ensures

pub fit-requires-clause-fit : goal.fit-requires-clause-fit
fit-requires-clause-fit c =
    let p = c.args.p.now in
    let trees = rw (c.as_slice-vars.ensures, c.as_slice.ensures) at c.in_ok-lets.ensures.trees in
    rw (c.as_slice-vars.ensures, c.as_slice-2.ensures) (root_fit p.args p.shape.vars p.lets (length p.let_names) p.root c.in_ok-lets.lets p.kept trees)

pub fit-requires-clause-small : goal.fit-requires-clause-small
fit-requires-clause-small c =
    let p = c.args.p.now in
    let trees = rw (c.as_slice-vars.ensures, c.as_slice.ensures) at c.in_ok-lets.ensures.trees in
    let exact = rw c.as_slice-vars.ensures at c.in_ok-lets.ensures.exact in
    let r = room_of p.shape.vars p.lets p.root c.requires in
    rw (c.as_slice-vars.ensures, c.as_slice-2.ensures) (root_range p.shape.vars p.lets p.root (map typed c.in_ok-lets.lets) r trees exact)

pub invariant_of-result : goal.invariant_of-result
invariant_of-result c =
    let p = c.args.p.now in
    let trees = rw (c.as_slice-vars.ensures, c.as_slice.ensures) at c.in_ok-lets.ensures.trees in
    let exact = rw c.as_slice-vars.ensures at c.in_ok-lets.ensures.exact in
    let tree = rw c.as_slice-vars.ensures at c.in_ok-root.ensures.tree in
    let exact_root = rw (c.as_slice-vars.ensures, c.as_slice-2.ensures) at c.in_ok-root.ensures.exact in
    let o = ordered p.shape.sites p.shape.vars p.shape.vars p.shape.kept refl in
    let k = light_kept p.args p.shape.vars p.lets (length p.let_names) p.root (map typed c.in_ok-lets.lets)
    (typed c.in_ok-root.root) o p.kept c.requires trees tree exact exact_root in
    let s = kept_of p.shape.vars c.in_ok-shape.shape.vars c.in_ok-lets.lets (typed c.in_ok-root.root) (ap (λ (s : Shape). s.vars) c.in_ok-shape.ensures) k in
    record { few = s.0; sound_lets = s.1.sound_lets; sound_root = s.1.sound_root; cheap = s.1.cheap }
