use Rattle.std.proofs.Common.{length, arith, refl}
use Rattle.ln_tree.proofs.KeptLemmas.{few_vars}
use Rattle.ln_bound.proofs.Measures.Measuring.{ordered}
use Rattle.ln_bound.specs.View.{typed}
use Rattle.ln_nest.proofs.Forms.Whole.{whole_some, whole_weight, whole_has, whole_same, whole_sound, whole_lean, whole_cheap}
use Rattle.ln_nest.proofs.horner.nest.Goals as goal

pub by_squares-requires-clause-few : goal.by_squares-requires-clause-few
by_squares-requires-clause-few c = rw c.as_slice-vars.ensures (few_vars c.args.s.now.sites c.args.s.now.vars c.args.s.now.kept)

pub by_squares-requires-clause-ordered : goal.by_squares-requires-clause-ordered
by_squares-requires-clause-ordered c = ordered c.args.s.now.sites c.args.s.now.vars c.as_slice-vars.result.now c.args.s.now.kept c.as_slice-vars.ensures

pub by_squares-requires-clause-weight : goal.by_squares-requires-clause-weight
by_squares-requires-clause-weight c = whole_weight c.as_slice-vars.result.now c.args.s.now.vars c.terms.result.now c.args.f.now
    c.in_ok-terms.terms.items c.as_slice-vars.ensures c.terms.ensures.value c.in_ok-terms.ensures c.requires.small

pub by_squares-requires-clause-some : goal.by_squares-requires-clause-some
by_squares-requires-clause-some c = whole_some c.as_slice-vars.result.now c.terms.result.now c.args.f.now c.in_ok-terms.terms.items
    c.terms.ensures.value c.in_ok-terms.ensures c.terms.ensures.form

pub returns : goal.returns
returns c =
    let vars = c.args.s.now.vars in
    let t = typed c.in_ok-t.t in
    let h = whole_has c.as_slice-vars.result.now vars c.terms.result.now c.args.f.now c.in_ok-terms.terms.items t c.as_slice-vars.ensures
    c.terms.ensures.value c.in_ok-terms.ensures c.in_ok-t.ensures in
    let s = whole_sound vars c.args.f.now t _ (few_vars c.args.s.now.sites vars c.args.s.now.kept)
    (ordered c.args.s.now.sites vars vars c.args.s.now.kept refl) c.terms.ensures.form c.requires.degrees c.requires.small h in
    record {
      same = whole_same 126 (length vars) c.args.f.now c.terms.ensures.form c.requires.degrees t h.same;
      form = h.same;
      sound = s.0;
      exact = h.exact;
      within = s.1;
      lean = whole_lean 126 (length vars) c.args.f.now c.terms.ensures.form c.requires.degrees t h.same;
      cheap = whole_cheap 126 (length vars) c.args.f.now t (omega arith) c.requires.degrees h.same;
    }
