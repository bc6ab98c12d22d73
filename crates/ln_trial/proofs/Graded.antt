-- The program of an accepted predicate begins one by total degree.
use Rattle.std.proofs.Common.{◌≡◌, length, ap, refl, sym, subst, ◌∙◌}
use Rattle.std.proofs.lemmas.Option.{get_or_from_slice_get, slice_get_within}
use Rattle.ln_tree.specs.declared.shape.VarInfo.{VarInfo}
use Rattle.std.specs.Prelude.{IfSome, List}
use Rattle.ln_tree.specs.Table.{pred_of}
use Rattle.ln_poly.specs.OfPred.{root_of}
use Rattle.ln_poly.specs.Sparse.{Sparse, terms_of}
use Rattle.ln_stage.specs.Accepted.{AcceptedOf, IsAcceptedPred}
use Rattle.ln_stage.proofs.Accepting.{is-some, light-whole}
use Rattle.ln_stage.proofs.Results.SamePoly.{one-normal}
use Rattle.ln_code.specs.Carried.{CarriesDerivative, CarriesWhole}
use Rattle.ln_code.specs.Part.{Part}
use Rattle.ln_compile.specs.Compiled.{IsProgramOf}
use Rattle.ln_graded.specs.Graded.{Begins, IsGradable}

module _ (a : AcceptedOf) (k : IsAcceptedPred a) (q : Part) (m : IsProgramOf (pred_of a.pred) q) where
  -- its polynomial is one that a program by total degree can be made of, over the program's variables
  pub gradable : IsGradable q.shape.vars a.poly
  gradable =
      let e = k.expanded in
      subst (λ (vars : List VarInfo). IsGradable vars a.poly) (sym m.vars) (record {
        form = e.normal.form;
        some = is-some (pred_of a.pred) a.poly e.sound e.normal;
        below = e.normal.below;
        few = e.terms;
        degrees = e.degrees;
        weight = light-whole (pred_of a.pred) a.poly e.sound e.normal;
      })

  -- the terms that it carries are those of the polynomial
  terms-same : terms_of (length a.pred.shape.vars) m.poly ≡ terms_of (length q.shape.vars) a.poly
  terms-same =
      let one : m.poly ≡ a.poly = one-normal (length a.pred.shape.vars) (root_of (pred_of a.pred)) m.poly a.poly m.normal k.expanded.normal in
      ap (λ (f : Sparse). terms_of (length a.pred.shape.vars) f) one ∙ ap (λ (vars : List VarInfo). terms_of (length vars) a.poly) (sym m.vars)

  -- and the program begins it
  pub begins : Begins q.shape a.poly q
  begins =
      let b = m.begins in
      record {
        shape = refl;
        own = b.block;
        first = b.first;
        plain = b.own.plain;
        carries = subst (λ ts. CarriesDerivative q.shape.vars ts b.block) terms-same
            (subst (CarriesDerivative q.shape.vars (terms_of (length a.pred.shape.vars) m.poly)) (get_or_from_slice_get q.blocks 0 b.block b.block b.first)
            (m.carries.blocks 0 b.block (slice_get_within q.blocks 0 b.block b.first)));
        whole = subst (λ ts. IfSome q.filter (CarriesWhole q.shape.vars ts)) terms-same m.carries.filter;
        small = m.small;
        short = b.short;
      }
