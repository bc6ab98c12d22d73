use Rattle.std.proofs.Common.{◌≡◌, ◌∙◌, ◌<◌, ◌+◌, ℕ, suc, Bool, true, false, List, [], ◌∷◌, ◌++◌, append_assoc, add-one, length, drop}
use Rattle.std.proofs.Common.{get_or, drop-cons, sym, Some}
use Rattle.ln_tree.specs.declared.shape.VarInfo.{VarInfo}
use Rattle.ln_tree.specs.Variables.{same_site}
use Rattle.ln_order.specs.Sites.{vars_of}
use Rattle.ln_order.proofs.infinitesimals.put_vars.Goals.{then-same_site+in_ok-push, else-same_site}
use Rattle.ln_order.proofs.infinitesimals.put_vars.Goals as goal

-- the variable here goes to the end where it is of the site
module _ (s v : ℕ) (vars : List VarInfo) (i : VarInfo) (b : Bool) (l : v < length vars) (e : b ≡ same_site (get_or vars v i).site (Some s)) where
  put : (out now all : List ℕ) → b ≡ true → now ≡ out ++ v ∷ [] → out ++ vars_of s (drop v vars) v ≡ all → now ++ vars_of s (drop (v + 1) vars) (v + 1) ≡ all
  put out now all t n inv =
      let q : same_site (get_or vars v i).site (Some s) ≡ true = sym e ∙ t in
      rw (n, add-one v, append_assoc out (v ∷ []) (vars_of s (drop (suc v) vars) (suc v))) (rw (drop-cons vars v i l, q) at inv)

  leave : (out all : List ℕ) → b ≡ false → out ++ vars_of s (drop v vars) v ≡ all → out ++ vars_of s (drop (v + 1) vars) (v + 1) ≡ all
  leave out all t inv =
      let q : same_site (get_or vars v i).site (Some s) ≡ false = sym e ∙ t in
      rw (add-one v) (rw (drop-cons vars v i l, q) at inv)

pub vars-preserved : goal.vars-preserved
vars-preserved c =
    let e = c.same_site.ensures in
    elim c.if-same_site.branch [
      | then-same_site+in_ok-push w ↦ rw w.out-is (put c.args.site c.vars.v c.args.vars.now _ c.same_site.result c.vars-test.true e
          c.vars.out.items w.push.new.self.items _ w.if-same_site.true w.in_ok-push.ensures.items c.vars.invariant)
      | else-same_site w ↦ rw w.out-is
          (leave c.args.site c.vars.v c.args.vars.now _ c.same_site.result c.vars-test.true e c.vars.out.items _ w.if-same_site.false c.vars.invariant)
    ]
