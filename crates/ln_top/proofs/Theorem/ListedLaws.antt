-- The listing that was written has the perturbed signs, and is valid.
use Rattle.std.proofs.Common.{◌≡◌, ℕ, List, [], ◌∷◌, length, map, Option, ap, refl, sym, ◌∙◌, subst}
use Rattle.std.specs.Prelude.{codes}
use Rattle.std.specs.List.{AllZip}
use Rattle.ln_base.specs.Outside.{Shown}
use Rattle.ln_algebra.specs.Orders.{BySmallest}
use Rattle.ln_watch.specs.Panel.{State}
use Rattle.ln_tree.specs.declared.pred.Pred.{Pred}
use Rattle.ln_tree.specs.Row.{InRange, Row}
use Rattle.ln_tree.specs.Table.{PredOf, TableOf, pred_of}
use Rattle.ln_code.specs.declared.verdict.Verdict.{Verdict}
use Rattle.ln_code.specs.Part.{Part}
use Rattle.ln_code.specs.Verdict.{IsVerdict}
use Rattle.ln_due.specs.Due.{sign_number}
use Rattle.ln_due.proofs.Verdicts.UniqueLemmas.{due-sign}
use Rattle.ln_algebra.specs.Sign.{IsPerturbedSign}
use Rattle.ln_compile.specs.Accepted.{AreSound, IsSound, root_of}
use Rattle.ln_bound.specs.Value.{values}
use Rattle.ln_order.specs.Sites.{row_sites}
use Rattle.ln_verify.specs.Line.{Written}
use Rattle.ln_verify.specs.Verified.{IsValidFor}
use Rattle.ln_top.specs.declared.frame.status.Status.{Status}
use Rattle.ln_top.specs.declared.frame.status.End.TheVariants.{Done}
use Rattle.ln_top.specs.Frame.Said.{Said, line, put_both, whole}
use Rattle.ln_top.specs.Frame.Given.{Given}
use Rattle.ln_top.specs.declared.words.Command.TheVariants as command
use Rattle.ln_top.specs.Texts.Text.{prints}
use Rattle.ln_top.specs.Texts.Listing.{AnswersDue, IsListingOf, ListSaid, PartIsDue}
use Rattle.ln_top.specs.Listed.{GivesFilteredSign, PartGives, PutListing}
use Rattle.ln_top.specs.Judges.Verify as v
use Rattle.ln_top.proofs.TextsLemmas.EmitLaws.{AreNamed}
use Rattle.ln_top.proofs.Theorem.ByValueLaws.{by_value}
use Rattle.ln_top.proofs.Theorem.EmittedLaws.{by_filter, names_given}
use Rattle.ln_top.proofs.Theorem.HeadlineLaws.{never_zero}
use Rattle.ln_top.proofs.Steps.TopLaws.{Worked}
use Rattle.ln_top.proofs.FrameLemmas.Grounded.{IsGrounded}
use Rattle.ln_top.proofs.Steps.Grounded.{IsFine}

-- the machine of a part on a row returns the perturbed sign
row_signed : (p : Pred) (part : Part) (row : Row) → IsSound (pred_of p) → InRange p.shape.sites p.shape.vars row
    → AnswersDue (pred_of p) part row → GivesFilteredSign (pred_of p) part row
row_signed p part row sound range d = record {
  signed =
      record {
        verdict = d.verdict;
        answers = d.answers;
        perturbed = sign;
        never_zero = λ x m all. never_zero p row range sound all x.sign (sign x m);
      };
  narrow = λ h x m. let o = d.due x m in d.narrow x m (by_filter (pred_of p) row o.filtering x o.does o.due h);
  plain = λ z x m. by_value BySmallest p.shape (pred_of p) row x refl refl range z (d.due x m);
}
  where
    sign : (x : Verdict) → IsVerdict part row x
        → IsPerturbedSign (length p.shape.vars) (row_sites p.shape.vars row.index) (values row.values) (root_of (pred_of p))
        (sign_number x.sign)
    sign x m = let o = d.due x m in due-sign BySmallest p.shape.vars (root_of (pred_of p)) row o.filtering x o.due

part_signed : (p : Pred) (w : Written) → IsSound (pred_of p) → (let q : PredOf = pred_of p in q.shape_name ≡ q.name)
    → PartIsDue (pred_of p) w → PartGives GivesFilteredSign (pred_of p) w
part_signed p w sound named d = record {
  shape = d.shape;
  name = d.name ∙ named;
  sites = d.sites;
  vars = d.vars;
  rows = λ row range. row_signed p _ row sound range (d.rows row range);
}

all_signed : (ps : List Pred) (ws : List Written) → AreSound (map pred_of ps) → AreNamed (map pred_of ps)
    → AllZip PartIsDue (map pred_of ps) ws → AllZip (PartGives GivesFilteredSign) (map pred_of ps) ws
all_signed [] [] s n d = tt
all_signed [] (w ∷ ws) s n d = absurd d
all_signed (p ∷ ps) [] s n d = absurd d
all_signed (p ∷ ps) (w ∷ ws) s n d = (part_signed p w s.0 n.0 d.0, all_signed ps ws s.1 n.1 d.1)

-- a file of a valid listing's text requires `valid`
verified : (g : Given) (text : List ℕ) (c : IsListingOf g.table.preds text) (h : Given) → h.table ≡ g.table
    → h.texts ≡ text ∷ [] → v.VerifySaid h (whole Done (line (codes "valid")))
verified g text c h e f =
    v.valid (record {
      listing = c.listing;
      listed = record { bytes = text; file = f; text = c.text };
      valid = subst (λ (ps : List PredOf). IsValidFor ps c.listing) (sym (ap (λ (t : TableOf). t.preds) e)) c.valid;
    })

-- what is required for a source's predicates
put_listing : (g : Given) (a : Said) (was now : Option Shown) → IsGrounded g → AreNamed g.table.preds → ListSaid g a
    → now ≡ put_both a.out a.err was → PutListing g was now
put_listing g a was now i n (prints text c) q =
    let preds : map pred_of i.table.preds ≡ g.table.preds = ap (λ (t : TableOf). t.preds) i.is in
    record {
      bytes = text;
      listing = c.listing;
      text = c.text;
      valid = c.valid;
      signs = subst (λ (ps : List PredOf). AllZip (PartGives GivesFilteredSign) ps c.valid.valid.parts) preds
          (all_signed i.table.preds c.valid.valid.parts (rw preds i.sound) (rw preds n) (rw preds c.due));
      verified = verified g text c;
      shown = q;
    }

-- what `list` says has the perturbed signs
pub listed : {boxes : List State} {result : Status} {was now : Option Shown} (g : Given) → IsFine command.List g
    → Worked command.List boxes g result was now → PutListing g was now
listed g i w = put_listing g w.said _ _ i.grounded (names_given g i.grounded) w.owed w.shown
