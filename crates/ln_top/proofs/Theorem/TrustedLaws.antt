-- Proves what `valid` means: on each row in range the machine of a valid listing returns the perturbed sign of the predicate.
use Rattle.std.proofs.Common.{◌≡◌, ℕ, suc, List, [], ◌∷◌, length, map, Option, Some, ap, arith, refl, sym, ◌∙◌, subst}
use Rattle.std.specs.Prelude.{slice_get}
use Rattle.std.proofs.lemmas.Option.{same_Some}
use Rattle.ln_base.specs.Outside.{Shown}
use Rattle.ln_watch.specs.Panel.{State}
use Rattle.ln_tree.specs.declared.pred.Pred.{Pred}
use Rattle.ln_tree.specs.Row.{InRange, Row}
use Rattle.ln_tree.specs.Table.{PredOf, TableOf, pred_of}
use Rattle.ln_compile.specs.Accepted.{AreSound, IsSound, root_of}
use Rattle.ln_cert.specs.Listing.{Listed}
use Rattle.ln_verify.specs.AsPart.{GivesSign, part_of}
use Rattle.ln_verify.specs.Line.{Subject, Written}
use Rattle.ln_verify.specs.Verified.{AreSubjectsOf, IsValidFor}
use Rattle.ln_verify.proofs.Validity.Tells.{signs-told}
use Rattle.ln_top.specs.declared.frame.status.Status.{Status}
use Rattle.ln_top.specs.declared.frame.status.Status.TheVariants.{Done}
use Rattle.ln_top.specs.Frame.Given.{Given}
use Rattle.ln_top.specs.declared.words.Command.TheVariants.{Verify}
use Rattle.ln_top.specs.Causes.{IsSettled}
use Rattle.ln_top.specs.Frame.Said.{Said, end_status}
use Rattle.ln_top.specs.Judges.Verify.{HasValid, VerifySaid, valid, invalid}
use Rattle.ln_top.specs.Listed.{GivesPerturbedSign, PartsGiveSigns}
use Rattle.ln_top.specs.Trusted.{TellsSigns}
use Rattle.ln_top.proofs.TextsLemmas.EmitLaws.{AreNamed}
use Rattle.ln_top.proofs.Theorem.EmittedLaws.{names_given}
use Rattle.ln_top.proofs.Theorem.HeadlineLaws.{never_zero}
use Rattle.ln_top.proofs.FrameLemmas.Grounded.{IsGrounded}
use Rattle.ln_top.proofs.Steps.Grounded.{IsFine}
use Rattle.ln_top.proofs.Steps.TopLaws.{Worked, settled_done}

-- ---- the parts of a valid listing
-- the machine of a part on a row returns the perturbed sign
row_told : (p : Pred) (w : Written) (row : Row) → IsSound (pred_of p) → InRange p.shape.sites p.shape.vars row
    → GivesSign p.shape (root_of (pred_of p)) w row → GivesPerturbedSign (pred_of p) (part_of p.shape w) row
row_told p w row sound range h = record {
  verdict = h.verdict;
  answers = h.answers;
  perturbed = h.sign;
  never_zero = λ v m all. never_zero p row range sound all v.sign (h.sign v m);
}

-- the part with the number of its predicate
abbrev HasPart : List Written → ℕ → Pred → Row → Type 0
HasPart ws k p row = (w : Written) × (slice_get ws k ≡ Some w) × GivesSign p.shape (root_of (pred_of p)) w row

same_part : (p : Pred) (row : Row) (w : Written) (ws : List Written) → HasPart (w ∷ ws) 0 p row → GivesSign p.shape (root_of (pred_of p)) w row
same_part p row w ws h =
    let e : h.0 ≡ w = sym (same_Some w h.0 h.1) in
    subst (λ (x : Written). GivesSign p.shape (root_of (pred_of p)) x row) e h.2

parts_told : (ps : List Pred) (ws : List Written) → AreSound (map pred_of ps) → AreNamed (map pred_of ps) → length ws ≡ length (map pred_of ps)
    → ((k : ℕ) (p : Pred) (row : Row) → slice_get ps k ≡ Some p → InRange p.shape.sites p.shape.vars row → HasPart ws k p row)
    → PartsGiveSigns (map pred_of ps) ws
parts_told [] [] s n l h = tt
parts_told [] (w ∷ ws) s n l h = absurd (omega (arith, l))
parts_told (p ∷ ps) [] s n l h = absurd (omega (arith, l))
parts_told (p ∷ ps) (w ∷ ws) s n l h = (
  record {
    shape = p.shape;
    name = n.0;
    sites = refl;
    vars = refl;
    rows = λ row range. row_told p w row s.0 range (same_part p row w ws (h 0 p row refl range));
  },
  parts_told ps ws s.1 n.1 (omega (arith, l)) (λ k q row e r. h (suc k) q row e r),
)

-- there is one for each predicate
as_many : (ps : List PredOf) (ss : List Subject) → AreSubjectsOf ps ss → length ss ≡ length ps
as_many [] [] h = refl
as_many [] (s ∷ ss) h = absurd h
as_many (p ∷ ps) [] h = absurd h
as_many (p ∷ ps) (s ∷ ss) h = ap suc (as_many ps ss h.1)

all_told : (ps : List Pred) (table : List PredOf) → map pred_of ps ≡ table → AreSound table → AreNamed table → (l : Listed)
    → (h : IsValidFor table l) → PartsGiveSigns table h.valid.parts
all_told ps table e =
    subst (λ (t : List PredOf). AreSound t → AreNamed t → (l : Listed) → (h : IsValidFor t l) → PartsGiveSigns t h.valid.parts) e
    (λ s n l h. parts_told ps h.valid.parts s n (h.valid.all ∙ as_many (map pred_of ps) h.subjects h.those)
    (λ k p row q r. signs-told ps l s h k p row q r))

-- a listing that is valid has the signs
told_signs : (g : Given) → IsGrounded g → AreNamed g.table.preds → HasValid g → TellsSigns g
told_signs g i n h = record {
  listing = h.listing;
  listed = h.listed;
  valid = h.valid;
  signs = all_told i.table.preds g.table.preds (ap (λ (t : TableOf). t.preds) i.is) i.sound n h.listing h.valid;
}

-- where it ends well, the listing is valid
valid_there : (g : Given) (a : Said) → VerifySaid g a → end_status a.end ≡ Done → HasValid g
valid_there g a (valid h) e = h
valid_there g a (invalid n h) e = cc

-- so `valid` means the signs
pub trusted : {boxes : List State} {result : Status} {was now : Option Shown} (g : Given) → IsFine Verify g
    → (IsSettled result → Worked Verify boxes g result was now) → result ≡ Done → TellsSigns g
trusted g i w e =
    let a = w (settled_done _ e) in
    told_signs g i.grounded (names_given g i.grounded) (valid_there g a.said a.owed (sym a.status ∙ e))
