-- Commands of a source file alone: what they require is carried out by a whole text, and where it ends.
use Rattle.std.proofs.Common.{◌≡◌, ℕ, List, map, refl, ap, sym, subst, Option}
use Rattle.std.specs.Prelude.{Result}
use Rattle.ln_base.specs.Outside.{Shown}
use Rattle.ln_tree.specs.Table.{PredOf, pred_of}
use Rattle.ln_top.specs.declared.frame.status.End.{End}
use Rattle.ln_top.specs.declared.frame.status.End.TheVariants.{Done}
use Rattle.ln_top.specs.declared.frame.status.Early.{Early}
use Rattle.ln_top.specs.declared.frame.ready.Ready.{Ready}
use Rattle.ln_top.specs.Frame.Said.{Said, Count, whole}
use Rattle.ln_top.specs.Frame.Given.{Given}
use Rattle.ln_top.specs.Frame.Work as kind_of
use Rattle.ln_top.specs.Frame.Work.{IsWorkEnd}
use Rattle.ln_top.specs.Frame.Carried.{CarriesOut, NoPart, PutsText}
use Rattle.ln_top.specs.Frame.Ready.{StandsFor}
use Rattle.ln_top.specs.declared.frame.asked.Asked.TheVariants.{Nothing}
use Rattle.ln_top.specs.Texts.Text.{IsDone, Prints, done, prints, text_work}
use Rattle.ln_top.proofs.FrameLemmas.Carry.{text_carried}
use Rattle.ln_top.proofs.FrameLemmas.Grounded.{IsGrounded}
use Rattle.ln_top.proofs.FrameLemmas.Laws.{IsLawful, shape_objects}

module _ (holds : List PredOf → List ℕ → Type 0) where
  -- what holds for the predicates in memory was written as a whole text
  pub carried : (r : Ready) (g : Given) (text : List ℕ) (puts : Count) (result : Result End Early) (was now : Option Shown)
      → StandsFor r g → holds (map pred_of r.compiled.table.preds) text → PutsText text Done puts result was now
      → CarriesOut (Prints (holds g.table.preds)) NoPart ⊥ ⊥ puts result was now
  carried r g text puts result was now s h p =
      text_carried (Prints (holds g.table.preds)) NoPart ⊥ ⊥ puts Done text result was now
      (prints text (subst (λ t. holds t text) (sym (ap (λ t. t.preds) s.table)) h)) p

  tells : {ps : List PredOf} {a : Said} → Prints (holds ps) a → IsDone a.end
  tells (prints text h) = done

  single : {a b : End} → IsDone a → IsDone b → a ≡ b
  single done done = refl

  kind : {e : End} → IsDone e → IsWorkEnd e
  kind done = kind_of.done

  said : {ps : List PredOf} {a b : Said} → ((x y : List ℕ) → holds ps x → holds ps y → x ≡ y) → Prints (holds ps) a
      → Prints (holds ps) b → a ≡ b
  said f (prints x h) (prints y k) = ap (whole Done) (f x y h k)

  -- the laws of a work hold for such a command, whose text is one where it says one thing
  pub lawful : (one : Type 0) → (one → (g : Given) → IsGrounded g → (x y : List ℕ) → holds g.table.preds x → holds g.table.preds y → x ≡ y)
      → IsLawful Nothing (text_work holds one)
  lawful one f = record {
    tells = λ boxes g a h. tells h;
    single = λ g a b h k. single h k;
    kind = λ g e h. kind h;
    objects = shape_objects;
    said = λ v boxes g i q a b h k. said (f v g i) h k;
  }
