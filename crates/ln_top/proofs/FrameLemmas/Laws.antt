-- The laws that the proofs of the top call rest on, of each command.
use Rattle.std.proofs.Common.{◌≡◌, ◌∙◌, ℕ, List, ap, subst, sym}
use Rattle.ln_watch.specs.Panel.{State}
use Rattle.ln_tree.specs.Table.{PredOf}
use Rattle.ln_top.specs.declared.frame.status.End.{End}
use Rattle.ln_top.specs.declared.frame.status.End.TheVariants as end
use Rattle.ln_top.specs.Frame.Said.{Said}
use Rattle.ln_top.specs.Frame.Stop.{why_end}
use Rattle.ln_top.specs.declared.frame.asked.Asked.{Asked}
use Rattle.ln_top.specs.Frame.Signature.{AreAsked, objects}
use Rattle.ln_top.specs.Frame.Given.{Given}
use Rattle.ln_top.specs.Frame.Work.{IsWorkEnd, Work, work_by}
use Rattle.ln_top.proofs.FrameLemmas.Grounded.{IsGrounded}

-- it doesn't object with the usage
abbrev pub IsNoUsage : Asked → Type 0
IsNoUsage a = (bytes : List ℕ) (preds : List PredOf) → why_end (objects a bytes preds) ≡ end.Usage → ⊥

-- what is required of its work has its end; it ends in one way, and by an end of works; it doesn't object with the usage; and where its output is
-- one, what it requires is
pub record IsLawful (suits : Asked) (w : Work) : Type 0 where
  pub tells : (boxes : List State) (g : Given) (a : Said) → w.owes boxes g a → w.ends g a.end
  pub single : (g : Given) (a b : End) → w.ends g a → w.ends g b → a ≡ b
  pub kind : (g : Given) (e : End) → w.ends g e → IsWorkEnd e
  pub objects : IsNoUsage suits
  pub said : w.one → (boxes : List State) (g : Given) → IsGrounded g → AreAsked suits g.preds → (a b : Said) → w.owes boxes g a
      → w.owes boxes g b → a ≡ b

-- the laws hold of a work that is required to be done by something, where they hold of the work
pub lawful_by : (claim : List PredOf → Type 0) {suits : Asked} {w : Work} → IsLawful suits w → IsLawful suits (work_by claim w)
lawful_by claim l = record {
  tells = λ boxes g a o. l.tells boxes g a o.0;
  single = l.single;
  kind = l.kind;
  objects = l.objects;
  said = λ v boxes g i s a b o k. l.said v boxes g i s a b o.0 k.0;
}

-- where each end is that of something that is required, and that is one thing, there is one end
pub one_by_said : {O : Said → Type 0} {E : End → Type 0} → ((e : End) → E e → (a : Said) × O a × (a.end ≡ e))
    → ((a b : Said) → O a → O b → a ≡ b) → (a b : End) → E a → E b → a ≡ b
one_by_said back one a b h k =
    let x = back a h in
    let y = back b k in
    sym x.2 ∙ ap (λ (s : Said). s.end) (one x.0 y.0 x.1 y.1) ∙ y.2

-- an end that isn't the usage
abbrev IsOther : End → Type 0
IsOther end.Usage = ⊥
IsOther end.Done = Unit {0}
IsOther end.Refused = Unit {0}
IsOther end.Rows = Unit {0}
IsOther end.NoPredicate = Unit {0}
IsOther end.Invalid = Unit {0}
IsOther end.TooLong = Unit {0}
IsOther end.Shape = Unit {0}
IsOther end.Many = Unit {0}

-- the usage is no other end
pub usage_other : {e : End} → e ≡ end.Usage → IsOther e → ⊥
usage_other i h = subst IsOther i h

-- an objection with `shape` isn't the usage
pub shape_objects : (bytes : List ℕ) (preds : List PredOf) → end.Shape ≡ end.Usage → ⊥
shape_objects bytes preds i = usage_other i tt
