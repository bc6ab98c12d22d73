-- Proves what `agreed` means: an agreed trace tells the perturbed sign of each record that is a row, and nothing of any other.
use Rattle.std.proofs.Common.{◌≡◌, ℕ, List, ◌∷◌, Option, sym, ◌∙◌, subst}
use Rattle.ln_base.specs.Outside.{Shown}
use Rattle.ln_compile.specs.Accepted.{IsSound}
use Rattle.ln_tree.specs.declared.pred.Pred.{Pred}
use Rattle.ln_tree.specs.Table.{PredOf, pred_of}
use Rattle.ln_rows.specs.Left.{Records}
use Rattle.ln_trace.proofs.Agreeing.{agreed-right}
use Rattle.ln_watch.specs.Panel.{State}
use Rattle.ln_top.specs.declared.frame.status.Status.{Status}
use Rattle.ln_top.specs.declared.frame.status.Status.TheVariants.{Done}
use Rattle.ln_top.specs.declared.words.Command.TheVariants as command
use Rattle.ln_top.specs.Judges.Audit as audit
use Rattle.ln_top.specs.Judges.Audit.{AuditSaid, HasTrace, IsRightTrace}
use Rattle.ln_top.specs.Audited.{TellsRight}
use Rattle.ln_top.specs.Causes.{IsSettled}
use Rattle.ln_top.specs.Frame.Subject.{subject_of}
use Rattle.ln_top.specs.Frame.Said.{Said, end_status}
use Rattle.ln_top.specs.Frame.Given.{Given}
use Rattle.ln_top.proofs.JudgesLemmas.AuditLaws.{moved_right}
use Rattle.ln_top.proofs.SignsLemmas.ExplainLaws.{rows_differ}
use Rattle.ln_top.proofs.Steps.TopLaws.{Worked, settled_done}
use Rattle.ln_top.proofs.Steps.Grounded.{IsFine}
use Rattle.ln_top.proofs.FrameLemmas.Grounded.{in_memory}
use Rattle.ln_top.proofs.Theorem.HeadlineLaws.{head_sound}
use Rattle.ln_top.proofs.FrameLemmas.Lightness.{light_of}

-- where it ends well, the trace is agreed
agreed_there : (g : Given) (p : PredOf) (names : List (List ℕ)) (records : Records) (trace : List ℕ) (a : Said)
    → HasTrace g p names (names ∷ records) trace → AuditSaid g a → end_status a.end ≡ Done → IsRightTrace p records trace
agreed_there g p names records trace a h (audit.header q others ss u k y) e = cc
agreed_there g p names records trace a h (audit.agreed q others ss u k y) e =
    moved_right k h y
agreed_there g p names records trace a h (audit.wrong q others ss u n k y) e = cc

-- an agreed trace tells the signs
right_there : (q : Pred) (records : Records) (trace : List ℕ) → IsSound (pred_of q) → IsRightTrace (pred_of q) records trace
    → TellsRight (pred_of q) records trace
right_there q records trace sound r = record {
  lines = r.lines;
  text = r.text;
  right = agreed-right (subject_of (pred_of q)) records r.lines (light_of q sound).inputs (rows_differ q) r.agreed;
}

-- so where `audit` is done, the trace tells the signs
pub audited : {boxes : List State} {result : Status} {was now : Option Shown} (g : Given) → IsFine command.Audit g
    → (IsSettled result → Worked command.Audit boxes g result was now) → (p : PredOf) (names : List (List ℕ)) (records : Records)
    (trace : List ℕ) → HasTrace g p names (names ∷ records) trace → result ≡ Done → TellsRight p records trace
audited g i w p names records trace k e =
    let a = w (settled_done _ e) in
    let q = in_memory g p k.others i.grounded k.pred in
    let there = agreed_there g p names records trace a.said k a.owed (sym a.status ∙ e) in
    subst (λ (x : PredOf). TellsRight x records trace) q.1 (right_there q.0 records trace
    (subst IsSound (sym q.1) (head_sound g p k.others i.grounded k.pred))
    (subst (λ (x : PredOf). IsRightTrace x records trace) (sym q.1) there))
