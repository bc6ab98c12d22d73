-- Proves that what is ready is what the work of its command asks for.
use Rattle.std.proofs.Common.{◌≡◌, ℕ, ◌≤◌, length, map, ap, sym, ◌∙◌, subst, Option}
use Rattle.ln_base.specs.Outside.{Shelf}
use Rattle.ln_tree.specs.Table.{TableOf, pred_of}
use Rattle.ln_compile.specs.Accepted.{AreSound}
use Rattle.ln_top.specs.declared.frame.ready.Ready.{Ready}
use Rattle.ln_top.specs.Plan.{HasForm, Plan}
use Rattle.ln_top.specs.Signature.{form, signature_of}
use Rattle.ln_top.specs.Frame.Ready.{IsReadyFor}
use Rattle.ln_top.specs.Frame.Signature.{KeepsFor}
use Rattle.ln_top.specs.Ready.{IsReady}
use Rattle.ln_top.proofs.Steps.Grounded.{fine}

-- the result of the steps has its standing, is as much as the command takes, and suits it
pub ready_for : (plan : Plan) (told : Option Shelf) (r : Ready) → IsReady plan told r → HasForm plan
    → length r.numbers.items ≡ length plan.names → length r.texts.items ≡ length plan.files
    → KeepsFor (signature_of plan.command).suits (map pred_of r.compiled.table.preds) r.numbers.items r.kept
    → IsReadyFor (signature_of plan.command) r
ready_for plan told r h f a b kept =
    let k = fine plan told h.given h.prepared in
    record {
      stands =
          record {
            given = h.given;
            stands = h.stands;
            sound = subst AreSound (ap (λ (t : TableOf). t.preds) h.stands.table) k.grounded.sound;
            short = k.short;
          };
      fit =
          record {
            least = subst (λ (x : ℕ). (form plan.command).least ≤ x) (sym a) f.least;
            most = subst (λ (x : ℕ). x ≤ (form plan.command).most) (sym a) f.most;
            files = b ∙ f.files;
          };
      suited = k.asked;
      kept = kept;
    }
