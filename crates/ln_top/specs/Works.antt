-- Defines the works of the commands, each by its own file.
use Rattle.std.specs.Prelude.{◌≡◌, ℕ, List, Some}
use Rattle.ln_watch.specs.Panel.{State}
use Rattle.ln_top.specs.declared.frame.status.End.{End}
use Rattle.ln_top.specs.declared.words.Command.{Command}
use Rattle.ln_top.specs.declared.words.Command.TheVariants as command
use Rattle.ln_top.specs.Plan.{Plan, plan_of}
use Rattle.ln_top.specs.Frame.Said.{Said}
use Rattle.ln_top.specs.Frame.Given.{Given}
use Rattle.ln_top.specs.Frame.Work.{Work}
use Rattle.ln_top.specs.Texts.Check.{check_work}
use Rattle.ln_top.specs.Texts.Listing.{list_work}
use Rattle.ln_top.specs.Texts.Emit.{emit_work}
use Rattle.ln_top.specs.Judges.Verify.{verify_work}
use Rattle.ln_top.specs.Signs.Product.{product_work}
use Rattle.ln_top.specs.Judges.Edges.{edges_work}
use Rattle.ln_top.specs.Signs.Explain.{explain_work}
use Rattle.ln_top.specs.Judges.Audit.{audit_work}
use Rattle.ln_top.specs.Signs.Gen.{gen_work}
use Rattle.ln_top.specs.Signs.Signs.{graded_work, run_work}

-- the work of a command
abbrev pub work_of : Command → Work
work_of command.Check = check_work
work_of command.List = list_work
work_of command.Emit = emit_work
work_of command.Verify = verify_work
work_of command.Run = run_work
work_of command.Product = product_work
work_of command.Graded = graded_work
work_of command.Edges = edges_work
work_of command.Explain = explain_work
work_of command.Audit = audit_work
work_of (command.Gen seed count) = gen_work seed count

-- what the work of a command is required to say: how it ends, and its bytes on both streams
abbrev pub WorkOwes : Command → List State → Given → Said → Type 0
WorkOwes c = (work_of c).owes

-- which bytes on both streams the work of a command may leave where an allocation fails
abbrev pub WorkPart : Command → List State → Given → List ℕ → List ℕ → Type 0
WorkPart c = (work_of c).part

-- how the work of a command ends on what it is given
abbrev pub WorkEnds : Command → Given → End → Type 0
WorkEnds c = (work_of c).ends

-- works that say one thing: all but `list` and `emit`, for which more than one text may be true of a source
abbrev pub IsOneValued : Command → Type 0
IsOneValued c = (work_of c).one

-- where these words are a command, it is one of those
abbrev pub AreOneValued : List (List ℕ) → Type 0
AreOneValued words = (p : Plan) → plan_of words ≡ Some p → IsOneValued p.command
