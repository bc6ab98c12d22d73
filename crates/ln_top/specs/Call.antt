-- The promises of the program on a call, whatever its command.
use Rattle.std.specs.Prelude.{◌≡◌, ◌≢◌, ◌⊎◌, ℕ, List, [], Option, Some, None, IfSome}
use Rattle.ln_base.specs.Outside.{Shelf, Shown, Rose, refused}
use Rattle.ln_watch.specs.Panel.{State}
use Rattle.ln_top.specs.declared.frame.status.End.{End}
use Rattle.ln_top.specs.declared.frame.status.End.TheVariants.{Done}
use Rattle.ln_top.specs.declared.frame.status.Status.{Status}
use Rattle.ln_top.specs.declared.frame.status.Status.TheVariants as status
use Rattle.ln_top.specs.Frame.Said.{Count, Rises, IsCalm, put_both, end_status}
use Rattle.ln_top.specs.Plan.{plan_of}
use Rattle.ln_top.specs.Frame.Carried.{LeavesFronts, LeavesPart, read_line}
use Rattle.ln_top.specs.Frame.Work.{IsWorkEnd}
use Rattle.ln_top.specs.Answer.{Answer, IsMissing, Part}
use Rattle.ln_top.specs.Causes.{Answered, Ends, EndsExactly, ExactlyWhere, IsSettled, SaysLine}

-- a call: its words; what its files contain, where a proof can see that; its watchers; the counts of faults of the files and of the
-- console; the status; the bytes of both streams before and after
pub record Call : Type 0 where
  pub words : List (List ℕ)
  pub told : Option Shelf
  pub boxes : List State
  pub reads : Count
  pub puts : Count
  pub result : Status
  pub was : Option Shown
  pub now : Option Shown

-- the call with these words, files, watchers, counts of faults, status and bytes of the streams
abbrev pub call : List (List ℕ) → Option Shelf → List State → Count → Count → Status → Option Shown → Option Shown → Call
call words told boxes reads puts result was now = record {
  words = words;
  told = told;
  boxes = boxes;
  reads = reads;
  puts = puts;
  result = result;
  was = was;
  now = now;
}

-- a count of faults rose in the call, or is at its end
abbrev pub HasRisen : Count → Type 0
HasRisen c = Rose c.before c.after

-- a file wasn't read: the files' count rose, or a file that the words name and the steps reach isn't there
abbrev pub IsUnread : Call → Type 0
IsUnread c = HasRisen c.reads ⊎ IsMissing c.words c.told

-- the promises that a call keeps, whatever its command and however it ends
pub record Keeps (c : Call) : Type 0 where
  -- what was written is to the byte what the words over the files require, whatever the counts did; files whose content a proof can't see may
  -- contain anything
  pub exact : IsSettled c.result → Answered (Answer c.words c.told c.boxes) c.result c.was c.now
  -- each status but those of faults and of failed allocations comes exactly where the steps end so
  pub ends : IfSome c.told (λ shelf. EndsExactly c.words shelf c.result (HasRisen c.reads) (HasRisen c.puts))
  -- the status of words that are no command comes exactly there, also where a proof can't see the files' content
  pub usage : ExactlyWhere status.Usage (plan_of c.words ≡ None) c.result (HasRisen c.reads) (HasRisen c.puts)
  -- valid input is carried out, where no count rises and no allocation fails
  pub complete : IfSome c.told (λ shelf. Ends c.words (Some shelf) Done → (HasRisen c.reads → ⊥) → (HasRisen c.puts → ⊥)
      → (c.result ≡ status.Done) ⊎ (c.result ≡ status.Memory refused))
  -- an end that no work has comes with its error line alone
  pub line : (e : End) → c.result ≡ end_status e → (IsWorkEnd e → ⊥) → SaysLine e c.was c.now
  -- a fault of reading has its cause, and its error line comes alone
  pub read : c.result ≡ status.Read → IsUnread c × (c.now ≡ put_both [] read_line c.was)
  -- a failed write decides: nothing is written after it, so one fault was counted; on each stream is a prefix of what is required, or of the
  -- error line of a file that wasn't read
  pub write : c.result ≡ status.Write → Rises c.puts × LeavesFronts (Answer c.words c.told c.boxes) (IsUnread c) c.was c.now
  -- an allocation that fails leaves nothing, or a part that the command names: in work on records the whole lines of the first ones
  pub memory : c.result ≡ status.Memory refused → LeavesPart (Answer c.words c.told c.boxes) (Part c.words c.told c.boxes) c.was c.now
  -- with any status but that of a fault of writing, none was counted
  pub calm : c.result ≢ status.Write → IsCalm c.puts
  -- with any status but those of faults, no fault of reading was counted
  pub quiet : c.result ≢ status.Read → c.result ≢ status.Write → IsCalm c.reads
