-- The bytes of a trace, and where they stop being one.
use Rattle.std.proofs.Common.{◌≡◌, ℕ, List, [], ◌∷◌, drop, refl, sym, ap, ◌∙◌, ℤ, Option, Some, None}
use Rattle.std.specs.Prelude.{codes}
use Rattle.ln_base.specs.Lines.{joined, lines}
use Rattle.ln_base.proofs.Texts.Lines.{joined_lines}
use Rattle.ln_base.proofs.Texts.Lists.{head}
use Rattle.ln_base.specs.declared.lines.stop.TextStop.{TextStop}
use Rattle.ln_base.specs.declared.lines.stop.TextStop.TheVariants.{Form, NoMemory}
use Rattle.ln_base.specs.Forms.Form as form
use Rattle.ln_base.specs.Forms.Unread.{IsFirst, NoFirst}
use Rattle.ln_base.specs.Forms.Unread as unread
use Rattle.ln_base.proofs.Forms.Fault.{one_whole}
use Rattle.ln_base.proofs.Forms.OneFault.{fault_first, fault_of, no_whole}
use Rattle.ln_base.proofs.Forms.OneFault as fault
use Rattle.ln_base.proofs.Forms.Walk.{lines_of_text, goes_none}
use Rattle.ln_trace.specs.declared.line.TraceLine.{TraceLine}
use Rattle.ln_trace.specs.Form.{IsFormFault, IsWhole, TraceText, texts_of, SomeAts, WholeRecords}
use Rattle.ln_trace.specs.Reading.{trace_rules, goes}
use Rattle.ln_trace.specs.Stop.{Stops}
use Rattle.ln_trace.specs.Text.{first_line}
use Rattle.ln_trace.specs.Unread.{IsOpened, Unread}
use Rattle.ln_trace.proofs.Reading.OneLine.{trace_sound}
use Rattle.ln_base.specs.declared.sign.Sign.{Sign as AnySign}
use Rattle.ln_trace.specs.declared.line.TraceLine.TheVariants.{Refused, Row, At, Sign}
use Rattle.ln_trace.specs.declared.state.State.{State}
use Rattle.ln_trace.specs.declared.state.State.TheVariants.{Between, Opened, Within}
use Rattle.ln_trace.specs.Form as trace

-- where the lines of a trace begin: between records
abbrev pub start : Option State
start = Some Between

ats : {xs r : List TraceLine} → SomeAts xs r → (goes (Some Opened) xs ≡ goes (Some Within) r) × (goes (Some Within) xs ≡ goes (Some Within) r)
ats trace.SomeAts.last = (refl, refl)
ats (trace.SomeAts.more d) = let r = ats d in (r.1, r.1)

-- whole records lead from the start back to it
pub whole : {xs : List TraceLine} → WholeRecords xs → goes start xs ≡ start
whole trace.WholeRecords.none = refl
whole (trace.WholeRecords.refused d) = whole d
whole (trace.WholeRecords.row a d) = (ats a).0 ∙ whole d

-- ---- and back
-- `at` lines, one of which may have stood, and then the end of the record and the records after it
record Ends (xs : List TraceLine) : Type 0 where
  sign : AnySign
  rest : List TraceLine
  ats : SomeAts xs (Sign sign ∷ rest)
  more : WholeRecords rest

-- the same after an `at` line, where no more need come
data Goes : List TraceLine → Type 0 where
  ended : {t : AnySign} {r : List TraceLine} → WholeRecords r → Goes (Sign t ∷ r)
  again : {xs : List TraceLine} → Ends xs → Goes xs

abbrev Wants : State → List TraceLine → Type 0
Wants Between xs = WholeRecords xs
Wants Opened xs = Ends xs
Wants Within xs = Goes xs

dead : {A : Type 0} (xs : List TraceLine) → goes None xs ≡ start → A
dead xs e = let n = goes_none trace_rules xs in absurd (cc)

row : {n : ℕ} {xs : List TraceLine} → Ends xs → WholeRecords (Row n ∷ xs)
row w = trace.WholeRecords.row w.ats w.more

at : (exps : List (ℕ × ℕ)) (z : ℤ) (xs : List TraceLine) → Goes xs → Ends (At exps z ∷ xs)
at exps z xs (ended {t = t} {r = r} m) = record { sign = t; rest = r; ats = trace.SomeAts.last; more = m }
at exps z xs (again w) = record { sign = w.sign; rest = w.rest; ats = trace.SomeAts.more w.ats; more = w.more }

builds : (s : State) (xs : List TraceLine) → goes (Some s) xs ≡ start → Wants s xs
builds Between [] e = trace.WholeRecords.none
builds s [] e = absurd (cc)
builds Between (Refused n ∷ xs) e = trace.WholeRecords.refused (builds Between xs e)
builds Between (Row n ∷ xs) e = row (builds Opened xs e)
builds Between (x ∷ xs) e = dead xs e
builds Opened (At exps z ∷ xs) e = at exps z xs (builds Within xs e)
builds Opened (x ∷ xs) e = dead xs e
builds Within (At exps z ∷ xs) e = again (at exps z xs (builds Within xs e))
builds Within (Sign t ∷ xs) e = ended (builds Between xs e)
builds Within (x ∷ xs) e = dead xs e

-- and lines that do so are whole records
pub is_form : (xs : List TraceLine) → goes start xs ≡ start → WholeRecords xs
is_form xs e = builds Between xs e

-- lines that lead from the start back to it are a trace, and those of a trace do so
to_whole : (texts : List (List ℕ)) → form.IsWhole trace_rules texts → IsWhole texts
to_whole texts w = record { read = w.read; trace = record { form = is_form w.read w.leads; ranges = w.ranges }; same = w.same }

of_whole : (texts : List (List ℕ)) → IsWhole texts → form.IsWhole trace_rules texts
of_whole texts w = record { read = w.read; ranges = w.trace.ranges; leads = whole w.trace.form; same = w.same }

-- the lines of the text of a trace are all of it
whole_of : (bs : List ℕ) (ls : List TraceLine) → TraceText bs ls → form.IsWhole trace_rules (lines bs)
whole_of bs ls t = of_whole (lines bs)
    (record { read = ls; trace = t.trace; same = ap lines t.text ∙ lines_of_text trace_rules trace_sound (λ more. refl) ls t.trace.ranges })

-- what has a form fault is the text of no trace
pub no_text : (bs : List ℕ) (at : ℕ) (ls : List TraceLine) → IsFormFault bs at → TraceText bs ls → ⊥
no_text bs at ls f t = no_whole IsWhole bs at f (to_whole (lines bs) (whole_of bs ls t))

-- no bytes are the text of two traces
pub one_text : (bs : List ℕ) (xs ys : List TraceLine) → TraceText bs xs → TraceText bs ys → xs ≡ ys
unfolding whole_of of_whole
one_text bs xs ys s t = one_whole trace_rules trace_sound (lines bs) (whole_of bs xs s) (whole_of bs ys t)

-- bytes have one form fault at most
pub one_fault : (bytes : List ℕ) (m n : ℕ) → IsFormFault bytes m → IsFormFault bytes n → m ≡ n
one_fault bytes m n f g = fault.one_fault IsWhole bytes m n f g

-- so it is why no trace is read
stops_at : (bs : List ℕ) (at : ℕ) → IsFormFault bs at → Stops bs (Form at)
stops_at bs at f = (f, λ ls t. no_text bs at ls f t)

-- where the reader of lines stops after the first line, no trace is read
pub stops : (bs : List ℕ) (behind : ℕ) (e : TextStop) → lines bs ≡ first_line ∷ lines (drop behind bs) → unread.Stops trace_rules bs e → Stops bs e
stops bs behind (Form at) q f =
    stops_at bs at (fault_of (form.IsWhole trace_rules) IsWhole bs first_line (lines (drop behind bs)) at q to_whole (λ xs w. of_whole _ w) f)
stops bs behind (NoMemory m) q f = tt

-- where it doesn't, the bytes are a trace
pub opened : (bs : List ℕ) (u : Unread) → unread.IsOpened trace_rules bs u → IsOpened bs u
unfolding to_whole
opened bs u o = record {
  read = o.whole.read;
  trace = record { trace = (to_whole (lines bs) o.whole).trace; text = sym (joined_lines bs) ∙ ap joined o.whole.same };
  left = o.left;
  second = o.second;
}

-- ---- the first line
-- where the bytes begin with no first line of a trace, the form fault is at line 1
none_first : (bs : List ℕ) → ((ts : List (List ℕ)) → lines bs ≡ first_line ∷ ts → ⊥) → Stops bs (Form 1)
none_first bs f = stops_at bs 1 (fault_first IsWhole bs
    (texts_of [], to_whole (texts_of []) (record { read = []; ranges = tt; leads = refl; same = refl }))
    (λ w. let e = w.same in absurd (cc)) (λ t ts more e w. f ts (e ∙ ap (λ (x : List ℕ). x ∷ ts) (head w.same))))

-- it is another
pub other_first : (bs first : List ℕ) (count : ℕ) → IsFirst bs first count → (first ≡ first_line → ⊥) → Stops bs (Form 1)
other_first bs first count h f = none_first bs (λ ts e. f (head (sym h.same ∙ e)))

-- it has no line feed
pub open_first : (bs : List ℕ) → NoFirst bs → Stops bs (Form 1)
open_first bs f = none_first bs (λ ts e. f (codes "trace 1") ts e)
