-- The levels of the top call, and what its status says.
use Rattle.std.proofs.Common.{arith, ◌≡◌, ◌≢◌, ◌⊎◌, inl, inr, ℕ, List, [], ◌∷◌, refl, ap, sym, ◌∙◌}
use Rattle.std.proofs.Common.{subst, Option, Some, None, Ok, Err}
use Rattle.std.specs.Prelude.{Result, IfSome}
use Rattle.std.proofs.lemmas.Option.{none-some}
use Rattle.ln_base.specs.Limits.{most_file}
use Rattle.ln_base.specs.Outside.{Shelf, Shown, Rose, refused}
use Rattle.ln_watch.specs.Panel.{State}
use Rattle.ln_tree.specs.Table.{PredOf}
use Rattle.ln_top.specs.declared.frame.status.End.{End}
use Rattle.ln_top.specs.declared.frame.status.End.TheVariants as end
use Rattle.ln_top.specs.declared.frame.status.Early.{Early}
use Rattle.ln_top.specs.declared.frame.status.Early.TheVariants as early
use Rattle.ln_top.specs.declared.frame.status.Status.{Status}
use Rattle.ln_top.specs.declared.frame.status.Status.TheVariants as status
use Rattle.ln_top.specs.declared.frame.stop.Stop.{Stop}
use Rattle.ln_top.specs.declared.frame.stop.Stop.TheVariants as stop
use Rattle.ln_top.specs.declared.frame.stop.Why.{Why}
use Rattle.ln_top.specs.declared.frame.stop.Why.TheVariants.{Usage, TooLong, Refused, NoPredicate}
use Rattle.ln_top.specs.declared.words.Command.{Command}
use Rattle.ln_top.specs.declared.words.Command.TheVariants as command
use Rattle.ln_top.specs.Frame.Said.{Said, Count, Rises, IsCalm, put_both, end_status, status_of, broke, stayed, wrote}
use Rattle.ln_top.specs.Frame.Stop.{said_of, why_end}
use Rattle.ln_top.specs.Plan.{Plan, plan_of}
use Rattle.ln_top.specs.Steps as step
use Rattle.ln_top.specs.Frame.Given.{Outcome, stops, missing, gives, Given}
use Rattle.ln_top.specs.Steps.{Prepares, Each, Finds, ChainEnds, Reads, Then, WhereGiven}
use Rattle.ln_top.specs.Frame.Carried as c
use Rattle.ln_top.specs.Frame.Carried.{CarriesOut, Halts, Says, LeavesFronts, LeavesPart, read_line}
use Rattle.ln_top.specs.Frame.Work as kind_of
use Rattle.ln_top.specs.Frame.Work.{IsWorkEnd}
use Rattle.ln_top.specs.Answer.{PlanOwes, stopped, worked, PlanPart, PlanLacks, Answer, usage, planned, Part, IsMissing}
use Rattle.ln_top.specs.Call.{HasRisen, Keeps, call}
use Rattle.ln_top.specs.Causes as cause
use Rattle.ln_top.specs.Causes.{SaysLine, IsSettled, Answered, Ends, Yields, EndsExactly}
use Rattle.ln_top.proofs.FrameLemmas.Carry.{Duty, IsCarriedOut, lift, says_carried, writes_carried}
use Rattle.ln_top.proofs.Steps.Chain.{One, one_gives, one_prepares, one_then}
use Rattle.ln_top.proofs.Steps.Grounded.{IsFine, fine}
use Rattle.ln_top.proofs.FrameLemmas.Laws.{IsLawful}
use Rattle.ln_top.proofs.FrameLemmas.LinesLaws.{ok_same}
use Rattle.ln_top.proofs.TextsLemmas.CheckLaws as check_laws
use Rattle.ln_top.proofs.TextsLemmas.ListLaws as list_laws
use Rattle.ln_top.proofs.TextsLemmas.EmitLaws as emit_laws
use Rattle.ln_top.proofs.JudgesLemmas.VerifyLaws as verify_laws
use Rattle.ln_top.proofs.SignsLemmas.SignsLaws as signs_laws
use Rattle.ln_top.proofs.SignsLemmas.ProductLaws as product_laws
use Rattle.ln_top.proofs.JudgesLemmas.EdgesLaws as edges_laws
use Rattle.ln_top.proofs.SignsLemmas.ExplainLaws as explain_laws
use Rattle.ln_top.proofs.JudgesLemmas.AuditLaws as audit_laws
use Rattle.ln_top.proofs.SignsLemmas.GenLaws as gen_laws
use Rattle.ln_top.specs.Signature.{objection, signature_of}
use Rattle.ln_top.specs.Works.{WorkOwes, WorkPart, WorkEnds, work_of}

-- what a plan owes, and what words owe
abbrev plan_duty : Plan → Option Shelf → List State → Type 0 → Duty
plan_duty plan told boxes reads =
    record { owes = PlanOwes plan told boxes; part = PlanPart plan told boxes; lacks = PlanLacks plan told; reads = reads }

abbrev words_duty : List (List ℕ) → Option Shelf → List State → Type 0 → Duty
words_duty words told boxes reads =
    record { owes = Answer words told boxes; part = Part words told boxes; lacks = IsMissing words told; reads = reads }

-- The meaning of the status that was carried out.
abbrev pub Carried : List (List ℕ) → Option Shelf → List State → Type 0 → Count → Result End Early → Option Shown
    → Option Shown → Type 0
Carried words told boxes reads puts r was now = IsCarriedOut (words_duty words told boxes reads) puts r was now

-- the work of a plan is carried out, or a stop of its steps was said
pub work_carried : (plan : Plan) (told : Option Shelf) (boxes : List State) (g : Given) (reads : Type 0) (puts : Count)
    (result : Result End Early) (was now : Option Shown) → Prepares plan told (gives g)
    → CarriesOut (WorkOwes plan.command boxes g) (WorkPart plan.command boxes g) ⊥ ⊥ puts result was now
    → IsCarriedOut (plan_duty plan told boxes reads) puts result was now
work_carried plan told boxes g reads puts result was now p h =
    lift {a = record { owes = WorkOwes plan.command boxes g; part = WorkPart plan.command boxes g; lacks = ⊥; reads = ⊥ }}
    {b = plan_duty plan told boxes reads} (record {
      owes = λ s o. worked g p o;
      part = λ out err q. record { given = g; ready = p; part = q };
      lacks = λ x. absurd x;
      reads = λ x. absurd x;
    }) h

-- a plan that stops is carried out by the line of its stop
pub stop_carried : (plan : Plan) (told : Option Shelf) (boxes : List State) (s : Stop) (reads : Type 0) (puts : Count)
    (result : Result End Early) (was now : Option Shown) → Halts (Prepares plan told) reads s → Says s puts result was now
    → IsCarriedOut (plan_duty plan told boxes reads) puts result was now
stop_carried plan told boxes s reads puts result was now h =
    says_carried (Prepares plan told) s (plan_duty plan told boxes reads) puts result was now (λ why o. stopped why o) (λ x. x) h

-- the words are a plan, or no command
pub plan_carried : (words : List (List ℕ)) (plan : Plan) (told : Option Shelf) (boxes : List State) (reads : Type 0)
    (puts : Count) (result : Result End Early) (was now : Option Shown) → plan_of words ≡ Some plan
    → IsCarriedOut (plan_duty plan told boxes reads) puts result was now → Carried words told boxes reads puts result was now
plan_carried words plan told boxes reads puts result was now f h =
    lift {a = plan_duty plan told boxes reads} {b = words_duty words told boxes reads} (record {
      owes = λ s o. planned plan f o;
      part = λ out err q. record { plan = plan; form = f; part = q };
      lacks = λ l. record { plan = plan; form = f; lacks = l };
      reads = λ x. x;
    }) h

-- words that are no command are carried out by the usage line
pub usage_carried : (words : List (List ℕ)) (told : Option Shelf) (boxes : List State) (reads : Type 0) (puts : Count)
    (result : Result End Early) (was now : Option Shown) → plan_of words ≡ None → Says (stop.Tell Usage) puts result was now
    → Carried words told boxes reads puts result was now
usage_carried words told boxes reads puts result was now f s =
    writes_carried (said_of Usage) (usage f) (λ r. r) (λ r. r.1) (λ r. r.1) s

-- the laws of each work: a line a command
pub lawful : (k : Command) → IsLawful (signature_of k).suits (work_of k)
lawful command.Check = check_laws.lawful
lawful command.List = list_laws.lawful
lawful command.Emit = emit_laws.lawful
lawful command.Verify = verify_laws.lawful
lawful command.Run = signs_laws.lawful
lawful command.Product = product_laws.lawful
lawful command.Graded = signs_laws.lawful_graded
lawful command.Edges = edges_laws.lawful
lawful command.Explain = explain_laws.lawful
lawful command.Audit = audit_laws.lawful
lawful (command.Gen seed count) = gen_laws.lawful seed count

-- where each step of a list stops for one reason, the list does
only_stop : {A B : Type 0} (takes : A → Outcome B → Type 0) (v : Why) → ((a : A) (why : Why) → takes a (stops why) → why ≡ v)
    → (all : List A) (why : Why) → Each takes all (stops why) → why ≡ v
only_stop takes v f [] why h = cc
only_stop takes v f (a ∷ rest) why (step.stopped w h) = f a w h
only_stop takes v f (a ∷ rest) why (step.goes p s (step.stopped w h)) = only_stop takes v f rest w h
only_stop takes v f (a ∷ rest) why (step.goes p s (step.goes ps g h)) = cc

finds_stop : (table : List PredOf) (name : List ℕ) (why : Why) → Finds table name (stops why) → why ≡ NoPredicate
finds_stop table name why (step.none h) = refl

reads_stop : (told : Option Shelf) (name : List ℕ) (why : Why) → Reads told most_file name (stops why) → why ≡ TooLong
reads_stop told name why (step.long h) = refl

-- a stop isn't a value
pub stops_gives : {P : Type 0} {why : Why} {g : Given} → stops why ≡ gives g → P
stops_gives e = cc

-- equal stops have the same reason
pub same_why : {why v : Why} → (let o : Outcome Given = stops why in o ≡ stops v) → why ≡ v
same_why e = cc

-- equal outcomes that are values have equal values
pub same_given : {g h : Given} → (let o : Outcome Given = gives g in o ≡ gives h) → g ≡ h
same_given e = cc

-- equal options that are Some have equal plans
pub some_plan : {a b : Plan} → Some a ≡ Some b → a ≡ b
some_plan e = cc

-- the words come to a plan, and it to what is given
abbrev planned_as : Option Plan → Outcome Plan
planned_as None = stops Usage
planned_as (Some plan) = gives plan

abbrev Comes : List (List ℕ) → Option Shelf → Outcome (Plan × Given) → Type 0
Comes words told = Then (λ o. planned_as (plan_of words) ≡ o) (λ plan. Then (Prepares plan told) (λ g. ChainEnds (plan, g)))

one_comes : (words : List (List ℕ)) (shelf : Shelf) → One (Comes words (Some shelf))
one_comes words shelf =
    one_then _ _ (λ o p e f. sym e ∙ f) (λ plan. one_then _ _ (one_prepares plan shelf) (λ g. one_gives (plan, g)))

stops_by : (words : List (List ℕ)) (told : Option Shelf) (plan : Plan) (why : Why) → plan_of words ≡ Some plan
    → Prepares plan told (stops why) → Comes words told (stops why)
stops_by words told plan why f x = step.goes plan (ap planned_as f) (step.stopped why x)

gives_by : (words : List (List ℕ)) (told : Option Shelf) (plan : Plan) (g : Given) → plan_of words ≡ Some plan
    → Prepares plan told (gives g) → Comes words told (gives (plan, g))
gives_by words told plan g f x = step.goes plan (ap planned_as f) (step.goes g x refl)

-- how words end, by what they come to
abbrev EndsAt : Outcome (Plan × Given) → End → Type 0
EndsAt (stops why) e = e ≡ why_end why
EndsAt missing e = ⊥
EndsAt (gives (plan, g)) e = WorkEnds plan.command g e

record EndsBy (words : List (List ℕ)) (told : Option Shelf) (e : End) : Type 0 where
  came : Outcome (Plan × Given)
  comes : Comes words told came
  ends : EndsAt came e

-- each cause by itself
by_cause : (words : List (List ℕ)) (told : Option Shelf) (e : End) → Ends words told e → EndsBy words told e
by_cause words told e (cause.usage f i) = record { came = stops Usage; comes = step.stopped Usage (ap planned_as f); ends = i }
by_cause words told e (cause.long_source p f h i) =
    record { came = stops TooLong; comes = stops_by words told p TooLong f (step.stopped TooLong (step.long h)); ends = i }
by_cause words told e (cause.refused p bytes r place f a h i) = record {
  came = stops (Refused r place);
  comes = stops_by words told p (Refused r place) f (step.goes bytes a (step.stopped (Refused r place) (step.refused r place h)));
  ends = i;
}
by_cause words told e (cause.no_predicate p table h n i) = record {
  came = stops NoPredicate;
  comes = stops_by words told p NoPredicate h.form (step.goes h.bytes h.read (step.goes table h.accepted (step.stopped NoPredicate n)));
  ends = i;
}
by_cause words told e (cause.unsuited p table preds h n o i) =
    let why = objection p.command h.bytes preds in
    record {
      came = stops why;
      comes = stops_by words told p why h.form (step.goes h.bytes h.read (step.goes table h.accepted (step.goes preds n
          (step.stopped why (step.unsuited o)))));
      ends = i;
    }
by_cause words told e (cause.long_file p table preds h n y l i) = record {
  came = stops TooLong;
  comes = stops_by words told p TooLong h.form (step.goes h.bytes h.read (step.goes table h.accepted (step.goes preds n
      (step.goes tt (step.suited y) (step.stopped TooLong l)))));
  ends = i;
}
by_cause words told e (cause.worked p g f x h) = record { came = gives (p, g); comes = gives_by words told p g f x; ends = h }

stop_cause : (words : List (List ℕ)) (told : Option Shelf) (p : Plan) → plan_of words ≡ Some p → (why : Why)
    → Prepares p told (stops why) → Ends words told (why_end why)
stop_cause words told p e why (step.stopped w (step.long h)) = cause.long_source p e h refl
stop_cause words told p e why (step.goes bytes r (step.stopped w (step.refused k place h))) = cause.refused p bytes k place e r h refl
stop_cause words told p e why (step.goes bytes r (step.goes table c (step.stopped w h))) =
    let is = only_stop (Finds table.preds) NoPredicate (finds_stop table.preds) p.names w h in
    cause.no_predicate p table (record { form = e; bytes = bytes; read = r; accepted = c })
    (subst (λ v. Each (Finds table.preds) p.names (stops v)) is h) (ap why_end is)
stop_cause words told p e why (step.goes bytes r (step.goes table c (step.goes preds n (step.stopped w (step.unsuited o))))) =
    cause.unsuited p table preds (record { form = e; bytes = bytes; read = r; accepted = c }) n o refl
stop_cause words told p e why (step.goes bytes r (step.goes table c (step.goes preds n (step.goes _ (step.suited y) (step.stopped w h))))) =
    let is = only_stop (Reads told most_file) TooLong (reads_stop told) p.files w h in
    cause.long_file p table preds (record { form = e; bytes = bytes; read = r; accepted = c }) n y
    (subst (λ v. Each (Reads told most_file) p.files (stops v)) is h) (ap why_end is)
stop_cause words told p e why (step.goes bytes r (step.goes table c (step.goes preds n (step.goes _ y (step.goes texts t h))))) =
    stops_gives h

-- what is required ends as the steps end
pub ends_so : (words : List (List ℕ)) (told : Option Shelf) (boxes : List State) (a : Said) → Answer words told boxes a
    → Ends words told a.end
ends_so words told boxes a (usage e) = cause.usage e refl
ends_so words told boxes a (planned p e (worked g x o)) = cause.worked p g e x ((lawful p.command).tells boxes g a o)
ends_so words told boxes a (planned p e (stopped why x)) = stop_cause words told p e why x

-- Words and files whose bytes are known end in one way.
one_at : (o : Outcome (Plan × Given)) (a b : End) → EndsAt o a → EndsAt o b → a ≡ b
one_at (stops why) a b h k = h ∙ sym k
one_at missing a b h k = absurd h
one_at (gives (plan, g)) a b h k = (lawful plan.command).single g a b h k

-- words and files whose bytes are known have one end
pub one_end : (words : List (List ℕ)) (shelf : Shelf) (a b : End) → Ends words (Some shelf) a → Ends words (Some shelf) b → a ≡ b
one_end words shelf a b h k =
    let x = by_cause words (Some shelf) a h in
    let y = by_cause words (Some shelf) b k in
    one_at y.came a b (subst (λ o. EndsAt o a) (one_comes words shelf x.came y.came x.comes y.comes) x.ends) y.ends

-- A file that is missing leaves no end.
none_missing : (words : List (List ℕ)) (shelf : Shelf) (e : End) → IsMissing words (Some shelf) → Ends words (Some shelf) e → ⊥
none_missing words shelf e m h =
    let x = by_cause words (Some shelf) e h in
    let lacks = step.goes m.plan (ap planned_as m.form) (step.lacks m.lacks) in
    subst (λ o. EndsAt o e) (one_comes words shelf x.came missing x.comes lacks) x.ends

-- An end and its status: the one table over all statuses.
abbrev back : Status → Result End Early
back status.Done = Ok end.Done
back status.Refused = Ok end.Refused
back status.Usage = Ok end.Usage
back status.Rows = Ok end.Rows
back status.NoPredicate = Ok end.NoPredicate
back status.Invalid = Ok end.Invalid
back status.TooLong = Ok end.TooLong
back status.Shape = Ok end.Shape
back status.Many = Ok end.Many
back status.Read = Err early.Read
back status.Write = Err early.Write
back (status.Memory m) = Err (early.Memory m)

back_and_forth : (r : Result End Early) → back (status_of r) ≡ r
back_and_forth (Ok end.Done) = refl
back_and_forth (Ok end.Refused) = refl
back_and_forth (Ok end.Usage) = refl
back_and_forth (Ok end.Rows) = refl
back_and_forth (Ok end.NoPredicate) = refl
back_and_forth (Ok end.Invalid) = refl
back_and_forth (Ok end.TooLong) = refl
back_and_forth (Ok end.Shape) = refl
back_and_forth (Ok end.Many) = refl
back_and_forth (Err early.Read) = refl
back_and_forth (Err early.Write) = refl
back_and_forth (Err (early.Memory m)) = refl

-- results with the same status are equal
pub one_status : (r q : Result End Early) → status_of r ≡ status_of q → r ≡ q
one_status r q e = sym (back_and_forth r) ∙ ap back e ∙ back_and_forth q

-- a count that was counted on rose
pub counted_rose : (puts : Count) → Rises puts → Rose puts.before puts.after
counted_rose puts p = subst (Rose puts.before) (sym p) (omega arith)

settled : {r : Result End Early} {e : Early} {P : Type 0} → r ≡ Err e → IsSettled (status_of r) → P
settled {r = r} {e = early.Read} x s = absurd (s.read (ap status_of x))
settled {r = r} {e = early.Write} x s = absurd (s.write (ap status_of x))
settled {r = r} {e = early.Memory m} x s = absurd (s.memory (ap status_of x))

-- what is required was written to the byte
exact : {words : List (List ℕ)} {told : Option Shelf} {boxes : List State} {reads : Type 0} {puts : Count} {r : Result End Early}
    {result : Status} {was now : Option Shown} → result ≡ status_of r → Carried words told boxes reads puts r was now → IsSettled result
    → Answered (Answer words told boxes) result was now
exact e (c.ended a q o x s) h = record { said = a; owed = o; status = e ∙ ap status_of x; shown = s }
exact e (c.unread q u x s) h = settled x (subst IsSettled e h)
exact e (c.cut p l x) h = settled x (subst IsSettled e h)
exact e (c.short q l x) h = settled x (subst IsSettled e h)

-- each status comes exactly where the steps end so
pub exactly : (words : List (List ℕ)) (shelf : Shelf) (boxes : List State) (reads : Type 0) (puts : Count) (r : Result End Early)
    (result : Status) (was now : Option Shown) → result ≡ status_of r → Carried words (Some shelf) boxes reads puts r was now
    → EndsExactly words shelf result reads (Rose puts.before puts.after)
exactly words shelf boxes reads puts r result was now e h =
    λ k. record { only = λ x. only k h (one_status r (Ok k) (sym e ∙ x)); comes = λ x. comes k h x }
  where
    only : (k : End) → Carried words (Some shelf) boxes reads puts r was now → r ≡ Ok k → Ends words (Some shelf) k
    only k (c.ended a q o x s) y = subst (Ends words (Some shelf)) (ok_same (sym x ∙ y)) (ends_so words (Some shelf) boxes a o)
    only k (c.unread q u x s) y = cc
    only k (c.cut p l x) y = cc
    only k (c.short q l x) y = cc

    comes : (k : End) → Carried words (Some shelf) boxes reads puts r was now → Ends words (Some shelf) k
        → (result ≡ end_status k) ⊎ Yields result reads (Rose puts.before puts.after)
    comes k (c.ended a q o x s) y =
        inl (e ∙ ap status_of x ∙ ap end_status (one_end words shelf a.end k (ends_so words (Some shelf) boxes a o) y))
    comes k (c.unread q (inl u) x s) y = inr (inr (inl (e ∙ ap status_of x, u)))
    comes k (c.unread q (inr m) x s) y = absurd (none_missing words shelf k m y)
    comes k (c.cut p l x) y = inr (inr (inr (e ∙ ap status_of x, counted_rose puts p)))
    comes k (c.short q l x) y = inr (inl (e ∙ ap status_of x))

-- where it is known what the files contain, each status comes exactly where the steps end so
exactly_told : (words : List (List ℕ)) (told : Option Shelf) (boxes : List State) (reads : Type 0) (puts : Count)
    (r : Result End Early) (result : Status) (was now : Option Shown) → result ≡ status_of r
    → Carried words told boxes reads puts r was now
    → IfSome told (λ shelf. EndsExactly words shelf result reads (Rose puts.before puts.after))
exactly_told words None boxes reads puts r result was now e h = tt
exactly_told words (Some shelf) boxes reads puts r result was now e h = exactly words shelf boxes reads puts r result was now e h

-- valid input is carried out, where no count rises and memory is there
complete : (words : List (List ℕ)) (told : Option Shelf) (result : Status) (reads puts : Type 0)
    → IfSome told (λ shelf. EndsExactly words shelf result reads puts)
    → IfSome told (λ shelf. Ends words (Some shelf) end.Done → (reads → ⊥) → (puts → ⊥)
    → (result ≡ status.Done) ⊎ (result ≡ status.Memory refused))
complete words None result reads puts h = tt
complete words (Some shelf) result reads puts h =
    λ c n m. elim ((h end.Done).comes c) [
      | inl e ↦ inl e
      | inr (inl e) ↦ inr e
      | inr (inr (inl p))
          ↦ absurd (n p.1)
      | inr (inr (inr p)) ↦ absurd (m p.1)
    ]

-- words that are no command, and no others, come to the usage; also where files tell nothing
no_usage : {P : Type 0} {e : End} → IsWorkEnd e → e ≡ end.Usage → P
no_usage kind_of.done i = cc
no_usage kind_of.rows i = cc
no_usage kind_of.invalid i = cc
no_usage kind_of.many i = cc

usage_cause : (words : List (List ℕ)) (told : Option Shelf) (e : End) → e ≡ end.Usage → Ends words told e → plan_of words ≡ None
usage_cause words told e i (cause.usage f j) = f
usage_cause words told e i (cause.long_source p f h j) = cc
usage_cause words told e i (cause.refused p bytes r place f a h j) = cc
usage_cause words told e i (cause.no_predicate p table h n j) = cc
usage_cause words told e i (cause.unsuited p table preds h n o j) = absurd ((lawful p.command).objects h.bytes preds (sym j ∙ i))
usage_cause words told e i (cause.long_file p table preds h n y l j) = cc
usage_cause words told e i (cause.worked p g f x h) = no_usage ((lawful p.command).kind g e h) i

usage_alone : (words : List (List ℕ)) (told : Option Shelf) (boxes : List State) (a : Said) → plan_of words ≡ None
    → Answer words told boxes a → a.end ≡ end.Usage
usage_alone words told boxes a n (usage f) = refl
usage_alone words told boxes a n (planned p f o) = absurd (none-some p (sym n ∙ f))

-- an end that no work has
line_alone : (words : List (List ℕ)) (told : Option Shelf) (boxes : List State) (e : End) (was now : Option Shown) (a : Said)
    → Answer words told boxes a → a.end ≡ e → now ≡ put_both a.out a.err was → (IsWorkEnd e → ⊥)
    → SaysLine e was now
line_alone words told boxes e was now a (usage f) i s n = record { why = Usage; is = sym i; shown = s }
line_alone words told boxes e was now a (planned p f (stopped why x)) i s n = record { why = why; is = sym i; shown = s }
line_alone words told boxes e was now a (planned p f (worked g x o)) i s n =
    absurd (n ((lawful p.command).kind g e (subst (WorkEnds p.command g) i ((lawful p.command).tells boxes g a o))))

-- ---- what a call keeps, by what it came to
module _ (words : List (List ℕ)) (told : Option Shelf) (boxes : List State) (reads puts : Count) (r : Result End Early)
    (result : Status) (was now : Option Shown) (e : result ≡ status_of r) where
  abbrev HasCome : Type 0
  HasCome = Carried words told boxes (HasRisen reads) puts r was now

  came : (q : Result End Early) → result ≡ status_of q → r ≡ q
  came q x = one_status r q (sym e ∙ x)

  read_cause : HasCome → result ≡ status.Read → (HasRisen reads ⊎ IsMissing words told) × (now ≡ put_both [] read_line was)
  read_cause (c.ended a q o y s) x = cc (came (Err early.Read) x)
  read_cause (c.unread q u y s) x = (u, s)
  read_cause (c.cut p l y) x = cc (came (Err early.Read) x)
  read_cause (c.short q l y) x = cc (came (Err early.Read) x)

  write_cause : HasCome → result ≡ status.Write
      → Rises puts × LeavesFronts (Answer words told boxes) (HasRisen reads ⊎ IsMissing words told) was now
  write_cause (c.ended a q o y s) x = cc (came (Err early.Write) x)
  write_cause (c.unread q u y s) x = cc (came (Err early.Write) x)
  write_cause (c.cut p l y) x = (p, l)
  write_cause (c.short q l y) x = cc (came (Err early.Write) x)

  memory_leaves : HasCome → result ≡ status.Memory refused → LeavesPart (Answer words told boxes) (Part words told boxes) was now
  memory_leaves (c.ended a q o y s) x = cc (came (Err (early.Memory refused)) x)
  memory_leaves (c.unread q u y s) x = cc (came (Err (early.Memory refused)) x)
  memory_leaves (c.cut p l y) x = cc (came (Err (early.Memory refused)) x)
  memory_leaves (c.short q l y) x = l

  calm : HasCome → result ≢ status.Write → IsCalm puts
  calm (c.ended a q o x s) n = q
  calm (c.unread q u x s) n = q
  calm (c.cut p l x) n = absurd (n (e ∙ ap status_of x))
  calm (c.short q l x) n = q

  says_line : HasCome → (k : End) → result ≡ end_status k → (IsWorkEnd k → ⊥) → SaysLine k was now
  says_line (c.ended a q o y s) k x n = line_alone words told boxes k was now a o (ok_same (sym y ∙ came (Ok k) x)) s n
  says_line (c.unread q u y s) k x n = cc (came (Ok k) x)
  says_line (c.cut p l y) k x n = cc (came (Ok k) x)
  says_line (c.short q l y) k x n = cc (came (Ok k) x)

  usage_only : HasCome → result ≡ status.Usage → plan_of words ≡ None
  usage_only (c.ended a q o y s) x =
      usage_cause words told a.end (ok_same (sym y ∙ came (Ok end.Usage) x)) (ends_so words told boxes a o)
  usage_only (c.unread q u y s) x = cc (came (Ok end.Usage) x)
  usage_only (c.cut p l y) x = cc (came (Ok end.Usage) x)
  usage_only (c.short q l y) x = cc (came (Ok end.Usage) x)

  usage_comes : HasCome → plan_of words ≡ None → (result ≡ status.Usage) ⊎ Yields result (HasRisen reads) (HasRisen puts)
  usage_comes (c.ended a q o x s) n = inl (e ∙ ap status_of x ∙ ap end_status (usage_alone words told boxes a n o))
  usage_comes (c.unread q (inl u) x s) n = inr (inr (inl (e ∙ ap status_of x, u)))
  usage_comes (c.unread q (inr m) x s) n = absurd (none-some m.plan (sym n ∙ m.form))
  usage_comes (c.cut p l x) n = inr (inr (inr (e ∙ ap status_of x, counted_rose puts p)))
  usage_comes (c.short q l x) n = inr (inl (e ∙ ap status_of x))

  -- All that a call keeps.
  pub keeps : HasCome → (r ≢ Err early.Read → r ≢ Err early.Write → IsCalm reads)
      → Keeps (call words told boxes reads puts result was now)
  keeps h q =
      let ends = exactly_told words told boxes (HasRisen reads) puts r result was now e h in
      record {
        exact = exact e h;
        ends = ends;
        usage = record { only = usage_only h; comes = usage_comes h };
        complete = complete words told result (HasRisen reads) (HasRisen puts) ends;
        line = says_line h;
        read = read_cause h;
        write = write_cause h;
        memory = memory_leaves h;
        calm = calm h;
        quiet = λ n m. q (λ i. n (e ∙ ap status_of i)) (λ i. m (e ∙ ap status_of i));
      }

-- What words require, by what they come to.
abbrev SaysAt : List State → Outcome (Plan × Given) → Said → Type 0
SaysAt boxes (stops why) a = a ≡ said_of why
SaysAt boxes missing a = ⊥
SaysAt boxes (gives (plan, g)) a = WorkOwes plan.command boxes g a

record SaysBy (words : List (List ℕ)) (told : Option Shelf) (boxes : List State) (a : Said) : Type 0 where
  came : Outcome (Plan × Given)
  comes : Comes words told came
  says : SaysAt boxes came a

by_answer : (words : List (List ℕ)) (told : Option Shelf) {boxes : List State} {a : Said} → Answer words told boxes a
    → SaysBy words told boxes a
by_answer words told (usage f) = record { came = stops Usage; comes = step.stopped Usage (ap planned_as f); says = refl }
by_answer words told (planned p f (stopped why x)) = record { came = stops why; comes = stops_by words told p why f x; says = refl }
by_answer words told (planned p f (worked g x o)) = record { came = gives (p, g); comes = gives_by words told p g f x; says = o }

-- over files that prepare their plan, words require what its work requires
work_of_words : (words : List (List ℕ)) (shelf : Shelf) (boxes : List State) (plan : Plan) (g : Given) (a : Said)
    → plan_of words ≡ Some plan → Prepares plan (Some shelf) (gives g) → Answer words (Some shelf) boxes a
    → WorkOwes plan.command boxes g a
work_of_words words shelf boxes plan g a f x h =
    let y = by_answer words (Some shelf) h in
    subst (λ o. SaysAt boxes o a) (one_comes words shelf y.came (gives (plan, g)) y.comes (gives_by words (Some shelf) plan g f x)) y.says

-- what was said of the work of a command on what it is given: it is required, and it was written with its status
pub record Worked (command : Command) (boxes : List State) (g : Given) (result : Status) (was now : Option Shown) : Type 0 where
  pub said : Said
  pub owed : WorkOwes command boxes g said
  pub status : result ≡ end_status said.end
  pub shown : now ≡ put_both said.out said.err was

-- a claim on a command holds of words and files where it follows from what was said of its work: the way to any clause on one command
pub by_work : (command : Command) (claim : Given → Type 0) {words : List (List ℕ)} {told : Option Shelf} {boxes : List State}
    {reads : Type 0} {puts : Count} {r : Result End Early} {result : Status} {was now : Option Shown} → result ≡ status_of r
    → Carried words told boxes reads puts r was now
    → ((g : Given) → IsFine command g → (IsSettled result → Worked command boxes g result was now) → claim g)
    → IfSome told (λ shelf. WhereGiven words shelf command claim)
by_work command claim {told = None} e h f = tt
by_work command claim {words = words} {told = Some shelf} {boxes = boxes} e h f = λ plan g i r x.
    f g (subst (λ k. IsFine k g) r (fine plan (Some shelf) g x)) (λ s.
    let a = exact e h s in
    record {
      said = a.said;
      owed = subst (λ k. WorkOwes k boxes g a.said) r (work_of_words words shelf boxes plan g a.said i x a.owed);
      status = a.status;
      shown = a.shown;
    })

-- done is settled
pub settled_done : (result : Status) → result ≡ status.Done → IsSettled result
settled_done result h = record { read = λ e. cc; write = λ e. cc; memory = λ e. cc }

-- a fault of reading ends as one, or as one of writing
pub says_read : (s : Stop) (puts : Count) (result : Result End Early) (was now : Option Shown) → s ≡ stop.Read
    → result ≢ Err early.Read → result ≢ Err early.Write → Says s puts result was now → ⊥
says_read s puts result was now e n m (wrote q r i) = n (r ∙ ap c.stop_result e)
says_read s puts result was now e n m (broke r p k) = m r.1
says_read s puts result was now e n m (stayed q r i) = r.0 e

-- equal results that are Err have equal errors
pub err_same : {T E : Type 0} {a b : E} → (let q : Result T E = Err a in q ≡ Err b) → a ≡ b
err_same e = cc
