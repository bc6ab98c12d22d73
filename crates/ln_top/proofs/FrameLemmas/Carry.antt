-- Proves that the next level has carried out what one level has: once for all commands.
use Rattle.std.proofs.lemmas.List.{take-append-drop}
use Rattle.std.proofs.Common.{◌≡◌, ◌≢◌, ◌≤◌, ℕ, List, [], ◌∷◌, take, drop, length, refl, ap, sym, ◌∙◌, subst}
use Rattle.std.proofs.Common.{Option, Ok, Err, inl, inr, ◌⊎◌}
use Rattle.std.specs.Prelude.{Result}
use Rattle.ln_base.specs.Outside.{Shown, appended, refused}
use Rattle.ln_base.specs.declared.outside.Port.TheVariants.{Out, Err as ErrPort}
use Rattle.ln_base.proofs.Kept.{appended-nothing}
use Rattle.ln_top.specs.declared.frame.status.End.{End}
use Rattle.ln_top.specs.declared.frame.status.Early.{Early}
use Rattle.ln_top.specs.declared.frame.status.Early.TheVariants.{Memory, Write}
use Rattle.ln_top.specs.declared.frame.stop.Stop.{Stop}
use Rattle.ln_top.specs.declared.frame.stop.Stop.TheVariants as stop
use Rattle.ln_top.specs.declared.frame.stop.Why.{Why}
use Rattle.ln_base.specs.Prefixes.{IsPrefix}
use Rattle.ln_top.specs.Frame.Said.{Said, Count, Rises, Writes, broke, stayed, whole, wrote, put_both}
use Rattle.ln_top.specs.Frame.Stop.{said_of}
use Rattle.ln_top.specs.Frame.Given.{Outcome, stops, missing}
use Rattle.ln_top.specs.Frame.Carried as c
use Rattle.ln_top.specs.Frame.Carried.{CarriesOut, LeavesFronts, LeavesPart, Halts, Says, PutsText, stop_line}

-- a write of nothing to both streams changes nothing
pub both_nothing : (was : Option Shown) → put_both [] [] was ≡ was
both_nothing was = appended-nothing ErrPort (appended Out [] was) ∙ appended-nothing Out was

either : {A B C : Type 0} → (B → C) → A ⊎ B → A ⊎ C
either f (inl a) = inl a
either f (inr b) = inr (f b)

both_ways : {A B C D : Type 0} → (A → C) → (B → D) → A ⊎ B → C ⊎ D
both_ways f g (inl a) = inl (f a)
both_ways f g (inr b) = inr (g b)

lift_fronts : {owes more : Said → Type 0} {u v : Type 0} {was now : Option Shown} → ((s : Said) → owes s → more s)
    → (u → v) → LeavesFronts owes u was now → LeavesFronts more v was now
lift_fronts f g (c.of_owed s out err o p q e) = c.of_owed s out err (f s o) p q e
lift_fronts f g (c.of_read err u p e) = c.of_read err (g u) p e

lift_part : {owes more : Said → Type 0} {part wide : List ℕ → List ℕ → Type 0} {was now : Option Shown}
    → ((s : Said) → owes s → more s) → ((out err : List ℕ) → part out err → wide out err)
    → LeavesPart owes part was now → LeavesPart more wide was now
lift_part f g (c.nothing e) = c.nothing e
lift_part f g (c.of_part s out err p o a b e) = c.of_part s out err (g out err p) (f s o) a b e

-- what a part of the program owes: what it may say, which part it may leave, that a file is missing, and that one wasn't read
pub record Duty : Type 1 where
  pub owes : Said → Type 0
  pub part : List ℕ → List ℕ → Type 0
  pub lacks : Type 0
  pub reads : Type 0

-- a duty is carried out
abbrev pub IsCarriedOut : Duty → Count → Result End Early → Option Shown → Option Shown → Type 0
IsCarriedOut d puts result was now = CarriesOut d.owes d.part d.lacks d.reads puts result was now

-- a duty allows all that a narrower one does
pub record IsWider (a b : Duty) : Type 0 where
  pub owes : (s : Said) → a.owes s → b.owes s
  pub part : (out err : List ℕ) → a.part out err → b.part out err
  pub lacks : a.lacks → b.lacks
  pub reads : a.reads → b.reads

-- A wider requirement is carried out by what carries out a narrower one.
pub lift : {a b : Duty} {puts : Count} {result : Result End Early} {was now : Option Shown} → IsWider a b
    → IsCarriedOut a puts result was now → IsCarriedOut b puts result was now
lift w (c.ended s q o r e) = c.ended s q (w.owes s o) r e
lift w (c.unread q u r e) = c.unread q (both_ways w.reads w.lacks u) r e
lift w (c.cut p l r) = c.cut p (lift_fronts w.owes (both_ways w.reads w.lacks) l) r
lift w (c.short q l r) = c.short q (lift_part w.owes w.part l) r

-- What is carried out is so by something that holds.
pub carried_by : {owes : Said → Type 0} {part : List ℕ → List ℕ → Type 0} {lacks reads claim : Type 0} {puts : Count}
    {result : Result End Early} {was now : Option Shown} → claim → CarriesOut owes part lacks reads puts result was now
    → CarriesOut (λ s. owes s × claim) part lacks reads puts result was now
carried_by {owes = owes} {part = part} {lacks = lacks} {reads = reads} {claim = claim} h =
    lift {a = record { owes = owes; part = part; lacks = lacks; reads = reads }}
    {b = record { owes = λ s. owes s × claim; part = part; lacks = lacks; reads = reads }}
    (record { owes = λ s o. (o, h); part = λ out err q. q; lacks = λ l. l; reads = λ r. r })

-- What is required was written, or a part of it, or nothing, by the result; so it is carried out.
pub writes_carried : {owes : Said → Type 0} {part : List ℕ → List ℕ → Type 0} {lacks reads : Type 0} {all torn stopped : Result End Early → Type 0}
    {puts : Count} {result : Result End Early} {was now : Option Shown} (said : Said) → owes said → (all result → result ≡ Ok said.end)
    → (torn result → result ≡ Err Write) → (stopped result → result ≡ Err (Memory refused))
    → Writes said.out said.err all torn stopped puts result was now → CarriesOut owes part lacks reads puts result was now
writes_carried said o f g h (wrote q r e) = c.ended said q o (f r) e
writes_carried said o f g h (broke r p k) = c.cut p (c.of_owed said k.o k.e o k.of_out k.of_err k.shown) (g r)
writes_carried said o f g h (stayed q r e) = c.short q (c.nothing e) (h r)

-- a prefix of nothing is nothing
no_front : {front : List ℕ} → IsPrefix [] front → front ≡ []
no_front {front = []} i = refl
no_front {front = b ∷ bs} i = let e = i.is in cc

-- A stop that was written is carried out where its steps require it.
pub says_carried : {A : Type 0} (step : Outcome A → Type 0) (s : Stop) (d : Duty) (puts : Count) (result : Result End Early)
    (was now : Option Shown)
    → ((why : Why) → step (stops why) → d.owes (said_of why)) → (step missing → d.lacks) → Halts step d.reads s
    → Says s puts result was now → IsCarriedOut d puts result was now
says_carried step s d puts result was now f g (c.tells why h) w =
    writes_carried (said_of why) (f why h) (λ r. r) (λ r. r.1) (λ r. r.1) w
says_carried step s d puts result was now f g (c.unread u) (wrote q r e) = c.unread q (either g u) r e
says_carried step s d puts result was now f g (c.unread u) (broke r p k) =
    c.cut p (c.of_read k.e (either g u) k.of_err (k.shown ∙ ap (λ o. put_both o k.e was) (no_front k.of_out))) r.1
says_carried step s d puts result was now f g (c.unread u) (stayed q r e) = c.short q (c.nothing e) r.1
says_carried step s d puts result was now f g c.short (wrote q r e) = c.short q (c.nothing (e ∙ both_nothing was)) r
says_carried step s d puts result was now f g c.short (broke r p k) = absurd (r.0 refl)
says_carried step s d puts result was now f g c.short (stayed q r e) = c.short q (c.nothing e) r.1

-- A whole text that was written is carried out.
pub text_carried : (owes : Said → Type 0) (part : List ℕ → List ℕ → Type 0) (lacks reads : Type 0) (puts : Count)
    (end : End) (text : List ℕ) (result : Result End Early) (was now : Option Shown)
    → owes (whole end text) → PutsText text end puts result was now → CarriesOut owes part lacks reads puts result was now
text_carried owes part lacks reads puts end text result was now o w = writes_carried (whole end text) o (λ r. r) (λ r. r) (λ r. absurd r) w

-- the first n bytes of a text are a prefix of it
pub front_of : (n : ℕ) (text : List ℕ) → IsPrefix text (take n text)
front_of n text = record { rest = drop n text; is = sym (take-append-drop n text) }

-- a text that is written to Out alone is on both streams that text and nothing
pub out_alone : (text : List ℕ) (was : Option Shown) → appended Out text was ≡ put_both text [] was
out_alone text was = sym (appended-nothing ErrPort (appended Out text was))

-- a text that is written to Err alone is on both streams nothing and that text
pub err_alone : (text : List ℕ) (was : Option Shown) → appended ErrPort text was ≡ put_both [] text was
err_alone text was = ap (λ s. appended ErrPort text s) (sym (appended-nothing Out was))

-- the write of a text to Out failed
pub out_cut : {R : Type 0} {all torn stopped : R → Type 0} {result : R} (text : List ℕ) (puts : Count) (was now : Option Shown) → torn result
    → ((n : ℕ) × (n ≤ length text) × (now ≡ appended Out (take n text) was)) → Rises puts
    → Writes text [] all torn stopped puts result was now
out_cut text puts was now t h p = broke t p (record {
  o = take h.0 text;
  e = [];
  of_out = front_of h.0 text;
  of_err = record { rest = []; is = refl };
  shown = h.2 ∙ out_alone (take h.0 text) was;
})

-- the write of a stop's line failed
pub line_cut : (s : Stop) (text : List ℕ) (puts : Count) (was now : Option Shown) → text ≡ stop_line s → s ≢ stop.Memory refused
    → ((n : ℕ) × (n ≤ length text) × (now ≡ appended ErrPort (take n text) was)) → Rises puts
    → Says s puts (Err Write) was now
line_cut s text puts was now e m h p = broke (m, refl) p (record {
  o = [];
  e = take h.0 text;
  of_out = record { rest = []; is = refl };
  of_err = subst (λ t. IsPrefix t (take h.0 text)) e (front_of h.0 text);
  shown = h.2 ∙ err_alone (take h.0 text) was;
})

-- a write, of which another result says the same
pub as_result : {R Q : Type 0} {all torn stopped : R → Type 0} {whole cut left : Q → Type 0} {out err : List ℕ} {puts : Count} {r : R} {q : Q}
    {was now : Option Shown} → (all r → whole q) → (torn r → cut q) → (stopped r → left q) → Writes out err all torn stopped puts r was now
    → Writes out err whole cut left puts q was now
as_result f g h (wrote c r e) = wrote c (f r) e
as_result f g h (broke r p k) = broke (g r) p k
as_result f g h (stayed c r e) = stayed c (h r) e
