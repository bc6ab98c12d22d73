-- What the program carries out: as `lnc emit` with its words, but for the C.
use Rattle.std.proofs.Common.{◌≡◌, inl, inr, ℕ, Bool, true, false, cond, ◌&&◌, nat_le, arith, List, [], ◌∷◌, length, map}
use Rattle.std.proofs.Common.{refl, ap, sym, ◌∙◌, subst, Option, Some, None, Ok, Err}
use Rattle.std.specs.Prelude.{IfSome, OnOk, Result, codes}
use Rattle.std.proofs.lemmas.Bool.Decides.{nat_tests}
use Rattle.std.proofs.lemmas.Option.{none-some}
use Rattle.ln_base.specs.Outside.{Rose, Shelf, Shown}
use Rattle.ln_tree.specs.Table.{pred_of}
use Rattle.ln_top.specs.declared.frame.ready.Ready.{Ready}
use Rattle.ln_top.specs.declared.frame.status.Early.{Early}
use Rattle.ln_top.specs.declared.frame.status.End.{End}
use Rattle.ln_top.specs.declared.frame.status.End.TheVariants.{Done}
use Rattle.ln_top.specs.declared.frame.stop.Stop.{Stop}
use Rattle.ln_top.specs.declared.frame.stop.Stop.TheVariants as stop
use Rattle.ln_top.specs.declared.frame.stop.Why.TheVariants.{Usage}
use Rattle.ln_top.specs.declared.texts.written.Style.{Style}
use Rattle.ln_top.specs.declared.words.Command.TheVariants as command
use Rattle.ln_top.specs.Answer.{IsMissing, planned, stopped}
use Rattle.ln_top.specs.Frame.Carried as c
use Rattle.ln_top.specs.Frame.Carried.{CarriesOut, Halts, NoPart, PutsText, Says}
use Rattle.ln_top.specs.Causes as cause
use Rattle.ln_top.specs.Causes.{Ends, EndsExactly}
use Rattle.ln_top.specs.Texts.Emit as emit
use Rattle.ln_top.specs.Plan.{Plan, plan_of}
use Rattle.ln_top.specs.Frame.Ready.{StandsFor}
use Rattle.ln_top.specs.Frame.Said.{Count, Said, end_status, put_both, status_of}
use Rattle.ln_top.specs.Frame.Given.{Given, gives, stops}
use Rattle.ln_top.specs.Steps.{Prepares, WhereGiven}
use Rattle.ln_top.specs.Frame.Stop.{said_of}
use Rattle.ln_top.specs.Works.{WorkEnds}
use Rattle.ln_top.proofs.FrameLemmas.LinesLaws.{ok_err, ok_same}
use Rattle.ln_top.proofs.FrameLemmas.Carry.{Duty, lift, says_carried, text_carried, writes_carried}
use Rattle.ln_top.proofs.Steps.Chain.{one_prepares}
use Rattle.ln_top.proofs.Steps.TopLaws as top
use Rattle.ln_top.proofs.Steps.TopLaws.{counted_rose, one_end, one_status, same_given, some_plan, stops_gives}
use Rattle.ln_top.specs.Exact as own
use Rattle.ln_top.specs.Texts.Written.{IsCOf, promise_of}
use Rattle.ln_top.specs.Exact.{CallsAreSigns, ExactSaid, Owes, PutIn, TurningCallsAreSigns, emit_words, file_words, style_of}

-- what the words owe
abbrev duty : List (List ℕ) → Option Shelf → Type 0 → Duty
duty words told reads = record { owes = Owes words told; part = NoPart; lacks = IsMissing (emit_words words) told; reads = reads }

-- the C was written as a whole text
pub carried : (style : Style) (r : Ready) (g : Given) (text : List ℕ) (puts : Count) (result : Result End Early) (was now : Option Shown)
    → StandsFor r g → IsCOf (promise_of style) (map pred_of r.compiled.table.preds) text → PutsText text Done puts result was now
    → CarriesOut (ExactSaid style g) NoPart ⊥ ⊥ puts result was now
carried style r g text puts result was now s x p = text_carried (ExactSaid style g) NoPart ⊥ ⊥ puts Done text result was now
    (own.written text (subst (λ t. IsCOf (promise_of style) t text) (sym (ap (λ t. t.preds) s.table)) x)) p

-- the work is carried out
pub work_carried : (words : List (List ℕ)) (style : Style) (plan : Plan) (told : Option Shelf) (g : Given) (reads : Type 0) (puts : Count)
    (result : Result End Early) (was now : Option Shown) → plan_of (emit_words words) ≡ Some plan → style_of words ≡ style
    → Prepares plan told (gives g) → CarriesOut (ExactSaid style g) NoPart ⊥ ⊥ puts result was now
    → CarriesOut (Owes words told) NoPart (IsMissing (emit_words words) told) reads puts result was now
work_carried words style plan told g reads puts result was now f e p h =
    lift {a = record { owes = ExactSaid style g; part = NoPart; lacks = ⊥; reads = ⊥ }} {b = duty words told reads} (record {
      owes = λ s o. own.worked plan g f p (subst (λ z. ExactSaid z g s) (sym e) o);
      part = λ out err q. q;
      lacks = λ x. absurd x;
      reads = λ x. absurd x;
    }) h

-- or a stop of its steps was said
pub stop_carried : (words : List (List ℕ)) (plan : Plan) (told : Option Shelf) (s : Stop) (reads : Type 0) (puts : Count)
    (result : Result End Early) (was now : Option Shown) → plan_of (emit_words words) ≡ Some plan → Halts (Prepares plan told) reads s
    → Says s puts result was now → CarriesOut (Owes words told) NoPart (IsMissing (emit_words words) told) reads puts result was now
stop_carried words plan told s reads puts result was now f h =
    says_carried (Prepares plan told) s (duty words told reads) puts result was now (λ why o. own.stopped plan why f o)
    (λ m. record { plan = plan; form = f; lacks = m }) h

-- words that are no one file are carried out by the usage line
pub usage_carried : (words : List (List ℕ)) (told : Option Shelf) (reads : Type 0) (puts : Count) (result : Result End Early)
    (was now : Option Shown) → plan_of (emit_words words) ≡ None → Says (stop.Tell Usage) puts result was now
    → CarriesOut (Owes words told) NoPart (IsMissing (emit_words words) told) reads puts result was now
usage_carried words told reads puts result was now f s =
    writes_carried (said_of Usage) (own.usage f) (λ r. r) (λ r. r.1) (λ r. r.1) s

-- words are a plan of `emit` where they are one file
too_many : (a b : Bool) (o : Option Plan) → b ≡ false → None ≡ cond (a && b) o None
too_many a true o e = cc
too_many true false o e = refl
too_many false false o e = refl

more_words : (x y : List ℕ) (ws : List (List ℕ)) → None ≡ plan_of (codes "emit" ∷ x ∷ y ∷ ws)
more_words x y ws =
    let t : nat_le (length (y ∷ ws)) 0 ≡ false = grind (arith, nat_tests) in
    too_many _ _ _ t

-- the plan is one of `emit`
is_emit : (files : List (List ℕ)) (plan : Plan) → plan_of (codes "emit" ∷ files) ≡ Some plan → plan.command ≡ command.Emit
is_emit [] plan f = absurd (none-some plan f)
is_emit (x ∷ []) plan f = sym (ap (λ (p : Plan). p.command) (some_plan f))
is_emit (x ∷ y ∷ ws) plan f = absurd (none-some plan (more_words x y ws ∙ f))

-- what is required ends as the steps of `emit` end
ends_so : (words : List (List ℕ)) (told : Option Shelf) (a : Said) → Owes words told a → Ends (emit_words words) told a.end
ends_so words told a (own.usage e) = cause.usage e refl
ends_so words told a (own.stopped plan why f p) = top.ends_so (emit_words words) told [] (said_of why) (planned plan f (stopped why p))
ends_so words told a (own.worked plan g f p (own.written text x)) =
    cause.worked plan g f p (subst (λ k. WorkEnds k g Done) (sym (is_emit (file_words words) plan f)) emit.done)

-- each end comes exactly where that of `emit` has its cause
exactly : (words : List (List ℕ)) (shelf : Shelf) (reads : Type 0) (puts : Count) (r : Result End Early) (was now : Option Shown)
    → CarriesOut (Owes words (Some shelf)) NoPart (IsMissing (emit_words words) (Some shelf)) reads puts r was now
    → EndsExactly (emit_words words) shelf (status_of r) reads (Rose puts.before puts.after)
exactly words shelf reads puts r was now (c.ended a q o x s) =
    let e = ends_so words (Some shelf) a o in
    λ k. record {
      only = λ y. subst (Ends (emit_words words) (Some shelf)) (ok_same (sym x ∙ one_status r (Ok k) y)) e;
      comes = λ y. inl (ap status_of x ∙ ap end_status (one_end (emit_words words) shelf a.end k e y));
    }
exactly words shelf reads puts r was now (c.unread q u x s) =
    top.exactly (emit_words words) shelf [] reads puts r (status_of r) was now refl (c.unread q u x s)
exactly words shelf reads puts r was now (c.cut p l x) = λ k. record {
  only = λ y. ok_err (sym (one_status r (Ok k) y) ∙ x);
  comes = λ y. inr (inr (inr (ap status_of x, counted_rose puts p)));
}
exactly words shelf reads puts r was now (c.short q l x) = λ k. record {
  only = λ y. ok_err (sym (one_status r (Ok k) y) ∙ x);
  comes = λ y. inr (inl (ap status_of x));
}

-- so it is whatever files are told
pub ends : (words : List (List ℕ)) (told : Option Shelf) (reads : Type 0) (puts : Count) (r : Result End Early) (was now : Option Shown)
    → CarriesOut (Owes words told) NoPart (IsMissing (emit_words words) told) reads puts r was now
    → IfSome told (λ shelf. EndsExactly (emit_words words) shelf (status_of r) reads (Rose puts.before puts.after))
ends words None reads puts r was now h = tt
ends words (Some shelf) reads puts r was now h = exactly words shelf reads puts r was now h

-- where it ends and the source is accepted, the C came to Out
on_ok : (r : Result End Early) (P : Type 0) → ((e : End) → r ≡ Ok e → P) → OnOk r P
on_ok (Ok e) P f = f e refl
on_ok (Err e) P f = tt

-- C of the style of the words
abbrev PutsStyle : List (List ℕ) → Shelf → Option Shown → Option Shown → Type 0
PutsStyle words shelf was now = WhereGiven (emit_words words) shelf command.Emit (λ g. PutIn (style_of words) g.table.preds was now)

put_exact : (words : List (List ℕ)) (shelf : Shelf) (a : Said) (was now : Option Shown) → Owes words (Some shelf) a
    → now ≡ put_both a.out a.err was → PutsStyle words shelf was now
put_exact words shelf a was now (own.usage e) s = λ plan g f k p. absurd (none-some plan (sym e ∙ f))
put_exact words shelf a was now (own.stopped q why e y) s = λ plan g f k p.
    stops_gives (one_prepares plan shelf _ _ (subst (λ r. Prepares r (Some shelf) (stops why)) (some_plan (sym e ∙ f)) y) p)
put_exact words shelf a was now (own.worked q h e y (own.written text x)) s = λ plan g f k p.
    let same = same_given (one_prepares plan shelf _ _ (subst (λ r. Prepares r (Some shelf) (gives h)) (some_plan (sym e ∙ f)) y) p) in
    record { bytes = text; is = subst (λ (i : Given). IsCOf (promise_of (style_of words)) i.table.preds text) same x; shown = s }

signs_there : (words : List (List ℕ)) (shelf : Shelf) (reads : Type 0) (puts : Count) (r : Result End Early) (was now : Option Shown) (e : End)
    → r ≡ Ok e → CarriesOut (Owes words (Some shelf)) NoPart (IsMissing (emit_words words) (Some shelf)) reads puts r was now
    → PutsStyle words shelf was now
signs_there words shelf reads puts r was now e k (c.ended a q o x s) = put_exact words shelf a was now o s
signs_there words shelf reads puts r was now e k (c.unread q u x s) = ok_err (sym k ∙ x)
signs_there words shelf reads puts r was now e k (c.cut p l x) = ok_err (sym k ∙ x)
signs_there words shelf reads puts r was now e k (c.short q l x) = ok_err (sym k ∙ x)

-- where the words are a file alone
every_row : (words : List (List ℕ)) (shelf : Shelf) (was now : Option Shown) → PutsStyle words shelf was now → CallsAreSigns words shelf was now
every_row [] shelf was now h = h
every_row (x ∷ []) shelf was now h = h
every_row (x ∷ y ∷ ws) shelf was now h = λ plan g f k p. absurd (none-some plan (more_words x y ws ∙ f))

-- and where they are `turning` and a file
one_order : (words : List (List ℕ)) (shelf : Shelf) (was now : Option Shown) → PutsStyle words shelf was now → TurningCallsAreSigns words shelf was now
one_order words shelf was now h file e = subst (λ ws. PutsStyle ws shelf was now) e h

-- what is claimed of the words follows, whatever files are told
module _ (words : List (List ℕ)) (Claim : Shelf → Option Shown → Option Shown → Type 0)
    (follows : (shelf : Shelf) (was now : Option Shown) → PutsStyle words shelf was now → Claim shelf was now) where
  claim_told : (told : Option Shelf) (reads : Type 0) (puts : Count) (r : Result End Early) (was now : Option Shown) (e : End)
      → r ≡ Ok e → CarriesOut (Owes words told) NoPart (IsMissing (emit_words words) told) reads puts r was now
      → IfSome told (λ shelf. Claim shelf was now)
  claim_told None reads puts r was now e k h = tt
  claim_told (Some shelf) reads puts r was now e k h = follows shelf was now (signs_there words shelf reads puts r was now e k h)

-- the C that came to Out is that of perturbed signs, whatever files are told
pub signs : (words : List (List ℕ)) (told : Option Shelf) (reads : Type 0) (puts : Count) (r : Result End Early) (was now : Option Shown)
    → CarriesOut (Owes words told) NoPart (IsMissing (emit_words words) told) reads puts r was now
    → OnOk r (IfSome told (λ shelf. CallsAreSigns words shelf was now))
signs words told reads puts r was now h = on_ok r (IfSome told (λ shelf. CallsAreSigns words shelf was now))
    (λ e k. claim_told words (CallsAreSigns words) (every_row words) told reads puts r was now e k h)

-- and that of one order
pub turning : (words : List (List ℕ)) (told : Option Shelf) (reads : Type 0) (puts : Count) (r : Result End Early) (was now : Option Shown)
    → CarriesOut (Owes words told) NoPart (IsMissing (emit_words words) told) reads puts r was now
    → OnOk r (IfSome told (λ shelf. TurningCallsAreSigns words shelf was now))
turning words told reads puts r was now h = on_ok r (IfSome told (λ shelf. TurningCallsAreSigns words shelf was now))
    (λ e k. claim_told words (TurningCallsAreSigns words) (one_order words) told reads puts r was now e k h)
