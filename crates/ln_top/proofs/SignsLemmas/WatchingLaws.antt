-- Proves what watchers write for a verdict, and where a write of theirs is cut off.
use Rattle.std.proofs.Common.{◌≡◌, ℕ, List, [], ◌∷◌, ◌++◌, take, refl, ap, sym, ◌∙◌, subst, true, Some, None}
use Rattle.std.proofs.Common.{false, Option, append_assoc}
use Rattle.ln_base.specs.Outside.{Shown, appended}
use Rattle.ln_base.specs.declared.outside.Port.{Port}
use Rattle.ln_base.specs.declared.outside.Port.TheVariants.{Out, Err as ErrPort}
use Rattle.ln_code.specs.declared.verdict.Verdict.{Verdict}
use Rattle.ln_watch.specs.Panel.{State, state_after, line_of, said_of, left_after, lines_at, FailsAfter, StopsAt}
use Rattle.ln_top.proofs.SignsLemmas.BoxLemmas.{lines-append}
use Rattle.ln_top.proofs.SignsLemmas.PutLemmas.{fails_first, fails_behind}
use Rattle.ln_top.specs.Frame.Lines.{WroteOn}
use Rattle.ln_top.specs.Frame.Said.{Count, Rises, IsCalm, broke, wrote}
use Rattle.ln_top.specs.Signs.Watching.{told_on, left_on}
use Rattle.ln_top.proofs.FrameLemmas.Carry.{front_of, out_alone, err_alone}

-- ---- a step reads the sign and the decider alone
-- verdicts with the same sign and decider have the same lines
pub lines_alike : (row : ℕ) (v u : Verdict) (boxes : List State) → v.sign ≡ u.sign → v.by ≡ u.by
    → lines_at row v boxes ≡ lines_at row u boxes
lines_alike row v u [] e f = refl
lines_alike row v u (s ∷ ss) e f = let rest = lines_alike row v u ss e f in rw (e, f, rest) refl

-- after verdicts with the same sign and decider the same watchers remain
pub left_alike : (row : ℕ) (v u : Verdict) (boxes : List State) → v.sign ≡ u.sign → v.by ≡ u.by
    → left_after row v boxes ≡ left_after row u boxes
left_alike row v u [] e f = refl
left_alike row v u (s ∷ ss) e f = let rest = left_alike row v u ss e f in rw (e, f, rest) refl

-- ---- without watchers
-- without watchers nothing is written for a record
pub none_told : (row : ℕ) (shown : Option Verdict) (boxes : List State) → boxes ≡ [] → told_on row shown boxes ≡ []
none_told row (Some v) boxes e = ap (lines_at row v) e
none_told row None boxes e = refl

-- without watchers none remains after a record
pub none_left : (row : ℕ) (shown : Option Verdict) (boxes : List State) → boxes ≡ [] → left_on row shown boxes ≡ []
none_left row (Some v) boxes e = ap (left_after row v) e
none_left row None boxes e = e

-- ---- writes
-- a verdict was shown to all watchers, or a write failed: a prefix of all their lines was written
stops_short : (row : ℕ) (v : Verdict) (boxes left : List State) (port : Port) (was now : Option Shown)
    → StopsAt row v boxes left port was now → FailsAfter port (lines_at row v boxes) was now
stops_short row v boxes left port was now h =
    let done : State = state_after row v h.done in
    let e : lines_at row v boxes ≡ (lines_at row v h.seen ++ line_of done) ++ lines_at row v h.later =
    ap (lines_at row v) h.boxes_are ∙ lines-append row v h.seen (h.done ∷ h.later)
    ∙ ap (λ k. lines_at row v h.seen ++ (said_of k done ++ lines_at row v h.later)) h.is_done
    ∙ sym (append_assoc (lines_at row v h.seen) (line_of done) (lines_at row v h.later)) in
    let behind = fails_behind port (lines_at row v h.seen) (line_of done) was (appended port (lines_at row v h.seen) was) now refl h.puts in
    subst (λ t. FailsAfter port t was now) (sym e) (fails_first port (lines_at row v h.seen ++ line_of done)
    (lines_at row v h.later) was now behind)

-- a text was written to a stream, or cut off
pub put_on : (port : Port) (text : List ℕ) (puts : Count) (was now : Option Shown) → IsCalm puts
    → now ≡ appended port text was → WroteOn port text puts true was now
put_on Out text puts was now q e = wrote q refl (e ∙ out_alone text was)
put_on ErrPort text puts was now q e = wrote q refl (e ∙ err_alone text was)

-- the write of a text to a stream failed, so the text was cut off
pub cut_on : (port : Port) (text : List ℕ) (puts : Count) (was now : Option Shown) → Rises puts → FailsAfter port text was now
    → WroteOn port text puts false was now
cut_on Out text puts was now p f =
    broke refl p (record {
      o = take f.n text;
      e = [];
      of_out = front_of f.n text;
      of_err = record { rest = []; is = refl };
      shown = f.shown ∙ out_alone (take f.n text) was;
    })
cut_on ErrPort text puts was now p f =
    broke refl p (record {
      o = [];
      e = take f.n text;
      of_out = record { rest = []; is = refl };
      of_err = front_of f.n text;
      shown = f.shown ∙ err_alone (take f.n text) was;
    })

-- a write failed while a verdict was shown, so the lines for it were cut off
pub show_cut : (row : ℕ) (v : Verdict) (boxes left : List State) (port : Port) (puts : Count) (was now : Option Shown)
    → Rises puts → StopsAt row v boxes left port was now → WroteOn port (lines_at row v boxes) puts false was now
show_cut row v boxes left port puts was now p h =
    cut_on port (lines_at row v boxes) puts was now p (stops_short row v boxes left port was now h)
