-- A list of watchers, one after the other.
use Rattle.std.proofs.Common.{◌≡◌, ℕ, suc, ◌+◌, ◌<◌, ◌≤◌, List, [], ◌∷◌, ◌++◌, length, take, drop}
use Rattle.std.proofs.Common.{refl, ap, sym, ◌∙◌, arith, Option, Result, Ok, Err, OnErr, get_or, set, append_assoc}
use Rattle.std.proofs.Common.{length-append}
use Rattle.std.proofs.lemmas.List.{drop_more, take_more_set, drop-set-lt, take-set, take_at, drop_at, append-nil}
use Rattle.std.proofs.lemmas.List.{length-take, length-set, get_or-set_same}
use Rattle.std.proofs.Math.Nat.{min-eq_left}
use Rattle.std.specs.Prelude.{remove}
use Rattle.ln_base.specs.Outside.{Shown, appended}
use Rattle.ln_base.specs.declared.outside.Port.{Port}
use Rattle.ln_base.proofs.Kept.{appended-twice}
use Rattle.ln_code.specs.declared.verdict.Verdict.{Verdict}
use Rattle.ln_watch.specs.declared.watch.Keep.{Keep}
use Rattle.ln_watch.specs.declared.watch.Keep.TheVariants.{Stay, Done}
use Rattle.ln_watch.specs.Fold.{tally_after, keep_after, watch_text}
use Rattle.ln_watch.specs.Panel.{State, states_of, state_after, feed, line_of, left_after, lines_at}
use Rattle.ln_watch.specs.Panel.{last_lines, FailsAfter, StopsAt}
use Rattle.ln_top.proofs.SignsLemmas.PutLemmas.{fails_first, fails_behind}
use Rattle.ln_top.proofs.FrameLemmas.Loops.{Streams}

-- the states of one list of watchers followed by another are those of both
pub states-append : {B : Type 0} (kind : B → ℕ) (tally : B → List ℕ) (xs ys : List B)
    → states_of kind tally (xs ++ ys) ≡ states_of kind tally xs ++ states_of kind tally ys
states-append kind tally [] ys = refl
states-append kind tally (x ∷ xs) ys =
    ap (λ (q : List State). record { kind = kind x; tally = tally x } ∷ q) (states-append kind tally xs ys)

-- of one list of watchers followed by another, those remain after a verdict that remain of each
pub left-append : (row : ℕ) (v : Verdict) (xs ys : List State)
    → left_after row v (xs ++ ys) ≡ left_after row v xs ++ left_after row v ys
left-append row v [] ys = refl
left-append row v (x ∷ xs) ys = let e = left-append row v xs ys in rw (e, append_assoc) refl

-- the lines that one list of watchers followed by another writes for a verdict are those of each
pub lines-append : (row : ℕ) (v : Verdict) (xs ys : List State) → lines_at row v (xs ++ ys) ≡ lines_at row v xs ++ lines_at row v ys
lines-append row v [] ys = refl
lines-append row v (x ∷ xs) ys = let e = lines-append row v xs ys in rw (e, append_assoc) refl

-- where a call returns an error, what holds whatever it returns
pub on_err : {T E P : Type 0} (r : Result T E) → P → OnErr r P
on_err (Ok x) p = tt
on_err (Err x) p = p

-- how watchers are read: the kind of each, and what it has counted
pub record Reading (B : Type 0) : Type 0 where
  pub kind : B → ℕ
  pub tally : B → List ℕ

-- the state of a watcher
abbrev pub state_in : {B : Type 0} → Reading B → B → State
state_in w b = record { kind = w.kind b; tally = w.tally b }

-- the states of a list of watchers
abbrev pub states_in : {B : Type 0} → Reading B → List B → List State
states_in w items = states_of w.kind w.tally items

-- the bytes of a watcher's line
abbrev pub line_in : {B : Type 0} → Reading B → B → List ℕ
line_in w b = feed (watch_text (w.kind b) (w.tally b))

-- what watchers are shown: the verdict on the row with this number; and the port that their lines go to
pub record Display : Type 0 where
  pub row : ℕ
  pub verdict : Verdict
  pub port : Port

-- a panel at one time: its watchers, and the streams
pub record Bench (B : Type 0) : Type 0 where
  pub items : List B
  pub streams : Streams

-- the watcher at a place of a list
pub record IsAt {B : Type 0} (items : List B) (i : ℕ) (here : B) : Type 0 where
  pub within : i < length items
  pub is : here ≡ get_or items i here

-- the watcher at a place saw the verdict: from the old one it became the new one, and it stays or is done
pub record Sees {B : Type 0} (w : Reading B) (d : Display) (items : List B) (i : ℕ) (keep : Keep) : Type 0 where
  pub old : B
  pub new : B
  pub place : IsAt items i old
  pub kind : w.kind new ≡ w.kind old
  pub tally : w.tally new ≡ tally_after (w.kind old) (w.tally old) d.row d.verdict
  pub keeps : keep ≡ keep_after (w.kind old) (w.tally old) d.row d.verdict

-- the watcher that a place has then is taken out of the list
pub record TakesOut {B : Type 0} (items : List B) (i : ℕ) (new : B) (rest : List B) : Type 0 where
  pub done : B
  pub is : done ≡ get_or (set items i new) i done
  pub rest_is : rest ≡ remove (set items i new) i

-- the watchers before place i have seen the verdict, and their lines are written
pub record Showing {B : Type 0} (w : Reading B) (d : Display) (from : Bench B) (i : ℕ) (now : Bench B) : Type 0 where
  pub seen : List State
  pub split : states_in w from.items ≡ seen ++ states_in w (drop i now.items)
  pub left : states_in w (take i now.items) ≡ left_after d.row d.verdict seen
  pub puts : now.streams.shown ≡ appended d.port (lines_at d.row d.verdict seen) from.streams.shown
  pub fine : now.streams.faults ≡ from.streams.faults
  pub within : i ≤ length now.items

-- the watcher at a place and those after it
from-here : {B : Type 0} {items : List B} {i : ℕ} {here : B} → IsAt items i here → drop i items ≡ here ∷ drop (i + 1) items
from-here {items = items} {i = i} {here = here} p = rw (← p.is) at (drop_more items i here p.within)

-- the state of the watcher at a place, among all states
with-one : {B : Type 0} (w : Reading B) (states : List State) {items : List B} {i : ℕ} {here : B} (seen : List State)
    → IsAt items i here → states ≡ seen ++ states_in w (drop i items)
    → states ≡ (seen ++ state_in w here ∷ []) ++ states_in w (drop (i + 1) items)
with-one w states seen p s = rw append_assoc (s ∙ ap (λ q. seen ++ states_in w q) (from-here p))

-- a watcher that stays
pub stays : {B : Type 0} {w : Reading B} {d : Display} {from now : Bench B} {i : ℕ} → Showing w d from i now
    → (s : Sees w d now.items i Stay) → Showing w d from (i + 1) (record { items = set now.items i s.new; streams = now.streams })
stays {w = w} {d = d} {from = from} {now = now} {i = i} k s =
    let items = now.items in
    let front : take (i + 1) (set items i s.new) ≡ take i items ++ s.new ∷ [] = take_more_set items i s.new s.place.within in
    let back : drop (i + 1) (set items i s.new) ≡ drop (i + 1) items = drop-set-lt (i + 1) items i s.new (omega arith) in
    record {
      seen = k.seen ++ state_in w s.old ∷ [];
      split = rw back (with-one w (states_in w from.items) k.seen s.place k.split);
      left = rw (front, states-append w.kind w.tally (take i items) (s.new ∷ []), k.left, left-append, ← s.keeps, s.kind, s.tally) refl;
      puts = rw (lines-append, ← s.keeps, append-nil (lines_at d.row d.verdict k.seen)) k.puts;
      fine = k.fine;
      within = let w1 : i < length items = s.place.within in omega (arith, length-set items i s.new, w1);
    }

-- what remains when the watcher at a place is taken out
taken : {B : Type 0} (items rest : List B) (i : ℕ) (new : B) → i < length items → rest ≡ remove (set items i new) i
    → rest ≡ take i items ++ drop (i + 1) items
taken items rest i new w r =
    let one : suc i ≡ i + 1 = omega arith in
    let lt : i < suc i = omega arith in
    r ∙ rw (take-set, drop-set-lt, one) refl

-- the line of the watcher that was taken out is that of its state after the verdict
taken-line : {B : Type 0} {w : Reading B} {d : Display} {items rest : List B} {i : ℕ} (s : Sees w d items i Done)
    (t : TakesOut items i s.new rest) → line_in w t.done ≡ line_of (state_after d.row d.verdict (state_in w s.old))
taken-line {w = w} {items = items} {i = i} s t =
    let in_list : i < length items = s.place.within in
    let is_new : t.done ≡ s.new = t.is ∙ rw get_or-set_same refl in
    rw (is_new, s.kind, s.tally) refl

-- a watcher that is done: its line is written and it is gone
pub leaves : {B : Type 0} {w : Reading B} {d : Display} {from now next : Bench B} {i : ℕ} → Showing w d from i now
    → (s : Sees w d now.items i Done) (t : TakesOut now.items i s.new next.items)
    → next.streams.shown ≡ appended d.port (line_in w t.done) now.streams.shown → next.streams.faults ≡ now.streams.faults
    → Showing w d from i next
leaves {w = w} {d = d} {from = from} {now = now} {next = next} {i = i} k s t p c =
    let items = now.items in
    let size : length (take i items) ≡ i = length-take i items ∙ min-eq_left k.within in
    let parts : next.items ≡ take i items ++ drop (i + 1) items = taken items next.items i s.new s.place.within t.rest_is in
    let front : take i next.items ≡ take i items = rw parts (take_at (take i items) (drop (i + 1) items) i size) in
    let back : drop i next.items ≡ drop (i + 1) items = rw parts (drop_at (take i items) (drop (i + 1) items) i size) in
    record {
      seen = k.seen ++ state_in w s.old ∷ [];
      split = rw back (with-one w (states_in w from.items) k.seen s.place k.split);
      left = rw (front, left-append, ← s.keeps, append-nil (left_after d.row d.verdict k.seen)) k.left;
      puts = p ∙ rw (taken-line s t, k.puts, appended-twice, lines-append, ← s.keeps, append-nil) refl;
      fine = c ∙ k.fine;
      within = omega (arith, ap length parts, length-append (take i items) (drop (i + 1) items), size);
    }

-- the write of its line fails
pub stopped : {B : Type 0} {w : Reading B} {d : Display} {from now : Bench B} {i : ℕ} {rest : List B} {later : Option Shown}
    → Showing w d from i now → (s : Sees w d now.items i Done) (t : TakesOut now.items i s.new rest)
    → FailsAfter d.port (line_in w t.done) now.streams.shown later
    → StopsAt d.row d.verdict (states_in w from.items) (states_in w rest) d.port from.streams.shown later
stopped {w = w} {d = d} {from = from} {now = now} {i = i} {rest = rest} k s t p =
    let items = now.items in
    let parts : rest ≡ take i items ++ drop (i + 1) items = taken items rest i s.new s.place.within t.rest_is in
    record {
      seen = k.seen;
      done = state_in w s.old;
      later = states_in w (drop (i + 1) items);
      boxes_are = k.split ∙ ap (λ q. k.seen ++ states_in w q) (from-here s.place);
      is_done = sym s.keeps;
      left_are =
          ap (states_in w) parts ∙ states-append w.kind w.tally (take i items) (drop (i + 1) items)
          ∙ ap (λ q. q ++ states_in w (drop (i + 1) items)) k.left;
      puts = rw (taken-line s t, k.puts) at p;
    }

-- the lines of the watchers before place i are written
pub record Closing {B : Type 0} (w : Reading B) (port : Port) (items : List B) (i : ℕ) (was now : Streams) : Type 0 where
  pub sent : List ℕ
  pub split : last_lines (states_in w items) ≡ sent ++ last_lines (states_in w (drop i items))
  pub puts : now.shown ≡ appended port sent was.shown
  pub fine : now.faults ≡ was.faults

last-from : {B : Type 0} {w : Reading B} {port : Port} {items : List B} {i : ℕ} {here : B} {was now : Streams}
    (k : Closing w port items i was now) → IsAt items i here
    → last_lines (states_in w items) ≡ (k.sent ++ line_in w here) ++ last_lines (states_in w (drop (i + 1) items))
last-from {w = w} {items = items} {i = i} {here = here} k p =
    k.split ∙ ap (λ q. k.sent ++ last_lines (states_in w q)) (from-here p)
    ∙ sym (append_assoc k.sent (line_in w here) (last_lines (states_in w (drop (i + 1) items))))

-- the next line stands too
pub closes : {B : Type 0} {w : Reading B} {port : Port} {items : List B} {i : ℕ} {here : B} {was now next : Streams}
    → Closing w port items i was now → IsAt items i here
    → (next.shown ≡ appended port (line_in w here) now.shown) × (next.faults ≡ now.faults)
    → Closing w port items (i + 1) was next
closes {w = w} {here = here} k p n = record {
  sent = k.sent ++ line_in w here;
  split = last-from k p;
  puts = n.0 ∙ rw (k.puts, appended-twice) refl;
  fine = n.1 ∙ k.fine;
}

-- where the write of the next line fails, a prefix of all last lines was written
pub cut_at : {B : Type 0} {w : Reading B} {port : Port} {items : List B} {i : ℕ} {here : B} {was now : Streams} {later : Option Shown}
    → Closing w port items i was now → IsAt items i here → FailsAfter port (line_in w here) now.shown later
    → FailsAfter port (last_lines (states_in w items)) was.shown later
cut_at {w = w} {port = port} {items = items} {i = i} {here = here} {was = was} {now = now} {later = later} k p f =
    rw (last-from k p) (fails_first port (k.sent ++ line_in w here) (last_lines (states_in w (drop (i + 1) items))) was.shown later
    (fails_behind port k.sent (line_in w here) was.shown now.shown later k.puts f))
