-- Work on records, one after the other: once for all commands that write lines as they come.
use Rattle.std.proofs.Common.{◌≡◌, ℕ, Bool, true, false, ◌&&◌, List, [], ◌∷◌}
use Rattle.std.proofs.Common.{◌++◌, refl, ap, sym, ◌∙◌, subst, Option, Some, None, Ok, Err, append_assoc}
use Rattle.std.specs.Prelude.{IfSome, Result}
use Rattle.std.proofs.lemmas.List.{append-nil}
use Rattle.std.proofs.Math.Bool.{and-true, and_assoc}
use Rattle.ln_base.specs.Outside.{Shown, refused}
use Rattle.ln_base.specs.declared.outside.Port.TheVariants.{Out}
use Rattle.ln_top.specs.declared.frame.status.Early.{Early}
use Rattle.ln_top.specs.declared.frame.status.Early.TheVariants.{Write, Memory}
use Rattle.ln_top.specs.declared.frame.status.Early.TheVariants as early
use Rattle.ln_base.specs.Prefixes.{IsPrefix}
use Rattle.ln_top.specs.Frame.Said.{Count, PutsFronts, broke, count, Rises, IsCalm, put_both, stayed, wrote}
use Rattle.ln_top.proofs.FrameLemmas.Carry.{both_nothing}
use Rattle.ln_top.specs.Frame.Lines as l
use Rattle.ln_top.specs.Frame.Lines.{Step, Lines, none, more, all_good, every, WroteBoth, took, tore, left_off}
use Rattle.ln_top.specs.Frame.Lines.{worked, torn, given_up}
use Rattle.ln_top.proofs.FrameLemmas.Loops.{Written, StepTo, LinesTo, and_then}
use Rattle.ln_top.proofs.FrameLemmas.Loops.{Work, each_good, Streams, faults_in, Stand, Point, Loop, begun, with_held, TakesTo, EmptiesTo}
use Rattle.ln_top.proofs.FrameLemmas.Loops.{GathersTo, SendsTo, RanTo, PutsTo, PutsAllTo}

-- what is known of a value that is there
pub from_some : {X : Type 0} (o : Option X) (x : X) (P : X → Type 0) → IfSome o P → o ≡ Some x → P x
from_some {X = X} o x P h e = subst (λ (q : Option X). IfSome q P) e h

-- both streams, twice
pub both_twice : (o e out err : List ℕ) (was : Option Shown)
    → put_both out err (put_both o e was) ≡ put_both (o ++ out) (e ++ err) was
both_twice o e out err None = refl
both_twice o e out err (Some s) = rw (append_assoc s.out o out, append_assoc s.err e err) refl

-- a result isn't both Ok and Err
pub ok_err : {T E : Type 0} {P : Type 0} {a : T} {b : E} → (let r : Result T E = Ok a in r ≡ Err b) → P
ok_err e = cc

-- more after a text, and more before one
pub front_wider : (text next front : List ℕ) → IsPrefix text front → IsPrefix (text ++ next) front
front_wider text next front f = record { rest = f.rest ++ next; is = ap (λ t. t ++ next) f.is ∙ append_assoc front f.rest next }

-- a prefix stays one where the same bytes come before it and before the whole text
pub front_behind : (before text front : List ℕ) → IsPrefix text front → IsPrefix (before ++ text) (before ++ front)
front_behind before text front f = record { rest = f.rest; is = ap (λ t. before ++ t) f.is ∙ sym (append_assoc before front f.rest) }

-- prefixes after what was written
pub fronts_behind : (o e out err : List ℕ) (was mid now : Option Shown) → mid ≡ put_both o e was
    → PutsFronts out err mid now → PutsFronts (o ++ out) (e ++ err) was now
fronts_behind o e out err was mid now m f = record {
  o = o ++ f.o;
  e = e ++ f.e;
  of_out = front_behind o out f.o f.of_out;
  of_err = front_behind e err f.e f.of_err;
  shown = f.shown ∙ ap (put_both f.o f.e) m ∙ both_twice o e f.o f.e was;
}

-- prefixes on both streams are prefixes of longer texts
pub fronts_wider : (o e out err : List ℕ) (was now : Option Shown) → PutsFronts o e was now → PutsFronts (o ++ out) (e ++ err) was now
fronts_wider o e out err was now f = record {
  o = f.o;
  e = f.e;
  of_out = front_wider o out f.o f.of_out;
  of_err = front_wider e err f.e f.of_err;
  shown = f.shown;
}

-- lines after lines
pub lines_join : {S R : Type 0} {step : Step S R} {s : S} {xs ys : List R} {a b : Written S} → LinesTo step s xs a
    → LinesTo step a.left ys b → LinesTo step s (xs ++ ys) (and_then a b)
lines_join (none _) k = k
lines_join {step = step} {s = s} {xs = _ ∷ xs} {ys = ys} {b = b} (more {out = o2} {err = e2} r o1 e1 n t l) k =
    rw (append_assoc o1 o2 b.out, append_assoc e1 e2 b.err)
    (more r o1 e1 n t (lines_join {a = record { out = o2; err = e2; left = _ }} l k))

lines_one : {S R : Type 0} {step : Step S R} {s : S} {r : R} {a : Written S} → StepTo step s r a → LinesTo step s (r ∷ []) a
lines_one {r = r} {a = a} t = rw (← append-nil a.out, ← append-nil a.err) (more r a.out a.err a.left t (none a.left))

good_join : {R : Type 0} (good : R → Bool) (xs : List R) (r : R) → all_good good (xs ++ r ∷ []) ≡ (all_good good xs && good r)
good_join good [] r = and-true (good r)
good_join good (x ∷ xs) r = ap (λ b. good x && b) (good_join good xs r) ∙ sym (and_assoc (good x) (all_good good xs) (good r))

-- a count that rose after one that stood still has risen
pub rises_from : (a b d : ℕ) → b ≡ a → Rises (count b d) → Rises (count a d)
rises_from a b d e h = subst (λ k. Rises (count k d)) e h

-- equal results that are Ok have equal values
pub ok_same : {T E : Type 0} {a b : T} → (let q : Result T E = Ok a in q ≡ Ok b) → a ≡ b
ok_same e = cc

-- what was held, after what was written
behind : (sent err held : List ℕ) (was mid now : Option Shown) → mid ≡ put_both sent err was → now ≡ put_both held [] mid
    → now ≡ put_both (sent ++ held) err was
behind sent err held was mid now f g = rw (g, f, both_twice sent err held [] was, append-nil) refl

broke_behind : (sent err held : List ℕ) (was mid now : Option Shown) → mid ≡ put_both sent err was
    → PutsFronts held [] mid now → PutsFronts (sent ++ held) err was now
broke_behind sent err held was mid now f w = rw (← append-nil err) (fronts_behind sent err held [] was mid now f w)

-- a failed allocation isn't a failed write
pub memory_write : {T : Type 0} {P : Type 0} → (let r : Result T Early = Err (early.Memory refused) in r ≡ Err early.Write) → P
memory_write e = cc

-- the lines of the first records are written, or the last of them are held, and the rest remains: what was written and what is held
-- are the lines so far
pub record Running {S R : Type 0} (w : Work S R) (from : Stand S R) (now : Loop S R) : Type 0 where
  pub done : List R
  pub parts : from.left ≡ done ++ now.left
  pub sent : List ℕ
  pub err : List ℕ
  pub lines : Lines w.step from.state done (sent ++ now.at.held) err now.at.state
  pub shown : now.at.streams.shown ≡ put_both sent err from.streams.shown
  pub goods : now.good ≡ all_good w.good done
  pub calm : now.at.streams.faults ≡ from.streams.faults

-- a loop over records begins with none done and nothing held
pub running_none : {S R : Type 0} {w : Work S R} {from : Stand S R} {held : List ℕ} → held ≡ [] → Running w from (begun from held)
running_none {w = w} {from = from} h = record {
  done = [];
  parts = refl;
  sent = [];
  err = [];
  lines = subst (λ a. Lines w.step from.state [] a [] from.state) (sym h) (none from.state);
  shown = sym (both_nothing from.streams.shown);
  goods = refl;
  calm = refl;
}

-- the lines of one record more
lines_more : {S R : Type 0} {step : Step S R} {s : S} {done : List R} {r : R} {a b : Written S} → LinesTo step s done a
    → StepTo step a.left r b → LinesTo step s (done ++ r ∷ []) (and_then a b)
lines_more k t = lines_join k (lines_one t)

-- a record was taken: its bytes for Out were gathered, and those for Err were written
pub running_takes : {S R : Type 0} {w : Work S R} {from : Stand S R} {now next : Loop S R} {r : R} {right : Bool}
    → Running w from now → now.left ≡ r ∷ next.left → TakesTo w r (Ok right) now.at next.at → next.good ≡ (now.good && right)
    → Running w from next
running_takes {w = w} {from = from} {now = now} {next = next} {r = r} k l (took o e q t x g f) h = record {
  done = k.done ++ r ∷ [];
  parts = k.parts ∙ rw (l, append_assoc) refl;
  sent = k.sent;
  err = k.err ++ e;
  lines = rw (g, ← append_assoc k.sent now.at.held o) (lines_more k.lines t);
  shown = rw (f, k.shown, both_twice k.sent k.err [] e from.streams.shown, append-nil) refl;
  goods = h ∙ rw (k.goods, good_join) (ap (λ b. all_good w.good k.done && b) (ok_same x));
  calm = q ∙ k.calm;
}
running_takes k l (tore o e n t p x f) h = ok_err x
running_takes k l (left_off q x g f) h = ok_err x

-- it wasn't: a write was cut off, or it was given up
pub running_stops : {S R : Type 0} {w : Work S R} {from : Stand S R} {now : Loop S R} {r : R} {rest : List R} {early : Early} {end : Point S}
    → Running w from now → now.left ≡ r ∷ rest → TakesTo w r (Err early) now.at end → GathersTo w from (Err early) end
running_stops k l (took o e q t x g f) = ok_err (sym x)
running_stops {w = w} {from = from} {now = now} {r = r} {rest = rest} {end = end} k l (tore o e n t p x f) =
    let held = now.at.held in
    let was = from.streams.shown in
    let later = end.streams.shown in
    let wide = fronts_wider (k.sent ++ []) (k.err ++ e) (held ++ o) [] was later
    (fronts_behind k.sent k.err [] e was now.at.streams.shown later k.shown f) in
    let out = rw (append-nil k.sent, ← append_assoc k.sent held o, append-nil (k.err ++ e)) at wide in
    torn (k.done ++ r ∷ []) rest ((k.sent ++ held) ++ o) (k.err ++ e) n (k.parts ∙ rw (l, append_assoc) refl)
    (lines_more k.lines t) (rises_from from.streams.faults now.at.streams.faults end.streams.faults k.calm p) out x
running_stops {w = w} {from = from} {now = now} k l (left_off q x g f) =
    given_up k.done now.left k.sent k.err now.at.state (q ∙ k.calm) k.parts (rw g k.lines) (f ∙ k.shown) x

-- what was held is held on, or it was written
pub running_empties : {S R : Type 0} {w : Work S R} {from : Stand S R} {now : Loop S R} {kept : List ℕ} {later : Streams}
    → Running w from now → EmptiesTo now.at true kept later → Running w from (with_held now kept later)
running_empties k (broke x p f) = cc
running_empties k (stayed q (x, e) n) = record {
  done = k.done;
  parts = k.parts;
  sent = k.sent;
  err = k.err;
  lines = rw e k.lines;
  shown = n ∙ k.shown;
  goods = k.goods;
  calm = q ∙ k.calm;
}
running_empties {from = from} {now = now} {later = later} k (wrote q (x, e) n) =
    record {
      done = k.done;
      parts = k.parts;
      sent = k.sent ++ now.at.held;
      err = k.err;
      lines = rw (e, append-nil (k.sent ++ now.at.held)) k.lines;
      shown = behind k.sent k.err now.at.held from.streams.shown now.at.streams.shown later.shown k.shown n;
      goods = k.goods;
      calm = q ∙ k.calm;
    }

-- a piece was cut off
pub running_breaks : {S R : Type 0} {w : Work S R} {from : Stand S R} {now : Loop S R} {kept : List ℕ} {end : Point S}
    → Running w from now → EmptiesTo now.at false kept end.streams → GathersTo w from (Err Write) end
running_breaks k (stayed q (x, e) n) = cc
running_breaks k (wrote q (x, e) n) = cc
running_breaks {from = from} {now = now} {end = end} k (broke x p f) =
    torn k.done now.left (k.sent ++ now.at.held) k.err now.at.state k.parts k.lines
    (rises_from from.streams.faults now.at.streams.faults end.streams.faults k.calm p)
    (broke_behind k.sent k.err now.at.held from.streams.shown now.at.streams.shown end.streams.shown k.shown f) refl

-- they were given up
pub running_gives_up : {S R : Type 0} {w : Work S R} {from : Stand S R} {now : Loop S R} (z : S) → Running w from now
    → GathersTo w from (Err (Memory refused)) (record { state = z; held = now.at.held; streams = now.at.streams })
running_gives_up {now = now} z k = given_up k.done now.left k.sent k.err now.at.state k.calm k.parts k.lines k.shown refl

-- the records of a loop that has none left are all done
whole_done : {S R : Type 0} {w : Work S R} {from : Stand S R} {now : Loop S R} (k : Running w from now) → now.left ≡ [] → k.done ≡ from.left
whole_done k e = sym (k.parts ∙ rw (e, append-nil) refl)

-- a loop over records ends where none remains: all are done
pub running_all : {S R : Type 0} {w : Work S R} {from : Stand S R} {now : Loop S R} → Running w from now → now.left ≡ []
    → GathersTo w from (Ok now.good) now.at
running_all {w = w} {from = from} {now = now} k e =
    let whole = whole_done k e in
    worked k.sent k.err k.calm (rw (← whole) k.lines) (ap Ok (k.goods ∙ ap (all_good w.good) whole)) k.shown

-- what was held was written after the records, and so all of it is written
pub sends_ran : {S R : Type 0} {w : Work S R} {from : Stand S R} {ran result : Result Bool Early} {end : Point S} {now : Streams}
    → GathersTo w from ran end → SendsTo end ran result now → RanTo w from result end.state now
sends_ran {from = from} {end = end} {now = now} (worked sent err q t x f) (wrote p (n, y) g) =
    worked (sent ++ end.held) err (p ∙ q) (rw (append-nil (sent ++ end.held)) t) (y ∙ x)
    (behind sent err end.held from.streams.shown end.streams.shown now.shown f g)
sends_ran {from = from} {end = end} {now = now} (worked sent err q t x f) (broke (n, y) p g) =
    torn from.left [] (sent ++ end.held) err end.state (sym (append-nil from.left)) t
    (rises_from from.streams.faults end.streams.faults now.faults q p)
    (broke_behind sent err end.held from.streams.shown end.streams.shown now.shown f g) y
sends_ran (worked sent err q t x f) (stayed p (n, y) g) = ok_err (sym x ∙ n)
sends_ran (torn done left out err m e t p f x) (wrote q (n, y) g) = absurd (n x)
sends_ran (torn done left out err m e t p f x) (broke (n, y) q g) = absurd (n x)
sends_ran {from = from} (torn done left out err m e t p f x) (stayed q (n, y) g) =
    torn done left out err m e t (q ∙ p) (subst (λ o. PutsFronts out err from.streams.shown o) (sym g) f) (y ∙ x)
sends_ran {from = from} {end = end} {now = now} (given_up done left sent err m q e t f x) (wrote p (n, y) g) =
    given_up done left (sent ++ end.held) err m (p ∙ q) e (rw (append-nil (sent ++ end.held)) t)
    (behind sent err end.held from.streams.shown end.streams.shown now.shown f g) (y ∙ x)
sends_ran {from = from} {end = end} {now = now} (given_up done left sent err m q e t f x) (broke (n, y) p g) =
    torn done left (sent ++ end.held) err m e t (rises_from from.streams.faults end.streams.faults now.faults q p)
    (broke_behind sent err end.held from.streams.shown end.streams.shown now.shown f g) y
sends_ran (given_up done left sent err m q e t f x) (stayed p (n, y) g) = memory_write (sym x ∙ n)

-- where each record has its lines, a list of them has
pub record HasLines {S R : Type 0} (step : Step S R) (s : S) (records : List R) : Type 0 where
  pub out : List ℕ
  pub err : List ℕ
  pub left : S
  pub lines : Lines step s records out err left

-- where each record has its lines, a list of records has its own
pub lines_have : {S R : Type 0} (step : Step S R)
    → ((s : S) (r : R) → (o : List ℕ) × (e : List ℕ) × (z : S) × step s r o e z) → (s : S) (records : List R)
    → HasLines step s records
lines_have step has s [] = record { out = []; err = []; left = s; lines = none s }
lines_have step has s (r ∷ rest) =
    let one = has s r in
    let next = lines_have step has one.2 rest in
    record { out = one.0 ++ next.out; err = one.1 ++ next.err; left = next.left; lines = more r one.0 one.1 one.2 one.3 next.lines }

-- where each record has one, a list of them has
pub record SameLines {S : Type 0} (a b : Written S) : Type 0 where
  pub outs : a.out ≡ b.out
  pub errs : a.err ≡ b.err
  pub lefts : a.left ≡ b.left

-- where a step has one result on each record, a list of records has one
pub one_lines : {S R : Type 0} (step : Step S R)
    → ((s : S) (r : R) (a b : Written S) → StepTo step s r a → StepTo step s r b → SameLines a b) → (s : S) (records : List R)
    (a b : Written S) → LinesTo step s records a → LinesTo step s records b → SameLines a b
one_lines step one s [] a b (none _) (none _) = record { outs = refl; errs = refl; lefts = refl }
one_lines step one s (r ∷ rest) a b (more {out = o2} {err = e2} _ o1 e1 m t l) (more {out = p2} {err = f2} _ p1 f1 n u k) =
    let here = one s r (record { out = o1; err = e1; left = m }) (record { out = p1; err = f1; left = n }) t u in
    let next = one_lines step one n rest (record { out = o2; err = e2; left = a.left }) (record { out = p2; err = f2; left = b.left })
    (subst (λ q. Lines step q rest o2 e2 a.left) here.lefts l) k in
    record {
      outs = ap (λ x. x ++ o2) here.outs ∙ ap (λ x. p1 ++ x) next.outs;
      errs = ap (λ x. x ++ e2) here.errs ∙ ap (λ x. f1 ++ x) next.errs;
      lefts = next.lefts;
    }

-- what a write that was reported whole, or cut off, wrote
pub wrote_all : (out err : List ℕ) (puts : Count) (was now : Option Shown) → WroteBoth out err puts true was now
    → IsCalm puts × (now ≡ put_both out err was)
wrote_all out err puts was now (wrote q d e) = (q, e)
wrote_all out err puts was now (broke d p f) = cc
wrote_all out err puts was now (stayed q d e) = absurd d

-- for a write that was reported cut off a fault was counted, and prefixes were written
pub broke_off : (out err : List ℕ) (puts : Count) (was now : Option Shown) → WroteBoth out err puts false was now
    → Rises puts × PutsFronts out err was now
broke_off out err puts was now (wrote q d e) = cc
broke_off out err puts was now (broke d p f) = (p, f)
broke_off out err puts was now (stayed q d e) = absurd d

-- nothing comes last on a stream
abbrev pub no_last : {S : Type 0} → S → List ℕ
no_last z = []

-- ---- records whose bytes are written at once: nothing is held
all_every : {R : Type 0} (xs : List R) → all_good every xs ≡ true
all_every [] = refl
all_every (x ∷ xs) = all_every xs

-- the same where the bytes of each record are written at once: nothing is held, and each record is good
abbrev pub Writing : {S R : Type 0} → Step S R → Stand S R → Stand S R → Type 0
Writing step from now = Running (each_good step) from (begun now [])

-- a record was written
pub running_puts : {S R : Type 0} {step : Step S R} {from now next : Stand S R} {r : R} → Writing step from now
    → now.left ≡ r ∷ next.left → PutsTo step r true now next.state next.streams → Writing step from next
running_puts {step = step} {from = from} {now = now} {next = next} {r = r} k l p =
    let w = wrote_all p.out p.err (faults_in now.streams next.streams) now.streams.shown next.streams.shown p.wrote in
    let t : step now.state r p.out p.err next.state = rw (p.stays refl) p.stepped in
    record {
      done = k.done ++ r ∷ [];
      parts = k.parts ∙ rw (l, append_assoc) refl;
      sent = k.sent ++ p.out;
      err = k.err ++ p.err;
      lines = rw (append-nil (k.sent ++ p.out)) (rw (append-nil k.sent) at (lines_more k.lines t));
      shown = w.1 ∙ ap (put_both p.out p.err) k.shown ∙ both_twice k.sent k.err p.out p.err from.streams.shown;
      goods = sym (all_every (k.done ++ r ∷ []));
      calm = w.0 ∙ k.calm;
    }

-- or it was cut off
pub running_tears : {S R : Type 0} {step : Step S R} {from now : Stand S R} {r : R} {rest : List R} {z : S} {later : Streams}
    → Writing step from now → now.left ≡ r ∷ rest → PutsTo step r false now z later → PutsAllTo step false from z later
running_tears {step = step} {from = from} {now = now} {r = r} {rest = rest} {later = later} k l p =
    let mid = now.streams.shown in
    let w = broke_off p.out p.err (faults_in now.streams later) mid later.shown p.wrote in
    torn (k.done ++ r ∷ []) rest (k.sent ++ p.out) (k.err ++ p.err) p.left (k.parts ∙ rw (l, append_assoc) refl)
    (rw (append-nil k.sent) at (lines_more k.lines p.stepped))
    (rises_from from.streams.faults now.streams.faults later.faults k.calm w.0)
    (fronts_behind k.sent k.err p.out p.err from.streams.shown mid later.shown k.shown w.1) refl

-- all of them were written
pub running_done : {S R : Type 0} {step : Step S R} {from now : Stand S R} → Writing step from now → now.left ≡ []
    → PutsAllTo step true from now.state now.streams
running_done k e = running_all k e
