-- Proves what lines that came carry out: once for all commands that write lines as they come.
use Rattle.std.proofs.Common.{◌≡◌, ℕ, Bool, true, false, List, [], ◌++◌, refl, ap, sym, ◌∙◌, Ok, Err}
use Rattle.std.proofs.Common.{append_assoc}
use Rattle.std.proofs.lemmas.List.{append-nil}
use Rattle.std.specs.Prelude.{Result}
use Rattle.ln_top.specs.declared.frame.status.End.{End}
use Rattle.ln_top.specs.declared.frame.status.Early.{Early}
use Rattle.ln_top.specs.declared.frame.status.Early.TheVariants.{Write}
use Rattle.ln_top.specs.Frame.Said.{Said, broke, put_both, stayed, wrote}
use Rattle.ln_top.specs.Frame.Carried as c
use Rattle.ln_top.specs.Frame.Carried.{CarriesOut, ended, of_owed, of_part}
use Rattle.ln_top.specs.Frame.Lines as l
use Rattle.ln_top.specs.Frame.Lines.{Lines, Ran, WroteBoth, all_good, Closes}
use Rattle.ln_top.proofs.FrameLemmas.Loops.{Work, Streams, faults_in}
use Rattle.ln_top.proofs.FrameLemmas.LinesLaws.{rises_from, lines_have, lines_join, HasLines, fronts_behind, fronts_wider, wrote_all, broke_off}
use Rattle.ln_top.proofs.FrameLemmas.LinesLaws.{both_twice, ok_err, ok_same}

-- the task of a command that writes lines: its work on records, the last lines on each stream by the state after the records, and its end;
-- the state before the records, and the records; and what it is required to write, and which part it may leave
pub record Task (S R : Type 0) : Type 1 where
  pub work : Work S R
  pub last_out : S → List ℕ
  pub last_err : S → List ℕ
  pub ends : Bool → End
  pub state : S
  pub records : List R
  pub owes : Said → Type 0
  pub part : List ℕ → List ℕ → Type 0

-- lines with the last lines after them, as those of watchers at the end
abbrev pub with_last : {S R : Type 0} → Task S R → List ℕ → List ℕ → S → Said
with_last t out err z = record {
  end = t.ends (all_good t.work.good t.records);
  out = out ++ t.last_out z;
  err = err ++ t.last_err z;
}

-- what a command has to show: each record has its lines, the lines of all records are required, and those of the first ones
-- are a part that may be left
pub record IsByLines {S R : Type 0} (t : Task S R) : Type 0 where
  pub has : (s : S) (r : R) → (o : List ℕ) × (e : List ℕ) × (z : S) × t.work.step s r o e z
  pub whole : (out err : List ℕ) (z : S) → Lines t.work.step t.state t.records out err z → t.owes (with_last t out err z)
  pub first : (done left : List R) (out err : List ℕ) (z : S) → t.records ≡ done ++ left
      → Lines t.work.step t.state done out err z → t.part out err

-- the records of a task were worked on, or that ended early
abbrev pub HasRun : {S R : Type 0} → Task S R → Result Bool Early → S → Streams → Streams → Type 0
HasRun t result z was now = Ran t.work.step t.work.good t.state t.records z (faults_in was now) result was.shown now.shown

-- the last lines of a task were written, or cut off
abbrev pub EndsWith : {S R : Type 0} → Task S R → Bool → S → Streams → Streams → Type 0
EndsWith t done z was now = WroteBoth (t.last_out z) (t.last_err z) (faults_in was now) done was.shown now.shown

-- the last lines of a task are for Err alone; they were written, or cut off
pub record ClosesTask {S R : Type 0} (t : Task S R) (right : Bool) (result : Result End Early) (z : S) (was now : Streams) : Type 0 where
  pub silent : t.last_out z ≡ []
  pub closes : Closes (t.last_err z) (t.ends right) (faults_in was now) result was.shown now.shown

-- a task is carried out
abbrev pub IsCarriedOut : {S R : Type 0} → Task S R → Result End Early → Streams → Streams → Type 0
IsCarriedOut t result was now = CarriesOut t.owes t.part ⊥ ⊥ (faults_in was now) result was.shown now.shown

-- the lines of all records, after those of the first ones
lines_behind : {S R : Type 0} (t : Task S R) {m : S} {done left : List R} {out err : List ℕ} (behind : HasLines t.work.step m left)
    → t.records ≡ done ++ left → Lines t.work.step t.state done out err m
    → Lines t.work.step t.state t.records (out ++ behind.out) (err ++ behind.err) behind.left
lines_behind t {m = m} {out = out} {err = err} behind e d = rw e (lines_join {a = record { out = out; err = err; left = m }} d behind.lines)

early_as : {T U E : Type 0} {a b : E} → (let r : Result T E = Err a in r ≡ Err b) → (let r : Result U E = Err a in r ≡ Err b)
early_as x = cc

-- the records ended early
pub early_carried : {S R : Type 0} {t : Task S R} {early : Early} {z : S} {was now : Streams} → IsByLines t
    → HasRun t (Err early) z was now → IsCarriedOut t (Err early) was now
early_carried b (l.worked out err v d x e) = ok_err (sym x)
early_carried {t = t} {was = was} {now = now} b (l.torn done left out err m e d q f x) =
    let behind = lines_have t.work.step b.has m left in
    let w = fronts_wider out err (behind.out ++ t.last_out behind.left) (behind.err ++ t.last_err behind.left) was.shown now.shown f in
    c.cut q (of_owed (with_last t (out ++ behind.out) (err ++ behind.err) behind.left) w.o w.e
    (b.whole (out ++ behind.out) (err ++ behind.err) behind.left (lines_behind t behind e d))
    (rw append_assoc w.of_out) (rw append_assoc w.of_err) w.shown) (early_as x)
early_carried {t = t} b (l.given_up done left out err m v e h f x) =
    let behind = lines_have t.work.step b.has m left in
    let d = rw (append-nil out) at h in
    c.short v (of_part (with_last t (out ++ behind.out) (err ++ behind.err) behind.left) out err
    (b.first done left out err m e d) (b.whole (out ++ behind.out) (err ++ behind.err) behind.left (lines_behind t behind e d))
    (record { rest = _; is = append_assoc out behind.out _ }) (record { rest = _; is = append_assoc err behind.err _ }) f) (early_as x)

-- the records and the watchers' last lines stand
pub end_carried : {S R : Type 0} {t : Task S R} {right : Bool} {z : S} {was mid now : Streams} → IsByLines t
    → HasRun t (Ok right) z was mid → EndsWith t true z mid now → IsCarriedOut t (Ok (t.ends right)) was now
end_carried b (l.torn done left out err m e d q f i) v = ok_err i
end_carried b (l.given_up done left out err m u e d f i) v = ok_err i
end_carried {t = t} {z = z} {was = was} {mid = mid} {now = now} b (l.worked out err u d i f) v =
    let p = wrote_all (t.last_out z) (t.last_err z) (faults_in mid now) mid.shown now.shown v in
    ended (with_last t out err z) (p.0 ∙ u) (b.whole out err z (rw (append-nil out) at d)) (ap (λ r. Ok (t.ends r)) (ok_same i))
    (p.1 ∙ ap (put_both (t.last_out z) (t.last_err z)) f ∙ both_twice out err (t.last_out z) (t.last_err z) was.shown)

-- the watchers' last lines were cut off
pub close_carried : {S R : Type 0} {t : Task S R} {right : Bool} {z : S} {was mid now : Streams} → IsByLines t
    → HasRun t (Ok right) z was mid → EndsWith t false z mid now → IsCarriedOut t (Err Write) was now
close_carried b (l.torn done left out err m e d q f i) v = ok_err i
close_carried b (l.given_up done left out err m u e d f i) v = ok_err i
close_carried {t = t} {z = z} {was = was} {mid = mid} {now = now} b (l.worked out err u d i f) v =
    let q = broke_off (t.last_out z) (t.last_err z) (faults_in mid now) mid.shown now.shown v in
    let w = fronts_behind out err (t.last_out z) (t.last_err z) was.shown mid.shown now.shown f q.1 in
    c.cut (rises_from was.faults mid.faults now.faults u q.0)
    (of_owed (with_last t out err z) w.o w.e (b.whole out err z (rw (append-nil out) at d)) w.of_out w.of_err w.shown) refl

-- the last lines for Err were written after the records, or cut off
pub closes_carried : {S R : Type 0} {t : Task S R} {right : Bool} {result : Result End Early} {z : S} {was mid now : Streams}
    → IsByLines t → HasRun t (Ok right) z was mid → ClosesTask t right result z mid now → IsCarriedOut t result was now
closes_carried {t = t} {right = right} {result = result} {z = z} {was = was} {mid = mid} {now = now} b r k = by_result k.closes
  where
    on_err : {done : Bool} → WroteBoth [] (t.last_err z) (faults_in mid now) done mid.shown now.shown → EndsWith t done z mid now
    on_err w = rw k.silent w

    by_result : Closes (t.last_err z) (t.ends right) (faults_in mid now) result mid.shown now.shown → IsCarriedOut t result was now
    by_result (wrote q x e) = rw x (end_carried b r (on_err (wrote q refl e)))
    by_result (broke x p f) = rw x (close_carried b r (on_err (broke refl p f)))
    by_result (stayed q x e) = absurd x
