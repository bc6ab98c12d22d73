-- The loop over the lines of a trace.
use Rattle.std.proofs.Common.{◌≡◌, ℕ, ◌+◌, suc, refl, sym, ◌∙◌, ap, subst, arith, List, [], ◌∷◌, length, ◌≤◌, false, true≢false}
use Rattle.std.specs.Prelude.{Result, Ok, None, Option, Some}
use Rattle.ln_base.proofs.Forms.Judging.{not_both, one_fault, Reached, reached_all}
use Rattle.ln_tree.specs.Row.{Row}
use Rattle.ln_rows.specs.Left.{Records}
use Rattle.ln_rows.specs.Record.{read_row}
use Rattle.ln_rows.specs.declared.record.RowStop.{RowStop}
use Rattle.ln_trace.specs.declared.line.TraceLine.{TraceLine}
use Rattle.ln_trace.specs.declared.line.TraceLine.TheVariants as line
use Rattle.ln_trace.specs.Trace.{Between, Place, Rule, Subject, Within}
use Rattle.ln_trace.specs.Judge.{Go, IsAgreed, IsFirstFault, judge_of, IsAnswer, Lacks}
use Rattle.ln_algebra.specs.Tree.{Tree}
use Rattle.ln_base.specs.Limits.{most_file}
use Rattle.ln_base.specs.Forms.Source as source
use Rattle.ln_base.proofs.Forms.Walk.{few_lines}
use Rattle.ln_tree.specs.declared.shape.Shape.{Shape}
use Rattle.ln_order.proofs.Signs.RowSigns.{rows-differ}
use Rattle.ln_poly.specs.Sparse.{Sparse}
use Rattle.ln_stage.specs.Staged.{Staged}
use Rattle.ln_rows.proofs.Fields.RangeLemmas.{row_in_range}
use Rattle.ln_trace.specs.declared.progress.Progress.{Progress}
use Rattle.ln_trace.specs.declared.judged.Judged.{Judged}
use Rattle.ln_trace.specs.declared.judged.Judged.TheVariants.{Agreed, Wrong}
use Rattle.ln_trace.specs.Form.{IsKept}
use Rattle.ln_trace.specs.Here.{HasPoly, IsHere, subject_of}
use Rattle.ln_trace.specs.Judged.{IsJudged, fault_of}
use Rattle.ln_trace.specs.Reading.{trace_rules}
use Rattle.ln_trace.specs.Signs.{AreRight, signs_in}
use Rattle.ln_trace.specs.Unread.{AreLeft, Takes, Unread}
use Rattle.ln_trace.proofs.Agreeing.{agreed-right}

module _ (s : Subject) where
  -- ---- records are neither lost nor made
  abbrev size : Place → ℕ
  size (Between seen left) = seen + length left
  size (Within seen left row stood) = seen + length left

  same-size : (p q : Place) (l : TraceLine) → Rule s p l q → size q ≡ size p
  same-size (Between seen left) q (line.Refused n) r =
      let e : size q ≡ (seen + 1) + length r.behind = ap size r.to in
      let f : length left ≡ suc (length r.behind) = ap length r.next in
      omega (arith, e, f)
  same-size (Between seen left) q (line.Row n) r =
      let e : size q ≡ (seen + 1) + length r.behind = ap size r.to in
      let f : length left ≡ suc (length r.behind) = ap length r.next in
      omega (arith, e, f)
  same-size (Within seen left row stood) q (line.At exps z) r = ap size r.to
  same-size (Within seen left row stood) q (line.Sign t) r = ap size r.to
  same-size p q l r = absurd r

  go-size : (p q : Place) (ls : List TraceLine) → Go s p ls q → size q ≡ size p
  go-size p q [] g = ap size g
  go-size p q (l ∷ ls) (t, u, g) = go-size t q ls g ∙ same-size p t l u

  -- as many stood as there are
  pub counts : (records : Records) (ls : List TraceLine) (seen : ℕ) → Go s (Between 0 records) ls (Between seen []) → seen ≡ length records
  counts records ls seen g =
      let d : seen + 0 ≡ 0 + length records = go-size (Between 0 records) (Between seen []) ls g in
      omega (arith, d)

  -- where all lines lead to the place after the last record, the trace is agreed
  pub ends : (records : Records) (ls : List TraceLine) (seen : ℕ) → Go s (Between 0 records) ls (Between seen []) → IsAgreed s records ls
  ends records ls seen g = subst (λ k. Go s (Between 0 records) ls (Between k [])) (counts records ls seen g) g

  -- ---- one result
  same-rest : (f g : List (List ℕ)) (left a b : Records) → left ≡ f ∷ a → left ≡ g ∷ b → (f ≡ g) × (a ≡ b)
  same-rest f g left a b p q = (cc, cc)

  same-row : (o : Result Row RowStop) (a b : Row) → o ≡ Ok a → o ≡ Ok b → a ≡ b
  same-row o a b p q = cc

  one-place : (p q r : Place) (l : TraceLine) → Rule s p l q → Rule s p l r → q ≡ r
  one-place (Between seen left) q r (line.Refused n) h k =
      let e = same-rest h.fields k.fields left h.behind k.behind h.next k.next in h.to ∙ ap (Between (seen + 1)) e.1 ∙ sym k.to
  one-place (Between seen left) q r (line.Row n) h k =
      let e = same-rest h.fields k.fields left h.behind k.behind h.next k.next in
      let o : h.row ≡ k.row = same-row (read_row s.sites s.vars k.fields) h.row k.row (ap (read_row s.sites s.vars) (sym e.0) ∙ h.read) k.read in
      h.to ∙ ap (λ b. Within (seen + 1) b h.row []) e.1 ∙ ap (λ w. Within (seen + 1) k.behind w []) o ∙ sym k.to
  one-place (Within seen left row stood) q r (line.At exps z) h k = h.to ∙ sym k.to
  one-place (Within seen left row stood) q r (line.Sign t) h k = h.to ∙ sym k.to
  one-place p q r l h k = absurd h

  -- an agreed trace has no first line that fails
  pub not-both : (records : Records) (ls : List TraceLine) (n : ℕ) → IsAgreed s records ls → IsFirstFault s records ls n → ⊥
  not-both records ls n a f = not_both (judge_of s) one-place (Between 0 records) ls n (Between (length records) []) a (λ z. z refl) f

  -- only one line of a trace is the first that fails
  pub one-fault : (records : Records) (ls : List TraceLine) (m n : ℕ) → IsFirstFault s records ls m → IsFirstFault s records ls n → m ≡ n
  one-fault records ls m n f g = one_fault (judge_of s) one-place (Between 0 records) ls m n f g

module _ (s : Shape) (e : Tree) (st : Staged) (rows : Records) (d : Progress) where
  -- within a row, or where a record didn't stand, the lines may not end
  pub here-lacks : ((d.inside ≡ false) × (rows ≡ []) → ⊥) → (here : Place) → IsHere s e st rows d here → Lacks here
  here-lacks a (Between seen left) i = λ z. a (i.0, i.2 ∙ z)
  here-lacks a (Within seen left row stood) i = tt

  -- after the last record the trace is agreed, over as many records as were seen
  pub here-ends : (records : Records) (ls rest : List TraceLine) (n k : ℕ)
      → Reached (judge_of (subject_of s e)) (Between 0 records) (IsHere s e st rows d) ls rest n → rest ≡ []
      → (d.inside ≡ false) × (rows ≡ []) → k ≡ d.seen → IsJudged (subject_of s e) records ls (Agreed k)
  here-ends records ls rest n k r z o q =
      let a = reached_all (judge_of (subject_of s e)) (Between 0 records) (IsHere s e st rows d) ls rest n r z in go a.0 a.1 a.2
    where
      go : (here : Place) → Go (subject_of s e) (Between 0 records) ls here → IsHere s e st rows d here
          → IsJudged (subject_of s e) records ls (Agreed k)
      go (Within seen left row stood) g i = absurd (true≢false (sym i.0 ∙ o.0))
      go (Between seen left) g i =
          let h : Go (subject_of s e) (Between 0 records) ls (Between seen []) =
          subst (λ (x : Records). Go (subject_of s e) (Between 0 records) ls (Between seen x)) (sym i.2 ∙ o.1) g in
          (ends (subject_of s e) records ls seen h, q ∙ i.1 ∙ counts (subject_of s e) records ls seen h)

-- the next line is taken where the reader takes one
pub takes-line : (u w : Unread) (o : Option TraceLine) → Takes u o w
    → source.Takes (λ (l : TraceLine). l) AreLeft (λ (x : Unread). x.line) (λ (x : Unread). length x.text) u o w
takes-line u w None t = (t.0, ap (λ (x : Unread). x.line) t.1)
takes-line u w (Some l) t =
    record { goes_on = λ ls h. let k = t.goes_on ls h in (k.behind, k.first, k.left); number = t.next; smaller = t.shorter }

-- ---- what the result means
-- what was judged of a trace, without the number of records, is its result
pub judged-answer : (s : Subject) (records : Records) (ls : List TraceLine) (j : Judged) → IsJudged s records ls j → IsAnswer s records ls (fault_of j)
judged-answer s records ls (Agreed n) h = h.0
judged-answer s records ls (Wrong n) h = h

same-count : (n m : ℕ) → Agreed n ≡ Agreed m → n ≡ m
same-count n m e = cc

-- an agreed trace has as many records as were counted
pub judged-count : (s : Subject) (records : Records) (ls : List TraceLine) (j : Judged) (n : ℕ) → IsJudged s records ls j → j ≡ Agreed n → n ≡ length records
judged-count s records ls (Agreed m) n h e = sym (same-count m n e) ∙ h.1
judged-count s records ls (Wrong m) n h e = cc

-- and what it says of each record is right
pub judged-signs : (s : Shape) (e : Tree) (f : Sparse) (records : Records) (ls : List TraceLine) (j : Judged) (n : ℕ) → HasPoly s e f
    → IsJudged (subject_of s e) records ls j → j ≡ Agreed n → AreRight (subject_of s e) records (signs_in ls)
judged-signs s e f records ls (Agreed m) n p h q =
    agreed-right (subject_of s e) records ls p.inputs (λ fields row read. rows-differ s row (row_in_range s.sites s.vars fields row s.kept read)) h.0
judged-signs s e f records ls (Wrong m) n p h q = cc

-- the first line that fails is the result
pub fault-answer : (s : Subject) (records : Records) (ls : List TraceLine) (j : Judged) (o : Option ℕ) → o ≡ fault_of j → IsJudged s records ls j
    → IsAnswer s records ls o
fault-answer s records ls j o r h = subst (IsAnswer s records ls) (sym r) (judged-answer s records ls j h)

-- and where there is none, what the trace says of each record is right
pub fault-signs : (s : Shape) (e : Tree) (f : Sparse) (records : Records) (ls : List TraceLine) (j : Judged) (o : Option ℕ) → HasPoly s e f
    → o ≡ fault_of j → IsJudged (subject_of s e) records ls j → o ≡ None → AreRight (subject_of s e) records (signs_in ls)
fault-signs s e f records ls (Agreed n) o p r h q = judged-signs s e f records ls (Agreed n) n p h refl
fault-signs s e f records ls (Wrong n) o p r h q = let k : Some n ≡ None = sym r ∙ q in cc

-- a trace of at most 67,108,864 bytes has at most as many lines
pub few-lines : (ls : List TraceLine) → IsKept ls → length ls ≤ most_file
few-lines ls h = omega (arith, h.short, few_lines trace_rules h.bytes ls h.text.text)
