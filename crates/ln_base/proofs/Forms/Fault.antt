-- Where the reader stops is the place of the fault.
use Rattle.std.proofs.Common.{◌≡◌, ℕ, suc, ◌+◌, List, [], ◌∷◌, ◌++◌, length, take, map, Option, Some, refl, sym, ap, ◌∙◌}
use Rattle.std.proofs.Common.{subst, arith, append_assoc, append-nil}
use Rattle.ln_base.specs.Exponents.{Each}
use Rattle.ln_base.specs.Lines.{lines}
use Rattle.ln_base.proofs.Texts.Lists.{head, rest}
use Rattle.ln_base.specs.Forms.Fault.{IsFaultOf}
use Rattle.ln_base.specs.Prefixes.{IsPrefixOf}
use Rattle.ln_base.specs.Forms.Form.{AreSound, IsWhole, RefusesText, Rules, goes, text_of, texts_of}
use Rattle.ln_base.proofs.Forms.Walk.{each_append, goes_append, map_append, one_line, some_next}

-- the lines after those that were read
record Behind {S L : Type 0} (R : Rules S L) (done : List L) (t : S) (ts : List (List ℕ)) (ls : List L) : Type 0 where
  rest : List L
  same : ts ≡ map (text_of R) rest
  whole : ls ≡ done ++ rest
  ranges : Each R.IsLine rest
  ends : goes R (Some t) rest ≡ Some R.start

module _ {L : Type 0} (f : L → List ℕ) where
  take_some : (done : List L) (ts : List (List ℕ)) → take (length done) (map f done ++ ts) ≡ map f done
  take_some [] ts = refl
  take_some (d ∷ done) ts = ap (λ (w : List (List ℕ)). f d ∷ w) (take_some done ts)

  take_more : (done : List L) (t : List ℕ) (ts : List (List ℕ)) → take (suc (length done)) (map f done ++ (t ∷ ts)) ≡ map f done ++ (t ∷ [])
  take_more [] t ts = refl
  take_more (d ∷ done) t ts = ap (λ (w : List (List ℕ)). f d ∷ w) (take_more done t ts)

  long : (done : List L) (ts : List (List ℕ)) → length (map f done ++ ts) ≡ length done + length ts
  long [] ts = omega arith
  long (d ∷ done) ts = let h = long done ts in omega arith

module _ {S L : Type 0} (R : Rules S L) (sound : AreSound R) where
  -- lines that lead from the start to some state are the first of a text of the form
  front : (ls : List L) (s : S) → Each R.IsLine ls → goes R (Some R.start) ls ≡ Some s → IsPrefixOf (IsWhole R) (texts_of R ls)
  front ls s p e =
      let f = sound.finish s in (
        map (text_of R) f.last,
        record {
          read = ls ++ f.last;
          ranges = each_append R.IsLine ls f.last p f.ranges;
          leads = goes_append R (Some R.start) ls f.last ∙ ap (λ (o : Option S). goes R o f.last) e ∙ f.leads;
          same = ap (λ w. R.first ∷ w) (sym (map_append (text_of R) ls f.last));
        },
      )

  split : (done : List L) (s t : S) → Each R.IsLine done → goes R (Some s) done ≡ Some t → (ts : List (List ℕ)) (ls : List L)
      → Each R.IsLine ls → goes R (Some s) ls ≡ Some R.start → map (text_of R) done ++ ts ≡ map (text_of R) ls → Behind R done t ts ls
  split [] s t p e ts ls q f g =
      record {
        rest = ls;
        same = g;
        whole = refl;
        ranges = q;
        ends = let r : s ≡ t = cc in subst (λ (w : S). goes R (Some w) ls ≡ Some R.start) r f;
      }
  split (d ∷ done) s t p e ts [] q f g = absurd (cc)
  split (d ∷ done) s t p e ts (x ∷ ls) q f g =
      let u = some_next R (R.next_of s d) done t e in
      let y = some_next R (R.next_of s x) ls R.start f in
      let r = one_line R sound s d x u.0 y.0 u.1 y.1 p.0 q.0 (head g) in
      let w : R.next_of s x ≡ Some u.0 = ap (R.next_of s) (sym r) ∙ u.1 in
      let b = split done u.0 t p.1 (ap (λ (o : Option S). goes R o done) (sym u.1) ∙ e) ts ls q.1
      (ap (λ (o : Option S). goes R o ls) (sym w) ∙ f) (rest g) in
      record { rest = b.rest; same = b.same; whole = (λ i. sym r i ∷ b.whole i); ranges = b.ranges; ends = b.ends }

  -- what is whole begins with these lines, and goes on after them
  goes_on : (done : List L) (s : S) (more : List (List ℕ)) → Each R.IsLine done → goes R (Some R.start) done ≡ Some s
      → (w : IsWhole R (texts_of R done ++ more)) → Behind R done s more w.read
  goes_on done s more p e w = split done R.start s p e more w.read w.ranges w.leads (rest w.same)

  refused : (done : List L) (s : S) (t : List ℕ) (more : List (List ℕ)) → Each R.IsLine done → goes R (Some R.start) done ≡ Some s
      → RefusesText R s t → IsWhole R (texts_of R done ++ (t ∷ more)) → ⊥
  refused done s t more p e f w =
      let b = goes_on done s (t ∷ more) p e w in
      by b.rest b.same b.ranges b.ends
    where
      by : (ls : List L) → t ∷ more ≡ map (text_of R) ls → Each R.IsLine ls → goes R (Some s) ls ≡ Some R.start → ⊥
      by [] g q h = absurd (cc)
      by (x ∷ ls) g q h = let u = some_next R (R.next_of s x) ls R.start h in f x u.0 q.0 u.1 (head g)

  unfinished : (done : List L) (s : S) → Each R.IsLine done → goes R (Some R.start) done ≡ Some s → (s ≡ R.start → ⊥) → IsWhole R (texts_of R done) → ⊥
  unfinished done s p e n w =
      let x : IsWhole R (texts_of R done ++ []) = subst (λ (t : List (List ℕ)). IsWhole R t) (sym (append-nil (texts_of R done))) w in
      let b = goes_on done s [] p e x in
      by b.rest b.same b.ends
    where
      by : (ls : List L) → [] ≡ map (text_of R) ls → goes R (Some s) ls ≡ Some R.start → ⊥
      by [] g h = let q : s ≡ R.start = cc in n q
      by (x ∷ ls) g h = absurd (cc)

  -- after lines that lead to a state, a text that the state refuses is the fault, with its number
  pub fault_at : (bytes : List ℕ) (done : List L) (s : S) (t : List ℕ) (ts : List (List ℕ)) (at : ℕ) → lines bytes ≡ texts_of R done ++ (t ∷ ts)
      → Each R.IsLine done → goes R (Some R.start) done ≡ Some s → RefusesText R s t → at ≡ length done + 2 → IsFaultOf (IsWhole R) bytes at
  fault_at bytes done s t ts at w p e f n =
      let k : length (map (text_of R) done ++ (t ∷ ts)) ≡ length done + suc (length ts) = long (text_of R) done (t ∷ ts) in
      let l : length (lines bytes) ≡ suc (length done + suc (length ts)) = ap length w ∙ ap suc k in
      let m : at ≡ suc (suc (length done)) = omega arith in
      record {
        before = suc (length done);
        number = omega arith;
        within = omega arith;
        front = subst (λ (x : List (List ℕ)). IsPrefixOf (IsWhole R) x)
            (sym (ap (take (suc (length done))) w ∙ ap (λ (x : List (List ℕ)). R.first ∷ x) (take_some (text_of R) done (t ∷ ts)))) (front done s p e);
        refused = λ _ g. let r : take at (lines bytes) ≡ texts_of R done ++ (t ∷ []) =
            ap (λ (i : ℕ). take i (lines bytes)) m ∙ ap (take (suc (suc (length done)))) w
            ∙ ap (λ (x : List (List ℕ)). R.first ∷ x) (take_more (text_of R) done t ts) in
            let q : IsWhole R ((texts_of R done ++ (t ∷ [])) ++ g.0) = subst (λ (x : List (List ℕ)). IsWhole R (x ++ g.0)) r g.1 in
            refused done s t g.0 p e f (subst (λ (x : List (List ℕ)). IsWhole R x) (append_assoc (texts_of R done) (t ∷ []) g.0) q);
        unfinished = λ h. absurd (omega arith);
      }

  -- where all lines lead to a state in which they may not end, the fault is one past the last
  pub fault_end : (bytes : List ℕ) (done : List L) (s : S) (at : ℕ) → lines bytes ≡ texts_of R done → Each R.IsLine done
      → goes R (Some R.start) done ≡ Some s → (s ≡ R.start → ⊥) → at ≡ length done + 2 → IsFaultOf (IsWhole R) bytes at
  fault_end bytes done s at w p e n a =
      let x : lines bytes ≡ texts_of R done ++ [] = w ∙ sym (append-nil (texts_of R done)) in
      let k : length (map (text_of R) done ++ []) ≡ length done + 0 = long (text_of R) done [] in
      let l : length (lines bytes) ≡ suc (length done + 0) = ap length x ∙ ap suc k in
      record {
        before = suc (length done);
        number = omega arith;
        within = omega arith;
        front = subst (λ (y : List (List ℕ)). IsPrefixOf (IsWhole R) y)
            (sym (ap (take (suc (length done))) x ∙ ap (λ (y : List (List ℕ)). R.first ∷ y) (take_some (text_of R) done []))) (front done s p e);
        refused = λ h. absurd (omega arith);
        unfinished = λ h g. unfinished done s p e n (subst (λ (y : List (List ℕ)). IsWhole R y) w g);
      }

  -- no texts are two
  pub one_whole : (texts : List (List ℕ)) (v w : IsWhole R texts) → v.read ≡ w.read
  one_whole texts v w =
      let b = goes_on v.read R.start [] v.ranges v.leads
      (record { read = w.read; ranges = w.ranges; leads = w.leads; same = append-nil (texts_of R v.read) ∙ sym v.same ∙ w.same }) in
      by b.rest b.same b.whole
    where
      by : (ls : List L) → [] ≡ map (text_of R) ls → w.read ≡ v.read ++ ls → v.read ≡ w.read
      by [] e f = sym (f ∙ append-nil v.read)
      by (x ∷ ls) e f = absurd (cc)
