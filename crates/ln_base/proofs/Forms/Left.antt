-- The line at the start of a text, the loop over the lines, and what remains after some of them.
use Rattle.std.proofs.Common.{◌≡◌, ℕ, ◌+◌, ◌-◌, ◌≤◌, ◌<◌, suc, List, [], ◌∷◌, ◌++◌, length, take, drop, map, Option, Some}
use Rattle.std.proofs.Common.{refl, sym, ap, ◌∙◌, arith, append_assoc, append-nil, length-append, length-drop}
use Rattle.ln_base.specs.Limits.{most_file}
use Rattle.ln_base.specs.Exponents.{Each}
use Rattle.ln_base.specs.Lines.{lines, parted, span_to, words}
use Rattle.ln_base.proofs.Texts.Lines.{line_at, no_line, with_feed}
use Rattle.ln_base.proofs.Texts.Lists.{head, rest}
use Rattle.ln_base.specs.Forms.Fault.{IsFaultOf}
use Rattle.ln_base.specs.Forms.Form.{AreSound, IsRead, IsWhole, Refuses, Rules, goes, next_at, text_of, texts_of}
use Rattle.ln_base.specs.Forms.Unread.{AreLeft, Begins, GoesOn, IsFirst, IsOpened, IsTaken, NoFirst, NoneBegins, Unread}
use Rattle.ln_base.proofs.Forms.Fault.{fault_at, fault_end}
use Rattle.ln_base.proofs.Forms.Walk.{each_append, goes_append, line_words, map_append, one_line, some_next, words_line}

-- ---- the first line
-- the bytes up to and with the first line feed
pub first_of : (text : List ℕ) (end : ℕ) (body : List ℕ) → end ≡ 0 + span_to 10 (drop 0 text) → end < length text
    → body ≡ take ((end + 1) - 0) (drop 0 text) → IsFirst text body (end + 1)
first_of text end body e g q =
    let n : suc (end - 0) ≡ (end + 1) - 0 = omega arith in
    let l : take (suc (end - 0)) (drop 0 text) ≡ body = ap (λ m. take m (drop 0 text)) n ∙ sym q in
    record { same = line_at text 0 end (omega arith) e ∙ ap (λ x. x ∷ lines (drop (end + 1) text)) l; within = omega arith }

-- there is no line feed
pub no_first : (text : List ℕ) (end : ℕ) → end ≡ 0 + span_to 10 (drop 0 text) → end ≡ length text → NoFirst text
no_first [] end e g line behind q = absurd (cc)
no_first (b ∷ bs) end e g line behind q =
    no_line (b ∷ bs) line (end - 0) (omega arith) (omega arith) (head (sym (line_at (b ∷ bs) 0 end (omega arith) e) ∙ q))

-- ---- the start of a text
module _ {S L : Type 0} (R : Rules S L) where
  -- where the words up to the first line feed are a line that the state allows, the text begins with that line
  pub begins : (s : S) (text : List ℕ) (end : ℕ) (body : List ℕ) (l : L) (t : S) → 0 < length text → end ≡ 0 + span_to 10 (drop 0 text)
      → end < length text → body ≡ take (end - 0) (drop 0 text) → IsRead R s (words body) l t → Begins R s text l t (end + 1)
  begins s text end body l t h e g q r = record {
    same = line_at text 0 end h e ∙ ap (λ x. x ∷ lines (drop (end + 1) text)) (with_feed text 0 end body e g q ∙ words_line R body l r.spelled);
    range = r.range;
    leads = r.goes;
    some = omega arith;
    within = omega arith;
  }

  -- the line has no line feed
  pub none_open : (s : S) (text : List ℕ) (end : ℕ) → 0 < length text → end ≡ 0 + span_to 10 (drop 0 text) → end ≡ length text → NoneBegins R s text
  none_open s text end h e g = record {
    first = take (suc (end - 0)) (drop 0 text);
    behind = lines (drop (end + 1) text);
    same = line_at text 0 end h e;
    refused = λ l u r n q. no_line text (parted (R.words_of l)) (end - 0) (omega arith) (omega arith) q;
  }

  -- the state refuses the line
  pub none_here : AreSound R → (s : S) (text : List ℕ) (end : ℕ) (body : List ℕ) → 0 < length text → end ≡ 0 + span_to 10 (drop 0 text)
      → end < length text → body ≡ take (end - 0) (drop 0 text) → Refuses R s (words body) → NoneBegins R s text
  none_here sound s text end body h e g q f = record {
    first = take (suc (end - 0)) (drop 0 text);
    behind = lines (drop (end + 1) text);
    same = line_at text 0 end h e;
    refused = λ l u r n i. f l u (record { spelled = line_words R sound body l r (sym (with_feed text 0 end body e g q) ∙ i); range = r; goes = n });
  }

-- ---- the loop
-- what it keeps: the lines so far, after the first one, and where they lead
pub record SoFar {S L : Type 0} (R : Rules S L) (bs : List ℕ) (s : S) (text : List ℕ) (n : ℕ) : Type 0 where
  pub done : List L
  pub texts : lines bs ≡ texts_of R done ++ lines text
  pub ranges : Each R.IsLine done
  pub walked : goes R (Some R.start) done ≡ Some s
  pub counted : n ≡ length done + 2
  pub few : n + length text ≤ length bs + 2

module _ {S L : Type 0} (R : Rules S L) where
  -- before the loop only the first line has been read
  pub so_far_first : (bs : List ℕ) (behind : ℕ) (text : List ℕ) (s : S) → lines bs ≡ R.first ∷ lines (drop behind bs) → text ≡ drop behind bs
      → s ≡ R.start → SoFar R bs s text 2
  so_far_first bs behind text s e q f =
      let l : length text ≡ length bs - behind = ap length q ∙ length-drop behind bs in
      record { done = []; texts = e ∙ ap (λ x. R.first ∷ lines x) (sym q); ranges = tt; walked = ap Some (sym f); counted = refl; few = omega arith }

  texts_more : (bs : List ℕ) (done : List L) (l : L) (text more : List ℕ) → lines bs ≡ texts_of R done ++ lines text
      → lines text ≡ text_of R l ∷ lines more → lines bs ≡ texts_of R (done ++ (l ∷ [])) ++ lines more
  texts_more bs done l text more t b =
      t ∙ ap (λ x. texts_of R done ++ x) b
      ∙ ap (λ x. R.first ∷ x) (sym (append_assoc (map (text_of R) done) (text_of R l ∷ []) (lines more))
      ∙ ap (λ x. x ++ lines more) (sym (map_append (text_of R) done (l ∷ []))))

  -- the step of the loop: one line more
  pub so_far_more : (bs : List ℕ) (s : S) (text : List ℕ) (n : ℕ) (l : L) (t : S) (k : ℕ) (more : List ℕ) → SoFar R bs s text n
      → Begins R s text l t k → more ≡ drop k text → SoFar R bs t more (n + 1)
  so_far_more bs s text n l t k more h b e =
      let c : length more ≡ length text - k = ap length e ∙ length-drop k text in
      let m : length (h.done ++ (l ∷ [])) ≡ length h.done + 1 = length-append h.done (l ∷ []) in
      record {
        done = h.done ++ (l ∷ []);
        texts = texts_more bs h.done l text more h.texts (b.same ∙ ap (λ x. text_of R l ∷ lines x) (sym e));
        ranges = each_append R.IsLine h.done (l ∷ []) h.ranges (b.range, tt);
        walked = goes_append R (Some R.start) h.done (l ∷ []) ∙ ap (λ (o : Option S). next_at R o l) h.walked ∙ b.leads;
        counted = omega (arith, h.counted);
        few = omega (arith, h.few, b.some, b.within);
      }

  all_read : (bs text : List ℕ) (done : List L) → lines bs ≡ texts_of R done ++ lines text → length text ≡ 0 → lines bs ≡ texts_of R done
  all_read bs [] done t h = t ∙ append-nil (texts_of R done)
  all_read bs (b ∷ text) done t h = absurd (omega arith)

  -- at the end of the text and of the rules, the bytes are of the form, and all lines but the first remain
  pub so_far_whole : (bs : List ℕ) (behind : ℕ) (s : S) (text : List ℕ) (n : ℕ) → length bs ≤ most_file → lines bs ≡ R.first ∷ lines (drop behind bs)
      → SoFar R bs s text n → length text ≡ 0 → s ≡ R.start → IsOpened R bs (record { state = R.start; line = 2; text = drop behind bs })
  so_far_whole bs behind s text n short e h l f =
      let a : lines bs ≡ texts_of R h.done = all_read bs text h.done h.texts l in
      let w : goes R (Some R.start) h.done ≡ Some R.start = h.walked ∙ ap Some f in
      let d : length (drop behind bs) ≡ length bs - behind = length-drop behind bs in
      let left : AreLeft R (record { state = R.start; line = 2; text = drop behind bs }) h.done =
      record { texts = rest (sym e ∙ a); ranges = h.ranges; ends = w } in
      record {
        whole = record { read = h.done; ranges = h.ranges; leads = w; same = a };
        left = left;
        unread = record { rest = h.done; left = left; few = omega arith };
        second = refl;
      }

  -- where no text remains, no line does
  pub none_left : (u : Unread S) (ls : List L) → AreLeft R u ls → length u.text ≡ 0 → ls ≡ []
  none_left u ls h e = by u.text ls e h.texts
    where
      by : (text : List ℕ) (ls : List L) → length text ≡ 0 → lines text ≡ map (text_of R) ls → ls ≡ []
      by (b ∷ bs) ls e q = absurd (omega arith)
      by [] [] e q = refl
      by [] (x ∷ ls) e q = absurd (cc)

  -- where lines remain, the line at the start isn't refused
  pub none_refused : (u : Unread S) (ls : List L) → AreLeft R u ls → NoneBegins R u.state u.text → ⊥
  none_refused u [] h b = absurd (let e = sym b.same ∙ h.texts in cc)
  none_refused u (x ∷ xs) h b =
      let n = some_next R (R.next_of u.state x) xs R.start h.ends in
      b.refused x n.0 h.ranges.0 n.1 (head (sym b.same ∙ h.texts))

module _ {S L : Type 0} (R : Rules S L) (sound : AreSound R) where
  -- a line that the state refuses is the fault
  pub so_far_fault : (bs : List ℕ) (s : S) (text : List ℕ) (n : ℕ) → SoFar R bs s text n → NoneBegins R s text → IsFaultOf (IsWhole R) bs n
  so_far_fault bs s text n h b =
      fault_at R sound bs h.done s b.first b.behind n (h.texts ∙ ap (λ x. texts_of R h.done ++ x) b.same) h.ranges h.walked b.refused h.counted

  -- and so is the end of the text where no text of the form ends
  pub so_far_short : (bs : List ℕ) (s : S) (text : List ℕ) (n : ℕ) → SoFar R bs s text n → length text ≡ 0 → (s ≡ R.start → ⊥) → IsFaultOf (IsWhole R) bs n
  so_far_short bs s text n h e f = fault_end R sound bs h.done s n (all_read R bs text h.done h.texts e) h.ranges h.walked f h.counted

  -- the line at the start is the first of those that remain
  goes_on : (u w : Unread S) (l : L) (t : S) (k : ℕ) → Begins R u.state u.text l t k → w.state ≡ t → w.text ≡ drop k u.text
      → (ls : List L) → AreLeft R u ls → GoesOn R ls l w
  goes_on u w l t k b c d [] h = absurd (let z = sym b.same ∙ h.texts in cc)
  goes_on u w l t k b c d (x ∷ xs) h =
      let m = some_next R (R.next_of u.state x) xs R.start h.ends in
      let z : text_of R l ∷ lines (drop k u.text) ≡ text_of R x ∷ map (text_of R) xs = sym b.same ∙ h.texts in
      let r : l ≡ x = one_line R sound u.state l x t m.0 b.leads m.1 b.range h.ranges.0 (head z) in
      let g : R.next_of u.state x ≡ Some t = ap (R.next_of u.state) (sym r) ∙ b.leads in
      record {
        behind = xs;
        first = ap (λ y. y ∷ xs) (sym r);
        left = record {
          texts = ap lines d ∙ rest z;
          ranges = h.ranges.1;
          ends = ap (λ (s : S). goes R (Some s) xs) c ∙ ap (λ (o : Option S). goes R o xs) (sym g) ∙ h.ends;
        };
      }

  -- and is taken
  pub taken : (u w : Unread S) (l : L) (t : S) (k : ℕ) → Begins R u.state u.text l t k → w.line ≡ u.line + 1 → w.state ≡ t
      → w.text ≡ drop k u.text → IsTaken R u l w
  taken u w l t k b m c d =
      let n : length w.text ≡ length u.text - k = ap length d ∙ length-drop k u.text in
      record { goes_on = goes_on u w l t k b c d; next = m; shorter = omega (arith, b.some, b.within) }

-- ---- lines that are gathered
-- of all that were left, these were taken, and the others are left
abbrev pub Gathered : {S L : Type 0} → Rules S L → Rules S L → Unread S → Unread S → List L → Type 0
Gathered {L = L} R Q old now done = (ls : List L) → AreLeft R old ls → (behind : List L) × (ls ≡ done ++ behind) × AreLeft Q now behind

-- one line more
pub gathered_more : {S L : Type 0} (R P Q : Rules S L) (old u w : Unread S) (done more : List L) (l : L) → Gathered R P old u done
    → ((ls : List L) → AreLeft P u ls → GoesOn Q ls l w) → more ≡ done ++ (l ∷ []) → Gathered R Q old w more
gathered_more R P Q old u w done more l g t q ls h =
    let p = g ls h in
    let k = t p.0 p.2 in
    (k.behind, p.1 ∙ ap (λ x. done ++ x) k.first ∙ sym (append_assoc done (l ∷ []) k.behind) ∙ ap (λ x. x ++ k.behind) (sym q), k.left)
