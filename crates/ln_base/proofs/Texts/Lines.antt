-- Bytes as lines, and back.
use Rattle.std.proofs.Common.{◌≡◌, ℕ, zero, suc, ◌+◌, ◌-◌, ◌≤◌, ◌<◌, ◌==◌, Bool, true, false, List, [], ◌∷◌, ◌++◌, length, get_or, take}
use Rattle.std.proofs.Common.{drop, map, ◌⊎◌, inl, inr, refl, sym, ap, ◌∙◌, subst, arith, append_assoc, drop-cons, drop-drop}
use Rattle.std.specs.Prelude.{if◌then◌else◌}
use Rattle.std.proofs.lemmas.Bool.{eqb-true}
use Rattle.std.proofs.lemmas.List.{take_all, length-drop}
use Rattle.ln_base.specs.Exponents.{Each}
use Rattle.ln_base.specs.Lines.{is_plain, joined, lines, onto, parted, span_to}
use Rattle.ln_base.proofs.Texts.Lists.{head, rest}
use Rattle.ln_base.proofs.Texts.Words.{ArePlain, lines_first}

-- from a place on, the first line goes to the next line feed or to the end, and the other lines begin after it
pub line_at : (bs : List ℕ) (at end : ℕ) → at < length bs → end ≡ at + span_to 10 (drop at bs)
    → lines (drop at bs) ≡ take (suc (end - at)) (drop at bs) ∷ lines (drop (end + 1) bs)
line_at bs at end h e =
    let c = drop-cons bs at 0 h in
    let f : lines (drop at bs) ≡ take (suc (span_to 10 (drop at bs))) (drop at bs) ∷ lines (drop (suc (span_to 10 (drop at bs))) (drop at bs)) =
    rw c (lines_first (get_or bs at 0) (drop (suc at) bs)) in
    let s : span_to 10 (drop at bs) ≡ end - at = omega arith in
    let d : drop (suc (end - at)) (drop at bs) ≡ drop (end + 1) bs =
    drop-drop (suc (end - at)) at bs ∙ ap (λ n. drop n bs) {x = at + suc (end - at)} {y = end + 1} (omega arith) in
    f ∙ ap (λ n. take (suc n) (drop at bs) ∷ lines (drop (suc n) (drop at bs))) s ∙ ap (λ x. take (suc (end - at)) (drop at bs) ∷ lines x) d

-- of a text with a line feed, the bytes up to and with the first one are those before it and a line feed
pub feed : (xs : List ℕ) → span_to 10 xs < length xs → take (suc (span_to 10 xs)) xs ≡ take (span_to 10 xs) xs ++ (10 ∷ [])
feed [] h = absurd (omega arith)
feed (b ∷ bs) h = by (b == 10) (eqb-true b 10) h (feed bs)
  where
    by : (t : Bool) → (t ≡ true → b ≡ 10) → (if t then 0 else suc (span_to 10 bs)) < suc (length bs) →
        (span_to 10 bs < length bs → take (suc (span_to 10 bs)) bs ≡ take (span_to 10 bs) bs ++ (10 ∷ [])) →
        take (suc (if t then 0 else suc (span_to 10 bs))) (b ∷ bs) ≡ take (if t then 0 else suc (span_to 10 bs)) (b ∷ bs) ++ (10 ∷ [])
    by true e h f = ap (λ x. x ∷ []) (e refl)
    by false e h f = ap (λ x. b ∷ x) (f (omega arith))

-- a line that ends at a line feed is its body and that line feed
pub with_feed : (bs : List ℕ) (at end : ℕ) (body : List ℕ) → end ≡ at + span_to 10 (drop at bs) → end < length bs
    → body ≡ take (end - at) (drop at bs) → take (suc (end - at)) (drop at bs) ≡ body ++ (10 ∷ [])
with_feed bs at end body e h q =
    let s : end - at ≡ span_to 10 (drop at bs) = omega arith in
    let l : length (drop at bs) ≡ length bs - at = simp length-drop in
    rw (q, s) (feed (drop at bs) (omega arith))

-- a text that ends in a line feed has a line feed
pub stops : (w : List ℕ) → span_to 10 (w ++ (10 ∷ [])) < length (w ++ (10 ∷ []))
stops [] = omega arith
stops (b ∷ bs) = by (b == 10) (stops bs)
  where
    by : (t : Bool) → span_to 10 (bs ++ (10 ∷ [])) < length (bs ++ (10 ∷ []))
        → (if t then 0 else suc (span_to 10 (bs ++ (10 ∷ [])))) < suc (length (bs ++ (10 ∷ [])))
    by true h = omega arith
    by false h = omega arith

-- a text without a line feed is no line
pub no_line : (xs w : List ℕ) (n : ℕ) → span_to 10 xs ≡ length xs → span_to 10 xs ≡ n → take (suc n) xs ≡ w ++ (10 ∷ []) → ⊥
no_line xs w n e f q =
    let a : take (suc n) xs ≡ xs = take_all (suc n) xs (omega arith) in
    let d : span_to 10 xs < length xs = subst (λ (z : List ℕ). span_to 10 z < length z) (sym q ∙ a) (stops w) in
    omega arith

-- a byte before the first of some texts is that byte before all of them joined
pub onto_joined : (b : ℕ) (ts : List (List ℕ)) → joined (onto b ts) ≡ b ∷ joined ts
onto_joined b [] = refl
onto_joined b (t ∷ ts) = refl

-- the lines of a text, joined, are the text
pub joined_lines : (bs : List ℕ) → joined (lines bs) ≡ bs
joined_lines [] = refl
joined_lines (b ∷ bs) = by (b == 10) (joined_lines bs)
  where
    by : (t : Bool) → joined (lines bs) ≡ bs → joined (if t then (b ∷ []) ∷ lines bs else onto b (lines bs)) ≡ b ∷ bs
    by true h = ap (λ x. b ∷ x) h
    by false h = onto_joined b (lines bs) ∙ ap (λ x. b ∷ x) h

-- no line feed is in it
abbrev pub one_line : List ℕ → Bool
one_line [] = true
one_line (b ∷ bs) = if b == 10 then false else one_line bs

-- a text without a line feed, then a line feed, is the first line of what begins so
pub line_end : (w rest : List ℕ) → one_line w ≡ true → lines (w ++ (10 ∷ rest)) ≡ (w ++ (10 ∷ [])) ∷ lines rest
line_end [] rest p = refl
line_end (b ∷ bs) rest p = by (b == 10) p (λ q. line_end bs rest q)
  where
    by : (u : Bool) → (if u then false else one_line bs) ≡ true → (one_line bs ≡ true → lines (bs ++ (10 ∷ rest)) ≡ (bs ++ (10 ∷ [])) ∷ lines rest) →
        (if u then (b ∷ []) ∷ lines (bs ++ (10 ∷ rest)) else onto b (lines (bs ++ (10 ∷ rest)))) ≡ (b ∷ bs ++ (10 ∷ [])) ∷ lines rest
    by true p h = absurd (cc)
    by false p h = ap (onto b) (h p)

-- a plain word before a text without a line feed brings no line feed into it
pub plain_before : (w rest : List ℕ) → is_plain w ≡ true → one_line rest ≡ true → one_line (w ++ rest) ≡ true
plain_before [] rest p q = q
plain_before (b ∷ bs) rest p q = by (b == 32) (b == 10) p (λ r. plain_before bs rest r q)
  where
    by : (t u : Bool) → (if t then false else if u then false else is_plain bs) ≡ true → (is_plain bs ≡ true → one_line (bs ++ rest) ≡ true)
        → (if u then false else one_line (bs ++ rest)) ≡ true
    by true u p h = absurd (cc)
    by false true p h = absurd (cc)
    by false false p h = h p

-- no line feed is in a plain word
pub plain_alone : (w : List ℕ) → is_plain w ≡ true → one_line w ≡ true
plain_alone [] p = refl
plain_alone (b ∷ bs) p = by (b == 32) (b == 10) p (λ r. plain_alone bs r)
  where
    by : (t u : Bool) → (if t then false else if u then false else is_plain bs) ≡ true → (is_plain bs ≡ true → one_line bs ≡ true)
        → (if u then false else one_line bs) ≡ true
    by true u p h = absurd (cc)
    by false true p h = absurd (cc)
    by false false p h = h p

-- no line feed is in plain words with spaces between them
pub parted_line : (w : List ℕ) (ws : List (List ℕ)) → ArePlain (w ∷ ws) → one_line (parted (w ∷ ws)) ≡ true
parted_line w [] p = plain_alone w p.0
parted_line w (x ∷ ws) p = plain_before w (32 ∷ parted (x ∷ ws)) p.0 (parted_line x ws p.1)

-- a line of plain words, and what follows it
pub words_line_end : (w : List ℕ) (ws : List (List ℕ)) (rest : List ℕ) → ArePlain (w ∷ ws)
    → lines ((parted (w ∷ ws) ++ (10 ∷ [])) ++ rest) ≡ (parted (w ∷ ws) ++ (10 ∷ [])) ∷ lines rest
words_line_end w ws rest p = ap lines (append_assoc (parted (w ∷ ws)) (10 ∷ []) rest) ∙ line_end (parted (w ∷ ws)) rest (parted_line w ws p)

-- texts that are lines are the lines of all of them
pub lines_of_each : {A : Type 0} (f : A → List ℕ) (P : A → Type 0) → ((x : A) (rest : List ℕ) → P x → lines (f x ++ rest) ≡ f x ∷ lines rest)
    → (xs : List A) → Each P xs → lines (joined (map f xs)) ≡ map f xs
lines_of_each f P g [] p = refl
lines_of_each f P g (x ∷ xs) p = g x (joined (map f xs)) p.0 ∙ ap (λ (z : List (List ℕ)). f x ∷ z) (lines_of_each f P g xs p.1)

-- texts that are equal with a line feed at the end of each are equal without
pub snoc_same : (a b : List ℕ) → a ++ (10 ∷ []) ≡ b ++ (10 ∷ []) → a ≡ b
snoc_same [] [] e = refl
snoc_same [] (y ∷ []) e = absurd (cc)
snoc_same [] (y ∷ (z ∷ b)) e = absurd (cc)
snoc_same (x ∷ []) [] e = absurd (cc)
snoc_same (x ∷ (z ∷ a)) [] e = absurd (cc)
snoc_same (x ∷ a) (y ∷ b) e = let h = head e in let r = snoc_same a b (rest e) in λ i. h i ∷ r i

-- ---- numbers and prefixes of lists
-- a number that is at most another is less than it or equal to it
pub nat_split : (m n : ℕ) → m ≤ n → (m < n) ⊎ (m ≡ n)
nat_split zero zero h = inr refl
nat_split zero (suc n) h = inl (omega arith)
nat_split (suc m) zero h = absurd (omega arith)
nat_split (suc m) (suc n) h = by (nat_split m n (omega arith))
  where
    by : (m < n) ⊎ (m ≡ n) → (suc m < suc n) ⊎ (suc m ≡ suc n)
    by (inl l) = inl (omega arith)
    by (inr e) = inr (ap suc e)

-- the first elements of a list and the others after them are the list
pub take_drop : {A : Type 0} (n : ℕ) (xs : List A) → take n xs ++ drop n xs ≡ xs
take_drop zero xs = refl
take_drop (suc n) [] = refl
take_drop (suc n) (x ∷ xs) = ap (λ w. x ∷ w) (take_drop n xs)

-- fewer of the first lines are a prefix of them
pub shorter : (m n : ℕ) (ts : List (List ℕ)) → m ≤ n → take n ts ≡ take m ts ++ drop m (take n ts)
shorter zero n ts h = refl
shorter (suc m) zero ts h = absurd (omega arith)
shorter (suc m) (suc n) [] h = refl
shorter (suc m) (suc n) (t ∷ ts) h = ap (λ z. t ∷ z) (shorter m n ts (omega arith))

-- one of two numbers is less than the other, or they are equal
pub three : (m n : ℕ) → (m < n) ⊎ ((n < m) ⊎ (m ≡ n))
three zero zero = inr (inr refl)
three zero (suc n) = inl (omega arith)
three (suc m) zero = inr (inl (omega arith))
three (suc m) (suc n) = up (three m n)
  where
    up : (m < n) ⊎ ((n < m) ⊎ (m ≡ n)) → (suc m < suc n) ⊎ ((suc n < suc m) ⊎ (suc m ≡ suc n))
    up (inl h) = inl (omega arith)
    up (inr (inl h)) = inr (inl (omega arith))
    up (inr (inr e)) = inr (inr (ap suc e))
