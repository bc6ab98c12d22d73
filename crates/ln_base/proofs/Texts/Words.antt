-- The first line of a text, the words of a line, and words that are read as they were written.
use Rattle.std.proofs.Common.{◌≡◌, ℕ, zero, suc, ◌+◌, ◌-◌, ◌≤◌, ◌<◌, ◌==◌, Bool, true, false, List, [], ◌∷◌, ◌++◌, length, take, drop, refl}
use Rattle.std.proofs.Common.{sym, ap, ◌∙◌, arith}
use Rattle.std.specs.Prelude.{if◌then◌else◌}
use Rattle.std.proofs.lemmas.Bool.{eqb-true}
use Rattle.ln_base.specs.Lines.{is_plain, lines, onto, parted, span_to, words, words_from}

words_first : (bs : List ℕ) → words bs ≡ take (span_to 32 bs) bs ∷ words_from (suc (span_to 32 bs)) bs
words_first [] = refl
words_first (b ∷ bs) = by (b == 32) (words_first bs)
  where
    by : (t : Bool) → words bs ≡ take (span_to 32 bs) bs ∷ words_from (suc (span_to 32 bs)) bs →
        (if t then [] ∷ words bs else onto b (words bs))
        ≡ take (if t then 0 else suc (span_to 32 bs)) (b ∷ bs) ∷ words_from (if t then 0 else suc (span_to 32 bs)) bs
    by true e = refl
    by false e = ap (onto b) e

from_drop : (at k : ℕ) (bs : List ℕ) → at ≤ length bs → words_from (at + k) bs ≡ words_from k (drop at bs)
from_drop zero k bs h = let e : 0 + k ≡ k = omega arith in ap (λ n. words_from n bs) e
from_drop (suc at) k [] h = absurd (omega arith)
from_drop (suc at) k (b ∷ bs) h = let e : suc at + k ≡ suc (at + k) = omega arith in rw e (from_drop at k bs (omega arith))

-- the first word from a place on goes to the next space or the end, and the other words begin after that space
pub word_at : (at end : ℕ) (bs w : List ℕ) → at ≤ length bs → end ≡ at + span_to 32 (drop at bs) → w ≡ take (end - at) (drop at bs)
    → words_from at bs ≡ w ∷ words_from (end + 1) bs
word_at at end bs w h e q =
    let a : words_from at bs ≡ words (drop at bs) = let z : at ≡ at + 0 = omega arith in ap (λ n. words_from n bs) z ∙ from_drop at 0 bs h in
    let s : ℕ = span_to 32 (drop at bs) in
    let b : end + 1 ≡ at + suc s = omega arith in
    let c : words_from (end + 1) bs ≡ words_from (suc s) (drop at bs) = ap (λ n. words_from n bs) b ∙ from_drop at (suc s) bs h in
    let d : end - at ≡ s = omega arith in
    a ∙ words_first (drop at bs) ∙ sym (rw (q, d, c) refl)

-- past the end of a text there are no words
pub past_words : (bs : List ℕ) (at : ℕ) → length bs < at → words_from at bs ≡ []
past_words bs zero h = absurd (omega arith)
past_words [] (suc at) h = refl
past_words (b ∷ bs) (suc at) h = past_words bs at (omega arith)

-- the first line of a text goes to its first line feed or its end, and the other lines are those of the rest
pub lines_first : (b : ℕ) (bs : List ℕ) → lines (b ∷ bs) ≡ take (suc (span_to 10 (b ∷ bs))) (b ∷ bs) ∷ lines (drop (suc (span_to 10 (b ∷ bs))) (b ∷ bs))
lines_first b [] = by (b == 10)
  where
    by : (t : Bool) → (if t then (b ∷ []) ∷ [] else onto b []) ≡ take (suc (if t then 0 else 1)) (b ∷ []) ∷ lines (drop (suc (if t then 0 else 1)) (b ∷ []))
    by true = refl
    by false = refl
lines_first b (c ∷ bs) = by (b == 10) (lines_first c bs)
  where
    by : (t : Bool) → lines (c ∷ bs) ≡ take (suc (span_to 10 (c ∷ bs))) (c ∷ bs) ∷ lines (drop (suc (span_to 10 (c ∷ bs))) (c ∷ bs)) →
        (if t then (b ∷ []) ∷ lines (c ∷ bs) else onto b (lines (c ∷ bs))) ≡ take (suc (if t then 0 else suc (span_to 10 (c ∷ bs)))) (b ∷ c ∷ bs)
        ∷ lines (drop (suc (if t then 0 else suc (span_to 10 (c ∷ bs)))) (b ∷ c ∷ bs))
    by true e = refl
    by false e = ap (onto b) e

-- ---- words that are written are read

-- a plain word and a space before a text are one more word before its words
pub plain_words : (w rest : List ℕ) → is_plain w ≡ true → words (w ++ (32 ∷ rest)) ≡ w ∷ words rest
plain_words [] rest p = refl
plain_words (b ∷ bs) rest p = by (b == 32) (b == 10) p (λ q. plain_words bs rest q)
  where
    by : (t u : Bool) → (if t then false else if u then false else is_plain bs) ≡ true → (is_plain bs ≡ true → words (bs ++ (32 ∷ rest)) ≡ bs ∷ words rest) →
        (if t then [] ∷ words (bs ++ (32 ∷ rest)) else onto b (words (bs ++ (32 ∷ rest)))) ≡ (b ∷ bs) ∷ words rest
    by true u p h = absurd (cc)
    by false true p h = absurd (cc)
    by false false p h = ap (onto b) (h p)

-- a plain word alone is read as one word
pub plain_word : (w : List ℕ) → is_plain w ≡ true → words w ≡ w ∷ []
plain_word [] p = refl
plain_word (b ∷ bs) p = by (b == 32) (b == 10) p (λ q. plain_word bs q)
  where
    by : (t u : Bool) → (if t then false else if u then false else is_plain bs) ≡ true → (is_plain bs ≡ true → words bs ≡ bs ∷ []) →
        (if t then [] ∷ words bs else onto b (words bs)) ≡ (b ∷ bs) ∷ []
    by true u p h = absurd (cc)
    by false true p h = absurd (cc)
    by false false p h = ap (onto b) (h p)

-- each of the words is plain
abbrev pub ArePlain : List (List ℕ) → Type 0
ArePlain [] = Unit {0}
ArePlain (w ∷ ws) = (is_plain w ≡ true) × ArePlain ws

-- plain words written with spaces between them are read back as these words
pub words_parted : (w : List ℕ) (ws : List (List ℕ)) → ArePlain (w ∷ ws) → words (parted (w ∷ ws)) ≡ w ∷ ws
words_parted w [] p = plain_word w p.0
words_parted w (v ∷ ws) p = plain_words w (parted (v ∷ ws)) p.0 ∙ ap (λ (x : List (List ℕ)). w ∷ x) (words_parted v ws p.1)

-- the words of a text, written with spaces between them, are the text
pub parted_words : (bs : List ℕ) → parted (words bs) ≡ bs
parted_words [] = refl
parted_words (b ∷ bs) = by (b == 32) (eqb-true b 32) (words bs) (parted_words bs) (words_first bs)
  where
    by : (t : Bool) → (t ≡ true → b ≡ 32) → (ws : List (List ℕ)) → parted ws ≡ bs → ws ≡ take (span_to 32 bs) bs ∷ words_from (suc (span_to 32 bs)) bs →
        parted (if t then [] ∷ ws else onto b ws) ≡ b ∷ bs
    by t e [] h f = absurd (cc)
    by true e (w ∷ ws) h f = let q : 32 ≡ b = sym (e refl) in cc
    by false e (w ∷ []) h f = ap (λ (x : List ℕ). b ∷ x) h
    by false e (w ∷ v ∷ ws) h f = ap (λ (x : List ℕ). b ∷ x) h
