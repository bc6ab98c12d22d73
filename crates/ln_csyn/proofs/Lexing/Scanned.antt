-- Tokens found one by one, and that no bytes have two lists.
use Rattle.std.proofs.Common.{◌≡◌, ℕ, zero, suc, ◌+◌, ◌-◌, ◌<◌, ◌≤◌, ◌==◌, ◌&&◌, not, max, Bool, true, false, List, [], ◌∷◌, ◌++◌, length, take, drop}
use Rattle.std.proofs.Common.{length-drop, refl, ap, sym, ◌∙◌, subst, arith, get_or}
use Rattle.std.specs.Prelude.{bytes_eq}
use Rattle.std.proofs.lemmas.List.{drop_more}
use Rattle.std.proofs.lemmas.Bool.{cond_both, false_from_ne_true}
use Rattle.std.proofs.Math.Seq.{drop-length}
use Rattle.ln_csyn.specs.Grammar.{Token, IsFile}
use Rattle.ln_csyn.specs.Text.{is_blank, IsFirst, behind, Lexed, none, blank, token, first_line, first_len, tokens_within, tokens_from, tokens_by}
use Rattle.ln_csyn.specs.Laws.{OneLexed, OneText}
use Rattle.ln_csyn.proofs.Lexing.Longest.{first_same, first_some, first_none, blank_none}
use Rattle.ln_csyn.proofs.Reading.CompleteFile.{one_file}

nothing_first : (n : ℕ) → IsFirst [] n → ⊥
nothing_first n f = omega (arith, f.some, f.within)

-- the tokens after the first one
record Behind (line n : ℕ) (bs : List ℕ) (us : List Token) : Type 0 where
  vs : List Token
  is : us ≡ record { text = take n bs; line = line } ∷ vs
  lexed : Lexed line (drop n bs) vs

lexed_token : {line n : ℕ} {bs : List ℕ} {us : List Token} → IsFirst bs n → Lexed line bs us → Behind line n bs us
lexed_token {n = n} f none = absurd (nothing_first n f)
lexed_token {n = n} f (blank {b = b} {bs = bs} h d) = absurd (blank_none b bs n h f)
lexed_token {line = line} {n = n} {bs = bs} f (token {n = m} {ts = ts} k d) =
    let e = first_same bs n m f k in
    record {
      vs = ts;
      is = ap (λ (z : ℕ). record { text = take z bs; line = line } ∷ ts) (sym e);
      lexed = subst (λ (z : ℕ). Lexed line (drop z bs) ts) (sym e) d;
    }

lexed_blank : {line b : ℕ} {bs : List ℕ} {us : List Token} → is_blank b ≡ true → Lexed line (b ∷ bs) us → Lexed (behind b line) bs us
lexed_blank h (blank k d) = d
lexed_blank {b = b} {bs = bs} h (token {n = n} f d) = absurd (blank_none b bs n h f)

lexed_end : {line : ℕ} {us : List Token} → Lexed line [] us → us ≡ []
lexed_end none = refl
lexed_end (token {n = n} f d) = absurd (nothing_first n f)

-- two lists for the same bytes are one
pub one_lexed_by : {line : ℕ} {bytes : List ℕ} {ts us : List Token} → Lexed line bytes ts → Lexed line bytes us → ts ≡ us
one_lexed_by none e = sym (lexed_end e)
one_lexed_by (blank h d) e = one_lexed_by d (lexed_blank h e)
one_lexed_by {line = line} {bytes = bs} (token {n = n} f d) e =
    let b = lexed_token f e in
    ap (λ (z : List Token). record { text = take n bs; line = line } ∷ z) (one_lexed_by d b.lexed) ∙ sym b.is

-- no bytes are two lists of tokens
pub one_lexed : OneLexed
one_lexed line bytes ts us d e = one_lexed_by d e

-- the first line is of one length
pub behind_first : (rest rest' : List ℕ) → first_line ++ rest ≡ first_line ++ rest' → rest ≡ rest'
behind_first rest rest' e = ap (λ (z : List ℕ). drop 20 z) e

-- no bytes have two files
pub one_text : OneText
one_text bytes fs gs c d =
    let r = behind_first c.rest d.rest (sym c.first ∙ d.first) in
    let l : Lexed 2 c.rest d.tokens = subst (λ (z : List ℕ). Lexed 2 z d.tokens) (sym r) d.lexed in
    let t = one_lexed_by c.lexed l in
    let f : IsFile c.tokens gs = subst (λ (z : List Token). IsFile z gs) (sym t) d.spelt.file in
    one_file c.tokens fs gs c.spelt.file c.spelt.kept f d.spelt.kept

-- ---- the scanner

-- what is after a token is shorter
past_one : (k b : ℕ) (bs : List ℕ) → length (drop (max 1 k) (b ∷ bs)) ≤ length bs
past_one k b bs = omega (arith, length-drop (max 1 k) (b ∷ bs))

max_one : (n : ℕ) → 0 < n → max 1 n ≡ n
max_one n w = omega arith

-- the length that is counted is that of the first token
len_found : (bytes : List ℕ) (n : ℕ) → IsFirst bytes n → first_len bytes ≡ n
len_found bytes n f = by_len (first_len bytes) refl where
  by_len : (k : ℕ) → k ≡ first_len bytes → k ≡ n
  by_len zero e = let q = first_none bytes 0 e refl n f.within in let t = f.token in absurd (cc)
  by_len (suc k) e = first_same bytes (suc k) n (first_some bytes (suc k) e (omega arith)) f

-- enough is as good as more
within_same : (n m line : ℕ) (bytes : List ℕ) → length bytes ≤ n → length bytes ≤ m → tokens_within n line bytes ≡ tokens_within m line bytes
within_same zero zero line bytes w v = refl
within_same zero (suc m) line [] w v = refl
within_same zero (suc m) line (b ∷ bs) w v = absurd (omega arith)
within_same (suc n) zero line [] w v = refl
within_same (suc n) zero line (b ∷ bs) w v = absurd (omega arith)
within_same (suc n) (suc m) line [] w v = refl
within_same (suc n) (suc m) line (b ∷ bs) w v =
    let k : ℕ = first_len (b ∷ bs) in
    let l : length (drop (max 1 k) (b ∷ bs)) ≤ length bs = past_one k b bs in
    rw (
      within_same n m (behind b line) bs (omega (arith, w)) (omega (arith, v)),
      within_same n m line (drop (max 1 k) (b ∷ bs)) (omega (arith, w, l)) (omega (arith, v, l)),
    ) refl

-- after a blank
from_blank : (line b : ℕ) (bs : List ℕ) → is_blank b ≡ true → tokens_from line (b ∷ bs) ≡ tokens_from (behind b line) bs
from_blank line b bs h = rw h refl

-- where there is none
from_token : (line b : ℕ) (bs : List ℕ) → is_blank b ≡ false → tokens_from line (b ∷ bs) ≡ tokens_by (first_len (b ∷ bs)) line (b ∷ bs)
from_token line b bs h =
    let k : ℕ = first_len (b ∷ bs) in
    let rest : List ℕ = drop (max 1 k) (b ∷ bs) in
    let e = within_same (length bs) (length rest) line rest (past_one k b bs) (omega arith) in
    rw h (ap (λ (z : List Token). record { text = take k (b ∷ bs); line = line } ∷ z) e)

-- the bytes from a place on, by the first of them
front : (bytes : List ℕ) (at b : ℕ) → at < length bytes → b ≡ get_or bytes at 0 → drop at bytes ≡ b ∷ drop (at + 1) bytes
front bytes at b w e = drop_more bytes at 0 w ∙ ap (λ (z : ℕ). z ∷ drop (at + 1) bytes) (sym e)

-- only blanks stand before this place, which is on this line
pub record Skipped (start : ℕ) (bytes : List ℕ) (line at : ℕ) : Type 0 where
  pub within : at ≤ length bytes
  pub few : line + (length bytes - at) < 4294967296
  pub same : tokens_from start bytes ≡ tokens_from line (drop at bytes)

-- at what is no blank
pub skip_token : (start : ℕ) (bytes : List ℕ) (line at b : ℕ) → Skipped start bytes line at → at < length bytes → b ≡ get_or bytes at 0
    → is_blank b ≡ false → tokens_from start bytes ≡ tokens_by (first_len (drop at bytes)) line (drop at bytes)
skip_token start bytes line at b s w e h =
    let f = front bytes at b w e in
    s.same ∙ ap (λ (z : List ℕ). tokens_from line z) f ∙ from_token line b (drop (at + 1) bytes) h
    ∙ ap (λ (z : List ℕ). tokens_by (first_len z) line z) (sym f)

-- ---- what the scanner finds

-- each token has a text
abbrev pub have_texts : List Token → Bool
have_texts [] = true
have_texts (t ∷ ts) = not (bytes_eq t.text []) && have_texts ts

-- where the bytes have tokens they are what is found
pub lexed_found : {line : ℕ} {bytes : List ℕ} {ts : List Token} → Lexed line bytes ts → tokens_from line bytes ≡ ts
lexed_found none = refl
lexed_found (blank {line = line} {b = b} {bs = bs} h d) = from_blank line b bs h ∙ lexed_found d
lexed_found (token {line = line} {n = n} {bs = []} f d) = absurd (nothing_first n f)
lexed_found (token {line = line} {n = n} {bs = b ∷ bs} {ts = ts} f d) =
    let nb : is_blank b ≡ false = false_from_ne_true (is_blank b) (λ h. blank_none b bs n h f) in
    let k : first_len (b ∷ bs) ≡ n = len_found (b ∷ bs) n f in
    let m : max 1 n ≡ n = max_one n f.some in
    from_token line b bs nb ∙ ap (λ (z : ℕ). tokens_by z line (b ∷ bs)) k
    ∙ ap (λ (z : ℕ). record { text = take n (b ∷ bs); line = line } ∷ tokens_from line (drop z (b ∷ bs))) m
    ∙ ap (λ (z : List Token). record { text = take n (b ∷ bs); line = line } ∷ z) (lexed_found d)

-- this is so of at most n bytes
abbrev IsSo : ℕ → Type 0
IsSo n = (line : ℕ) (bytes : List ℕ) → length bytes ≤ n → have_texts (tokens_from line bytes) ≡ true → Lexed line bytes (tokens_from line bytes)

module _ (n line b : ℕ) (bs : List ℕ) (so : IsSo n) (w : length bs ≤ n) (h : have_texts (tokens_from line (b ∷ bs)) ≡ true) where
  so_at : (k : ℕ) → k ≡ first_len (b ∷ bs) → is_blank b ≡ false → Lexed line (b ∷ bs) (tokens_from line (b ∷ bs))
  so_at zero e q =
      let f : tokens_from line (b ∷ bs) ≡ tokens_by 0 line (b ∷ bs) = from_token line b bs q ∙ ap (λ (z : ℕ). tokens_by z line (b ∷ bs)) (sym e) in
      let t : false ≡ true = ap have_texts (sym f) ∙ h in absurd (cc)
  so_at (suc k) e q =
      let f : tokens_from line (b ∷ bs) ≡ tokens_by (suc k) line (b ∷ bs) = from_token line b bs q ∙ ap (λ (z : ℕ). tokens_by z line (b ∷ bs)) (sym e) in
      let m : drop (max 1 (suc k)) (b ∷ bs) ≡ drop (suc k) (b ∷ bs) = ap (λ (z : ℕ). drop z (b ∷ bs)) (max_one (suc k) (omega arith)) in
      let g : tokens_from line (b ∷ bs) ≡ record { text = take (suc k) (b ∷ bs); line = line } ∷ tokens_from line (drop (suc k) (b ∷ bs)) =
      f ∙ ap (λ (z : List ℕ). record { text = take (suc k) (b ∷ bs); line = line } ∷ tokens_from line z) m in
      let t : have_texts (tokens_from line (drop (suc k) (b ∷ bs))) ≡ true = ap have_texts (sym g) ∙ h in
      let d = so line (drop (suc k) (b ∷ bs)) (omega (arith, length-drop (suc k) (b ∷ bs), w)) t in
      subst (λ (z : List Token). Lexed line (b ∷ bs) z) (sym g) (token (first_some (b ∷ bs) (suc k) e (omega arith)) d)

  so_next : (v : Bool) → is_blank b ≡ v → Lexed line (b ∷ bs) (tokens_from line (b ∷ bs))
  so_next true q =
      let e = from_blank line b bs q in
      let t : have_texts (tokens_from (behind b line) bs) ≡ true = ap have_texts (sym e) ∙ h in
      subst (λ (z : List Token). Lexed line (b ∷ bs) z) (sym e) (blank q (so (behind b line) bs w t))
  so_next false q = so_at (first_len (b ∷ bs)) refl q

found_lexed_by : (n : ℕ) → IsSo n
found_lexed_by zero line [] w h = none
found_lexed_by zero line (b ∷ bs) w h = absurd (omega arith)
found_lexed_by (suc n) line [] w h = none
found_lexed_by (suc n) line (b ∷ bs) w h = so_next n line b bs (found_lexed_by n) (omega arith) h (is_blank b) refl

-- where each token has a text the bytes have these tokens
pub found_lexed : (line : ℕ) (bytes : List ℕ) → have_texts (tokens_from line bytes) ≡ true → Lexed line bytes (tokens_from line bytes)
found_lexed line bytes h = found_lexed_by (length bytes) line bytes (omega arith) h
