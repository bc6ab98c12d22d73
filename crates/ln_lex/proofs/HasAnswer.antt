-- All bytes have a result: tokens, a fault, or a token too many.
use Rattle.std.proofs.Common.{◌≡◌, ℕ, zero, suc, ◌+◌, ◌-◌, ◌<◌, ◌≤◌, ◌⊎◌, inl, inr, Bool, true, false, List, [], ◌∷◌, ◌++◌, length, take}
use Rattle.std.proofs.Common.{drop, Option, Some, None, refl, ap, sym, arith, subst, length-drop}
use Rattle.std.proofs.lemmas.List.{drop-drop}
use Rattle.ln_base.specs.Limits.{most_tokens}
use Rattle.ln_base.specs.Words.{is_digit, is_letter, is_name_byte}
use Rattle.ln_lex.specs.declared.token.Kind.{Kind}
use Rattle.ln_lex.specs.declared.token.Kind.TheVariants.{Number, Dots}
use Rattle.ln_lex.specs.declared.token.Token.{Token}
use Rattle.ln_lex.specs.Answers as answer
use Rattle.ln_lex.specs.Answers.{IsAnswered}
use Rattle.ln_lex.specs.Tokens.{word_kind, sign_of, kind_of, in_comment, comment_len, begins_twice, begins_comment, begins_blank, IsFirst}
use Rattle.ln_lex.specs.Tokens.{BeginsNone, Skips, nothing, blank, comment, Behind}
use Rattle.ln_base.specs.Runs.{run_len}
use Rattle.ln_lex.proofs.Longest.{name_first, number_first, one_first, two_first, no_sign, no_dot}
use Rattle.ln_base.proofs.Runs.{run_within}
use Rattle.ln_lex.proofs.Scanned.{Scanned, scanned_more}

-- what some bytes begin with: a token, or none
data Front (bytes : List ℕ) : Type 0 where
  a_token : (n : ℕ) (k : Kind) → IsFirst bytes n k → Front bytes
  no_token : BeginsNone bytes → Front bytes

none_empty : (m : ℕ) → m ≤ 0 → kind_of (take m []) ≡ None
none_empty zero w = refl
none_empty (suc m) w = absurd (omega arith)

sign_front : (b : ℕ) (bs : List ℕ) → is_letter b ≡ false → is_digit b ≡ false → (v : Bool) → begins_twice 46 (b ∷ bs) ≡ v
    → (s : Option Kind) → sign_of b ≡ s → Front (b ∷ bs)
sign_front b bs l d true t s e = a_token 2 Dots (two_first (b ∷ bs) t)
sign_front b bs l d false t (Some k) e = a_token 1 k (one_first b bs k l d e t)
sign_front b bs l d false t None e = no_token (λ m w. no_sign b bs l d e (no_dot b e) m)

front_by : (b : ℕ) (bs : List ℕ) (v w : Bool) → is_letter b ≡ v → is_digit b ≡ w → Front (b ∷ bs)
front_by b bs true w l d =
    let n = suc (run_len is_name_byte bs) in
    a_token n (word_kind (take n (b ∷ bs))) (name_first b bs n (word_kind (take n (b ∷ bs))) l refl refl)
front_by b bs false true l d = a_token (suc (run_len is_digit bs)) Number (number_first b bs (suc (run_len is_digit bs)) l d refl)
front_by b bs false false l d = sign_front b bs l d (begins_twice 46 (b ∷ bs)) refl (sign_of b) refl

front : (bytes : List ℕ) → Front bytes
front [] = no_token none_empty
front (b ∷ bs) = front_by b bs (is_letter b) (is_digit b) refl refl

-- blanks and comments up to where neither begins
record Gap (bytes : List ℕ) : Type 0 where
  pub len : ℕ
  pub within : len ≤ length bytes
  pub skips : Skips bytes len
  pub no_blank : begins_blank (drop len bytes) ≡ false
  pub no_comment : begins_comment (drop len bytes) ≡ false

blank_gap : (bytes : List ℕ) → begins_blank bytes ≡ true → Gap (drop 1 bytes) → Gap bytes
blank_gap [] b g = absurd (cc)
blank_gap (x ∷ xs) b g =
    record { len = suc g.len; within = let w = g.within in omega arith; skips = blank b g.skips; no_blank = g.no_blank; no_comment = g.no_comment }

comment_within : (bytes : List ℕ) → begins_comment bytes ≡ true → comment_len bytes ≤ length bytes
comment_within [] c = absurd (cc)
comment_within (x ∷ []) c = absurd (cc)
comment_within (x ∷ y ∷ ys) c = omega (arith, run_within in_comment ys)

comment_gap : (bytes : List ℕ) (n : ℕ) → n ≡ comment_len bytes → n ≤ length bytes → begins_comment bytes ≡ true → Gap (drop n bytes) → Gap bytes
comment_gap bytes n q h c g =
    let s : Skips (drop (comment_len bytes) bytes) g.len = subst (λ (v : ℕ). Skips (drop v bytes) g.len) q g.skips in
    let e : drop g.len (drop n bytes) ≡ drop (n + g.len) bytes = drop-drop g.len n bytes in
    let w = g.within in
    record {
      len = n + g.len;
      within = omega (arith, length-drop n bytes);
      skips = comment c (ap (λ (v : ℕ). v + g.len) q) s;
      no_blank = subst (λ (xs : List ℕ). begins_blank xs ≡ false) e g.no_blank;
      no_comment = subst (λ (xs : List ℕ). begins_comment xs ≡ false) e g.no_comment;
    }

gap_by : (n : ℕ) (bytes : List ℕ) → length bytes ≤ suc n → ((ys : List ℕ) → length ys ≤ n → Gap ys) → (v w : Bool) → begins_blank bytes ≡ v
    → begins_comment bytes ≡ w → Gap bytes
gap_by n [] h on v w b c = record { len = 0; within = omega arith; skips = nothing; no_blank = refl; no_comment = refl }
gap_by n (x ∷ xs) h on true w b c = blank_gap (x ∷ xs) b (on xs (omega arith))
gap_by n (x ∷ xs) h on false true b c =
    let k = comment_len (x ∷ xs) in
    comment_gap (x ∷ xs) k refl (comment_within (x ∷ xs) c) c (on (drop k (x ∷ xs)) (omega (arith, length-drop k (x ∷ xs))))
gap_by n (x ∷ xs) h on false false b c = record { len = 0; within = omega arith; skips = nothing; no_blank = b; no_comment = c }

gap : (n : ℕ) (bytes : List ℕ) → length bytes ≤ n → Gap bytes
gap zero [] h = record { len = 0; within = omega arith; skips = nothing; no_blank = refl; no_comment = refl }
gap zero (x ∷ xs) h = absurd (omega arith)
gap (suc n) bytes h = gap_by n bytes h (gap n) (begins_blank bytes) (begins_comment bytes) refl refl

below : (m n : ℕ) → (m < n) ⊎ (n ≤ m)
below m n = grind arith

-- what comes after some tokens and a gap: the end, a byte that begins no token, a token too many, or one more
token_step : (bytes : List ℕ) (ts : List Token) (at : ℕ) → Scanned bytes ts at → (g : Gap (drop at bytes)) → at + g.len < length bytes
    → ((us : List Token) (to : ℕ) → Scanned bytes us to → at < to → IsAnswered bytes) → Front (drop (at + g.len) bytes) → IsAnswered bytes
token_step bytes ts at s g h on f =
    let e : drop g.len (drop at bytes) ≡ drop (at + g.len) bytes = drop-drop g.len at bytes in
    let k : (at + g.len) - at ≡ g.len = omega arith in
    let b : Behind bytes ts (at + g.len) = record {
      to = at;
      tokens = s.tokens;
      gap = subst (λ (v : ℕ). Skips (drop at bytes) v) (sym k) g.skips;
      order = omega arith;
      within = h;
      no_blank = subst (λ (xs : List ℕ). begins_blank xs ≡ false) e g.no_blank;
      no_comment = subst (λ (xs : List ℕ). begins_comment xs ≡ false) e g.no_comment;
    } in
    elim f [
      | no_token n ↦ answer.fault (at + g.len) (record { before = ts; few = s.few; behind = b; no_token = n })
      | a_token n kind i ↦ elim (below (length ts) most_tokens) [
        | inl w ↦ let p = i.some in
            on (ts ++ (record { kind = kind; span = record { start = at + g.len; end = at + g.len + n } }) ∷ []) (at + g.len + n)
            (scanned_more s w refl g.skips refl i refl) (omega arith)
        | inr w ↦ let v = s.few in answer.limit (at + g.len) (record { before = ts; many = omega arith; behind = b; n = n; kind = kind; token = i })
      ]
    ]

step : (bytes : List ℕ) (ts : List Token) (at : ℕ) → Scanned bytes ts at
    → ((us : List Token) (to : ℕ) → Scanned bytes us to → at < to → IsAnswered bytes) → IsAnswered bytes
step bytes ts at s on =
    let g = gap (length (drop at bytes)) (drop at bytes) (omega arith) in
    elim (below (at + g.len) (length bytes)) [
      | inl h ↦ token_step bytes ts at s g h on (front (drop (at + g.len) bytes))
      | inr h ↦
          let w = g.within in
          let v = s.within in
          let k : g.len ≡ length bytes - at = omega (arith, length-drop at bytes) in
          answer.tokens ts (record { to = at; tokens = s.tokens; within = s.within; rest = subst (λ (n : ℕ). Skips (drop at bytes) n) k g.skips }) s.few
    ]

from : (n : ℕ) (bytes : List ℕ) (ts : List Token) (at : ℕ) → Scanned bytes ts at → length bytes ≤ at + n → IsAnswered bytes
from zero bytes ts at s h = step bytes ts at s (λ us to t l. let w = t.within in absurd (omega arith))
from (suc n) bytes ts at s h = step bytes ts at s (λ us to t l. from n bytes us to t (omega arith))

-- all bytes are tokens, or have a fault, or a token too many
pub has_answer : (bytes : List ℕ) → IsAnswered bytes
has_answer bytes = from (length bytes) bytes [] 0 (record { within = omega arith; few = omega arith; tokens = refl }) (omega arith)
