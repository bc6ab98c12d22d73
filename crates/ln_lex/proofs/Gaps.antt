-- Blanks and comments, passed one by one.
use Rattle.std.proofs.Common.{◌≡◌, ℕ, suc, ◌+◌, ◌<◌, ◌≤◌, Bool, true, List, [], ◌∷◌, length, drop, ap, sym, ◌∙◌, arith, subst, length-drop}
use Rattle.std.proofs.lemmas.List.{drop-drop}
use Rattle.ln_lex.specs.Tokens.{comment_len, begins_comment, begins_blank, Skips, nothing, blank, comment}

-- the first `at` bytes are passed: what skips from there skips from the beginning
pub record Skipped (bytes : List ℕ) (at : ℕ) : Type 0 where
  pub within : at ≤ length bytes
  pub on : (m : ℕ) → Skips (drop at bytes) m → Skips bytes (at + m)

-- a blank at the place reached is passed
skipped_blank : {bytes : List ℕ} {at : ℕ} → Skipped bytes at → at < length bytes → begins_blank (drop at bytes) ≡ true → Skipped bytes (at + 1)
skipped_blank {bytes = bytes} {at = at} s w b = record {
  within = omega arith;
  on = λ m d.
      let e : drop 1 (drop at bytes) ≡ drop (at + 1) bytes = drop-drop 1 at bytes in
      let d2 : Skips (drop 1 (drop at bytes)) m = subst (λ (q : List ℕ). Skips q m) (sym e) d in
      let k : at + suc m ≡ (at + 1) + m = omega arith in
      subst (λ (q : ℕ). Skips bytes q) k (s.on (suc m) (blank b d2));
}

-- a comment at the place reached is passed
skipped_comment : {bytes : List ℕ} {at n : ℕ} → Skipped bytes at → n ≡ comment_len (drop at bytes) → n ≤ length (drop at bytes)
    → begins_comment (drop at bytes) ≡ true → Skipped bytes (at + n)
skipped_comment {bytes = bytes} {at = at} {n = n} s q w b = record {
  within = omega (arith, length-drop at bytes, s.within);
  on = λ m d.
      let e : drop n (drop at bytes) ≡ drop (at + n) bytes = drop-drop n at bytes in
      let d2 : Skips (drop n (drop at bytes)) m = subst (λ (q : List ℕ). Skips q m) (sym e) d in
      let d3 : Skips (drop (comment_len (drop at bytes)) (drop at bytes)) m = subst (λ (v : ℕ). Skips (drop v (drop at bytes)) m) q d2 in
      let k : at + (n + m) ≡ (at + n) + m = omega arith in
      let c : n + m ≡ comment_len (drop at bytes) + m = ap (λ (v : ℕ). v + m) q in
      subst (λ (q : ℕ). Skips bytes q) k (s.on (n + m) (comment b c d3));
}

-- the passed bytes are blanks and comments
pub skipped_all : {bytes : List ℕ} {at : ℕ} → Skipped bytes at → Skips bytes at
skipped_all {bytes = bytes} {at = at} s = let e : at + 0 ≡ at = omega arith in subst (λ (q : ℕ). Skips bytes q) e (s.on 0 nothing)

-- where a blank is there is a byte
blank_some : (xs : List ℕ) → begins_blank xs ≡ true → 0 < length xs
blank_some [] h = absurd (cc)
blank_some (x ∷ xs) h = omega arith

-- one blank more is passed
pub after_blank : {bytes rest : List ℕ} {at : ℕ} {b : Bool} → Skipped bytes at → rest ≡ drop at bytes → b ≡ begins_blank rest → b ≡ true
    → Skipped bytes (at + 1)
after_blank {bytes = bytes} {rest = rest} {at = at} s r e t =
    let h : begins_blank (drop at bytes) ≡ true = rw (← r) (sym e ∙ t) in
    skipped_blank s (omega (arith, blank_some (drop at bytes) h, length-drop at bytes)) h

-- one comment more is passed
pub after_comment : {bytes rest : List ℕ} {at n : ℕ} {b : Bool} → Skipped bytes at → rest ≡ drop at bytes → b ≡ begins_comment rest
    → b ≡ true → n ≡ comment_len rest → n ≤ length rest → Skipped bytes (at + n)
after_comment s r e t q w = skipped_comment s (rw (← r) q) (rw (← r) w) (rw (← r) (sym e ∙ t))
