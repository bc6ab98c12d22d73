-- The longest token at the beginning.
use Rattle.std.proofs.Common.{◌≡◌, ℕ, zero, suc, ◌+◌, ◌<◌, ◌≤◌, ◌==◌, true, false, List, [], ◌∷◌, length, take, drop, Some, None, refl, ◌∙◌, arith, get_or}
use Rattle.std.proofs.lemmas.Bool.Decides.{nat_tests}
use Rattle.ln_lex.specs.declared.token.Kind.{Kind}
use Rattle.ln_lex.specs.declared.token.Kind.TheVariants.{Number, Dots}
use Rattle.ln_base.specs.Words.{is_digit, is_letter, is_name_byte}
use Rattle.ln_lex.specs.Tokens.{word_kind, sign_of, begins_twice, kind_of, IsFirst, BeginsNone}
use Rattle.ln_base.specs.Runs.{run_len}
use Rattle.ln_base.proofs.Runs.{every_front, every_more, run_within}

-- more bytes than a word are no token
name_longest : (b : ℕ) (bs : List ℕ) (m : ℕ) → is_letter b ≡ true → suc (run_len is_name_byte bs) < m → m ≤ length (b ∷ bs) → kind_of (take m (b ∷ bs)) ≡ None
name_longest b bs zero l h w = refl
name_longest b bs (suc m) l h w = rw (l, every_more is_name_byte bs m (omega arith) (omega arith)) refl

-- a letter and the run of name bytes after it are a word
pub name_first : (b : ℕ) (bs : List ℕ) (n : ℕ) (k : Kind) → is_letter b ≡ true → n ≡ suc (run_len is_name_byte bs)
    → k ≡ word_kind (take n (b ∷ bs)) → IsFirst (b ∷ bs) n k
name_first b bs n k l e q =
    let go : IsFirst (b ∷ bs) (suc (run_len is_name_byte bs)) (word_kind (take (suc (run_len is_name_byte bs)) (b ∷ bs))) =
    record {
      some = omega arith;
      within = omega (arith, run_within is_name_byte bs);
      spelt = rw (l, every_front is_name_byte bs) refl;
      longest = λ m h w. name_longest b bs m l h w;
    } in
    rw (q, e) go

-- more bytes than a number are no token
number_longest : (b : ℕ) (bs : List ℕ) (m : ℕ) → is_letter b ≡ false → is_digit b ≡ true → suc (run_len is_digit bs) < m
    → m ≤ length (b ∷ bs) → kind_of (take m (b ∷ bs)) ≡ None
number_longest b bs zero l d h w = refl
number_longest b bs (suc m) l d h w = rw (l, d, every_more is_digit bs m (omega arith) (omega arith)) refl

-- a digit and the run of digits after it are a number
pub number_first : (b : ℕ) (bs : List ℕ) (n : ℕ) → is_letter b ≡ false → is_digit b ≡ true → n ≡ suc (run_len is_digit bs) → IsFirst (b ∷ bs) n Number
number_first b bs n l d e =
    let go : IsFirst (b ∷ bs) (suc (run_len is_digit bs)) Number =
    record {
      some = omega arith;
      within = omega (arith, run_within is_digit bs);
      spelt = rw (l, d, every_front is_digit bs) refl;
      longest = λ m h w. number_longest b bs m l d h w;
    } in
    rw e go

-- no token begins with a byte that begins no sign
pub no_sign : (b : ℕ) (bs : List ℕ) → is_letter b ≡ false → is_digit b ≡ false → sign_of b ≡ None → (b == 46) ≡ false → (m : ℕ)
    → kind_of (take m (b ∷ bs)) ≡ None
no_sign b bs l d s e zero = refl
no_sign b bs l d s e (suc zero) = rw (l, d) s
no_sign b [] l d s e (suc (suc m)) = rw (l, d) s
no_sign b (c ∷ []) l d s e (suc (suc zero)) = rw (l, d, e) refl
no_sign b (c ∷ []) l d s e (suc (suc (suc m))) = rw (l, d, e) refl
no_sign b (c ∷ x ∷ xs) l d s e (suc (suc zero)) = rw (l, d, e) refl
no_sign b (c ∷ x ∷ xs) l d s e (suc (suc (suc m))) = rw (l, d) refl

-- more bytes than a sign of one byte are no token, where there aren't two dots
one_longest : (b : ℕ) (bs : List ℕ) → is_letter b ≡ false → is_digit b ≡ false → begins_twice 46 (b ∷ bs) ≡ false → (m : ℕ) → 1 < m
    → m ≤ length (b ∷ bs) → kind_of (take m (b ∷ bs)) ≡ None
one_longest b bs l d e zero h w = absurd (omega arith)
one_longest b bs l d e (suc zero) h w = absurd (omega arith)
one_longest b [] l d e (suc (suc m)) h w = absurd (omega arith)
one_longest b (c ∷ []) l d e (suc (suc zero)) h w = rw (l, d, e) refl
one_longest b (c ∷ []) l d e (suc (suc (suc m))) h w = absurd (omega arith)
one_longest b (c ∷ x ∷ xs) l d e (suc (suc zero)) h w = rw (l, d, e) refl
one_longest b (c ∷ x ∷ xs) l d e (suc (suc (suc m))) h w = rw (l, d) refl

-- a sign of one byte, where there aren't two dots
pub one_first : (b : ℕ) (bs : List ℕ) (k : Kind) → is_letter b ≡ false → is_digit b ≡ false → sign_of b ≡ Some k
    → begins_twice 46 (b ∷ bs) ≡ false → IsFirst (b ∷ bs) 1 k
one_first b bs k l d s e = record { some = omega arith; within = omega arith; spelt = rw (l, d) s; longest = one_longest b bs l d e }

-- more bytes than two dots are no token
two_longest : (b c : ℕ) (cs : List ℕ) → is_letter b ≡ false → is_digit b ≡ false → (m : ℕ) → 2 < m → m ≤ length (b ∷ c ∷ cs)
    → kind_of (take m (b ∷ c ∷ cs)) ≡ None
two_longest b c cs l d zero h w = absurd (omega arith)
two_longest b c cs l d (suc zero) h w = absurd (omega arith)
two_longest b c cs l d (suc (suc zero)) h w = absurd (omega arith)
two_longest b c [] l d (suc (suc (suc m))) h w = absurd (omega arith)
two_longest b c (x ∷ xs) l d (suc (suc (suc m))) h w = rw (l, d) refl

-- two dots are a sign
pub two_first : (bytes : List ℕ) → begins_twice 46 bytes ≡ true → IsFirst bytes 2 Dots
two_first [] t = absurd (cc)
two_first (b ∷ []) t = absurd (cc)
two_first (b ∷ c ∷ cs) t =
    let l : is_letter b ≡ false = grind (arith, nat_tests) in
    let d : is_digit b ≡ false = grind (arith, nat_tests) in
    record { some = omega arith; within = omega arith; spelt = rw (l, d, t) refl; longest = two_longest b c cs l d }

-- what begins no sign is no dot
pub no_dot : (b : ℕ) → sign_of b ≡ None → (b == 46) ≡ false
no_dot b s = grind (arith, nat_tests)

-- a word at the beginning, by its first byte and the rest
pub name_at : (bytes rest : List ℕ) (b n : ℕ) (k : Kind) → 0 < length bytes → b ≡ get_or bytes 0 0 → rest ≡ drop 1 bytes
    → is_letter b ≡ true → n ≡ 1 + run_len is_name_byte rest → k ≡ word_kind (take n bytes) → IsFirst bytes n k
name_at [] rest b n k h e r l q w = absurd (omega arith)
name_at (x ∷ xs) rest b n k h e r l q w = name_first x xs n k (rw (← e) l) (q ∙ rw r (omega arith)) w

-- a number at the beginning, by its first byte and the rest
pub number_at : (bytes rest : List ℕ) (b n : ℕ) → 0 < length bytes → b ≡ get_or bytes 0 0 → rest ≡ drop 1 bytes → is_letter b ≡ false
    → is_digit b ≡ true → n ≡ 1 + run_len is_digit rest → IsFirst bytes n Number
number_at [] rest b n h e r l d q = absurd (omega arith)
number_at (x ∷ xs) rest b n h e r l d q = number_first x xs n (rw (← e) l) (rw (← e) d) (q ∙ rw r (omega arith))

-- a sign of one byte at the beginning, by that byte
pub sign_at : (bytes : List ℕ) (b : ℕ) (k : Kind) → 0 < length bytes → b ≡ get_or bytes 0 0 → is_letter b ≡ false → is_digit b ≡ false
    → begins_twice 46 bytes ≡ false → sign_of b ≡ Some k → IsFirst bytes 1 k
sign_at [] b k h e l d q w = absurd (omega arith)
sign_at (x ∷ xs) b k h e l d q w = one_first x xs k (rw (← e) l) (rw (← e) d) (rw (← e) w) q

-- no token at the beginning, by the first byte
pub none_at : (bytes : List ℕ) (b : ℕ) → 0 < length bytes → b ≡ get_or bytes 0 0 → is_letter b ≡ false → is_digit b ≡ false
    → sign_of b ≡ None → BeginsNone bytes
none_at [] b h e l d s = absurd (omega arith)
none_at (x ∷ xs) b h e l d s = λ m w. no_sign x xs (rw (← e) l) (rw (← e) d) (rw (← e) s) (rw (← e) (no_dot b s)) m
