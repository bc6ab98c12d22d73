-- Which bytes a token begins with: a token's beginning is a token, and its first byte is ASCII.
use Rattle.std.proofs.Common.{◌≡◌, ◌⊎◌, inl, inr, ℕ, suc, arith, ◌<◌, length, Bool, true, false, refl, ap, sym, ◌∙◌, subst}
use Rattle.std.proofs.Common.{length-append, append_assoc}
use Rattle.std.specs.Prelude.{◌||◌, nat_lt, List, [], ◌∷◌, ◌++◌, bytes_eq, codes, map}
use Rattle.std.specs.List.{list_all, list_any}
use Rattle.std.specs.Char.{is_ascii_digit}
use Rattle.std.proofs.lemmas.Bool.{and_parts, lt-ltb}
use Rattle.std.proofs.lemmas.Bool.Decides.{nat_tests}
use Rattle.ln_base.proofs.Texts.Lists.{equal_bytes}
use Rattle.ln_base.specs.Decimal.{is_digits}
use Rattle.ln_base.specs.Words.{every, is_letter, is_name_byte, is_word}
use Rattle.ln_top.specs.Guarantee.{is_among, is_source_word}
use Rattle.ln_top.proofs.GuaranteeLemmas.Lex.{long_among, none_among, signs}

every_front : (p : ℕ → Bool) (xs ys : List ℕ) → every p (xs ++ ys) ≡ true → every p xs ≡ true
every_front p [] ys h = refl
every_front p (x ∷ xs) ys h = let q = and_parts (p x) (every p (xs ++ ys)) h in rw (q.0, every_front p xs ys q.1) refl

all_front : (p : ℕ → Bool) (xs ys : List ℕ) → list_all p (xs ++ ys) ≡ true → list_all p xs ≡ true
all_front p [] ys h = refl
all_front p (x ∷ xs) ys h = let q = and_parts (p x) (list_all p (xs ++ ys)) h in rw (q.0, all_front p xs ys q.1) refl

-- which of three it is
one_of : (a b c : Bool) → (a || b || c) ≡ true → (a ≡ true) ⊎ ((b ≡ true) ⊎ (c ≡ true))
one_of true b c h = inl refl
one_of false true c h = inr (inl refl)
one_of false false c h = inr (inr h)

or_first : (a b c : Bool) → a ≡ true → (a || b || c) ≡ true
or_first a b c h = rw h refl

or_second : (a b c : Bool) → b ≡ true → (a || b || c) ≡ true
or_second true b c h = refl
or_second false b c h = rw h refl

-- more than one byte is a sign only where it is two dots
two_dots : (c d : ℕ) (ds : List ℕ) → is_among signs (c ∷ d ∷ ds) ≡ true → ds ≡ []
two_dots c d ds h = go (bytes_eq (c ∷ d ∷ ds) (codes "..")) refl
  where
    go : (v : Bool) → bytes_eq (c ∷ d ∷ ds) (codes "..") ≡ v → ds ≡ []
    go true e = let q = equal_bytes (c ∷ d ∷ ds) (codes "..") e in let r : ds ≡ [] = cc in r
    go false e = absurd (no (sym h ∙ ap (λ (v : Bool). v || list_any (bytes_eq (c ∷ d ∷ ds)) (map (λ (x : ℕ). x ∷ []) (codes "{}():;,.+-*^="))) e
        ∙ long_among c d ds (codes "{}():;,.+-*^=")))
      where
        no : true ≡ false → ⊥
        no z = cc

-- a token that goes on past the bytes w and b: these are a token too
pub front_token : (c : ℕ) (cs : List ℕ) (b : ℕ) (more : List ℕ) → is_source_word (c ∷ (cs ++ b ∷ more)) ≡ true → is_source_word (c ∷ (cs ++ b ∷ [])) ≡ true
front_token c cs b more h =
    go (one_of (is_word (c ∷ (cs ++ b ∷ more))) (is_digits (c ∷ (cs ++ b ∷ more))) (is_among signs (c ∷ (cs ++ b ∷ more))) h)
  where
    split : cs ++ b ∷ more ≡ (cs ++ b ∷ []) ++ more
    split = sym (append_assoc cs (b ∷ []) more)

    go : (is_word (c ∷ (cs ++ b ∷ more)) ≡ true) ⊎ ((is_digits (c ∷ (cs ++ b ∷ more)) ≡ true) ⊎ (is_among signs (c ∷ (cs ++ b ∷ more)) ≡ true))
        → is_source_word (c ∷ (cs ++ b ∷ [])) ≡ true
    go (inl w) =
        let q = and_parts (is_letter c) (every is_name_byte (cs ++ b ∷ more)) w in
        let e = every_front is_name_byte (cs ++ b ∷ []) more (subst (λ (z : List ℕ). every is_name_byte z ≡ true) split q.1) in
        or_first (is_word (c ∷ (cs ++ b ∷ []))) (is_digits (c ∷ (cs ++ b ∷ []))) (is_among signs (c ∷ (cs ++ b ∷ []))) (rw (q.0, e) refl)
    go (inr (inl w)) =
        let q = and_parts (list_all is_ascii_digit (c ∷ (cs ++ b ∷ more))) (nat_lt 0 (length (c ∷ (cs ++ b ∷ more)))) w in
        let r = and_parts (is_ascii_digit c) (list_all is_ascii_digit (cs ++ b ∷ more)) q.0 in
        let e = all_front is_ascii_digit (cs ++ b ∷ []) more (subst (λ (z : List ℕ). list_all is_ascii_digit z ≡ true) split r.1) in
        let l : nat_lt 0 (suc (length (cs ++ b ∷ []))) ≡ true = lt-ltb 0 (suc (length (cs ++ b ∷ []))) (omega arith) in
        or_second (is_word (c ∷ (cs ++ b ∷ []))) (is_digits (c ∷ (cs ++ b ∷ []))) (is_among signs (c ∷ (cs ++ b ∷ []))) (rw (r.0, e, l) refl)
    go (inr (inr w)) = subst (λ (z : List ℕ). is_source_word (c ∷ z) ≡ true) (no_more cs refl) h
      where
        no_more : (ds : List ℕ) → cs ≡ ds → cs ++ b ∷ more ≡ cs ++ b ∷ []
        no_more [] e =
            let q : c ∷ (cs ++ b ∷ more) ≡ c ∷ b ∷ more = ap (λ (z : List ℕ). c ∷ (z ++ b ∷ more)) e in
            let m : more ≡ [] = two_dots c b more (subst (λ (z : List ℕ). is_among signs z ≡ true) q w) in
            ap (λ (z : List ℕ). cs ++ b ∷ z) m
        no_more (d ∷ ds) e =
            let q : c ∷ (cs ++ b ∷ more) ≡ c ∷ d ∷ (ds ++ b ∷ more) = ap (λ (z : List ℕ). c ∷ (z ++ b ∷ more)) e in
            let m : ds ++ b ∷ more ≡ [] = two_dots c d (ds ++ b ∷ more) (subst (λ (z : List ℕ). is_among signs z ≡ true) q w) in
            absurd (omega (arith, ap length m, length-append ds (b ∷ more)))

-- the first byte of a token is ASCII
pub token_low : (c : ℕ) (cs : List ℕ) → is_source_word (c ∷ cs) ≡ true → c < 128
token_low c cs h = go (one_of (is_word (c ∷ cs)) (is_digits (c ∷ cs)) (is_among signs (c ∷ cs)) h)
  where
    by_sign : (v : Bool) → nat_lt 127 c ≡ v → is_among signs (c ∷ cs) ≡ true → c < 128
    by_sign true e w = absurd (let n = none_among (λ x. nat_lt 127 x) c cs e signs refl in let z : true ≡ false = sym w ∙ n in cc)
    by_sign false e w = grind (arith, nat_tests, e)

    go : (is_word (c ∷ cs) ≡ true) ⊎ ((is_digits (c ∷ cs) ≡ true) ⊎ (is_among signs (c ∷ cs) ≡ true)) → c < 128
    go (inl w) = let q = (and_parts (is_letter c) (every is_name_byte cs) w).0 in grind (arith, nat_tests, q)
    go (inr (inl w)) =
        let q = (and_parts (list_all is_ascii_digit (c ∷ cs)) (nat_lt 0 (length (c ∷ cs))) w).0 in
        let r = (and_parts (is_ascii_digit c) (list_all is_ascii_digit cs) q).0 in
        grind (arith, nat_tests, r)
    go (inr (inr w)) = by_sign (nat_lt 127 c) refl w
