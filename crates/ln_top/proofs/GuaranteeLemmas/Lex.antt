-- Bytes that are words are tokens with these texts.
use Rattle.std.proofs.Common.{◌≡◌, ◌≢◌, ◌⊎◌, inl, inr, ℕ, zero, suc, arith, ◌<◌, ◌≤◌, ◌+◌}
use Rattle.std.proofs.Common.{◌-◌, length, Bool, true, false, Option, Some, None, refl, ap, sym, ◌∙◌, subst}
use Rattle.std.proofs.Common.{length-append}
use Rattle.std.specs.List.{AllZip, list_all, list_any}
use Rattle.std.proofs.lemmas.Bool.{and_parts, lt-ltb}
use Rattle.ln_lex.specs.declared.token.Kind.TheVariants as kind
use Rattle.std.specs.Prelude.{◌&&◌, ◌||◌, ◌==◌, not, nat_lt, nat_eq, bytes_eq, codes, is_some, if◌then◌else◌}
use Rattle.std.specs.Prelude.{map, All, take, drop, List, [], ◌∷◌, ◌++◌, Contains, slice_index_or}
use Rattle.std.proofs.Math.Seq.{take-append_seam, take-append-add, drop-append_seam}
use Rattle.std.proofs.lemmas.List.{length-take-le, take-append-drop}
use Rattle.std.proofs.lemmas.Bool.Decides.{nat_tests}
use Rattle.std.proofs.lemmas.List.Elements.{All-head, All-tail}
use Rattle.std.specs.Char.{is_ascii_digit}
use Rattle.ln_base.specs.Words.{every, is_digit, is_letter, is_name_byte}
use Rattle.ln_base.specs.Runs.{run_len}
use Rattle.ln_lex.specs.declared.token.Token.{Token}
use Rattle.ln_lex.specs.declared.token.Kind.{Kind}
use Rattle.ln_lex.specs.Tokens as lex
use Rattle.ln_lex.specs.Tokens.{IsFirst, Lexed, Skips, Stand, begins_blank, begins_comment, comment_len, in_comment, kind_of}
use Rattle.ln_syntax.specs.Raw.{text}
use Rattle.ln_top.specs.Guarantee.{HasWords, Word, is_source_word}
use Rattle.ln_top.specs.Guarantee as told

-- the tokens have these texts
abbrev pub Texts : List ℕ → List Token → List Word → Type 0
Texts bytes = AllZip (λ t w. text bytes t.span ≡ w)

-- ---- which texts are tokens
abbrev byte_of : Word → ℕ
byte_of [] = 0
byte_of (b ∷ bs) = b

not_both : {P : Type 0} (v : Bool) → v ≡ true → not v ≡ true → P
not_both true e n = cc
not_both false e n = cc

-- a word whose first byte passes a test is none of those whose first byte doesn't
pub none_among : (t : ℕ → Bool) (b : ℕ) (bs : List ℕ) → t b ≡ true → (ws : List Word) → list_all (λ w. not (t (byte_of w))) ws ≡ true
    → list_any (bytes_eq (b ∷ bs)) ws ≡ false
none_among t b bs h [] a = refl
none_among t b bs h ([] ∷ ws) a = none_among t b bs h ws (and_parts (not (t 0)) (list_all (λ w. not (t (byte_of w))) ws) a).1
none_among t b bs h ((x ∷ xs) ∷ ws) a =
    let p = and_parts (not (t x)) (list_all (λ w. not (t (byte_of w))) ws) a in
    go (nat_eq b x) refl p.0 (none_among t b bs h ws p.1)
  where
    go : (v : Bool) → nat_eq b x ≡ v → not (t x) ≡ true → list_any (bytes_eq (b ∷ bs)) ws ≡ false
        → list_any (bytes_eq (b ∷ bs)) ((x ∷ xs) ∷ ws) ≡ false
    go true e n r = let same : b ≡ x = grind (arith, nat_tests, e) in not_both (t x) (subst (λ (y : ℕ). t y ≡ true) same h) n
    go false e n r = rw (e, r) refl

and_no : (v : Bool) → (v && false) ≡ false
and_no true = refl
and_no false = refl

and_yes : (v : Bool) → (v && true) ≡ v
and_yes true = refl
and_yes false = refl

or_no : (v : Bool) → (v || false) ≡ v
or_no true = refl
or_no false = refl

-- more than one byte is no sign of one byte
pub long_among : (b c : ℕ) (cs xs : List ℕ) → list_any (bytes_eq (b ∷ c ∷ cs)) (map (λ (x : ℕ). x ∷ []) xs) ≡ false
long_among b c cs [] = refl
long_among b c cs (x ∷ xs) = rw (and_no (nat_eq b x), long_among b c cs xs) refl

one_among : (b : ℕ) (xs : List ℕ) → list_any (bytes_eq (b ∷ [])) (map (λ (x : ℕ). x ∷ []) xs) ≡ list_any (λ x. nat_eq b x) xs
one_among b [] = refl
one_among b (x ∷ xs) = rw (and_yes (nat_eq b x), one_among b xs) refl

chain : (s1 s2 s3 s4 s5 s6 s7 s8 s9 s10 s11 s12 s13 : Bool)
    → is_some (if s1 then Some kind.BraceL else if s2 then Some kind.BraceR else if s3 then Some kind.ParL else if s4 then Some kind.ParR
    else if s5 then Some kind.Colon else if s6 then Some kind.Semi else if s7 then Some kind.Comma else if s8 then Some kind.Dot
    else if s9 then Some kind.Plus else if s10 then Some kind.Minus else if s11 then Some kind.Star else if s12 then Some kind.Caret
    else if s13 then Some kind.Equals else None)
    ≡ (s1 || (s2 || (s3 || (s4 || (s5 || (s6 || (s7 || (s8 || (s9 || (s10 || (s11 || (s12 || (s13 || false)))))))))))))
chain true s2 s3 s4 s5 s6 s7 s8 s9 s10 s11 s12 s13 = refl
chain false true s3 s4 s5 s6 s7 s8 s9 s10 s11 s12 s13 = refl
chain false false true s4 s5 s6 s7 s8 s9 s10 s11 s12 s13 = refl
chain false false false true s5 s6 s7 s8 s9 s10 s11 s12 s13 = refl
chain false false false false true s6 s7 s8 s9 s10 s11 s12 s13 = refl
chain false false false false false true s7 s8 s9 s10 s11 s12 s13 = refl
chain false false false false false false true s8 s9 s10 s11 s12 s13 = refl
chain false false false false false false false true s9 s10 s11 s12 s13 = refl
chain false false false false false false false false true s10 s11 s12 s13 = refl
chain false false false false false false false false false true s11 s12 s13 = refl
chain false false false false false false false false false false true s12 s13 = refl
chain false false false false false false false false false false false true s13 = refl
chain false false false false false false false false false false false false true = refl
chain false false false false false false false false false false false false false = refl

-- the signs
abbrev pub signs : List Word
signs = codes ".." ∷ map (λ (b : ℕ). b ∷ []) (codes "{}():;,.+-*^=")

if_some : (k : Kind) (v : Bool) → is_some (if v then Some k else None) ≡ v
if_some k true = refl
if_some k false = refl

-- the signs
sign_some : (b : ℕ) (bs : List ℕ) → is_some (lex.sign_kind b bs) ≡ list_any (bytes_eq (b ∷ bs)) signs
sign_some b [] =
    chain (b == 123) (b == 125) (b == 40) (b == 41) (b == 58) (b == 59) (b == 44) (b == 46) (b == 43) (b == 45) (b == 42) (b == 94) (b == 61)
    ∙ sym (rw (and_no (nat_eq b 46)) (one_among b (codes "{}():;,.+-*^=")))
sign_some b (c ∷ []) =
    if_some kind.Dots ((b == 46) && (c == 46))
    ∙ sym (ap (λ (x : Bool). (nat_eq b 46 && (nat_eq c 46 && true)) || x) (long_among b c [] (codes "{}():;,.+-*^="))
    ∙ or_no (nat_eq b 46 && (nat_eq c 46 && true)) ∙ ap (λ (x : Bool). nat_eq b 46 && x) (and_yes (nat_eq c 46)))
sign_some b (c ∷ d ∷ bs) =
    sym (ap (λ (x : Bool). (nat_eq b 46 && (nat_eq c 46 && false)) || x) (long_among b c (d ∷ bs) (codes "{}():;,.+-*^="))
    ∙ or_no (nat_eq b 46 && (nat_eq c 46 && false)) ∙ ap (λ (x : Bool). nat_eq b 46 && x) (and_no (nat_eq c 46)) ∙ and_no (nat_eq b 46))

-- two tests of digits are one
pub same_digits : (bs : List ℕ) → every is_digit bs ≡ list_all is_ascii_digit bs
same_digits [] = refl
same_digits (b ∷ bs) = let e : is_digit b ≡ is_ascii_digit b = refl in rw (e, same_digits bs) refl

-- a text has a kind where it is a word of a source
pub some_kind : (w : Word) → is_some (kind_of w) ≡ is_source_word w
some_kind [] = refl
some_kind (b ∷ bs) = go (is_letter b) (is_digit b) refl refl
  where
    go : (x y : Bool) → is_letter b ≡ x → is_digit b ≡ y → is_some (kind_of (b ∷ bs)) ≡ is_source_word (b ∷ bs)
    go true y e f =
        let a = none_among is_letter b bs e signs refl in
        let n : is_ascii_digit b ≡ false = grind (arith, nat_tests, e) in
        rw (e, a, n) (if_some (lex.word_kind (b ∷ bs)) (every is_name_byte bs)
        ∙ sym (or_no (every is_name_byte bs || false) ∙ or_no (every is_name_byte bs)))
    go false true e f =
        let a = none_among is_digit b bs f signs refl in
        let l : nat_lt 0 (suc (length bs)) ≡ true = lt-ltb 0 (suc (length bs)) (omega arith) in
        rw (e, f, a, l) (if_some kind.Number (every is_digit bs) ∙ same_digits bs
        ∙ sym (or_no (list_all is_ascii_digit bs && true) ∙ and_yes (list_all is_ascii_digit bs)))
    go false false e f =
        rw (e, f) (sign_some b bs)

kind_by : (o : Option Kind) → is_some o ≡ true → (k : Kind) × (o ≡ Some k)
kind_by None h = absurd (cc)
kind_by (Some k) h = (k, refl)

none_by : (o : Option Kind) → is_some o ≡ false → o ≡ None
none_by None h = refl
none_by (Some k) h = absurd (cc)

-- which kind
pub kind_there : (w : Word) → is_source_word w ≡ true → (k : Kind) × (kind_of w ≡ Some k)
kind_there w h = kind_by (kind_of w) (some_kind w ∙ h)

no_kind : (w : Word) → is_source_word w ≡ false → kind_of w ≡ None
no_kind w h = none_by (kind_of w) (some_kind w ∙ h)

-- what is left of the bytes at a place
pub record Here (bytes : List ℕ) (at : ℕ) (bs : List ℕ) : Type 0 where
  pub is : drop at bytes ≡ bs
  pub size : at + length bs ≡ length bytes

-- from a place on the bytes are tokens with these texts
pub record Lexes (bytes : List ℕ) (at : ℕ) (ws : List Word) : Type 0 where
  pub tokens : List Token
  pub to : ℕ
  pub stand : Stand bytes at tokens to
  pub within : to ≤ length bytes
  pub rest : Skips (drop to bytes) (length bytes - to)
  pub texts : Texts bytes tokens ws

drop_nil : (n : ℕ) → (let none : List ℕ = [] in drop n none ≡ none)
drop_nil zero = refl
drop_nil (suc n) = refl

-- to leave out m and then n is to leave out both
pub drop_plus : (m n : ℕ) (xs : List ℕ) → drop n (drop m xs) ≡ drop (m + n) xs
drop_plus zero n xs = ap (λ (k : ℕ). drop k xs) (omega arith)
drop_plus (suc m) n [] = drop_nil n ∙ sym (drop_nil (suc m + n))
drop_plus (suc m) n (x ∷ xs) =
    drop_plus m n xs ∙ ap (λ (k : ℕ). drop k (x ∷ xs)) (let e : suc (m + n) ≡ suc m + n = omega arith in e)

skip_by : (bytes : List ℕ) (at n : ℕ) → ((m : ℕ) → Skips (drop (at + n) bytes) m → Skips (drop at bytes) (n + m)) → (ts : List Token)
    (ws : List Word) (to : ℕ) → Stand bytes (at + n) ts to → to ≤ length bytes → Skips (drop to bytes) (length bytes - to) → Texts bytes ts ws
    → Lexes bytes at ws
skip_by bytes at n f [] ws to stand l rest texts = record {
  tokens = [];
  to = at;
  stand = refl;
  within = omega (arith, stand, l);
  rest =
      subst (Skips (drop at bytes)) (omega (arith, stand, l))
      (f (length bytes - to) (subst (λ (x : ℕ). Skips (drop x bytes) (length bytes - to)) (sym stand) rest));
  texts = texts;
}
skip_by bytes at n f (t ∷ ts) ws to (a, s, o, first, more) l rest texts = record {
  tokens = t ∷ ts;
  to = to;
  stand =
      (omega (arith, a), subst (Skips (drop at bytes)) (omega (arith, a)) (f (t.span.start - (at + n)) s), o, first, more);
  within = l;
  rest = rest;
  texts = texts;
}

skip : (bytes : List ℕ) (at n : ℕ) (ws : List Word) → ((m : ℕ) → Skips (drop (at + n) bytes) m → Skips (drop at bytes) (n + m))
    → Lexes bytes (at + n) ws → Lexes bytes at ws
skip bytes at n ws f r = skip_by bytes at n f r.tokens ws r.to r.stand r.within r.rest r.texts

here_more : (bytes : List ℕ) (at : ℕ) (us bs : List ℕ) → Here bytes at (us ++ bs) → Here bytes (at + length us) bs
here_more bytes at us bs h = record {
  is = sym (drop_plus at (length us) bytes) ∙ ap (drop (length us)) h.is ∙ drop-append_seam us bs;
  size = omega (arith, h.size, length-append us bs);
}

run_text : (text bs : List ℕ) → All (λ b. (b < 128) × (b ≢ 10)) text → (bs ≡ []) ⊎ ((rest : List ℕ) × (bs ≡ 10 ∷ rest))
    → run_len in_comment (text ++ bs) ≡ length text
run_text [] bs a (inl e) = rw e refl
run_text [] bs a (inr e) = rw e.1 refl
run_text (b ∷ text) bs a e =
    let h = All-head (λ b. (b < 128) × (b ≢ 10)) b text a in
    let t : in_comment b ≡ true = grind (arith, nat_tests, h.0, h.1) in
    rw t (ap suc (run_text text bs (All-tail (λ b. (b < 128) × (b ≢ 10)) b text a) e))

-- the blanks
pub blank_is : (b : ℕ) → Contains (32 ∷ 9 ∷ 10 ∷ 13 ∷ []) b → lex.is_blank b ≡ true
blank_is b c = go c.0 c.1 c.2
  where
    go : (k : ℕ) → k < 4 → slice_index_or (32 ∷ 9 ∷ 10 ∷ 13 ∷ []) k b ≡ b → lex.is_blank b ≡ true
    go zero l e = subst (λ (x : ℕ). lex.is_blank x ≡ true) e refl
    go (suc zero) l e = subst (λ (x : ℕ). lex.is_blank x ≡ true) e refl
    go (suc (suc zero)) l e = subst (λ (x : ℕ). lex.is_blank x ≡ true) e refl
    go (suc (suc (suc zero))) l e = subst (λ (x : ℕ). lex.is_blank x ≡ true) e refl
    go (suc (suc (suc (suc k)))) l e = absurd (omega (arith, l))

module _ (bytes : List ℕ) where
  skip_blank : (at b : ℕ) (bs : List ℕ) → Here bytes at (b ∷ bs) → lex.is_blank b ≡ true → (m : ℕ) → Skips (drop (at + 1) bytes) m
      → Skips (drop at bytes) (1 + m)
  skip_blank at b bs h e m s =
      subst (Skips (drop at bytes)) (omega arith)
      (lex.blank (ap begins_blank h.is ∙ e) (subst (λ (x : List ℕ). Skips x m) (sym (drop_plus at 1 bytes)) s))

  skip_comment : (at : ℕ) (text bs : List ℕ) → Here bytes at (47 ∷ 47 ∷ (text ++ bs)) → run_len in_comment (text ++ bs) ≡ length text → (m : ℕ)
      → Skips (drop (at + (2 + length text)) bytes) m → Skips (drop at bytes) ((2 + length text) + m)
  skip_comment at text bs h e m s =
      let len : comment_len (drop at bytes) ≡ 2 + length text = ap comment_len h.is ∙ ap (λ (n : ℕ). 2 + n) e in
      lex.comment (ap begins_comment h.is) (ap (λ (n : ℕ). n + m) (sym len))
      (subst (λ (x : List ℕ). Skips x m) (sym (ap (λ (n : ℕ). drop n (drop at bytes)) len ∙ drop_plus at (2 + length text) bytes)) s)

  some_bytes : (w : Word) → is_source_word w ≡ true → 0 < length w
  some_bytes [] h = absurd (cc)
  some_bytes (b ∷ bs) h = omega arith

  -- the longest token at a place
  longest_first : (w bs : List ℕ) (k : Kind) → is_source_word w ≡ true → kind_of w ≡ Some k
      → ((more rest : List ℕ) → more ++ rest ≡ bs → is_source_word (w ++ more) ≡ true → more ≡ []) → IsFirst (w ++ bs) (length w) k
  longest_first w bs k t e longest = record {
    some = some_bytes w t;
    within = omega (arith, length-append w bs);
    spelt = ap kind_of (take-append_seam w bs) ∙ e;
    longest = longer;
  }
    where
      by_test : (n : ℕ) → 0 < n → n ≤ length bs → (b : Bool) → is_source_word (w ++ take n bs) ≡ b → kind_of (w ++ take n bs) ≡ None
      by_test n l h true c =
          let z : take n bs ≡ [] = longest (take n bs) (drop n bs) (take-append-drop n bs) c in
          let y : length (take n bs) ≡ n = length-take-le n bs h in
          absurd (omega (arith, y, ap length z, l))
      by_test n l h false c = no_kind (w ++ take n bs) c

      longer : (m : ℕ) → length w < m → m ≤ length (w ++ bs) → kind_of (take m (w ++ bs)) ≡ None
      longer m l h =
          let n : ℕ = m - length w in
          let sum : length w + n ≡ m = omega (arith, l) in
          let cut : take m (w ++ bs) ≡ w ++ take n bs = ap (λ (x : ℕ). take x (w ++ bs)) (sym sum) ∙ take-append-add w bs n in
          ap kind_of cut ∙ by_test n (omega (arith, l)) (omega (arith, h, length-append w bs)) (is_source_word (w ++ take n bs)) refl

  -- bytes that are words are tokens
  pub lexes : {bs : List ℕ} {ws : List Word} → HasWords bs ws → (at : ℕ) → Here bytes at bs → Lexes bytes at ws
  lexes told.none at h = record {
    tokens = [];
    to = at;
    stand = refl;
    within = omega (arith, h.size);
    rest = subst (Skips (drop at bytes)) (omega (arith, h.size)) lex.nothing;
    texts = tt;
  }
  lexes (told.blank {b = b} {bs = bs} {ws = ws} c rest) at h =
      skip bytes at 1 ws (skip_blank at b bs h (blank_is b c)) (lexes rest (at + 1) (here_more bytes at (b ∷ []) bs h))
  lexes (told.comment {bs = bs} {ws = ws} t a e rest) at h =
      let r = run_text t bs a e in
      let there : Here bytes (at + (2 + length t)) bs =
      subst (λ (n : ℕ). Here bytes (at + n) bs) (omega arith) (here_more bytes at (47 ∷ 47 ∷ t) bs h) in
      skip bytes at (2 + length t) ws (skip_comment at t bs h r) (lexes rest (at + (2 + length t)) there)
  lexes (told.word {bs = bs} {ws = ws} w t longest rest) at h =
      let k = kind_there w t in
      let r = lexes rest (at + length w) (here_more bytes at w bs h) in
      let wide : (at + length w) - at ≡ length w = omega arith in
      record {
        tokens = record { kind = k.0; span = record { start = at; end = at + length w } } ∷ r.tokens;
        to = r.to;
        stand = (
          omega arith,
          subst (Skips (drop at bytes)) (omega arith) lex.nothing,
          omega arith,
          subst (λ (n : ℕ). IsFirst (drop at bytes) n k.0) (sym wide)
              (subst (λ (x : List ℕ). IsFirst x (length w) k.0) (sym h.is) (longest_first w bs k.0 t k.1 longest)),
          r.stand,
        );
        within = r.within;
        rest = r.rest;
        texts = (ap (λ (n : ℕ). take n (drop at bytes)) wide ∙ ap (take (length w)) h.is ∙ take-append_seam w bs, r.texts);
      }

-- so a source that is words is tokens, each with the text of its word
pub lexed : (bytes : List ℕ) (ws : List Word) → HasWords bytes ws → (ts : List Token) × Lexed bytes ts × Texts bytes ts ws
lexed bytes ws a =
    let r = lexes bytes a 0 (record { is = refl; size = omega arith }) in
    (r.tokens, record { to = r.to; tokens = r.stand; within = r.within; rest = r.rest }, r.texts)
