-- Proves that what is laid out is lexed as its tokens, on whatever lines.
use Rattle.std.proofs.Common.{◌≡◌, ℕ, zero, suc, ◌==◌, not, Bool, true, false, List, [], ◌∷◌, ◌++◌, length, drop}
use Rattle.std.proofs.Common.{refl, ap, sym, ◌∙◌, subst, arith}
use Rattle.std.proofs.lemmas.Bool.Decides.{nat_tests}
use Rattle.std.proofs.lemmas.Bool.{and_parts, and_right, cond_both, eqb-true, or_parts}
use Rattle.ln_base.specs.Words.{is_digit, is_letter, is_name_byte, every}
use Rattle.ln_csyn.specs.declared.layout.Spot.{Spot}
use Rattle.ln_csyn.specs.Tree.{Fun}
use Rattle.ln_csyn.specs.Grammar.{Token}
use Rattle.ln_csyn.specs.Keeps.{each_fun, keeps}
use Rattle.ln_csyn.specs.Text.{is_blank, is_double, is_sign_text, is_token, behind, IsFirst, Lexed, CText, is_file, fun_words, none, blank, token}
use Rattle.ln_csyn.specs.Spelling.{spell_file, spell_fun, written, flat_file}
use Rattle.ln_csyn.specs.Layout.{fuses, ends_line, is_apart, indent, gap, gap_depth, begun, grown, ended, laid_at}
use Rattle.ln_csyn.specs.Layout.{start, laid_fun, laid_funs, laid_text}
use Rattle.ln_csyn.specs.Lines.{SameUpToLines}
use Rattle.ln_csyn.specs.Layout.{IsTextOf}
use Rattle.ln_csyn.specs.Laws.{LaidIsFile}
use Rattle.ln_csyn.proofs.Lexing.Scanned.{one_text}
use Rattle.ln_csyn.proofs.Writing.LinesLemmas.{one_flat_file, flat_file_again, same_file}
use Rattle.ln_csyn.proofs.Writing.Relined.{Numbers, before, relined, file_there}
use Rattle.ln_csyn.proofs.Writing.Spells.{derives_file}
use Rattle.ln_csyn.proofs.Writing.Spelled.{spelled_fun}
use Rattle.ln_csyn.proofs.Writing.Writes.{all_tokens, back_of, blank_parts, digit_name, first_of, first_token}
use Rattle.ln_csyn.proofs.Writing.Writes.{flat_file_keeps, front_of, last_of, letter_name, tokens_fun}
pub use Rattle.ln_csyn.proofs.Writing.Writes.{every_digit_name}

-- ---- a token passes whole

-- the spot after the bytes of a token
abbrev pub whole : Spot → List ℕ → Spot
whole s [] = s
whole s (b ∷ bs) = whole (grown s b) bs

-- the last byte before the spot after further bytes of a token is the last of them
pub last_is : (s : Spot) (bs : List ℕ) → (whole s bs).last ≡ last_of s.last bs
last_is s [] = refl
last_is s (b ∷ bs) = last_is (grown s b) bs

-- no byte of these is a blank
abbrev pub unbroken : List ℕ → Bool
unbroken bs = every (λ b. not (b == 32)) bs

no_blank : (b : ℕ) → not (b == 32) ≡ true → (b == 32) ≡ false
no_blank b h = grind (arith, nat_tests)

passes : (s : Spot) (bs rest r : List ℕ) → s.over ≡ false → unbroken bs ≡ true → laid_at s (bs ++ 32 ∷ rest) r ≡ bs ++ laid_at (ended (whole s bs)) rest r
passes s [] rest r o u = refl
passes s (b ∷ bs) rest r o u =
    let u2 = and_parts (not (b == 32)) (unbroken bs) u in
    rw (no_blank b u2.0, o) (ap (λ (z : List ℕ). b ∷ z) (passes (grown s b) bs rest r refl u2.1))

name_unbroken : (bs : List ℕ) → every is_name_byte bs ≡ true → unbroken bs ≡ true
name_unbroken [] h = refl
name_unbroken (b ∷ bs) h =
    let p = and_parts (is_name_byte b) (every is_name_byte bs) h in
    let n : is_name_byte b ≡ true = p.0 in
    let e : (b == 32) ≡ false = grind (arith, nat_tests) in
    rw (e, name_unbroken bs p.1) refl

sign_unbroken : (b : ℕ) (bs : List ℕ) → is_letter b ≡ false → is_digit b ≡ false → is_sign_text b bs ≡ true → unbroken (b ∷ bs) ≡ true
sign_unbroken b [] p q t = let e : (b == 32) ≡ false = grind (arith, nat_tests) in rw e refl
sign_unbroken b (c ∷ []) p q t =
    let p = and_parts (is_double b) (c == 61) t in
    let d : is_double b ≡ true = p.0 in
    let f : (c == 61) ≡ true = p.1 in
    let e : (b == 32) ≡ false = grind (arith, nat_tests) in
    let g : (c == 32) ≡ false = grind (arith, nat_tests) in
    rw (e, g) refl
sign_unbroken b (c ∷ d ∷ bs) p q t = absurd (cc)

unbroken_by : (b : ℕ) (bs : List ℕ) (u v : Bool) → is_letter b ≡ u → is_digit b ≡ v → is_token (b ∷ bs) ≡ true → unbroken (b ∷ bs) ≡ true
unbroken_by b bs true v p q t =
    let k : every is_name_byte bs ≡ true = (rw p at t) in
    name_unbroken (b ∷ bs) (rw (letter_name b p, k) refl)
unbroken_by b bs false true p q t =
    let k : every is_digit bs ≡ true = (rw (p, q) at t) in
    name_unbroken (b ∷ bs) (rw (digit_name b q, every_digit_name bs k) refl)
unbroken_by b bs false false p q t = sign_unbroken b bs p q (rw (p, q) at t)

-- ---- the gaps are blanks

-- the bytes are these tokens, on some lines
record Lexes (line : ℕ) (bytes : List ℕ) (ts : List Token) : Type 0 where
  n : Numbers
  is : Lexed line bytes (relined n ts)

behind_blank : {bytes : List ℕ} {ts : List Token} → ((line : ℕ) → Lexes line bytes ts) → (b : ℕ) → is_blank b ≡ true → (line : ℕ) → Lexes line (b ∷ bytes) ts
behind_blank h b k line = let r = h (behind b line) in record { n = r.n; is = blank k r.is }

indented : {bytes : List ℕ} {ts : List Token} → ((line : ℕ) → Lexes line bytes ts) → (d line : ℕ) → Lexes line (indent d bytes) ts
indented h zero = h
indented h (suc d) = behind_blank (behind_blank (indented h d) 32 refl) 32 refl

-- what holds of a rest and of it after a gap: by what the gap is
pub gap_cases : (s : Spot) (b : ℕ) (r : List ℕ) (P : List ℕ → Type 0) → (b ≡ 10 → P r)
    → (ends_line s.last ≡ true → P (10 ∷ indent (gap_depth s.depth b) r)) → (ends_line s.last ≡ false → P (32 ∷ r))
    → (ends_line s.last ≡ false → is_apart s b ≡ false → P r) → P (gap s b r)
gap_cases s b r P feed line apart tight =
    cond_both (b == 10) _ _ P (λ e. feed (eqb-true b 10 e))
    (λ e. cond_both (ends_line s.last) _ _ P line (λ f. cond_both (is_apart s b) _ _ P (λ g. apart f) (tight f)))

gap_is_blank : {bytes : List ℕ} {ts : List Token} → ((line : ℕ) → Lexes line bytes ts) → (s : Spot) (b line : ℕ) → Lexes line (gap s b bytes) ts
gap_is_blank {bytes} {ts} h s b line =
    gap_cases s b bytes (λ z. Lexes line z ts) (λ e. h line) (λ e. behind_blank (indented h (gap_depth s.depth b)) 10 refl line)
    (λ e. behind_blank h 32 refl line) (λ e f. h line)

-- ---- what begins after a token doesn't fuse with it

record Parts (l : ℕ) (bytes : List ℕ) : Type 0 where
  c : ℕ
  ys : List ℕ
  is : bytes ≡ c ∷ ys
  parts : fuses l c ≡ false

feed_parts : (l : ℕ) → fuses l 10 ≡ false
feed_parts l = rw (and_right (is_name_byte l) false refl, and_right (is_double l) false refl) refl

gap_parts : (s : Spot) (b : ℕ) (t bs r : List ℕ) → t ≡ b ∷ bs → Parts s.last (gap s b (t ++ r))
gap_parts s b t bs r q = rw q (gap_cases s b (b ∷ (bs ++ r)) (λ z. Parts s.last z)
    (λ e. record { c = b; ys = bs ++ r; is = refl; parts = rw e (feed_parts s.last) })
    (λ e. record { c = 10; ys = indent (gap_depth s.depth b) (b ∷ (bs ++ r)); is = refl; parts = feed_parts s.last })
    (λ e. record { c = 32; ys = b ∷ (bs ++ r); is = refl; parts = blank_parts s.last })
    (λ e f. record { c = b; ys = bs ++ r; is = refl; parts = (or_parts (fuses s.last b) _ f).0 }))

-- ---- all tokens

-- a token is laid out as a gap, by its first byte, and it whole
pub record Whole (s : Spot) (t rest r : List ℕ) : Type 0 where
  pub first : ℕ
  pub others : List ℕ
  pub is : t ≡ first ∷ others
  pub after : Spot
  pub laid : laid_at (ended s) (t ++ 32 ∷ rest) r ≡ gap (ended s) first (t ++ laid_at (ended after) rest r)
  pub last : after.last ≡ last_of 0 t

-- so is each token
pub goes : (s : Spot) (t rest r : List ℕ) → is_token t ≡ true → Whole s t rest r
goes s [] rest r h = absurd (cc)
goes s (b ∷ bs) rest r h =
    let u = and_parts (not (b == 32)) (unbroken bs) (unbroken_by b bs (is_letter b) (is_digit b) refl refl h) in
    record {
      first = b;
      others = bs;
      is = refl;
      after = whole (begun (ended s) b) bs;
      laid = rw (no_blank b u.0) (ap (λ (z : List ℕ). gap (ended s) b (b ∷ z)) (passes (begun (ended s) b) bs rest r refl u.1));
      last = last_is (begun (ended s) b) bs;
    }

laid_parts : (s : Spot) (ts : List Token) (r : List ℕ) → all_tokens ts ≡ true → Parts s.last (laid_at (ended s) (written ts) r)
laid_parts s [] r h = record { c = 10; ys = r; is = refl; parts = feed_parts s.last }
laid_parts s (t ∷ ts) r h =
    let w = goes s t.text (written ts) r (first_of t ts h).token in
    subst (λ (z : List ℕ). Parts s.last z) (sym w.laid) (gap_parts (ended s) w.first t.text w.others _ w.is)

token_lexes : (t : Token) (ts : List Token) (tail : List ℕ) → is_token t.text ≡ true → Parts (last_of 0 t.text) tail
    → ((line : ℕ) → Lexes line tail ts) → (line : ℕ) → Lexes line (t.text ++ tail) (t ∷ ts)
token_lexes t ts tail k p h line =
    let r = h line in
    let f : IsFirst (t.text ++ tail) (length t.text) =
    subst (λ (z : List ℕ). IsFirst (t.text ++ z) (length t.text)) (sym p.is) (first_token t.text p.ys p.c k p.parts) in
    let d : Lexed line (drop (length t.text) (t.text ++ tail)) (relined r.n ts) =
    subst (λ (z : List ℕ). Lexed line z (relined r.n ts)) (sym (back_of t.text tail)) r.is in
    record {
      n = before line r.n;
      is = subst (λ (z : List ℕ). Lexed line (t.text ++ tail) (record { text = z; line = line } ∷ relined r.n ts)) (front_of t.text tail) (token f d);
    }

-- these tokens, and those of the rest
lexes : (ts us : List Token) (r : List ℕ) → all_tokens ts ≡ true → ((line : ℕ) → Lexes line r us) → (s : Spot) (line : ℕ)
    → Lexes line (laid_at (ended s) (written ts) r) (ts ++ us)
lexes [] us r h rest s line = behind_blank rest 10 refl line
lexes (t ∷ ts) us r h rest s line =
    let f = first_of t ts h in
    let w = goes s t.text (written ts) r f.token in
    let p : Parts (last_of 0 t.text) (laid_at (ended w.after) (written ts) r) =
    subst (λ (z : ℕ). Parts z (laid_at (ended w.after) (written ts) r)) w.last (laid_parts w.after ts r f.rest) in
    let a : (m : ℕ) → Lexes m (t.text ++ laid_at (ended w.after) (written ts) r) (t ∷ (ts ++ us)) =
    token_lexes t (ts ++ us) (laid_at (ended w.after) (written ts) r) f.token p (lexes ts us r f.rest rest w.after) in
    subst (λ (z : List ℕ). Lexes line z (t ∷ (ts ++ us))) (sym w.laid) (gap_is_blank a (ended s) w.first line)

-- ---- function by function

funs_lex : (fs : List Fun) → each_fun fun_words fs ≡ true → (line : ℕ) → Lexes line (laid_funs fs []) (spell_file fs)
funs_lex [] h line = record { n = λ i. 2; is = none }
funs_lex (f ∷ fs) h line =
    let v = and_parts (fun_words f) _ h in
    subst (λ (z : List Token). Lexes line (laid_fun f (laid_funs fs [])) z) (sym (spelled_fun f [] (spell_file fs)))
    (lexes (spell_fun f []) (spell_file fs) (laid_funs fs []) (tokens_fun f [] v.0 refl) (funs_lex fs v.1) start line)

-- the text that is laid out is the file, on whatever lines
pub laid_is_file : LaidIsFile
laid_is_file fs h =
    let w = and_parts (keeps fs) _ h in
    let k = funs_lex fs w.1 2 in
    let d = file_there (derives_file fs w.1) k.n in
    let e : flat_file d.funs ≡ flat_file fs = one_flat_file d.same ∙ flat_file_again fs in
    let q : keeps d.funs ≡ keeps fs = sym (flat_file_keeps d.funs) ∙ ap keeps e ∙ flat_file_keeps fs in
    record {
      file = d.funs;
      text = record {
        rest = laid_funs fs [];
        tokens = relined k.n (spell_file fs);
        first = refl;
        lexed = k.is;
        spelt = record { file = d.is; kept = q ∙ w.0 };
      };
      same = same_file d.funs fs e;
    }

-- what is written at the end
pub text_is_laid : (text : List ℕ) (fs : List Fun) → is_file fs ≡ true → text ≡ laid_text fs → IsTextOf text fs
text_is_laid text fs h e = subst (λ (z : List ℕ). IsTextOf z fs) (sym e) (laid_is_file fs h)

-- the file that is read of the laid out text is the one written, up to lines
pub laid_reads_back : (text : List ℕ) (fs : List Fun) → is_file fs ≡ true → text ≡ laid_text fs → (gs : List Fun) → CText text gs → SameUpToLines gs fs
laid_reads_back text fs h e gs c =
    let t = text_is_laid text fs h e in
    subst (λ (z : List Fun). SameUpToLines z fs) (one_text text t.file gs t.text c) t.same
