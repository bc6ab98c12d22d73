-- Bytes that are tokens are words, the texts of the tokens.
use Rattle.std.proofs.Common.{◌≡◌, ◌≢◌, ◌⊎◌, inl, inr, ℕ, suc, arith, ◌<◌, ◌≤◌, ◌+◌, ◌-◌, length, Bool, true, false, refl, ap, sym, ◌∙◌, subst}
use Rattle.std.proofs.Common.{length-append}
use Rattle.std.specs.Prelude.{◌||◌, ◌==◌, not, nat_lt, map, All, take, drop, List, [], ◌∷◌, ◌++◌, Contains}
use Rattle.std.proofs.Math.Seq.{take-append_seam, take-append-add}
use Rattle.std.proofs.lemmas.Bool.{and_parts, eqb-true}
use Rattle.std.proofs.lemmas.Bool.Decides.{nat_tests}
use Rattle.std.proofs.lemmas.List.{length-take-le, take-append-drop}
use Rattle.std.proofs.lemmas.List.Elements.{All-cons, All-nil}
use Rattle.std.proofs.lemmas.Option.{none-some}
use Rattle.ln_base.specs.Runs.{run_len}
use Rattle.ln_lex.specs.declared.token.Token.{Token}
use Rattle.ln_lex.specs.declared.token.Kind.{Kind}
use Rattle.ln_lex.specs.Tokens as lex
use Rattle.ln_lex.specs.Tokens.{IsFirst, Lexed, Skips, Stand, begins_comment, comment_len, in_comment, is_blank, kind_of}
use Rattle.ln_syntax.specs.Raw.{text}
use Rattle.ln_top.specs.Guarantee as told
use Rattle.ln_top.specs.Guarantee.{HasWords, Word, is_source_word}
use Rattle.ln_top.proofs.GuaranteeLemmas.Lex.{blank_is, drop_plus, kind_there, some_kind}
use Rattle.ln_top.proofs.GuaranteeLemmas.Tokens.{token_low}

-- the texts of tokens
abbrev pub texts : List ℕ → List Token → List Word
texts bytes ts = map (λ (t : Token). text bytes t.span) ts

blank_there : (b : ℕ) → is_blank b ≡ true → Contains (32 ∷ 9 ∷ 10 ∷ 13 ∷ []) b
blank_there b h = go (b == 32) refl (b == 9) refl (b == 10) refl (b == 13) refl h
  where
    go : (x : Bool) → (b == 32) ≡ x → (y : Bool) → (b == 9) ≡ y → (z : Bool) → (b == 10) ≡ z → (v : Bool) → (b == 13) ≡ v
        → (x || y || z || v) ≡ true → Contains (32 ∷ 9 ∷ 10 ∷ 13 ∷ []) b
    go true p y q z r v s k = (0, omega arith, sym (eqb-true b 32 p))
    go false p true q z r v s k = (1, omega arith, sym (eqb-true b 9 q))
    go false p false q true r v s k = (2, omega arith, sym (eqb-true b 10 r))
    go false p false q false r true s k = (3, omega arith, sym (eqb-true b 13 s))
    go false p false q false r false s k = absurd (cc)

-- ---- comments
record Ended (xs : List ℕ) : Type 0 where
  all : All (λ b. (b < 128) × (b ≢ 10)) (take (run_len in_comment xs) xs)
  ends : (drop (run_len in_comment xs) xs ≡ []) ⊎ ((b : ℕ) × (rest : List ℕ) × (drop (run_len in_comment xs) xs ≡ b ∷ rest) × (in_comment b ≡ false))

ended : (xs : List ℕ) → Ended xs
ended [] = record { all = All-nil (λ b. (b < 128) × (b ≢ 10)); ends = inl refl }
ended (x ∷ xs) = go (in_comment x) refl (ended xs)
  where
    byte : in_comment x ≡ true → (x < 128) × (x ≢ 10)
    byte e =
        let p = and_parts (nat_lt x 128) (not (x == 10)) e in
        (grind (arith, nat_tests, p.0), λ z. let n = p.1 in absurd (grind (arith, nat_tests, n, z)))

    go : (v : Bool) → in_comment x ≡ v → Ended xs → Ended (x ∷ xs)
    go true e r =
        let n : run_len in_comment (x ∷ xs) ≡ suc (run_len in_comment xs) = rw e refl in
        record {
          all = subst (λ (k : ℕ). All (λ b. (b < 128) × (b ≢ 10)) (take k (x ∷ xs))) (sym n)
              (All-cons (λ b. (b < 128) × (b ≢ 10)) x (take (run_len in_comment xs) xs) (byte e) r.all);
          ends = subst (λ (k : ℕ). (drop k (x ∷ xs) ≡ []) ⊎ ((b : ℕ) × (rest : List ℕ) × (drop k (x ∷ xs) ≡ b ∷ rest) × (in_comment b ≡ false))) (sym n) r.ends;
        }
    go false e r =
        let n : run_len in_comment (x ∷ xs) ≡ 0 = rw e refl in
        record {
          all = subst (λ (k : ℕ). All (λ b. (b < 128) × (b ≢ 10)) (take k (x ∷ xs))) (sym n) (All-nil (λ b. (b < 128) × (b ≢ 10)));
          ends = subst (λ (k : ℕ). (drop k (x ∷ xs) ≡ []) ⊎ ((b : ℕ) × (rest : List ℕ) × (drop k (x ∷ xs) ≡ b ∷ rest) × (in_comment b ≡ false))) (sym n)
              (inr (x, xs, refl, e));
        }

-- words begin with ASCII
no_high : {xs : List ℕ} {ws : List Word} → HasWords xs ws → (b : ℕ) (bs : List ℕ) → xs ≡ b ∷ bs → 128 ≤ b → ⊥
no_high told.none b bs e h = cc
no_high (told.blank {b = c} d rest) b bs e h = let q : c ≡ b = cc in let k = blank_is c d in grind (arith, nat_tests, k, q, h)
no_high (told.comment t a x rest) b bs e h = let q : 47 ≡ b = cc in omega (arith, q, h)
no_high (told.word [] t l rest) b bs e h = absurd (cc)
no_high (told.word (c ∷ cs) t l rest) b bs e h = let q : c ≡ b = cc in let k = token_low c cs t in omega (arith, k, q, h)

line_ends : (xs : List ℕ) {ws : List Word} → HasWords (drop (run_len in_comment xs) xs) ws
    → (drop (run_len in_comment xs) xs ≡ []) ⊎ ((b : ℕ) × (rest : List ℕ) × (drop (run_len in_comment xs) xs ≡ b ∷ rest) × (in_comment b ≡ false))
    → (drop (run_len in_comment xs) xs ≡ []) ⊎ ((rest : List ℕ) × (drop (run_len in_comment xs) xs ≡ 10 ∷ rest))
line_ends xs w (inl e) = inl e
line_ends xs w (inr (b, rest, e, n)) = go (b == 10) refl
  where
    go : (v : Bool) → (b == 10) ≡ v → (drop (run_len in_comment xs) xs ≡ []) ⊎ ((rest : List ℕ) × (drop (run_len in_comment xs) xs ≡ 10 ∷ rest))
    go true q = inr (rest, e ∙ ap (λ (c : ℕ). c ∷ rest) (eqb-true b 10 q))
    go false q = absurd (no_high w b rest e (grind (arith, nat_tests, n, q)))

-- ---- blanks and comments
skips_back : {bytes : List ℕ} {n : ℕ} → Skips bytes n → {ws : List Word} → HasWords (drop n bytes) ws → HasWords bytes ws
skips_back lex.nothing h = h
skips_back (lex.blank {bytes = []} e s) h = absurd (cc)
skips_back (lex.blank {bytes = b ∷ bs} {n = n} e s) h = told.blank (blank_there b e) (skips_back s h)
skips_back (lex.comment {bytes = []} e q s) h = absurd (cc)
skips_back (lex.comment {bytes = c ∷ []} e q s) h = absurd (cc)
skips_back (lex.comment {bytes = c ∷ d ∷ bs} {n = n} {k = k} e q s) {ws = ws} h =
    let p = and_parts (c == 47) (d == 47) e in
    let r = run_len in_comment bs in
    let cut : drop (comment_len (c ∷ d ∷ bs)) (c ∷ d ∷ bs) ≡ drop r bs = sym (drop_plus 2 r (c ∷ d ∷ bs)) in
    let there : drop n (drop (comment_len (c ∷ d ∷ bs)) (c ∷ d ∷ bs)) ≡ drop k (c ∷ d ∷ bs) = drop_plus (comment_len (c ∷ d ∷ bs)) n (c ∷ d ∷ bs)
    ∙ ap (λ (m : ℕ). drop m (c ∷ d ∷ bs)) (sym q) in
    let ih = skips_back s {ws = ws} (subst (λ (xs : List ℕ). HasWords xs ws) (sym there) h) in
    let after : HasWords (drop r bs) ws = subst (λ (xs : List ℕ). HasWords xs ws) cut ih in
    let f = ended bs in
    let whole : HasWords (47 ∷ 47 ∷ (take r bs ++ drop r bs)) ws = told.comment (take r bs) f.all (line_ends bs after f.ends) after in
    let text_is : HasWords (47 ∷ 47 ∷ bs) ws = subst (λ (xs : List ℕ). HasWords (47 ∷ 47 ∷ xs) ws) (take-append-drop r bs) whole in
    subst (λ (x : ℕ). HasWords (x ∷ d ∷ bs) ws) (sym (eqb-true c 47 p.0))
    (subst (λ (y : ℕ). HasWords (47 ∷ y ∷ bs) ws) (sym (eqb-true d 47 p.1)) text_is)

-- ---- tokens
-- the first token is the longest
longest_back : (xs : List ℕ) (n : ℕ) (k : Kind) → IsFirst xs n k → (more rest : List ℕ) → more ++ rest ≡ drop n xs
    → is_source_word (take n xs ++ more) ≡ true → more ≡ []
longest_back xs n k f [] rest e h = refl
longest_back xs n k f (b ∷ more) rest e h =
    let w = take n xs in
    let size : length w ≡ n = length-take-le n xs f.within in
    let whole : w ++ ((b ∷ more) ++ rest) ≡ xs = ap (λ (z : List ℕ). w ++ z) e ∙ take-append-drop n xs in
    let m = length (b ∷ more) in
    let cut : take (length w + m) xs ≡ w ++ (b ∷ more) = ap (take (length w + m)) (sym whole) ∙ take-append-add w ((b ∷ more) ++ rest) m
    ∙ ap (λ (z : List ℕ). w ++ z) (take-append_seam (b ∷ more) rest) in
    let some = kind_there (w ++ (b ∷ more)) h in
    let long : length w + m ≤ length xs = omega (arith, ap length whole, length-append w ((b ∷ more) ++ rest), length-append (b ∷ more) rest) in
    let none = f.longest (length w + m) (omega (arith, size)) long in
    absurd (none-some some.0 (sym none ∙ ap kind_of cut ∙ some.1))

is_one : (xs : List ℕ) (n : ℕ) (k : Kind) → IsFirst xs n k → is_source_word (take n xs) ≡ true
is_one xs n k f = sym (some_kind (take n xs)) ∙ rw f.spelt refl

stand_back : (bytes : List ℕ) (ts : List Token) (at to : ℕ) → Stand bytes at ts to → HasWords (drop to bytes) [] → HasWords (drop at bytes) (texts bytes ts)
stand_back bytes [] at to s h = subst (λ (n : ℕ). HasWords (drop n bytes) []) (sym s) h
stand_back bytes (t ∷ ts) at to (a, gap, o, first, rest) h =
    let n = t.span.end - t.span.start in
    let xs = drop t.span.start bytes in
    let ws = texts bytes ts in
    let ih = stand_back bytes ts t.span.end to rest h in
    let seam : drop n xs ≡ drop t.span.end bytes = drop_plus t.span.start n bytes ∙ ap (λ (m : ℕ). drop m bytes) (omega (arith, o)) in
    let more : HasWords (drop n xs) ws = subst (λ (z : List ℕ). HasWords z ws) (sym seam) ih in
    let here : HasWords (take n xs ++ drop n xs) (take n xs ∷ ws) =
    told.word (take n xs) (is_one xs n t.kind first) (longest_back xs n t.kind first) more in
    let whole : HasWords xs (text bytes t.span ∷ ws) = subst (λ (z : List ℕ). HasWords z (take n xs ∷ ws)) (take-append-drop n xs) here in
    let behind : drop (t.span.start - at) (drop at bytes) ≡ xs = drop_plus at (t.span.start - at) bytes ∙ ap (λ (m : ℕ). drop m bytes) (omega (arith, a)) in
    skips_back gap (subst (λ (z : List ℕ). HasWords z (text bytes t.span ∷ ws)) (sym behind) whole)

drop_all : (xs : List ℕ) → drop (length xs) xs ≡ []
drop_all [] = refl
drop_all (x ∷ xs) = drop_all xs

-- bytes that are tokens are their texts
pub words_back : (bytes : List ℕ) (ts : List Token) → Lexed bytes ts → HasWords bytes (texts bytes ts)
words_back bytes ts l =
    let none : drop (length bytes - l.to) (drop l.to bytes) ≡ [] = drop_plus l.to (length bytes - l.to) bytes
    ∙ ap (λ (m : ℕ). drop m bytes) (omega (arith, l.within)) ∙ drop_all bytes in
    let rest : HasWords (drop l.to bytes) [] = skips_back l.rest (subst (λ (z : List ℕ). HasWords z []) (sym none) told.none) in
    stand_back bytes ts 0 l.to l.tokens rest
