-- The tokens of lexemes are those that their text has.
use Rattle.std.proofs.Common.{◌≡◌, ℕ, zero, suc, ◌+◌, ◌-◌, ◌<◌, ◌≤◌, ◌&&◌, ◌||◌, Bool, true, false, cond, List, [], ◌∷◌, ◌++◌, length, take}
use Rattle.std.proofs.Common.{drop, Some, None, refl, ap, sym, ◌∙◌, subst, arith, length-append, length-drop, codes, not, ◌==◌}
use Rattle.std.specs.Prelude.{bytes_eq, if◌then◌else◌}
use Rattle.std.proofs.lemmas.Bool.{not-true, eqb-true}
use Rattle.std.proofs.Math.Seq.{take-append_seam, drop-append_seam}
use Rattle.std.proofs.lemmas.List.{drop-drop}
use Rattle.ln_lex.specs.declared.token.Kind.{Kind}
use Rattle.ln_lex.specs.declared.token.Kind.TheVariants.{Name, Number, Site, Param, Predicate, Let, Sign, Dot, ParL}
use Rattle.ln_lex.specs.declared.token.Token.{Token}
use Rattle.ln_base.specs.Words.{is_digit, is_letter, is_name_byte, every}
use Rattle.ln_lex.specs.Tokens.{kind_of, word_kind, sign_kind, sign_of, IsFirst, is_blank, begins_blank, Skips, nothing, blank, Stand, Lexed}
use Rattle.ln_syntax.specs.Place.{depth_behind}
use Rattle.ln_parse.specs.Lexemes.{Lexeme, gap, line, word, text_of}

-- no byte of a name or a number begins these bytes
abbrev pub soft : List ℕ → Bool
soft [] = true
soft (b ∷ bs) = cond (is_name_byte b) false true

soft_name : (b : ℕ) (bs : List ℕ) → soft (b ∷ bs) ≡ true → is_name_byte b ≡ false
soft_name b bs h = by (is_name_byte b) h
  where
    by : (v : Bool) → cond v false true ≡ true → v ≡ false
    by true h = sym h
    by false h = refl

-- a run does not go on past its end
past_run : (p : ℕ → Bool) (bs rest : List ℕ) (m : ℕ) → ((c : ℕ) (cs : List ℕ) → rest ≡ c ∷ cs → p c ≡ false) → length bs < m
    → m ≤ length (bs ++ rest) → every p (take m (bs ++ rest)) ≡ false
past_run p bs rest zero h l w = absurd (omega arith)
past_run p [] [] (suc m) h l w = absurd (omega arith)
past_run p [] (c ∷ cs) (suc m) h l w = rw (h c cs refl) refl
past_run p (b ∷ bs) rest (suc m) h l w = rw (past_run p bs rest m h (omega arith) (omega arith)) (both (p b))
  where
    both : (v : Bool) → (v && false) ≡ false
    both true = refl
    both false = refl

soft_at : (rest : List ℕ) (c : ℕ) (cs : List ℕ) → soft rest ≡ true → rest ≡ c ∷ cs → is_name_byte c ≡ false
soft_at [] c cs h e = absurd (cc)
soft_at (b ∷ bs) c cs h e = let q : b ≡ c = cc in rw (← q) (soft_name b bs h)

digit_not : (c : ℕ) → is_name_byte c ≡ false → is_digit c ≡ false
digit_not c h = by (is_letter c) (is_digit c) h
  where
    by : (v w : Bool) → (v || w) ≡ false → w ≡ false
    by true w h = absurd (cc)
    by false w h = h

-- no dot begins these bytes
abbrev pub undotted : List ℕ → Bool
undotted [] = true
undotted (b ∷ bs) = not (b == 46)

-- what follows a token so that it is the longest at its place: after a word or a number no letter and no digit, after a dot no dot
abbrev pub Apart : Kind → List ℕ → Type 0
Apart Name rest = soft rest ≡ true
Apart Number rest = soft rest ≡ true
Apart Site rest = soft rest ≡ true
Apart Param rest = soft rest ≡ true
Apart Predicate rest = soft rest ≡ true
Apart Let rest = soft rest ≡ true
Apart Sign rest = soft rest ≡ true
Apart Dot rest = undotted rest ≡ true
Apart k rest = Unit {0}

word_by : (rest : List ℕ) (s p q l g : Bool)
    → Apart (if s then Site else if p then Param else if q then Predicate else if l then Let else if g then Sign else Name) rest → soft rest ≡ true
word_by rest true p q l g h = h
word_by rest false true q l g h = h
word_by rest false false true l g h = h
word_by rest false false false true g h = h
word_by rest false false false false true h = h
word_by rest false false false false false h = h

word_soft : (t rest : List ℕ) → Apart (word_kind t) rest → soft rest ≡ true
word_soft t rest h = word_by rest (bytes_eq t (codes "site")) (bytes_eq t (codes "param")) (bytes_eq t (codes "predicate"))
    (bytes_eq t (codes "let")) (bytes_eq t (codes "sign")) h

name_long : (b : ℕ) (bs rest : List ℕ) (m : ℕ) → is_letter b ≡ true → soft rest ≡ true → length (b ∷ bs) < m → m ≤ length (b ∷ (bs ++ rest))
    → kind_of (take m (b ∷ (bs ++ rest))) ≡ None
name_long b bs rest zero l s h w = refl
name_long b bs rest (suc m) l s h w = rw (l, past_run is_name_byte bs rest m (λ c cs e. soft_at rest c cs s e) (omega arith) (omega arith)) refl

name_first : (b : ℕ) (bs rest : List ℕ) → is_letter b ≡ true → every is_name_byte bs ≡ true → soft rest ≡ true
    → IsFirst (b ∷ (bs ++ rest)) (length (b ∷ bs)) (word_kind (b ∷ bs))
name_first b bs rest l e s = record {
  some = omega arith;
  within = omega (arith, length-append bs rest);
  spelt = rw (take-append_seam bs rest) (rw (l, e) refl);
  longest = λ m h w. name_long b bs rest m l s h w;
}

number_long : (b : ℕ) (bs rest : List ℕ) (m : ℕ) → is_letter b ≡ false → is_digit b ≡ true → soft rest ≡ true → length (b ∷ bs) < m
    → m ≤ length (b ∷ (bs ++ rest)) → kind_of (take m (b ∷ (bs ++ rest))) ≡ None
number_long b bs rest zero l d s h w = refl
number_long b bs rest (suc m) l d s h w =
    rw (l, d, past_run is_digit bs rest m (λ c cs e. digit_not c (soft_at rest c cs s e)) (omega arith) (omega arith)) refl

number_first : (b : ℕ) (bs rest : List ℕ) → is_letter b ≡ false → is_digit b ≡ true → every is_digit bs ≡ true → soft rest ≡ true
    → IsFirst (b ∷ (bs ++ rest)) (length (b ∷ bs)) Number
number_first b bs rest l d e s = record {
  some = omega arith;
  within = omega (arith, length-append bs rest);
  spelt = rw (take-append_seam bs rest) (rw (l, d, e) refl);
  longest = λ m h w. number_long b bs rest m l d s h w;
}

two_dots : (b c : ℕ) (cs : List ℕ) (k : Kind) → sign_of b ≡ Some k → Apart k (c ∷ cs) → ((b == 46) && (c == 46)) ≡ false
two_dots b c cs k s a = by (b == 46) refl
  where
    at_dot : b ≡ 46 → (c == 46) ≡ false
    at_dot q =
        let d : Some Dot ≡ Some k = sym (ap (λ (x : ℕ). sign_of x) q) ∙ s in
        let e : Dot ≡ k = cc in
        let u : undotted (c ∷ cs) ≡ true = subst (λ (x : Kind). Apart x (c ∷ cs)) (sym e) a in
        not-true (c == 46) u

    by : (v : Bool) → (b == 46) ≡ v → (v && (c == 46)) ≡ false
    by true e = at_dot (eqb-true b 46 e)
    by false e = refl

sign_long : (b : ℕ) (rest : List ℕ) (k : Kind) (m : ℕ) → is_letter b ≡ false → is_digit b ≡ false → sign_of b ≡ Some k → Apart k rest
    → 1 < m → m ≤ length (b ∷ rest) → kind_of (take m (b ∷ rest)) ≡ None
sign_long b rest k zero l d s a h w = refl
sign_long b rest k (suc zero) l d s a h w = absurd (omega arith)
sign_long b [] k (suc (suc m)) l d s a h w = absurd (omega arith)
sign_long b (c ∷ cs) k (suc (suc zero)) l d s a h w = rw (l, d, two_dots b c cs k s a) refl
sign_long b (c ∷ []) k (suc (suc (suc m))) l d s a h w = absurd (omega arith)
sign_long b (c ∷ x ∷ cs) k (suc (suc (suc m))) l d s a h w = rw (l, d) refl

sign_first : (b : ℕ) (rest : List ℕ) (k : Kind) → is_letter b ≡ false → is_digit b ≡ false → sign_of b ≡ Some k → Apart k rest → IsFirst (b ∷ rest) 1 k
sign_first b rest k l d s a = record { some = omega arith; within = omega arith; spelt = rw (l, d) s; longest = λ m h w. sign_long b rest k m l d s a h w }

dots_long : (b c : ℕ) (rest : List ℕ) (m : ℕ) → is_letter b ≡ false → is_digit b ≡ false → 2 < m → m ≤ length (b ∷ c ∷ rest)
    → kind_of (take m (b ∷ c ∷ rest)) ≡ None
dots_long b c rest zero l d h w = refl
dots_long b c rest (suc zero) l d h w = absurd (omega arith)
dots_long b c rest (suc (suc zero)) l d h w = absurd (omega arith)
dots_long b c [] (suc (suc (suc m))) l d h w = absurd (omega arith)
dots_long b c (x ∷ rest) (suc (suc (suc m))) l d h w = rw (l, d) refl

dots_first : (b c : ℕ) (rest : List ℕ) (k : Kind) → is_letter b ≡ false → is_digit b ≡ false → sign_kind b (c ∷ []) ≡ Some k → IsFirst (b ∷ c ∷ rest) 2 k
dots_first b c rest k l d s = record { some = omega arith; within = omega arith; spelt = rw (l, d) s; longest = λ m h w. dots_long b c rest m l d h w }

-- a run that is all of its kind
if_some : (v : Bool) (k l : Kind) → cond v (Some k) None ≡ Some l → (v ≡ true) × (k ≡ l)
if_some true k l h = (refl, cc)
if_some false k l h = absurd (cc)

no_some : {A : Type 0} {x : A} → None ≡ Some x → ⊥
no_some h = cc

first_by : (b : ℕ) (bs rest : List ℕ) (k : Kind) (v w : Bool) → is_letter b ≡ v → is_digit b ≡ w
    → cond v (cond (every is_name_byte bs) (Some (word_kind (b ∷ bs))) None) (cond w (cond (every is_digit bs) (Some Number) None) (sign_kind b bs)) ≡ Some k
    → Apart k rest → IsFirst (b ∷ (bs ++ rest)) (length (b ∷ bs)) k
first_by b bs rest k true w l d h a =
    let p = if_some (every is_name_byte bs) (word_kind (b ∷ bs)) k h in
    let a2 : Apart (word_kind (b ∷ bs)) rest = subst (λ (x : Kind). Apart x rest) (sym p.1) a in
    subst (λ (x : Kind). IsFirst (b ∷ (bs ++ rest)) (length (b ∷ bs)) x) p.1 (name_first b bs rest l p.0 (word_soft (b ∷ bs) rest a2))
first_by b bs rest k false true l d h a =
    let p = if_some (every is_digit bs) Number k h in
    let a2 : Apart Number rest = subst (λ (x : Kind). Apart x rest) (sym p.1) a in
    subst (λ (x : Kind). IsFirst (b ∷ (bs ++ rest)) (length (b ∷ bs)) x) p.1 (number_first b bs rest l d p.0 a2)
first_by b [] rest k false false l d h a = sign_first b rest k l d h a
first_by b (c ∷ []) rest k false false l d h a = dots_first b c rest k l d h
first_by b (c ∷ x ∷ cs) rest k false false l d h a = absurd (no_some h)

-- a text that is a token is the first one of the bytes, where what follows doesn't make it longer
pub word_first : (t rest : List ℕ) (k : Kind) → kind_of t ≡ Some k → Apart k rest → IsFirst (t ++ rest) (length t) k
word_first [] rest k h a = absurd (cc)
word_first (b ∷ bs) rest k h a = first_by b bs rest k (is_letter b) (is_digit b) refl refl h a

-- what a token needs at this depth of parentheses before these bytes: to be apart from them, and P of the depth for a parenthesis that opens
abbrev pub Goes : (ℕ → Type 0) → ℕ → Kind → List ℕ → Type 0
Goes P d ParL rest = P d
Goes P d k rest = Apart k rest

-- each word is a token that what follows does not make longer, and P holds of the depth at which each parenthesis opens
abbrev pub Clear : (ℕ → Type 0) → ℕ → List Lexeme → Type 0
Clear P d [] = Unit {0}
Clear P d (gap ∷ xs) = Clear P d xs
Clear P d (line ∷ xs) = Clear P d xs
Clear P d (word k t ∷ xs) = (kind_of t ≡ Some k) × Goes P d k (text_of xs) × Clear P (depth_behind d k) xs

apart : (P : ℕ → Type 0) (d : ℕ) (k : Kind) (rest : List ℕ) → Goes P d k rest → Apart k rest
apart P d ParL rest g = tt
apart P d k rest g = g

-- the tokens of lexemes that begin at this place
abbrev pub toks : ℕ → List Lexeme → List Token
toks at [] = []
toks at (gap ∷ xs) = toks (suc at) xs
toks at (line ∷ xs) = toks (suc at) xs
toks at (word k t ∷ xs) = record { kind = k; span = record { start = at; end = at + length t } } ∷ toks (at + length t) xs

-- only blanks are between the places
record Gapped (bytes : List ℕ) (from at : ℕ) : Type 0 where
  on : (m : ℕ) → Skips (drop at bytes) m → Skips (drop from bytes) ((at - from) + m)

record Standing (bytes : List ℕ) (from : ℕ) (ts : List Token) : Type 0 where
  to : ℕ
  tokens : Stand bytes from ts to
  within : to ≤ length bytes
  rest : Skips (drop to bytes) (length bytes - to)

gap_all : (bytes : List ℕ) (from at : ℕ) → Gapped bytes from at → Skips (drop from bytes) (at - from)
gap_all bytes from at g = let e : (at - from) + 0 ≡ at - from = omega arith in subst (λ (m : ℕ). Skips (drop from bytes) m) e (g.on 0 nothing)

gap_none : (bytes : List ℕ) (at : ℕ) → Gapped bytes at at
gap_none bytes at = record { on = λ m d. let e : m ≡ (at - at) + m = omega arith in subst (λ (w : ℕ). Skips (drop at bytes) w) e d }

gap_more : (bytes xs : List ℕ) (c from at : ℕ) → is_blank c ≡ true → drop at bytes ≡ c ∷ xs → from ≤ at → Gapped bytes from at → Gapped bytes from (suc at)
gap_more bytes xs c from at k e h g = record {
  on = λ m d.
      let b : begins_blank (drop at bytes) ≡ true = rw e k in
      let p : drop 1 (drop at bytes) ≡ drop (at + 1) bytes = drop-drop 1 at bytes in
      let s : suc at ≡ at + 1 = omega arith in
      let d2 : Skips (drop 1 (drop at bytes)) m = subst (λ (w : List ℕ). Skips w m) (ap (λ (w : ℕ). drop w bytes) s ∙ sym p) d in
      let q : (at - from) + suc m ≡ (suc at - from) + m = omega arith in
      subst (λ (w : ℕ). Skips (drop from bytes) w) q (g.on (suc m) (blank b d2));
}

drop_one : (bytes xs : List ℕ) (b at : ℕ) → drop at bytes ≡ b ∷ xs → drop (suc at) bytes ≡ xs
drop_one bytes xs b at e =
    let s : suc at ≡ at + 1 = omega arith in
    ap (λ (w : ℕ). drop w bytes) s ∙ sym (drop-drop 1 at bytes) ∙ ap (λ (w : List ℕ). drop 1 w) e

-- the bytes after a word are those that follow it
pub drop_word : (bytes t xs : List ℕ) (at : ℕ) → drop at bytes ≡ t ++ xs → drop (at + length t) bytes ≡ xs
drop_word bytes t xs at e = sym (drop-drop (length t) at bytes) ∙ ap (λ (w : List ℕ). drop (length t) w) e ∙ drop-append_seam t xs

below : (bytes : List ℕ) (at n : ℕ) (xs : List ℕ) → drop at bytes ≡ xs → at ≤ length bytes → n ≤ length xs → at + n ≤ length bytes
below bytes at n xs e h w = let q : length (drop at bytes) ≡ length xs = ap (λ (x : List ℕ). length x) e in omega (arith, length-drop at bytes)

stands : (bytes : List ℕ) (P : ℕ → Type 0) (d : ℕ) (xs : List Lexeme) (from at : ℕ) → drop at bytes ≡ text_of xs → at ≤ length bytes → from ≤ at
    → Gapped bytes from at → Clear P d xs → Standing bytes from (toks at xs)
stands bytes P d [] from at e h f g c =
    let q : length (drop at bytes) ≡ 0 = ap (λ (x : List ℕ). length x) e in
    let r : at ≡ length bytes = omega (arith, length-drop at bytes) in
    record { to = from; tokens = refl; within = omega arith; rest = subst (λ (w : ℕ). Skips (drop from bytes) (w - from)) r (gap_all bytes from at g) }
stands bytes P d (gap ∷ xs) from at e h f g c =
    let w = below bytes at 1 (32 ∷ text_of xs) e h (omega arith) in
    stands bytes P d xs from (suc at) (drop_one bytes (text_of xs) 32 at e) (omega arith) (omega arith) (gap_more bytes (text_of xs) 32 from at refl e f g) c
stands bytes P d (line ∷ xs) from at e h f g c =
    let w = below bytes at 1 (10 ∷ text_of xs) e h (omega arith) in
    stands bytes P d xs from (suc at) (drop_one bytes (text_of xs) 10 at e) (omega arith) (omega arith) (gap_more bytes (text_of xs) 10 from at refl e f g) c
stands bytes P d (word k t ∷ xs) from at e h f g c =
    let n = at + length t in
    let w = below bytes at (length t) (t ++ text_of xs) e h (omega (arith, length-append t (text_of xs))) in
    let r = stands bytes P (depth_behind d k) xs (at + length t) (at + length t) (drop_word bytes t (text_of xs) at e) w (omega arith)
    (gap_none bytes (at + length t)) c.2 in
    let i : IsFirst (drop at bytes) (length t) k = rw e (word_first t (text_of xs) k c.0 (apart P d k (text_of xs) c.1)) in
    let q : length t ≡ (at + length t) - at = omega arith in
    let i2 : IsFirst (drop at bytes) ((at + length t) - at) k = subst (λ (m : ℕ). IsFirst (drop at bytes) m k) q i in
    record { to = r.to; tokens = (f, gap_all bytes from at g, omega arith, i2, r.tokens); within = r.within; rest = r.rest }

-- the bytes of clear lexemes have just their tokens
pub lexed : (P : ℕ → Type 0) (xs : List Lexeme) → Clear P 0 xs → Lexed (text_of xs) (toks 0 xs)
lexed P xs c =
    let r = stands (text_of xs) P 0 xs 0 0 refl (omega arith) (omega arith) (gap_none (text_of xs) 0) c in
    record { to = r.to; tokens = r.tokens; within = r.within; rest = r.rest }
