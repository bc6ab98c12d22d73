-- First words, lines that have one reading, and what is read of a line.
use Rattle.std.proofs.Common.{◌≡◌, ℕ, ◌<◌, ◌^◌, Bool, true, false, List, [], ◌∷◌, ◌++◌, map, Some, None, refl, sym, ap, ◌∙◌, subst, arith, ℤ, ◌≤◌, unsigned_abs}
use Rattle.std.proofs.Common.{pos}
use Rattle.std.specs.Prelude.{IsTrue, if◌then◌else◌, bytes_eq, codes, decimal}
use Rattle.std.specs.Fmt.{signed_decimal}
use Rattle.ln_base.specs.Exponents.{Each, IsExponent, exponent_word}
use Rattle.ln_base.specs.Lines.{is_plain, parted, words, lines}
use Rattle.ln_base.specs.declared.sign.Sign.{Sign}
use Rattle.ln_base.specs.declared.sign.Sign.TheVariants.{Minus, Zero, Plus}
use Rattle.ln_base.proofs.Texts.Halves.{same_exponent}
use Rattle.ln_base.proofs.Texts.Lists.{equal_bytes, head, rest}
use Rattle.ln_base.proofs.Texts.Numbers.{decimal_injective, no_byte, signed_injective}
use Rattle.ln_base.proofs.Texts.Plain.{decimal_plain, exponent_plain, plain_append, plain_map, signed_plain}
use Rattle.ln_base.proofs.Texts.Words.{ArePlain, words_parted}
use Rattle.ln_base.proofs.Forms.Colon.{same_before}
use Rattle.ln_base.proofs.Forms.Picked.{none, pick, some}
use Rattle.ln_trace.specs.declared.line.TraceLine.{TraceLine}
use Rattle.ln_trace.specs.declared.line.TraceLine.TheVariants as line
use Rattle.ln_trace.specs.declared.state.Kind.{Kind}
use Rattle.ln_trace.specs.declared.state.Kind.TheVariants as kind
use Rattle.ln_trace.specs.declared.state.State.{State}
use Rattle.ln_trace.specs.declared.state.State.TheVariants.{Between, Opened, Within}
use Rattle.ln_trace.specs.Reading.{HasArgs, IsRead, NoArgs, Refuses, after, kind_in, line_kind, may, next_of, word_of, trace_rules}
use Rattle.ln_trace.specs.Text.{IsLine, sign_word, words_of, text_of_line}
use Rattle.ln_base.proofs.Texts.Lines.{words_line_end}
use Rattle.ln_base.specs.Forms.Form.{AreSound, Finish}

-- ---- first words
-- the word w is that of the kind k, and the state allows a line of this kind
pub record IsFirstWord (s : State) (w : List ℕ) (k : Kind) : Type 0 where
  pub word : w ≡ word_of k
  pub may : may s k ≡ true

is_word : (s : State) (w : List ℕ) (j k : Kind) → may s j ≡ true → bytes_eq w (word_of j) ≡ true → Some j ≡ Some k → IsFirstWord s w k
is_word s w j k m t e = subst (λ x. IsFirstWord s w x) (some e) (record { word = equal_bytes w (word_of j) t; may = m })

-- the kind of a first word in a state has that word and is allowed there
pub sound : (s : State) (w : List ℕ) (k : Kind) → kind_in s w ≡ Some k → IsFirstWord s w k
sound Between w k e =
    pick (IsFirstWord Between w) (bytes_eq w (codes "refused")) (Some kind.Refused) (if bytes_eq w (codes "row") then Some kind.Row else None) k
    (is_word Between w kind.Refused k refl)
    (pick (IsFirstWord Between w) (bytes_eq w (codes "row")) (Some kind.Row) None k (is_word Between w kind.Row k refl) (none (IsFirstWord Between w) k)) e
sound Opened w k e = pick (IsFirstWord Opened w) (bytes_eq w (codes "at")) (Some kind.At) None k (is_word Opened w kind.At k refl)
    (none (IsFirstWord Opened w) k) e
sound Within w k e =
    pick (IsFirstWord Within w) (bytes_eq w (codes "at")) (Some kind.At) (if bytes_eq w (codes "sign") then Some kind.Sign else None) k
    (is_word Within w kind.At k refl)
    (pick (IsFirstWord Within w) (bytes_eq w (codes "sign")) (Some kind.Sign) None k (is_word Within w kind.Sign k refl) (none (IsFirstWord Within w) k)) e

-- and a kind that is allowed in a state is that of its word there
pub complete : (s : State) (k : Kind) → may s k ≡ true → kind_in s (word_of k) ≡ Some k
complete Between kind.Refused m = refl
complete Between kind.Row m = refl
complete Opened kind.At m = refl
complete Within kind.At m = refl
complete Within kind.Sign m = refl
complete s k m = absurd (cc)

one_kind : (s : State) (j k : Kind) → may s j ≡ true → may s k ≡ true → word_of j ≡ word_of k → j ≡ k
one_kind s j k m n e = some (sym (complete s j m) ∙ ap (kind_in s) e ∙ complete s k n)

-- ---- exponents up to a colon
-- words that begin with different bytes
differ : (a b : ℕ) (x y : List ℕ) → (a ≡ b → ⊥) → a ∷ x ≡ b ∷ y → ⊥
differ a b x y f e = f (head e)

-- what has a hat and is a colon begins with the colon
hat_after : (ds y : List ℕ) → ds ++ (94 ∷ y) ≡ 58 ∷ [] → (more : List ℕ) × (ds ≡ 58 ∷ more)
hat_after [] y e = absurd (differ 94 58 y [] (λ q. omega arith) e)
hat_after (b ∷ ds) y e = let h : b ≡ 58 = head e in (ds, ap (λ x. x ∷ ds) h)

-- a number and a hat are no colon
pub no_colon : (p : ℕ × ℕ) → IsExponent p → exponent_word p ≡ codes ":" → ⊥
no_colon p q e =
    let r = hat_after (decimal p.0) (decimal p.1) e in
    omega (arith, (no_byte p.0 58 r.0 (omega (arith, q.0)) r.1).1)

-- the exponents before a colon, and what follows it, are known
pub same_exponents : (ps qs : List (ℕ × ℕ)) (r s : List (List ℕ)) → Each IsExponent ps → Each IsExponent qs
    → map exponent_word ps ++ codes ":" ∷ r ≡ map exponent_word qs ++ codes ":" ∷ s → (ps ≡ qs) × (r ≡ s)
same_exponents ps qs r s p q e = same_before exponent_word IsExponent no_colon same_exponent ps qs r s p q e

-- ---- one reading
number : (m n : ℕ) → m < 2 ^ 32 → n < 2 ^ 32 → decimal m ≡ decimal n → m ≡ n
number m n p q e = decimal_injective m n (omega arith) (omega arith) e

same_sign : (t u : Sign) → sign_word t ≡ sign_word u → t ≡ u
same_sign Minus Minus e = refl
same_sign Zero Zero e = refl
same_sign Plus Plus e = refl
same_sign t u e = let b = head e in absurd (omega (arith, b))

same_words : (x y : TraceLine) → line_kind x ≡ line_kind y → IsLine x → IsLine y → words_of x ≡ words_of y → x ≡ y
same_words (line.Refused m) (line.Refused n) k p q e = ap line.Refused (number m n p.1 q.1 (head (rest e)))
same_words (line.Row m) (line.Row n) k p q e = ap line.Row (number m n p.1 q.1 (head (rest e)))
same_words (line.At a y) (line.At b z) k p q e =
    let f = same_exponents a b (signed_decimal y ∷ []) (signed_decimal z ∷ []) p.0 q.0 (rest e) in
    let g = signed_injective y z p.1 q.1 (head f.1) in
    λ i. line.At (f.0 i) (g i)
same_words (line.Sign t) (line.Sign u) k p q e = ap line.Sign (same_sign t u (head (rest e)))
same_words x y k p q e = absurd (cc)

-- ---- words without blanks
sign_plain : (t : Sign) → is_plain (sign_word t) ≡ true
sign_plain Minus = refl
sign_plain Zero = refl
sign_plain Plus = refl

-- no word of a line has a blank
pub words_plain : (l : TraceLine) → IsLine l → ArePlain (words_of l)
words_plain (line.Refused n) p = (refl, (decimal_plain n (omega (arith, p.1)), tt))
words_plain (line.Row n) p = (refl, (decimal_plain n (omega (arith, p.1)), tt))
words_plain (line.At exps z) p = (
  refl,
  plain_append (map exponent_word exps) (codes ":" ∷ signed_decimal z ∷ []) (plain_map exponent_word IsExponent exponent_plain exps p.0)
      (refl, (signed_plain z p.1, tt)),
)
words_plain (line.Sign t) p = (refl, (sign_plain t, tt))

-- the words of a line are its kind's word and some more
pub words_split : (l : TraceLine) → (ws : List (List ℕ)) × (words_of l ≡ word_of (line_kind l) ∷ ws)
words_split (line.Refused n) = (decimal n ∷ [], refl)
words_split (line.Row n) = (decimal n ∷ [], refl)
words_split (line.At exps z) = (map exponent_word exps ++ codes ":" ∷ signed_decimal z ∷ [], refl)
words_split (line.Sign t) = (sign_word t ∷ [], refl)

-- the words of a line are read from its text
pub read_words : (l : TraceLine) → IsLine l → words (parted (words_of l)) ≡ words_of l
read_words l p =
    let s = words_split l in
    subst (λ (ws : List (List ℕ)). words (parted ws) ≡ ws) (sym s.1) (words_parted (word_of (line_kind l)) s.0 (subst ArePlain s.1 (words_plain l p)))

-- ---- one line
-- a line that leads on is allowed in the state, and leads where its kind leads
pub live : (s : State) (l : TraceLine) (t : State) → next_of s l ≡ Some t → (may s (line_kind l) ≡ true) × (t ≡ after (line_kind l))
live s l t e = by (may s (line_kind l)) e
  where
    by : (b : Bool) → (if b then Some (after (line_kind l)) else None) ≡ Some t → (b ≡ true) × (t ≡ after (line_kind l))
    by true e = (refl, cc)
    by false e = absurd (cc)

first_of : (l : TraceLine) (w : List ℕ) (ws : List (List ℕ)) → w ∷ ws ≡ words_of l → w ≡ word_of (line_kind l)
first_of l w ws e = head (e ∙ (words_split l).1)

-- two lines that are allowed in one state and have the same words are one
pub same_line : (s : State) (x y : TraceLine) (t u : State) → next_of s x ≡ Some t → next_of s y ≡ Some u → IsLine x → IsLine y
    → words_of x ≡ words_of y → x ≡ y
same_line s x y t u a b p q e =
    let k = one_kind s (line_kind x) (line_kind y) (live s x t a).0 (live s y u b).0
    (first_of y (word_of (line_kind x)) (words_split x).0 (sym (words_split x).1 ∙ e)) in
    same_words x y k p q e

-- ---- what the reader of a line finds
-- a first word of an allowed kind and then the words of a line of that kind: that line is read
pub found : (s : State) (k : Kind) (w : List ℕ) (args ws : List (List ℕ)) (l : TraceLine) → ws ≡ w ∷ args → kind_in s w ≡ Some k
    → HasArgs k args l → IsRead s ws l (after k)
found s k w args ws l e g h =
    let r = sound s w k g in
    record {
      spelled = e ∙ ap (λ x. x ∷ args) r.word ∙ h.words;
      range = h.range;
      goes = ap (λ (b : Bool). if b then Some (after (line_kind l)) else None) (subst (λ x. may s x ≡ true) (sym h.kind) r.may)
          ∙ ap (λ x. Some (after x)) h.kind;
    }

-- where the first word is that of no kind in the state, the state refuses the words
pub no_kind : (s : State) (w : List ℕ) (args ws : List (List ℕ)) → ws ≡ w ∷ args → kind_in s w ≡ None → Refuses s ws
no_kind s w args ws e g l t r =
    let a : w ≡ word_of (line_kind l) = first_of l w args (sym e ∙ r.spelled) in
    let c : None ≡ Some (line_kind l) = sym g ∙ ap (kind_in s) a ∙ complete s (line_kind l) (live s l t r.goes).0 in absurd (cc)

-- where the other words are those of no line of its kind, the state refuses the words
pub no_args : (s : State) (k : Kind) (w : List ℕ) (args ws : List (List ℕ)) → ws ≡ w ∷ args → kind_in s w ≡ Some k → NoArgs k args → Refuses s ws
no_args s k w args ws e g h l t r =
    let a : w ≡ word_of (line_kind l) = first_of l w args (sym e ∙ r.spelled) in
    let c : line_kind l ≡ k = some (sym (complete s (line_kind l) (live s l t r.goes).0) ∙ ap (kind_in s) (sym a) ∙ g) in
    h l (record { kind = c; words = ap (λ x. x ∷ args) (sym (a ∙ ap word_of c)) ∙ sym e ∙ r.spelled; range = r.range })

-- a test that failed
pub no_true : {A : Type 0} (b : Bool) → b ≡ false → (A → IsTrue b) → A → ⊥
no_true b e f a = let t = f a in absurd (cc)

-- ---- the number of a record
-- 0 is none
pub zero_number : (ws : List (List ℕ)) (n : ℕ) (more : List (List ℕ)) → ws ≡ decimal n ∷ more → n ≤ 4294967295 → (1 ≤ n → ⊥) → (m : ℕ)
    → 1 ≤ m → m < 2 ^ 32 → ws ≡ decimal m ∷ [] → ⊥
zero_number ws n more e b z m l h f =
    let d : decimal n ≡ decimal m = head (sym e ∙ f) in
    let q : n ≡ m = decimal_injective n m (omega arith) (omega arith) d in
    z (omega arith)

-- ---- an `at` line

-- after the colon a value
pub no_value : (ws : List (List ℕ)) (ps : List (ℕ × ℕ)) (more : List (List ℕ)) → Each IsExponent ps → ws ≡ map exponent_word ps ++ codes ":" ∷ more
    → ((z : ℤ) (us : List (List ℕ)) → unsigned_abs z < 2 ^ 127 → more ≡ signed_decimal z ∷ us → ⊥) → NoArgs kind.At ws
no_value ws ps more p e f (line.At exps z) h =
    let s = same_exponents ps exps more (signed_decimal z ∷ []) p h.range.0 (sym e ∙ rest h.words) in
    f z [] h.range.1 s.1
no_value ws ps more p e f l h = absurd (let k = h.kind in cc)

-- and nothing after it
pub no_more : (ws : List (List ℕ)) (ps : List (ℕ × ℕ)) (more us : List (List ℕ)) (y : ℤ) → Each IsExponent ps
    → ws ≡ map exponent_word ps ++ codes ":" ∷ more → more ≡ signed_decimal y ∷ us → (us ≡ [] → ⊥) → NoArgs kind.At ws
no_more ws ps more us y p e g f (line.At exps z) h =
    let s = same_exponents ps exps more (signed_decimal z ∷ []) p h.range.0 (sym e ∙ rest h.words) in
    f (rest (sym g ∙ s.1))
no_more ws ps more us y p e g f l h = absurd (let k = h.kind in cc)

-- lines that end a record from a state
finish : (s : State) → Finish trace_rules s
finish Between = record { last = []; ranges = tt; leads = refl }
finish Opened = record { last = line.At [] (pos 0) ∷ line.Sign Zero ∷ []; ranges = ((tt, omega arith), (tt, tt)); leads = refl }
finish Within = record { last = line.Sign Zero ∷ []; ranges = (tt, tt); leads = refl }

one_line_end : (l : TraceLine) (rest : List ℕ) → IsLine l → lines (text_of_line l ++ rest) ≡ text_of_line l ∷ lines rest
one_line_end l rest p =
    let s = words_split l in
    subst (λ (ws : List (List ℕ)). lines ((parted ws ++ (10 ∷ [])) ++ rest) ≡ (parted ws ++ (10 ∷ [])) ∷ lines rest) (sym s.1)
    (words_line_end (word_of (line_kind l)) s.0 rest (subst ArePlain s.1 (words_plain l p)))

-- the rules of traces are as the reader of lines needs them
pub trace_sound : AreSound trace_rules
trace_sound = record { read = read_words; alone = one_line_end; one = same_line; finish = finish }
