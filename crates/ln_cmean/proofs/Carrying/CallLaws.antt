-- Lists of numbers, lines and what is written for them, piece by piece.
use Rattle.std.proofs.Common.{◌≡◌, ℕ, suc, ℤ, pos, negsuc, ◌+◌, ◌-◌, ◌<◌, ◌^◌, ◌==◌, Bool, true, false, List, [], ◌∷◌, ◌++◌, length, take, drop}
use Rattle.std.proofs.Common.{zero, ◌/◌, ◌%◌, ◌≤◌, ◌⊎◌, inl, inr, nat_lt, cond, unsigned_abs}
use Rattle.std.proofs.Common.{refl, sym, ap, ◌∙◌, append_assoc, append-nil, subst, arith, ne_eqb}
use Rattle.std.specs.Prelude.{if◌then◌else◌, decimal, All, FitsSigned, MatchOption, OkIff, Option, Result, Ok, Err}
use Rattle.std.specs.Result.{result_ok}
use Rattle.std.proofs.Math.Seq.{take-append_seam}
use Rattle.std.proofs.Common.{w64}
use Rattle.std.proofs.lemmas.List.Elements.{All-head, All-tail}
use Rattle.std.specs.Fmt.{digit_glyph, digits, digits_onto, signed_decimal}
use Rattle.std.proofs.lemmas.Bool.{cases_lt, eqb-true}
use Rattle.std.proofs.lemmas.Bool.Decides.{nat_tests}
use Rattle.std.proofs.lemmas.List.{length-drop, nil_from_length, take_all}
use Rattle.ln_base.specs.Lines.{Puts, span_to}
use Rattle.ln_base.specs.Outside.{Shown, appended}
use Rattle.ln_base.specs.declared.outside.Port.{Port}
use Rattle.ln_base.proofs.Kept.{appended-twice}
use Rattle.ln_base.proofs.Texts.Numbers.{signed_injective}
use Rattle.ln_csyn.specs.Tree.{Fun}
use Rattle.ln_cmean.specs.Carrying.Calls.{AreMeanings, IsFirstOther, IsMeaning, IsNoCall, IsPut, IsSomeCall, IsWord, after_lines, commas, first, later}
use Rattle.ln_cmean.specs.Carrying.Calls.{listed, next, none}

-- ---- lists of numbers

around : (stop : ℕ) (w : List ℕ) → span_to stop w < length w → w ≡ take (span_to stop w) w ++ (stop ∷ drop (suc (span_to stop w)) w)
around stop [] h = absurd (omega arith)
around stop (b ∷ bs) h = by (b == stop) (eqb-true b stop) h (around stop bs)
  where
    by : (t : Bool) → (t ≡ true → b ≡ stop) → (if t then 0 else suc (span_to stop bs)) < suc (length bs) →
        (span_to stop bs < length bs → bs ≡ take (span_to stop bs) bs ++ (stop ∷ drop (suc (span_to stop bs)) bs)) →
        b ∷ bs ≡ take (if t then 0 else suc (span_to stop bs)) (b ∷ bs) ++ (stop ∷ drop (suc (if t then 0 else suc (span_to stop bs))) (b ∷ bs))
    by true e h f = ap (λ x. x ∷ bs) (e refl)
    by false e h f = ap (λ x. b ∷ x) (f (omega arith))

no_self : (n : ℕ) → (n == n) ≡ false → ⊥
no_self n r = grind (arith, nat_tests, r)

-- what follows a text and the byte after it
pub after_seam : (a : List ℕ) (b : ℕ) (c : List ℕ) → drop (suc (length a)) (a ++ (b ∷ c)) ≡ c
after_seam [] b c = refl
after_seam (x ∷ xs) b c = after_seam xs b c

-- These were found in the list, and if the rest is the text of some numbers, the list is that of all.
abbrev pub Found : List ℕ → List ℤ → List ℕ → Type 0
Found list found rest = (z : ℤ) (zs : List ℤ) → rest ≡ listed (z ∷ zs) → list ≡ listed (found ++ (z ∷ zs))

-- before the loop of `some_numbers`: nothing was found, and all of the list remains
pub found_none : (list : List ℕ) (found : List ℤ) → found ≡ [] → Found list found list
found_none list found e = λ z zs q. q ∙ ap (λ n. listed (n ++ (z ∷ zs))) (sym e)

-- The word of the rest up to its first comma, which is at `end`, is the number z.
pub record IsNumber (rest w : List ℕ) (end : ℕ) (z : ℤ) : Type 0 where
  pub place : end ≡ 0 + span_to 44 (drop 0 rest)
  pub word : w ≡ take (end - 0) (drop 0 rest)
  pub text : w ≡ signed_decimal z

-- the step of `some_numbers`: the number up to the next comma joins those found before
pub found_more : (list rest w now : List ℕ) (found : List ℤ) (z : ℤ) (end : ℕ) → Found list found rest → IsNumber rest w end z → end < length rest →
    now ≡ drop (end + 1) rest → Found list (found ++ (z ∷ [])) now
found_more list rest w now found z end f i h q = λ y ys g.
    let e = i.place in
    let l : w ≡ take (span_to 44 rest) rest = i.word ∙ ap (λ n. take n rest) {x = end - 0} {y = span_to 44 rest} (omega arith) in
    let r : now ≡ drop (suc (span_to 44 rest)) rest = q ∙ ap (λ n. drop n rest) {x = end + 1} {y = suc (span_to 44 rest)} (omega arith) in
    let s : rest ≡ signed_decimal z ++ (44 ∷ listed (y ∷ ys)) =
    around 44 rest (omega arith) ∙ (λ k. (sym l ∙ i.text) k ++ (44 ∷ (sym r ∙ g) k)) in
    f z (y ∷ ys) s ∙ ap listed (sym (append_assoc found (z ∷ []) (y ∷ ys)))

-- the end of the loop in `some_numbers`: without a comma the rest is the last number, and the list is that of all
pub found_all : (list rest w : List ℕ) (found all : List ℤ) (z : ℤ) (end : ℕ) → Found list found rest →
    end ≡ length rest → w ≡ take (end - 0) (drop 0 rest) → w ≡ signed_decimal z → all ≡ found ++ (z ∷ []) → list ≡ listed all
found_all list rest w found all z end f e p d a =
    let l : w ≡ rest = p ∙ ap (λ n. take n rest) {x = end - 0} {y = length rest} (omega arith) ∙ take_all (length rest) rest (omega arith) in
    f z [] (sym l ∙ d ∙ sym (append-nil (signed_decimal z))) ∙ ap listed (sym a)

-- a number of 64 bits is within 127 bits
pub small : (z : ℤ) → IsWord z → unsigned_abs z < 2 ^ 127
small (pos n) h = omega arith
small (negsuc n) h = omega arith

-- the integer that the word is, where it has 64 bits; where it hasn't, the word is no integer of 64 bits
pub word_number : {E : Type 0} (w : List ℕ) (y z : ℤ) (r : Result ℤ E) (o : Option ℤ) → y ≡ z → OkIff r (FitsSigned w64 y) y → o ≡ result_ok r →
    unsigned_abs z < 2 ^ 127 → w ≡ signed_decimal z →
    MatchOption o ((x : ℤ) → IsWord x → w ≡ signed_decimal x → ⊥) (λ x. IsWord x × (w ≡ signed_decimal x))
word_number w y z (Ok x) o e f q h t =
    rw q (subst IsWord (sym f.1) f.0, t ∙ ap signed_decimal (sym (f.1 ∙ e)))
word_number w y z (Err x) o e f q h t =
    rw q (λ x i u. f (subst IsWord (signed_injective x z (small x i) h (sym u ∙ t) ∙ sym e) i))

-- The byte isn't in the text.
abbrev pub Free : ℕ → List ℕ → Type 0
Free stop bs = span_to stop bs ≡ length bs

free_more : (stop b : ℕ) (bs : List ℕ) → (b ≡ stop → ⊥) → Free stop bs → Free stop (b ∷ bs)
free_more stop b bs h f = rw (ne_eqb b stop h) (ap suc f)

-- it isn't in two texts, one after the other
pub free_both : (stop : ℕ) (a b : List ℕ) → Free stop a → Free stop b → Free stop (a ++ b)
free_both stop [] b f g = g
free_both stop (c ∷ cs) b f g = by (c == stop) f (λ h. free_both stop cs b h g)
  where
    by : (t : Bool) → (if t then 0 else suc (span_to stop cs)) ≡ suc (length cs) → (Free stop cs → Free stop (cs ++ b)) →
        (if t then 0 else suc (span_to stop (cs ++ b))) ≡ suc (length (cs ++ b))
    by true e h = absurd (omega arith)
    by false e h = ap suc (h (omega arith))

glyph_free : (stop d : ℕ) → stop < 48 → digit_glyph false d ≡ stop → ⊥
glyph_free stop d h = by_test (nat_lt d 10)
  where
    by_test : (b : Bool) → cond b (48 + d) (87 + d) ≡ stop → ⊥
    by_test true e = absurd (omega (arith, e))
    by_test false e = absurd (omega (arith, e))

digits_free : (stop k n : ℕ) (acc : List ℕ) → stop < 48 → Free stop acc → Free stop (digits_onto k 10 false n acc)
digits_free stop zero n acc h f = f
digits_free stop (suc k) n acc h f =
    let g = free_more stop (digit_glyph false (n % 10)) acc (glyph_free stop (n % 10) h) f in
    by_test (n / 10 == 0) g (digits_free stop k (n / 10) (digit_glyph false (n % 10) ∷ acc) h g)
  where
    by_test : (b : Bool) → Free stop (digit_glyph false (n % 10) ∷ acc) → Free stop (digits_onto k 10 false (n / 10) (digit_glyph false (n % 10) ∷ acc))
        → Free stop (cond b (digit_glyph false (n % 10) ∷ acc) (digits_onto k 10 false (n / 10) (digit_glyph false (n % 10) ∷ acc)))
    by_test true f g = f
    by_test false f g = g

digits_are : (n : ℕ) → digits_onto 64 10 false n [] ≡ digits 10 false n
unfolding digits
digits_are n = refl

-- a decimal number has only digits
pub decimal_free : (stop n : ℕ) → stop < 48 → Free stop (decimal n)
decimal_free stop n h = subst (Free stop) (digits_are n) (digits_free stop 64 n [] h refl)

-- one with a sign has a `-` besides
pub signed_free : (stop : ℕ) (z : ℤ) → stop < 45 → Free stop (signed_decimal z)
signed_free stop (pos n) h = decimal_free stop n (omega arith)
signed_free stop (negsuc n) h = free_more stop 45 (decimal (suc n)) (λ e. omega (arith, e)) (decimal_free stop (suc n) (omega arith))

-- what isn't in a text is first just after it
pub span_before : (stop : ℕ) (a b : List ℕ) → span_to stop a ≡ length a → span_to stop (a ++ (stop ∷ b)) ≡ length a
span_before stop [] b f = here (stop == stop) refl where
  here : (t : Bool) → (stop == stop) ≡ t → (if t then 0 else suc (span_to stop b)) ≡ 0
  here true e = refl
  here false e = absurd (no_self stop e)
span_before stop (c ∷ cs) b f = by (c == stop) f (span_before stop cs b)
  where
    by : (t : Bool) → (if t then 0 else suc (span_to stop cs)) ≡ suc (length cs) →
        (span_to stop cs ≡ length cs → span_to stop (cs ++ (stop ∷ b)) ≡ length cs) →
        (if t then 0 else suc (span_to stop (cs ++ (stop ∷ b)))) ≡ suc (length cs)
    by true e g = absurd (omega arith)
    by false e g = ap suc (g (omega arith))

-- the first comma of a list of numbers is where its first number ends
cut_at : (w : List ℕ) (zs : List ℤ) → span_to 44 w ≡ length w → span_to 44 (w ++ commas zs) ≡ length w
cut_at w [] f = rw (append-nil w) f
cut_at w (z ∷ zs) f = span_before 44 w (signed_decimal z ++ commas zs) f

-- What remains is the list of some numbers of 64 bits.
pub record Remains (rest : List ℕ) : Type 0 where
  pub number : ℤ
  pub numbers : List ℤ
  pub fits : IsWord number
  pub fit : All IsWord numbers
  pub text : rest ≡ signed_decimal number ++ commas numbers

-- If the list is that of numbers of 64 bits, so is what remains of it.
abbrev pub Only : List ℕ → List ℕ → Type 0
Only list rest = (zs : List ℤ) → 0 < length zs → All IsWord zs → list ≡ listed zs → Remains rest

-- before the loop of `some_numbers`: all of the list remains
pub only_all : (list : List ℕ) → Only list list
only_all list [] h a e = absurd (omega arith)
only_all list (z ∷ zs) h a e = record { number = z; numbers = zs; fits = All-head IsWord z zs a; fit = All-tail IsWord z zs a; text = e }

-- the first number of what remains is the word up to the first comma
pub remains_word : (rest : List ℕ) (r : Remains rest) → take (span_to 44 rest) rest ≡ signed_decimal r.number
remains_word rest r =
    let w = signed_decimal r.number in
    let n : span_to 44 rest ≡ length w = ap (span_to 44) r.text ∙ cut_at w r.numbers (signed_free 44 r.number (omega arith)) in
    (λ i. take (n i) (r.text i)) ∙ take-append_seam w (commas r.numbers)

-- a word that isn't a number of 64 bits: the list isn't one of numbers
pub no_number : (list rest w : List ℕ) (end : ℕ) → Only list rest → end ≡ 0 + span_to 44 (drop 0 rest) → w ≡ take (end - 0) (drop 0 rest) →
    ((z : ℤ) → IsWord z → w ≡ signed_decimal z → ⊥) → (zs : List ℤ) → 0 < length zs → All IsWord zs → list ≡ listed zs → ⊥
no_number list rest w end o e p f zs h a q =
    let r = o zs h a q in
    let l : w ≡ take (span_to 44 rest) rest = p ∙ ap (λ n. take n rest) {x = end - 0} {y = span_to 44 rest} (omega arith) in
    f r.number r.fits (l ∙ remains_word rest r)

-- the step of `some_numbers`: what follows the comma remains
pub only_more : (list rest now : List ℕ) (end : ℕ) → Only list rest → end ≡ 0 + span_to 44 (drop 0 rest) → end < length rest →
    now ≡ drop (end + 1) rest → Only list now
only_more list rest now end o e h q = λ zs some a p. step (o zs some a p)
  where
    with_rest : (z : ℤ) (zs : List ℤ) → IsWord z → All IsWord zs → rest ≡ signed_decimal z ++ commas zs → Remains now
    with_rest z [] f a p =
        let w = signed_decimal z in
        let n : span_to 44 rest ≡ length w = ap (span_to 44) p ∙ cut_at w [] (signed_free 44 z (omega arith)) in
        let m : length rest ≡ length w = ap length (p ∙ append-nil w) in
        absurd (omega arith)
    with_rest z (y ∷ ys) f a p =
        let w = signed_decimal z in
        let n : span_to 44 rest ≡ length w = ap (span_to 44) p ∙ cut_at w (y ∷ ys) (signed_free 44 z (omega arith)) in
        let k : end + 1 ≡ suc (length w) = omega arith in
        record {
          number = y;
          numbers = ys;
          fits = All-head IsWord y ys a;
          fit = All-tail IsWord y ys a;
          text = q ∙ (λ i. drop (k i) (p i)) ∙ after_seam w 44 (listed (y ∷ ys));
        }

    step : Remains rest → Remains now
    step r = with_rest r.number r.numbers r.fits r.fit r.text

-- ---- words that are written

last_number : (a now : List ℕ) (x n : ℕ) → Puts a now (λ r. decimal x ∷ r) → x ≡ n → now ≡ a ++ (32 ∷ decimal n)
last_number a now x n p e = sym (append-nil now) ∙ p.is [] ∙ ap (λ z. a ++ (32 ∷ z)) (append-nil (decimal x) ∙ ap decimal e)

-- a number that is written after other bytes appends a space and its digits
pub one_number : (old a now w : List ℕ) (x n : ℕ) → a ≡ old ++ w → Puts a now (λ r. decimal x ∷ r) → x ≡ n →
    now ≡ old ++ (w ++ (32 ∷ decimal n))
one_number old a now w x n e p q =
    last_number a now x n p q ∙ ap (λ z. z ++ (32 ∷ decimal n)) e ∙ append_assoc old w (32 ∷ decimal n)

-- A number was written after other bytes, with a space before it.
pub record IsNumberPut (old now : List ℕ) (n : ℕ) : Type 0 where
  pub written : ℕ
  pub puts : Puts old now (λ r. decimal written ∷ r)
  pub same : written ≡ n

-- two numbers that are written after other bytes append a space and the digits of each
pub two_numbers : (old a b now w : List ℕ) (m n : ℕ) → a ≡ old ++ w → IsNumberPut a b m → IsNumberPut b now n →
    now ≡ old ++ (w ++ (32 ∷ (decimal m ++ (32 ∷ decimal n))))
two_numbers old a b now w m n e p q =
    one_number old b now (w ++ (32 ∷ decimal m)) q.written n (one_number old a b w p.written m e p.puts p.same) q.puts q.same
    ∙ ap (λ z. old ++ z) (append_assoc w (32 ∷ decimal m) (32 ∷ decimal n))

-- three texts that are written one after the other are one text
pub three_puts : (port : Port) (a b c : List ℕ) (s0 s1 s2 s3 : Option Shown) → s1 ≡ appended port a s0 → s2 ≡ appended port b s1 →
    s3 ≡ appended port c s2 → s3 ≡ appended port (a ++ (b ++ c)) s0
three_puts port a b c s0 s1 s2 s3 p q r =
    let two : s2 ≡ appended port (a ++ b) s0 = q ∙ ap (appended port b) p ∙ appended-twice port a b s0 in
    r ∙ ap (appended port c) two ∙ appended-twice port (a ++ b) c s0 ∙ ap (λ x. appended port x s0) (append_assoc a b c)

-- ---- lines

-- what follows the first line is shorter than the text, unless the text is empty
pub shorter : (text : List ℕ) → 0 < length text → length (later text) < length text
shorter text h = omega (arith, length-drop (suc (span_to 10 text)) text)

-- With the meanings of the calls that remain, what was written has the meanings of all.
abbrev pub Written : List Fun → List ℕ → List ℕ → List ℕ → Type 0
Written fs calls written rest = (out : List ℕ) → AreMeanings fs rest out → AreMeanings fs calls (written ++ out)

-- The first call that remained was taken off what remains, and its meaning was written.
pub record IsTaken (fs : List Fun) (rest after old new : List ℕ) : Type 0 where
  pub some : 0 < length rest
  pub put : IsPut fs (first rest) old new
  pub left : after ≡ later rest

-- the step of `meanings`: the meaning of the first call that remains is written
pub written_more : (fs : List Fun) (calls rest after old new : List ℕ) → Written fs calls old rest → IsTaken fs rest after old new →
    Written fs calls new after
written_more fs calls rest after old new f t = λ out g.
    let here = t.put in
    let others = subst (λ (x : List ℕ). AreMeanings fs x out) t.left g in
    let all = f (here.out ++ out) (next t.some here.meaning others) in
    subst (λ (x : List ℕ). AreMeanings fs calls x) (sym (append_assoc old here.out out) ∙ ap (λ x. x ++ out) (sym here.appended)) all

-- the end of the loop in `meanings`: no call remains, and the meanings of all are written
pub written_all : (fs : List Fun) (calls rest written : List ℕ) → Written fs calls written rest → length rest ≡ 0 → AreMeanings fs calls written
written_all fs calls rest written f e =
    let nothing = subst (λ (x : List ℕ). AreMeanings fs x []) (sym (nil_from_length rest e)) none in
    subst (λ (x : List ℕ). AreMeanings fs calls x) (append-nil written) (f [] nothing)

some_call : (fs : List Fun) (line out : List ℕ) → IsMeaning fs line out → IsSomeCall line
some_call fs line out m = (m.name, m.index, m.values, m.call)

-- The first n lines of the text were calls, and what remains of it is what follows them.
pub record AreCalls (text : List ℕ) (n : ℕ) (rest : List ℕ) : Type 0 where
  pub rest_is : rest ≡ after_lines n text
  pub calls : (k : ℕ) → k < n → IsSomeCall (first (after_lines k text))
  pub room : n + length rest ≤ length text

-- the step of `meanings`: one more line was a call
pub one_call : (fs : List Fun) (text rest after old new : List ℕ) (n : ℕ) → AreCalls text n rest → IsTaken fs rest after old new →
    AreCalls text (n + 1) after
one_call fs text rest after old new n c t =
    let s : suc n ≡ n + 1 = omega arith in
    let here : IsSomeCall (first (after_lines n text)) =
    subst (λ (x : List ℕ). IsSomeCall (first x)) c.rest_is (some_call fs (first rest) t.put.out t.put.meaning) in
    let l : length after < length rest = subst (λ (x : List ℕ). length x < length rest) (sym t.left) (shorter rest t.some) in
    let r = c.room in
    subst (λ (x : ℕ). AreCalls text x after) s (record {
      rest_is = t.left ∙ ap later c.rest_is;
      calls = λ k b. either k (cases_lt k n) b here;
      room = omega (arith, l, r);
    })
  where
    either : (k : ℕ) → (k < n) ⊎ (n ≤ k) → k < suc n → IsSomeCall (first (after_lines n text)) → IsSomeCall (first (after_lines k text))
    either k (inl b) l here = c.calls k b
    either k (inr b) l here = let i : n ≡ k = omega arith in subst (λ (x : ℕ). IsSomeCall (first (after_lines x text))) i here

-- a line that isn't a call is the first such one
pub first_other : (text rest line : List ℕ) (n m : ℕ) → AreCalls text n rest → 0 < length rest → line ≡ first rest → IsNoCall line → m ≡ n + 1 →
    IsFirstOther text m
first_other text rest line n m c h p o e = record {
  before = n;
  number = omega arith;
  there = subst (λ (x : List ℕ). 0 < length x) c.rest_is h;
  other = subst (λ (x : List ℕ). IsNoCall (first x)) c.rest_is (subst IsNoCall p o);
  calls = c.calls;
}
