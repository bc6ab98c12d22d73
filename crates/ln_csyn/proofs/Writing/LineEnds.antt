-- In what is laid out a line ends after each ; { and }.
use Rattle.std.proofs.Common.{◌≡◌, ℕ, zero, suc, ◌==◌, Bool, true, false, List, [], ◌∷◌, ◌++◌, refl, sym, subst, arith, inl, inr}
use Rattle.std.proofs.lemmas.Bool.{and_parts, cases_Bool}
use Rattle.std.proofs.lemmas.Bool.Decides.{nat_tests}
use Rattle.ln_base.specs.Words.{is_digit, is_letter, is_name_byte, every}
use Rattle.ln_csyn.specs.declared.layout.Spot.{Spot}
use Rattle.ln_csyn.specs.Grammar.{Token}
use Rattle.ln_csyn.specs.Keeps.{each_fun, keeps}
use Rattle.ln_csyn.specs.Text.{is_double, is_sign_text, is_token, fun_words}
use Rattle.ln_csyn.specs.Tree.{Fun}
use Rattle.ln_csyn.specs.Spelling.{spell_fun, written}
use Rattle.ln_csyn.specs.Layout.{ends_line, indent, gap, gap_depth, ended, laid_at, laid_funs, start, at_end, lines_end}
use Rattle.ln_csyn.specs.Laws.{LaidEndsLines}
use Rattle.ln_csyn.proofs.Writing.Writes.{all_tokens, digit_name, every_digit_name, first_of, last_of, letter_name, tokens_fun}
use Rattle.ln_csyn.proofs.Writing.Laying.{gap_cases, goes}

name_stays : (b : ℕ) → is_name_byte b ≡ true → ends_line b ≡ false
name_stays b h = grind (arith, nat_tests)

double_stays : (b : ℕ) → is_double b ≡ true → ends_line b ≡ false
double_stays b h = grind (arith, nat_tests)

names_end : (xs tail : List ℕ) → every is_name_byte xs ≡ true → lines_end tail ≡ true → lines_end (xs ++ tail) ≡ true
names_end [] tail h k = k
names_end (x ∷ xs) tail h k = let p = and_parts (is_name_byte x) _ h in rw (name_stays x p.0, names_end xs tail p.1 k) refl

equals_stays : (c : ℕ) → (c == 61) ≡ true → ends_line c ≡ false
equals_stays c h = grind (arith, nat_tests)

sign_end : (b : ℕ) (bs tail : List ℕ) → is_sign_text b bs ≡ true → lines_end tail ≡ true
    → (ends_line (last_of b bs) ≡ true → at_end tail ≡ true) → lines_end ((b ∷ bs) ++ tail) ≡ true
sign_end b [] tail t k e =
    elim (cases_Bool (ends_line b)) [ inl q ↦ (let f = e q in rw (q, f, k) refl) | inr q ↦ rw (q, k) refl ]
sign_end b (c ∷ []) tail t k e = let p = and_parts (is_double b) _ t in rw (double_stays b p.0, equals_stays c p.1, k) refl
sign_end b (c ∷ d ∷ bs) tail t k e = absurd (cc)

token_end_by : (b : ℕ) (bs tail : List ℕ) (u v : Bool) → is_letter b ≡ u → is_digit b ≡ v → is_token (b ∷ bs) ≡ true → lines_end tail ≡ true
    → (ends_line (last_of b bs) ≡ true → at_end tail ≡ true) → lines_end ((b ∷ bs) ++ tail) ≡ true
token_end_by b bs tail true v p q t k e =
    let m : every is_name_byte bs ≡ true = (rw p at t) in
    names_end (b ∷ bs) tail (rw (letter_name b p, m) refl) k
token_end_by b bs tail false true p q t k e =
    let m : every is_digit bs ≡ true = (rw (p, q) at t) in
    names_end (b ∷ bs) tail (rw (digit_name b q, every_digit_name bs m) refl) k
token_end_by b bs tail false false p q t k e = sign_end b bs tail (rw (p, q) at t) k e

token_end : (t tail : List ℕ) → is_token t ≡ true → lines_end tail ≡ true → (ends_line (last_of 0 t) ≡ true → at_end tail ≡ true)
    → lines_end (t ++ tail) ≡ true
token_end [] tail t k e = absurd (cc)
token_end (b ∷ bs) tail t k e = token_end_by b bs tail (is_letter b) (is_digit b) refl refl t k e

-- ---- gaps

indent_end : (d : ℕ) (r : List ℕ) → lines_end r ≡ true → lines_end (indent d r) ≡ true
indent_end zero r h = h
indent_end (suc d) r h = indent_end d r h

gap_end : (s : Spot) (b : ℕ) (r : List ℕ) → lines_end r ≡ true → lines_end (gap s b r) ≡ true
gap_end s b r h = gap_cases s b r (λ z. lines_end z ≡ true) (λ e. h) (λ e. indent_end (gap_depth s.depth b) r h) (λ e. h) (λ e f. h)

gap_feeds : (s : Spot) (b : ℕ) (t bs r : List ℕ) → t ≡ b ∷ bs → ends_line s.last ≡ true → at_end (gap s b (t ++ r)) ≡ true
gap_feeds s b t bs r q h =
    rw q (gap_cases s b (b ∷ (bs ++ r)) (λ z. at_end z ≡ true) (λ e. rw e refl) (λ e. refl) (λ e. absurd (cc)) (λ e f. absurd (cc)))

-- ---- all tokens

feeds : (s : Spot) (ts : List Token) (r : List ℕ) → all_tokens ts ≡ true → ends_line s.last ≡ true → at_end (laid_at (ended s) (written ts) r) ≡ true
feeds s [] r h l = refl
feeds s (t ∷ ts) r h l =
    let w = goes s t.text (written ts) r (first_of t ts h).token in
    subst (λ (z : List ℕ). at_end z ≡ true) (sym w.laid) (gap_feeds (ended s) w.first t.text w.others _ w.is l)

ends_all : (ts : List Token) (r : List ℕ) → all_tokens ts ≡ true → lines_end r ≡ true → (s : Spot) → lines_end (laid_at (ended s) (written ts) r) ≡ true
ends_all [] r h e s = e
ends_all (t ∷ ts) r h l s =
    let f = first_of t ts h in
    let w = goes s t.text (written ts) r f.token in
    let e : ends_line (last_of 0 t.text) ≡ true → at_end (laid_at (ended w.after) (written ts) r) ≡ true =
    (λ q. feeds w.after ts r f.rest (subst (λ (z : ℕ). ends_line z ≡ true) (sym w.last) q)) in
    subst (λ (z : List ℕ). lines_end z ≡ true) (sym w.laid)
    (gap_end (ended s) w.first _ (token_end t.text (laid_at (ended w.after) (written ts) r) f.token (ends_all ts r f.rest l w.after) e))

-- ---- function by function

funs_end : (fs : List Fun) → each_fun fun_words fs ≡ true → lines_end (laid_funs fs []) ≡ true
funs_end [] h = refl
funs_end (f ∷ fs) h =
    let v = and_parts (fun_words f) _ h in
    ends_all (spell_fun f []) (laid_funs fs []) (tokens_fun f [] v.0 refl) (funs_end fs v.1) start

-- the whole text
pub laid_ends_lines : LaidEndsLines
laid_ends_lines fs h = funs_end fs (and_parts (keeps fs) _ h).1
