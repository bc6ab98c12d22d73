-- Proves that the reader returns the file that the bytes are, and refuses them only where they are none of the subset.
use Rattle.std.proofs.Common.{◌≡◌, ℕ, suc, ◌&&◌, nat_le, Bool, true, false, List, [], ◌++◌, length, take, drop, Some, None, refl, ap, sym, ◌∙◌, subst}
use Rattle.std.proofs.lemmas.Bool.{and_from, and_parts}
use Rattle.std.proofs.lemmas.List.{take-append-drop}
use Rattle.std.proofs.lemmas.Option.{cond_some, same_Some}
use Rattle.ln_csyn.specs.Tree.{Expr, Body, Fun}
use Rattle.ln_csyn.specs.Words.{is_c_name, is_numeral, number_of, most_number}
use Rattle.ln_base.specs.Decimal.{decimal_value}
use Rattle.ln_csyn.specs.Grammar.{Token, Sort, Derives, IsBody, IsHead, IsFun, IsFile}
use Rattle.ln_csyn.specs.Grammar as g
use Rattle.ln_csyn.specs.Text.{Spelt, CText, first_line, Lexed, is_file, has_words, fun_words, tokens_from}
use Rattle.ln_csyn.specs.Laws.{TextIsKept}
use Rattle.ln_csyn.specs.Reading.{block_at, funs_at}
use Rattle.ln_csyn.specs.Keeps.{keeps, each_fun, fresh_on, names_of, rest_keeps, each_expr, each_name}
use Rattle.ln_csyn.proofs.Reading.CompleteFile.{file_is_complete}
use Rattle.ln_csyn.proofs.Reading.SoundFile.{file_is_sound}
use Rattle.ln_csyn.proofs.Keeping.KeepLemmas.{keeps_is}
use Rattle.ln_csyn.proofs.Lexing.Scanned.{behind_first, lexed_found, found_lexed}
use Rattle.ln_csyn.proofs.Reading.Texts.{texts_file}

-- what is tested once a file is read
abbrev pub rest_keep : List Fun → Bool
rest_keep fs = fresh_on [] (names_of fs) && each_fun (rest_keeps (names_of fs)) fs

-- the limits as the reader has them
limits : (o i k : ℕ) (ts : List Token) (w : _) → o ≡ 16 → i ≡ 15 → k ≡ 64 → funs_at (block_at o i k) (suc (length ts)) ts ≡ w
    → funs_at (block_at 16 15 64) (suc (length ts)) ts ≡ w
limits o i k ts w p q r h = rw (p, q, r) at h

-- functions that pass the tests are the file of the tokens
pub read_ok : (o i k : ℕ) (ts : List Token) (fs : List Fun) (v : Bool) → o ≡ 16 → i ≡ 15 → k ≡ 64
    → funs_at (block_at o i k) (suc (length ts)) ts ≡ Some fs → v ≡ rest_keep fs → v ≡ true → Spelt ts fs
read_ok o i k ts fs v p q r h e t =
    let s = file_is_sound ts fs (limits o i k ts (Some fs) p q r h) in
    record { file = s.0; kept = keeps_is fs s.1 ∙ sym e ∙ t }

-- where they fail the tokens are no file
pub read_no : (o i k : ℕ) (ts : List Token) (fs : List Fun) (v : Bool) → o ≡ 16 → i ≡ 15 → k ≡ 64
    → funs_at (block_at o i k) (suc (length ts)) ts ≡ Some fs → v ≡ rest_keep fs → v ≡ false → (gs : List Fun) → Spelt ts gs → ⊥
read_no o i k ts fs v p q r h e t gs d =
    let l = limits o i k ts (Some fs) p q r h in
    let s = file_is_sound ts fs l in
    let c = file_is_complete ts gs d.file d.kept in
    let g : gs ≡ fs = same_Some gs fs (sym c ∙ l) in
    let kt : keeps fs ≡ true = subst (λ (z : List Fun). keeps z ≡ true) g d.kept in
    let kf : keeps fs ≡ false = keeps_is fs s.1 ∙ sym e ∙ t in
    let z : true ≡ false = sym kt ∙ kf in absurd (cc)

-- where nothing is read the tokens are no file
pub read_none : (o i k : ℕ) (ts : List Token) → o ≡ 16 → i ≡ 15 → k ≡ 64 → funs_at (block_at o i k) (suc (length ts)) ts ≡ None
    → (gs : List Fun) → Spelt ts gs → ⊥
read_none o i k ts p q r h gs d =
    let l = limits o i k ts None p q r h in
    let c = file_is_complete ts gs d.file d.kept in
    let z : Some gs ≡ None = sym c ∙ l in absurd (cc)

-- the first line
pub first_some : (bytes f r : List ℕ) → f ≡ take 20 bytes → r ≡ drop 20 bytes → f ≡ first_line → bytes ≡ first_line ++ r
first_some bytes f r e d h =
    sym (take-append-drop 20 bytes) ∙ ap (λ (z : List ℕ). z ++ drop 20 bytes) (sym e ∙ h) ∙ ap (λ (z : List ℕ). first_line ++ z) (sym d)

-- whole files
pub no_first : (bytes : List ℕ) → ((r : List ℕ) → bytes ≡ first_line ++ r → ⊥) → (gs : List Fun) → CText bytes gs → ⊥
no_first bytes n gs c = n c.rest c.first

-- where the tokens are no file
pub no_file : (bytes rest : List ℕ) (ts : List Token) → bytes ≡ first_line ++ rest → ts ≡ tokens_from 2 rest → ((gs : List Fun) → Spelt ts gs → ⊥)
    → (gs : List Fun) → CText bytes gs → ⊥
no_file bytes rest ts e l n gs c =
    let r = behind_first c.rest rest (sym c.first ∙ e) in
    let t : c.tokens ≡ ts = sym (lexed_found (subst (λ (z : List ℕ). Lexed 2 z c.tokens) r c.lexed)) ∙ sym l in
    n gs (subst (λ (z : List Token). Spelt z gs) t c.spelt)

-- where they are one
pub is_text : (bytes rest : List ℕ) (ts : List Token) (fs : List Fun) → bytes ≡ first_line ++ rest → ts ≡ tokens_from 2 rest → Spelt ts fs → CText bytes fs
is_text bytes rest ts fs e l s =
    let t : Spelt (tokens_from 2 rest) fs = subst (λ (z : List Token). Spelt z fs) l s in
    record { rest = rest; tokens = tokens_from 2 rest; first = e; lexed = found_lexed 2 rest (texts_file t.file); spelt = t }

-- ---- names and numbers of what is derived

number_small : (text : List ℕ) (n : ℕ) → number_of text ≡ Some n → nat_le n most_number ≡ true
number_small text n h =
    let c = cond_some (is_numeral text && nat_le (decimal_value text) most_number) (decimal_value text) n h in
    subst (λ (z : ℕ). nat_le z most_number ≡ true) c.1 (and_parts (is_numeral text) _ c.0).1

words_expr : {s : Sort} {ts rest : List Token} {e : Expr} → Derives s ts rest e → has_words e ≡ true
words_expr (g.two {a = a} {b = b} h d o e s) = and_from (has_words a) (has_words b) (words_expr d) (words_expr e)
words_expr (g.minus h m d s) = words_expr d
words_expr (g.cast h i j m d s) = words_expr d
words_expr (g.number {p = p} {n = n} h) = number_small p.text n h
words_expr (g.name h) = h
words_expr (g.value {m = m} {n = n} h i j k) = number_small m.text n j
words_expr (g.index {m = m} {n = n} h i j k) = number_small m.text n j
words_expr (g.call h i j k) = h
words_expr (g.inner d) = words_expr d

exprs_body : {ts rest : List Token} {b : Body} → IsBody ts rest b → each_expr has_words b ≡ true
exprs_body (g.end h) = refl
exprs_body (g.decl {e = e} {b = b} k x q d s c) = and_from (has_words e) (each_expr has_words b) (words_expr d) (exprs_body c)
exprs_body (g.group {a = y} {b = z} h a b) = and_from (each_expr has_words y) (each_expr has_words z) (exprs_body a) (exprs_body b)
exprs_body (g.when h l d r m a b) = rw (words_expr d, exprs_body a, exprs_body b) refl
exprs_body (g.return {e = e} {b = b} h d s c) = and_from (has_words e) (each_expr has_words b) (words_expr d) (exprs_body c)

names_body : {ts rest : List Token} {b : Body} → IsBody ts rest b → each_name is_c_name b ≡ true
names_body (g.end h) = refl
names_body (g.decl {x = x} {b = b} k n q d s c) = and_from (is_c_name x.text) (each_name is_c_name b) n (names_body c)
names_body (g.group {a = y} {b = z} h a b) = and_from (each_name is_c_name y) (each_name is_c_name z) (names_body a) (names_body b)
names_body (g.when {a = y} {b = z} h l d r m a b) = and_from (each_name is_c_name y) (each_name is_c_name z) (names_body a) (names_body b)
names_body (g.return h d s c) = names_body c

words_head : {ts rest : List Token} {o : Bool} {f : Fun} → IsHead ts rest o f → fun_words f ≡ true
words_head (g.head {x = x} {b = b} h n l i r c d) =
    and_from (is_c_name x.text) (each_expr has_words b && each_name is_c_name b) n
    (and_from (each_expr has_words b) (each_name is_c_name b) (exprs_body d) (names_body d))

words_fun : {ts rest : List Token} {f : Fun} → IsFun ts rest f → fun_words f ≡ true
words_fun (g.own h d) = words_head d
words_fun (g.shared d) = words_head d

words_file : {ts : List Token} {fs : List Fun} → IsFile ts fs → each_fun fun_words fs ≡ true
words_file g.none = refl
words_file (g.one {f = f} {fs = fs} d r) = and_from (fun_words f) (each_fun fun_words fs) (words_fun d) (words_file r)

-- the file of tokens keeps all conditions
pub kept : (ts : List Token) (fs : List Fun) → Spelt ts fs → is_file fs ≡ true
kept ts fs s = and_from (keeps fs) (each_fun fun_words fs) s.kept (words_file s.file)

-- so does the file of a text
pub text_is_kept : TextIsKept
text_is_kept bytes fs c = kept c.tokens fs c.spelt
