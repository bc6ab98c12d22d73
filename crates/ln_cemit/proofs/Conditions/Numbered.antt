-- Statements that keep the conditions of the subset: what holds of them, and of a function that has them as its body.
use Rattle.std.proofs.Common.{◌≡◌, ℕ, suc, ◌<◌, ◌≤◌, Bool, true, false, List, refl, arith}
use Rattle.std.specs.Prelude.{◌&&◌, ◌||◌, not, nat_le, bytes_eq}
use Rattle.std.proofs.lemmas.Bool.{and_parts, false_from_ne_true, leb-true, le-leb}
use Rattle.std.proofs.lemmas.Slice.Eq.{bytes_eq-Decides}
use Rattle.ln_csyn.specs.declared.tree.CType.{CType}
use Rattle.ln_csyn.specs.Tree as c
use Rattle.ln_csyn.specs.Tree.{Expr, Body}
use Rattle.ln_csyn.specs.Words.{among, is_c_name}
use Rattle.ln_csyn.specs.Keeps.{parens, parens_in, braces_in, divides, calls_none, each_expr, each_name, direct, distinct, differ_within, is_own}
use Rattle.ln_csyn.specs.Text.{has_words}
use Rattle.ln_csyn.specs.Spelling.{flat}
use Rattle.ln_cemit.specs.Checked.{AreNames}
use Rattle.ln_cemit.specs.Conditions.{AreFree, MeetsConditions}

-- an expression that may be emitted: it has NAMEs and NUMBERs, divides by NUMBERs above 0, has at most 12 parentheses round a place, and no call
-- where none is allowed
abbrev pub fine : Bool → Expr → Bool
fine calls x = has_words x && (divides x && (nat_le (parens x) 12 && (calls || calls_none x)))

record Fine (calls : Bool) (x : Expr) : Type 0 where
  words : has_words x ≡ true
  divide : divides x ≡ true
  few : parens x ≤ 12
  call : (calls || calls_none x) ≡ true

fine_says : (calls : Bool) (x : Expr) → fine calls x ≡ true → Fine calls x
fine_says calls x h =
    let p = and_parts (has_words x) _ h in
    let q = and_parts (divides x) _ p.1 in
    let r = and_parts (nat_le (parens x) 12) _ q.1 in
    record { words = p.0; divide = q.0; few = leb-true (parens x) 12 r.0; call = r.1 }

-- statements in which the declarations directly in them are numbered upwards from n on, and at most d braces are round a place
pub data IsNumbered (name : ℕ → List ℕ) (top : ℕ) (calls : Bool) : ℕ → ℕ → Body → Type 0 where
  none : {n d : ℕ} → IsNumbered name top calls n d c.End
  back : {n d : ℕ} {x : Expr} → fine calls x ≡ true → IsNumbered name top calls n d (c.Return 2 x c.End)
  decl : {n d : ℕ} {t : CType} {x : Expr} {b : Body} → n < top → fine calls x ≡ true → IsNumbered name top calls (suc n) d b
      → IsNumbered name top calls n d (c.Decl 2 t (name n) x b)
  group : {n i d : ℕ} {a b : Body} → IsNumbered name top calls i d a → IsNumbered name top calls n (suc d) b
      → IsNumbered name top calls n (suc d) (c.Group 2 a b)
  when : {n i d : ℕ} {x : Expr} {a b : Body} → fine calls x ≡ true → IsNumbered name top calls i d a → IsNumbered name top calls n (suc d) b
      → IsNumbered name top calls n (suc d) (c.If 2 x a b)

module _ (name : ℕ → List ℕ) (top : ℕ) (calls : Bool) where
  exprs_pass : (q : Expr → Bool) → ((x : Expr) → fine calls x ≡ true → q x ≡ true) → {n d : ℕ} {b : Body} → IsNumbered name top calls n d b
      → each_expr q b ≡ true
  exprs_pass q h none = refl
  exprs_pass q h (back {x = x} f) = rw (h x f) refl
  exprs_pass q h (decl {x = x} l f s) = rw (h x f, exprs_pass q h s) refl
  exprs_pass q h (group s t) = rw (exprs_pass q h s, exprs_pass q h t) refl
  exprs_pass q h (when {x = x} f s t) = rw (h x f, exprs_pass q h s, exprs_pass q h t) refl

  names_pass : (q : List ℕ → Bool) → ((i : ℕ) → i < top → q (name i) ≡ true) → {n d : ℕ} {b : Body} → IsNumbered name top calls n d b → each_name q b ≡ true
  names_pass q h none = refl
  names_pass q h (back f) = refl
  names_pass q h (decl {n = n} l f s) = rw (h n l, names_pass q h s) refl
  names_pass q h (group s t) = rw (names_pass q h s, names_pass q h t) refl
  names_pass q h (when f s t) = rw (names_pass q h s, names_pass q h t) refl

  few_braces : {n d : ℕ} {b : Body} → IsNumbered name top calls n d b → braces_in b ≤ d
  few_braces none = omega arith
  few_braces (back f) = omega arith
  few_braces (decl l f s) = few_braces s
  few_braces (group s t) = omega (arith, few_braces s, few_braces t)
  few_braces (when f s t) = omega (arith, few_braces s, few_braces t)

  few_parens : {n d : ℕ} {b : Body} → IsNumbered name top calls n d b → parens_in b ≤ 13
  few_parens none = omega arith
  few_parens (back {x = x} f) = omega (arith, (fine_says calls x f).few)
  few_parens (decl {x = x} l f s) = omega (arith, (fine_says calls x f).few, few_parens s)
  few_parens (group s t) = omega (arith, few_parens s, few_parens t)
  few_parens (when {x = x} f s t) = omega (arith, (fine_says calls x f).few, few_parens s, few_parens t)

  one_line : {n d : ℕ} {b : Body} → IsNumbered name top calls n d b → flat b ≡ b
  one_line none = refl
  one_line (back f) = refl
  one_line (decl l f s) = rw (one_line s) refl
  one_line (group s t) = rw (one_line s, one_line t) refl
  one_line (when f s t) = rw (one_line s, one_line t) refl

  -- ---- the names of the first `top` declarations differ
  module _ (differ : AreNames name top) where
    other_name : (i m : ℕ) → i < m → m < top → bytes_eq (name i) (name m) ≡ false
    other_name i m l h = false_from_ne_true (bytes_eq (name i) (name m))
        (λ e. let r : i ≡ m = differ i m (omega (arith, l, h)) h ((bytes_eq-Decides (name i) (name m)).0 e) in omega (arith, r, l))

    later : (i : ℕ) {n d : ℕ} {b : Body} → i < n → IsNumbered name top calls n d b → among (direct b) (name i) ≡ false
    later i h none = refl
    later i h (back f) = refl
    later i h (decl {n = n} l f s) = rw (other_name i n h l, later i (omega (arith, h)) s) refl
    later i h (group s t) = later i h t
    later i h (when f s t) = later i h t

    all_differ : {n d : ℕ} {b : Body} → IsNumbered name top calls n d b → distinct (direct b) ≡ true
    all_differ none = refl
    all_differ (back f) = refl
    all_differ (decl {n = n} l f s) = rw (later n (omega arith) s, all_differ s) refl
    all_differ (group s t) = all_differ t
    all_differ (when f s t) = all_differ t

    differ_inside : {n d : ℕ} {b : Body} → IsNumbered name top calls n d b → differ_within b ≡ true
    differ_inside none = refl
    differ_inside (back f) = refl
    differ_inside (decl l f s) = differ_inside s
    differ_inside (group s t) = rw (all_differ s, differ_inside s, differ_inside t) refl
    differ_inside (when f s t) = rw (all_differ s, differ_inside s, differ_inside t) refl

    call_where : (v : Bool) → ((x : Expr) → fine calls x ≡ true → (v || calls_none x) ≡ true) → {n d : ℕ} {b : Body} → IsNumbered name top calls n d b
        → (v || each_expr calls_none b) ≡ true
    call_where true h s = refl
    call_where false h s = exprs_pass calls_none h s

    -- a function of such statements keeps the conditions, where the names are free and its own is a NAME
    pub meets : (names : List (List ℕ)) (own : Bool) (x : List ℕ) {d : ℕ} (b : Body) → AreFree names name top → is_c_name x ≡ true → is_own x ≡ true
        → d ≤ 63 → IsNumbered name top calls 0 d b → MeetsConditions names (record { own = own; name = x; indexed = calls; body = b; end = 2 })
    meets names own x b free w o l s =
        let small : nat_le (parens_in b) 16 ≡ true = le-leb _ _ (omega (arith, few_parens s)) in
        let braces : nat_le (suc (braces_in b)) 64 ≡ true = le-leb _ _ (omega (arith, few_braces s, l)) in
        let apart : each_name (λ y. is_own y && not (among names y)) b ≡ true =
        names_pass (λ y. is_own y && not (among names y)) (λ i h. (and_parts (is_c_name (name i)) _ (free i h)).1) s in
        let divide : each_expr divides b ≡ true = exprs_pass divides (λ y f. (fine_says calls y f).divide) s in
        let call : (calls || each_expr calls_none b) ≡ true = call_where calls (λ y f. (fine_says calls y f).call) s in
        let words : each_expr has_words b ≡ true = exprs_pass has_words (λ y f. (fine_says calls y f).words) s in
        let spelt : each_name is_c_name b ≡ true = names_pass is_c_name (λ i h. (and_parts (is_c_name (name i)) _ (free i h)).0) s in
        let alone : distinct (direct b) ≡ true = all_differ s in
        let within : differ_within b ≡ true = differ_inside s in
        record {
          keeps = rw (small, braces, o, apart, alone, within, divide, call) refl;
          words = rw (w, words, spelt) refl;
          flat = rw (one_line s) refl;
        }
