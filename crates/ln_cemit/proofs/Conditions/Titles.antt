-- The names of functions: they are NAMEs, begin with l, and differ.
use Rattle.std.proofs.Common.{◌≡◌, ◌≢◌, ℕ, zero, suc, ◌+◌, ◌<◌, ◌≤◌, ◌^◌, ◌==◌, Bool, true, false, List, [], ◌∷◌, ◌++◌, length}
use Rattle.std.proofs.Common.{refl, sym, ap, arith}
use Rattle.std.specs.Prelude.{Option, Some, None, codes, decimal, bytes_eq, if◌then◌else◌}
use Rattle.std.specs.List.{list_all}
use Rattle.std.specs.Char.{is_ascii_digit}
use Rattle.std.proofs.lemmas.Bool.{and_parts, false_from_ne_true}
use Rattle.std.proofs.lemmas.Bool.Decides.{nat_tests}
use Rattle.std.proofs.lemmas.Fmt.{decimal_injective}
use Rattle.std.proofs.lemmas.List.{append_cancel_right}
use Rattle.std.proofs.lemmas.Slice.Eq.{bytes_eq-Decides}
use Rattle.ln_base.proofs.DecimalLemmas.{text_is_digits}
use Rattle.ln_base.specs.Words.{is_digit, is_letter, is_name, is_name_byte, is_word, every}
use Rattle.ln_code.specs.Part.{FilterCode}
use Rattle.ln_csyn.specs.Tree.{Body, Fun}
use Rattle.ln_csyn.specs.Words.{among, is_c_name}
use Rattle.ln_csyn.specs.Keeps.{distinct, is_own, names_of}
use Rattle.ln_csyn.proofs.Writing.Spells.{digits_every}
use Rattle.ln_csyn.proofs.Writing.Laying.{every_digit_name}
use Rattle.ln_cemit.specs.File.{AreAway, one_funs}
use Rattle.ln_cemit.specs.declared.entry.Entry.{Entry}
use Rattle.ln_cemit.specs.declared.entry.Entry.TheVariants.{Alternating, EveryRow, Symmetric}
use Rattle.ln_cemit.specs.Names.{all_begin, begins_with_l, block_name, entry_name, filter_name, answer_name}
use Rattle.ln_cemit.specs.Whole.{numbered}
use Rattle.ln_cemit.proofs.Conditions.Named.{apart}

-- ---- bytes
every_more : (p : ℕ → Bool) (xs ys : List ℕ) → every p xs ≡ true → every p ys ≡ true → every p (xs ++ ys) ≡ true
every_more p [] ys h k = k
every_more p (x ∷ xs) ys h k = let r = and_parts (p x) (every p xs) h in rw (r.0, every_more p xs ys r.1 k) refl

-- all bytes of a name are allowed in a name
pub name_passes : (x : List ℕ) → is_name x ≡ true → every is_name_byte x ≡ true
name_passes [] h = refl
name_passes (b ∷ bs) h =
    let w = and_parts (is_word (b ∷ bs)) _ h in
    let l = and_parts (is_letter b) (every is_name_byte bs) w.0 in
    rw (l.0, l.1) refl

-- a number up to 2^63 is written in digits
pub number_digits : (n : ℕ) → n ≤ 2 ^ 63 → every is_digit (decimal n) ≡ true
number_digits n h = digits_every (decimal n) (and_parts (list_all is_ascii_digit (decimal n)) _ (text_is_digits n (omega (arith, h)))).0

-- ---- NAMEs
filter_c_name : (x : List ℕ) → every is_name_byte x ≡ true → is_c_name (filter_name x) ≡ true
filter_c_name x h = rw h refl

-- the name of the function that is called from outside is a NAME
pub entry_c_name : (n : Entry) (x : List ℕ) → every is_name_byte x ≡ true → is_c_name (entry_name n x) ≡ true
entry_c_name EveryRow x h = rw h refl
entry_c_name Alternating x h = rw h refl
entry_c_name Symmetric x h = rw h refl

-- and neither v nor x
pub entry_own : (n : Entry) (x : List ℕ) → is_own (entry_name n x) ≡ true
entry_own EveryRow x = refl
entry_own Alternating x = refl
entry_own Symmetric x = refl

-- it begins with l
pub entry_begins : (n : Entry) (x : List ℕ) → begins_with_l (entry_name n x) ≡ true
entry_begins EveryRow x = refl
entry_begins Alternating x = refl
entry_begins Symmetric x = refl

block_c_name : (x : List ℕ) (b : ℕ) → b ≤ 2 ^ 63 → every is_name_byte x ≡ true → is_c_name (block_name x b) ≡ true
block_c_name x b l h = word (decimal b ++ 95 ∷ x) (every_more is_name_byte (decimal b) (95 ∷ x) (every_digit_name (decimal b) (number_digits b l)) h) where
  word : (ds : List ℕ) → every is_name_byte ds ≡ true → is_c_name (108 ∷ 98 ∷ ds) ≡ true
  word ds e = rw e refl

-- the name of a function with one parameter is a NAME
pub numbered_c_name : (x : List ℕ) (f : Option FilterCode) (b : ℕ) → b ≤ 2 ^ 63 → every is_name_byte x ≡ true → is_c_name (numbered x f b) ≡ true
numbered_c_name x None b l h = block_c_name x b l h
numbered_c_name x (Some f) zero l h = filter_c_name x h
numbered_c_name x (Some f) (suc b) l h = block_c_name x b (omega (arith, l)) h

-- the name of a function with one parameter is neither v nor x
pub numbered_own : (x : List ℕ) (f : Option FilterCode) (b : ℕ) → is_own (numbered x f b) ≡ true
numbered_own x None b = refl
numbered_own x (Some f) zero = refl
numbered_own x (Some f) (suc b) = refl

-- the name of a function with one parameter begins with l
pub numbered_begins : (x : List ℕ) (f : Option FilterCode) (b : ℕ) → begins_with_l (numbered x f b) ≡ true
numbered_begins x None b = refl
numbered_begins x (Some f) zero = refl
numbered_begins x (Some f) (suc b) = refl

-- the name of the one declaration is free
pub sign_apart : (names : List (List ℕ)) → all_begin names ≡ true → among names answer_name ≡ false
sign_apart names h = apart names 97 (codes "nswer") refl h

-- ---- names of functions
-- what comes after the first underscore of a name; nothing where it has none
abbrev pub family : List ℕ → List ℕ
family [] = []
family (b ∷ bs) = if b == 95 then bs else family bs

family_past : (ds x : List ℕ) → every is_digit ds ≡ true → family (ds ++ 95 ∷ x) ≡ x
family_past [] x h = refl
family_past (d ∷ ds) x h =
    let p = and_parts (is_digit d) (every is_digit ds) h in
    let a : is_digit d ≡ true = p.0 in
    let e : (d == 95) ≡ false = other d a in
    rw (e, family_past ds x p.1) refl
  where
    other : (d : ℕ) → is_digit d ≡ true → (d == 95) ≡ false
    other d h = grind (arith, nat_tests)

-- in the name of a function with one parameter, the predicate's name comes after the first underscore
pub numbered_family : (x : List ℕ) (f : Option FilterCode) (b : ℕ) → b ≤ 2 ^ 63 → family (numbered x f b) ≡ x
numbered_family x None b l = family_past (decimal b) x (number_digits b l)
numbered_family x (Some f) zero l = refl
numbered_family x (Some f) (suc b) l = family_past (decimal b) x (number_digits b (omega (arith, l)))

-- so it does in the name of the function that is called from outside
pub entry_family : (n : Entry) (x : List ℕ) → family (entry_name n x) ≡ x
entry_family EveryRow x = refl
entry_family Alternating x = refl
entry_family Symmetric x = refl

-- ---- they differ
tail_same : (a b : ℕ) (xs ys : List ℕ) → a ∷ b ∷ xs ≡ a ∷ b ∷ ys → xs ≡ ys
tail_same a b xs ys e = cc

block_differs : (x : List ℕ) (i j : ℕ) → i ≤ 2 ^ 63 → j ≤ 2 ^ 63 → block_name x i ≡ block_name x j → i ≡ j
block_differs x i j l m e =
    decimal_injective i j (omega (arith, l)) (omega (arith, m)) (append_cancel_right (decimal i) (decimal j) (95 ∷ x) (tail_same 108 98 _ _ e))

-- the second byte
abbrev second : List ℕ → ℕ
second [] = 0
second (a ∷ []) = 0
second (a ∷ b ∷ bs) = b

-- functions with one parameter have different names, where their numbers differ
pub numbered_differ : (x : List ℕ) (f : Option FilterCode) (i j : ℕ) → i ≤ 2 ^ 63 → j ≤ 2 ^ 63 → numbered x f i ≡ numbered x f j → i ≡ j
numbered_differ x None i j l m e = block_differs x i j l m e
numbered_differ x (Some f) zero zero l m e = refl
numbered_differ x (Some f) zero (suc j) l m e = let q : 102 ≡ 98 = ap second e in absurd (omega (arith, q))
numbered_differ x (Some f) (suc i) zero l m e = let q : 98 ≡ 102 = ap second e in absurd (omega (arith, q))
numbered_differ x (Some f) (suc i) (suc j) l m e = ap suc (block_differs x i j (omega (arith, l)) (omega (arith, m)) e)

no_block : (n : Entry) (x : List ℕ) (b : ℕ) → block_name x b ≢ entry_name n x
no_block EveryRow x b e = let q : 98 ≡ 110 = ap second e in absurd (omega (arith, q))
no_block Alternating x b e = let q : 98 ≡ 97 = ap second e in absurd (omega (arith, q))
no_block Symmetric x b e = let q : 98 ≡ 115 = ap second e in absurd (omega (arith, q))

no_filter : (n : Entry) (x : List ℕ) → filter_name x ≢ entry_name n x
no_filter EveryRow x e = let q : 102 ≡ 110 = ap second e in absurd (omega (arith, q))
no_filter Alternating x e = let q : 102 ≡ 97 = ap second e in absurd (omega (arith, q))
no_filter Symmetric x e = let q : 102 ≡ 115 = ap second e in absurd (omega (arith, q))

-- no function with one parameter has the name of the one that is called from outside
pub numbered_no_entry : (n : Entry) (x : List ℕ) (f : Option FilterCode) (b : ℕ) → numbered x f b ≢ entry_name n x
numbered_no_entry n x None b e = no_block n x b e
numbered_no_entry n x (Some f) zero e = no_filter n x e
numbered_no_entry n x (Some f) (suc b) e = no_block n x b e

-- ---- lists of functions
other : (x y : List ℕ) → (y ≢ x) → bytes_eq x y ≡ false
other x y h = false_from_ne_true (bytes_eq x y) (λ e. h (sym ((bytes_eq-Decides x y).0 e)))

-- a name that no function has isn't among the names of the functions
pub away_among : (fs : List Fun) (x : List ℕ) → AreAway fs x → among (names_of fs) x ≡ false
away_among [] x h = refl
away_among (f ∷ fs) x h = rw (other x f.name h.0, away_among fs x h.1) refl

-- a name that no function of two lists has, none of both has, appended
pub away_more : (fs gs : List Fun) (x : List ℕ) → AreAway fs x → AreAway gs x → AreAway (fs ++ gs) x
away_more [] gs x h k = k
away_more (f ∷ fs) gs x h k = (h.0, away_more fs gs x h.1 k)

-- a name that differs from that of each number is none of the functions with these numbers
pub away_one : (name : ℕ → List ℕ) (i : ℕ) (bodies : List Body) (x : List ℕ) → ((j : ℕ) → i ≤ j → j < i + length bodies → name j ≢ x)
    → AreAway (one_funs name i bodies) x
away_one name i [] x h = tt
away_one name i (b ∷ bs) x h = (h i (omega arith) (omega arith), away_one name (suc i) bs x (λ j l m. h j (omega (arith, l)) (omega (arith, m))))

-- the names of numbered functions and of others after them differ, where those of each differ and none is in both
pub distinct_one : (name : ℕ → List ℕ) (i top : ℕ) (bodies : List Body) (rest : List Fun) → i + length bodies ≤ top
    → ((j k : ℕ) → j < top → k < top → name j ≡ name k → j ≡ k) → ((j : ℕ) → j < top → AreAway rest (name j))
    → distinct (names_of rest) ≡ true → distinct (names_of (one_funs name i bodies ++ rest)) ≡ true
distinct_one name i top [] rest l differ away h = h
distinct_one name i top (b ∷ bs) rest l differ away h =
    let later : AreAway (one_funs name (suc i) bs) (name i) =
    away_one name (suc i) bs (name i) (λ j m n e. omega (arith, differ j i (omega (arith, n, l)) (omega (arith, l)) e, m)) in
    let here : AreAway (one_funs name (suc i) bs ++ rest) (name i) = away_more (one_funs name (suc i) bs) rest (name i) later (away i (omega (arith, l))) in
    rw (away_among (one_funs name (suc i) bs ++ rest) (name i) here, distinct_one name (suc i) top bs rest (omega (arith, l)) differ away h) refl
