-- The parentheses and the tokens of a canonical text.
use Rattle.std.proofs.Common.{◌≡◌, ℕ, zero, suc, ◌+◌, ◌-◌, ◌*◌, ◌<◌, ◌≤◌, Bool, true, false, cond, List, [], ◌∷◌, length}
use Rattle.std.proofs.Common.{take, Option, Some, None, refl, ap, sym, ◌∙◌, subst, arith, codes, ◌++◌, ◌==◌}
use Rattle.std.specs.Fmt.{decimal}
use Rattle.std.specs.Prelude.{nat_le, slice_get, unwrap_or, unsigned_abs}
use Rattle.std.proofs.lemmas.Bool.{le-leb, and_parts}
use Rattle.std.proofs.lemmas.Bool.Decides.{nat_tests}
use Rattle.ln_base.specs.Words.{is_name, is_letter}
use Rattle.ln_syntax.specs.Raw.{Kind, ParL, ParR, Plus, Minus, Star, Caret, Number, Is}
use Rattle.ln_syntax.specs.Place.{depth_behind, depth_after, IsShallow}
use Rattle.ln_parse.specs.Written.{Formula, FNum, FInput, FName, FNeg, FAdd, FSub, FMul, FPow, ArgOf, SiteArg, ParamArg, Naming, written, input, coord_name}
use Rattle.ln_parse.specs.Written.{range_name, IsNamed}
use Rattle.ln_tree.specs.Whole.{tightness, pairs, nesting, input_tokens, tokens_of}
use Rattle.ln_parse.specs.declared.printer.Room.{Room}
use Rattle.ln_parse.specs.declared.printer.Room.TheVariants.{OfSum, OfProduct, OfUnary, OfAtom}
use Rattle.ln_parse.specs.Canonical.{Lexeme, gap, line, word, text_of, fits, wrap, inside}
use Rattle.ln_parse.proofs.Texts.WordTokens.{number_kind, name_kind}
use Rattle.ln_parse.proofs.Texts.LexBack.{toks, soft, undotted, Goes, Clear}

shallow_toks : (xs : List Lexeme) (at d : ℕ) → Clear (λ n. n < 64) d xs → (j : ℕ) → Is (toks at xs) j ParL → depth_after d (take j (toks at xs)) < 64
shallow_toks [] at d h j p = absurd (cc)
shallow_toks (gap ∷ xs) at d h j p = shallow_toks xs (suc at) d h j p
shallow_toks (line ∷ xs) at d h j p = shallow_toks xs (suc at) d h j p
shallow_toks (word k t ∷ xs) at d h zero p = let q : k ≡ ParL = cc in subst (λ (w : Kind). Goes (λ n. n < 64) d w (text_of xs)) q h.1
shallow_toks (word k t ∷ xs) at d h (suc j) p = shallow_toks xs (at + length t) (depth_behind d k) h.2 j p

-- the tokens of such lexemes are nested at most 64 deep
pub shallow : (xs : List Lexeme) → Clear (λ n. n < 64) 0 xs → IsShallow (toks 0 xs)
shallow xs h = shallow_toks xs 0 0 h

-- how many words there are
abbrev pub words : List Lexeme → ℕ
words [] = 0
words (gap ∷ xs) = words xs
words (line ∷ xs) = words xs
words (word k t ∷ xs) = suc (words xs)

-- there are as many tokens
pub words_are : (at : ℕ) (xs : List Lexeme) → length (toks at xs) ≡ words xs
words_are at [] = refl
words_are at (gap ∷ xs) = words_are (suc at) xs
words_are at (line ∷ xs) = words_are (suc at) xs
words_are at (word k t ∷ xs) = ap suc (words_are (at + length t) xs)

-- the tightness that a room wants
abbrev pub wanted : Room → ℕ
wanted OfSum = 0
wanted OfProduct = 1
wanted OfUnary = 2
wanted OfAtom = 3

-- what holds of the four rooms holds of each
by_room : (P : Room → Type 0) → P OfSum → P OfProduct → P OfUnary → P OfAtom → (r : Room) → P r
by_room P a b c d OfSum = a
by_room P a b c d OfProduct = b
by_room P a b c d OfUnary = c
by_room P a b c d OfAtom = d

wanted_few : (r : Room) → wanted r ≤ 3
wanted_few = by_room (λ w. wanted w ≤ 3) (omega arith) (omega arith) (omega arith) (omega arith)

input_fits : (n : Naming) (r : Room) (o : Option ArgOf) (c : ℕ) → fits r (input n o c) ≡ true
input_fits n r None c = refl
input_fits n r (Some (SiteArg a s)) c = refl
input_fits n r (Some (ParamArg p)) c = refl

-- an expression is written without parentheses where its tightness is wanted
abbrev Fitting : Naming → Formula → Room → Type 0
Fitting n e r = fits r (written n e) ≡ nat_le (wanted r) (tightness e)

fits_is : (n : Naming) (r : Room) (e : Formula) → Fitting n e r
fits_is n r (FNum at c) = by_room (Fitting n (FNum at c)) refl refl refl refl r
fits_is n r (FInput at a c) = input_fits n r (slice_get n.args a) c ∙ sym (le-leb (wanted r) 3 (wanted_few r))
fits_is n r (FName at j) = by_room (Fitting n (FName at j)) refl refl refl refl r
fits_is n r (FNeg at e) = by_room (Fitting n (FNeg at e)) refl refl refl refl r
fits_is n r (FAdd at e f) = by_room (Fitting n (FAdd at e f)) refl refl refl refl r
fits_is n r (FSub at e f) = by_room (Fitting n (FSub at e f)) refl refl refl refl r
fits_is n r (FMul at e f) = by_room (Fitting n (FMul at e f)) refl refl refl refl r
fits_is n r (FPow at e k) = by_room (Fitting n (FPow at e k)) refl refl refl refl r

leaf_free : (k : ℕ) → k ≤ 3 → pairs k 3 ≡ 0
leaf_free k h = rw (le-leb k 3 h) refl

-- an expression is nested as where nothing is wanted, and once more in parentheses
pub nesting_is : (k : ℕ) → k ≤ 3 → (e : Formula) → nesting k e ≡ pairs k (tightness e) + nesting 0 e
nesting_is k h (FNum at c) = let q = leaf_free k h in omega arith
nesting_is k h (FInput at a c) = let q = leaf_free k h in omega arith
nesting_is k h (FName at j) = let q = leaf_free k h in omega arith
nesting_is k h (FNeg at e) = omega arith
nesting_is k h (FAdd at e f) = omega arith
nesting_is k h (FSub at e f) = omega arith
nesting_is k h (FMul at e f) = omega arith
nesting_is k h (FPow at e n) = omega arith

-- it has as many tokens as where nothing is wanted, and two more in parentheses
pub tokens_are : (args : List ArgOf) (k : ℕ) → k ≤ 3 → (e : Formula) → tokens_of args k e ≡ 2 * pairs k (tightness e) + tokens_of args 0 e
tokens_are args k h (FNum at c) = let q = leaf_free k h in omega arith
tokens_are args k h (FInput at a c) = let q = leaf_free k h in omega arith
tokens_are args k h (FName at j) = let q = leaf_free k h in omega arith
tokens_are args k h (FNeg at e) = omega arith
tokens_are args k h (FAdd at e f) = omega arith
tokens_are args k h (FSub at e f) = omega arith
tokens_are args k h (FMul at e f) = omega arith
tokens_are args k h (FPow at e n) = omega arith

pairs_by : (n : Naming) (r : Room) (e : Formula) (v : Bool) → fits r (written n e) ≡ v → pairs (wanted r) (tightness e) ≡ cond v 0 1
pairs_by n r e v h = let q = sym (fits_is n r e) ∙ h in rw q refl

no_dot : (b : ℕ) → is_letter b ≡ true → (b == 46) ≡ false
no_dot b h = grind (arith, nat_tests)

-- no name begins with a dot
name_undotted : (t : List ℕ) → is_name t ≡ true → (rest : List ℕ) → undotted (t ++ rest) ≡ true
name_undotted [] h rest = absurd (cc)
name_undotted (b ∷ bs) h rest = rw (no_dot b (and_parts (is_letter b) _ (and_parts _ _ h).0).0) refl

module _ (P : ℕ → Type 0) where
  -- what is written at this depth is clear before what doesn't go on with its last token
  abbrev pub Clears : ℕ → (List Lexeme → List Lexeme) → Type 0
  Clears d f = (rest : List Lexeme) → soft (text_of rest) ≡ true → Clear P d rest → Clear P d (f rest)

  -- P holds of all depths below this one
  abbrev pub Below : ℕ → Type 0
  Below n = (d : ℕ) → d < n → P d

  wrap_clear : (n : Naming) (r : Room) (e : Formula) (v : Bool) → fits r (written n e) ≡ v
      → ((d : ℕ) → Below (d + nesting 0 e) → Clears d (inside (written n e)))
      → (d : ℕ) → Below (d + nesting (wanted r) e)
      → Clears d (λ rest. cond v (inside (written n e) rest) (word ParL (codes "(") ∷ inside (written n e) (word ParR (codes ")") ∷ rest)))
  wrap_clear n r e true h f d l = let q = nesting_is (wanted r) (wanted_few r) e in f d (λ x m. l x (omega arith))
  wrap_clear n r e false h f d l = λ rest s c.
      let q = nesting_is (wanted r) (wanted_few r) e in
      let p = pairs_by n r e false h in
      let b : d ≡ suc d - 1 = omega arith in
      (refl, l d (omega arith), f (suc d) (λ x m. l x (omega arith)) (word ParR (codes ")") ∷ rest) refl (refl, tt, subst (λ (x : ℕ). Clear P x rest) b c))

  input_clear : (n : Naming) (o : Option ArgOf) (c d : ℕ) → IsNamed (input n o c) → Clears d (inside (input n o c))
  input_clear n None c d m = λ rest s k. (name_kind [] m, s, k)
  input_clear n (Some (SiteArg a k)) c d m =
      let x = coord_name (slice_get n.sites k) c in
      λ rest s z. (name_kind a m.0, refl, (refl, name_undotted x m.1 (text_of rest), (name_kind x m.1, s, z)))
  input_clear n (Some (ParamArg p)) c d m = λ rest s k. (name_kind (range_name (slice_get n.params p)) m, s, k)

  inside_clear : (n : Naming) (e : Formula) → IsNamed (written n e) → (d : ℕ) → Below (d + nesting 0 e) → Clears d (inside (written n e))
  inside_clear n (FNum at c) m d l = λ rest s k. (number_kind (unsigned_abs c) m, s, k)
  inside_clear n (FInput at a c) m d l = input_clear n (slice_get n.args a) c d m
  inside_clear n (FName at j) m d l = λ rest s k. (name_kind (unwrap_or (slice_get n.lets j) []) m, s, k)
  inside_clear n (FNeg at e) m d l =
      λ rest s k. (refl, tt, wrap_clear n OfUnary e (fits OfUnary (written n e)) refl (inside_clear n e m) d (λ x y. l x (omega arith)) rest s k)
  inside_clear n (FAdd at e f) m d l = λ rest s k.
      wrap_clear n OfSum e (fits OfSum (written n e)) refl (inside_clear n e m.0) d (λ x y. l x (omega arith))
      (gap ∷ word Plus (codes "+") ∷ gap ∷ wrap OfProduct (written n f) (inside (written n f)) rest) refl
      (refl, tt, wrap_clear n OfProduct f (fits OfProduct (written n f)) refl (inside_clear n f m.1) d (λ x y. l x (omega arith)) rest s k)
  inside_clear n (FSub at e f) m d l = λ rest s k.
      wrap_clear n OfSum e (fits OfSum (written n e)) refl (inside_clear n e m.0) d (λ x y. l x (omega arith))
      (gap ∷ word Minus (codes "-") ∷ gap ∷ wrap OfProduct (written n f) (inside (written n f)) rest) refl
      (refl, tt, wrap_clear n OfProduct f (fits OfProduct (written n f)) refl (inside_clear n f m.1) d (λ x y. l x (omega arith)) rest s k)
  inside_clear n (FMul at e f) m d l = λ rest s k.
      wrap_clear n OfProduct e (fits OfProduct (written n e)) refl (inside_clear n e m.0) d (λ x y. l x (omega arith))
      (word Star (codes "*") ∷ wrap OfUnary (written n f) (inside (written n f)) rest) refl
      (refl, tt, wrap_clear n OfUnary f (fits OfUnary (written n f)) refl (inside_clear n f m.1) d (λ x y. l x (omega arith)) rest s k)
  inside_clear n (FPow at e k) m d l = λ rest s c.
      wrap_clear n OfAtom e (fits OfAtom (written n e)) refl (inside_clear n e m.0) d (λ x y. l x (omega arith))
      (word Caret (codes "^") ∷ word Number (decimal k) ∷ rest) refl (refl, tt, (number_kind k m.1, s, c))

  -- a whole expression whose texts are names and numbers is written clearly
  pub whole_clear : (n : Naming) (e : Formula) → IsNamed (written n e) → (d : ℕ) → Below (d + nesting 0 e)
      → Clears d (wrap OfSum (written n e) (inside (written n e)))
  whole_clear n e m d l = wrap_clear n OfSum e (fits OfSum (written n e)) refl (inside_clear n e m) d l

wrap_words : (n : Naming) (r : Room) (e : Formula) (v : Bool) → fits r (written n e) ≡ v
    → ((rest : List Lexeme) → words (inside (written n e) rest) ≡ tokens_of n.args 0 e + words rest)
    → (rest : List Lexeme) → words (cond v (inside (written n e) rest) (word ParL (codes "(") ∷ inside (written n e) (word ParR (codes ")") ∷ rest)))
    ≡ tokens_of n.args (wanted r) e + words rest
wrap_words n r e true h f rest = let q = tokens_are n.args (wanted r) (wanted_few r) e in let p = pairs_by n r e true h in let g = f rest in omega arith
wrap_words n r e false h f rest =
    let q = tokens_are n.args (wanted r) (wanted_few r) e in
    let p = pairs_by n r e false h in
    let g = f (word ParR (codes ")") ∷ rest) in omega arith

input_words : (n : Naming) (o : Option ArgOf) (c : ℕ) (rest : List Lexeme) → words (inside (input n o c) rest) ≡ input_tokens o + words rest
input_words n None c rest = omega arith
input_words n (Some (SiteArg a k)) c rest = omega arith
input_words n (Some (ParamArg p)) c rest = omega arith

inside_words : (n : Naming) (e : Formula) (rest : List Lexeme) → words (inside (written n e) rest) ≡ tokens_of n.args 0 e + words rest
inside_words n (FNum at c) rest = omega arith
inside_words n (FInput at a c) rest = input_words n (slice_get n.args a) c rest
inside_words n (FName at j) rest = omega arith
inside_words n (FNeg at e) rest = let a = wrap_words n OfUnary e (fits OfUnary (written n e)) refl (inside_words n e) rest in omega arith
inside_words n (FAdd at e f) rest =
    let b = wrap_words n OfProduct f (fits OfProduct (written n f)) refl (inside_words n f) rest in
    let a = wrap_words n OfSum e (fits OfSum (written n e)) refl (inside_words n e)
    (gap ∷ word Plus (codes "+") ∷ gap ∷ wrap OfProduct (written n f) (inside (written n f)) rest) in
    omega arith
inside_words n (FSub at e f) rest =
    let b = wrap_words n OfProduct f (fits OfProduct (written n f)) refl (inside_words n f) rest in
    let a = wrap_words n OfSum e (fits OfSum (written n e)) refl (inside_words n e)
    (gap ∷ word Minus (codes "-") ∷ gap ∷ wrap OfProduct (written n f) (inside (written n f)) rest) in
    omega arith
inside_words n (FMul at e f) rest =
    let b = wrap_words n OfUnary f (fits OfUnary (written n f)) refl (inside_words n f) rest in
    let a = wrap_words n OfProduct e (fits OfProduct (written n e)) refl (inside_words n e)
    (word Star (codes "*") ∷ wrap OfUnary (written n f) (inside (written n f)) rest) in
    omega arith
inside_words n (FPow at e k) rest =
    let a = wrap_words n OfAtom e (fits OfAtom (written n e)) refl (inside_words n e) in a _ ∙ omega arith

-- a whole expression
pub whole_words : (n : Naming) (e : Formula) (rest : List Lexeme)
    → words (wrap OfSum (written n e) (inside (written n e)) rest) ≡ tokens_of n.args 0 e + words rest
whole_words n e rest = wrap_words n OfSum e (fits OfSum (written n e)) refl (inside_words n e) rest
