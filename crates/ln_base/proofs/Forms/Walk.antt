-- Where lines lead.
use Rattle.std.proofs.Common.{◌≡◌, ℕ, ◌≤◌, List, [], ◌∷◌, ◌++◌, length, map, Option, Some, None, refl, sym, ap, ◌∙◌, arith, length-append}
use Rattle.ln_base.specs.Exponents.{Each}
use Rattle.ln_base.specs.Lines.{joined, lines, parted, words}
use Rattle.ln_base.proofs.Texts.Lines.{lines_of_each, snoc_same}
use Rattle.ln_base.proofs.Texts.Words.{parted_words}
use Rattle.ln_base.specs.Forms.Form.{AreSound, Rules, goes, next_at, text_of, texts_of}

-- a map of appended lists is the maps appended
pub map_append : {A B : Type 0} (f : A → B) (xs ys : List A) → map f (xs ++ ys) ≡ map f xs ++ map f ys
map_append f [] ys = refl
map_append {B = B} f (x ∷ xs) ys = ap (λ (w : List B). f x ∷ w) (map_append f xs ys)

-- what is so of each of two lists is so of each of the appended ones
pub each_append : {A : Type 0} (P : A → Type 0) (xs ys : List A) → Each P xs → Each P ys → Each P (xs ++ ys)
each_append P [] ys p q = q
each_append P (x ∷ xs) ys p q = (p.0, each_append P xs ys p.1 q)

-- appended lines lead where the second list leads from the end of the first
pub goes_append : {S L : Type 0} (R : Rules S L) (o : Option S) (xs ys : List L) → goes R o (xs ++ ys) ≡ goes R (goes R o xs) ys
goes_append R o [] ys = refl
goes_append R o (x ∷ xs) ys = goes_append R (next_at R o x) xs ys

-- from no state, lines lead to none
pub goes_none : {S L : Type 0} (R : Rules S L) (ls : List L) → goes R None ls ≡ None
goes_none R [] = refl
goes_none R (l ∷ ls) = goes_none R ls

-- lines that lead to a state start in one
pub some_next : {S L : Type 0} (R : Rules S L) (o : Option S) (ls : List L) (t : S) → goes R o ls ≡ Some t → (u : S) × (o ≡ Some u)
some_next R None ls t e = let n = goes_none R ls in absurd (cc)
some_next R (Some u) ls t e = (u, refl)

-- ---- the text of a line
module _ {S L : Type 0} (R : Rules S L) where
  joined_many : (ls : List L) → length ls ≤ length (joined (map (text_of R) ls))
  joined_many [] = omega arith
  joined_many (l ∷ ls) =
      omega (arith, length-append (text_of R l) (joined (map (text_of R) ls)), length-append (parted (R.words_of l)) (10 ∷ []), joined_many ls)

  -- a text has no more lines than bytes
  pub few_lines : (bs : List ℕ) (ls : List L) → bs ≡ joined (texts_of R ls) → length ls ≤ length bs
  few_lines bs ls e = omega (arith, ap length e, length-append R.first (joined (map (text_of R) ls)), joined_many ls)

  -- bytes with the words of a line are its text, up to the line feed
  pub words_line : (body : List ℕ) (l : L) → words body ≡ R.words_of l → body ++ (10 ∷ []) ≡ text_of R l
  words_line body l e = ap (λ (x : List ℕ). x ++ (10 ∷ [])) (sym (parted_words body) ∙ ap parted e)

module _ {S L : Type 0} (R : Rules S L) (sound : AreSound R) where
  -- the bytes before a line feed are this line
  pub line_words : (body : List ℕ) (l : L) → R.IsLine l → body ++ (10 ∷ []) ≡ text_of R l → words body ≡ R.words_of l
  line_words body l q e = ap words (snoc_same body (parted (R.words_of l)) e) ∙ sound.read l q

  -- lines that are allowed in one state and have the same text are the same
  pub one_line : (s : S) (x y : L) (t u : S) → R.next_of s x ≡ Some t → R.next_of s y ≡ Some u → R.IsLine x → R.IsLine y
      → text_of R x ≡ text_of R y → x ≡ y
  one_line s x y t u a b p q e = sound.one s x y t u a b p q (sym (sound.read x p) ∙ line_words (parted (R.words_of x)) y q e)

  -- the lines of the text of lines are their texts
  pub lines_of_text : ((rest : List ℕ) → lines (R.first ++ rest) ≡ R.first ∷ lines rest) → (ls : List L) → Each R.IsLine ls
      → lines (joined (texts_of R ls)) ≡ texts_of R ls
  lines_of_text first ls p =
      first (joined (map (text_of R) ls)) ∙ ap (λ w. R.first ∷ w) (lines_of_each (text_of R) R.IsLine (λ x rest q. sound.alone x rest q) ls p)
