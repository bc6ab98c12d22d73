-- The text of a NAME is a name.
use Rattle.std.proofs.Common.{◌≡◌, ℕ, zero, suc, ◌==◌, ◌&&◌, ◌||◌, not, Bool, true, false, cond, List, [], ◌∷◌, Option, Some, None}
use Rattle.std.proofs.Common.{refl, ap, sym, ◌∙◌, true≢false}
use Rattle.std.specs.Prelude.{codes, bytes_eq}
use Rattle.ln_base.specs.Words.{is_digit, is_letter, is_name_byte, every, is_keyword, is_name}
use Rattle.ln_syntax.specs.Raw.{Token, Is, span_at, text, Kind, Name, Number, Site, Param, Predicate, Let, Sign, BraceL, BraceR, ParL, ParR, Colon, Semi, Comma}
use Rattle.ln_syntax.specs.Raw.{Dot, Dots, Plus, Minus, Star, Caret, Equals}
use Rattle.ln_lex.specs.Tokens.{kind_of, word_kind, sign_kind, sign_of}

-- is it the kind of a NAME?
abbrev is_named : Option Kind → Bool
is_named None = false
is_named (Some Name) = true
is_named (Some k) = false

pick : (b : Bool) (k : Kind) (o : Option Kind) → is_named (Some k) ≡ false → is_named o ≡ false → is_named (cond b (Some k) o) ≡ false
pick true k o p q = p
pick false k o p q = q

no_sign : (b : ℕ) → is_named (sign_of b) ≡ false
no_sign b =
    pick (b == 123) BraceL _ refl (pick (b == 125) BraceR _ refl
    (pick (b == 40) ParL _ refl (pick (b == 41) ParR _ refl (pick (b == 58) Colon _ refl (pick (b == 59) Semi _ refl (pick (b == 44) Comma _ refl
    (pick (b == 46) Dot _ refl (pick (b == 43) Plus _ refl
    (pick (b == 45) Minus _ refl (pick (b == 42) Star _ refl (pick (b == 94) Caret _ refl (pick (b == 61) Equals None refl refl))))))))))))

no_signs : (b : ℕ) (bs : List ℕ) → is_named (sign_kind b bs) ≡ false
no_signs b [] = no_sign b
no_signs b (c ∷ []) = pick ((b == 46) && (c == 46)) Dots None refl refl
no_signs b (c ∷ d ∷ bs) = refl

-- a word that is no keyword
word_by : (a b c d e : Bool) → is_named (Some (cond a Site (cond b Param (cond c Predicate (cond d Let (cond e Sign Name)))))) ≡ true
    → not (a || b || c || d || e) ≡ true
word_by true b c d e h = absurd (cc)
word_by false true c d e h = absurd (cc)
word_by false false true d e h = absurd (cc)
word_by false false false true e h = absurd (cc)
word_by false false false false true h = absurd (cc)
word_by false false false false false h = refl

no_keyword : (w : List ℕ) → is_named (Some (word_kind w)) ≡ true → not (is_keyword w) ≡ true
no_keyword w h = word_by (bytes_eq w (codes "site")) (bytes_eq w (codes "param")) (bytes_eq w (codes "predicate"))
    (bytes_eq w (codes "let")) (bytes_eq w (codes "sign")) h

name_by : (l g : Bool) (b : ℕ) (bs : List ℕ) → is_letter b ≡ l → every is_name_byte bs ≡ g → (o : Option Kind) → is_named o ≡ false
    → is_named (cond l (cond g (Some (word_kind (b ∷ bs))) None) o) ≡ true → is_name (b ∷ bs) ≡ true
name_by true true b bs p q o n h = let k = no_keyword (b ∷ bs) h in rw (p, q) k
name_by true false b bs p q o n h = absurd (true≢false (sym h))
name_by false g b bs p q o n h = absurd (true≢false (sym h ∙ n))

digits_or_sign : (d g : Bool) (o : Option Kind) → is_named o ≡ false → is_named (cond d (cond g (Some Number) None) o) ≡ false
digits_or_sign true true o h = refl
digits_or_sign true false o h = refl
digits_or_sign false g o h = h

-- bytes whose kind is that of a NAME are a name
name_of_kind : (w : List ℕ) → kind_of w ≡ Some Name → is_name w ≡ true
name_of_kind [] h = absurd (cc)
name_of_kind (b ∷ bs) h =
    name_by (is_letter b) (every is_name_byte bs) b bs refl refl (cond (is_digit b) (cond (every is_digit bs) (Some Number) None) (sign_kind b bs))
    (digits_or_sign (is_digit b) (every is_digit bs) (sign_kind b bs) (no_signs b bs)) (ap is_named h)

-- each token's text has its kind
abbrev pub Sliced : List ℕ → List Token → Type 0
Sliced bytes [] = Unit {0}
Sliced bytes (t ∷ ts) = (kind_of (text bytes t.span) ≡ Some t.kind) × Sliced bytes ts

-- the text of a NAME is a name
pub name_text : (bytes : List ℕ) (ts : List Token) (i : ℕ) → Sliced bytes ts → Is ts i Name → is_name (text bytes (span_at ts i)) ≡ true
name_text bytes [] i h n = absurd (cc)
name_text bytes (t ∷ ts) zero h n = let k : t.kind ≡ Name = cc in name_of_kind (text bytes t.span) (h.0 ∙ ap (λ (w : Kind). Some w) k)
name_text bytes (t ∷ ts) (suc i) h n = name_text bytes ts i h.1 n
