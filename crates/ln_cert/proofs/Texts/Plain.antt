-- The words of lines have neither space nor line feed.
use Rattle.std.proofs.Common.{◌≡◌, ℕ, ◌≤◌, not, Bool, true, false, List, [], ◌∷◌, map, refl, subst, arith}
use Rattle.std.specs.Prelude.{if◌then◌else◌, codes, decimal}
use Rattle.std.proofs.lemmas.Bool.{and_parts}
use Rattle.ln_base.specs.Words.{every, is_keyword, is_letter, is_name, is_name_byte, is_word}
use Rattle.ln_bound.specs.declared.fitted.Width.TheVariants.{W64, W128}
use Rattle.ln_code.specs.declared.op.Op.{Op}
use Rattle.ln_code.specs.declared.op.Op.TheVariants as op
use Rattle.ln_code.specs.declared.op.Triple.{Triple}
use Rattle.ln_cert.specs.declared.part.Kind.{Kind}
use Rattle.ln_cert.specs.declared.part.Kind.TheVariants as kind
use Rattle.ln_cert.specs.declared.part.Part.{Part}
use Rattle.ln_cert.specs.declared.part.Part.TheVariants.{Predicate, NoFilter, Filter, FilterOp, Decide, Block, BlockOp, RangeOp, End, Order, Done}
use Rattle.ln_cert.specs.declared.part.Verb.{Verb}
use Rattle.ln_cert.specs.declared.part.Verb.TheVariants as verb
use Rattle.ln_base.specs.Lines.{is_plain, parted, words}
use Rattle.ln_cert.specs.Text.{IsExponent, IsLine, IsOp, IsTriple, args_of, block_word, certificate, exponent_word, filter_word, part_kind}
use Rattle.ln_cert.specs.Text.{number_words, range_words, takes_off, triple_words, verb_of, word_of, words_of}
use Rattle.ln_base.proofs.Texts.Plain.{byte_plain, decimal_plain, exponent_plain, plain_append, plain_map, signed_plain}
use Rattle.ln_base.proofs.Texts.Words.{ArePlain, words_parted}

not_blank : (b : ℕ) → is_name_byte b ≡ true → b ≡ 32 → ⊥
not_blank b h e = let g : is_name_byte 32 ≡ true = subst (λ (n : ℕ). is_name_byte n ≡ true) e h in cc

not_feed : (b : ℕ) → is_name_byte b ≡ true → b ≡ 10 → ⊥
not_feed b h e = let g : is_name_byte 10 ≡ true = subst (λ (n : ℕ). is_name_byte n ≡ true) e h in cc

bytes_plain : (bs : List ℕ) → every is_name_byte bs ≡ true → is_plain bs ≡ true
bytes_plain [] h = refl
bytes_plain (b ∷ bs) h = let p = and_parts (is_name_byte b) (every is_name_byte bs) h in byte_plain b bs (not_blank b p.0) (not_feed b p.0) (bytes_plain bs p.1)

letter_byte : (b : ℕ) → is_letter b ≡ true → is_name_byte b ≡ true
letter_byte b h = rw h refl

word_plain : (bs : List ℕ) → is_word bs ≡ true → is_plain bs ≡ true
word_plain [] h = refl
word_plain (b ∷ bs) h =
    let p = and_parts (is_letter b) (every is_name_byte bs) h in
    byte_plain b bs (not_blank b (letter_byte b p.0)) (not_feed b (letter_byte b p.0)) (bytes_plain bs p.1)

name_plain : (bs : List ℕ) → is_name bs ≡ true → is_plain bs ≡ true
name_plain bs h = let p = and_parts (is_word bs) (not (is_keyword bs)) h in word_plain bs p.0

-- ---- lists of words

number_plain : (o : Op) → IsOp o → ArePlain (number_words o)
number_plain (op.Push c) p = (signed_plain c p, tt)
number_plain (op.Input v) p = (decimal_plain v (omega arith), tt)
number_plain (op.Get j) p = (decimal_plain j (omega arith), tt)
number_plain (op.Set j) p = (decimal_plain j (omega arith), tt)
number_plain (op.Add w) p = tt
number_plain (op.Sub w) p = tt
number_plain (op.Mul w) p = tt
number_plain (op.Neg w) p = tt
number_plain (op.Cut n) p = (decimal_plain n (omega arith), tt)

certificate_plain : (v : Verb) (ws : List (List ℕ)) → ArePlain ws → ArePlain (certificate v ws)
certificate_plain v ws p = by (takes_off v)
  where
    by : (t : Bool) → ArePlain (if t then [] else ws)
    by true = tt
    by false = p

triple_plain : (v : Verb) (t : Triple) → IsTriple v t → ArePlain (triple_words t)
triple_plain v t p = (decimal_plain t.k (omega (arith, p.0)), (decimal_plain t.h (omega (arith, p.1)), (decimal_plain t.e (omega (arith, p.2)), tt)))

filter_plain : (v : Verb) → is_plain (filter_word v) ≡ true
filter_plain verb.Push = refl
filter_plain verb.Input = refl
filter_plain verb.Get = refl
filter_plain verb.Set = refl
filter_plain (verb.Add w) = refl
filter_plain (verb.Sub w) = refl
filter_plain (verb.Mul w) = refl
filter_plain (verb.Neg w) = refl
filter_plain verb.Cut = refl

block_plain : (v : Verb) → is_plain (block_word v) ≡ true
block_plain verb.Push = refl
block_plain verb.Input = refl
block_plain verb.Get = refl
block_plain verb.Set = refl
block_plain (verb.Add W64) = refl
block_plain (verb.Sub W64) = refl
block_plain (verb.Mul W64) = refl
block_plain (verb.Neg W64) = refl
block_plain (verb.Add W128) = refl
block_plain (verb.Sub W128) = refl
block_plain (verb.Mul W128) = refl
block_plain (verb.Neg W128) = refl
block_plain verb.Cut = refl

-- the word of a kind has neither space nor line feed
pub first_plain : (k : Kind) → is_plain (word_of k) ≡ true
first_plain kind.Predicate = refl
first_plain kind.NoFilter = refl
first_plain kind.Filter = refl
first_plain (kind.FilterOp v) = filter_plain v
first_plain kind.Decide = refl
first_plain kind.Block = refl
first_plain (kind.BlockOp v) = block_plain v
first_plain (kind.RangeOp v) = block_plain v
first_plain kind.End = refl
first_plain kind.Order = refl
first_plain kind.Done = refl

-- the arguments of a line have neither space nor line feed
pub args_plain : (p : Part) → IsLine p → ArePlain (args_of p)
args_plain (Predicate n) p = (name_plain n p, tt)
args_plain NoFilter p = tt
args_plain Filter p = tt
args_plain (FilterOp o t) p = plain_append (number_words o) (certificate (verb_of o) (triple_words t)) (number_plain o p.0)
    (certificate_plain (verb_of o) (triple_words t) (triple_plain (verb_of o) t p.2))
args_plain Decide p = tt
args_plain (Block n exps) p = (decimal_plain n (omega (arith, p.0)), plain_map exponent_word IsExponent exponent_plain exps p.1)
args_plain (BlockOp o b) p = plain_append (number_words o) (certificate (verb_of o) (decimal b ∷ [])) (number_plain o p.0)
    (certificate_plain (verb_of o) (decimal b ∷ []) (decimal_plain b p.2.0, tt))
args_plain (RangeOp o l u) p = plain_append (number_words o) (certificate (verb_of o) (range_words l u)) (number_plain o p.0)
    (certificate_plain (verb_of o) (range_words l u) (signed_plain l p.2.0, (signed_plain u p.2.1, tt)))
args_plain End p = tt
args_plain (Order places list) p = plain_append (map decimal places) (codes ":" ∷ map decimal list) (plain_map decimal (λ s. s ≤ 4)
    (λ s q. decimal_plain s (omega (arith, q))) places p.0) (refl, plain_map decimal (λ n. n ≤ 65535) (λ n q. decimal_plain n (omega (arith, q))) list p.1)
args_plain Done p = tt

-- the words of a line are read from its text
pub read_words : (p : Part) → IsLine p → words (parted (words_of p)) ≡ words_of p
read_words p q = words_parted (word_of (part_kind p)) (args_of p) (first_plain (part_kind p), args_plain p q)
