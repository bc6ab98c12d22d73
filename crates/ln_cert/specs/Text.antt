-- Defines the text of each line of a listing.
use Rattle.std.specs.Prelude.{◌≡◌, ℕ, ℤ, ◌^◌, ◌<◌, ◌≤◌, Bool, true, false, if◌then◌else◌, List}
use Rattle.std.specs.Prelude.{[], ◌∷◌, ◌++◌, length, map, codes, decimal, unsigned_abs}
use Rattle.std.specs.Fmt.{signed_decimal}
pub use Rattle.ln_base.specs.Exponents.{Each, IsExponent, exponent_word}
use Rattle.ln_base.specs.Lines.{parted}
use Rattle.ln_base.specs.Words.{is_name}
use Rattle.ln_bound.specs.declared.fitted.Width.{Width}
use Rattle.ln_bound.specs.declared.fitted.Width.TheVariants.{W64, W128}
use Rattle.ln_code.specs.declared.op.Op.{Op}
use Rattle.ln_code.specs.declared.op.Op.TheVariants as op
use Rattle.ln_code.specs.declared.op.Triple.{Triple}
use Rattle.ln_cert.specs.declared.part.Kind.{Kind}
use Rattle.ln_cert.specs.declared.part.Kind.TheVariants as kind
use Rattle.ln_cert.specs.declared.part.Part.{Part}
use Rattle.ln_cert.specs.declared.part.Part.TheVariants.{Predicate, NoFilter, Filter, FilterOp, Decide}
use Rattle.ln_cert.specs.declared.part.Part.TheVariants.{Block, BlockOp, RangeOp, End, Order, Done}
use Rattle.ln_cert.specs.declared.part.Verb.{Verb}
use Rattle.ln_cert.specs.declared.part.Verb.TheVariants as verb

-- ---- operations
-- an operation without its number
abbrev pub verb_of : Op → Verb
verb_of (op.Push c) = verb.Push
verb_of (op.Input v) = verb.Input
verb_of (op.Get j) = verb.Get
verb_of (op.Set j) = verb.Set
verb_of (op.Add w) = verb.Add w
verb_of (op.Sub w) = verb.Sub w
verb_of (op.Mul w) = verb.Mul w
verb_of (op.Neg w) = verb.Neg w
verb_of (op.Cut n) = verb.Cut

-- the word of an operation in a filter, where all are 64 bits wide
abbrev pub filter_word : Verb → List ℕ
filter_word verb.Push = codes "push"
filter_word verb.Input = codes "input"
filter_word verb.Get = codes "get"
filter_word verb.Set = codes "set"
filter_word (verb.Add w) = codes "add"
filter_word (verb.Sub w) = codes "sub"
filter_word (verb.Mul w) = codes "mul"
filter_word (verb.Neg w) = codes "neg"
filter_word verb.Cut = codes "cut"

-- the bits of a width
abbrev pub bits : Width → List ℕ
bits W64 = codes "64"
bits W128 = codes "128"

-- the word of an operation in a block, where sums, differences, products and minus say their width
abbrev pub block_word : Verb → List ℕ
block_word verb.Push = codes "push"
block_word verb.Input = codes "input"
block_word verb.Get = codes "get"
block_word verb.Set = codes "set"
block_word (verb.Add w) = codes "add" ++ bits w
block_word (verb.Sub w) = codes "sub" ++ bits w
block_word (verb.Mul w) = codes "mul" ++ bits w
block_word (verb.Neg w) = codes "neg" ++ bits w
block_word verb.Cut = codes "cut"

-- whether it is 64 bits wide
abbrev pub is_narrow : Width → Bool
is_narrow W64 = true
is_narrow W128 = false

-- whether it is allowed in a filter
abbrev pub of_filter : Verb → Bool
of_filter (verb.Add w) = is_narrow w
of_filter (verb.Sub w) = is_narrow w
of_filter (verb.Mul w) = is_narrow w
of_filter (verb.Neg w) = is_narrow w
of_filter v = true

-- whether it is allowed in a block
abbrev pub of_block : Verb → Bool
of_block verb.Cut = false
of_block v = true

-- the number of an operation, if it has one
abbrev pub number_words : Op → List (List ℕ)
number_words (op.Push c) = signed_decimal c ∷ []
number_words (op.Input v) = decimal v ∷ []
number_words (op.Get j) = decimal j ∷ []
number_words (op.Set j) = decimal j ∷ []
number_words (op.Add w) = []
number_words (op.Sub w) = []
number_words (op.Mul w) = []
number_words (op.Neg w) = []
number_words (op.Cut n) = decimal n ∷ []

-- it takes a value off the stack into a local
abbrev pub takes_off : Verb → Bool
takes_off verb.Set = true
takes_off v = false

-- what follows an operation and its number: its certificate, but nothing where it takes a value off
abbrev pub certificate : Verb → List (List ℕ) → List (List ℕ)
certificate v ws = if takes_off v then [] else ws

-- the ranges of numbers: a constant is within 2^127 - 1, a variable at most 167, a local and the bits of a cut at most 255
abbrev pub IsOp : Op → Type 0
IsOp (op.Push c) = unsigned_abs c < 2 ^ 127
IsOp (op.Input v) = v ≤ 167
IsOp (op.Get j) = j ≤ 255
IsOp (op.Set j) = j ≤ 255
IsOp (op.Cut n) = n ≤ 255
IsOp (op.Add w) = Unit {0}
IsOp (op.Sub w) = Unit {0}
IsOp (op.Mul w) = Unit {0}
IsOp (op.Neg w) = Unit {0}

-- ---- certificates
-- a triple: K, H and E
abbrev pub triple_words : Triple → List (List ℕ)
triple_words t = decimal t.k ∷ decimal t.h ∷ decimal t.e ∷ []

-- K is at most 255, H and E are below 2^64; what takes off has zeros, which aren't written
abbrev pub IsTriple : Verb → Triple → Type 0
IsTriple v t = (t.k ≤ 255) × (t.h < 2 ^ 64) × (t.e < 2 ^ 64) × (takes_off v ≡ true → t ≡ record { k = 0; h = 0; e = 0 })

-- one bound B, below 2^128
abbrev pub IsBound : Verb → ℕ → Type 0
IsBound v b = (b < 2 ^ 128) × (takes_off v ≡ true → b ≡ 0)

-- a low and a high end, both within 2^127 - 1
abbrev pub range_words : ℤ → ℤ → List (List ℕ)
range_words l u = signed_decimal l ∷ signed_decimal u ∷ []

-- both ends are within 2^127 - 1; what takes off has the ends 0 and 0, which aren't written
abbrev pub IsRange : Verb → ℤ → ℤ → Type 0
IsRange v l u = (unsigned_abs l < 2 ^ 127) × (unsigned_abs u < 2 ^ 127) × (takes_off v ≡ true → (unsigned_abs l ≡ 0) × (unsigned_abs u ≡ 0))

-- ---- exponents, places and numbers of blocks
-- a place is at most 4
abbrev pub IsPlace : ℕ → Type 0
IsPlace s = s ≤ 4

-- the number of a block is at most 65,535
abbrev pub IsNumber : ℕ → Type 0
IsNumber n = n ≤ 65535

-- ---- lines
-- the kind of a line
abbrev pub part_kind : Part → Kind
part_kind (Predicate n) = kind.Predicate
part_kind NoFilter = kind.NoFilter
part_kind Filter = kind.Filter
part_kind (FilterOp o t) = kind.FilterOp (verb_of o)
part_kind Decide = kind.Decide
part_kind (Block n exps) = kind.Block
part_kind (BlockOp o b) = kind.BlockOp (verb_of o)
part_kind (RangeOp o l u) = kind.RangeOp (verb_of o)
part_kind End = kind.End
part_kind (Order places list) = kind.Order
part_kind Done = kind.Done

-- the first word of a line
abbrev pub word_of : Kind → List ℕ
word_of kind.Predicate = codes "predicate"
word_of kind.NoFilter = codes "nofilter"
word_of kind.Filter = codes "filter"
word_of (kind.FilterOp v) = filter_word v
word_of kind.Decide = codes "decide"
word_of kind.Block = codes "block"
word_of (kind.BlockOp v) = block_word v
word_of (kind.RangeOp v) = block_word v
word_of kind.End = codes "end"
word_of kind.Order = codes "order"
word_of kind.Done = codes "done"

-- the words after the first
abbrev pub args_of : Part → List (List ℕ)
args_of (Predicate n) = n ∷ []
args_of NoFilter = []
args_of Filter = []
args_of (FilterOp o t) = number_words o ++ certificate (verb_of o) (triple_words t)
args_of Decide = []
args_of (Block n exps) = decimal n ∷ map exponent_word exps
args_of (BlockOp o b) = number_words o ++ certificate (verb_of o) (decimal b ∷ [])
args_of (RangeOp o l u) = number_words o ++ certificate (verb_of o) (range_words l u)
args_of End = []
args_of (Order places list) = map decimal places ++ codes ":" ∷ map decimal list
args_of Done = []

-- the words of a line
abbrev pub words_of : Part → List (List ℕ)
words_of p = word_of (part_kind p) ∷ args_of p

-- the text of a line: its words, parted by one space, and a line feed
abbrev pub text_of : Part → List ℕ
text_of p = parted (words_of p) ++ 10 ∷ []

-- what a line says is within the ranges: a NAME is one of the source language, an `order` line names at least one block
abbrev pub IsLine : Part → Type 0
IsLine (Predicate n) = is_name n ≡ true
IsLine NoFilter = Unit {0}
IsLine Filter = Unit {0}
IsLine (FilterOp o t) = IsOp o × (of_filter (verb_of o) ≡ true) × IsTriple (verb_of o) t
IsLine Decide = Unit {0}
IsLine (Block n exps) = IsNumber n × Each IsExponent exps
IsLine (BlockOp o b) = IsOp o × (of_block (verb_of o) ≡ true) × IsBound (verb_of o) b
IsLine (RangeOp o l u) = IsOp o × (of_block (verb_of o) ≡ true) × IsRange (verb_of o) l u
IsLine End = Unit {0}
IsLine (Order places list) = Each IsPlace places × Each IsNumber list × (0 < length list)
IsLine Done = Unit {0}
