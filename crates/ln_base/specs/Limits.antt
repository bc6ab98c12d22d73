-- The limits of what is accepted.
use Rattle.std.specs.Prelude.{ℕ}

-- the bytes of a source
abbrev pub most_source : ℕ
most_source = 1048576

-- the bytes of any other file
abbrev pub most_file : ℕ
most_file = 67108864

-- the tokens of a source
abbrev pub most_tokens : ℕ
most_tokens = 65536

-- the largest number of a source, without its sign: 2^127 - 1
abbrev pub most_literal : ℕ
most_literal = 170141183460469231731687303715884105727

-- the stages in the lists of all orders of a predicate's sites, and so the blocks of its program
abbrev pub most_stages : ℕ
most_stages = 65536

-- the same by total degree
abbrev pub most_graded : ℕ
most_graded = 262144

-- the stage weight, in either order of infinitesimals
abbrev pub most_weight : ℕ
most_weight = 131072
