-- The words, and what a command needs.
use Rattle.std.specs.Prelude.{◌≡◌, ℕ, ◌+◌, ◌-◌, ◌≤◌, nat_le, Bool, ◌&&◌, if◌then◌else◌}
use Rattle.std.specs.Prelude.{bytes_eq, codes, string_bytes}
use Rattle.std.specs.Prelude.{List, [], ◌∷◌, length, take, drop, map, Option, Some, None, option_map}
use Rattle.ln_base.specs.Decimal.{is_digits, decimal_value}
use Rattle.ln_top.specs.declared.words.Command.{Command}
use Rattle.ln_top.specs.declared.words.Plan as code
use Rattle.ln_top.specs.declared.words.Command.TheVariants.{Gen}
use Rattle.ln_top.specs.Signature.{form, plain_commands, signature_of}

-- the name of a source file, those of predicates and of further files, and the command
pub record Plan : Type 0 where
  pub source : List ℕ
  pub names : List (List ℕ)
  pub files : List (List ℕ)
  pub command : Command

-- the command among these that a first word names
abbrev pub named_among : List ℕ → List Command → Option Command
named_among word [] = None
named_among word (c ∷ cs) = if bytes_eq word (signature_of c).word then Some c else named_among word cs

-- the command that a first word names; that of `gen` has numbers of its own
abbrev pub named_command : List ℕ → Option Command
named_command word = named_among word plain_commands

-- a plan has as many names and files as its command takes
pub record HasForm (p : Plan) : Type 0 where
  pub least : (form p.command).least ≤ length p.names
  pub most : length p.names ≤ (form p.command).most
  pub files : length p.files ≡ (form p.command).files

-- the plan of a command, a source file and the words after it, where there are as many of them as the command takes
abbrev pub plan_for : Option Command → List ℕ → List (List ℕ) → Option Plan
plan_for None source rest = None
plan_for (Some c) source rest =
    if nat_le ((form c).least + (form c).files) (length rest) && nat_le (length rest) ((form c).most + (form c).files)
    then Some
    (record {
      source = source;
      names = take (length rest - (form c).files) rest;
      files = drop (length rest - (form c).files) rest;
      command = c;
    })
    else None

-- the number that a word of 1 to 18 digits is; leading zeros count for nothing
abbrev pub number_of_word : List ℕ → Option ℕ
number_of_word word = if is_digits word && nat_le (length word) 18 then Some (decimal_value word) else None

-- the count of rows is from 1 to 1,000,000
abbrev pub is_count : ℕ → Bool
is_count n = nat_le 1 n && nat_le n 1000000

-- a plan of `gen`, where both words after the name are numbers and the second of them is a count
abbrev pub gen_with : List ℕ → List ℕ → Option ℕ → Option ℕ → Option Plan
gen_with source name None count = None
gen_with source name (Some seed) None = None
gen_with source name (Some seed) (Some count) =
    if is_count count
    then Some (record { source = source; names = name ∷ []; files = []; command = Gen seed count })
    else None

-- the plan of `gen`, where after the source file come exactly a name, a seed and a count
abbrev pub gen_plan : List ℕ → List (List ℕ) → Option Plan
gen_plan source (name ∷ seed ∷ count ∷ []) = gen_with source name (number_of_word seed) (number_of_word count)
gen_plan source words = None

-- the plan of a first word, a source file and the words after them
abbrev pub plan_behind : List ℕ → List ℕ → List (List ℕ) → Option Plan
plan_behind word source rest = if bytes_eq word (codes "gen") then gen_plan source rest else plan_for (named_command word) source rest

-- the plan of the words, where they are a command
abbrev pub plan_of : List (List ℕ) → Option Plan
plan_of (word ∷ source ∷ rest) = plan_behind word source rest
plan_of words = None

-- the command of the words, where they are one
abbrev pub command_of : List (List ℕ) → Option Command
command_of words = option_map (λ p. p.command) (plan_of words)

-- the program's plan, with the bytes of its words
abbrev pub with_bytes : code.Plan → Plan
with_bytes p = record {
  source = p.source.now;
  names = map string_bytes p.names.now;
  files = map string_bytes p.files.now;
  command = p.command;
}
