-- The whole file that is emitted for programs.
use Rattle.std.specs.Prelude.{ℕ, zero, suc, nat_le, List, [], ◌∷◌, ◌++◌, map, Option, Some, None}
use Rattle.ln_tree.specs.Names.{name_bytes}
use Rattle.ln_code.specs.Part.{Code, FilterCode, Part}
use Rattle.ln_code.specs.Lists.{segment_of}
use Rattle.ln_csyn.specs.Tree.{Body, Fun}
use Rattle.ln_cemit.specs.declared.entry.Entry.{Entry}
use Rattle.ln_cemit.specs.declared.entry.Entry.TheVariants.{EveryRow}
use Rattle.ln_cemit.specs.Ways.{block_lines, lines_of_filter}
use Rattle.ln_cemit.specs.Emit.{body_of, touching_index}
use Rattle.ln_cemit.specs.Law.{error_of}
use Rattle.ln_cemit.specs.Names.{decl_name, answer_name, filter_name, block_name, entry_name}
use Rattle.ln_cemit.specs.Walked.{body_for}
use Rattle.ln_cemit.specs.File.{one_funs, two_fun}

-- the name of a predicate
abbrev pub part_name : Part → List ℕ
part_name p = name_bytes p.shape.name

-- the names of the functions with one parameter, by number: that of the filter, if there is one, and after it those of the blocks
abbrev pub numbered : List ℕ → Option FilterCode → ℕ → List ℕ
numbered x None b = block_name x b
numbered x (Some f) zero = filter_name x
numbered x (Some f) (suc b) = block_name x b

-- the body of the function of a block
abbrev pub block_body : Code → Body
block_body c = body_of decl_name 0 (block_lines c)

-- the body of the function of a filter
abbrev pub filter_body : FilterCode → Body
filter_body f = body_of decl_name (error_of f) (lines_of_filter f)

-- their bodies
abbrev pub bodies_of : Option FilterCode → List Code → List Body
bodies_of None cs = map block_body cs
bodies_of (Some f) cs = filter_body f ∷ map block_body cs

-- the number of the filter, which is called before all blocks
abbrev pub first_of : Option FilterCode → List ℕ
first_of None = []
first_of (Some f) = 0 ∷ []

-- the numbers of the functions of blocks
abbrev pub moved : Option FilterCode → List ℕ → List ℕ
moved None bs = bs
moved (Some f) bs = map suc bs

-- the body of the function with two parameters
abbrev pub call_body : Part → Body
call_body p =
    touching_index (nat_le 2 p.shape.sites)
    (body_for (numbered (part_name p) p.filter) answer_name (λ q. moved p.filter (segment_of p q))
    (first_of p.filter) p.shape.sites)

-- a program, and what its function that is called from outside is for
pub record Entered : Type 0 where
  pub entry : Entry
  pub part : Part

-- it is for every row
abbrev pub every_row : Part → Entered
every_row p = record { entry = EveryRow; part = p }

-- the programs alone
abbrev pub parts_entered : List Entered → List Part
parts_entered [] = []
parts_entered (x ∷ xs) = x.part ∷ parts_entered xs

-- the name of the function that is called from outside
abbrev pub outer_name : Entered → List ℕ
outer_name x = entry_name x.entry (part_name x.part)

-- that function
abbrev pub outer_fun : Entered → Fun
outer_fun x = two_fun (outer_name x) (call_body x.part)

-- the functions of a program, and after them others
abbrev pub funs_before : Entered → List Fun → List Fun
funs_before x rest = one_funs (numbered (part_name x.part) x.part.filter) 0 (bodies_of x.part.filter x.part.blocks) ++ outer_fun x ∷ rest

-- those of each program
abbrev pub file_of : List Entered → List Fun
file_of [] = []
file_of (x ∷ xs) = funs_before x (file_of xs)
