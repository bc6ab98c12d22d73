-- Declarations in chains, one for each bucket of names. Lists of declarations have the innermost first here.
use Rattle.std.specs.Prelude.{◌≡◌, ℕ, suc, ◌+◌, ◌*◌, ◌/◌, ◌%◌, ◌^◌, ◌<◌, nat_eq, if◌then◌else◌, List, [], ◌∷◌, ◌++◌, length, get_or, fold}
use Rattle.ln_cmean.specs.declared.slot.Slot.{Slot}

-- a hash of 64 bits, one letter after the other
abbrev pub mixed : ℕ → ℕ → ℕ
mixed hash letter = ((hash + letter) * 11400714819323198485) % 2 ^ 64

-- the bucket of a name, of this many
abbrev pub bucket_of : List ℕ → ℕ → ℕ
bucket_of name count = fold mixed 0 name * count / 2 ^ 64

-- how many declarations there are up to the innermost of a bucket, itself among them; 0 where there is none
abbrev pub last_in : List Slot → ℕ → ℕ
last_in [] bucket = 0
last_in (d ∷ ds) bucket = if nat_eq d.bucket bucket then suc (length ds) else last_in ds bucket

-- for each bucket the top is the innermost declaration in it
abbrev pub IsTopped : List Slot → List ℕ → Type 0
IsTopped ds tops = (bucket : ℕ) → bucket < length tops → get_or tops bucket 0 ≡ last_in ds bucket

-- each declaration is in the bucket of its name, one of this many, and leads to the one before it in that bucket
abbrev pub IsLinked : ℕ → List Slot → Type 0
IsLinked count ds = (inner : List Slot) (d : Slot) (outer : List Slot) → ds ≡ inner ++ d ∷ outer →
    (d.bucket < count) × (d.bucket ≡ bucket_of d.name.now count) × (d.below ≡ last_in outer d.bucket)
