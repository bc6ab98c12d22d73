-- Records without quotes: the fields between the commas of a line.
use Rattle.std.specs.Prelude.{ℕ, ◌==◌, ◌||◌, ◌++◌, Bool, not, if◌then◌else◌, List, [], ◌∷◌}

-- neither a quote nor a line end
abbrev pub is_unquoted : ℕ → Bool
is_unquoted b = not (b == 34 || b == 10 || b == 13)

-- anything but a comma
abbrev pub is_no_comma : ℕ → Bool
is_no_comma b = not (b == 44)

-- the fields of a line, of whose first one these bytes have been read
abbrev pub fields_from : List ℕ → List ℕ → List (List ℕ)
fields_from field [] = field ∷ []
fields_from field (b ∷ bs) = if b == 44 then field ∷ fields_from [] bs else fields_from (field ++ b ∷ []) bs

-- the fields between the commas of a line
abbrev pub fields_in : List ℕ → List (List ℕ)
fields_in line = fields_from [] line
