-- Defines the line and the column of a place in a text.
use Rattle.std.specs.Prelude.{ℕ, suc, ◌+◌, ◌==◌, if◌then◌else◌, List, [], ◌∷◌, take, count_by}

-- the line of a place: 1 plus the line feeds before it
abbrev pub line_of : List ℕ → ℕ → ℕ
line_of bytes at = 1 + count_by (λ b. b == 10) (take at bytes)

-- how many bytes follow the last line feed, where n bytes come before these
abbrev pub behind_line_feed : ℕ → List ℕ → ℕ
behind_line_feed n [] = n
behind_line_feed n (b ∷ bs) = if b == 10 then behind_line_feed 0 bs else behind_line_feed (suc n) bs

-- the column of a place: 1 plus the bytes since the last line feed before it
abbrev pub column_of : List ℕ → ℕ → ℕ
column_of bytes at = 1 + behind_line_feed 0 (take at bytes)
