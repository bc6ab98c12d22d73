-- Letters, digits, and the words of the source language.
use Rattle.std.specs.Prelude.{ℕ, ◌==◌, ◌&&◌, ◌||◌, not, Bool, true, false, nat_le, List, [], ◌∷◌, codes, bytes_eq}

-- a decimal digit
abbrev pub is_digit : ℕ → Bool
is_digit b = nat_le 48 b && nat_le b 57

-- an ASCII letter or `_`
abbrev pub is_letter : ℕ → Bool
is_letter b = (nat_le 97 b && nat_le b 122) || (nat_le 65 b && nat_le b 90) || (b == 95)

-- the bytes that may follow the first letter of a name
abbrev pub is_name_byte : ℕ → Bool
is_name_byte b = is_letter b || is_digit b

-- each byte passes the test
abbrev pub every : (ℕ → Bool) → List ℕ → Bool
every p [] = true
every p (b ∷ bs) = p b && every p bs

-- one of the five words that are no names
abbrev pub is_keyword : List ℕ → Bool
is_keyword text = bytes_eq text (codes "site") || bytes_eq text (codes "param") || bytes_eq text (codes "predicate")
    || bytes_eq text (codes "let") || bytes_eq text (codes "sign")

-- a letter, then letters and digits
abbrev pub is_word : List ℕ → Bool
is_word [] = false
is_word (b ∷ bs) = is_letter b && every is_name_byte bs

-- a NAME: a word that is no keyword
abbrev pub is_name : List ℕ → Bool
is_name text = is_word text && not (is_keyword text)
