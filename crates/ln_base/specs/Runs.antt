-- The bytes at the beginning of a text that pass a test.
use Rattle.std.specs.Prelude.{ℕ, suc, Bool, List, [], ◌∷◌, if◌then◌else◌}

-- how many bytes at the beginning pass the test
abbrev pub run_len : (ℕ → Bool) → List ℕ → ℕ
run_len p [] = 0
run_len p (b ∷ bs) = if p b then suc (run_len p bs) else 0
