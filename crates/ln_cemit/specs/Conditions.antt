-- States that the emitted functions keep the conditions of the subset.
use Rattle.std.specs.Prelude.{◌≡◌, ℕ, ◌<◌, ◌≤◌, ◌&&◌, Bool, true, not, nat_le, ℤ, unsigned_abs, List, [], ◌∷◌, length}
use Rattle.ln_tree.specs.declared.shape.VarInfo.{VarInfo}
use Rattle.ln_tree.specs.Row.{AreWithin}
use Rattle.ln_bound.specs.declared.fitted.Width.TheVariants.{W128}
use Rattle.ln_bound.specs.Widths.{limit}
use Rattle.ln_code.specs.declared.op.Op.{Op}
use Rattle.ln_code.specs.declared.op.Op.TheVariants.{Push, Input}
use Rattle.ln_code.specs.Engine.{Line}
use Rattle.ln_code.specs.Numbers.{cut_by}
use Rattle.ln_code.specs.Part.{Code, FilterCode}
use Rattle.ln_code.specs.Kept.{FollowsRules, FollowsFilterRules}
use Rattle.ln_csyn.specs.Words.{among, is_c_name, most_number}
use Rattle.ln_csyn.specs.Keeps.{is_own, fun_keeps}
use Rattle.ln_csyn.specs.Text.{fun_words}
use Rattle.ln_csyn.specs.Spelling.{flat_fun}
use Rattle.ln_csyn.specs.Tree.{Fun}
use Rattle.ln_cemit.specs.declared.slot.Way.{Way}
use Rattle.ln_cemit.specs.Ways.{block_lines, lines_of_filter}
use Rattle.ln_cemit.specs.Emit.{fun_of}
use Rattle.ln_cemit.specs.Checked.{AreNames}
use Rattle.ln_cemit.specs.Law.{error_of}

-- a pushed number has at most 127 binary digits, and the number of a value is a NUMBER
abbrev pub is_fine : Op → Way → Bool
is_fine (Push z) a = nat_le (unsigned_abs (cut_by a.shift z)) (limit W128)
is_fine (Input v) a = nat_le v most_number
is_fine o a = true

-- each of these lines is fine: what it pushes is within those limits
abbrev pub are_fine : List (Line Way) → Bool
are_fine [] = true
are_fine (x ∷ xs) = is_fine x.op x.bound && are_fine xs

-- a name for a declaration beside these functions
abbrev pub is_free : List (List ℕ) → List ℕ → Bool
is_free names x = is_c_name x && (is_own x && not (among names x))

-- each of the first `top` declarations has a name that is free beside these functions
abbrev pub AreFree : List (List ℕ) → (ℕ → List ℕ) → ℕ → Type 0
AreFree names name top = (n : ℕ) → n < top → is_free names (name n) ≡ true

-- the conditions on one function among functions with these names, that its names are NAMEs and its numbers NUMBERs, and that it is
-- on one line
pub record MeetsConditions (names : List (List ℕ)) (f : Fun) : Type 0 where
  pub keeps : fun_keeps names f ≡ true
  pub words : fun_words f ≡ true
  pub flat : flat_fun f ≡ f

-- the function that is emitted for these lines, with its own name and error, keeps these conditions
abbrev pub Kept : List (List ℕ) → (ℕ → List ℕ) → List ℕ → ℕ → List (Line Way) → Type 0
Kept names name own e xs = MeetsConditions names (fun_of name own e xs)

-- the function that is emitted for lines keeps the conditions, where its names are free and differ and the numbers in it are small
abbrev pub FunsKeep : Type 0
FunsKeep = (names : List (List ℕ)) (name : ℕ → List ℕ) (own : List ℕ) (e : ℕ) (xs : List (Line Way)) → AreNames name (length xs) →
    AreFree names name (length xs) → is_c_name own ≡ true → is_own own ≡ true → e ≤ most_number → are_fine xs ≡ true →
    Kept names name own e xs

-- the function of a block that follows the rules keeps the conditions, where its names are free and differ
abbrev pub BlocksKeep : Type 0
BlocksKeep = (names : List (List ℕ)) (name : ℕ → List ℕ) (own : List ℕ) (vars : List VarInfo) (c : Code) →
    AreNames name (length (block_lines c)) → AreFree names name (length (block_lines c)) → is_c_name own ≡ true →
    is_own own ≡ true → length vars ≤ most_number → FollowsRules vars c → Kept names name own 0 (block_lines c)

-- that there is a row in range makes the error of the last line the one that the rules know
abbrev pub FiltersKeep : Type 0
FiltersKeep = (names : List (List ℕ)) (name : ℕ → List ℕ) (own : List ℕ) (vars : List VarInfo) (zs : List ℤ) (f : FilterCode) →
    AreWithin vars zs → AreNames name (length (lines_of_filter f)) → AreFree names name (length (lines_of_filter f)) →
    is_c_name own ≡ true → is_own own ≡ true → length vars ≤ most_number → FollowsFilterRules vars f →
    Kept names name own (error_of f) (lines_of_filter f)
