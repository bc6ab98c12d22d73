-- Lines of panels, worked out by hand.
use Rattle.std.specs.Prelude.{◌≡◌, ℕ, List, [], ◌∷◌, codes}
use Rattle.ln_base.specs.declared.sign.Sign.{Sign}
use Rattle.ln_base.specs.declared.sign.Sign.TheVariants.{Minus, Plus}
use Rattle.ln_code.specs.declared.verdict.By.{By}
use Rattle.ln_code.specs.declared.verdict.By.TheVariants.{Filter, Stage}
use Rattle.ln_watch.specs.Panel.{Numbered, panel_lines}
use Rattle.ln_watch.specs.Watchers.{signs, first, those_of_gen}

-- the verdict with this sign and this decider on the row with this number, after one call and no wide operation
abbrev pub on_row : ℕ → Sign → By → Numbered
on_row row sign by = record { row = row; verdict = record { sign = sign; by = by; wide = 0; calls = 1 } }

-- five rows at which the plain value is 0 and the first stage after it is positive
abbrev pub five_rows : List Numbered
five_rows = on_row 1 Plus (Stage 1) ∷ on_row 2 Plus (Stage 1) ∷ on_row 3 Plus (Stage 1) ∷ on_row 4 Plus (Stage 1)
    ∷ on_row 5 Plus (Stage 1) ∷ []

-- what the watchers of `gen` write over the five rows: the one that is done after three of them writes first
abbrev pub FiveRowsAre : Type 0
FiveRowsAre = panel_lines five_rows those_of_gen
    ≡ codes "first 1 2 3\nsigns + 5 0 0 - 0\ndeciders filter 0 plain 0 stages 5 none 0 deepest 1\n"

-- two perturbed rows round one that the filter decides: two watchers leave and one stays between them
abbrev pub three_rows : List Numbered
three_rows = on_row 1 Plus (Stage 1) ∷ on_row 2 Plus Filter ∷ on_row 3 Minus (Stage 2) ∷ []

-- what watchers of the first perturbed row, of signs and of the first two perturbed rows write over the three rows
abbrev pub ThreeRowsAre : Type 0
ThreeRowsAre = panel_lines three_rows (first 1 ∷ signs ∷ first 2 ∷ []) ≡ codes "first 1\nfirst 1 3\nsigns + 2 0 0 - 1\n"
