-- Defines what a watcher gathers and the line it has, by the number of its kind and its tally.
--
--   kind   tally           step on a row and its verdict                              text
--   1      P Z M           adds 1 to the count of the sign, of +, 0 and -             signs + P 0 Z - M
--   2      F P S N D       adds 1 to F for the filter, to P for stage 0, to S for a   deciders filter F plain P stages S none N deepest D
--                          later stage, to N where nothing decided; D is the larger
--                          of D and the stage's place
--   3      n, then rows    appends the row's number where the row is perturbed and    first, then a space and the number of each row
--                          fewer than n are there; done exactly where n are there then
--   other                  nothing                                                    (empty)
--
-- Each watcher stays where nothing else is said. On a tally of another form a step changes nothing, and the text is empty.
use Rattle.std.specs.Prelude.{ℕ, ◌==◌, nat_lt, max, Bool, false, ◌&&◌, List, [], ◌∷◌, ◌++◌, length, codes, decimal, if◌then◌else◌}
use Rattle.ln_base.specs.Outside.{counted}
use Rattle.ln_base.specs.declared.sign.Sign.{Sign}
use Rattle.ln_base.specs.declared.sign.Sign.TheVariants.{Minus, Zero, Plus}
use Rattle.ln_code.specs.declared.verdict.Verdict.{Verdict}
use Rattle.ln_code.specs.declared.verdict.By.{By}
use Rattle.ln_code.specs.declared.verdict.By.TheVariants.{Filter, Stage, Nothing}
use Rattle.ln_watch.specs.declared.watch.Keep.{Keep}
use Rattle.ln_watch.specs.declared.watch.Keep.TheVariants.{Stay, Done}

-- the counts of +, 0 and -; a count stays at 2^64 - 1 once there
abbrev pub signs_after : List ℕ → Sign → List ℕ
signs_after (p ∷ z ∷ m ∷ []) Plus = counted p ∷ z ∷ m ∷ []
signs_after (p ∷ z ∷ m ∷ []) Zero = p ∷ counted z ∷ m ∷ []
signs_after (p ∷ z ∷ m ∷ []) Minus = p ∷ z ∷ counted m ∷ []
signs_after other sign = other

-- the counts of +, 0 and - as text; empty for a tally of another form
abbrev pub signs_text : List ℕ → List ℕ
signs_text (p ∷ z ∷ m ∷ []) = codes "signs + " ++ decimal p ++ codes " 0 " ++ decimal z ++ codes " - " ++ decimal m
signs_text other = []

-- the counts of rows decided by the filter, by stage 0, by a later stage and by nothing, and the largest place of a stage
abbrev pub deciders_after : List ℕ → By → List ℕ
deciders_after (f ∷ p ∷ s ∷ n ∷ d ∷ []) Filter = counted f ∷ p ∷ s ∷ n ∷ d ∷ []
deciders_after (f ∷ p ∷ s ∷ n ∷ d ∷ []) (Stage place) = if place == 0 then f ∷ counted p ∷ s ∷ n ∷ d ∷ [] else f ∷ p ∷ counted s
    ∷ n ∷ max d place ∷ []
deciders_after (f ∷ p ∷ s ∷ n ∷ d ∷ []) Nothing = f ∷ p ∷ s ∷ counted n ∷ d ∷ []
deciders_after other by = other

-- the counts of deciders and the largest place of a stage as text; empty for a tally of another form
abbrev pub deciders_text : List ℕ → List ℕ
deciders_text (f ∷ p ∷ s ∷ n ∷ d ∷ []) =
    codes "deciders filter " ++ decimal f ++ codes " plain " ++ decimal p ++ codes " stages " ++ decimal s ++ codes " none "
    ++ decimal n ++ codes " deepest " ++ decimal d
deciders_text other = []

-- a row is perturbed where a stage after stage 0 decides it
abbrev pub is_perturbed : By → Bool
is_perturbed Filter = false
is_perturbed (Stage place) = nat_lt 0 place
is_perturbed Nothing = false

-- how many rows are wanted, then the numbers of those that came
abbrev pub first_after : List ℕ → ℕ → By → List ℕ
first_after [] row by = []
first_after (n ∷ rows) row by = if is_perturbed by && nat_lt (length rows) n then n ∷ rows ++ row ∷ [] else n ∷ rows

-- are as many there as are wanted?
abbrev pub is_full : List ℕ → Bool
is_full [] = false
is_full (n ∷ rows) = length rows == n

-- a space and the number of each row, in order
abbrev pub rows_text : List ℕ → List ℕ
rows_text [] = []
rows_text (row ∷ rows) = 32 ∷ decimal row ++ rows_text rows

-- the numbers of the first perturbed rows as text; empty for an empty tally
abbrev pub first_text : List ℕ → List ℕ
first_text [] = []
first_text (n ∷ rows) = codes "first" ++ rows_text rows

-- the tally after a step on a row and its verdict
abbrev pub tally_after : ℕ → List ℕ → ℕ → Verdict → List ℕ
tally_after kind tally row v =
    if kind == 1 then signs_after tally v.sign
    else (if kind == 2 then deciders_after tally v.by else (if kind == 3 then first_after tally row v.by else tally))

-- whether the watcher stays after that step
abbrev pub keep_after : ℕ → List ℕ → ℕ → Verdict → Keep
keep_after kind tally row v = if kind == 3 && is_full (tally_after kind tally row v) then Done else Stay

-- the text of a tally
abbrev pub watch_text : ℕ → List ℕ → List ℕ
watch_text kind tally = if kind == 1 then signs_text tally
    else (if kind == 2 then deciders_text tally else (if kind == 3 then first_text tally else []))
