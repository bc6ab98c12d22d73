-- Proves what one step of csv's machine does to a record: it goes on with the record, or the record ends.
use Rattle.std.proofs.Common.{◌≡◌, ℕ, true, false, List, [], ◌∷◌, ◌++◌, Some, None, refl, ap, ◌∙◌, cond}
use Rattle.csv.specs.Machine.{next_record, step, is_end, fields_after, field_after, ends_at_end}
use Rattle.csv.specs.Reading.{default_config}
use Rattle.csv.specs.declared.parser.State.{State}
use Rattle.csv.specs.declared.parser.State.TheVariants as st
use Rattle.csv.specs.declared.parser.Action.{Action}

-- a step of csv's machine, unfolded
goes_on : (s : State) (c : ℕ) (all : List (List ℕ)) (field xs : List ℕ) → is_end (step default_config s c).1 ≡ false
    → next_record default_config s all field (c ∷ xs) ≡ next_record default_config (step default_config s c).0
    (fields_after (step default_config s c).1 all field) (field_after (step default_config s c).1 c field) xs
unfolding next_record
goes_on s c all field xs e =
    ap (λ b. cond b (Some (fields_after (step default_config s c).1 all field, (step default_config s c).0, xs)) (next_record default_config
    (step default_config s c).0 (fields_after (step default_config s c).1 all field) (field_after (step default_config s c).1 c field) xs)) e

goes_out : (s : State) (c : ℕ) (all : List (List ℕ)) (field xs : List ℕ) → is_end (step default_config s c).1 ≡ true
    → next_record default_config s all field (c ∷ xs) ≡ Some (fields_after (step default_config s c).1 all field, (step default_config s c).0, xs)
unfolding next_record
goes_out s c all field xs e =
    ap (λ b. cond b (Some (fields_after (step default_config s c).1 all field, (step default_config s c).0, xs)) (next_record default_config
    (step default_config s c).0 (fields_after (step default_config s c).1 all field) (field_after (step default_config s c).1 c field) xs)) e

-- by the state and the action of the step
pub moves : (s t : State) (a : Action) (c : ℕ) (all : List (List ℕ)) (field xs : List ℕ) → (step default_config s c).0 ≡ t
    → (step default_config s c).1 ≡ a → is_end a ≡ false
    → next_record default_config s all field (c ∷ xs) ≡ next_record default_config t (fields_after a all field) (field_after a c field) xs
moves s t a c all field xs e f n =
    goes_on s c all field xs (ap is_end f ∙ n) ∙ ap (λ (u : State). next_record default_config u
    (fields_after (step default_config s c).1 all field) (field_after (step default_config s c).1 c field) xs) e
    ∙ ap (λ (b : Action). next_record default_config t (fields_after b all field) (field_after b c field) xs) f

-- a step whose action ends the record returns its fields
pub comes_out : (s : State) (a : Action) (c : ℕ) (all : List (List ℕ)) (field xs : List ℕ) → (step default_config s c).1 ≡ a → is_end a ≡ true
    → next_record default_config s all field (c ∷ xs) ≡ Some (fields_after a all field, (step default_config s c).0, xs)
comes_out s a c all field xs f n =
    goes_out s c all field xs (ap is_end f ∙ n) ∙ ap (λ (b : Action). Some (fields_after b all field, (step default_config s c).0, xs)) f

-- the end of the text
pub at_end : (s : State) (all : List (List ℕ)) (field : List ℕ)
    → next_record default_config s all field [] ≡ cond (ends_at_end s) (Some (all ++ (field ∷ []), st.StartRecord, [])) None
unfolding next_record
at_end s all field = refl
