-- The first record of a text, and the records after it.
use Rattle.std.proofs.Common.{◌≡◌, ℕ, zero, suc, ◌+◌, ◌<◌, ◌≤◌, Bool, true, false, List, [], ◌∷◌, ◌++◌, length, Option, Some, None, refl}
use Rattle.std.proofs.Common.{ap, sym, ◌∙◌, subst, arith, add-one, cond, inl, inr, length-append}
use Rattle.std.specs.Prelude.{IfSome, ◌||◌, ◌==◌}
use Rattle.csv.specs.Machine.{Read, next_record, step, start_field, is_end, fields_after, field_after, ends_at_end}
use Rattle.csv.specs.Reading.{records_from, records_next, default_config}
use Rattle.csv.specs.declared.parser.State.{State}
use Rattle.csv.specs.declared.parser.State.TheVariants as st
use Rattle.csv.specs.declared.parser.Action.{Action}
use Rattle.csv.specs.declared.parser.Action.TheVariants as act
use Rattle.ln_rows.specs.Left.{Records, records_of, first_of, IsBetween, HasFirst}

-- after a record fewer bytes remain, or none and the start of a record
IsShorter : List ℕ → Read → Type 0
IsShorter [] p = (p.1 ≡ st.StartRecord) × (p.2 ≡ [])
IsShorter (c ∷ xs) p = length p.2 ≤ length xs

last : (b : Bool) (r : List (List ℕ)) → IfSome (cond b (Some (r, st.StartRecord, [])) None) (λ (p : Read). IsShorter [] p)
unfolding IsShorter
last true r = (refl, refl)
last false r = tt

no_longer : (xs : List ℕ) (p : Read) → IsShorter xs p → length p.2 ≤ length xs
unfolding IsShorter
no_longer [] p h = let e : length p.2 ≡ 0 = ap length h.1 in omega arith
no_longer (c ∷ xs) p h = omega (arith, h)

more : (b : Bool) (c : ℕ) (xs : List ℕ) (r : List (List ℕ)) (s : State) (o : Option Read) → IfSome o (λ p. IsShorter xs p)
    → IfSome (cond b (Some (r, s, xs)) o) (λ (p : Read). IsShorter (c ∷ xs) p)
unfolding IsShorter
more true c xs r s o h = omega arith
more false c xs r s None h = tt
more false c xs r s (Some p) h = no_longer xs p h

shorter : (s : State) (fields : List (List ℕ)) (field xs : List ℕ) → IfSome (next_record default_config s fields field xs) (λ p. IsShorter xs p)
unfolding next_record
shorter s fields field [] = last (ends_at_end s) (fields ++ (field ∷ []))
shorter s fields field (c ∷ xs) =
    more (is_end (step default_config s c).1) c xs (fields_after (step default_config s c).1 fields field) (step default_config s c).0 _
    (shorter (step default_config s c).0 (fields_after (step default_config s c).1 fields field) (field_after (step default_config s c).1 c field) xs)

at_end : (n : ℕ) → records_from default_config n st.StartRecord [] ≡ []
unfolding records_from next_record
at_end zero = refl
at_end (suc n) = refl

-- any fuel above the number of the bytes leads to the same records
same_next : (m n : ℕ) (xs : List ℕ) (o : Option Read) → length xs ≤ m → length xs ≤ n
    → ((s : State) (ys : List ℕ) → length ys < m → length ys < n → records_from default_config m s ys ≡ records_from default_config n s ys)
    → IfSome o (λ p. IsShorter xs p)
    → records_next (records_from default_config m) o ≡ records_next (records_from default_config n) o
unfolding IsShorter
same_next m n xs None a b go h = refl
same_next m n [] (Some p) a b go h = rw (h.0, h.1, at_end m, at_end n) refl
same_next m n (c ∷ xs) (Some p) a b go h = ap (λ (q : Records). p.0 ∷ q) (go p.1 p.2 (omega (arith, h)) (omega (arith, h)))

fuel : (m n : ℕ) (s : State) (xs : List ℕ) → length xs < m → length xs < n → records_from default_config m s xs ≡ records_from default_config n s xs
unfolding records_from
fuel zero n s xs a b = absurd (omega arith)
fuel (suc m) zero s xs a b = absurd (omega arith)
fuel (suc m) (suc n) s xs a b =
    same_next m n xs (next_record default_config s [] [] xs) (omega arith) (omega arith) (λ t ys c d. fuel m n t ys c d) (shorter s [] [] xs)

next_left : (xs : List ℕ) (p : Read) → IsShorter xs p → records_from default_config (length xs) p.1 p.2 ≡ records_from default_config (length p.2 + 1) p.1 p.2
unfolding IsShorter
next_left [] p h = rw (h.0, h.1, at_end 0, at_end 1) refl
next_left (c ∷ xs) p h = fuel (length (c ∷ xs)) (length p.2 + 1) p.1 p.2 (omega (arith, h)) (omega arith)

-- the next record by what the next byte does
abbrev next_by : State × Action → ℕ → List ℕ → Option Read
next_by p c xs = cond (is_end p.1) (Some (fields_after p.1 [] [], p.0, xs)) (next_record default_config p.0 (fields_after p.1 [] []) (field_after p.1 c []) xs)

-- a record begins after a return, but for a line feed, which begins none
by_feed : (x y : Bool) (c : ℕ) (xs : List ℕ) (o : State × Action)
    → next_by (cond x (st.StartRecord, act.Skip) (cond (y || x) (st.StartRecord, act.Skip) o)) c xs ≡ next_by (cond (y || x) (st.StartRecord, act.Skip) o) c xs
by_feed true true c xs o = refl
by_feed true false c xs o = refl
by_feed false y c xs o = refl

behind_return : (xs : List ℕ) → next_record default_config st.AfterCr [] [] xs ≡ next_record default_config st.StartRecord [] [] xs
unfolding next_record
behind_return [] = refl
behind_return (c ∷ xs) = by_feed (c == 10) (c == 13) c xs (start_field default_config c)

records_between : (n : ℕ) (s : State) (xs : List ℕ) → IsBetween s → records_from default_config n s xs ≡ records_from default_config n st.StartRecord xs
unfolding records_from
records_between zero s xs h = refl
records_between (suc n) s xs (inl e) = rw e refl
records_between (suc n) s xs (inr e) = rw (e, behind_return xs) refl

if_first : (o : Option Read) (p : Read) (P : Read → Type 0) → o ≡ Some p → IfSome o P → P p
if_first o p P e h = subst (λ (q : Option Read). IfSome q P) e h

-- the first record from a state, and those of the rest after it
pub next_gives : (s : State) (xs : List ℕ) (p : Read) → next_record default_config s [] [] xs ≡ Some p
    → records_from default_config (length xs + 1) s xs ≡ p.0 ∷ records_from default_config (length p.2 + 1) p.1 p.2
unfolding records_from
next_gives s xs p e =
    rw (add-one (length xs), e)
    (ap (λ (q : Records). p.0 ∷ q) (next_left xs p (if_first (next_record default_config s [] [] xs) p (λ q. IsShorter xs q) e (shorter s [] [] xs))))

-- where the bytes have no next record from a state, they have no records from it
pub next_none : (s : State) (xs : List ℕ) → next_record default_config s [] [] xs ≡ None → records_from default_config (length xs + 1) s xs ≡ []
unfolding records_from
next_none s xs e = rw (add-one (length xs), e) refl

-- the first record of a text
pub gives_records : (text : List ℕ) (fields : List (List ℕ)) (rest : List ℕ) → HasFirst text fields rest → records_of text ≡ fields ∷ records_of rest
gives_records text fields rest g = next_gives st.StartRecord text (fields, g.state, rest) g.first
    ∙ ap (λ (q : Records). fields ∷ q) (records_between (length rest + 1) g.state rest g.between)

-- no first record, no records
pub none_records : (text : List ℕ) → first_of text ≡ None → records_of text ≡ []
none_records text e = next_none st.StartRecord text e

-- one first record, the same records
pub same_first : (a b : List ℕ) → first_of a ≡ first_of b → records_of a ≡ records_of b
same_first a b e = by (first_of b) refl where
  by : (o : Option Read) → first_of b ≡ o → records_of a ≡ records_of b
  by None f = none_records a (e ∙ f) ∙ sym (none_records b f)
  by (Some p) f = next_gives st.StartRecord a p (e ∙ f) ∙ sym (next_gives st.StartRecord b p f)

-- a record has no more fields than the text has bytes, and one
count : (s : State) (all : List (List ℕ)) (field xs : List ℕ)
    → IfSome (next_record default_config s all field xs) (λ p. length p.0 ≤ length all + length xs + 1)
unfolding next_record
count s all field [] = at_last (ends_at_end s) where
  at_last : (b : Bool) → IfSome (cond b (Some (all ++ (field ∷ []), st.StartRecord, [])) None) (λ (p : Read). length p.0 ≤ length all + 0 + 1)
  at_last true = omega (arith, length-append all (field ∷ []))
  at_last false = tt
count s all field (c ∷ xs) = by_end (is_end (step default_config s c).1)
    (count (step default_config s c).0 (fields_after (step default_config s c).1 all field) (field_after (step default_config s c).1 c field) xs)
  where
    one_more : (a : Action) → length (fields_after a all field) ≤ length all + 1
    one_more act.Skip = omega arith
    one_more act.Copy = omega arith
    one_more act.EndField = omega (arith, length-append all (field ∷ []))
    one_more act.EndRecord = omega (arith, length-append all (field ∷ []))

    widen : (o : Option Read) → IfSome o (λ p. length p.0 ≤ length (fields_after (step default_config s c).1 all field) + length xs + 1)
        → IfSome o (λ p. length p.0 ≤ length all + suc (length xs) + 1)
    widen None h = tt
    widen (Some p) h = omega (arith, h, one_more (step default_config s c).1)

    by_end : (b : Bool) → IfSome (next_record default_config (step default_config s c).0 (fields_after (step default_config s c).1 all field)
        (field_after (step default_config s c).1 c field) xs) (λ p. length p.0 ≤ length (fields_after (step default_config s c).1 all field) + length xs + 1)
        → IfSome (cond b (Some (fields_after (step default_config s c).1 all field, (step default_config s c).0, xs)) (next_record default_config
        (step default_config s c).0 (fields_after (step default_config s c).1 all field) (field_after (step default_config s c).1 c field) xs))
        (λ (p : Read). length p.0 ≤ length all + suc (length xs) + 1)
    by_end true h = omega (arith, one_more (step default_config s c).1)
    by_end false h = widen _ h

-- the first record of a text has at most one field more than the text has bytes
pub few_fields : (text : List ℕ) (fields : List (List ℕ)) (rest : List ℕ) → HasFirst text fields rest → length fields ≤ length text + 1
few_fields text fields rest g =
    let p : Read = (fields, g.state, rest) in
    let few : length fields ≤ 0 + length text + 1 =
    if_first (first_of text) p (λ q. length q.0 ≤ 0 + length text + 1) g.first (count st.StartRecord [] [] text) in
    omega (arith, few)

-- line ends before a record count for nothing
pub past_feed : (xs : List ℕ) → first_of (10 ∷ xs) ≡ first_of xs
unfolding next_record
past_feed xs = refl

-- the same for a return
pub past_return : (xs : List ℕ) → first_of (13 ∷ xs) ≡ first_of xs
unfolding next_record
past_return xs = refl
