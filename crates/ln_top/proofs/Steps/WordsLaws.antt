-- The plan of words, whatever the commands are.
use Rattle.std.proofs.Common.{◌≡◌, ℕ, ◌+◌, ◌-◌, ◌^◌, ◌<◌, ◌≤◌, min, nat_le, true, List, [], ◌∷◌, length, map}
use Rattle.std.proofs.Common.{take, drop, refl, ap, sym, ◌∙◌, arith, Some, None, length-drop}
use Rattle.std.proofs.Math.Seq.{take-length}
use Rattle.std.proofs.lemmas.Bool.{le-leb}
use Rattle.std.proofs.lemmas.List.{length-map, take-map, drop-map}
use Rattle.ln_top.specs.declared.words.Command.{Command}
use Rattle.ln_top.specs.Plan.{Plan, plan_for, plan_of, number_of_word}
use Rattle.ln_top.specs.Frame.Signature.{Form}
use Rattle.ln_top.specs.Signature.{form}
use Rattle.ln_base.specs.Decimal.{is_digits, decimal_value}
use Rattle.ln_base.proofs.DecimalLemmas.{value_within}

-- the further files are the remaining words
rest_whole : {A : Type 0} (xs : List A) (k : ℕ) → take (length xs - k) (drop k xs) ≡ drop k xs
rest_whole xs k = ap (λ n. take n (drop k xs)) (sym (length-drop k xs)) ∙ take-length (drop k xs)

-- the words after the source file are a plan of the command where there are as many as it takes
pub plan_there : {A : Type 0} (f : A → List ℕ) (xs : List A) (c : Command) (source : List ℕ) (n : Form)
    → n.least ≡ (form c).least → n.most ≡ (form c).most → n.files ≡ (form c).files
    → nat_le (n.least + n.files) (length xs) ≡ true → nat_le (length xs) (n.most + n.files) ≡ true
    → (let p : Plan = record {
      source = source;
      names = map f (take (length xs - n.files) xs);
      files = map f (take (length xs - (length xs - n.files)) (drop (length xs - n.files) xs));
      command = c;
    } in Some p ≡ plan_for (Some c) source (map f xs))
plan_there f xs c source n a b e g h =
    let g2 = rw (a, e) at g in
    let h2 = rw (b, e) at h in
    rw (rest_whole xs (length xs - n.files), length-map, take-map, drop-map, g2, h2, e) refl

-- the number of a word of 1 to 18 digits
number_is : (ds : List ℕ) (n : ℕ) → is_digits ds ≡ true → length ds ≤ 18 → n ≡ min (decimal_value ds) (2 ^ 128 - 1)
    → (n ≡ decimal_value ds) × (n < 2 ^ 64)
number_is ds n h l e = let below = value_within ds 18 h l in (omega (arith, below, e), omega (arith, below, e))

-- the number of a word of 1 to 18 digits fits 64 bits
pub number_fits : (ds : List ℕ) (n : ℕ) → is_digits ds ≡ true → length ds ≤ 18
    → n ≡ min (decimal_value ds) (2 ^ 128 - 1) → n < 2 ^ 64
number_fits ds n h l e = (number_is ds n h l e).1

-- the number that was read of a word of 1 to 18 digits is the word's number
pub number_there : (ds : List ℕ) (n : ℕ) → is_digits ds ≡ true → length ds ≤ 18
    → n ≡ min (decimal_value ds) (2 ^ 128 - 1) → Some n ≡ number_of_word ds
number_there ds n h l e = rw (h, le-leb (length ds) 18 l) (ap Some (number_is ds n h l e).0)

-- fewer than two words are no command
pub plan_short : {A : Type 0} (f : A → List ℕ) (xs : List A) → length xs < 2 → None ≡ plan_of (map f xs)
plan_short f [] h = refl
plan_short f (x ∷ []) h = refl
plan_short f (x ∷ y ∷ xs) h = absurd (omega (arith, h))
