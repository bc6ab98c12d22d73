-- What is written for a tree, in a style that a walk over the tree knows by its own marks.
use Rattle.std.specs.Prelude.{◌≡◌, ◌⊎◌, ℕ, zero, suc, ◌+◌, Bool, true, List, [], ◌∷◌, ◌++◌, length, map, pos, Some, slice_get}
use Rattle.ln_bound.specs.Typed.{Typed, TNum, TInput, TLet, TNeg, TTwo, TPow}
use Rattle.ln_code.specs.Engine.{Line}
use Rattle.ln_code.specs.StackCode.{IsCode, Style, after_left, after_right, keeping, line, power_of, raised_to, with_division}
use Rattle.ln_code.specs.declared.op.Op.TheVariants.{Get, Input, Neg, Push}
use Rattle.ln_code.specs.declared.draft.Draft.{Draft}

-- an operation with its bound as the definitions have it
abbrev pub told_line : {A B : Type 0} → (A → B) → Line A → Line B
told_line told x = line x.op (told x.bound)

-- the second draft has these operations more than the first, and these subtrees are kept besides
pub record Wrote {A B : Type 0} (told : A → B) (before after : Draft A) (lines : List (Line B)) (more : List ℕ) : Type 0 where
  pub code : map (told_line told) after.code ≡ map (told_line told) before.code ++ lines
  pub kept : after.kept ≡ before.kept ++ more

-- the bound after a division by 2^n
abbrev pub after_division : {B : Type 0} → (ℕ → B → B) → ℕ → B → B
after_division divided zero b = b
after_division divided (suc n) b = divided (suc n) b

-- the bound after the division that follows an operation with this bound
abbrev pub after_excess : {B : Type 0} → Style B → B → B
after_excess y b = after_division y.divided (y.excess b) b

-- the second draft has these operations more, and the last value has the bound that is wanted
pub record Gives {A B : Type 0} (told : A → B) (before after : Draft A) (lines : List (Line B)) (want : B) (a : A) : Type 0 where
  pub bound : told a ≡ want
  pub wrote : Wrote told before after lines []

-- the bound that the operations of a node leave
abbrev pub left_by : {B : Type 0} → Style B → Typed → B
left_by y (TNum c p w) = y.mark (TNum c p w)
left_by y (TInput v p w) = after_excess y (y.raw (TInput v p w))
left_by y (TLet j p w) = y.mark (TLet j p w)
left_by y (TNeg t p w) = y.mark t
left_by y (TTwo o t u p w) = after_excess y (y.raw (TTwo o t u p w))
left_by y (TPow t zero p w) = y.mark (TPow t zero p w)
left_by y (TPow t (suc n) p w) = y.mark (raised_to t (suc n) w)

-- these numbers are these trees, one by one
abbrev pub AreKeptNumbers : (ℕ → Typed → Type 0) → List ℕ → List Typed → Type 0
AreKeptNumbers is_number [] [] = Unit {0}
AreKeptNumbers is_number [] (t ∷ ts) = ⊥
AreKeptNumbers is_number (n ∷ ns) [] = ⊥
AreKeptNumbers is_number (n ∷ ns) (t ∷ ts) = is_number n t × AreKeptNumbers is_number ns ts

-- the operations are code of a tree where these trees are kept; those that are kept after it have these numbers
pub record Coded {B : Type 0} (y : Style B) (is_number : ℕ → Typed → Type 0) (kept : List Typed) (t : Typed) (lines : List (Line B)) (more : List ℕ) (b : Bool)
    : Type 0 where
  pub new : List Typed
  pub are : AreKeptNumbers is_number more new
  pub code : IsCode y kept t lines new b

-- the second draft has the operations of a tree more, whichever trees have the numbers that are kept, and a is its bound
pub record Puts {A B : Type 0} (told : A → B) (y : Style B) (is_number : ℕ → Typed → Type 0) (shares : Type 0) (before after : Draft A) (t : Typed) (a : A)
    : Type 0 where
  pub lines : List (Line B)
  pub more : List ℕ
  pub computed : Bool
  pub wrote : Wrote told before after lines more
  pub coded : (kept : List Typed) → AreKeptNumbers is_number before.kept kept → Coded y is_number kept t lines more computed
  pub bound : told a ≡ y.mark t
  -- where nothing is shared nothing is kept
  pub none_kept : (shares → ⊥) → more ≡ []

-- the second draft has the operations of a tree more, of which the last one computes its value
pub record Done {A B : Type 0} (told : A → B) (y : Style B) (is_number : ℕ → Typed → Type 0) (shares : Type 0) (before after : Draft A)
    (t : Typed) : Type 0 where
  pub lines : List (Line B)
  pub more : List ℕ
  pub wrote : Wrote told before after lines more
  pub coded : (kept : List Typed) → AreKeptNumbers is_number before.kept kept → Coded y is_number kept t lines more true
  pub none_kept : (shares → ⊥) → more ≡ []

-- after a tree is computed its value may be kept, and a is its bound
abbrev pub PutsKept : {A B : Type 0} → (A → B) → Style B → (ℕ → Typed → Type 0) → Type 0 → Draft A → Draft A → Typed → A → Type 0
PutsKept {A = A} told y is_number shares mid after t a =
    (before : Draft A) → Done told y is_number shares before mid t → Puts told y is_number shares before after t a

-- number k, whose bound is b, is kept from here on, or nothing is written
abbrev pub MayKeep : {A B : Type 0} → (A → B) → Style B → Type 0 → Draft A → Draft A → ℕ → B → Type 0
MayKeep told y shares before after k b =
    Wrote told before after [] [] ⊎ (shares × Wrote told before after (keeping y.none (65 + length before.kept) b) (k ∷ []))

-- the subtree of number k is kept in local j, and its number is one tree alone
pub record KeptIn (shares : Type 0) (is_number : ℕ → Typed → Type 0) (kept : List ℕ) (k j : ℕ) : Type 0 where
  pub shared : shares
  pub unique : (t u : Typed) → is_number k t → is_number k u → t ≡ u
  pub place : (i : ℕ) × (slice_get kept i ≡ Some k) × (j ≡ 65 + i)

-- the operations of a tree where no subtree is kept
abbrev pub plain : {B : Type 0} → Style B → Typed → List (Line B)
plain y (TNum c p w) = line (Push c) (y.mark (TNum c p w)) ∷ []
plain y (TInput v p w) = with_division y (Input v) (y.raw (TInput v p w))
plain y (TLet j p w) = line (Get j) (y.mark (TLet j p w)) ∷ []
plain y (TNeg t p w) = plain y t ++ (line (Neg (y.at_width w)) (y.mark (TNeg t p w)) ∷ [])
plain y (TTwo o t u p w) = plain y t ++ (after_left y o t u ++ (plain y u ++ after_right y o t u p w))
plain y (TPow t zero p w) = line (Push (pos 1)) (y.mark (TPow t zero p w)) ∷ []
plain y (TPow t (suc n) p w) = plain y t ++ power_of y t w n
