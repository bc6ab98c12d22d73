-- Lists of items.
use Rattle.std.proofs.Common.{◌≡◌, ℕ, suc, ◌+◌, ◌<◌, Bool, true, false, cond, ◌||◌, List, [], ◌∷◌}
use Rattle.std.proofs.Common.{length, get_or, take, Some, refl, ap, sym, ◌∙◌, arith, is_some}
use Rattle.std.specs.Prelude.{option_map}
use Rattle.std.specs.List.{list_any, find, position_from, count_by}
use Rattle.std.specs.Int.{from_bool}
use Rattle.std.proofs.Math.ListN.{get_or-map}
use Rattle.std.proofs.lemmas.List.{length-map}
use Rattle.ln_base.proofs.Counting.{counted_more}
use Rattle.ln_syntax.specs.declared.raw.RawItem.{RawItem}
use Rattle.ln_syntax.specs.Raw.{Item, item, items}

-- whether some item passes a test is whether the item of some raw item does
pub any_items : (p : Item → Bool) (is : List RawItem) → list_any p (items is) ≡ list_any (λ i. p (item i)) is
any_items p [] = refl
any_items p (i ∷ is) = ap (λ (b : Bool). p (item i) || b) (any_items p is)

-- the first item that passes a test is that of the first raw item whose item passes it
pub find_items : (p : Item → Bool) (is : List RawItem) → find p (items is) ≡ option_map item (find (λ i. p (item i)) is)
find_items p [] = refl
find_items p (i ∷ is) =
    let rest = find_items p is in
    elim (p (item i)) as (λ b. cond b (Some (item i)) (find p (items is)) ≡ option_map item (cond b (Some i) (find (λ i. p (item i)) is))) [
      | true ↦ refl
      | false ↦ rest
    ]

below_by : {A : Type 0} (b : Bool) (p : A → Bool) (i : ℕ) (xs : List A) (n : ℕ) → cond b (Some i) (position_from p (i + 1) xs) ≡ Some n
    → (position_from p (i + 1) xs ≡ Some n → n < (i + 1) + length xs) → n < i + suc (length xs)
below_by true p i xs n h on = let q : i ≡ n = cc in omega arith
below_by false p i xs n h on = let q = on h in omega arith

-- a place is below the length
pub place_below : {A : Type 0} (p : A → Bool) (i : ℕ) (xs : List A) (n : ℕ) → position_from p i xs ≡ Some n → n < i + length xs
place_below p i [] n h = absurd (cc)
place_below p i (x ∷ xs) n h = below_by (p x) p i xs n h (place_below p (i + 1) xs n)

-- there is a place where some element passes the test
pub place_is_some : {A : Type 0} (p : A → Bool) (i : ℕ) (xs : List A) → is_some (position_from p i xs) ≡ list_any p xs
place_is_some p i [] = refl
place_is_some p i (x ∷ xs) =
    let rest = place_is_some p (i + 1) xs in
    elim (p x) as (λ b. is_some (cond b (Some i) (position_from p (i + 1) xs)) ≡ (b || list_any p xs)) [
      | true ↦ refl
      | false ↦ rest
    ]

-- the item of a raw item is at its place
pub item_at : (is : List RawItem) (i : ℕ) (x : RawItem) → x ≡ get_or is i x → get_or (items is) i (item x) ≡ item x
item_at is i x e = get_or-map item is i x ∙ ap item (sym e)

-- one item more is counted
pub items_counted : (p : Item → Bool) (is : List RawItem) (i n m : ℕ) (x : RawItem) → i < length is → x ≡ get_or is i x
    → n ≡ count_by p (take i (items is)) → m ≡ from_bool (p (item x)) → n + m ≡ count_by p (take (i + 1) (items is))
items_counted p is i n m x l e c h =
    counted_more p (items is) i n m (item x) (omega (arith, l, length-map is item)) c (h ∙ ap (λ (w : Item). from_bool (p w)) (sym (item_at is i x e)))
