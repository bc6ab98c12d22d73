-- Places in lists, as the calls that look for them have them.
use Rattle.std.proofs.Common.{◌≡◌, ℕ, Bool, List, [], ◌∷◌, Option, refl, ap, sym, ◌∙◌}
use Rattle.ln_syntax.specs.declared.raw.RawItem.{RawItem}
use Rattle.ln_syntax.specs.Raw.{Item, item, items}
use Rattle.std.specs.Prelude.{position, unwrap_or}
use Rattle.std.specs.List.{filter_map, cons_option, position_from}
use Rattle.std.proofs.lemmas.Iterator.Adapters.{position_from-zero}
use Rattle.ln_parse.specs.Says.{place}

-- the first place, looked for from the beginning on
pub position_is : {A : Type 0} (p : A → Bool) (xs : List A) (o : Option ℕ) → o ≡ position_from p 0 xs → position p xs ≡ o
position_is p xs o h = position_from-zero p xs ∙ sym h

-- the place, or 0 where there is none
pub place_is : {A : Type 0} (p : A → Bool) (xs : List A) (o : Option ℕ) → o ≡ position_from p 0 xs → unwrap_or o 0 ≡ place p xs
place_is p xs o h = sym (ap (λ (w : Option ℕ). unwrap_or w 0) (position_is p xs o h))

-- what items of the program say, seen through the items that they are
pub said_items : {A : Type 0} (f : Item → Option A) (its : List RawItem) → filter_map (λ i. f (item i)) its ≡ filter_map f (items its)
said_items f [] = refl
said_items f (x ∷ its) = ap (cons_option (f (item x))) (said_items f its)
