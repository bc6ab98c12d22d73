-- What a loop has at each element.
use Rattle.std.proofs.Common.{◌≡◌, ℕ, suc, ◌<◌, ◌≤◌, ◌&&◌, Bool, true, false, cond, List, [], ◌∷◌, ◌++◌, zero, length, get_or}
use Rattle.std.proofs.Common.{take, append-nil, append_assoc, Option, Some, None, refl, ap, sym, subst, arith, length-take}
use Rattle.std.specs.Prelude.{IfSome}
use Rattle.std.specs.List.{list_all, find, position_from}
use Rattle.std.proofs.lemmas.Bool.{and_parts, leb-true}
use Rattle.std.proofs.lemmas.List.{take-map, length-map}
use Rattle.std.proofs.lemmas.Option.{slice_get-get_or}
use Rattle.ln_names.specs.Rules.{RawArg, RawLet, scope, is_site_arg, coords_of}
use Rattle.ln_syntax.specs.declared.raw.RawItem.{RawItem}
use Rattle.ln_syntax.specs.Raw.{Token, Item, SiteItem, ParamItem, PredItem, item, items, item_name, is_site, coords_in, same}
use Rattle.ln_names.specs.Limits.{Each}
use Rattle.ln_names.specs.declared.nodes.Body.{Body}
use Rattle.ln_names.specs.declared.nodes.Node.{Node}
use Rattle.ln_names.specs.Nodes.{ArePairedBy, AreNodes, LetsNodes}
use Rattle.ln_parse.specs.Says.{Formula, Says}
use Rattle.ln_names.proofs.Lists.{place_below, item_at}
use Rattle.ln_parse.specs.Ready.{IsNarrow, ReadyLet, is_few}
use Rattle.ln_parse.specs.Stack.{Brings, AreOne}
use Rattle.ln_parse.proofs.Expressions.Stack.{value_one, value_said}
use Rattle.ln_parse.proofs.Expressions.Found.{each_get}

-- what holds of each element holds of the one at an index
pub each_or : {A : Type 0} (P : List A → A → Type 0) (xs : List A) (i : ℕ) (d : A) → Each P [] xs → i < length xs → P (take i xs) (get_or xs i d)
each_or P xs i d e l = each_get P [] xs i (get_or xs i d) e (slice_get-get_or xs i d l)

-- the same of items that are seen without where they lie
pub item_index : (P : List Item → Item → Type 0) (its : List RawItem) (i : ℕ) (x : RawItem) → Each P [] (items its) → i < length its
    → x ≡ get_or its i x → P (items (take i its)) (item x)
item_index P its i x e l q =
    let m = item_at its i x q in
    let t : take i (items its) ≡ items (take i its) = take-map item i its in
    let n = length-map its item in
    rw (m, t) at (each_or P (items its) i (item x) e (omega arith))

-- a place in a short list fits a byte
pub below_byte : {A : Type 0} (p : A → Bool) (xs : List A) (o : Option ℕ) → o ≡ position_from p 0 xs → length xs ≤ 16 → IfSome o (λ i. i < 256)
below_byte p xs None h l = tt
below_byte p xs (Some n) h l = let q = place_below p 0 xs n (sym h) in omega arith

few_by : (p : Item → Bool) (x : Item) (is : List Item) (b : Bool) → p x ≡ b → is_few x ≡ true → length (coords_in (find p is)) ≤ 32
    → length (coords_in (cond b (Some x) (find p is))) ≤ 32
few_by p (SiteItem n cs) is true e f h = leb-true (length cs) 32 f
few_by p (ParamItem n r) is true e f h = omega arith
few_by p (PredItem n as' ls r) is true e f h = omega arith
few_by p x is false e f h = h

few_coords : (p : Item → Bool) (is : List Item) → list_all is_few is ≡ true → length (coords_in (find p is)) ≤ 32
few_coords p [] h = omega arith
few_coords p (x ∷ is) h = let q = and_parts (is_few x) (list_all is_few is) h in few_by p x is (p x) refl q.0 (few_coords p is q.1)

few_of : (bytes : List ℕ) (is : List Item) (o : Option RawArg) → list_all is_few is ≡ true → length (coords_of bytes is o) ≤ 32
few_of bytes is None h = omega arith
few_of bytes is (Some a) h = few_coords (λ i. is_site i && same bytes (item_name i) a.kind) is h

-- a byte counts what an expression can speak of
pub is_narrow : (bytes : List ℕ) (is : List Item) (args : List RawArg) (ls : List RawLet) → list_all is_few is ≡ true → length args < 256
    → length ls < 256 → IsNarrow bytes (scope is args ls)
is_narrow bytes is args ls f a l =
    record { args = a; lets = l; coords = λ at. let h = few_of bytes is (find (λ a. is_site_arg a && same bytes a.name at) args) f in omega arith }

-- lists that go together are equally long
pub paired_length : {A B : Type 0} (P : List A → A → B → Type 0) (before xs : List A) (ys : List B) → ArePairedBy P before xs ys → length xs ≡ length ys
paired_length P before [] [] p = refl
paired_length P before [] (y ∷ ys) p = absurd p
paired_length P before (x ∷ xs) [] p = absurd p
paired_length P before (x ∷ xs) (y ∷ ys) p = ap suc (paired_length P (before ++ (x ∷ [])) xs ys p.1)

paired_get : {A B : Type 0} (P : List A → A → B → Type 0) (before xs : List A) (ys : List B) (i : ℕ) (d : A) (e : B) → ArePairedBy P before xs ys
    → i < length xs → P (before ++ take i xs) (get_or xs i d) (get_or ys i e)
paired_get P before [] ys i d e p l = absurd (omega arith)
paired_get P before (x ∷ xs) [] i d e p l = absurd p
paired_get {A} P before (x ∷ xs) (y ∷ ys) zero d e p l = subst (λ (w : List A). P w x y) (sym (append-nil before)) p.0
paired_get {A} P before (x ∷ xs) (y ∷ ys) (suc i) d e p l =
    subst (λ (w : List A). P w (get_or xs i d) (get_or ys i e)) (append_assoc before (x ∷ []) (take i xs))
    (paired_get P (before ++ (x ∷ [])) xs ys i d e p.1 (omega arith))

-- an element of one has its companion in the other
pub paired_at : {A B : Type 0} (P : List A → A → B → Type 0) (xs : List A) (ys : List B) (i : ℕ) (d : A) (y : B) → ArePairedBy P [] xs ys
    → i < length ys → y ≡ get_or ys i y → P (take i xs) (get_or xs i d) y
paired_at {B = B} P xs ys i d y p l q =
    let n = paired_length P [] xs ys p in
    subst (λ (w : B). P (take i xs) (get_or xs i d) w) (sym q) (paired_get P [] xs ys i d y p (omega arith))

-- there are as many bodies as items
pub bodies_length : (P : List Item → Item → Body → Type 0) (its : List RawItem) (bs : List Body) → ArePairedBy P [] (items its) bs → length its ≡ length bs
bodies_length P its bs p = let n = length-map its item in let m = paired_length P [] (items its) bs p in omega arith

-- and each has its own
pub body_index : (P : List Item → Item → Body → Type 0) (its : List RawItem) (bs : List Body) (i : ℕ) (x : RawItem) (y : Body)
    → ArePairedBy P [] (items its) bs → i < length its → x ≡ get_or its i x → y ≡ get_or bs i y → P (items (take i its)) (item x) y
body_index P its bs i x y p l q r =
    let m = item_at its i x q in
    let t : take i (items its) ≡ items (take i its) = take-map item i its in
    let n = bodies_length P its bs p in
    rw (m, t) at (paired_at P (items its) bs i (item x) y p (omega arith) r)

-- the nodes of a let are those of the formula that its tokens say
pub record LetAt (bytes : List ℕ) (ts : List Token) (is : List Item) (args : List RawArg) (ls : List RawLet) (i : ℕ) (d : RawLet) (y : List Node) : Type 0 where
  pub below : i < length ls
  pub one : AreOne y
  pub said : {x : Formula} → ((f : Formula) → Brings y [] (f ∷ []) → x ≡ f) → Says bytes ts (scope is args (take i ls)) (get_or ls i d).value x

-- what is known of let i, by its nodes
pub let_at : (bytes : List ℕ) (ts : List Token) (is : List Item) (args : List RawArg) (ls : List RawLet) (vs : List (List Node)) (i : ℕ) (d : RawLet)
    (y : List Node) → Each (ReadyLet bytes ts is args) [] ls → LetsNodes bytes ts is args ls vs → IsNarrow bytes (scope is args ls)
    → i < length vs → y ≡ get_or vs i y → LetAt bytes ts is args ls i d y
let_at bytes ts is args ls vs i d y e p k l q =
    let P = λ (before : List RawLet) (l : RawLet) (v : List Node). AreNodes bytes ts (scope is args before) l.value v in
    let n = paired_length P [] ls vs p in
    let a = paired_at P ls vs i d y p l q in
    let v = (each_or (ReadyLet bytes ts is args) ls i d e (omega arith)).value in
    let t = length-take i ls in
    let few = k.lets in
    let w : IsNarrow bytes (scope is args (take i ls)) = record { args = k.args; lets = omega arith; coords = k.coords } in
    record { below = omega arith; one = value_one v w a; said = value_said v w a }
