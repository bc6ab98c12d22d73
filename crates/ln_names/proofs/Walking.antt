-- A walk over a list of tokens.
use Rattle.std.proofs.Common.{◌≡◌, ℕ, suc, ◌+◌, ◌-◌, ◌<◌, List, [], ◌∷◌, ◌++◌, length, get_or, take, drop, Option}
use Rattle.std.proofs.Common.{Some, None, refl, ap, sym, ◌∙◌, subst, arith, drop-cons, add-one}
use Rattle.std.proofs.Math.Seq.{take-suc}
use Rattle.std.proofs.lemmas.List.{take-map, length-map, append-nil, append_assoc}
use Rattle.std.proofs.lemmas.List.Sums.{sum_by-append}
use Rattle.ln_syntax.specs.declared.raw.RawItem.{RawItem}
use Rattle.ln_names.specs.Rules.{RawArg, RawLet, Places, fault_at, Scope, scope, PredName}
use Rattle.ln_syntax.specs.Raw.{Span, Token, Item, PredItem, item, items}
use Rattle.ln_names.specs.declared.faults.Fault.{Fault}
use Rattle.ln_names.specs.declared.faults.Found.{Found}
use Rattle.ln_names.specs.declared.faults.NamesStop.{NamesStop}
use Rattle.ln_names.specs.declared.faults.NamesStop.TheVariants as stop
use Rattle.ln_names.proofs.Lists.{item_at}
use Rattle.ln_names.specs.First.{NamesStopAt}
use Rattle.ln_names.specs.declared.nodes.Body.{Body}
use Rattle.ln_names.specs.Nodes.{ArePairedBy}
use Rattle.ln_names.specs.Visits.{Visit, visit, or_later, first_fault, visits_by, expr_visits, token_visits, role_at, is_node_at, nodes, arg_visits, let_visits}
use Rattle.ln_names.specs.Visits.{value_visits, nodes_before, value_nodes, body_visits, item_visits, file_visits}

-- the fault that comes first, or else the later one
abbrev pub first_or : Option Found → Option Found → Option Found
first_or None later = later
first_or (Some f) later = Some f

later_or : (o : Option Fault) (at : Span) (x y : Option Found) → or_later o at (first_or x y) ≡ first_or (or_later o at x) y
later_or None at x y = refl
later_or (Some f) at x y = refl

-- the first fault of one list followed by another is that of the first list, or else that of the second
pub first_append : (bytes : List ℕ) (vs ws : List Visit) → first_fault bytes (vs ++ ws) ≡ first_or (first_fault bytes vs) (first_fault bytes ws)
first_append bytes [] ws = refl
first_append bytes (v ∷ vs) ws =
    ap (λ (o : Option Found). or_later (fault_at bytes v.use_of v.at) v.at o) (first_append bytes vs ws)
    ∙ later_or (fault_at bytes v.use_of v.at) v.at (first_fault bytes vs) (first_fault bytes ws)

-- the fault of the remaining elements is the fault of all
abbrev pub Left : {A : Type 0} → List ℕ → (List A → A → List Visit) → List A → ℕ → Type 0
Left bytes f xs i = first_fault bytes (visits_by f (take i xs) (drop i xs)) ≡ first_fault bytes (visits_by f [] xs)

-- the first fault from an element on is the element's, or else that of the elements after it
pub unrolled : {A : Type 0} (bytes : List ℕ) (f : List A → A → List Visit) (xs : List A) (i : ℕ) (d : A) → i < length xs →
    first_fault bytes (visits_by f (take i xs) (drop i xs))
    ≡ first_or (first_fault bytes (f (take i xs) (get_or xs i d))) (first_fault bytes (visits_by f (take (suc i) xs) (drop (suc i) xs)))
unrolled bytes f xs i d h =
    let e = drop-cons xs i d h in
    let t = take-suc xs i d h in
    rw (e, t) (first_append bytes (f (take i xs) (get_or xs i d)) (visits_by f (take i xs ++ (get_or xs i d ∷ [])) (drop (suc i) xs)))

-- the step of a loop over elements: after one without a fault, the fault of the remaining elements is still that of all
pub walked : {A : Type 0} (bytes : List ℕ) (f : List A → A → List Visit) (xs : List A) (i : ℕ) (d : A) → i < length xs → Left bytes f xs i
    → first_fault bytes (f (take i xs) (get_or xs i d)) ≡ None → Left bytes f xs (i + 1)
walked bytes f xs i d h l n =
    let u = unrolled bytes f xs i d h in
    let w = rw n at u in
    rw add-one (sym w ∙ l)

-- the end of a loop over elements at one with a fault: it is the first fault of all
pub stopped : {A : Type 0} (bytes : List ℕ) (f : List A → A → List Visit) (xs : List A) (i : ℕ) (d : A) (x : Found) → i < length xs
    → Left bytes f xs i → first_fault bytes (f (take i xs) (get_or xs i d)) ≡ Some x → first_fault bytes (visits_by f [] xs) ≡ Some x
stopped bytes f xs i d x h l n =
    let u = unrolled bytes f xs i d h in
    let w = rw n at u in
    sym l ∙ w

-- the first fault from a token on is the token's, or else that of the tokens after it
token_unrolled : (bytes : List ℕ) (ts : List Token) (s : Scope) (n k to : ℕ) → k < to →
    first_fault bytes (expr_visits ts s n k (to - k)) ≡ first_or (first_fault bytes (token_visits ts s n k (role_at ts k)))
    (first_fault bytes (expr_visits ts s (n + is_node_at (role_at ts k)) (k + 1) (to - (k + 1))))
token_unrolled bytes ts s n k to h =
    let e : to - k ≡ suc (to - (k + 1)) = omega arith in
    rw e (first_append bytes (token_visits ts s n k (role_at ts k)) (expr_visits ts s (n + is_node_at (role_at ts k)) (k + 1) (to - (k + 1))))

-- the step of `value_nodes`: after a token without a fault, the fault of the remaining tokens is the same
pub token_walked : (bytes : List ℕ) (ts : List Token) (s : Scope) (n m k to : ℕ) (x : Option Found) → k < to →
    first_fault bytes (expr_visits ts s n k (to - k)) ≡ x →
    first_fault bytes (token_visits ts s n k (role_at ts k)) ≡ None → m ≡ n + is_node_at (role_at ts k) →
    first_fault bytes (expr_visits ts s m (k + 1) (to - (k + 1))) ≡ x
token_walked bytes ts s n m k to x h l f q =
    let u = token_unrolled bytes ts s n k to h in
    let w = rw f at u in
    rw q (sym w ∙ l)

-- and one token more is counted, so that with the nodes of the remaining ones the count stays that of all
pub nodes_walked : (ts : List Token) (n m k to all : ℕ) → k < to → n + nodes ts k (to - k) ≡ all → m ≡ n + is_node_at (role_at ts k)
    → m + nodes ts (k + 1) (to - (k + 1)) ≡ all
nodes_walked ts n m k to all h l q =
    let e : to - k ≡ suc (to - (k + 1)) = omega arith in
    let r : n + (is_node_at (role_at ts k) + nodes ts (k + 1) (to - (k + 1))) ≡ all = rw e at l in omega (arith, r, q)

-- the step of `lets_nodes`: the nodes of one let more are counted
pub nodes_more : (ts : List Token) (ls : List RawLet) (i n m : ℕ) (d : RawLet) → i < length ls → n ≡ nodes_before ts (take i ls)
    → m ≡ n + value_nodes ts (get_or ls i d).value → m ≡ nodes_before ts (take (i + 1) ls)
nodes_more ts ls i n m d h a b =
    let t = take-suc ls i d h in
    rw (add-one, t, sum_by-append (λ (l : RawLet). value_nodes ts l.value)) (omega arith)

-- a stop at the first of two lists is one at both, and one at the second where the first has no fault
pub stops_first : (x y : Option Found) (e : NamesStop) → NamesStopAt x e → NamesStopAt (first_or x y) e
stops_first x y (stop.Found f) h = rw h refl
stops_first x y (stop.NoMemory e) h = tt

-- where the first has none, the fault of the second is the first of both
pub stops_later : (x y : Option Found) (e : NamesStop) → x ≡ None → NamesStopAt y e → NamesStopAt (first_or x y) e
stops_later x y e n h = rw n h

-- a stop at an element is a stop at all
pub stops : {A : Type 0} (bytes : List ℕ) (f : List A → A → List Visit) (xs : List A) (i : ℕ) (d : A) (e : NamesStop) → i < length xs
    → Left bytes f xs i → NamesStopAt (first_fault bytes (f (take i xs) (get_or xs i d))) e → NamesStopAt (first_fault bytes (visits_by f [] xs)) e
stops bytes f xs i d (stop.Found x) h l n = stopped bytes f xs i d x h l n
stops bytes f xs i d (stop.NoMemory x) h l n = tt

-- and so is one at a token
pub token_stops : (bytes : List ℕ) (ts : List Token) (s : Scope) (n k to : ℕ) (x : Option Found) (e : NamesStop) → k < to →
    first_fault bytes (expr_visits ts s n k (to - k)) ≡ x →
    NamesStopAt (first_fault bytes (token_visits ts s n k (role_at ts k))) e → NamesStopAt x e
token_stops bytes ts s n k to x e h l d =
    subst (λ (o : Option Found). NamesStopAt o e) (sym (token_unrolled bytes ts s n k to h) ∙ l) (stops_first _ _ e d)

-- the parts of a predicate
pub body_parts : (bytes : List ℕ) (ts : List Token) (is : List Item) (args : List RawArg) (ls : List RawLet) (root : Places) →
    first_fault bytes (body_visits ts is args ls root) ≡ first_or (first_fault bytes (visits_by (let_visits ts is args) [] ls))
    (first_fault bytes (value_visits ts (scope is args ls) (nodes_before ts ls) root))
body_parts bytes ts is args ls root =
    first_append bytes (visits_by (let_visits ts is args) [] ls) (value_visits ts (scope is args ls) (nodes_before ts ls) root)

-- the first fault of a predicate is one of its name and arguments, or else one of its body
pub pred_parts : (bytes : List ℕ) (ts : List Token) (is : List Item) (name : Span) (args : List RawArg) (ls : List RawLet) (root : Places) →
    first_fault bytes (item_visits ts is (PredItem name args ls root))
    ≡ first_or (first_fault bytes (visit (PredName is) name ∷ visits_by (arg_visits is) [] args)) (first_fault bytes (body_visits ts is args ls root))
pred_parts bytes ts is name args ls root =
    first_append bytes (visit (PredName is) name ∷ visits_by (arg_visits is) [] args) (body_visits ts is args ls root)

-- the items of a file
items_at : (bytes : List ℕ) (ts : List Token) (is : List RawItem) (i : ℕ) (x : RawItem) → x ≡ get_or is i x → (o : Option Found) →
    o ≡ first_fault bytes (item_visits ts (items (take i is)) (item x)) →
    first_fault bytes (item_visits ts (take i (items is)) (get_or (items is) i (item x))) ≡ o
items_at bytes ts is i x e o h = rw (item_at is i x e, take-map item i is) (sym h)

-- the step of `file_nodes`: after an item without a fault, the fault of the remaining items is still that of all
pub items_walked : (bytes : List ℕ) (ts : List Token) (is : List RawItem) (i : ℕ) (x : RawItem) → i < length is →
    x ≡ get_or is i x → Left bytes (item_visits ts) (items is) i →
    first_fault bytes (item_visits ts (items (take i is)) (item x)) ≡ None → Left bytes (item_visits ts) (items is) (i + 1)
items_walked bytes ts is i x h e l n =
    let len = length-map is item in
    walked bytes (item_visits ts) (items is) i (item x) (omega arith) l (items_at bytes ts is i x e None (sym n))

-- the end of `file_nodes` at an item with a stop: it is the file's
pub items_stop : (bytes : List ℕ) (ts : List Token) (is : List RawItem) (i : ℕ) (x : RawItem) (e : NamesStop) → i < length is
    → x ≡ get_or is i x → Left bytes (item_visits ts) (items is) i
    → NamesStopAt (first_fault bytes (item_visits ts (items (take i is)) (item x))) e → NamesStopAt (first_fault bytes (file_visits ts (items is))) e
items_stop bytes ts is i x e h q l n =
    let len = length-map is item in
    let a = items_at bytes ts is i x q _ refl in
    stops bytes (item_visits ts) (items is) i (item x) e (omega arith) l (subst (λ (o : Option Found). NamesStopAt o e) (sym a) n)

-- ---- lists that go together

-- one more of each
pub paired_more : {A B : Type 0} (P : List A → A → B → Type 0) (before xs : List A) (ys : List B) (x : A) (y : B) → ArePairedBy P before xs ys
    → P (before ++ xs) x y → ArePairedBy P before (xs ++ (x ∷ [])) (ys ++ (y ∷ []))
paired_more {A} P before [] [] x y p h = (subst (λ (w : List A). P w x y) (append-nil before) h, tt)
paired_more P before [] (z ∷ ys) x y p h = absurd p
paired_more P before (w ∷ xs) [] x y p h = absurd p
paired_more {A} P before (w ∷ xs) (z ∷ ys) x y p h = (
  p.0,
  paired_more P (before ++ (w ∷ [])) xs ys x y p.1 (subst (λ (v : List A). P v x y) (sym (append_assoc before (w ∷ []) xs)) h),
)

-- the step of a loop that gives each element its companion
pub paired_next : {A B : Type 0} (P : List A → A → B → Type 0) (xs : List A) (ys : List B) (i : ℕ) (d : A) (y : B) → i < length xs
    → ArePairedBy P [] (take i xs) ys → P (take i xs) (get_or xs i d) y → ArePairedBy P [] (take (i + 1) xs) (ys ++ (y ∷ []))
paired_next P xs ys i d y l p h = let t = take-suc xs i d l in rw (add-one, t) (paired_more P [] (take i xs) ys (get_or xs i d) y p h)

-- the step of `file_nodes`: one item's nodes more
pub items_next : (P : List Item → Item → Body → Type 0) (is : List RawItem) (bs : List Body) (i : ℕ) (x : RawItem) (b : Body) → i < length is
    → x ≡ get_or is i x → ArePairedBy P [] (take i (items is)) bs → P (items (take i is)) (item x) b → ArePairedBy P [] (take (i + 1) (items is))
    (bs ++ (b ∷ []))
items_next P is bs i x b l e p h =
    let len = length-map is item in
    paired_next P (items is) bs i (item x) b (omega arith) p (rw (item_at is i x e, take-map item i is) h)
