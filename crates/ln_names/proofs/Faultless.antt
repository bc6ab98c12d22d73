-- A file without a fault is within the limits: the table's tests, turned round.
use Rattle.std.proofs.Common.{◌≡◌, ℕ, zero, suc, ◌+◌, ◌-◌, ◌≤◌, ◌==◌, Bool, true, false, cond, not, ◌||◌, nat_lt, List, []}
use Rattle.std.proofs.Common.{◌∷◌, ◌++◌, length, Option, Some, None, refl, sym, true≢false, subst, arith}
use Rattle.std.specs.Prelude.{count_by, int_lt, ℤ, pos, negsuc, ◌≤ℤ◌}
use Rattle.std.specs.List.{list_any}
use Rattle.std.proofs.lemmas.List.{length-append, append_assoc, append-nil}
use Rattle.std.proofs.lemmas.List.Sums.{sum_by-append}
use Rattle.std.proofs.lemmas.Bool.{ltb-false}
use Rattle.std.proofs.lemmas.Bool.Decides.{nat_tests}
use Rattle.std.proofs.lemmas.Int.{ints}
use Rattle.ln_syntax.specs.Raw.{Token, Item, SiteItem, ParamItem, PredItem, is_site, is_param, is_pred, text, same, span_at}
use Rattle.ln_names.specs.Rules.{RawRange, RawCoord, RawArg, RawLet, Places, InputNode, OperatorNode, Scope, scope, ArgSite, ArgParam, is_site_arg}
use Rattle.ln_names.specs.Rules.{is_param_arg, has_site, has_param, has_site_arg, has_param_arg, has_let, coords_at, fault_at}
use Rattle.ln_names.specs.declared.faults.Fault.{Fault}
use Rattle.ln_names.specs.declared.roles.Role.{Role}
use Rattle.ln_names.specs.declared.roles.Role.TheVariants.{Value, AfterCaret, Bare, Input, AfterDot, Operator, Caret}
use Rattle.ln_base.specs.Limits.{most_literal}
use Rattle.ln_names.specs.Numbers.{number, end_value, most_end}
use Rattle.ln_names.proofs.Trees.{Judged, judge, judged}
use Rattle.ln_names.proofs.Machine.{tokens_of}
use Rattle.ln_syntax.specs.Expression.{Tree, TNum, TName, TInput, TNeg, TAdd, TSub, TMul, TPow}
use Rattle.ln_names.specs.Visits.{Visit, visits_by, range_visits, coord_visits, arg_visits, role_at, is_node_at, token_visits, expr_visits, nodes, value_visits}
use Rattle.ln_names.specs.Visits.{value_nodes, nodes_before, let_visits, pred_visits, item_visits}
use Rattle.ln_names.specs.First.{Clean, NoFault}
use Rattle.ln_names.specs.Limits.{Each, RangeWithin, CoordWithin, IsKnown, ArgWithin, Fit, ValueWithin, LetWithin, PredWithin, ItemWithin, FileWithin}

-- where no row's test holds, the first one's doesn't, and none after it
no_row : (a : Bool) (f : Fault) (o : Option Fault) → cond a (Some f) o ≡ None → (a ≡ false) × (o ≡ None)
no_row true f o h = absurd (cc)
no_row false f o h = (refl, h)

not_above : (a b : ℕ) → nat_lt a b ≡ false → b ≤ a
not_above a b h = grind (arith, nat_tests)

not_there : (a n : ℕ) → (a == n) ≡ false → a ≤ n → suc a ≤ n
not_there a n h l = grind (arith, nat_tests)

neither : (a b : Bool) → (a || b) ≡ false → (a ≡ false) × (b ≡ false)
neither true b h = absurd (cc)
neither false b h = (refl, h)

not_false : (a : Bool) → not a ≡ false → a ≡ true
not_false true h = refl
not_false false h = absurd (cc)

in_order : (x y : ℤ) → int_lt y x ≡ false → x ≤ℤ y
in_order (pos a) (pos b) h = let q = ltb-false b a h in omega (arith, ints, q)
in_order (pos a) (negsuc b) h = absurd (cc)
in_order (negsuc a) (pos b) h = omega (arith, ints)
in_order (negsuc a) (negsuc b) h = let q = ltb-false a b h in omega (arith, ints, q)

-- where no token of one list followed by another has a fault, none of either list has
pub clean_append : (bytes : List ℕ) (vs ws : List Visit) → Clean bytes (vs ++ ws) → Clean bytes vs × Clean bytes ws
clean_append bytes [] ws c = (tt, c)
clean_append bytes (v ∷ vs) ws c = let r = clean_append bytes vs ws c.1 in ((c.0, r.0), r.1)

-- where no token of a list's elements has a fault, what follows for one of them, after the elements before it, holds of each
pub clean_each : {A : Type 0} (bytes : List ℕ) (f : List A → A → List Visit) (Q : List A → A → Type 0)
    → ((b : List A) (x : A) → Clean bytes (f b x) → Q b x) → (before xs : List A) → Clean bytes (visits_by f before xs) → Each Q before xs
clean_each bytes f Q h before [] c = tt
clean_each bytes f Q h before (x ∷ xs) c =
    let p = clean_append bytes (f before x) (visits_by f (before ++ (x ∷ [])) xs) c in
    (h before x p.0, clean_each bytes f Q h (before ++ (x ∷ [])) xs p.1)

-- no element comes after n others, so there are at most n
at_most : {A : Type 0} (n : ℕ) (before xs : List A) → length before ≤ n → Each (λ b x. (length b == n) ≡ false) before xs → length before + length xs ≤ n
at_most n before [] l e = omega (arith, l)
at_most n before (x ∷ xs) l e =
    let a = length-append before (x ∷ []) in
    let s = not_there (length before) n e.0 l in
    let r = at_most n (before ++ (x ∷ [])) xs (omega (arith, a, s)) e.1 in
    omega (arith, a, r)

-- a list with one more element that is counted, or not
one_more : {A : Type 0} (p : A → Bool) (n : ℕ) (before : List A) (x : A) (b : Bool) → p x ≡ b → count_by p before ≤ n
    → (p x ≡ true → (count_by p before == n) ≡ false) → count_by p (before ++ (x ∷ [])) ≤ n
one_more p n before x true q l e =
    let a : count_by p (before ++ (x ∷ [])) ≡ count_by p before + (0 + cond (p x) 1 0) = sum_by-append (λ y. cond (p y) 1 0) before (x ∷ []) in
    let b = rw q at a in
    let s = not_there (count_by p before) n (e q) l in
    omega (arith, b, s)
one_more p n before x false q l e =
    let a : count_by p (before ++ (x ∷ [])) ≡ count_by p before + (0 + cond (p x) 1 0) = sum_by-append (λ y. cond (p y) 1 0) before (x ∷ []) in
    let b = rw q at a in
    omega (arith, b, l)

-- no element that is counted comes after n that are, so at most n are
at_most_of : {A : Type 0} (p : A → Bool) (n : ℕ) (before xs : List A) → count_by p before ≤ n
    → Each (λ b x. p x ≡ true → (count_by p b == n) ≡ false) before xs → count_by p (before ++ xs) ≤ n
at_most_of p n before [] l e = rw (append-nil before) l
at_most_of {A} p n before (x ∷ xs) l e =
    let r = at_most_of p n (before ++ (x ∷ [])) xs (one_more p n before x (p x) refl l e.0) e.1 in
    subst (λ (ys : List A). count_by p ys ≤ n) (append_assoc before (x ∷ []) xs) r

-- one, two or three rows
row : (a : Bool) (f : Fault) → cond a (Some f) None ≡ None → a ≡ false
row a f h = (no_row a f None h).0

rows_two : (a b : Bool) (f g : Fault) → cond a (Some f) (cond b (Some g) None) ≡ None → (a ≡ false) × (b ≡ false)
rows_two a b f g h = let p = no_row a f _ h in (p.0, row b g p.1)

rows_three : (a b c : Bool) (f g i : Fault) → cond a (Some f) (cond b (Some g) (cond c (Some i) None)) ≡ None → (a ≡ false) × (b ≡ false) × (c ≡ false)
rows_three a b c f g i h = let p = no_row a f _ h in let q = rows_two b c g i p.1 in (p.0, q.0, q.1)

range_within : (bytes : List ℕ) (r : RawRange) → Clean bytes (range_visits r) → RangeWithin bytes r
range_within bytes r c =
    let low_over = nat_lt most_end (number bytes r.low.at) in
    let high_over = nat_lt most_end (number bytes r.high.at) in
    let under = int_lt (end_value bytes r.high) (end_value bytes r.low) in
    let l = rows_two (nat_lt most_literal (number bytes r.low.at)) (low_over || false) _ _ c.0 in
    let h = rows_two (nat_lt most_literal (number bytes r.high.at)) (high_over || under) _ _ c.1.0 in
    let h1 = neither high_over under h.1 in
    let a = not_above most_end (number bytes r.low.at) (neither low_over false l.1).0 in
    let b = not_above most_end (number bytes r.high.at) h1.0 in
    record { low = omega (arith, a); high = omega (arith, b); order = in_order (end_value bytes r.low) (end_value bytes r.high) h1.1 }

coord_within : (bytes : List ℕ) (before : List RawCoord) (c : RawCoord) → Clean bytes (coord_visits before c)
    → CoordWithin bytes before c × ((length before == 32) ≡ false)
coord_within bytes before c h =
    let n = rows_three _ _ _ _ _ _ h.0 in
    (record { short = not_above 32 _ n.0; new = n.2; range = range_within bytes c.range h.1 }, n.1)

kind_within : (bytes : List ℕ) (is : List Item) (before : List RawArg) (a : RawArg) (b : Bool) →
    fault_at bytes (cond b (ArgParam is before a.name) (ArgSite is before)) a.kind ≡ None →
    IsKnown bytes is a b × (b ≡ true → (count_by is_param_arg before == 8) ≡ false) × (not b ≡ true → (count_by is_site_arg before == 5) ≡ false)
kind_within bytes is before a true h =
    let r = rows_two (count_by is_param_arg before == 8) (not (has_param bytes is a.name)) _ _ h in
    (not_false _ r.1, λ q. r.0, λ q. absurd (true≢false (sym q)))
kind_within bytes is before a false h =
    let r = rows_three (nat_lt 32 (length (text bytes a.kind))) (count_by is_site_arg before == 5) (not (has_site bytes is a.kind)) _ _ _ h in
    (not_false _ r.2, λ q. absurd (true≢false (sym q)), λ q. r.1)

arg_within : (bytes : List ℕ) (is : List Item) (before : List RawArg) (a : RawArg) → Clean bytes (arg_visits is before a) → ArgWithin bytes is before a
arg_within bytes is before a h =
    let n = rows_two _ _ _ _ h.0 in
    let k = kind_within bytes is before a a.is_param h.1.0 in
    record { short = not_above 32 _ n.0; new = n.1; known = k.0 }

-- a token without a fault is a node only where there is room for it
token_few : (bytes : List ℕ) (ts : List Token) (s : Scope) (n k : ℕ) (o : Option Role) → Clean bytes (token_visits ts s n k o) → n ≤ 2048
    → n + is_node_at o ≤ 2048
token_few bytes ts s n k None c l = omega (arith, l)
token_few bytes ts s n k (Some Value) c l =
    let r : (nat_lt most_literal (number bytes (span_at ts k)) ≡ false) × ((n == 2048) ≡ false) = rows_two _ _ _ _ c.0 in
    omega (arith, not_there n 2048 r.1 l)
token_few bytes ts s n k (Some AfterCaret) c l = omega (arith, l)
token_few bytes ts s n k (Some Bare) c l =
    let r = rows_three (nat_lt 32 (length (text bytes (span_at ts k)))) (n == 2048)
    (not (has_let bytes s.lets (span_at ts k) || has_param_arg bytes s.args (span_at ts k))) _ _ _ c.0 in
    omega (arith, not_there n 2048 r.1 l)
token_few bytes ts s n k (Some Input) c l =
    let r = rows_three (nat_lt 32 (length (text bytes (span_at ts k)))) (n == 2048) (not (has_site_arg bytes s.args (span_at ts k))) _ _ _ c.0 in
    omega (arith, not_there n 2048 r.1 l)
token_few bytes ts s n k (Some AfterDot) c l = omega (arith, l)
token_few bytes ts s n k (Some (Operator p)) c l = let r = row (n == 2048) _ c.0 in omega (arith, not_there n 2048 r l)
token_few bytes ts s n k (Some Caret) c l = let r = row (n == 2048) _ c.0 in omega (arith, not_there n 2048 r l)

tokens_few : (bytes : List ℕ) (ts : List Token) (s : Scope) (n k m : ℕ) → Clean bytes (expr_visits ts s n k m) → n ≤ 2048 → n + nodes ts k m ≤ 2048
tokens_few bytes ts s n k zero c l = omega (arith, l)
tokens_few bytes ts s n k (suc m) c l =
    let p = clean_append bytes (token_visits ts s n k (role_at ts k)) (expr_visits ts s (n + is_node_at (role_at ts k)) (k + 1) m) c in
    let a = token_few bytes ts s n k (role_at ts k) p.0 l in
    let b = tokens_few bytes ts s (n + is_node_at (role_at ts k)) (k + 1) m p.1 a in
    omega (arith, b)

-- where the tokens of a tree have no fault, none before them has, and the tree is fit
fit_of : (bytes : List ℕ) (s : Scope) (e : Tree) (j : Judged) → Clean bytes (judged s e j).visits → Clean bytes j.visits × Fit bytes s e
fit_of bytes s (TNum at) j c =
    let p = clean_append bytes j.visits _ c in
    let r : (nat_lt most_literal (number bytes at) ≡ false) × ((j.count == 2048) ≡ false) = rows_two _ _ _ _ p.1.0 in
    (p.0, omega (arith, not_above most_literal (number bytes at) r.0))
fit_of bytes s (TName at) j c =
    let p = clean_append bytes j.visits _ c in
    let r = rows_three (nat_lt 32 (length (text bytes at))) (j.count == 2048) (not (has_let bytes s.lets at || has_param_arg bytes s.args at)) _ _ _ p.1.0 in
    (p.0, not_false _ r.2)
fit_of bytes s (TInput at x) j c =
    let p = clean_append bytes (judge j (InputNode j.count s) at 1).visits _ c in
    let q = clean_append bytes j.visits _ p.0 in
    let r = rows_three (nat_lt 32 (length (text bytes at))) (j.count == 2048) (not (has_site_arg bytes s.args at)) _ _ _ q.1.0 in
    let t = rows_two (nat_lt 32 (length (text bytes x))) (not (list_any (λ c. same bytes c.name x) (coords_at bytes s at))) _ _ p.1.0 in
    (q.0, (not_false _ r.2, not_false _ t.1))
fit_of bytes s (TNeg at e) j c =
    let r = fit_of bytes s e (judge j (OperatorNode j.count) at 1) c in ((clean_append bytes j.visits _ r.0).0, r.1)
fit_of bytes s (TAdd at e f) j c =
    let l = judged s e j in
    let r = fit_of bytes s f (judge l (OperatorNode l.count) at 1) c in
    let q = fit_of bytes s e j (clean_append bytes l.visits _ r.0).0 in
    (q.0, (q.1, r.1))
fit_of bytes s (TSub at e f) j c =
    let l = judged s e j in
    let r = fit_of bytes s f (judge l (OperatorNode l.count) at 1) c in
    let q = fit_of bytes s e j (clean_append bytes l.visits _ r.0).0 in
    (q.0, (q.1, r.1))
fit_of bytes s (TMul at e f) j c =
    let l = judged s e j in
    let r = fit_of bytes s f (judge l (OperatorNode l.count) at 1) c in
    let q = fit_of bytes s e j (clean_append bytes l.visits _ r.0).0 in
    (q.0, (q.1, r.1))
fit_of bytes s (TPow at e n) j c =
    let l = judged s e j in
    let p = clean_append bytes (judge l (OperatorNode l.count) at 1).visits _ c in
    let q = fit_of bytes s e j (clean_append bytes l.visits _ p.0).0 in
    let r = rows_two (nat_lt most_literal (number bytes n)) (nat_lt 16 (number bytes n)) _ _ p.1.0 in
    (q.0, (q.1, not_above 16 _ r.1))

value_within : (bytes : List ℕ) (ts : List Token) (s : Scope) (n : ℕ) (p : Places) → Clean bytes (value_visits ts s n p) → ValueWithin bytes ts s p
value_within bytes ts s n p c = λ e d h b.
    let j : Judged = record { visits = []; count = n } in
    let v = tokens_of ts s n d h b in
    (fit_of bytes s e j (subst (λ (w : Judged). Clean bytes w.visits) (sym v) c)).1

let_within : (bytes : List ℕ) (ts : List Token) (is : List Item) (args : List RawArg) (before : List RawLet) (l : RawLet) →
    Clean bytes (let_visits ts is args before l) →
    LetWithin bytes ts is args before l × ((length before == 64) ≡ false)
let_within bytes ts is args before l c =
    let n = rows_three _ _ _ _ _ _ c.0 in
    (record { short = not_above 32 _ n.0; new = n.2; value = value_within bytes ts (scope is args before) (nodes_before ts before) l.value c.1 }, n.1)

lets_few : (bytes : List ℕ) (ts : List Token) (is : List Item) (args : List RawArg) (before ls : List RawLet)
    → Clean bytes (visits_by (let_visits ts is args) before ls) → nodes_before ts before ≤ 2048 → nodes_before ts (before ++ ls) ≤ 2048
lets_few bytes ts is args before [] c h = rw (append-nil before) h
lets_few bytes ts is args before (l ∷ ls) c h =
    let p = clean_append bytes (let_visits ts is args before l) (visits_by (let_visits ts is args) (before ++ (l ∷ [])) ls) c in
    let a = tokens_few bytes ts (scope is args before) (nodes_before ts before) l.value.from (l.value.to - l.value.from) p.0.1 h in
    let b : nodes_before ts (before ++ (l ∷ [])) ≡ nodes_before ts before + (0 + value_nodes ts l.value) =
    sum_by-append (λ (m : RawLet). value_nodes ts m.value) before (l ∷ []) in
    let r = lets_few bytes ts is args (before ++ (l ∷ [])) ls p.1 (omega (arith, a, b)) in
    subst (λ (ms : List RawLet). nodes_before ts ms ≤ 2048) (append_assoc before (l ∷ []) ls) r

pred_within : (bytes : List ℕ) (ts : List Token) (is : List Item) (args : List RawArg) (ls : List RawLet) (root : Places)
    → Clean bytes (pred_visits ts is args ls root) → PredWithin bytes ts is args ls root
pred_within bytes ts is args ls root c =
    let p = clean_append bytes (visits_by (arg_visits is) [] args)
    (visits_by (let_visits ts is args) [] ls ++ value_visits ts (scope is args ls) (nodes_before ts ls) root) c in
    let q = clean_append bytes (visits_by (let_visits ts is args) [] ls) (value_visits ts (scope is args ls) (nodes_before ts ls) root) p.1 in
    let few = lets_few bytes ts is args [] ls q.0 (omega arith) in
    let counted = at_most 64 [] ls (omega arith) (clean_each bytes (let_visits ts is args) _ (λ b x h. (let_within bytes ts is args b x h).1) [] ls q.0) in
    record {
      site_args = at_most_of is_site_arg 5 [] args (omega arith)
          (clean_each bytes (arg_visits is) _ (λ b x h. (kind_within bytes is b x x.is_param h.1.0).2) [] args p.0);
      param_args = at_most_of is_param_arg 8 [] args (omega arith)
          (clean_each bytes (arg_visits is) _ (λ b x h. (kind_within bytes is b x x.is_param h.1.0).1) [] args p.0);
      args_each = clean_each bytes (arg_visits is) (ArgWithin bytes is) (arg_within bytes is) [] args p.0;
      let_count = omega (arith, counted);
      lets_each = clean_each bytes (let_visits ts is args) (LetWithin bytes ts is args) (λ b x h. (let_within bytes ts is args b x h).0) [] ls q.0;
      root_value = value_within bytes ts (scope is args ls) (nodes_before ts ls) root q.1;
      node_count = tokens_few bytes ts (scope is args ls) (nodes_before ts ls) root.from (root.to - root.from) q.1 few;
    }

coords_within : (bytes : List ℕ) (cs : List RawCoord) → Clean bytes (visits_by coord_visits [] cs) → (length cs ≤ 32) × Each (CoordWithin bytes) [] cs
coords_within bytes cs c =
    let counted = at_most 32 [] cs (omega arith) (clean_each bytes coord_visits _ (λ b x h. (coord_within bytes b x h).1) [] cs c) in
    (omega (arith, counted), clean_each bytes coord_visits (CoordWithin bytes) (λ b x h. (coord_within bytes b x h).0) [] cs c)

-- an item is within the limits, and comes after fewer items of its kind than there may be
item_within : (bytes : List ℕ) (ts : List Token) (before : List Item) (i : Item) → Clean bytes (item_visits ts before i)
    → ItemWithin bytes ts before i × (is_site i ≡ true → (count_by is_site before == 16) ≡ false)
    × (is_param i ≡ true → (count_by is_param before == 16) ≡ false) × (is_pred i ≡ true → (count_by is_pred before == 16) ≡ false)
item_within bytes ts before (SiteItem name cs) c =
    let n = rows_three _ _ _ _ _ _ c.0 in
    (record { short = not_above 32 _ n.0; new = n.2; parts = coords_within bytes cs c.1 }, λ q. n.1, λ q. absurd (cc), λ q. absurd (cc))
item_within bytes ts before (ParamItem name r) c =
    let n = rows_three _ _ _ _ _ _ c.0 in
    (record { short = not_above 32 _ n.0; new = n.2; parts = range_within bytes r c.1 }, λ q. absurd (cc), λ q. n.1, λ q. absurd (cc))
item_within bytes ts before (PredItem name args ls root) c =
    let n = rows_three _ _ _ _ _ _ c.0 in
    (record { short = not_above 32 _ n.0; new = n.2; parts = pred_within bytes ts before args ls root c.1 }, λ q. absurd (cc), λ q. absurd (cc), λ q. n.1)

-- a file without a fault is within the limits, and its names are known and its own
pub faultless_is_within : (bytes : List ℕ) (ts : List Token) (is : List Item) → NoFault bytes ts is → FileWithin bytes ts is
faultless_is_within bytes ts is c = record {
  sites = at_most_of is_site 16 [] is (omega arith) (clean_each bytes (item_visits ts) _ (λ b x h. (item_within bytes ts b x h).1) [] is c);
  params = at_most_of is_param 16 [] is (omega arith) (clean_each bytes (item_visits ts) _ (λ b x h. (item_within bytes ts b x h).2) [] is c);
  preds = at_most_of is_pred 16 [] is (omega arith) (clean_each bytes (item_visits ts) _ (λ b x h. (item_within bytes ts b x h).3) [] is c);
  each = clean_each bytes (item_visits ts) (ItemWithin bytes ts) (λ b x h. (item_within bytes ts b x h).0) [] is c;
}
