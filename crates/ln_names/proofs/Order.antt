-- Each NAME and each NUMBER of a file is judged, in order of the text: rule by rule of the grammar.
use Rattle.std.proofs.Common.{◌≡◌, ℕ, zero, suc, ◌+◌, ◌-◌, Bool, true, false, if◌then◌else◌, List, [], ◌∷◌, ◌++◌, length}
use Rattle.std.proofs.Common.{Option, Some, None, refl, subst, arith, add-one}
use Rattle.ln_syntax.specs.Raw.{Token, Item, Is, kind_at, Kind, Name, Number, Plus, Minus, Star, Caret}
use Rattle.ln_names.specs.Rules.{RawEnd, RawRange, RawCoord, RawArg, RawLet, Scope, scope, Use, LowEnd, HighEnd, is_number}
use Rattle.ln_syntax.specs.Expression.{IsExpr}
use Rattle.ln_syntax.specs.File.{End, plain, minus, Range, range, Coords, no_coord, coord, Arg, site_arg, param_arg, Args, last_arg, more_args, Lets, no_let}
use Rattle.ln_syntax.specs.File.{a_let, IsItem, site, param, predicate, Items, no_item, an_item, Spelt}
use Rattle.ln_names.specs.declared.nodes.Operation.TheVariants.{Negation, Difference}
use Rattle.ln_names.specs.declared.roles.Role.TheVariants.{Value, AfterCaret, Bare, Input, AfterDot, Operator}
use Rattle.ln_names.specs.Visits.{Visit, visit, visits_by, range_visits, coord_visits, arg_visits, role_of, role_at, is_node_at, token_visits, expr_visits}
use Rattle.ln_names.specs.Visits.{value_visits, let_visits, item_visits, nodes_before}
use Rattle.ln_names.specs.Along.{is_other, Along, done, passed, judged}
use Rattle.ln_names.proofs.Within.{within}

-- one stretch after another
join : {ts : List Token} {i j k : ℕ} {vs ws : List Visit} → Along ts i j vs → Along ts j k ws → Along ts i k (vs ++ ws)
join done b = b
join (passed q a) b = passed q (join a b)
join (judged q a) b = judged q (join a b)

end_along : {ts : List Token} {i j k : ℕ} {a : RawEnd} {vs : List Visit} → End ts i j a → (u : Use) → is_number u ≡ true → Along ts j k vs
    → Along ts i k (visit u a.at ∷ vs)
end_along (plain n) u q rest = judged (rw n q) rest
end_along (minus m n) u q rest = passed (rw m refl) (judged (rw n q) rest)

range_along : {ts : List Token} {i j k : ℕ} {r : RawRange} → Range ts i j r → Along ts j k [] → Along ts i k (range_visits r)
range_along (range a d b) rest = end_along a LowEnd refl (passed (rw d refl) (end_along b (HighEnd _) refl rest))

coords_along : {ts : List Token} {i j : ℕ} {cs : List RawCoord} (before : List RawCoord) → Coords ts i j cs → Along ts i j (visits_by coord_visits before cs)
coords_along before no_coord = done
coords_along before (coord {r = r} {cs = cs} n c d s rest) =
    let e = coords_along (before ++ (_ ∷ [])) rest in
    join (judged (rw n refl) (passed (rw c refl) (range_along d (passed (rw s refl) done)))) e

arg_along : {ts : List Token} {i : ℕ} {a : RawArg} (is : List Item) (before : List RawArg) → Arg ts i a
    → Along ts i (suc (suc (suc i))) (arg_visits is before a)
arg_along is before (site_arg n c t) = judged (rw n refl) (passed (rw c refl) (judged (rw t refl) done))
arg_along is before (param_arg n c t) = judged (rw n refl) (passed (rw c refl) (judged (rw t refl) done))

args_along : {ts : List Token} {i j : ℕ} {args : List RawArg} (is : List Item) (before : List RawArg) → Args ts i j args
    → Along ts i j (visits_by (arg_visits is) before args)
args_along is before (last_arg a) = join (arg_along is before a) done
args_along is before (more_args {a = a} d c rest) =
    let e = args_along is (before ++ (a ∷ [])) rest in
    join (arg_along is before d) (passed (rw c refl) e)

-- a NAME of an expression, by whether dots are at its sides
name_along : (ts : List Token) (s : Scope) (n k j : ℕ) (vs : List Visit) (a b : Bool) → Is ts k Name → Along ts (suc k) j vs →
    Along ts k j (token_visits ts s n k (if a then Some AfterDot else if b then Some Input else Some Bare) ++ vs)
name_along ts s n k j vs true b h rest = judged (rw h refl) rest
name_along ts s n k j vs false true h rest = judged (rw h refl) rest
name_along ts s n k j vs false false h rest = judged (rw h refl) rest

-- a NUMBER of an expression, by whether a caret comes before it
number_along : (ts : List Token) (s : Scope) (n k j : ℕ) (vs : List Visit) (a : Bool) → Is ts k Number → Along ts (suc k) j vs →
    Along ts k j (token_visits ts s n k (if a then Some AfterCaret else Some Value) ++ vs)
number_along ts s n k j vs true h rest = judged (rw h refl) rest
number_along ts s n k j vs false h rest = judged (rw h refl) rest

-- a minus sign of an expression, by whether an operand ends before it
minus_along : (ts : List Token) (s : Scope) (n k j : ℕ) (vs : List Visit) (a : Bool) → Is ts k Minus → Along ts (suc k) j vs →
    Along ts k j (token_visits ts s n k (if a then Some (Operator Difference) else Some (Operator Negation)) ++ vs)
minus_along ts s n k j vs true h rest = judged (rw h refl) rest
minus_along ts s n k j vs false h rest = judged (rw h refl) rest

token_along : (ts : List Token) (s : Scope) (n k j : ℕ) (vs : List Visit) (o : Option Kind) → kind_at ts k ≡ o → Along ts (suc k) j vs →
    Along ts k j (token_visits ts s n k (role_of ts k o) ++ vs)
token_along ts s n k j vs None h rest = passed (rw h refl) rest
token_along ts s n k j vs (Some Name) h rest = name_along ts s n k j vs _ _ h rest
token_along ts s n k j vs (Some Number) h rest = number_along ts s n k j vs _ h rest
token_along ts s n k j vs (Some Plus) h rest = judged (rw h refl) rest
token_along ts s n k j vs (Some Minus) h rest = minus_along ts s n k j vs _ h rest
token_along ts s n k j vs (Some Star) h rest = judged (rw h refl) rest
token_along ts s n k j vs (Some Caret) h rest = judged (rw h refl) rest
token_along ts s n k j vs o h rest = passed (rw h refl) rest

expr_along : (ts : List Token) (s : Scope) (n k m to j : ℕ) → k + m ≡ to → Along ts to j [] → Along ts k j (expr_visits ts s n k m)
expr_along ts s n k zero to j e rest = let q : k ≡ to = omega arith in rw q rest
expr_along ts s n k (suc m) to j e rest =
    let d = expr_along ts s (n + is_node_at (role_at ts k)) (k + 1) m to j (omega arith) rest in
    let r = subst (λ (w : ℕ). Along ts w j (expr_visits ts s (n + is_node_at (role_at ts k)) (k + 1) m)) (add-one k) d in
    token_along ts s n k j (expr_visits ts s (n + is_node_at (role_at ts k)) (k + 1) m) (kind_at ts k) refl r

value_along : {ts : List Token} {i j k : ℕ} (s : Scope) (n : ℕ) → IsExpr ts i j → Along ts j k []
    → Along ts i k (value_visits ts s n (record { from = i; to = j }))
value_along {ts = ts} {i = i} {j = j} {k = k} s n x rest = let w = within x.1 in expr_along ts s n i (j - i) j k (omega arith) rest

lets_along : {ts : List Token} {i j : ℕ} {ls : List RawLet} (is : List Item) (args : List RawArg) (before : List RawLet) → Lets ts i j ls
    → Along ts i j (visits_by (let_visits ts is args) before ls)
lets_along is args before no_let = done
lets_along {ts = ts} is args before (a_let l n e x s rest) =
    let r = lets_along is args (before ++ (_ ∷ [])) rest in
    join (passed (rw l refl)
    (judged (rw n refl) (passed (rw e refl) (value_along (scope is args before) (nodes_before ts before) x (passed (rw s refl) done))))) r

item_along : {ts : List Token} {i j : ℕ} {x : Item} (before : List Item) → IsItem ts i j x → Along ts i j (item_visits ts before x)
item_along before (site s n b cs e) = passed (rw s refl) (judged (rw n refl) (passed (rw b refl) (extended (coords_along [] cs) (rw e refl))))
  where
    extended : {ts : List Token} {i j : ℕ} {vs : List Visit} → Along ts i j vs → is_other (kind_at ts j) ≡ true → Along ts i (suc j) vs
    extended done q = passed q done
    extended (passed p a) q = passed p (extended a q)
    extended (judged p a) q = judged p (extended a q)
item_along before (param p n c r s) = passed (rw p refl) (judged (rw n refl) (passed (rw c refl) (range_along r (passed (rw s refl) done))))
item_along {ts = ts} before (predicate {args = args} {ls = ls} p n l as' r b lets s x e c) =
    passed (rw p refl) (judged (rw n refl) (passed (rw l refl) (join (args_along before [] as') (passed (rw r refl) (passed (rw b refl)
    (join (lets_along before args [] lets)
    (passed (rw s refl) (value_along (scope before args ls) (nodes_before ts ls) x (passed (rw e refl) (passed (rw c refl) done))))))))))

items_along : {ts : List Token} {i j : ℕ} {xs : List Item} (before : List Item) → Items ts i j xs → Along ts i j (visits_by (item_visits ts) before xs)
items_along before no_item = done
items_along before (an_item {x = x} d rest) =
    let e = items_along (before ++ (x ∷ [])) rest in
    join (item_along before d) e

-- each NAME and each NUMBER of a file that is spelt by the grammar is judged, in order of the text
pub judges_in_order : (ts : List Token) (xs : List Item) → Spelt ts xs → Along ts 0 (length ts) (visits_by (item_visits ts) [] xs)
judges_in_order ts xs d = items_along [] d
