-- Steps one after the other: the room that they leave, and what they mean together.
use Rattle.std.proofs.Common.{◌≡◌, ℕ, ◌+◌, ◌<◌, ◌≤◌, List, length, take, drop, get_or, Result, Ok, Err, refl, sym, ap, ◌∙◌}
use Rattle.std.proofs.Common.{arith, length-take}
use Rattle.std.specs.Prelude.{OnOk}
use Rattle.std.proofs.lemmas.List.{at_drop_more, drop_all, take_all, take-take}
use Rattle.ln_csyn.specs.declared.tree.CStmt.{CStmt}
use Rattle.ln_csyn.specs.Tree.{Body}
use Rattle.ln_csyn.specs.View.{stmt_front, body_tree}
use Rattle.ln_csyn.specs.Meaning.{Scene, Seen, Counts, Outcome, runs}
use Rattle.ln_csyn.specs.Meaning as m
use Rattle.ln_cmean.specs.declared.body.Flow.{Flow}
use Rattle.ln_cmean.specs.declared.body.Flow.TheVariants.{Went}
use Rattle.ln_cmean.specs.declared.stack.Stack.{Stack}
use Rattle.ln_cmean.specs.Answered.{goes_on}
use Rattle.ln_cmean.specs.Room.{IsSame, IsExtended}

-- what holds anyway holds where there is a value
pub on_ok : {T E P : Type 0} (r : Result T E) → P → OnOk r P
on_ok (Ok x) p = p
on_ok (Err e) p = tt

-- ---- the room

-- two steps that both leave the declarations as they are leave them so together
pub same_then : (a b c : Stack) → IsSame a b → IsSame b c → IsSame a c
same_then a b c p q = record { base_same = q.base_same ∙ p.base_same; slots_same = q.slots_same ∙ p.slots_same }

-- a prefix of a prefix
fronts : {X : Type 0} (xs ys zs : List X) → take (length xs) ys ≡ xs → take (length ys) zs ≡ ys → take (length xs) zs ≡ xs
fronts xs ys zs p q =
    let l : length xs ≤ length ys = omega (arith, ap length p, length-take (length xs) ys) in
    sym (take-take (length xs) (length ys) zs l) ∙ ap (λ ws. take (length xs) ws) q ∙ p

-- declarations that each of two steps keeps as a prefix are a prefix after both
pub front_then : (a b c : Stack) → IsExtended a b → IsExtended b c → IsExtended a c
front_then a b c p q = record {
  base_front = q.base_front ∙ p.base_front;
  slots_front = fronts a.slots.items b.slots.items c.slots.items p.slots_front q.slots_front;
}

-- the declarations before one more, which has a number now, are a prefix
pub front_set : (old opened at new : Stack) → IsExtended old opened → length opened.slots.items ≡ length old.slots.items + 1 → IsSame opened at →
    new.base ≡ at.base → ((n : ℕ) → n < length at.slots.items → take n new.slots.items ≡ take n at.slots.items) → IsExtended old new
front_set old opened at new f r s b t = record {
  base_front = b ∙ s.base_same ∙ f.base_front;
  slots_front = t (length old.slots.items) (omega (arith, r, ap length s.slots_same)) ∙ ap (λ ys. take (length old.slots.items) ys) s.slots_same
      ∙ f.slots_front;
}

-- ---- one statement further

next_body : (ss : List CStmt) (i : ℕ) (s : CStmt) → i < length ss → s ≡ get_or ss i s → body_tree (drop i ss) ≡ stmt_front s (body_tree (drop (i + 1) ss))
next_body ss i s l g = at_drop_more body_tree ss i s l ∙ ap (λ t. stmt_front t (body_tree (drop (i + 1) ss))) (sym g)

-- the step of the loop in `run`: past a statement that doesn't return, the body means what the remaining statements mean
pub going_on : (sc : Scene) (ss : List CStmt) (i : ℕ) (s : CStmt) (all : Outcome) (here next : List Seen) (k j : Counts) (r : Result Flow ℕ) (f : Flow) →
    i < length ss → s ≡ get_or ss i s → all ≡ runs sc here (body_tree (drop i ss)) k →
    ((rest : Body) → runs sc here (stmt_front s rest) k ≡ goes_on r j (λ m. runs sc next rest m)) → r ≡ Ok f → f ≡ Went →
    all ≡ runs sc next (body_tree (drop (i + 1) ss)) j
going_on sc ss i s all here next k j r f l g h m o w =
    let e : runs sc here (body_tree (drop i ss)) k ≡ runs sc here (stmt_front s (body_tree (drop (i + 1) ss))) k =
    ap (λ b. runs sc here b k) (next_body ss i s l g) in
    let t : goes_on r j (λ m. runs sc next (body_tree (drop (i + 1) ss)) m) ≡ runs sc next (body_tree (drop (i + 1) ss)) j = rw (o, w) refl in
    h ∙ e ∙ m (body_tree (drop (i + 1) ss)) ∙ t

-- the step of the loop in `run`: what is in use and what the remaining statements need stays within one limit
pub left_on : (need : Body → ℕ) (ss : List CStmt) (i : ℕ) (s : CStmt) (a b all : ℕ) → i < length ss → s ≡ get_or ss i s →
    a + need (body_tree (drop i ss)) ≤ all → ((rest : Body) → b + need rest ≤ a + need (stmt_front s rest)) → b + need (body_tree (drop (i + 1) ss)) ≤ all
left_on need ss i s a b all l g h r = omega (arith, h, r (body_tree (drop (i + 1) ss)), ap need (next_body ss i s l g))

-- only what was there remains
pub left_same : (old at new : Stack) (n : ℕ) → n ≡ length old.slots.items → IsExtended old at → new.base ≡ at.base →
    new.slots.items ≡ take n at.slots.items → IsSame old new
left_same old at new n e p b s = record { base_same = b ∙ p.base_front; slots_same = s ∙ ap (λ i. take i at.slots.items) e ∙ p.slots_front }

-- the same declarations are a prefix
pub same_front : (old new : Stack) → IsSame old new → IsExtended old new
same_front old new p = record {
  base_front = p.base_same;
  slots_front = ap (λ ys. take (length old.slots.items) ys) p.slots_same ∙ take_all (length old.slots.items) old.slots.items (omega arith);
}

-- after the last statement
pub went_all : (sc : Scene) (ss : List CStmt) (i : ℕ) (all : Outcome) (here : List Seen) (k : Counts) → length ss ≤ i
    → all ≡ runs sc here (body_tree (drop i ss)) k → all ≡ m.Went k
went_all sc ss i all here k l h = h ∙ ap (λ b. runs sc here (body_tree b) k) (drop_all i ss l)
