-- Loops that append operations, functions and statements.
use Rattle.std.proofs.Common.{◌≡◌, ◌≢◌, ℕ, zero, suc, ◌+◌, ◌<◌, ◌≤◌, ◌||◌, Bool, true, false, cond, List, [], ◌∷◌, ◌++◌, length, map, drop}
use Rattle.std.proofs.Common.{get_or, take, refl, sym, ap, ◌∙◌, subst, arith, inl, inr, ℤ}
use Rattle.std.specs.Prelude.{◌==◌, Option, Some, None, Contains, codes, reverse, nat_le}
use Rattle.std.specs.List.{range_with_len}
use Rattle.std.proofs.Math.ListN.{replicate}
use Rattle.std.proofs.Math.Path.{fun_ext}
use Rattle.std.proofs.lemmas.List.{drop_all, drop_more, length-map, get_or-map, get_or_default, length-take-le}
use Rattle.std.proofs.lemmas.Option.{slice_get-get_or}
use Rattle.std.proofs.lemmas.Bool.{cases_lt}
use Rattle.ln_algebra.specs.Vector.{same_vector}
use Rattle.ln_algebra.proofs.Expanded.Normal.{same_vector-is}
use Rattle.ln_code.specs.declared.op.Op.{Op}
use Rattle.ln_code.specs.declared.op.Op.TheVariants.{Get, Push}
use Rattle.ln_code.specs.Engine.{Line, next}
use Rattle.ln_code.specs.Numbers.{cut_by, no_locals}
use Rattle.ln_code.specs.Lists.{segment_of}
use Rattle.ln_code.specs.Part.{Code, FilterCode, Part, lines_of}
use Rattle.ln_csyn.specs.Tree as c
use Rattle.ln_csyn.specs.Tree.{Body, Fun}
use Rattle.ln_csyn.specs.Grammar.{Token}
use Rattle.ln_csyn.specs.Layout.{Lays}
use Rattle.ln_csyn.specs.Spelling.{Goes, PutsTokens, lexeme, spell, spell_body, spell_fun, written}
use Rattle.ln_csyn.proofs.Writing.Lays.{LaysRest, all_laid, lays_then, one_laid}
use Rattle.ln_order.specs.declared.order.Order.{Order}
use Rattle.ln_order.specs.Orders.{orders_of}
use Rattle.ln_order.specs.Places.{order_places}
use Rattle.ln_order.specs.Prefixes.{IsPrefixOf, beside, prefixes_of}
use Rattle.ln_order.proofs.Listing.OrdersLemmas.{is-member}
use Rattle.ln_order.proofs.Listing.PrefixLemmas.{prefix-is}
use Rattle.ln_cemit.specs.declared.slot.Slot.{Slot}
use Rattle.ln_cemit.specs.declared.slot.Way.{Way}
use Rattle.ln_cemit.specs.Emit.{body_of, constant, emitted, touching_index, pushing, put_get, type_of, put_op, put_sign, naming}
use Rattle.ln_cemit.specs.Emit.{ops_of, unread, reads, reads_row, touching}
use Rattle.ln_cemit.specs.File.{one_fun, one_funs}
use Rattle.ln_cemit.specs.Names.{answer_name, block_name, decl_name, filter_name}
use Rattle.ln_cemit.specs.Puts.{Does, MayMove, Moves, any_reads, filter_funs, filter_tried, close_braces, locals_of}
use Rattle.ln_cemit.specs.Puts.{open_guards, picks_on, rest_or}
use Rattle.ln_cemit.specs.Walked.{attempt, body_for, guarded, less, picks, says_nothing, tries, walked, without}
use Rattle.ln_cemit.specs.Ways.{ways}
use Rattle.ln_cemit.specs.Whole.{Entered, block_body, bodies_of, call_body, filter_body, first_of, funs_before, moved, numbered, outer_fun, part_name}

-- ---- the cases of `put_operation`
module _ {a b : List ℕ} (o : Op) (way : Way) (n : ℕ) (st su : List Slot) (os : List (Option Slot)) where
  -- the case of a push in `put_operation`
  pub does_push : (x y : ℤ) → o ≡ Push x → y ≡ cut_by way.shift x
      → Moves a b su (λ ls go. pushing decl_name n way.width (c.Inner (type_of way.width) (constant y)) (reverse st) ls go)
      → Does true a b su os (λ go. put_op decl_name o way n (reverse st) (locals_of os) go)
  does_push x y e f m = rw (e, ← f) (record { goes = λ go. m.goes (locals_of os) go })

  -- the case of a get in `put_operation`
  pub does_get : (more : Bool) (j : ℕ) (s : Option Slot) → o ≡ Get j → s ≡ locals_of os j
      → MayMove more a b su (λ ls go. put_get decl_name way n s (reverse st) ls go)
      → Does more a b su os (λ go. put_op decl_name o way n (reverse st) (locals_of os) go)
  does_get more j s e f m = rw (e, ← f) (record { goes = λ go. m.goes (locals_of os) go })

-- the cell of the array at a place is the local with that number
pub local_is : (d : Option Slot) (os : List (Option Slot)) (k j : ℕ) → k ≡ j → k < length os → get_or os k d ≡ locals_of os j
local_is d os k j e l = rw (← e) (sym (ap (λ x. next x (λ y. y)) (slice_get-get_or os k d l)))

-- ---- one operation after the other
line_suc : (d : Op) (b : Way) (ops : List Op) (ws : List Way) (i : ℕ) (o : Op) (w : Way) → length ops ≡ length ws → i < length ops
    → o ≡ get_or ops i d → w ≡ get_or ws i b → drop i (lines_of ops ws) ≡ record { op = o; bound = w } ∷ drop (suc i) (lines_of ops ws)
line_suc d b [] ws i o w e h p q = absurd (omega arith)
line_suc d b (x ∷ xs) [] i o w e h p q = absurd (omega (arith, e))
line_suc d b (x ∷ xs) (y ∷ ys) zero o w e h p q = let f : o ≡ x = p in let g : w ≡ y = q in rw (f, g) refl
line_suc d b (x ∷ xs) (y ∷ ys) (suc i) o w e h p q = line_suc d b xs ys i o w (omega (arith, e)) (omega (arith, h)) p q

-- the lines from one on are that line and those after it
pub line_step : (d : Op) (b : Way) (ops : List Op) (ws : List Way) (i : ℕ) (o : Op) (w : Way) → length ops ≡ length ws → i < length ops
    → o ≡ get_or ops i d → w ≡ get_or ws i b → drop i (lines_of ops ws) ≡ record { op = o; bound = w } ∷ drop (i + 1) (lines_of ops ws)
line_step d b ops ws i o w e h p q =
    let n : suc i ≡ i + 1 = omega arith in
    line_suc d b ops ws i o w e h p q ∙ ap (λ z. record { op = o; bound = w } ∷ drop z (lines_of ops ws)) n

-- after the last operation there is no line
pub lines_end : (ops : List Op) (ws : List Way) (i : ℕ) → length ops ≤ i → drop i (lines_of ops ws) ≡ []
lines_end [] ws zero h = refl
lines_end [] ws (suc i) h = refl
lines_end (x ∷ xs) ws zero h = absurd (omega arith)
lines_end (x ∷ xs) [] (suc i) h = refl
lines_end (x ∷ xs) (y ∷ ys) (suc i) h = lines_end xs ys i (omega (arith, h))

-- ---- the loop in `put_lines`, before the lines xs from the operation i on
module _ {start old new : List ℕ} {all : List Token → List Token} (e : ℕ) (xs : List (Line Way)) (i : ℕ) (st : List Slot)
    (os : List (Option Slot)) where
  -- the step of the loop in `put_lines`: one operation was appended, and the naming of what nothing reads is next
  pub loop_step : (more : Bool) (ys : List (Line Way)) (o : Op) (w : Way) (su : List Slot) (os' : List (Option Slot)) (u : Option ℕ)
      → xs ≡ record { op = o; bound = w } ∷ ys → unread o (ops_of ys) i (reverse st) ≡ u
      → Goes start old (spell_body (emitted decl_name e xs i (reverse st) (locals_of os))) all
      → Does more old new su os' (λ go. put_op decl_name o w i (reverse st) (locals_of os) go)
      → Goes start new (spell_body (rest_or more (naming decl_name u (emitted decl_name e ys (i + 1) (reverse su) (locals_of os'))))) all
  loop_step more ys o w su os' u q v g d =
      let n : suc i ≡ i + 1 = omega arith in
      let h : Goes start old (spell_body (emitted decl_name e (record { op = o; bound = w } ∷ ys) i (reverse st) (locals_of os))) all = rw q at g in
      let k = d.goes (λ sv ms. naming decl_name (unread o (ops_of ys) i (reverse st)) (emitted decl_name e ys (suc i) sv ms)) in
      let m : Goes start new
      (spell_body (rest_or more (naming decl_name (unread o (ops_of ys) i (reverse st)) (emitted decl_name e ys (suc i) (reverse su) (locals_of os'))))) all =
      record { is = λ r. k.is r ∙ h.is r } in
      rw (v, n) at m

  -- the end of the loop in `put_lines`: after the last line the sign was appended
  pub loop_end : xs ≡ [] → Goes start old (spell_body (emitted decl_name e xs i (reverse st) (locals_of os))) all
      → PutsTokens old new (spell_body (put_sign decl_name e (reverse st))) → PutsTokens start new all
  loop_end q g p =
      let h : Goes start old (spell_body (put_sign decl_name e (reverse st))) all =
      subst (λ z. Goes start old (spell_body (emitted decl_name e z i (reverse st) (locals_of os))) all) q g in
      record { is = λ r. p.is r ∙ h.is r }

-- the statement that names a declaration, if there is one
pub loop_named : {start mid new : List ℕ} {all : List Token → List Token} (u : Option ℕ) (b : Body) → Goes start mid (spell_body (naming decl_name u b)) all
    → ((b : Body) → Goes mid new (spell_body b) (spell_body (naming decl_name u b))) → Goes start new (spell_body b) all
loop_named u b g h = record { is = λ r. (h b).is r ∙ g.is r }

-- the operations after one
ops_behind : (ops : List Op) (ws : List Way) (i : ℕ) → length ops ≡ length ws → ops_of (drop i (lines_of ops ws)) ≡ drop i ops
ops_behind [] ws zero e = refl
ops_behind [] ws (suc i) e = refl
ops_behind (o ∷ os) [] i e = absurd (omega (arith, e))
ops_behind (o ∷ os) (w ∷ ws) zero e = ap (λ z. o ∷ z) (ops_behind os ws 0 (omega (arith, e)))
ops_behind (o ∷ os) (w ∷ ws) (suc i) e = ops_behind os ws i (omega (arith, e))

-- what nothing reads after an operation, by the remaining operations
pub unread_is : (o : Op) (ops left : List Op) (ws : List Way) (i : ℕ) (st : List Slot) (u : Option ℕ) → length ops ≡ length ws
    → left ≡ drop (i + 1) ops → u ≡ unread o left i (reverse st) → unread o (ops_of (drop (i + 1) (lines_of ops ws))) i (reverse st) ≡ u
unread_is o ops left ws i st u e f g = ap (λ z. unread o z i (reverse st)) (ops_behind ops ws (i + 1) e ∙ sym f) ∙ sym g

-- what goes on with nothing is appended
pub loop_stop : {start new : List ℕ} {all : List Token → List Token} (more : Bool) (b : Body) → more ≡ false
    → Goes start new (spell_body (rest_or more b)) all → PutsTokens start new all
loop_stop true b e p = absurd cc
loop_stop false b e p = record { is = p.is }

-- where the rest follows, the loop in `put_lines` goes on with it
pub loop_goes : {start new : List ℕ} {all : List Token → List Token} (more : Bool) (b : Body) → more ≡ true
    → Goes start new (spell_body (rest_or more b)) all → Goes start new (spell_body b) all
loop_goes true b e p = p
loop_goes false b e p = absurd cc

-- no local is set
pub none_unset : (n : ℕ) → locals_of (replicate n None) ≡ no_locals
none_unset n = fun_ext (λ i. one n i) where
  one : (n i : ℕ) → locals_of (replicate n None) i ≡ None
  one zero i = refl
  one (suc n) zero = refl
  one (suc n) (suc i) = one n i

-- ---- bodies
-- the lines read a value of the row exactly where the operations do
pub reads_lines : (ops : List Op) (ws : List Way) → length ops ≡ length ws → reads_row (lines_of ops ws) ≡ any_reads ops
reads_lines [] ws e = refl
reads_lines (o ∷ os) [] e = absurd (omega (arith, e))
reads_lines (o ∷ os) (w ∷ ws) e = ap (λ v. reads o || v) (reads_lines os ws (omega (arith, e)))

-- before a body that reads a value of the row nothing is appended
pub touched_none : {a : List ℕ} (v : Bool) → v ≡ true → (b : Body) → Goes a a (spell_body b) (spell_body (touching v b))
touched_none v e b = rw e (record { is = λ r. refl })

-- before a body that reads none, the statement that names the parameter was appended
pub touched_put : {a n : List ℕ} (v : Bool) → v ≡ false → PutsTokens a n (spell_body (touching false c.End)) → (b : Body)
    → Goes a n (spell_body b) (spell_body (touching v b))
touched_put v e p b = rw e (record { is = λ r. p.is (spell_body b r) })

-- where the body reads indices, nothing is appended before it
pub index_none : {a : List ℕ} (v : Bool) → v ≡ true → (b : Body) → Goes a a (spell_body b) (spell_body (touching_index v b))
index_none v e b = rw e (record { is = λ r. refl })

-- where it reads none, the statement that names them was appended
pub index_put : {a n : List ℕ} (v : Bool) → v ≡ false → PutsTokens a n (spell_body (touching_index false c.End)) → (b : Body)
    → Goes a n (spell_body b) (spell_body (touching_index v b))
index_put v e p b = rw e (record { is = λ r. p.is (spell_body b r) })

-- the body is the statement that names the parameter, where it is needed, and then what is emitted for the lines
pub body_put : {a m n : List ℕ} (v : Bool) (e : ℕ) (ops : List Op) (ws : List Way) → v ≡ any_reads ops
    → length ops ≡ length ws → ((b : Body) → Goes a m (spell_body b) (spell_body (touching v b)))
    → PutsTokens m n (spell_body (emitted decl_name e (lines_of ops ws) 0 [] no_locals)) → PutsTokens a n (spell_body (body_of decl_name e (lines_of ops ws)))
body_put {a} {m} {n} v e ops ws q l g p =
    let b : Body = emitted decl_name e (lines_of ops ws) 0 [] no_locals in
    let f : v ≡ reads_row (lines_of ops ws) = q ∙ sym (reads_lines ops ws l) in
    subst (λ u. PutsTokens a n (spell_body (touching u b))) f (record { is = λ r. p.is r ∙ (g b).is r })

-- ---- functions by operations and bounds
module _ {B : Type 0} (g : B → Way) where
  -- the lines with their ways are the operations with the ways of their bounds
  pub ways_map : (ops : List Op) (bs : List B) → ways g (lines_of ops bs) ≡ lines_of ops (map g bs)
  ways_map [] bs = refl
  ways_map (o ∷ os) [] = refl
  ways_map (o ∷ os) (b ∷ bs) = ap (λ z. record { op = o; bound = g b } ∷ z) (ways_map os bs)

  module _ {a n : List ℕ} (x : List ℕ) (d e : ℕ) where
    -- a function appended for operations and ways is the one for the same operations with their bounds
    pub fun_put : (ops os : List Op) (bs : List B) (ws vs : List Way) → ops ≡ os → vs ≡ ws → ws ≡ map g bs → d ≡ e
        → PutsTokens a n (spell_fun (one_fun x (body_of decl_name d (lines_of ops vs))))
        → PutsTokens a n (spell_fun (one_fun x (body_of decl_name e (ways g (lines_of os bs)))))
    fun_put ops os bs ws vs p q r h u = rw (← p, ways_map ops bs, ← r, ← q, ← h) u

-- ---- the function with two parameters
module _ {start cur : List ℕ} {all : List Token → List Token} (name : List ℕ) (numbers : List ℕ) (k : ℕ) where
  -- the step of the loop over the numbers of blocks: the call of one more block was appended
  pub tries_next : {new : List ℕ} (n d : ℕ) (b : Body) → k < length numbers → n ≡ get_or numbers k d
      → Goes start cur (spell_body (tries (block_name name) answer_name (drop k numbers) b)) all
      → ((e : Body) → Goes cur new (spell_body e) (spell_body (c.Group 2 (attempt answer_name (block_name name n)) e)))
      → Goes start new (spell_body (tries (block_name name) answer_name (drop (k + 1) numbers) b)) all
  tries_next {new} n d b l e g h =
      let q : drop k numbers ≡ n ∷ drop (k + 1) numbers = drop_more numbers k d l ∙ ap (λ z. z ∷ drop (k + 1) numbers) (sym e) in
      let f : Goes start cur (spell_body (tries (block_name name) answer_name (n ∷ drop (k + 1) numbers) b)) all =
      subst (λ z. Goes start cur (spell_body (tries (block_name name) answer_name z b)) all) q g in
      let i = h (tries (block_name name) answer_name (drop (k + 1) numbers) b) in
      record { is = λ r. i.is r ∙ f.is r }

  -- the end of the loop in `put_tries`: no call remains
  pub tries_done : (b : Body) → length numbers ≤ k → Goes start cur (spell_body (tries (block_name name) answer_name (drop k numbers) b)) all
      → Goes start cur (spell_body b) all
  tries_done b l g = subst (λ z. Goes start cur (spell_body (tries (block_name name) answer_name z b)) all) (drop_all k numbers l) g

brace_past : (n : ℕ) (r : List Token) → close_braces n (lexeme (codes "}") ∷ r) ≡ lexeme (codes "}") ∷ close_braces n r
brace_past zero r = refl
brace_past (suc n) r = ap (λ z. lexeme (codes "}") ∷ z) (brace_past n r)

guarded_spelled : (i : ℕ) (js : List ℕ) (inner : Body) (r : List Token)
    → spell_body (guarded i js inner) r ≡ open_guards i js (spell_body inner (close_braces (length js) r))
guarded_spelled i [] inner r = refl
guarded_spelled i (j ∷ js) inner r =
    ap (λ z. lexeme (codes "if") ∷ lexeme (codes "(") ∷ spell (less i j) (lexeme (codes ")") ∷ lexeme (codes "{") ∷ z))
    (guarded_spelled i js inner (lexeme (codes "}") ∷ r) ∙ ap (λ z. open_guards i js (spell_body inner z)) (brace_past (length js) r))

pick_spelled : (go : ℕ → Body) (i : ℕ) (js : List ℕ) (r : List Token)
    → spell_body (picks_on go (i ∷ js)) r ≡ open_guards i js (spell_body (go i) (close_braces (length js) (spell_body (picks_on go js) r)))
pick_spelled go i [] r = refl
pick_spelled go i (j ∷ js) r =
    ap (λ z. lexeme (codes "if") ∷ lexeme (codes "(") ∷ spell (less i j) (lexeme (codes ")") ∷ lexeme (codes "{") ∷ z))
    (guarded_spelled i js (go i) (lexeme (codes "}") ∷ spell_body (picks go (j ∷ js)) r)
    ∙ ap (λ z. open_guards i js (spell_body (go i) z)) (brace_past (length js) (spell_body (picks go (j ∷ js)) r)))

-- the start of the loop in `put_picks`: a site remains
pub picks_first : {a : List ℕ} (go : ℕ → Body) (left : List ℕ) → false ≡ (length left == 0)
    → Goes a a (spell_body (picks_on go left)) (spell_body (picks go left))
picks_first go [] h = absurd (cc)
picks_first go (i ∷ js) h = record { is = λ r. refl }

module _ {start cur : List ℕ} {all : List Token → List Token} (go : ℕ → Body) (left : List ℕ) where
  -- the step of the loop in `put_picks`: the statements of one more site were appended
  pub picks_next : {new : List ℕ} (others : List ℕ) (k place d : ℕ) → k < length left → place ≡ get_or left k d → others ≡ drop (k + 1) left
      → Goes start cur (spell_body (picks_on go (drop k left))) all
      → PutsTokens cur new (λ r. open_guards place others (spell_body (go place) (close_braces (length others) r)))
      → Goes start new (spell_body (picks_on go (drop (k + 1) left))) all
  picks_next {new} others k place d l e o g p =
      let q : drop k left ≡ place ∷ others = drop_more left k d l ∙ ap (λ z. z ∷ drop (k + 1) left) (sym e) ∙ ap (λ z. place ∷ z) (sym o) in
      let f : Goes start cur (spell_body (picks_on go (place ∷ others))) all = subst (λ z. Goes start cur (spell_body (picks_on go z)) all) q g in
      subst (λ z. Goes start new (spell_body (picks_on go z)) all) o
      (record { is = λ r. p.is (spell_body (picks_on go others) r) ∙ sym (ap (λ z. cur ++ written z) (pick_spelled go place others r)) ∙ f.is r })

  -- the end of the loop in `put_picks`: no site remains
  pub picks_done : (k : ℕ) → length left ≤ k → Goes start cur (spell_body (picks_on go (drop k left))) all → PutsTokens start cur all
  picks_done k l g =
      let f : Goes start cur (spell_body (picks_on go [])) all = subst (λ z. Goes start cur (spell_body (picks_on go z)) all) (drop_all k left l) g in
      record { is = f.is }

-- ---- the cases of `put_walked`
module _ {a m n : List ℕ} (name x : List ℕ) (segment : List ℕ → List ℕ) (numbers : List ℕ) (d : ℕ) where
  -- the case in `put_walked` in which no site is placed any more: the calls of the prefix, and the return of 0
  pub walked_end : (p left : List ℕ) → name ≡ x → numbers ≡ segment p → d ≡ 0
      → ((b : Body) → Goes a m (spell_body b) (spell_body (tries (block_name name) answer_name numbers b)))
      → PutsTokens m n (spell_body says_nothing) → PutsTokens a n (spell_body (walked (block_name x) answer_name segment d p left))
  walked_end p left e f z g u = rw (z, ← e, ← f) (record { is = λ r. u.is r ∙ (g says_nothing).is r })

  -- the case in `put_walked` in which another site is placed: the calls of the prefix, and the statements of the sites
  pub walked_on : (e : ℕ) (p left : List ℕ) → name ≡ x → numbers ≡ segment p → d ≡ suc e
      → ((b : Body) → Goes a m (spell_body b) (spell_body (tries (block_name name) answer_name numbers b)))
      → PutsTokens m n (spell_body (picks (λ i. walked (block_name x) answer_name segment e (p ++ i ∷ []) (without i left)) left))
      → PutsTokens a n (spell_body (walked (block_name x) answer_name segment d p left))
  walked_on e p left q f z g u =
      let rest : Body = picks (λ i. walked (block_name x) answer_name segment e (p ++ i ∷ []) (without i left)) left in
      let h : PutsTokens a n (spell_body (tries (block_name name) answer_name numbers rest)) = record { is = λ r. u.is r ∙ (g rest).is r } in
      rw z (rw (q, f) at h)

-- the same with functions by number
tries-moved : (x : List ℕ) (f : Option FilterCode) (ns : List ℕ) (a b : Body) → a ≡ b
    → tries (numbered x f) answer_name (moved f ns) a ≡ tries (block_name x) answer_name ns b
tries-moved x None [] a b e = e
tries-moved x (Some f) [] a b e = e
tries-moved x None (n ∷ ns) a b e = ap (λ z. c.Group 2 (attempt answer_name (block_name x n)) z) (tries-moved x None ns a b e)
tries-moved x (Some f) (n ∷ ns) a b e = ap (λ z. c.Group 2 (attempt answer_name (block_name x n)) z) (tries-moved x (Some f) ns a b e)

picks-same : (go to : ℕ → Body) (left : List ℕ) → ((i : ℕ) → go i ≡ to i) → picks go left ≡ picks to left
picks-same go to [] h = refl
picks-same go to (i ∷ []) h = h i
picks-same go to (i ∷ j ∷ js) h = ap (λ z. c.If 2 (less i j) (guarded i js z) (picks go (j ∷ js))) (h i)
    ∙ ap (λ z. c.If 2 (less i j) (guarded i js (to i)) z) (picks-same go to (j ∷ js) h)

walked-moved : (x : List ℕ) (f : Option FilterCode) (segment : List ℕ → List ℕ) (d : ℕ) (p left : List ℕ)
    → walked (numbered x f) answer_name (λ q. moved f (segment q)) d p left ≡ walked (block_name x) answer_name segment d p left
walked-moved x f segment zero p left = tries-moved x f (segment p) says_nothing says_nothing refl
walked-moved x f segment (suc d) p left =
    tries-moved x f (segment p) _ _
    (picks-same (λ i. walked (numbered x f) answer_name (λ q. moved f (segment q)) d (p ++ i ∷ []) (without i left))
    (λ i. walked (block_name x) answer_name segment d (p ++ i ∷ []) (without i left)) left (λ i. walked-moved x f segment d (p ++ i ∷ []) (without i left)))

first-tried : (x : List ℕ) (f : Option FilterCode) (a b : Body) → a ≡ b → tries (numbered x f) answer_name (first_of f) a ≡ filter_tried x f b
first-tried x None a b e = e
first-tried x (Some f) a b e = ap (λ z. c.Group 2 (attempt answer_name (filter_name x)) z) e

-- the body of the function with two parameters: the naming of the indices, the filter's call, and the calls by prefixes
pub call_put : {a l m n : List ℕ} (p : Part) (sites : ℕ) (v : Bool) → sites ≡ p.shape.sites
    → v ≡ nat_le 2 sites → ((b : Body) → Goes a l (spell_body b) (spell_body (touching_index v b)))
    → ((b : Body) → Goes l m (spell_body b) (spell_body (filter_tried (part_name p) p.filter b)))
    → PutsTokens m n (spell_body (walked (block_name (part_name p)) answer_name (segment_of p) sites [] (range_with_len 0 sites)))
    → PutsTokens a n (spell_body (call_body p))
call_put {a} {l} {m} {n} p sites v e q g h u =
    let inner : Body = walked (block_name (part_name p)) answer_name (segment_of p) sites [] (range_with_len 0 sites) in
    let x : List ℕ = part_name p in
    let t : PutsTokens a n (spell_body (touching_index v (filter_tried x p.filter inner))) =
    record { is = λ r. u.is r ∙ (h inner).is r ∙ (g (filter_tried x p.filter inner)).is r } in
    let f : body_for (numbered x p.filter) answer_name (λ q. moved p.filter (segment_of p q)) (first_of p.filter) sites ≡ filter_tried x p.filter inner =
    first-tried x p.filter _ _ (walked-moved x p.filter (segment_of p) sites [] (range_with_len 0 sites)) in
    let s : PutsTokens a n (spell_body (touching_index (nat_le 2 sites)
    (body_for (numbered x p.filter) answer_name (λ q. moved p.filter (segment_of p q)) (first_of p.filter) sites))) = subst (λ z. PutsTokens a n
    (spell_body (touching_index z (body_for (numbered x p.filter) answer_name (λ q. moved p.filter (segment_of p q)) (first_of p.filter) sites)))) q
    (subst (λ z. PutsTokens a n (spell_body (touching_index v z))) (sym f) t) in
    subst (λ z. PutsTokens a n
    (spell_body (touching_index (nat_le 2 z) (body_for (numbered x p.filter) answer_name (λ q. moved p.filter (segment_of p q)) (first_of p.filter) z)))) e s

-- ---- the file
one-by-block : (x : List ℕ) (f : FilterCode) (i : ℕ) (bs : List Body) → one_funs (numbered x (Some f)) (suc i) bs ≡ one_funs (block_name x) i bs
one-by-block x f i [] = refl
one-by-block x f i (b ∷ bs) = ap (λ z. one_fun (block_name x i) b ∷ z) (one-by-block x f (suc i) bs)

one-by-number : (x : List ℕ) (i : ℕ) (bs : List Body) → one_funs (numbered x None) i bs ≡ one_funs (block_name x) i bs
one-by-number x i [] = refl
one-by-number x i (b ∷ bs) = ap (λ z. one_fun (block_name x i) b ∷ z) (one-by-number x (suc i) bs)

ones-are : (x : List ℕ) (f : Option FilterCode) (cs : List Code)
    → one_funs (numbered x f) 0 (bodies_of f cs) ≡ filter_funs x f ++ one_funs (block_name x) 0 (map block_body cs)
ones-are x None cs = one-by-number x 0 (map block_body cs)
ones-are x (Some f) cs = ap (λ z. one_fun (filter_name x) (filter_body f) ∷ z) (one-by-block x f 0 (map block_body cs))

-- the tokens of a function with one parameter were laid out
pub named_laid : {old new tokens empty : List ℕ} (x y : List ℕ) (b : Body) → empty ≡ [] → x ≡ y → PutsTokens empty tokens (spell_fun (one_fun x b))
    → ((f : Fun) → PutsTokens [] tokens (spell_fun f) → Lays old new (f ∷ []))
    → Lays old new (one_fun y b ∷ [])
named_laid {tokens = tokens} x y b e q p h =
    let p2 : PutsTokens [] tokens (spell_fun (one_fun x b)) = subst (λ z. PutsTokens z tokens (spell_fun (one_fun x b))) e p in
    h (one_fun y b) (subst (λ z. PutsTokens [] tokens (spell_fun (one_fun z b))) q p2)

-- the functions of a program were written
pub program_put : {a l m n : List ℕ} (x : Entered) → Lays a l (filter_funs (part_name x.part) x.part.filter)
    → Lays l m (one_funs (block_name (part_name x.part)) 0 (map block_body x.part.blocks)) → Lays m n (outer_fun x ∷ []) → Lays a n (funs_before x [])
program_put {a} {n = n} x g h u =
    let e = ap (λ z. z ++ outer_fun x ∷ []) (ones-are (part_name x.part) x.part.filter x.part.blocks) in
    subst (λ z. Lays a n z) (sym e) (lays_then (lays_then g h) u)

module _ {start cur : List ℕ} {all : List Fun} (name : List ℕ) (cs : List Code) (k : ℕ) where
  -- the step of the loop in `put_blocks`: the function of one more block was laid out
  pub blocks_next : {new : List ℕ} (b d : Code) → k < length cs → b ≡ get_or cs k d
      → LaysRest start cur (one_funs (block_name name) k (map block_body (drop k cs))) all → Lays cur new (one_fun (block_name name k) (block_body b) ∷ [])
      → LaysRest start new (one_funs (block_name name) (k + 1) (map block_body (drop (k + 1) cs))) all
  blocks_next {new} b d l e g p =
      let q : drop k cs ≡ b ∷ drop (k + 1) cs = drop_more cs k d l ∙ ap (λ z. z ∷ drop (k + 1) cs) (sym e) in
      let f : LaysRest start cur (one_funs (block_name name) k (map block_body (b ∷ drop (k + 1) cs))) all =
      subst (λ z. LaysRest start cur (one_funs (block_name name) k (map block_body z)) all) q g in
      let n : suc k ≡ k + 1 = omega arith in
      subst (λ z. LaysRest start new (one_funs (block_name name) z (map block_body (drop (k + 1) cs))) all) n (one_laid f p)

  -- the end of the loop in `put_blocks`: the functions of all blocks were laid out
  pub blocks_done : length cs ≤ k → LaysRest start cur (one_funs (block_name name) k (map block_body (drop k cs))) all → Lays start cur all
  blocks_done l g = all_laid (subst (λ z. LaysRest start cur (one_funs (block_name name) k (map block_body z)) all) (drop_all k cs l) g)

-- ---- segments
beside-none : (qs ss : List (List ℕ)) (p : List ℕ) → (Contains qs p → ⊥) → beside qs ss p ≡ []
beside-none [] ss p h = refl
beside-none (q ∷ qs) [] p h = refl
beside-none (q ∷ qs) (s ∷ ss) p h = go (same_vector q p) refl (beside-none qs ss p (λ k. h (suc k.0, omega (arith, k.1), k.2))) where
  go : (b : Bool) → same_vector q p ≡ b → beside qs ss p ≡ [] → cond b s (beside qs ss p) ≡ []
  go true e r = absurd (h (0, omega arith, same_vector-is q p e))
  go false e r = r

-- where no order begins with these, no segment stands there
pub no_segment : (k : ℕ) (orders : List Order) (ss : List (List ℕ)) (front : List ℕ) → map order_places orders ≡ orders_of k
    → ((m : ℕ) (d : Order) → m < length orders → take (length front) (order_places (get_or orders m d)) ≢ front) → beside (prefixes_of k) ss front ≡ []
no_segment k orders ss front e h = beside-none (prefixes_of k) ss front never where
  at_place : (x : IsPrefixOf k front) → Contains (map order_places orders) x.order → ⊥
  at_place x (m, l, q) =
      let small : m < length orders = omega (arith, l, length-map orders order_places) in
      let d : Order = get_or orders m (no_order orders small) in
      let same : order_places d ≡ x.order = sym (get_or-map order_places orders m (no_order orders small) x.order small) ∙ q in
      let size : length front ≡ x.places = ap length x.front ∙ length-take-le x.places x.order (omega (arith, x.within, x.full.size)) in
      h m (no_order orders small) small (ap (λ z. take z (order_places d)) size ∙ ap (take x.places) same ∙ sym x.front)
    where
      no_order : {m : ℕ} (os : List Order) → m < length os → Order
      no_order [] l = absurd (omega (arith, l))
      no_order (o ∷ os) l = o

  never : Contains (prefixes_of k) front → ⊥
  never i = let x = prefix-is k front i in at_place x (subst (λ z. Contains z x.order) (sym e) (is-member k x.order x.full))

-- one order more that doesn't begin so
pub next_order : (orders : List Order) (front : List ℕ) (k : ℕ) (o d : Order) → k < length orders → o ≡ get_or orders k d
    → ((m : ℕ) (e : Order) → m < k → take (length front) (order_places (get_or orders m e)) ≢ front) → take (length front) (order_places o) ≢ front
    → (m : ℕ) (e : Order) → m < k + 1 → take (length front) (order_places (get_or orders m e)) ≢ front
next_order orders front k o d l q h n m e s = elim (cases_lt m k) [
  | inl t ↦ h m e t
  | inr t ↦ (let f : m ≡ k = omega (arith, s, t) in
      let g : o ≡ get_or orders m e = q ∙ get_or_default orders k d e l ∙ ap (λ z. get_or orders z e) (sym f) in
      subst (λ z. take (length front) (order_places z) ≢ front) g n)
]
