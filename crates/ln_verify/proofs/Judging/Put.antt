-- Proves that the lines written for good parts are a valid listing.
use Rattle.std.proofs.Common.{◌≡◌, ℕ, zero, suc, Bool, true, false, List, [], ◌∷◌, ◌++◌, length, map, refl, sym, ◌∙◌, ap, subst, append-nil, append_assoc}
use Rattle.std.proofs.Common.{arith, length-append, ◌⊎◌, inl, inr, unsigned_abs}
use Rattle.std.specs.Prelude.{IfSome, Option, Some, None, slice_get}
use Rattle.std.proofs.lemmas.Slice.Zip.{AllZip-long}
use Rattle.ln_algebra.specs.Tree.{Tree}
use Rattle.ln_tree.specs.Exps.{IsRising}
use Rattle.ln_order.specs.Orders.{behind, firsts, orders_of}
use Rattle.ln_code.specs.declared.op.Op.{Op}
use Rattle.ln_code.specs.declared.op.Triple.{Triple}
use Rattle.ln_code.specs.Engine.{Engine, Line, State, next, run, step, answer}
use Rattle.ln_code.specs.Kept.{stores, AreOfSites}
use Rattle.ln_code.specs.Pushes.{Pushed, after, newest, pushes}
use Rattle.ln_base.proofs.Forms.Judging.{go_append}
use Rattle.ln_interval.specs.Range.{Range}
use Rattle.ln_due.specs.Small.{AreSmall}
use Rattle.ln_verify.specs.BlockRules.{block_rules, triple_rules, version_2, Version, balanced}
use Rattle.ln_verify.specs.Good.{AllLead, AreGood, AreGoodParts, AreNext, IsGoodFilter, IsGoodPart, all_lines, block_lines, triple_parts, order_lines}
use Rattle.ln_verify.specs.Good.{part_lines, range_line, triple_line}
use Rattle.ln_verify.specs.Judge.{Go, judge_of}
use Rattle.ln_verify.specs.Law.{GoodPartsAreValid, ValidPartsStand}
use Rattle.ln_verify.specs.Line.{Between, InBlock, InFilter, IsNextList, Leads, Named, Ordering, Outside, Piece, Place, PushedSmall, Subject, Within, Written}
use Rattle.ln_verify.specs.Line.{exps_of, filter_tree_of, fresh, tree_of, LineRule, OrderLine, PartRule, Rule, Spot}
use Rattle.ln_cert.specs.declared.part.Part.{Part}
use Rattle.ln_cert.specs.declared.part.Part.TheVariants.{Decide, End, Done, Predicate, NoFilter, Filter, FilterOp, Block, BlockOp, RangeOp, Order}
use Rattle.ln_code.specs.Numbers.{no_locals}
use Rattle.ln_due.proofs.Parts.BlockLemmas.{some-same}
use Rattle.ln_verify.specs.Stands.{Everywhere, FilterStands, ListStands, AreBothWays, ListsStand, PartStands, PartsStand, PieceStands}

-- ---- a run whose pushes are small
pushed-small : {K : Type 0} (tree : K → Tree) (n : ℕ) (op : Op) (b : Bool) (stack : List K) (rest : List (Pushed K))
    → AreSmall tree n (newest op b stack ++ rest) → PushedSmall tree n b stack × AreSmall tree n rest
pushed-small tree n op true stack rest h = (tt, h)
pushed-small tree n op false [] rest h = (tt, h)
pushed-small tree n op false (x ∷ stack) rest h = (h.0, h.1)

-- where a run ends in a state and each push on its way is small, its lines lead there one by one
pub small-leads : {B K : Type 0} (tree : K → Tree) (n : ℕ) (e : Engine B K (ℕ → Option K)) (lines : List (Line B))
    (s t : State K (ℕ → Option K)) → run e lines s ≡ Some t → AreSmall tree n (pushes e lines s) → AllLead tree n e lines s t
small-leads tree n e [] s t h k = let q : s ≡ t = cc in sym q
small-leads {K = K} tree n e (x ∷ xs) s t h k = go (step e x.op x.bound s.locals s.stack) refl h k (λ u q r. small-leads tree n e xs u t q r)
  where
    go : (o : Option (State K (ℕ → Option K))) → step e x.op x.bound s.locals s.stack ≡ o → next o (λ u. run e xs u) ≡ Some t →
        AreSmall tree n (after x.op o (λ u. pushes e xs u)) →
        ((u : State K (ℕ → Option K)) → run e xs u ≡ Some t → AreSmall tree n (pushes e xs u) → AllLead tree n e xs u t) → AllLead tree n e (x ∷ xs) s t
    go None i q r f = cc
    go (Some u) i q r f = let p = pushed-small tree n x.op (stores x.op) u.stack (pushes e xs u) r in (u, (i, p.0), f u q p.1)

module _ (ps : List Subject) (p : Subject) (parts : List Written) (there : slice_get ps (length parts) ≡ Some p) where
  -- lines that lead from state to state lead from spot to spot, where each does
  lines-go : {B K : Type 0} (tree : K → Tree) (e : Engine B K (ℕ → Option K)) (at : List (Line B) → State K (ℕ → Option K) → Spot) (part : Line B → Part)
      → ((done : List (Line B)) (x : Line B) (s t : State K (ℕ → Option K)) → Leads tree (length p.vars) e x.op x.bound s t
      → PartRule version_2 p parts (at done s) (part x) (Within parts (at (done ++ x ∷ []) t)))
      → (done lines : List (Line B)) (s t : State K (ℕ → Option K)) → AllLead tree (length p.vars) e lines s t
      → Go version_2 ps (Within parts (at done s)) (map part lines) (Within parts (at (done ++ lines) t))
  lines-go tree e at part rule done [] s t h = let q = append-nil done in λ i. Within parts (at (q i) (h i))
  lines-go tree e at part rule done (x ∷ xs) s t h = (
    Within parts (at (done ++ x ∷ []) h.0),
    (p, there, rule done x s h.0 h.1),
    subst (λ z. Go version_2 ps (Within parts (at (done ++ x ∷ []) h.0)) (map part xs) (Within parts (at z t)))
        (append_assoc done (x ∷ []) xs) (lines-go tree e at part rule (done ++ x ∷ []) xs h.0 t h.2),
  )

  -- ---- a filter
  filter-go : (f : Option (List (Line Triple))) → IfSome f (IsGoodFilter version_2 p)
      → Go version_2 ps (Within parts Named) (triple_parts f) (Within parts (Between f []))
  filter-go None h = (Within parts (Between None []), (p, there, (Between None [], refl, refl)), refl)
  filter-go (Some lines) h = (
    Within parts (InFilter [] fresh),
    (p, there, (InFilter [] fresh, refl, refl)),
    go_append (judge_of version_2 ps) (Within parts (InFilter [] fresh)) (Within parts (InFilter lines h.end))
        (Within parts (Between (Some lines) [])) (map triple_line lines) (Decide ∷ [])
        (lines-go filter_tree_of (triple_rules version_2 p.vars) InFilter triple_line (λ done x s t l. (InFilter (done ++ x ∷ []) t, (t, l, refl), refl))
        [] lines fresh h.end h.leads) (
          Within parts (Between (Some lines) []),
          (p, there, (Between (Some lines) [], record { left = h.left; one = h.one; whole = h.whole; narrow = h.narrow; to = refl }, refl)),
          refl,
        ),
  )

  -- ---- a block
  blocks-go : (f : Option (List (Line Triple))) (done bs : List Piece) (k : ℕ) → k ≡ length done → AreGood version_2 p bs
      → Go version_2 ps (Within parts (Between f done)) (block_lines k bs) (Within parts (Between f (done ++ bs)))
  blocks-go f done [] k e g = let q = append-nil done in λ i. Within parts (Between f (q i))
  blocks-go f done (b ∷ bs) k e (g, gs) =
      let r = blocks-go f (done ++ b ∷ []) bs (suc k) (omega (arith, e, length-append done (b ∷ []))) gs in
      let q = append_assoc done (b ∷ []) bs in (
        Within parts (InBlock f done b.exps [] fresh),
        (p, there, (InBlock f done b.exps [] fresh, record { number = e; rising = g.rising; of_sites = g.of_sites; to = refl }, refl)),
        go_append (judge_of version_2 ps) (Within parts (InBlock f done b.exps [] fresh)) (Within parts (InBlock f done b.exps b.lines g.end))
            (Within parts (Between f (done ++ b ∷ bs))) (map range_line b.lines) (End ∷ block_lines (suc k) bs)
            (lines-go tree_of (block_rules version_2 p.vars) (InBlock f done b.exps) range_line
            (λ before x s t l. (InBlock f done b.exps (before ++ x ∷ []) t, (refl, (t, l, refl)), refl)) [] b.lines fresh g.end g.leads) (
              Within parts (Between f (done ++ b ∷ [])),
              (p, there, (Between f (done ++ b ∷ []), record { left = g.left; one = g.one; derivative = g.derivative; to = refl }, refl)),
              subst (λ (z : List Piece). Go version_2 ps (Within parts (Between f (done ++ b ∷ []))) (block_lines (suc k) bs) (Within parts (Between f z))) q r,
            ),
      )

  -- ---- orders
  orders-go : (f : Option (List (Line Triple))) (bs : List Piece) (done os ls : List (List ℕ)) (k : ℕ) → k ≡ length done → AreNext p bs k os ls →
      Go version_2 ps (Within parts (Ordering (record { filter = f; blocks = bs; lists = done }))) (order_lines os ls)
      (Within parts (Ordering (record { filter = f; blocks = bs; lists = done ++ ls })))
  orders-go f bs done [] [] k e h = let q = append-nil done in λ i. Within parts (Ordering (record { filter = f; blocks = bs; lists = q i }))
  orders-go f bs done (o ∷ os) (l ∷ ls) k e (h, hs) =
      let r = orders-go f bs (done ++ l ∷ []) os ls (suc k) (omega (arith, e, length-append done (l ∷ []))) hs in
      let q = append_assoc done (l ∷ []) ls in
      let n : IsNextList p (exps_of bs) (length done) o l = subst (λ (j : ℕ). IsNextList p (exps_of bs) j o l) e h in (
        Within parts (Ordering (record { filter = f; blocks = bs; lists = done ++ l ∷ [] })),
        (p, there, (Ordering (record { filter = f; blocks = bs; lists = done ++ l ∷ [] }), record { next = n; to = refl }, refl)),
        subst (λ (z : List (List ℕ)). Go version_2 ps (Within parts (Ordering (record { filter = f; blocks = bs; lists = done ++ l ∷ [] })))
            (order_lines os ls) (Within parts (Ordering (record { filter = f; blocks = bs; lists = z })))) q r,
      )
  orders-go f bs done os ls k e h = absurd h

  first-order : (f : Option (List (Line Triple))) (bs : List Piece) (os ls : List (List ℕ)) (c : Place) (ys : List Part) →
      (os ≡ [] → ⊥) → AreNext p bs 0 os ls →
      Go version_2 ps (Within parts (Ordering (record { filter = f; blocks = bs; lists = ls }))) ys c →
      Go version_2 ps (Within parts (Between f bs)) (order_lines os ls ++ ys) c
  first-order f bs [] ls c ys some h g = absurd (some refl)
  first-order f bs (o ∷ os) [] c ys some h g = absurd h
  first-order f bs (o ∷ os) (l ∷ ls) c ys some (h, hs) g =
      let r = orders-go f bs (l ∷ []) os ls 1 refl hs in (
        Within parts (Ordering (record { filter = f; blocks = bs; lists = l ∷ [] })),
        (p, there, (Ordering (record { filter = f; blocks = bs; lists = l ∷ [] }), record { next = h; to = refl }, refl)),
        go_append (judge_of version_2 ps) (Within parts (Ordering (record { filter = f; blocks = bs; lists = l ∷ [] })))
            (Within parts (Ordering (record { filter = f; blocks = bs; lists = l ∷ ls }))) c (order_lines os ls) ys r g,
      )

  as-many : (bs : List Piece) (os ls : List (List ℕ)) (k : ℕ) → AreNext p bs k os ls → length ls ≡ length os
  as-many bs [] [] k h = refl
  as-many bs (o ∷ os) (l ∷ ls) k h = ap suc (as-many bs os ls (suc k) h.1)
  as-many bs os ls k h = absurd h

  part-go : (w : Written) → IsGoodPart version_2 p w → (orders_of p.sites ≡ [] → ⊥)
      → Go version_2 ps (Outside parts) (part_lines p w) (Outside (parts ++ w ∷ []))
  part-go w h some = (
    Within parts Named,
    record { subject = p; there = there; named = refl; to = refl },
    go_append (judge_of version_2 ps) (Within parts Named) (Within parts (Between w.filter [])) (Outside (parts ++ w ∷ [])) (triple_parts w.filter)
        (block_lines 0 w.blocks ++ (order_lines (orders_of p.sites) w.lists ++ Done ∷ []))
        (filter-go w.filter h.filter)
        (go_append (judge_of version_2 ps) (Within parts (Between w.filter [])) (Within parts (Between w.filter w.blocks))
        (Outside (parts ++ w ∷ [])) (block_lines 0 w.blocks) (order_lines (orders_of p.sites) w.lists ++ Done ∷ [])
        (blocks-go w.filter [] w.blocks 0 refl h.blocks)
        (first-order w.filter w.blocks (orders_of p.sites) w.lists (Outside (parts ++ w ∷ [])) (Done ∷ []) some h.lists
        (Outside (parts ++ w ∷ []), (p, there, record { all = as-many w.blocks (orders_of p.sites) w.lists 0 h.lists; to = refl }), refl))),
  )

-- there is an order of this many sites
firsts-some : (k : ℕ) (os : List (List ℕ)) → (os ≡ [] → ⊥) → firsts (suc k) os ≡ [] → ⊥
firsts-some k os h e = end (firsts k os) (map (behind k) os) (λ q. h (none os q)) e
  where
    none : (xs : List (List ℕ)) → map (behind k) xs ≡ [] → xs ≡ []
    none [] q = refl
    none (x ∷ xs) q = cc

    end : (xs ys : List (List ℕ)) → (ys ≡ [] → ⊥) → xs ++ ys ≡ [] → ⊥
    end [] ys h q = h q
    end (x ∷ xs) ys h q = cc

some-orders : (k : ℕ) → orders_of k ≡ [] → ⊥
some-orders zero e = cc
some-orders (suc k) e = firsts-some k (orders_of k) (some-orders k) e

-- ---- all parts
at-end : {A : Type 0} (xs : List A) (x : A) (ys : List A) → slice_get (xs ++ x ∷ ys) (length xs) ≡ Some x
at-end [] x ys = refl
at-end (z ∷ xs) x ys = at-end xs x ys

-- the lines of good parts lead from the parts before them to those parts with these
pub parts-go : (before ps : List Subject) (parts ws : List Written) → length parts ≡ length before → AreGoodParts version_2 ps ws
    → Go version_2 (before ++ ps) (Outside parts) (all_lines ps ws) (Outside (parts ++ ws))
parts-go before [] parts [] e h = let q = append-nil parts in λ i. Outside (q i)
parts-go before (p ∷ ps) parts (w ∷ ws) e (h, hs) =
    let there : slice_get (before ++ p ∷ ps) (length parts) ≡ Some p = ap (slice_get (before ++ p ∷ ps)) e ∙ at-end before p ps in
    let r = parts-go (before ++ p ∷ []) ps (parts ++ w ∷ []) ws (omega (arith, e, length-append parts (w ∷ []), length-append before (p ∷ []))) hs in
    let a = subst (λ (z : List Subject). Go version_2 z (Outside (parts ++ w ∷ [])) (all_lines ps ws) (Outside ((parts ++ w ∷ []) ++ ws)))
    (append_assoc before (p ∷ []) ps) r in
    let b = subst (λ (z : List Written). Go version_2 (before ++ p ∷ ps) (Outside (parts ++ w ∷ [])) (all_lines ps ws) (Outside z))
    (append_assoc parts (w ∷ []) ws) a in
    go_append (judge_of version_2 (before ++ p ∷ ps)) (Outside parts) (Outside (parts ++ w ∷ [])) (Outside (parts ++ w ∷ ws)) (part_lines p w)
    (all_lines ps ws) (part-go (before ++ p ∷ ps) p parts there w h (some-orders p.sites)) b
parts-go before ps parts ws e h = absurd h

-- good parts, written as lines, are a valid listing
pub good_valid : GoodPartsAreValid
good_valid ps ws h = record { parts = ws; good = parts-go [] ps [] ws refl h; all = AllZip-long (IsGoodPart version_2) ps ws h }

-- what goes on from a state to another goes on to a further one
further : {S T : Type 0} (o : Option S) (f : S → Option T) (g : S → Option T) {a b : T} → ((u : S) → f u ≡ Some a → g u ≡ Some b)
    → next o f ≡ Some a → next o g ≡ Some b
further None f g h q = cc
further (Some u) f g h q = h u q

-- one line more
pub run-more : {B V L : Type 0} (e : Engine B V L) (lines : List (Line B)) (op : Op) (b : B) (r s t : State V L) → run e lines r ≡ Some s
    → step e op b s.locals s.stack ≡ Some t → run e (lines ++ record { op = op; bound = b } ∷ []) r ≡ Some t
run-more e [] op b r s t h k = let q : r ≡ s = cc in rw q (rw k refl)
run-more {V = V} {L = L} e (x ∷ xs) op b r s t h k = further (step e x.op x.bound r.locals r.stack) (λ u. run e xs u)
    (λ u. run e (xs ++ record { op = op; bound = b } ∷ []) u) (λ u q. run-more e xs op b u s t q k) h

-- the one remaining value
pub answer-is : {B V L : Type 0} (e : Engine B V L) (lines : List (Line B)) (l : L) (s : State V L) (v : V)
    → run e lines (record { stack = []; locals = l }) ≡ Some s → s.stack ≡ v ∷ [] → answer e l lines ≡ Some v
answer-is e lines l s v h k = rw h (rw k refl)

-- ---- lists
-- what stands at a place of a list with one more at the end
at-last : {A : Type 0} (xs : List A) (x y : A) (k : ℕ) → slice_get (xs ++ x ∷ []) k ≡ Some y → (slice_get xs k ≡ Some y) ⊎ ((k ≡ length xs) × (x ≡ y))
at-last [] x y zero h = inr (refl, some-same x y h)
at-last [] x y (suc k) h = cc
at-last (z ∷ xs) x y zero h = inl h
at-last (z ∷ xs) x y (suc k) h = elim (at-last xs x y k h) [ inl q ↦ inl q | inr q ↦ inr (ap suc q.0, q.1) ]

-- a fact that holds at each place of a list, and of one more at its end, holds at each place of both joined
pub everywhere-more : {A : Type 0} {P : ℕ → A → Type 0} (xs : List A) (x : A) → Everywhere P xs → P (length xs) x → Everywhere P (xs ++ x ∷ [])
everywhere-more {A} {P} xs x h here k y q = go (at-last xs x y k q)
  where
    go : (slice_get xs k ≡ Some y) ⊎ ((k ≡ length xs) × (x ≡ y)) → P k y
    go (inl r) = h k y r
    go (inr r) = subst (λ (j : ℕ). P j y) (sym r.0) (subst (λ (z : A). P (length xs) z) r.1 here)

-- ---- within a part
abbrev Blocks : Version → Subject → List Piece → Type 0
Blocks v p bs = Everywhere (λ k b. PieceStands v p b) bs

abbrev SpotStands : Version → Subject → Spot → Type 0
SpotStands v p Named = Unit {0}
SpotStands v p (InFilter lines s) = run (triple_rules v p.vars) lines fresh ≡ Some s
SpotStands v p (Between f bs) = IfSome f (FilterStands v p) × Blocks v p bs
SpotStands v p (InBlock f bs a lines s) = IfSome f (FilterStands v p) × Blocks v p bs × IsRising a × AreOfSites p.vars a
    × (run (block_rules v p.vars) lines fresh ≡ Some s) × (v.number ≡ 1 → AreBothWays lines)
SpotStands v p (Ordering w) = IfSome w.filter (FilterStands v p) × Blocks v p w.blocks × ListsStand p w.blocks w.lists

order-stands : (v : Version) (p : Subject) (w : Written) (places list : List ℕ) (t : Spot) → IfSome w.filter (FilterStands v p)
    → Blocks v p w.blocks → ListsStand p w.blocks w.lists → OrderLine p w places list t → SpotStands v p t
order-stands v p w places list t f b l r = rw r.to (f, b, everywhere-more w.lists list l here)
  where
    here : (others : List ℕ) → slice_get (orders_of p.sites) (length w.lists) ≡ Some others → ListStands p w.blocks others list
    here others q =
        let e : places ≡ others = some-same places others (sym r.next.order ∙ q) in
        subst (λ (z : List ℕ). ListStands p w.blocks z list) e (record { within = r.next.within; stages = r.next.stages })

both-more : (lines : List (Line Range)) (op : Op) (b : Range) → AreBothWays lines → b ≡ balanced (unsigned_abs b.high)
    → AreBothWays (lines ++ record { op = op; bound = b } ∷ [])
both-more [] op b h e = (e, tt)
both-more (x ∷ xs) op b h e = (h.0, both-more xs op b h.1 e)

spot-step : (v : Version) (p : Subject) (s : Spot) (line : Part) (t : Spot) → SpotStands v p s → LineRule v p s line t → SpotStands v p t
spot-step v p Named NoFilter t h r = rw r (tt, λ j x q. cc)
spot-step v p Named Filter t h r = rw r refl
spot-step v p (InFilter lines s) (FilterOp op b) t h r = rw r.2 (run-more (triple_rules v p.vars) lines op b fresh s r.0 h r.1.0)
spot-step v p (InFilter lines s) Decide t h r = rw r.to
    (record { left = r.left; answered = answer-is (triple_rules v p.vars) lines no_locals s r.left h r.one; whole = r.whole; narrow = r.narrow }, λ j x q. cc)
spot-step v p (Between f bs) (Block k a') t h r = rw r.to (h.0, h.1, r.rising, r.of_sites, refl, λ e. tt)
spot-step v p (Between f bs) (Order places list) t h r = order-stands v p (record { filter = f; blocks = bs; lists = [] }) places list t h.0 h.1 (λ j x q. cc) r
spot-step v p (InBlock f bs a lines s) (BlockOp op b) t h r = rw r.1.2
    (h.0, h.1, h.2, h.3, run-more (block_rules v p.vars) lines op (balanced b) fresh s r.1.0 h.4 r.1.1.0, λ e. both-more lines op (balanced b) (h.5 e) refl)
spot-step v p (InBlock f bs a lines s) (RangeOp op lo hi) t h r = rw r.1.2 (
  h.0,
  h.1,
  h.2,
  h.3,
  run-more (block_rules v p.vars) lines op (record { low = lo; high = hi }) fresh s r.1.0 h.4 r.1.1.0,
  λ e. absurd (omega (arith, e, r.0)),
)
spot-step v p (InBlock f bs a lines s) End t h r = rw r.to (
  h.0,
  everywhere-more bs (record { exps = a; lines = lines }) h.1 (record {
    left = r.left;
    answered = answer-is (block_rules v p.vars) lines no_locals s r.left h.4 r.one;
    derivative = r.derivative;
    rising = h.2;
    of_sites = h.3;
    bounds = h.5;
  }),
)
spot-step v p (Ordering w) (Order places list) t h r = order-stands v p w places list t h.0 h.1 h.2 r
spot-step v p s line t h r = absurd r

-- ---- all parts
abbrev HoldsAt : Version → List Subject → Place → Type 0
HoldsAt v ps (Outside parts) = PartsStand v ps parts
HoldsAt v ps (Within parts s) = PartsStand v ps parts × ((p : Subject) → slice_get ps (length parts) ≡ Some p → SpotStands v p s)

-- a line that leads on within a part
moved : (v : Version) (ps : List Subject) (p : Subject) (parts : List Written) (s : Spot) (line : Part) (q : Place) → PartsStand v ps parts
    → slice_get ps (length parts) ≡ Some p → SpotStands v p s → (t : Spot) × LineRule v p s line t × (q ≡ Within parts t) → HoldsAt v ps q
moved v ps p parts s line q all g h (t, r, to) =
    rw to (all, λ p' g'. let e : p ≡ p' = some-same p p' (sym g ∙ g') in subst (λ (z : Subject). SpotStands v z t) e (spot-step v p s line t h r))

part-step : (v : Version) (ps : List Subject) (p : Subject) (parts : List Written) (s : Spot) (line : Part) (q : Place)
    → PartsStand v ps parts → slice_get ps (length parts) ≡ Some p → SpotStands v p s → PartRule v p parts s line q → HoldsAt v ps q
part-step v ps p parts (Ordering w) Done q all g h r = rw r.to (everywhere-more parts w all (λ p' g'. let e : p ≡ p' = some-same p p' (sym g ∙ g') in
    subst (λ (z : Subject). PartStands v z w) e (record { filter = h.0; blocks = h.1; lists = h.2; all = r.all })))
part-step v ps p parts s line q all g h r = moved v ps p parts s line q all g h r

rule-step : (v : Version) (ps : List Subject) (here : Place) (line : Part) (q : Place) → HoldsAt v ps here → Rule v ps here line q → HoldsAt v ps q
rule-step v ps (Outside parts) (Predicate name) q h r = rw r.to (h, λ p g. tt)
rule-step v ps (Outside parts) line q h r = absurd r
rule-step v ps (Within parts s) line q h (p, g, r) = part-step v ps p parts s line q h.0 g (h.1 p g) r

go-stands : (v : Version) (ps : List Subject) (here : Place) (lines : List Part) (q : Place) → HoldsAt v ps here → Go v ps here lines q → HoldsAt v ps q
go-stands v ps here [] q h r = rw r h
go-stands v ps here (line ∷ lines) q h (t, r, g) = go-stands v ps t lines q (rule-step v ps here line t h r) g

-- in a valid listing each predicate's part is there
pub valid-stands : ValidPartsStand
valid-stands v ps lines h = go-stands v ps (Outside []) lines (Outside h.parts) (λ k x q. cc) h.good
