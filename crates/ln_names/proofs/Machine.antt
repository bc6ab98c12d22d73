-- An expression is read as its tree says.
use Rattle.std.proofs.Common.{◌≡◌, ℕ, suc, ◌+◌, ◌-◌, ◌<◌, ◌≤◌, nat_lt, Bool, true, false, cond, List, [], ◌∷◌, Option, Some}
use Rattle.std.proofs.Common.{None, refl, ap, sym, ◌∙◌, subst, arith, add-one}
use Rattle.ln_syntax.specs.Raw.{Span, Token, Is, kind_at, span_at, Kind, Name, Number, ParL, ParR, Dot, Plus, Minus, Star, Caret as CaretToken, Semi}
use Rattle.ln_names.specs.Rules.{Places, Scope, OperatorNode}
use Rattle.ln_syntax.specs.Expression.{Tree, TNum, TName, TInput, TAdd, TSub, TMul, TPow, Sort, Atom, Power, Unary, Term, Sum as SumOf, Factors, Terms, Derives}
use Rattle.ln_syntax.specs.Expression.{number, name, input, parens, plain, power, base, minus, term, no_factor, times, sum, no_term, plus, less}
use Rattle.ln_syntax.specs.Stops.{strength_of, Stops}
use Rattle.ln_syntax.proofs.Spellings.OneTree.{stops, tighter, factors_stop, terms_stop}
use Rattle.ln_names.specs.Visits.{is_dot, is_caret, ends_operand, role_of, role_at, expr_visits, nodes}
use Rattle.ln_names.specs.declared.nodes.Operation.{Operation}
use Rattle.ln_names.specs.declared.nodes.Operation.TheVariants.{Negation, Sum, Difference, Product}
use Rattle.ln_names.specs.declared.nodes.Waiting.{Waiting}
use Rattle.ln_names.specs.declared.nodes.Waiting.TheVariants.{Open, For}
use Rattle.ln_names.specs.declared.roles.Role.{Role}
use Rattle.ln_names.specs.declared.roles.Role.TheVariants.{Value, AfterCaret, Bare, Input, AfterDot, Operator, Caret}
use Rattle.ln_names.specs.declared.nodes.Node.{Node}
use Rattle.ln_names.specs.Machine.{binding, Machine, machine, settle, settled, wait, closed, enclose, step_by, machine_step, read}
use Rattle.ln_names.specs.Nodes.{postfix, Begins, AreNodes}
use Rattle.ln_names.proofs.Trees.{Judged, judge, judged, judge_by, judges, judges_visits}

-- ---- what settles at a lower strength settles at a higher one first
lower3 : (ws : List Waiting) (ns : List Node) → settled 2 (settle 3 ws ns) ≡ settle 2 ws ns
lower3 [] ns = refl
lower3 (Open ∷ ws) ns = refl
lower3 (For Negation at ∷ ws) ns = lower3 ws _
lower3 (For Sum at ∷ ws) ns = refl
lower3 (For Difference at ∷ ws) ns = refl
lower3 (For Product at ∷ ws) ns = refl

lower2 : (ws : List Waiting) (ns : List Node) → settled 1 (settle 2 ws ns) ≡ settle 1 ws ns
lower2 [] ns = refl
lower2 (Open ∷ ws) ns = refl
lower2 (For Negation at ∷ ws) ns = lower2 ws _
lower2 (For Product at ∷ ws) ns = lower2 ws _
lower2 (For Sum at ∷ ws) ns = refl
lower2 (For Difference at ∷ ws) ns = refl

-- what waits last, if anything, is a parenthesis or binds less tightly
abbrev is_low : ℕ → List Waiting → Bool
is_low b [] = true
is_low b (Open ∷ ws) = true
is_low b (For p at ∷ ws) = nat_lt (binding p) b

-- then nothing settles
low_settles : (b : ℕ) (ws : List Waiting) (ns : List Node) → is_low b ws ≡ true → settle b ws ns ≡ machine ws ns
low_settles b [] ns h = refl
low_settles b (Open ∷ ws) ns h = refl
low_settles b (For p at ∷ ws) ns h = rw h refl

lower : (ws : List Waiting) → is_low 1 ws ≡ true → is_low 2 ws ≡ true
lower [] h = refl
lower (Open ∷ ws) h = refl
lower (For Negation at ∷ ws) h = absurd (cc)
lower (For Product at ∷ ws) h = absurd (cc)
lower (For Sum at ∷ ws) h = refl
lower (For Difference at ∷ ws) h = refl

-- ---- what comes before a place
-- an operand
pub record Behind (ts : List Token) (i : ℕ) : Type 0 where
  pub operand : ends_operand (kind_at ts (i - 1)) ≡ true

before : (ts : List Token) (i : ℕ) {k : Kind} → Is ts i k → kind_at ts (suc i - 1) ≡ Some k
before ts i h = let e : suc i - 1 ≡ i = omega arith in ap (λ (w : ℕ). kind_at ts w) e ∙ h

-- after a token that is none of these
pub begins : {ts : List Token} {i : ℕ} (k : Kind) → Is ts i k → is_caret (Some k) ≡ false → is_dot (Some k) ≡ false → ends_operand (Some k) ≡ false
    → Begins ts (suc i)
begins {ts = ts} {i = i} k h c d o =
    let q = before ts i h in record { no_caret = ap is_caret q ∙ c; no_dot = ap is_dot q ∙ d; no_operand = ap ends_operand q ∙ o }

behind : {ts : List Token} {i : ℕ} (k : Kind) → Is ts i k → ends_operand (Some k) ≡ true → Behind ts (suc i)
behind {ts = ts} {i = i} k h o = record { operand = ap ends_operand (before ts i h) ∙ o }

-- where an atom stops, no dot follows
no_dot_by : (o : Option Kind) → strength_of o < 4 → is_dot o ≡ false
no_dot_by None h = refl
no_dot_by (Some Dot) h = absurd (omega arith)
no_dot_by (Some k) h = refl

-- ---- roles
value_role : {ts : List Token} {i : ℕ} → Is ts i Number → Begins ts i → role_at ts i ≡ Some Value
value_role {ts = ts} {i = i} h f = ap (role_of ts i) h ∙ rw f.no_caret refl

exponent_role : (ts : List Token) (j : ℕ) → Is ts j CaretToken → Is ts (suc j) Number → role_at ts (suc j) ≡ Some AfterCaret
exponent_role ts j c n =
    let r : is_caret (kind_at ts (suc j - 1)) ≡ true = ap is_caret (before ts j c) in
    ap (role_of ts (suc j)) n ∙ rw r refl

name_role : {ts : List Token} {i : ℕ} (b : Bool) → Is ts i Name → Begins ts i → is_dot (kind_at ts (i + 1)) ≡ b
    → role_at ts i ≡ cond b (Some Input) (Some Bare)
name_role {ts = ts} {i = i} b h f d = ap (role_of ts i) h ∙ rw (f.no_dot, d) refl

coord_role : (ts : List Token) (j : ℕ) → Is ts j Dot → Is ts (suc j) Name → role_at ts (suc j) ≡ Some AfterDot
coord_role ts j c n =
    let r : is_dot (kind_at ts (suc j - 1)) ≡ true = ap is_dot (before ts j c) in
    ap (role_of ts (suc j)) n ∙ rw r refl

minus_role : (ts : List Token) (i : ℕ) (b : Bool) → Is ts i Minus → ends_operand (kind_at ts (i - 1)) ≡ b
    → role_at ts i ≡ cond b (Some (Operator Difference)) (Some (Operator Negation))
minus_role ts i b h e = ap (role_of ts i) h ∙ rw e refl

-- ---- reading from place to place

-- a machine, and the tokens that were judged beside it
record State : Type 0 where
  pub machine : Machine
  pub judged : Judged

module _ (bytes : List ℕ) (ts : List Token) (s : Scope) where
  abbrev state : Machine → Judged → State
  state m j = record { machine = m; judged = j }

  abbrev stepped : ℕ → Option Role → State → State
  stepped k r st = state (step_by bytes ts s k r st.machine) (judge_by ts s k r st.judged)

  -- from place i up to place j a state becomes another
  data Run : ℕ → ℕ → State → State → Type 0 where
    done : {i : ℕ} {st : State} → Run i i st st
    on : {i j : ℕ} {st to : State} → Run (suc i) j (stepped i (role_at ts i) st) to → Run i j st to

  then : {i j k : ℕ} {a b c : State} → Run i j a b → Run j k b c → Run i k a c
  then done r = r
  then (on l) r = on (then l r)

  -- a token of this role
  one : {i : ℕ} {st to : State} (r : Option Role) → role_at ts i ≡ r → stepped i r st ≡ to → Run i (suc i) st to
  one {i = i} {st = st} r h e =
      let q : stepped i (role_at ts i) st ≡ _ = ap (λ (w : Option Role). stepped i w st) h ∙ e in
      on (subst (λ (w : State). Run (suc i) (suc i) (stepped i (role_at ts i) st) w) q done)

  -- what is settled of a state
  abbrev settles : ℕ → State → State
  settles b st = state (settled b st.machine) st.judged

  -- one more operation waits
  abbrev waits : State → Operation → Span → State
  waits st p at = state (wait st.machine (For p at)) (judge st.judged (OperatorNode st.judged.count) at 1)

  -- from place i up to place j a state becomes one that differs from `goal` in what waits and binds tightly
  record Reads (by : State → State) (i j : ℕ) (st goal : State) : Type 0 where
    to : State
    run : Run i j st to
    same : by to ≡ by goal
    end : Behind ts j

  abbrev id : State → State
  id st = st

  -- a state once a tree was read
  abbrev after : Tree → State → State
  after e st = state (machine st.machine.waiting (postfix bytes s e st.machine.nodes)) (judged s e st.judged)

  -- how tokens of a sort are read
  abbrev Means : Sort → ℕ → ℕ → Tree → Type 0
  Means (Factors f) i j e = (st to : State) → is_low 2 st.machine.waiting ≡ true → settles 2 to ≡ after f st → Behind ts i → Reads (settles 2) i j to
      (after e st)
  Means (Terms f) i j e = (st to : State) → is_low 1 st.machine.waiting ≡ true → settles 1 to ≡ after f st → Behind ts i → Reads (settles 1) i j to (after e st)
  Means Unary i j e = Begins ts i → (st : State) → Reads (settles 3) i j st (after e st)
  Means Term i j e = Begins ts i → (st : State) → is_low 2 st.machine.waiting ≡ true → Reads (settles 2) i j st (after e st)
  Means SumOf i j e = Begins ts i → (st : State) → is_low 1 st.machine.waiting ≡ true → Reads (settles 1) i j st (after e st)
  Means o i j e = Begins ts i → (st : State) → Reads id i j st (after e st)

  -- what settles alike at 3 does at 2, and what does at 2 does at 1
  to_two : (st a : State) → settles 3 st ≡ settles 3 a → settles 2 st ≡ settles 2 a
  to_two st a h = ap (λ m. state m st.judged) (sym (lower3 st.machine.waiting st.machine.nodes)) ∙ ap (settles 2) h
      ∙ ap (λ m. state m a.judged) (lower3 a.machine.waiting a.machine.nodes)

  to_one : (st a : State) → settles 2 st ≡ settles 2 a → settles 1 st ≡ settles 1 a
  to_one st a h = ap (λ m. state m st.judged) (sym (lower2 st.machine.waiting st.machine.nodes)) ∙ ap (settles 1) h
      ∙ ap (λ m. state m a.judged) (lower2 a.machine.waiting a.machine.nodes)

  -- where what waits is low, a tree that was read is settled
  low_after : (b : ℕ) (e : Tree) (st : State) → is_low b st.machine.waiting ≡ true → settles b (after e st) ≡ after e st
  low_after b e st h = ap (λ m. state m (judged s e st.judged)) (low_settles b st.machine.waiting (postfix bytes s e st.machine.nodes) h)

  -- one stretch, then another
  both : {f : State → State} {i j k : ℕ} {a b c : State} → Run i j a b → Reads f j k b c → Reads f i k a c
  both l r = record { to = r.to; run = then l r.run; same = r.same; end = r.end }

  means : {o : Sort} {i j : ℕ} {e : Tree} → Derives ts o i j e → Stops ts o j → Means o i j e
  means (number {i = i} n) q = λ f st.
      record { to = after (TNum (span_at ts i)) st; run = one (Some Value) (value_role n f) refl; same = refl; end = behind Number n refl }
  means (name {i = i} n) q =
      let e : suc i ≡ i + 1 = omega arith in
      let d : is_dot (kind_at ts (i + 1)) ≡ false = subst (λ (x : ℕ). is_dot (kind_at ts x) ≡ false) e (no_dot_by (kind_at ts (suc i)) q.weak) in
      λ f st. record { to = after (TName (span_at ts i)) st; run = one (Some Bare) (name_role false n f d) refl; same = refl; end = behind Name n refl }
  means (input {i = i} n d x) q =
      let e : suc i ≡ i + 1 = omega arith in
      let g : suc (suc i) - 2 ≡ i = omega arith in
      let h : is_dot (kind_at ts (i + 1)) ≡ true = subst (λ (y : ℕ). is_dot (kind_at ts y) ≡ true) e (ap is_dot d) in
      λ f st.
      let first = stepped i (Some Input) st in
      let last : stepped (suc (suc i)) (Some AfterDot) first ≡ after (TInput (span_at ts i) (span_at ts (suc (suc i)))) st = rw g refl in
      record {
        to = after (TInput (span_at ts i) (span_at ts (suc (suc i)))) st;
        run = then (one (Some Input) (name_role true n f h) refl) (then (one None (ap (role_of ts (suc i)) d) (ap (λ k. state
            (enclose k first.machine) first.judged) d))
            (one (Some AfterDot) (coord_role ts (suc i) d x) last));
        same = refl;
        end = behind Name x refl;
      }
  means (parens {i = i} {j = j} {e = t} n d c) q = λ f st.
      let opened = state (wait st.machine Open) st.judged in
      let r = means d (stops SumOf ParR c (omega arith)) (begins ParL n refl refl refl) opened refl in
      record {
        to = after t st;
        run = then (one None (ap (role_of ts i) n) (ap (λ k. state (enclose k st.machine) st.judged) n))
            (then r.run (one None (ap (role_of ts j) c) (ap (λ k. state (enclose k r.to.machine) r.to.judged) c ∙ ap (λ x. state
            (closed x.machine) x.judged) r.same)));
        same = refl;
        end = behind ParR c refl;
      }
  means (plain d) q = means d (tighter Atom q (λ x. omega arith))
  means (power {i = i} {j = j} {e = t} d c n) q = λ f st.
      let r = means d (stops Atom CaretToken c (omega arith)) f st in
      let g : suc j - 1 ≡ j = omega arith in
      let raised = stepped j (Some Caret) (after t st) in
      let last : stepped (suc j) (Some AfterCaret) raised ≡ after (TPow (span_at ts j) t (span_at ts (suc j))) st = rw g refl in
      record {
        to = after (TPow (span_at ts j) t (span_at ts (suc j))) st;
        run = then (subst (λ (w : State). Run i j st w) r.same r.run)
            (then (one (Some Caret) (ap (role_of ts j) c) refl) (one (Some AfterCaret) (exponent_role ts j c n) last));
        same = refl;
        end = behind Number n refl;
      }
  means (base d) q = λ f st.
      let r = means d (tighter Power q (λ x. omega arith)) f st in
      record { to = r.to; run = r.run; same = ap (settles 3) r.same; end = r.end }
  means (minus {i = i} m d) q = λ f st.
      let next = waits st Negation (span_at ts i) in
      let r = means d q (begins Minus m refl refl refl) next in
      record { to = r.to; run = then (one (Some (Operator Negation)) (minus_role ts i false m f.no_operand) refl) r.run; same = r.same; end = r.end }
  means (term {f = g} d r) q = λ f st low.
      let l = means d (factors_stop r q) f st in
      both l.run (means r (tighter (Factors g) q (λ x. omega arith)) st l.to low
      (to_two l.to (after g st) l.same ∙ low_after 2 g st low) l.end)
  means (no_factor {f = g}) q = λ st to low h b.
      record { to = to; run = done; same = h ∙ sym (low_after 2 g st low); end = b }
  means (times {i = i} {f = g} {g = k} t d r) q = λ st to low h b.
      let next = waits (after g st) Product (span_at ts i) in
      let u = means d (factors_stop r (tighter Term q (λ x. omega arith))) (begins Star t refl refl refl) next in
      let w : Run i (suc i) to next = one (Some (Operator Product)) (ap (role_of ts i) t) (ap (λ x. waits x Product (span_at ts i)) h) in
      both (then w u.run) (means r (tighter (Factors (TMul (span_at ts i) g k)) q (λ x. omega arith)) st u.to low
      (to_two u.to (after k next) u.same ∙ low_after 2 (TMul (span_at ts i) g k) st low) u.end)
  means (sum {f = g} d r) q = λ f st low.
      let l = means d (terms_stop r q) f st (lower st.machine.waiting low) in
      both l.run (means r (tighter (Terms g) q (λ x. omega arith)) st l.to low
      (to_one l.to (after g st) l.same ∙ low_after 1 g st low) l.end)
  means (no_term {f = g}) q = λ st to low h b.
      record { to = to; run = done; same = h ∙ sym (low_after 1 g st low); end = b }
  means (plus {i = i} {f = g} {g = k} t d r) q = λ st to low h b.
      let next = waits (after g st) Sum (span_at ts i) in
      let u = means d (terms_stop r (tighter SumOf q (λ x. omega arith))) (begins Plus t refl refl refl) next refl in
      let w : Run i (suc i) to next = one (Some (Operator Sum)) (ap (role_of ts i) t) (ap (λ x. waits x Sum (span_at ts i)) h) in
      both (then w u.run) (means r (tighter (Terms (TAdd (span_at ts i) g k)) q (λ x. omega arith)) st u.to low
      (to_one u.to (after k next) u.same ∙ low_after 1 (TAdd (span_at ts i) g k) st low) u.end)
  means (less {i = i} {f = g} {g = k} t d r) q = λ st to low h b.
      let next = waits (after g st) Difference (span_at ts i) in
      let u = means d (terms_stop r (tighter SumOf q (λ x. omega arith))) (begins Minus t refl refl refl) next refl in
      let w : Run i (suc i) to next = one (Some (Operator Difference)) (minus_role ts i true t b.operand) (ap (λ x. waits x Difference (span_at ts i)) h) in
      both (then w u.run) (means r (tighter (Terms (TSub (span_at ts i) g k)) q (λ x. omega arith)) st u.to low
      (to_one u.to (after k next) u.same ∙ low_after 1 (TSub (span_at ts i) g k) st low) u.end)

  -- the number of steps from one token to another, and what they come to
  record Steps (i j : ℕ) (st to : State) : Type 0 where
    many : ℕ
    ends : i + many ≡ j
    machine : read bytes ts s i many st.machine ≡ to.machine
    judged : judges ts s i many st.judged ≡ to.judged

  steps : {i j : ℕ} {st to : State} → Run i j st to → Steps i j st to
  steps done = record { many = 0; ends = omega arith; machine = refl; judged = refl }
  steps (on r) = let g = steps r in record { many = suc g.many; ends = omega (arith, g.ends); machine = g.machine; judged = g.judged }

  -- an expression before a semicolon: its nodes are those of its tree in postfix order, and its tokens are judged as those of its tree
  pub record ReadAs (i j : ℕ) (e : Tree) (o : Judged) : Type 0 where
    pub nodes : settled 1 (read bytes ts s i (j - i) (machine [] [])) ≡ machine [] (postfix bytes s e [])
    pub tokens : judges ts s i (j - i) o ≡ judged s e o

  -- the tokens of an expression are read as its tree says
  pub read_as : {i j : ℕ} {e : Tree} (o : Judged) → Derives ts SumOf i j e → Is ts j Semi → Begins ts i → ReadAs i j e o
  read_as {i = i} {j = j} o d h f =
      let st = state (machine [] []) o in
      let r = means d (stops SumOf Semi h (omega arith)) f st refl in
      let g = steps r.run in
      let q : j - i ≡ g.many = omega (arith, g.ends) in
      record {
        nodes = ap (λ (n : ℕ). settled 1 (read bytes ts s i n (machine [] []))) q ∙ ap (settled 1) g.machine ∙ ap (λ x. x.machine) r.same;
        tokens = ap (λ (n : ℕ). judges ts s i n o) q ∙ g.judged ∙ ap (λ x. x.judged) r.same;
      }

-- the tokens of an expression are judged as its tree says
pub tokens_of : (ts : List Token) (s : Scope) (n : ℕ) {i j : ℕ} {e : Tree} → Derives ts SumOf i j e → Is ts j Semi → Begins ts i
    → judged s e (record { visits = []; count = n }) ≡ record { visits = expr_visits ts s n i (j - i); count = n + nodes ts i (j - i) }
tokens_of ts s n {i = i} {j = j} d h b =
    let o : Judged = record { visits = []; count = n } in
    sym (read_as [] ts s o d h b).tokens ∙ judges_visits ts s (j - i) i o

-- the step of a loop over tokens: what is read of the remaining ones is what is read of all
pub read_next : (bytes : List ℕ) (ts : List Token) (s : Scope) (k to : ℕ) (m n x : Machine) → k < to → read bytes ts s k (to - k) m ≡ x
    → n ≡ machine_step bytes ts s k m → read bytes ts s (k + 1) (to - (k + 1)) n ≡ x
read_next bytes ts s k to m n x h l q = let e : to - k ≡ suc (to - suc k) = omega arith in rw (q, add-one k) (rw e at l)

-- the end of a loop over the tokens of an expression: what is settled are its nodes
pub nodes_read : (bytes : List ℕ) (ts : List Token) (s : Scope) (p : Places) (k : ℕ) (m n : Machine) → p.to ≤ k
    → read bytes ts s k (p.to - k) m ≡ read bytes ts s p.from (p.to - p.from) (machine [] []) → n ≡ settled 1 m → AreNodes bytes ts s p n.nodes
nodes_read bytes ts s p k m n h l q = λ e d t b.
    let z : p.to - k ≡ 0 = omega arith in
    let r = rw z at l in
    let x = (read_as bytes ts s (record { visits = []; count = 0 }) d t b).nodes in
    ap (λ (w : Machine). w.nodes) (q ∙ ap (settled 1) r ∙ x)
