-- A listing leads from the first line to the end, and what does so is a listing.
use Rattle.std.proofs.Common.{◌≡◌, ℕ, ℤ, ◌==◌, not, Bool, true, false, List, [], ◌∷◌, Option, Some, None, ◌⊎◌, inl, inr, refl, sym, ap, ◌∙◌}
use Rattle.std.specs.Prelude.{if◌then◌else◌}
use Rattle.std.proofs.lemmas.Bool.{eqb-true}
use Rattle.ln_code.specs.declared.op.Op.{Op}
use Rattle.ln_cert.specs.declared.part.Part.{Part}
use Rattle.ln_cert.specs.declared.part.Part.TheVariants.{Predicate, NoFilter, Filter, FilterOp, Decide, Block, BlockOp, RangeOp, End, Order, Done}
use Rattle.ln_cert.specs.declared.part.State.{State}
use Rattle.ln_cert.specs.declared.part.State.TheVariants.{Top, Opened, InFilter, Planned, InBlock, Blocks, Orders}
use Rattle.ln_cert.specs.Listing.{FilterOps, BlockOps, AFilter, SomeBlocks, SomeOrders, Predicates}
use Rattle.ln_cert.specs.Listing as form
use Rattle.ln_cert.specs.Reading.{list_rules, next_of}
pub use Rattle.ln_cert.specs.Reading.{goes}
use Rattle.ln_base.proofs.Forms.Walk.{goes_none}

-- the state in which the lines of a listing start
abbrev pub start : Option State
start = Some Top

filter_ops : (v : ℕ) {xs r : List Part} → FilterOps xs r → goes v (Some InFilter) xs ≡ goes v (Some InFilter) r
filter_ops v form.FilterOps.none = refl
filter_ops v (form.FilterOps.more d) = filter_ops v d

bound_goes : (v : ℕ) (o : Op) (b : ℕ) → (v == 1) ≡ true → next_of v InBlock (BlockOp o b) ≡ Some InBlock
bound_goes v o b e = ap (λ (t : Bool). if t then Some InBlock else None) e

range_goes : (v : ℕ) (o : Op) (l u : ℤ) → not (v == 1) ≡ true → next_of v InBlock (RangeOp o l u) ≡ Some InBlock
range_goes v o l u e = ap (λ (t : Bool). if t then Some InBlock else None) e

is_one : (v : ℕ) → v ≡ 1 → (v == 1) ≡ true
is_one v e = ap (λ n. n == 1) e

is_two : (v : ℕ) → v ≡ 2 → not (v == 1) ≡ true
is_two v e = ap (λ n. not (n == 1)) e

block_ops : (v : ℕ) {xs r : List Part} → BlockOps v xs r → goes v (Some InBlock) xs ≡ goes v (Some InBlock) r
block_ops v form.BlockOps.none = refl
block_ops v (form.BlockOps.bound {xs = xs} {o = o} {b = b} e d) = ap (λ s. goes v s xs) (bound_goes v o b (is_one v e)) ∙ block_ops v d
block_ops v (form.BlockOps.range {xs = xs} {o = o} {l = l} {u = u} e d) = ap (λ s. goes v s xs) (range_goes v o l u (is_two v e)) ∙ block_ops v d

a_filter : (v : ℕ) {xs r : List Part} → AFilter xs r → goes v (Some Opened) xs ≡ goes v (Some Planned) r
a_filter v form.AFilter.nothing = refl
a_filter v (form.AFilter.filter d) = filter_ops v d

blocks : (v : ℕ) {xs r : List Part} → SomeBlocks v xs r
    → (goes v (Some Planned) xs ≡ goes v (Some Blocks) r) × (goes v (Some Blocks) xs ≡ goes v (Some Blocks) r)
blocks v (form.SomeBlocks.last d) = (block_ops v d, block_ops v d)
blocks v (form.SomeBlocks.more d e) = let r = blocks v e in (block_ops v d ∙ r.1, block_ops v d ∙ r.1)

orders : (v : ℕ) {xs r : List Part} → SomeOrders xs r → (goes v (Some Blocks) xs ≡ goes v (Some Orders) r) × (goes v (Some Orders) xs ≡ goes v (Some Orders) r)
orders v form.SomeOrders.last = (refl, refl)
orders v (form.SomeOrders.more d) = let r = orders v d in (r.1, r.1)

-- the lines of any number of predicates lead from the start back to it
pub whole : (v : ℕ) {xs : List Part} → Predicates v xs → goes v start xs ≡ Some Top
whole v form.Predicates.none = refl
whole v (form.Predicates.more f b o p) = let q = blocks v b in let r = orders v o in a_filter v f ∙ q.0 ∙ r.0 ∙ whole v p

-- ---- and back
record Ends (v : ℕ) (zs : List Part) : Type 0 where
  rest : List Part
  orders : SomeOrders zs (Done ∷ rest)
  more : Predicates v rest

record Plans (v : ℕ) (xs : List Part) : Type 0 where
  rest : List Part
  blocks : SomeBlocks v xs rest
  ends : Ends v rest

record Fills (v : ℕ) (xs : List Part) : Type 0 where
  rest : List Part
  ops : BlockOps v xs (End ∷ rest)
  next : Ends v rest ⊎ Plans v rest

record Filters (v : ℕ) (xs : List Part) : Type 0 where
  rest : List Part
  ops : FilterOps xs (Decide ∷ rest)
  plans : Plans v rest

record Opens (v : ℕ) (xs : List Part) : Type 0 where
  rest : List Part
  filter : AFilter xs rest
  plans : Plans v rest

record Closes (v : ℕ) (xs : List Part) : Type 0 where
  rest : List Part
  done : (xs ≡ Done ∷ rest) ⊎ SomeOrders xs (Done ∷ rest)
  more : Predicates v rest

abbrev Wants : ℕ → State → List Part → Type 0
Wants v Top xs = Predicates v xs
Wants v Opened xs = Opens v xs
Wants v InFilter xs = Filters v xs
Wants v Planned xs = Plans v xs
Wants v InBlock xs = Fills v xs
Wants v Blocks xs = Ends v xs ⊎ Plans v xs
Wants v Orders xs = Closes v xs

dead : {A : Type 0} (v : ℕ) (xs : List Part) → goes v None xs ≡ Some Top → A
dead v xs e = let n = goes_none (list_rules v) xs in absurd (cc)

opened : (v : ℕ) {n : List ℕ} {xs : List Part} → Opens v xs → Predicates v (Predicate n ∷ xs)
opened v o = form.Predicates.more o.filter o.plans.blocks o.plans.ends.orders o.plans.ends.more

block : (v n : ℕ) (exps : List (ℕ × ℕ)) (xs : List Part) → Fills v xs → Plans v (Block n exps ∷ xs)
block v n exps xs w = by w.next
  where
    by : Ends v w.rest ⊎ Plans v w.rest → Plans v (Block n exps ∷ xs)
    by (inl e) = record { rest = w.rest; blocks = form.SomeBlocks.last w.ops; ends = e }
    by (inr p) = record { rest = p.rest; blocks = form.SomeBlocks.more w.ops p.blocks; ends = p.ends }

order : (v : ℕ) (places list : List ℕ) (xs : List Part) → Closes v xs → Ends v (Order places list ∷ xs)
order v places list xs w = by xs w.done
  where
    by : (ys : List Part) → (ys ≡ Done ∷ w.rest) ⊎ SomeOrders ys (Done ∷ w.rest) → Ends v (Order places list ∷ ys)
    by ys (inl e) = rw e (record { rest = w.rest; orders = form.SomeOrders.last; more = w.more })
    by ys (inr s) = record { rest = w.rest; orders = form.SomeOrders.more s; more = w.more }

-- a bound is in version 1 alone, two ends in version 2 alone
bound : (v : ℕ) (o : Op) (b : ℕ) (xs : List Part) → (goes v (Some InBlock) xs ≡ Some Top → Fills v xs)
    → goes v (next_of v InBlock (BlockOp o b)) xs ≡ Some Top → Fills v (BlockOp o b ∷ xs)
bound v o b xs f e = by (v == 1) (eqb-true v 1) e
  where
    by : (t : Bool) → (t ≡ true → v ≡ 1) → goes v (if t then Some InBlock else None) xs ≡ Some Top → Fills v (BlockOp o b ∷ xs)
    by true q e = let w = f e in record { rest = w.rest; ops = form.BlockOps.bound (q refl) w.ops; next = w.next }
    by false q e = dead v xs e

range : (v : ℕ) (o : Op) (l u : ℤ) (xs : List Part) → (v ≡ 1) ⊎ (v ≡ 2) → (goes v (Some InBlock) xs ≡ Some Top → Fills v xs)
    → goes v (next_of v InBlock (RangeOp o l u)) xs ≡ Some Top → Fills v (RangeOp o l u ∷ xs)
range v o l u xs (inl k) f e = dead v xs (sym (ap (λ (t : Bool). goes v (if not t then Some InBlock else None) xs) (is_one v k)) ∙ e)
range v o l u xs (inr k) f e =
    let w = f (sym (ap (λ s. goes v s xs) (range_goes v o l u (is_two v k))) ∙ e) in
    record { rest = w.rest; ops = form.BlockOps.range k w.ops; next = w.next }

builds : (v : ℕ) (s : State) (xs : List Part) → (v ≡ 1) ⊎ (v ≡ 2) → goes v (Some s) xs ≡ Some Top → Wants v s xs
builds v Top [] k e = form.Predicates.none
builds v s [] k e = absurd (cc)
builds v Top (Predicate n ∷ xs) k e = opened v (builds v Opened xs k e)
builds v Top (p ∷ xs) k e = dead v xs e
builds v Opened (NoFilter ∷ xs) k e = record { rest = xs; filter = form.AFilter.nothing; plans = builds v Planned xs k e }
builds v Opened (Filter ∷ xs) k e = let w = builds v InFilter xs k e in record { rest = w.rest; filter = form.AFilter.filter w.ops; plans = w.plans }
builds v Opened (p ∷ xs) k e = dead v xs e
builds v InFilter (FilterOp o t ∷ xs) k e = let w = builds v InFilter xs k e in record { rest = w.rest; ops = form.FilterOps.more w.ops; plans = w.plans }
builds v InFilter (Decide ∷ xs) k e = record { rest = xs; ops = form.FilterOps.none; plans = builds v Planned xs k e }
builds v InFilter (p ∷ xs) k e = dead v xs e
builds v Planned (Block n exps ∷ xs) k e = block v n exps xs (builds v InBlock xs k e)
builds v Planned (p ∷ xs) k e = dead v xs e
builds v InBlock (BlockOp o b ∷ xs) k e = bound v o b xs (λ q. builds v InBlock xs k q) e
builds v InBlock (RangeOp o l u ∷ xs) k e = range v o l u xs k (λ q. builds v InBlock xs k q) e
builds v InBlock (End ∷ xs) k e = record { rest = xs; ops = form.BlockOps.none; next = builds v Blocks xs k e }
builds v InBlock (p ∷ xs) k e = dead v xs e
builds v Blocks (Block n exps ∷ xs) k e = inr (block v n exps xs (builds v InBlock xs k e))
builds v Blocks (Order places list ∷ xs) k e = inl (order v places list xs (builds v Orders xs k e))
builds v Blocks (p ∷ xs) k e = dead v xs e
builds v Orders (Order places list ∷ xs) k e =
    let w = order v places list xs (builds v Orders xs k e) in
    record { rest = w.rest; done = inr w.orders; more = w.more }
builds v Orders (Done ∷ xs) k e = record { rest = xs; done = inl refl; more = builds v Top xs k e }
builds v Orders (p ∷ xs) k e = dead v xs e

-- lines of version 1 or 2 that lead from the start back to it are predicates
pub is_form : (v : ℕ) (xs : List Part) → (v ≡ 1) ⊎ (v ≡ 2) → goes v start xs ≡ Some Top → Predicates v xs
is_form v xs k e = builds v Top xs k e
