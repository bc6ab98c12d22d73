-- Lines within the part of a predicate: from what a stack does to what the whole state stands for.
use Rattle.std.proofs.Common.{◌≡◌, ℕ, ◌+◌, ◌==◌, not, Bool, true, false, List, [], ◌∷◌, ◌++◌, length, refl, sym, ap, arith, subst, ◌∙◌}
use Rattle.std.proofs.lemmas.List.{length-append, length-map, map-append}
use Rattle.std.proofs.lemmas.List.Elements.{All-nil, All-push, All-same}
use Rattle.std.specs.Prelude.{Option, Some, None}
use Rattle.std.proofs.lemmas.Bool.{eqb-true}
use Rattle.ln_tree.specs.Exps.{IsAbove, IsRising, Pairs}
use Rattle.ln_code.specs.Engine.{State}
use Rattle.ln_code.specs.FilterRules.{FilterKnown}
use Rattle.ln_code.specs.Kept.{AreOfSites}
use Rattle.ln_verify.specs.Line.{fresh}
use Rattle.ln_code.specs.declared.op.Op.{Op}
use Rattle.ln_code.specs.declared.op.Triple.{Triple}
use Rattle.ln_interval.specs.Range.{Range}
use Rattle.ln_code.specs.Rules.{Known}
use Rattle.ln_code.proofs.Exponents.{sites-above}
use Rattle.ln_verify.specs.BlockRules.{Version, balanced}
use Rattle.ln_verify.specs.Line.{Between, InBlock, InFilter, IsNextList, Named, Ordering, Piece, Subject, exps_of}
use Rattle.ln_cert.specs.declared.part.Part.TheVariants.{Filter, FilterOp, Decide, Block, BlockOp, RangeOp, End, NoFilter, Order}
use Rattle.ln_verify.specs.declared.progress.Progress.{Progress}
use Rattle.ln_verify.specs.Here.{AreAbove, BlockEnds, FilterDecides, Leads}
use Rattle.ln_verify.specs.Works.{BlockStep, BlockStack, FilterStack, IsBlockStack, IsFilterStack, FilterStep}

-- the state of the judge with another stack of a filter
abbrev pub with_filter_stack : Progress → FilterStack → Progress
with_filter_stack d t = record { parts = d.parts; exps = d.exps; block_stack = d.block_stack; filter_stack = t; lists = d.lists }

-- and with another stack of a block
abbrev pub with_block_stack : Progress → BlockStack → Progress
with_block_stack d b = record { parts = d.parts; exps = d.exps; block_stack = b; filter_stack = d.filter_stack; lists = d.lists }

module _ (v : Version) (p : Subject) (d : Progress) where
  -- in a filter, the line of an operation does to the state of the judge what the operation does to the filter's stack
  pub filter_stack-led : (t : FilterStack) (op : Op) (a : Triple) (ok : Bool) → FilterStep v p.vars d.filter_stack op a ok t
      → Leads v p d (FilterOp op a) ok (with_filter_stack d t)
  filter_stack-led t op a true h (InFilter lines s) m i =
      let r = h s i in
      (refl, (InFilter (lines ++ record { op = op; bound = a } ∷ []) r.0, (r.0, r.1, refl), r.2))
  filter_stack-led t op a false h (InFilter lines s) m i = let r = h s i in (refl, λ q k. r k.0 k.1)
  filter_stack-led t op a ok h (Between f (b ∷ bs)) m i = cc
  filter_stack-led t op a ok h s m i = cc

  -- in a block of version 1, a line with a bound does to the state of the judge what its operation does to the block's stack
  pub bound-led : (t : BlockStack) (op : Op) (b : ℕ) (ok : Bool) → BlockStep v p.vars d.block_stack op (balanced b) ok t
      → Leads v p d (BlockOp op b) ok (with_block_stack d t)
  bound-led t op b true h (InBlock f bs x lines s) m i =
      let r = h s i.3 in (
        refl,
        (
          InBlock f bs x (lines ++ record { op = op; bound = balanced b } ∷ []) r.0,
          (eqb-true v.number 1 m, (r.0, r.1, refl)),
          (i.0, i.1, i.2, r.2),
        ),
      )
  bound-led t op b false h (InBlock f bs x lines s) m i = let r = h s i.3 in (refl, λ q k. r k.1.0 k.1.1)
  bound-led t op b ok h (Between f (c ∷ bs)) m i = cc
  bound-led t op b ok h s m i = cc

  -- in a block of version 2, a line with two ends of a range does to the state of the judge what its operation does to the block's stack
  pub range-led : (t : BlockStack) (op : Op) (b : Range) (ok : Bool) → (not (v.number == 1) ≡ true → v.number ≡ 2)
      → BlockStep v p.vars d.block_stack op b ok t → Leads v p d (RangeOp op b.low b.high) ok (with_block_stack d t)
  range-led t op b true o h (InBlock f bs x lines s) m i =
      let r = h s i.3 in
      (refl, (InBlock f bs x (lines ++ record { op = op; bound = b } ∷ []) r.0, (o m, (r.0, r.1, refl)), (i.0, i.1, i.2, r.2)))
  range-led t op b false o h (InBlock f bs x lines s) m i = let r = h s i.3 in (refl, λ q k. r k.1.0 k.1.1)
  range-led t op b ok o h (Between f (c ∷ bs)) m i = cc
  range-led t op b ok o h s m i = cc

-- the state of the judge with other exponents and another number of lists
abbrev pub moved : Progress → List Pairs → ℕ → Progress
moved d es n = record { parts = d.parts; exps = es; block_stack = d.block_stack; filter_stack = d.filter_stack; lists = n }

exps-more : (bs : List Piece) (b : Piece) → exps_of (bs ++ b ∷ []) ≡ exps_of bs ++ b.exps ∷ []
exps-more bs b = map-append (λ (x : Piece). x.exps) bs (b ∷ [])

module _ (v : Version) (p : Subject) (d : Progress) where
  -- after the name of a predicate, `nofilter` leads to the place before the first block
  pub named-gap : (es : List Pairs) → es ≡ [] → Leads v p d NoFilter true (moved d es 0)
  named-gap es h Named m i =
      (refl, (Between None [], refl, (h, All-same (λ e. IsAbove e (length p.vars)) es [] h (All-nil (λ e. IsAbove e (length p.vars))), refl)))
  named-gap es h (Between f (b ∷ bs)) m i = cc
  named-gap es h s m i = cc

  -- after the name of a predicate, `filter` leads into a filter, with nothing on the stack and no local set
  pub named-filter : (t : FilterStack) → ((n : ℕ) → IsFilterStack n t fresh) → Leads v p d Filter true (with_filter_stack d t)
  named-filter t h Named m i = (refl, (InFilter [] fresh, refl, h (length p.vars)))
  named-filter t h (Between f (b ∷ bs)) m i = cc
  named-filter t h s m i = cc

  -- in a filter with what `decide` asks for on the stack, `decide` leads to the place before the first block
  pub decided : (es : List Pairs) → es ≡ []
      → ((s : State FilterKnown (ℕ → Option FilterKnown)) → IsFilterStack (length p.vars) d.filter_stack s → FilterDecides p s)
      → Leads v p d Decide true (moved d es 0)
  decided es h k (InFilter lines s) m i =
      let r = k s i in (
        refl,
        (
          Between (Some lines) [],
          record { left = r.left; one = r.one; whole = r.whole; narrow = r.narrow; to = refl },
          (h, All-same (λ e. IsAbove e (length p.vars)) es [] h (All-nil (λ e. IsAbove e (length p.vars))), refl),
        ),
      )
  decided es h k (Between f (b ∷ bs)) m i = cc
  decided es h k s m i = cc

  -- where the block's stack doesn't have what `end` asks for, `end` leads nowhere
  pub end-not : ((es : List Pairs) (a : Pairs) (s : State Known (ℕ → Option Known)) → d.exps ≡ es ++ a ∷ []
      → AreAbove (length p.vars) d.exps → IsBlockStack (length p.vars) d.block_stack s → BlockEnds p a s → ⊥) → Leads v p d End false d
  end-not k (InBlock f bs x lines s) m i = (refl, λ t r. k (exps_of bs) x s i.0 i.1 i.3 (record { left = r.left; one = r.one; derivative = r.derivative }))
  end-not k s m i = (refl, λ t r. r)

  -- in a block with what `end` asks for on the stack, `end` leads to the place after the block
  pub ended : ((es : List Pairs) (a : Pairs) (s : State Known (ℕ → Option Known)) → d.exps ≡ es ++ a ∷ []
      → AreAbove (length p.vars) d.exps → IsBlockStack (length p.vars) d.block_stack s → BlockEnds p a s) → Leads v p d End true d
  ended k (InBlock f bs x lines s) m i =
      let r = k (exps_of bs) x s i.0 i.1 i.3 in (
        refl,
        (
          Between f (bs ++ record { exps = x; lines = lines } ∷ []),
          record { left = r.left; one = r.one; derivative = r.derivative; to = refl },
          (i.0 ∙ sym (exps-more bs (record { exps = x; lines = lines })), i.1, i.2),
        ),
      )
  ended k (Between f (b ∷ bs)) m i = cc
  ended k s m i = cc

  -- between blocks, a `block` line with the next number and rising exponents of coordinates of sites leads into a block
  pub opened : (k : ℕ) (a : Pairs) (es : List Pairs) (b : BlockStack) → k ≡ length d.exps → AreOfSites p.vars a → IsRising a →
      es ≡ d.exps ++ a ∷ [] → ((n : ℕ) → IsBlockStack n b fresh) → Leads v p d (Block k a) true (moved (with_block_stack d b) es d.lists)
  opened k a es b l o r h z (Between f bs) m i =
      let n : k ≡ length bs = l ∙ ap length i.0 ∙ length-map bs (λ (x : Piece). x.exps) in (
        refl,
        (
          InBlock f bs a [] fresh,
          record { number = n; rising = r; of_sites = o; to = refl },
          (
            h ∙ ap (λ xs. xs ++ a ∷ []) i.0,
            subst (AreAbove (length p.vars)) (sym h) (All-push (λ e. IsAbove e (length p.vars)) d.exps a i.1 (sites-above p.vars a o)),
            i.2,
            z (length p.vars),
          ),
        ),
      )
  opened k a es b l o r h z s m i = cc

  -- where something that the head of a block needs doesn't hold
  pub block-refused : (k : ℕ) (a : Pairs) → (k ≡ length d.exps → AreOfSites p.vars a → IsRising a → ⊥) → Leads v p d (Block k a) false d
  block-refused k a h (Between f bs) m i = (refl, λ t r. h (r.number ∙ sym (ap length i.0 ∙ length-map bs (λ (x : Piece). x.exps))) r.of_sites r.rising)
  block-refused k a h s m i = (refl, λ t r. r)

module _ (v : Version) (p : Subject) (d : Progress) (places list : List ℕ) where
  -- these are the next list where its number and the exponents are those of the state
  next-as : (exps : List Pairs) (n : ℕ) → d.exps ≡ exps → d.lists ≡ n → IsNextList p d.exps d.lists places list ≡ IsNextList p exps n places list
  next-as exps n e l = λ i. IsNextList p (e i) (l i) places list

  -- an `order` line with the list of the next order leads on, to one list more
  pub ordered : (AreAbove (length p.vars) d.exps → IsNextList p d.exps d.lists places list)
      → Leads v p d (Order places list) true (moved d d.exps (d.lists + 1))
  ordered k (Between f bs) m i =
      let next : IsNextList p (exps_of bs) 0 places list = subst (λ T. T) (next-as (exps_of bs) 0 i.0 i.2) (k i.1) in
      (refl, (Ordering (record { filter = f; blocks = bs; lists = list ∷ [] }), record { next = next; to = refl }, (i.0, i.1, omega (arith, i.2))))
  ordered k (Ordering w) m i =
      let next : IsNextList p (exps_of w.blocks) (length w.lists) places list =
      subst (λ T. T) (next-as (exps_of w.blocks) (length w.lists) i.0 i.2) (k i.1) in (
        refl,
        (
          Ordering (record { filter = w.filter; blocks = w.blocks; lists = w.lists ++ list ∷ [] }),
          record { next = next; to = refl },
          (i.0, i.1, ap (λ n. n + 1) i.2 ∙ sym (length-append w.lists (list ∷ []))),
        ),
      )
  ordered k s m i = cc

  -- one with another list leads nowhere
  pub order-not : (AreAbove (length p.vars) d.exps → IsNextList p d.exps d.lists places list → ⊥) → Leads v p d (Order places list) false d
  order-not k (Between f bs) m i = (refl, λ t r. k i.1 (subst (λ T. T) (sym (next-as (exps_of bs) 0 i.0 i.2)) r.next))
  order-not k (Ordering w) m i = (refl, λ t r. k i.1 (subst (λ T. T) (sym (next-as (exps_of w.blocks) (length w.lists) i.0 i.2)) r.next))
  order-not k s m i = (refl, λ t r. r)
