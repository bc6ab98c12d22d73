-- The machine of a part has exactly one verdict on every row in range.
use Rattle.std.proofs.Common.{◌≡◌, ◌⊎◌, inl, inr, ℕ, ◌+◌, ◌-◌, ◌<◌, ◌≤◌, zero, suc, List, [], ◌∷◌, length, map, take}
use Rattle.std.proofs.Common.{get_or, refl, sym, ◌∙◌, ap, arith, subst, unsigned_abs}
use Rattle.std.specs.Prelude.{All, IfSome, Option, Some, None, slice_get}
use Rattle.std.specs.List.{range_with_len}
use Rattle.std.proofs.Math.IntN.{ℤ, pos, negsuc}
use Rattle.std.proofs.lemmas.Bool.{cases_lt}
use Rattle.std.proofs.lemmas.List.{get_or-map, length-map}
use Rattle.std.proofs.lemmas.List.Elements.{All-head, All-tail, Contains-get_or}
use Rattle.std.proofs.lemmas.Option.{slice_get-get_or}
use Rattle.ln_tree.specs.Row.{AreWithin}
use Rattle.ln_order.specs.Orders.{IsOrderOf, orders_of}
use Rattle.ln_order.specs.Prefixes.{prefixes_of}
use Rattle.ln_order.specs.Rows.{OrderStages}
use Rattle.ln_order.proofs.Listing.OrderExists.{order-exists}
use Rattle.ln_order.proofs.Listing.OrderUnique.{order-unique}
use Rattle.ln_order.proofs.Listing.OrdersLemmas.{member-is}
use Rattle.ln_order.proofs.Listing.PrefixLemmas.{beside-all, joined-all}
use Rattle.ln_order.proofs.Signs.RowsLemmas.{order-places}
use Rattle.ln_code.specs.declared.verdict.Verdict.{Verdict}
use Rattle.ln_code.specs.Carried.{Runs, vectors}
use Rattle.ln_code.specs.Kept.{FollowsFilterRules}
use Rattle.ln_code.specs.Law.{BlockMeans, FilterMeans}
use Rattle.ln_code.specs.Lists.{IsListOf, list_of, lists_of, segment_of}
use Rattle.ln_code.specs.MachineLaw.{ListsAreStageLists, ProgramsRun, RowsHaveVerdicts, VerdictIsUnique}
use Rattle.ln_code.specs.Part.{Code, FilterCode, Part, wide_in}
use Rattle.ln_code.specs.Verdict.{along, settled, through}
use Rattle.ln_code.proofs.Filters.Filtering.{decides-above, decides-within, through-decides}
use Rattle.ln_code.proofs.Following.Means.{blocks_mean, filters_mean}

-- there is a verdict
abbrev Answers : Option Verdict → Type 0
Answers o = (v : Verdict) × (o ≡ Some v)

-- a block decides, or what follows has a verdict
settled-answers : (z : ℤ) (place wide calls : ℕ) (rest : Option Verdict) → Answers rest → Answers (settled z place wide calls rest)
settled-answers (pos zero) place wide calls rest a = a
settled-answers (pos (suc n)) place wide calls rest a = (_, refl)
settled-answers (negsuc n) place wide calls rest a = (_, refl)

-- what is read past the last block
pub no_code : Code
no_code = record { exps = []; ops = []; pairs = []; depth = 0 }

-- what the rules say of the filter of a part
pub filter-follows : (p : Part) (c : FilterCode) → Runs p → p.filter ≡ Some c → FollowsFilterRules p.shape.vars c
filter-follows p c program here = subst (λ (o : Option FilterCode). IfSome o (FollowsFilterRules p.shape.vars)) here program.filter

-- the numbers of a list of the part are those of blocks
pub list-within : (p : Part) (places list : List ℕ) → Runs p → IsListOf p places list → All (λ k. k < length p.blocks) list
list-within p places list h l =
    let named : (j : ℕ) → All (λ k. k < length p.blocks) (segment_of p (take j places)) =
    λ j. beside-all (λ k. k < length p.blocks) (prefixes_of p.shape.sites) p.segments (take j places) h.named in
    subst (λ (q : List ℕ). All (λ k. k < length p.blocks) q) (sym l.list_is)
    (joined-all (λ k. k < length p.blocks) (λ j. segment_of p (take j places)) (range_with_len 0 (suc (length places) - 0)) named)

module _ (p : Part) (zs : List ℤ) (program : Runs p) (row : AreWithin p.shape.vars zs) where
  -- a list of blocks has a verdict
  along-answers : (ks : List ℕ) (place wide calls : ℕ) → All (λ k. k < length p.blocks) ks → Answers (along zs p.blocks ks place wide calls)
  along-answers [] place wide calls h = (_, refl)
  along-answers (k ∷ ks) place wide calls h =
      let c : Code = get_or p.blocks k no_code in
      let l : k < length p.blocks = All-head (λ i. i < length p.blocks) k ks h in
      let g : slice_get p.blocks k ≡ Some c = slice_get-get_or p.blocks k no_code l in
      let m : BlockMeans p.shape.vars zs c = blocks_mean p.shape.vars zs c row (program.blocks k no_code l) in
      let u = m.answer in
      let ih = along-answers ks (place + 1) (wide + wide_in c.ops) (calls + 1) (All-tail (λ i. i < length p.blocks) k ks h) in
      rw (g, u) (settled-answers _ place (wide + wide_in c.ops) (calls + 1) (along zs p.blocks ks (place + 1) (wide + wide_in c.ops) (calls + 1)) ih)

  -- so it has after the filter
  through-answers : (list : List ℕ) → All (λ k. k < length p.blocks) list → (o : Option FilterCode) → p.filter ≡ o → Answers (through o zs p.blocks list)
  through-answers list h None here = along-answers list 0 0 0 h
  through-answers list h (Some c) here = by_case (cases_lt m.left.error (unsigned_abs m.left.number)) (along-answers list 0 0 1 h) where
    m : FilterMeans p.shape.vars zs c
    m = filters_mean p.shape.vars zs c row (filter-follows p c program here)

    by_case : (m.left.error < unsigned_abs m.left.number) ⊎ (unsigned_abs m.left.number ≤ m.left.error)
        → Answers (along zs p.blocks list 0 0 1) → Answers (through (Some c) zs p.blocks list)
    by_case (inl l) a = (_, through-decides zs c m.left p.blocks list m.answer ∙ decides-above m.left (along zs p.blocks list 0 0 1) l)
    by_case (inr l) a = (a.0, through-decides zs c m.left p.blocks list m.answer ∙ decides-within m.left (along zs p.blocks list 0 0 1) l ∙ a.1)

-- the indices of a row have an order, the order a list, and the list a verdict
pub rows-have : RowsHaveVerdicts
rows-have p row program r =
    let o = order-exists row.index r.differ in
    let at : IsOrderOf p.shape.sites o.0 = subst (λ (n : ℕ). IsOrderOf n o.0) r.size (order-places row.index o.0 o.1) in
    let l : IsListOf p o.0 (list_of p o.0) = record { order = at; list_is = refl } in
    let a = through-answers p row.values program r.values (list_of p o.0) (list-within p o.0 (list_of p o.0) program l) p.filter refl in
    (a.0, record { places = o.0; order = o.1; list = list_of p o.0; chosen = l; answered = a.1 })

-- ---- one verdict
-- an order has one list
list-one : (p : Part) (places xs ys : List ℕ) → IsListOf p places xs → IsListOf p places ys → xs ≡ ys
list-one p places xs ys a b = a.list_is ∙ sym b.list_is

-- and a row one verdict
pub verdict-unique : VerdictIsUnique
verdict-unique p row v w a b =
    let o : a.places ≡ b.places = order-unique row.index a.places b.places a.order b.order in
    let l : a.list ≡ b.list = list-one p b.places a.list b.list (subst (λ (z : List ℕ). IsListOf p z a.list) o a.chosen) b.chosen in
    let q : Some v ≡ Some w = sym a.answered ∙ ap (λ z. through p.filter row.values p.blocks z) l ∙ b.answered in
    cc

-- ---- programs and parts
-- a program has what the machine needs
pub programs-run : ProgramsRun
programs-run p h = record { blocks = h.blocks; filter = h.filter; prefixes = h.prefixes; named = h.named }

-- the lists of a part that carries an expression are its stage lists
pub lists-stages : ListsAreStageLists
lists-stages rank p e f h c = record { size = length-map (lists_of p) (vectors p) ∙ length-map (orders_of p.shape.sites) (list_of p); each = each } where
  each : (j : ℕ) → j < length (map (vectors p) (lists_of p))
      → OrderStages rank p.shape.vars e (get_or (orders_of p.shape.sites) j []) (get_or (map (vectors p) (lists_of p)) j [])
  each j l =
      let k : j < length (lists_of p) = omega (arith, l, length-map (lists_of p) (vectors p)) in
      let m : j < length (orders_of p.shape.sites) = omega (arith, k, length-map (orders_of p.shape.sites) (list_of p)) in
      let at : get_or (map (vectors p) (lists_of p)) j [] ≡ vectors p (list_of p (get_or (orders_of p.shape.sites) j [])) =
      get_or-map (vectors p) (lists_of p) j [] [] k ∙ ap (vectors p) (get_or-map (list_of p) (orders_of p.shape.sites) j [] [] m) in
      let q : IsOrderOf p.shape.sites (get_or (orders_of p.shape.sites) j []) =
      member-is p.shape.sites (get_or (orders_of p.shape.sites) j []) (Contains-get_or (orders_of p.shape.sites) j [] m) in
      subst (λ (z : List (List ℕ)). OrderStages rank p.shape.vars e (get_or (orders_of p.shape.sites) j []) z) (sym at)
      (c.lists (get_or (orders_of p.shape.sites) j []) (list_of p (get_or (orders_of p.shape.sites) j [])) (record { order = q; list_is = refl }))
