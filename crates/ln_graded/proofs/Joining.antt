-- The program by total degree, from its blocks and its stages.
use Rattle.std.proofs.Common.{◌≡◌, ℕ, ◌+◌, ◌*◌, ◌^◌, ◌<◌, ◌≤◌, List, length, map, take, refl, sym, ◌∙◌, ap, subst, arith, Some}
use Rattle.std.specs.Prelude.{All, IfSome, Option, slice_get}
use Rattle.std.proofs.lemmas.Simd.{map-map}
use Rattle.std.proofs.lemmas.Option.{get_or_from_slice_get, same_Some, slice_get_within}
use Rattle.ln_algebra.specs.Orders.{ByDegree}
use Rattle.ln_base.specs.Limits.{most_weight}
use Rattle.ln_tree.specs.declared.shape.Shape.{Shape}
use Rattle.ln_tree.specs.Exps.{vector}
use Rattle.ln_order.specs.Orders.{orders_of}
use Rattle.ln_order.specs.Prefixes.{beside, prefixes_of, segments_from}
use Rattle.ln_poly.specs.Sparse.{Sparse, terms_of}
use Rattle.ln_stage.specs.Graded.{AreGradedStagesOf}
use Rattle.ln_stage.specs.Lists.{AreStageListsIn, all_covering, first_seen, stage_count, stage_weight}
use Rattle.ln_stage.specs.Staged.{Staged, block_vector, vectors_of}
use Rattle.ln_order.proofs.Listing.Placing.{of-each}
use Rattle.ln_stage.proofs.Monomials.OrderLists.{order-stages, same-vectors}
use Rattle.ln_stage.proofs.Sights.Members as members
use Rattle.ln_code.specs.Carried.{CarriesDerivative, stage_at, vectors}
use Rattle.ln_code.specs.Kept.{AreOfSites, FollowsFilterRules, FollowsRules, IsList, IsProgram}
use Rattle.ln_code.specs.Lists.{list_of, lists_of}
use Rattle.ln_code.specs.Part.{Code, FilterCode, Part, ops_in_blocks, ops_in_filter}
use Rattle.ln_due.specs.Derivative.{IsDerivativeBlock}
use Rattle.ln_due.specs.Small.{BlockPushesSmall, FilterPushesSmall}
use Rattle.ln_due.specs.Blocks.{AreBlocksOf}
use Rattle.ln_due.proofs.Derivatives.Gathering.{blocks-length}
use Rattle.ln_graded.specs.Graded.{Begins, CanBegin, IsGradable, IsGraded, IsGradedFrom, IsWithin}

-- what holds of all blocks holds of that at a place
pub all-at : {A : Type 0} (P : A → Type 0) (xs : List A) (i : ℕ) (x : A) → slice_get xs i ≡ Some x → All P xs → P x
all-at P xs i x e a = subst P (get_or_from_slice_get xs i x x e) (a i x (slice_get_within xs i x e))

-- block 0 of the program is the one that it begins with
pub own-is : (s : Shape) (f : Sparse) (p : Part) (own : Code) → (b : Begins s f p) → slice_get p.blocks 0 ≡ Some own → own ≡ b.own
own-is s f p own b e = same_Some own b.own (sym e ∙ b.first)

-- a program that begins with a block has a block
pub some-block : (s : Shape) (f : Sparse) (p : Part) → Begins s f p → 0 < length p.blocks
some-block s f p b = slice_get_within p.blocks 0 b.own b.first

-- so a program by total degree can begin with it, and with the filter
pub can-begin : (s : Shape) (f : Sparse) (p : Part) (own : Code) → Begins s f p → slice_get p.blocks 0 ≡ Some own → IsProgram p
    → CanBegin s f p.filter own
can-begin s f p own b e k = record {
  plain = ap (λ (d : Code). d.exps) (own-is s f p own b e) ∙ b.plain;
  block = record {
    rules = subst (λ (z : Shape). FollowsRules z.vars own) b.shape (all-at (λ (c : Code). FollowsRules p.shape.vars c) p.blocks 0 own e k.blocks);
    of_sites = subst (λ (z : Shape). AreOfSites z.vars own.exps) b.shape
        (all-at (λ (c : Code). AreOfSites p.shape.vars c.exps) p.blocks 0 own e k.of_sites);
    carries = subst (CarriesDerivative s.vars (terms_of (length s.vars) f)) (sym (own-is s f p own b e)) b.carries;
    small = subst (λ (z : Shape). BlockPushesSmall z.vars own) b.shape (all-at (BlockPushesSmall p.shape.vars) p.blocks 0 own e b.small.blocks);
  };
  rules = subst (λ (z : Shape). IfSome p.filter (FollowsFilterRules z.vars)) b.shape k.filter;
  whole = b.whole;
  pushes = subst (λ (z : Shape). IfSome p.filter (FilterPushesSmall z.vars)) b.shape b.small.filter;
  short = subst (λ (c : Code). ops_in_filter p.filter + length c.ops < 2 ^ 21) (sym (own-is s f p own b e)) b.short;
}

-- a program by total degree with the filter and block 0 of p is p by total degree
pub same-graded : (s : Shape) (f : Sparse) (p q : Part) (o : Option FilterCode) (own : Code) → o ≡ p.filter → slice_get p.blocks 0 ≡ Some own
    → IsGradedFrom s f o (Some own) q → IsGraded s f p q
same-graded s f p q o own e h g =
    subst (λ (b : Option Code). IsGradedFrom s f p.filter b q) (sym h) (subst (λ (x : Option FilterCode). IsGradedFrom s f x (Some own) q) e g)

few-ops : (filter own ops cover len heavy : ℕ) → filter + own < 2 ^ 21 → ops ≤ own + 4096 * cover + 68 * len → cover ≤ heavy → len ≤ heavy
    → heavy ≤ most_weight → filter + ops < 2 ^ 32
few-ops filter own ops cover len heavy h k l m n = omega (arith, h, k, l, m, n)

module _ (s : Shape) (f : Sparse) (filter : Option FilterCode) (own : Code) (st : Staged) (blocks : List Code) (poly : IsGradable s.vars f)
    (b : CanBegin s f filter own) (stages : AreGradedStagesOf s.sites s.vars f st)
    (light : stage_weight (length s.vars) f (vectors_of (length s.vars) st) ≤ most_weight)
    (made : AreBlocksOf (IsDerivativeBlock s.vars f) s.vars f own st.exps blocks) where
  -- the program by total degree: over the shape, with the filter, these blocks and the segments of the stages
  abbrev pub part : Part
  part = record { shape = s; filter = filter; blocks = blocks; segments = st.segments }

  as-many : length blocks ≡ length st.exps
  as-many = blocks-length (length s.vars) blocks st.exps made.vectors

  own-lists : lists_of part ≡ st.lists
  own-lists = sym (stages.make ∙ ap (λ n. map (λ o. segments_from (beside (prefixes_of n) st.segments) o 0) (orders_of s.sites)) stages.sites)

  its-vectors : map (vectors part) (lists_of part) ≡ vectors_of (length s.vars) st
  its-vectors = ap (map (λ list. map (block_vector (length s.vars) (map (λ (c : Code). c.exps) blocks)) list)) own-lists
      ∙ same-vectors (length s.vars) st (map (λ (c : Code). c.exps) blocks)
      (map-map (vector (length s.vars)) (λ (c : Code). c.exps) blocks ∙ made.vectors)

  lists-are : All (IsList (length st.exps)) st.lists
  lists-are = λ j x h. record {
    within = stages.numbers j x h;
    once = members.list-once ByDegree s.sites s.vars f st stages.lists poly.form poly.below poly.some stages.first_sight j x h;
    filled = members.list-filled ByDegree s.sites s.vars f st stages.lists poly.form poly.below poly.some stages.first_sight j x h;
  }

  cover : all_covering (length s.vars) f (map (vector (length s.vars)) st.exps) ≤ stage_weight (length s.vars) f (vectors_of (length s.vars) st)
  cover = omega (arith, ap (all_covering (length s.vars) f) stages.first_sight)

  lighter : length st.exps ≤ stage_weight (length s.vars) f (vectors_of (length s.vars) st)
  lighter = members.light-blocks ByDegree s.sites s.vars f (vectors_of (length s.vars) st) stages.lists st.exps stages.first_sight poly.form poly.below

  -- its blocks and filter follow the rules, its operations are few enough, and each list names blocks of its own, none twice
  pub is-program : IsProgram part
  is-program = record {
    blocks = λ j d l. (made.each j d l).rules;
    filter = b.rules;
    few = few-ops (ops_in_filter filter) (length own.ops) (ops_in_blocks blocks) (all_covering (length s.vars) f (map (vector (length s.vars)) st.exps))
        (length st.exps) (stage_weight (length s.vars) f (vectors_of (length s.vars) st)) b.short made.few cover lighter light;
    of_sites = λ j d l. (made.each j d l).of_sites;
    prefixes = stages.size;
    named = subst (λ n. All (λ segment. All (λ i. i < n) segment) st.segments) (sym as-many) stages.named;
    lists = λ o h. of-each s.sites (list_of part) st.lists (IsList (length blocks)) o (sym own-lists)
        (subst (λ n. All (IsList n) st.lists) (sym as-many) lists-are) h;
  }

  -- it is a program by total degree with the filter and block 0
  pub is-graded : IsGradedFrom s f filter (Some own) part
  is-graded = record {
    shape = refl;
    filter = refl;
    first = made.first;
    lists = subst (AreStageListsIn ByDegree s.sites s.vars f) (sym its-vectors) stages.lists;
    sight = made.vectors ∙ stages.first_sight ∙ ap first_seen (sym its-vectors);
    carries = λ e i n. record {
      inputs = i;
      normal = n;
      lists = λ places list l. order-stages ByDegree s.sites s.vars (stage_at part) (list_of part) e f places list n
          (subst (AreStageListsIn ByDegree s.sites s.vars f) (sym its-vectors) stages.lists) l.order l.list_is;
      blocks = λ j d l. (made.each j d l).carries;
      filter = b.whole;
    };
    small = record {
      blocks = λ j d l. (made.each j d l).small;
      filter = b.pushes;
    };
    whole = λ o j q l. ap (λ n. beside (prefixes_of n) st.segments (take j o)) (sym stages.sites) ∙ stages.whole o j q l;
  }

  -- its lists have no more stages, and no more weight, than those of the stages that it was made from
  pub is-within : IsWithin s f (stage_count (vectors_of (length s.vars) st)) (stage_weight (length s.vars) f (vectors_of (length s.vars) st)) part
  is-within = record {
    count = omega (arith, ap stage_count its-vectors);
    weight = omega (arith, ap (stage_weight (length s.vars) f) its-vectors);
  }

-- fewer are within more
pub within-more : (s : Shape) (f : Sparse) (count heavy most light : ℕ) (q : Part) → count ≤ most → heavy ≤ light
    → IsWithin s f count heavy q → IsWithin s f most light q
within-more s f count heavy most light q h k w = record { count = omega (arith, w.count, h); weight = omega (arith, w.weight, k) }
