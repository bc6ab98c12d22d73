-- The program of a predicate, from its blocks and its stages.
use Rattle.std.proofs.Common.{◌≡◌, ℕ, ◌+◌, ◌*◌, ◌^◌, ◌<◌, ◌≤◌, List, [], length, map, refl, ap, sym, subst, ◌∙◌, arith, Option}
use Rattle.std.specs.Prelude.{All, IfSome}
use Rattle.std.proofs.lemmas.Simd.{map-map}
use Rattle.ln_algebra.specs.Orders.{BySmallest}
use Rattle.ln_algebra.specs.Sizes.{two}
use Rattle.ln_base.specs.Limits.{most_stages, most_weight}
use Rattle.ln_tree.specs.declared.pred.Pred.{Pred}
use Rattle.ln_tree.specs.Exps.{vector}
use Rattle.ln_tree.specs.Formula.{formula, tree}
use Rattle.ln_tree.specs.Table.{pred_of}
use Rattle.ln_order.specs.Orders.{orders_of}
use Rattle.ln_order.specs.Prefixes.{beside, prefixes_of, segments_from}
use Rattle.ln_poly.specs.Expansion.{IsNormal, closed_lets}
use Rattle.ln_poly.specs.Sparse.{Sparse, terms_of}
use Rattle.ln_poly.proofs.Expansions.Lets.{root-light}
use Rattle.ln_poly.proofs.Loads.Sizing.{pred-expands}
use Rattle.ln_stage.specs.Accepted.{IsAcceptedPred}
use Rattle.ln_stage.specs.Lists.{AreStageLists, all_covering, first_seen, stage_count, stage_weight}
use Rattle.ln_stage.specs.Staged.{AreStagesOf, Staged, block_vector, vectors_of}
use Rattle.ln_code.specs.Carried.{CarriesWhole, stage_at, vectors}
use Rattle.ln_code.specs.Kept.{FollowsFilterRules, IsList, IsProgram}
use Rattle.ln_code.specs.Lists.{list_of, lists_of}
use Rattle.ln_code.specs.Part.{Code, FilterCode, Part, ops_in_blocks, ops_in_filter}
use Rattle.ln_due.specs.Small.{FilterPushesSmall}
use Rattle.ln_compile.specs.Accepted.{root_of}
use Rattle.ln_compile.specs.Compiled.{IsFilterOf, IsProgramOf}
use Rattle.ln_compile.specs.Made.{AreOwnBlocks}
use Rattle.ln_due.proofs.Derivatives.Gathering.{blocks-length}
use Rattle.ln_order.proofs.Listing.Placing.{of-each}
use Rattle.ln_stage.proofs.Accepting.{few-count, few-weight, is-some}
use Rattle.ln_stage.proofs.Monomials.OrderLists.{order-stages, same-vectors}
use Rattle.ln_compile.proofs.Listing.ListingLemmas.{lists-are, stages-few}
use Rattle.ln_compile.proofs.Making.MakingLemmas.{own-exact}

few-ops : (first ops cover len : ℕ) → first ≤ 1048640 → ops ≤ 524352 + 4096 * cover + 68 * len → cover ≤ most_weight → len ≤ most_stages → first + ops < 2 ^ 32
few-ops first ops cover len f h k l = omega (arith, f, h, k, l)

module _ (p : Pred) (f : Sparse) (st : Staged) (k : IsAcceptedPred (record { pred = p; poly = f; stages = st })) (blocks : List Code)
    (ours : AreOwnBlocks (pred_of p) f st.exps blocks) (filter : Option FilterCode) (own : IsFilterOf (pred_of p) filter)
    (rules : IfSome filter (FollowsFilterRules p.shape.vars)) (whole : IfSome filter (CarriesWhole p.shape.vars (terms_of (length p.shape.vars) f)))
    (short : ops_in_filter filter ≤ 1048640) (pushes : IfSome filter (FilterPushesSmall p.shape.vars)) where
  normal : IsNormal (length p.shape.vars) (root_of (pred_of p)) f
  normal = k.expanded.normal

  stages : AreStagesOf p.shape.sites p.shape.vars f st
  stages = k.stages

  count : stage_count (vectors_of (length p.shape.vars) st) ≤ most_stages
  count = few-count (pred_of p) f k.expanded.sound normal (vectors_of (length p.shape.vars) st) stages.lists

  heavy : stage_weight (length p.shape.vars) f (vectors_of (length p.shape.vars) st) ≤ most_weight
  heavy = few-weight (pred_of p) f k.expanded.sound normal (vectors_of (length p.shape.vars) st) stages.lists

  -- the program that the predicate's filter and blocks make, with the segments of its stages
  abbrev pub part : Part
  part = record { shape = p.shape; filter = filter; blocks = blocks; segments = st.segments }

  as-many : length blocks ≡ length st.exps
  as-many = blocks-length (length p.shape.vars) blocks st.exps ours.made.vectors

  -- the program has at most 65,536 blocks
  pub few-blocks : length blocks ≤ most_stages
  few-blocks = omega (arith, as-many, stages-few p.shape.sites p.shape.vars f st stages, count)

  -- the program's lists are the stages'
  own-lists : lists_of part ≡ st.lists
  own-lists = sym (stages.segments.make ∙ ap (λ n. map (λ o. segments_from (beside (prefixes_of n) st.segments) o 0) (orders_of p.shape.sites)) stages.sites)

  own-vectors : map (vectors part) (lists_of part) ≡ vectors_of (length p.shape.vars) st
  own-vectors = ap (map (λ list. map (block_vector (length p.shape.vars) (map (λ (c : Code). c.exps) blocks)) list)) own-lists
      ∙ same-vectors (length p.shape.vars) st (map (λ (c : Code). c.exps) blocks)
      (map-map (vector (length p.shape.vars)) (λ (c : Code). c.exps) blocks ∙ ours.made.vectors)

  -- the program follows the rules, has fewer than 2^32 operations, and no list of it is empty or names a block twice
  pub is-program : IsProgram part
  is-program = record {
    blocks = λ j d l. (ours.made.each j d l).rules;
    filter = rules;
    few = omega (
      arith,
      few-ops (ops_in_filter filter) (ops_in_blocks blocks) (all_covering (length p.shape.vars) f (map (vector (length p.shape.vars)) st.exps))
          (length st.exps) short (omega (arith, ours.made.few, ours.small)) (omega (arith, heavy, ap (all_covering (length p.shape.vars) f) stages.first_sight))
          (omega (arith, stages-few p.shape.sites p.shape.vars f st stages, count)),
    );
    of_sites = λ j d l. (ours.made.each j d l).of_sites;
    prefixes = stages.segments.size;
    named = subst (λ n. All (λ segment. All (λ i. i < n) segment) st.segments) (sym as-many) stages.segments.numbers;
    lists = λ o h. of-each p.shape.sites (list_of part) st.lists (IsList (length blocks)) o (sym own-lists)
        (subst (λ n. All (IsList n) st.lists) (sym as-many) (lists-are p.shape.sites p.shape.vars f st stages normal.form normal.below
        (is-some (pred_of p) f k.expanded.sound normal))) h;
  }

  -- the program carries the predicate's root, begins with the block of the source's own expression, and has the predicate's filter
  pub is-program-of : IsProgramOf (pred_of p) part
  is-program-of = record {
    name = refl;
    sites = refl;
    vars = refl;
    filter = own;
    poly = f;
    normal = normal;
    carries = record {
      inputs = (root-light (length p.shape.vars) two (closed_lets p.shape.vars (map formula p.lets)) (tree p.shape.vars (formula p.root))
          (pred-expands p.args p.shape.vars p.lets (length p.let_names) p.root p.kept k.expanded.sound.light).1).inputs;
      normal = normal.normal;
      lists = λ places list l. order-stages BySmallest p.shape.sites p.shape.vars (stage_at part) (list_of part) (root_of (pred_of p)) f places list
          normal.normal (subst (AreStageLists p.shape.sites p.shape.vars f) (sym own-vectors) stages.lists) l.order l.list_is;
      blocks = λ j d l. (ours.made.each j d l).carries;
      filter = whole;
    };
    exact = ours.made.made (own-exact (pred_of p) f ours.first ours.own);
    sight = ours.made.vectors ∙ stages.first_sight ∙ ap first_seen (sym own-vectors);
    small = record { blocks = λ j d l. (ours.made.each j d l).small; filter = pushes };
    begins = record { block = ours.first; first = ours.made.first; own = ours.own; short = omega (arith, ours.small, short) };
  }
