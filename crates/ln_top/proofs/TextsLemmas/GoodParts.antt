-- The listing of compiled programs: its parts are good.
use Rattle.std.proofs.Common.{◌≡◌, ℕ, ◌+◌, ◌<◌, ◌≤◌, zero, suc, true, List, [], ◌∷◌, length, map}
use Rattle.std.proofs.Common.{get_or, refl, sym, ◌∙◌, ap, arith, subst}
use Rattle.std.specs.Prelude.{All, IfSome, Option, Some, None, nat_le, slice_get}
use Rattle.std.proofs.lemmas.List.{length-map}
use Rattle.std.proofs.lemmas.List.Elements.{All-head, All-tail}
use Rattle.ln_algebra.specs.Orders.{BySmallest}
use Rattle.ln_algebra.specs.Tree.{Tree}
use Rattle.ln_tree.specs.Exps.{Pairs}
use Rattle.ln_tree.specs.Names.{name_bytes}
use Rattle.ln_bound.specs.declared.fitted.Width.TheVariants.{W64}
use Rattle.ln_bound.specs.Widths.{limit}
use Rattle.ln_order.specs.Orders.{IsOrderOf, orders_of}
use Rattle.ln_order.specs.Sites.{sites_of}
use Rattle.ln_order.proofs.Listing.OrdersLemmas.{member-is}
use Rattle.ln_poly.specs.Sparse.{Sparse, terms_of}
use Rattle.ln_stage.specs.StageList.{IsStageListOf}
use Rattle.ln_stage.proofs.Monomials.LawLemmas.{lists-of-trees}
use Rattle.ln_code.specs.declared.op.Triple.{Triple}
use Rattle.ln_code.specs.Carried.{Carries, CarriesDerivative, CarriesWhole, vectors}
use Rattle.ln_code.specs.Engine.{Line}
use Rattle.ln_code.specs.FilterRules.{FilterKnown, filter_rules}
use Rattle.ln_code.specs.Kept.{AreOfSites, FollowsFilterRules, IsProgram}
use Rattle.ln_code.specs.Lists.{list_of, lists_of}
use Rattle.ln_code.specs.Numbers.{no_locals}
use Rattle.ln_code.specs.Part.{Code, FilterCode, Part, lines_of}
use Rattle.ln_code.specs.Rules.{rules}
use Rattle.ln_due.specs.Small.{AreSmall, BlockPushesSmall, FilterPushesSmall, PushesSmall, filter_tree, known_tree}
use Rattle.ln_due.proofs.Parts.BlockLemmas.{some-same}
use Rattle.ln_cert.specs.Written.{AreListableBlocks, IsListable, IsListableBlock}
use Rattle.ln_verify.specs.BlockRules.{block_rules, deepest, triple_rules, version_2}
use Rattle.ln_verify.specs.Good.{AreGood, AreNext, IsGoodFilter, IsGoodPart, IsGoodPiece}
use Rattle.ln_verify.specs.Line.{IsNextList, Piece, Subject, Written, exps_of, filter_tree_of, fresh, named, tree_of}
use Rattle.ln_verify.proofs.Judging.Put.{small-leads}
use Rattle.ln_top.proofs.TextsLemmas.Room.{leaves, pushes-more, room-more, run-more}

-- ---- what a listing states of a program
-- the exponents and the lines that a listing states of a block
abbrev pub piece_of : Code → Piece
piece_of c = record { exps = c.exps; lines = lines_of c.ops c.pairs }

-- the lines of a filter, where there is one
abbrev pub lines_in : Option FilterCode → Option (List (Line Triple))
lines_in None = None
lines_in (Some f) = Some (lines_of f.ops f.triples)

-- the filter, the blocks and the stage lists that a listing states of a program
abbrev pub written_of : Part → Written
written_of p = record { filter = lines_in p.filter; blocks = map piece_of p.blocks; lists = lists_of p }

-- what a listing of a program is about: its name, its sites, its variables and a polynomial
abbrev pub subject_of : Part → Sparse → Subject
subject_of p f = record { name = name_bytes p.shape.name; sites = p.shape.sites; vars = p.shape.vars; poly = f }

-- ---- blocks and the filter
module _ (s : Subject) where
  good_block : (c : Code) → IsListableBlock c → AreOfSites s.vars c.exps → BlockPushesSmall s.vars c
      → CarriesDerivative s.vars (terms_of (length s.vars) s.poly) c → IsGoodPiece version_2 s (piece_of c)
  good_block c l o p d =
      let lines = lines_of c.ops c.pairs in
      let r = leaves (rules s.vars c.depth) lines no_locals d.what d.known in
      let more : (n : ℕ) → nat_le n c.depth ≡ true → nat_le n deepest ≡ true = λ n q. room-more c.depth deepest n l.shallow q in
      let run = run-more (rules s.vars c.depth) (λ n. nat_le n deepest) more lines fresh r.end r.runs in
      let same = pushes-more (rules s.vars c.depth) (λ n. nat_le n deepest) more lines fresh r.end r.runs in
      record {
        rising = l.rising;
        of_sites = o;
        end = r.end;
        leads =
            small-leads tree_of (length s.vars) (block_rules version_2 s.vars) lines fresh r.end run
            (subst (AreSmall known_tree (length s.vars)) (sym same) p);
        left = d.what;
        one = r.one;
        derivative = d.derivative;
      }

  good_filter : (f : FilterCode) → f.depth ≤ deepest → FollowsFilterRules s.vars f → FilterPushesSmall s.vars f
      → CarriesWhole s.vars (terms_of (length s.vars) s.poly) f → IsGoodFilter version_2 s (lines_of f.ops f.triples)
  good_filter f l k p w =
      let lines = lines_of f.ops f.triples in
      let r = leaves (filter_rules s.vars f.depth) lines no_locals w.what w.known in
      let more : (n : ℕ) → nat_le n f.depth ≡ true → nat_le n deepest ≡ true = λ n q. room-more f.depth deepest n l q in
      let run = run-more (filter_rules s.vars f.depth) (λ n. nat_le n deepest) more lines fresh r.end r.runs in
      let same = pushes-more (filter_rules s.vars f.depth) (λ n. nat_le n deepest) more lines fresh r.end r.runs in
      let what : k.what ≡ w.what = some-same k.what w.what (sym k.known ∙ w.known) in
      record {
        end = r.end;
        leads =
            small-leads filter_tree_of (length s.vars) (triple_rules version_2 s.vars) lines fresh r.end run
            (subst (AreSmall filter_tree (length s.vars)) (sym same) p);
        left = w.what;
        one = r.one;
        whole = w.whole;
        narrow = subst (λ (x : FilterKnown). x.triple.e ≤ limit W64) what k.narrow;
      }

  good_blocks : (cs : List Code) → AreListableBlocks cs → All (λ c. AreOfSites s.vars c.exps) cs
      → All (BlockPushesSmall s.vars) cs → All (CarriesDerivative s.vars (terms_of (length s.vars) s.poly)) cs
      → AreGood version_2 s (map piece_of cs)
  good_blocks [] l o p d = tt
  good_blocks (c ∷ cs) l o p d = (
    good_block c l.0 (All-head (λ x. AreOfSites s.vars x.exps) c cs o) (All-head (BlockPushesSmall s.vars) c cs p)
        (All-head (CarriesDerivative s.vars (terms_of (length s.vars) s.poly)) c cs d),
    good_blocks cs l.1 (All-tail (λ x. AreOfSites s.vars x.exps) c cs o) (All-tail (BlockPushesSmall s.vars) c cs p)
        (All-tail (CarriesDerivative s.vars (terms_of (length s.vars) s.poly)) c cs d),
  )

  good_filters : (o : Option FilterCode) → IfSome o (λ f. f.depth ≤ deepest) → IfSome o (FollowsFilterRules s.vars)
      → IfSome o (FilterPushesSmall s.vars) → IfSome o (CarriesWhole s.vars (terms_of (length s.vars) s.poly))
      → IfSome (lines_in o) (IsGoodFilter version_2 s)
  good_filters None l k p w = tt
  good_filters (Some f) l k p w = good_filter f l k p w

-- ---- orders
order_there : {A : Type 0} (xs : List A) (k : ℕ) (x : A) → slice_get xs k ≡ Some x → (k < length xs) × (get_or xs k x ≡ x)
order_there [] k x h = cc
order_there (y ∷ xs) zero x h = (omega arith, some-same y x h)
order_there (y ∷ xs) (suc k) x h = let r = order_there xs k x h in (omega (arith, r.0), r.1)

exps_back : (cs : List Code) → exps_of (map piece_of cs) ≡ map (λ (c : Code). c.exps) cs
exps_back [] = refl
exps_back (c ∷ cs) = ap (λ z. c.exps ∷ z) (exps_back cs)

module _ (part : Part) (e : Tree) (f : Sparse) (kept : IsProgram part)
    (carries : Carries BySmallest part e (terms_of (length part.shape.vars) f)) where
  next_list : (k : ℕ) (o : List ℕ) → slice_get (orders_of part.shape.sites) k ≡ Some o
      → IsNextList (subject_of part f) (exps_of (map piece_of part.blocks)) k o (list_of part o)
  next_list k o h =
      let n : ℕ = length part.shape.vars in
      let t = order_there (orders_of part.shape.sites) k o h in
      let order : IsOrderOf part.shape.sites o = member-is part.shape.sites o (k, t.0, t.1) in
      let stages = (lists-of-trees n (sites_of part.shape.vars o) e f (vectors part (list_of part o)) carries.normal).1
      (carries.lists o (list_of part o) (record { order = order; list_is = refl })) in
      record {
        order = h;
        within =
            λ j d l. omega (
              arith,
              (kept.lists o order).within j d l,
              ap length (exps_back part.blocks),
              length-map part.blocks (λ (c : Code). c.exps),
            );
        stages =
            subst (λ (xs : List Pairs). IsStageListOf (length part.shape.vars) (sites_of part.shape.vars o) f
            (named (length part.shape.vars) xs (list_of part o))) (sym (exps_back part.blocks)) stages;
      }

  next_lists : (os : List (List ℕ)) (k : ℕ)
      → ((i j : ℕ) (o : List ℕ) → j ≡ k + i → slice_get os i ≡ Some o → slice_get (orders_of part.shape.sites) j ≡ Some o)
      → AreNext (subject_of part f) (map piece_of part.blocks) k os (map (list_of part) os)
  next_lists [] k h = tt
  next_lists (o ∷ os) k h =
      (next_list k o (h 0 k o (omega arith) refl), next_lists os (suc k) (λ i j p e q. h (suc i) j p (omega (arith, e)) q))

  -- what a listing states of a program is valid, where the program can be listed and what it pushes is small
  pub good_part : IsListable part → PushesSmall part → IsGoodPart version_2 (subject_of part f) (written_of part)
  good_part l p = record {
    filter = good_filters (subject_of part f) part.filter l.filter kept.filter p.filter carries.filter;
    blocks = good_blocks (subject_of part f) part.blocks l.blocks kept.of_sites p.blocks carries.blocks;
    lists =
        next_lists (orders_of part.shape.sites) 0 (λ i j o e q. let z : j
        ≡ i = omega (arith, e) in subst (λ (x : ℕ). slice_get (orders_of part.shape.sites) x ≡ Some o) (sym z) q);
  }
