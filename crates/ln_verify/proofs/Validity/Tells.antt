-- A listing that is valid for the predicates of a table tells their signs.
use Rattle.std.proofs.Common.{◌≡◌, ℕ, zero, suc, Bool, true, false, List, [], ◌∷◌, length, map, refl, sym, ap, arith, subst, if◌then◌else◌, ◌==◌, ◌<◌, get_or}
use Rattle.std.proofs.Common.{◌∙◌}
use Rattle.std.specs.Prelude.{Some, slice_get, All, IfSome, IsSome, Option, None, slice_index_or}
use Rattle.ln_algebra.specs.Sizes.{two}
use Rattle.ln_algebra.specs.Tree.{InputsBelow, Tree}
use Rattle.ln_tree.specs.declared.pred.Pred.{Pred}
use Rattle.ln_tree.specs.declared.shape.Shape.{Shape}
use Rattle.ln_tree.specs.Formula.{formula, tree}
use Rattle.ln_tree.specs.Row.{InRange, Row}
use Rattle.ln_tree.specs.Table.{pred_of}
use Rattle.ln_poly.specs.Expansion.{closed_lets, IsNormal}
use Rattle.ln_poly.specs.OfPred.{root_of}
use Rattle.ln_poly.proofs.Expansions.Lets.{root-light}
use Rattle.ln_poly.proofs.Loads.Sizing.{pred-expands}
use Rattle.ln_stage.specs.Sound.{AreSound, IsSound}
use Rattle.ln_cert.specs.declared.part.Part.{Part}
use Rattle.ln_cert.specs.Listing.{parts_of}
use Rattle.ln_stage.proofs.Zipped.{sound-of}
use Rattle.ln_verify.specs.AsPart.{GivesSign, IsSubject, ValidPartsGiveSigns, code_of, filter_code, filter_of, part_of, segment_at}
use Rattle.ln_verify.specs.BlockRules.{Version, version_1, version_2, block_rules, deepest, triple_rules}
use Rattle.ln_verify.specs.Judge.{Go, IsValid}
use Rattle.ln_verify.specs.Line.{Outside, Subject, Written, Piece}
use Rattle.ln_verify.specs.Verified.{AreSubjectsOf, IsSubjectOf, ValidListingsGiveSigns, rules_of}
use Rattle.ln_verify.specs.Versions.{version_of}
use Rattle.ln_verify.specs.declared.version.Version.{Version as InCode}
use Rattle.ln_verify.specs.declared.version.Version.TheVariants.{One, Two}
use Rattle.std.proofs.lemmas.List.{length-map}
use Rattle.std.proofs.lemmas.List.Elements.{All-map}
use Rattle.std.proofs.lemmas.Option.{slice_get-get_or, slice_get_within}
use Rattle.ln_algebra.specs.Orders.{BySmallest}
use Rattle.ln_algebra.specs.Terms.{IsNormalOf, derived}
use Rattle.ln_interval.specs.Range.{Range}
use Rattle.ln_tree.specs.declared.shape.VarInfo.{VarInfo}
use Rattle.ln_tree.specs.Exps.{Pairs, vector}
use Rattle.ln_order.specs.Orders.{orders_of}
use Rattle.ln_order.specs.Prefixes.{prefixes_of}
use Rattle.ln_order.specs.Rows.{OrderStages}
use Rattle.ln_order.specs.Sites.{sites_of}
use Rattle.ln_poly.specs.Sparse.{Sparse, terms_of}
use Rattle.ln_stage.specs.StageList.{IsStageListOf}
use Rattle.ln_stage.proofs.Monomials.LawLemmas.{lists-of-trees}
use Rattle.ln_code.specs.declared.op.Triple.{Triple}
use Rattle.ln_code.specs.Carried.{Carries, CarriesDerivative, CarriesWhole, Runs, vectors}
use Rattle.ln_code.specs.Engine.{Line, answer}
use Rattle.ln_code.specs.FilterRules.{FilterKnown, filter_rules}
use Rattle.ln_code.specs.Kept.{FollowsFilterRules, FollowsRules}
use Rattle.ln_code.specs.Lists.{IsListOf}
use Rattle.ln_code.specs.Numbers.{no_locals}
use Rattle.ln_code.specs.Part.{Code, filter_known_of, known_of, lines_of}
use Rattle.ln_code.specs.Rules.{Known, rules}
use Rattle.ln_code.proofs.Verdicts.Machine.{rows-have}
use Rattle.ln_due.proofs.Verdicts.Composition.{signs-perturbed}
use Rattle.ln_verify.specs.Stands.{FilterStands, ListStands, PartStands, PieceStands}
use Rattle.ln_verify.proofs.Judging.Put.{valid-stands}
use Rattle.ln_verify.proofs.Engines.Versions.{version_1_follows}
use Rattle.ln_verify.proofs.Judging.Wholes.{list-stands, segments-all}

-- ---- what the rules of programs know, in either version
-- what follows a version's rules follows the rules of programs, with the same expression and in a filter the same triple
pub record Followed (v : Version) : Type 0 where
  pub block : (vars : List VarInfo) (lines : List (Line Range)) (x : Known) → answer (block_rules v vars) no_locals lines ≡ Some x
      → (y : Known) × (answer (rules vars deepest) no_locals lines ≡ Some y) × (x.tree ≡ y.tree)
  pub filter : (vars : List VarInfo) (lines : List (Line Triple)) (x : FilterKnown) → answer (triple_rules v vars) no_locals lines ≡ Some x
      → (y : FilterKnown) × (answer (filter_rules vars deepest) no_locals lines ≡ Some y) × (x.tree ≡ y.tree) × (x.triple ≡ y.triple)

followed : (f : InCode) → Followed (version_of f)
followed One = record {
  block = λ vars lines x q. let r = version_1_follows.block vars lines x q in (r.0, r.1, r.2.tree);
  filter = λ vars lines x q. let r = version_1_follows.filter vars lines x q in (r.0, r.1, r.2.tree, r.2.triple);
}
followed Two = record { block = λ vars lines x q. (x, q, refl); filter = λ vars lines x q. (x, q, refl, refl) }

-- the lines of code made of lines
lines-back : {B : Type 0} (lines : List (Line B)) → lines_of (map (λ (x : Line B). x.op) lines) (map (λ (x : Line B). x.bound) lines) ≡ lines
lines-back [] = refl
lines-back (x ∷ xs) = ap (λ z. x ∷ z) (lines-back xs)

some-is : {A : Type 0} (o : Option A) (a : A) → o ≡ Some a → IsSome o
some-is None a h = cc
some-is (Some b) a h = refl

-- ---- blocks and the filter
module _ (v : Version) (z : Followed v) (p : Subject) where
  -- what the rules know of a block
  block-known : (b : Piece) (h : PieceStands v p b) → (y : Known) × (known_of p.vars (code_of b) ≡ Some y) × (h.left.tree ≡ y.tree)
  block-known b h =
      let r = z.block p.vars b.lines h.left h.answered in
      (r.0, ap (answer (rules p.vars deepest) no_locals) (lines-back b.lines) ∙ r.1, r.2)

  follows-rules : (b : Piece) → PieceStands v p b → FollowsRules p.vars (code_of b)
  follows-rules b h = record {
    bounded = length-map b.lines (λ (x : Line Range). x.op) ∙ sym (length-map b.lines (λ (x : Line Range). x.bound));
    answers = let k = block-known b h in some-is (known_of p.vars (code_of b)) k.0 k.1;
  }

  carries-derivative : (b : Piece) → PieceStands v p b → CarriesDerivative p.vars (terms_of (length p.vars) p.poly) (code_of b)
  carries-derivative b h =
      let k = block-known b h in
      record {
        what = k.0;
        known = k.1;
        derivative =
            subst (λ (t : Tree). IsNormalOf (length p.vars) t (derived (vector (length p.vars) b.exps) (terms_of (length p.vars) p.poly))) k.2 h.derivative;
      }

  filter-known : (lines : List (Line Triple)) (h : FilterStands v p lines)
      → (y : FilterKnown) × (filter_known_of p.vars (filter_code lines) ≡ Some y) × (h.left.tree ≡ y.tree) × (h.left.triple ≡ y.triple)
  filter-known lines h =
      let r = z.filter p.vars lines h.left h.answered in
      (r.0, ap (answer (filter_rules p.vars deepest) no_locals) (lines-back lines) ∙ r.1, r.2, r.3)

  filter-follows : (lines : List (Line Triple)) → FilterStands v p lines → FollowsFilterRules p.vars (filter_code lines)
  filter-follows lines h =
      let k = filter-known lines h in
      let e : h.left.triple.e ≡ k.0.triple.e = ap (λ (t : Triple). t.e) k.3 in
      record {
        bounded = length-map lines (λ (x : Line Triple). x.op) ∙ sym (length-map lines (λ (x : Line Triple). x.bound));
        what = k.0;
        known = k.1;
        narrow = omega (arith, h.narrow, e);
      }

  carries-whole : (lines : List (Line Triple)) → FilterStands v p lines → CarriesWhole p.vars (terms_of (length p.vars) p.poly) (filter_code lines)
  carries-whole lines h =
      let k = filter-known lines h in
      record { what = k.0; known = k.1; whole = subst (λ (t : Tree). IsNormalOf (length p.vars) t (terms_of (length p.vars) p.poly)) k.2 h.whole }

  filters-follow : (o : Option (List (Line Triple))) → IfSome o (FilterStands v p) → IfSome (filter_of o) (FollowsFilterRules p.vars)
  filters-follow None h = tt
  filters-follow (Some lines) h = filter-follows lines h

  filters-carry : (o : Option (List (Line Triple))) → IfSome o (FilterStands v p) → IfSome (filter_of o) (CarriesWhole p.vars (terms_of (length p.vars) p.poly))
  filters-carry None h = tt
  filters-carry (Some lines) h = carries-whole lines h

-- ---- lists
map-all : {A B : Type 0} (g : A → B) (P : B → Type 0) (xs : List A) → ((k : ℕ) (x : A) → slice_get xs k ≡ Some x → P (g x)) → All P (map g xs)
map-all {A} g P xs h = All-map P g xs (λ k d l. h k (get_or xs k d) (slice_get-get_or xs k d l))

exps-same : (bs : List Piece) → map (λ (c : Code). c.exps) (map code_of bs) ≡ map (λ (b : Piece). b.exps) bs
exps-same [] = refl
exps-same (b ∷ bs) = ap (λ z. b.exps ∷ z) (exps-same bs)

-- the judge's subject of a shape
abbrev subject_of : Shape → List ℕ → Sparse → Subject
subject_of s name f = record { name = name; sites = s.sites; vars = s.vars; poly = f }

module _ (v : Version) (z : Followed v) (s : Shape) (e : Tree) (name : List ℕ) (f : Sparse) (w : Written) (h : PartStands v (subject_of s name f) w) where
  within : (k : ℕ) (list : List ℕ) → slice_get w.lists k ≡ Some list → All (λ n. n < length (map code_of w.blocks)) list
  within k list q =
      let l : k < length (orders_of s.sites) = omega (arith, slice_get_within w.lists k list q, h.all) in
      let t = h.lists k list q _ (slice_get-get_or (orders_of s.sites) k [] l) in
      λ j d l. omega (arith, t.within j d l, length-map w.blocks code_of, length-map w.blocks (λ (b : Piece). b.exps))

  runs : Runs (part_of s w)
  runs = record {
    blocks = map-all code_of (FollowsRules s.vars) w.blocks (λ k b q. follows-rules v z (subject_of s name f) b (h.blocks k b q));
    filter = filters-follow v z (subject_of s name f) w.filter h.filter;
    prefixes = length-map (prefixes_of s.sites) (segment_at s.sites w.lists);
    named = map-all (segment_at s.sites w.lists) (λ (segment : List ℕ). All (λ n. n < length (map code_of w.blocks)) segment)
        (prefixes_of s.sites) (λ k p q. segments-all s w h.all (λ n. n < length (map code_of w.blocks)) within p);
  }

  order-stages : IsNormal (length s.vars) e f → (places list : List ℕ) → IsListOf (part_of s w) places list
      → OrderStages BySmallest s.vars e places (vectors (part_of s w) list)
  order-stages normal places list l =
      let r = list-stands s w h.all places list l in
      let t : ListStands (subject_of s name f) w.blocks places list =
      subst (λ (x : List ℕ). ListStands (subject_of s name f) w.blocks places x) (sym r.1) (h.lists r.0.at _ r.0.beside_it places r.0.there) in
      (lists-of-trees (length s.vars) (sites_of s.vars places) e f (vectors (part_of s w) list) normal.normal).0
      (subst (λ (xs : List Pairs). IsStageListOf (length s.vars) (sites_of s.vars places) f
      (map (λ (k : ℕ). vector (length s.vars) (slice_index_or xs k [])) list)) (sym (exps-same w.blocks)) t.stages)

  carries : IsNormal (length s.vars) e f → InputsBelow (length s.vars) e → Carries BySmallest (part_of s w) e (terms_of (length s.vars) f)
  carries normal inputs = record {
    inputs = inputs;
    normal = normal.normal;
    lists = order-stages normal;
    blocks = map-all code_of (CarriesDerivative s.vars (terms_of (length s.vars) f)) w.blocks
        (λ k b q. carries-derivative v z (subject_of s name f) b (h.blocks k b q));
    filter = filters-carry v z (subject_of s name f) w.filter h.filter;
  }

  gives-sign : (row : Row) → IsNormal (length s.vars) e f → InputsBelow (length s.vars) e → InRange s.sites s.vars row → GivesSign s e w row
  gives-sign row normal inputs r =
      let a = rows-have (part_of s w) row runs r in
      record {
        verdict = a.0;
        answers = a.1;
        sign = λ u m. signs-perturbed BySmallest (part_of s w) e (terms_of (length s.vars) f) row u runs (carries normal inputs) r m;
      }

-- whose names these are
as-subject : (s : Shape) (e : Tree) (p : Subject) → IsSubject s e p → p ≡ subject_of s p.name p.poly
as-subject s e p h = let a = h.sites in let b = h.vars in λ i. record { name = p.name; sites = a i; vars = b i; poly = p.poly }

-- the parts of a valid listing of either version return the perturbed sign, on each row in range
pub signs-given : ValidPartsGiveSigns
signs-given f ps lines h k p w s e row there here i r =
    let q = as-subject s e p i in
    let stands : PartStands (version_of f) (subject_of s p.name p.poly) w =
    subst (λ (y : Subject). PartStands (version_of f) y w) q (valid-stands (version_of f) ps lines h k w here p there) in
    gives-sign (version_of f) (followed f) s e p.name p.poly w stands row i.normal i.inputs r

-- the version in code of a listing with this number
in-code : (n : ℕ) → (f : InCode) × (version_of f ≡ rules_of n)
in-code n = by_case (n == 1) refl
  where
    by_case : (b : Bool) → (n == 1) ≡ b → (f : InCode) × (version_of f ≡ rules_of n)
    by_case true e = (One, sym (ap (λ (b : Bool). if b then version_1 else version_2) e))
    by_case false e = (Two, sym (ap (λ (b : Bool). if b then version_1 else version_2) e))

inputs-below : (p : Pred) → IsSound (pred_of p) → InputsBelow (length p.shape.vars) (root_of (pred_of p))
inputs-below p a =
    (root-light (length p.shape.vars) two (closed_lets p.shape.vars (map formula p.lets)) (tree p.shape.vars (formula p.root))
    (pred-expands p.args p.shape.vars p.lets (length p.let_names) p.root p.kept a.light).1).inputs

-- the subject of a predicate, and that it has its part
subject-there : (ps : List Pred) (ss : List Subject) (k : ℕ) (p : Pred) → AreSubjectsOf (map pred_of ps) ss → slice_get ps k ≡ Some p
    → (s : Subject) × (slice_get ss k ≡ Some s) × IsSubjectOf (pred_of p) s
subject-there [] ss k p h e = cc
subject-there (q ∷ ps) [] k p h e = absurd h
subject-there (q ∷ ps) (s ∷ ss) zero p h e = let z : q ≡ p = cc in (s, refl, subst (λ (x : Pred). IsSubjectOf (pred_of x) s) z h.0)
subject-there (q ∷ ps) (s ∷ ss) (suc k) p h e = subject-there ps ss k p h.1 e

part-there : {A B : Type 0} (xs : List A) (ys : List B) (k : ℕ) (x : A) → length ys ≡ length xs → slice_get xs k ≡ Some x → (y : B) × (slice_get ys k ≡ Some y)
part-there [] ys k x l e = cc
part-there (a ∷ xs) (b ∷ ys) zero x l e = (b, refl)
part-there (a ∷ xs) (b ∷ ys) (suc k) x l e = part-there xs ys k x (omega (arith, l)) e
part-there xs ys k x l e = absurd (omega (arith, l))

told : (f : InCode) (v : Version) (ss : List Subject) (lines : List Part) (h : IsValid v ss lines) (k : ℕ) (s : Subject) (w : Written)
    (shape : Shape) (e : Tree) (row : Row) → version_of f ≡ v →
    slice_get ss k ≡ Some s → slice_get h.parts k ≡ Some w → IsSubject shape e s → InRange shape.sites shape.vars row → GivesSign shape e w row
told f v ss lines h k s w shape e row q there here i r =
    signs-given f ss lines (record {
      parts = h.parts;
      good = subst (λ (x : Version). Go x ss (Outside []) lines (Outside h.parts)) (sym q) h.good;
      all = h.all;
    }) k s w shape e row there here i r

-- a listing that is valid for accepted predicates has a part of each, whose verdict on each row in range is the perturbed sign
pub signs-told : ValidListingsGiveSigns
signs-told ps l a h k p row e r =
    let s = subject-there ps h.subjects k p h.those e in
    let w = part-there h.subjects h.valid.parts k s.0 h.valid.all s.1 in
    let f = in-code l.version in
    let i : IsSubject p.shape (root_of (pred_of p)) s.0 =
    record { sites = s.2.sites; vars = s.2.vars; inputs = inputs-below p (sound-of ps k p a e); normal = s.2.normal } in
    (w.0, w.1, told f.0 (rules_of l.version) h.subjects (parts_of l.entries) h.valid k s.0 w.0 p.shape (root_of (pred_of p)) row f.1 s.1 w.1 i r)
