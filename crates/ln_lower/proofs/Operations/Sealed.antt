-- What the lowered block is.
use Rattle.std.proofs.Common.{◌≡◌, inl, inr, ℕ, ◌+◌, ◌*◌, ◌≤◌, ◌<◌, List, [], ◌∷◌, ◌++◌, length, map, refl, ap, arith, ◌∙◌, sym, subst}
use Rattle.std.proofs.Common.{get_or}
use Rattle.std.specs.Prelude.{Option, Some, All, pos, slice_index_or}
use Rattle.std.proofs.lemmas.List.{length-map}
use Rattle.std.proofs.lemmas.List.Elements.{All-cons, All-nil}
use Rattle.std.proofs.lemmas.Option.{slice_get-get_or}
use Rattle.ln_algebra.specs.Coefficient.{Series}
use Rattle.ln_algebra.specs.Tree.{Num, Tree}
use Rattle.ln_tree.specs.declared.shape.VarInfo.{VarInfo}
use Rattle.ln_tree.specs.Exps.{Pairs}
use Rattle.ln_bound.specs.declared.fitted.Fitted.{Fitted}
use Rattle.ln_bound.specs.declared.fitted.Width.{Width}
use Rattle.ln_bound.specs.declared.fitted.Width.TheVariants.{W64}
use Rattle.ln_bound.specs.Value.{value, values}
use Rattle.ln_bound.specs.Typed.{Typed, TNum, TInput, TLet, TNeg, TTwo, TPow, pair, width, cost, untyped}
use Rattle.ln_bound.specs.Sound.{Sound, SoundNodes, AreSound}
use Rattle.ln_bound.specs.View.{typed}
use Rattle.ln_interval.specs.Range.{Range, power}
use Rattle.ln_interval.specs.View.{range}
use Rattle.ln_interval.specs.declared.pair.Pair.{Pair}
use Rattle.ln_interval.proofs.Magnitudes.{covers_magnitude, power_ordered}
use Rattle.ln_bound.proofs.Trees.Whole.{whole_value}
use Rattle.ln_code.specs.Engine.{Line, run}
use Rattle.ln_code.specs.Rules.{Known, rules}
use Rattle.ln_code.specs.Part.{Code, lines_of, known_of}
use Rattle.ln_code.specs.Numbers.{no_locals}
use Rattle.ln_code.specs.Kept.{FollowsRules, nothing}
use Rattle.ln_code.proofs.Following.Means.{blocks_mean}
use Rattle.ln_code.proofs.Lines.{lines_length}
use Rattle.ln_code.specs.StackCode.{line}
use Rattle.ln_code.specs.declared.op.Op.{Op}
use Rattle.ln_code.specs.declared.builder.Built.{Built}
use Rattle.ln_code.specs.declared.draft.Draft.{Draft}
use Rattle.ln_code.specs.Walk.{told_line}
use Rattle.ln_code.specs.Nodes.{IsLetNode, IsNodeOf}
use Rattle.ln_lower.specs.Nodes.{HasPolynomial}
use Rattle.ln_lower.specs.declared.distinct.Key.{Key}
use Rattle.ln_lower.specs.Lowered.{IsLoweredBlock, PowersFit}
use Rattle.ln_lower.specs.StackCode.{IsCodeOf, block_style}
use Rattle.ln_lower.specs.Wrote.{Drafted}
use Rattle.ln_code.proofs.Building.Names.{closed, closed_snoc, tree_in}
use Rattle.ln_code.proofs.Building.Runs.{Holds, Locals}
use Rattle.ln_code.proofs.Building.Present.{Present}
use Rattle.ln_code.proofs.Building.Lands.{AreGood, code_lands}
use Rattle.ln_code.proofs.Building.Sizes.{code_stores, code_weight}
use Rattle.ln_lower.proofs.Operations.Meaning.{Setting, StandsFor, meaning, wanted}
use Rattle.ln_lower.proofs.Operations.Nodes.{facts, sound_in}
use Rattle.ln_lower.proofs.Operations.Costs.{all_weigh, block_weighs}
use Rattle.ln_lower.proofs.Subtrees.Bounding.{limit_most, power_one}

-- operations with their pairs are operations with the ranges of these
lines_ranged : (os : List Op) (ps : List Pair) → lines_of os (map range ps) ≡ map (told_line range) (lines_of os ps)
lines_ranged [] ps = refl
lines_ranged (o ∷ os) [] = refl
lines_ranged (o ∷ os) (p ∷ ps) = ap (λ l. line o (range p) ∷ l) (lines_ranged os ps)

-- ---- powers fit

powers_fit : (vars : List VarInfo) (lets : List Typed) (t : Typed) → SoundNodes vars lets t → PowersFit t
powers_fit vars lets (TNum c p w) s = tt
powers_fit vars lets (TInput v p w) s = tt
powers_fit vars lets (TLet j p w) s = tt
powers_fit vars lets (TNeg t p w) s = powers_fit vars lets t s.0
powers_fit vars lets (TTwo k u t p w) s = (powers_fit vars lets u s.0, powers_fit vars lets t s.1)
powers_fit vars lets (TPow t n p w) s =
    let h = limit_most w in
    let c = covers_magnitude p (power (pair t) n) (power_ordered (pair t) n) s.1 in
    let i = s.2.1 in
    let o = sound_in vars lets t s.0 in
    (powers_fit vars lets t s.0, omega (arith, h, c, i), power_one (pair t) o.0)

-- the ranges of all powers in a sound tree are within 2^127 - 1
pub root_fits : (vars : List VarInfo) (lets : List Typed) (t : Typed) → Sound vars lets t → PowersFit t
root_fits vars lets t s = powers_fit vars lets t s.nodes

-- the ranges of all powers in sound lets are within 2^127 - 1
pub all_fit : (vars : List VarInfo) (done : List Typed) (lets : List Fitted) → AreSound vars done (map typed lets) → All (λ u. PowersFit (typed u)) lets
all_fit vars done [] s = All-nil (λ u. PowersFit (typed u))
all_fit vars done (u ∷ us) s = All-cons (λ u. PowersFit (typed u)) u us (root_fits vars done (typed u) s.0) (all_fit vars (done ++ (typed u ∷ [])) us s.1)

-- ---- the block

-- sound lets may be written
lets_good : (at : Setting) (done ts : List Typed) → AreSound at.vars done ts → ((e : Tree) (v : Width) → IsLetNode (closed done) ts e v → at.is_node e v)
    → AreGood (meaning at) done ts
lets_good at done [] s f = tt
lets_good at done (t ∷ ts) s f = (
  record { sound = s.0; nodes = λ e v h. f e v (inl h) },
  lets_good at (done ++ (t ∷ [])) ts s.1 (λ e v h. f e v (inr (subst (λ es. IsLetNode es ts e v) (closed_snoc done t) h))),
)

-- a let is in its local
has_polynomial : (lets : List Typed) (u : Typed) (at : Setting) (o : Option Known) → Holds (meaning at) lets u o → HasPolynomial o (tree_in lets u)
has_polynomial lets u at o h = let k = h.stands in rw h.there (λ m. ap (λ (f : Series). f m) k.same.series)

lets_are_kept : (at : Setting) (lets kept : List Typed) (l : Locals Known) → Present (meaning at) lets kept l → (j : ℕ) → j < length lets
    → HasPolynomial (l j) (slice_index_or (closed lets) j (Num (pos 0)))
lets_are_kept at lets kept l k j h =
    let d : Typed = TNum (pos 0) nothing W64 in
    let u : Typed = get_or lets j d in
    has_polynomial lets (TLet j (pair u) (width u)) at (l j) (k.lets_there j u (slice_get-get_or lets j d h))

top_is : (o : Option Known) (v k : Known) → o ≡ Some v → o ≡ Some k → v ≡ k
top_is o v k a b = let e : Some v ≡ Some k = sym a ∙ b in cc

-- code of at most 64 sound lets and of a sound tree after them is a lowered block
lowered_is : (vars : List VarInfo) (code : Code) (t : Typed) (lets : List Typed) (all : List (Line Range)) → IsCodeOf lets t all
    → length lets ≤ 64 → AreSound vars [] lets → Sound vars lets t → code.depth ≡ 2048 → lines_of code.ops code.pairs ≡ all
    → length code.ops ≡ length code.pairs
    → IsLoweredBlock vars code.exps lets t code
lowered_is vars code t lets all w few ls s d e b =
    let deep : 2048 ≤ code.depth = omega (arith, d) in
    let at : Setting = record { vars = vars; depth = code.depth; is_node = IsNodeOf lets t } in
    let x = code_lands (meaning at) (facts at deep) lets t all w few (lets_good at [] lets ls (λ e v h. inl h))
    (record { sound = s; nodes = λ e v h. inr h }) in
    let ends : run (rules vars code.depth) all (record { stack = []; locals = no_locals }) ≡ Some (record { stack = x.value ∷ []; locals = x.locals }) =
    x.runs.ends in
    let f : known_of vars code ≡ Some x.value = rw (e, ends) refl in
    let top : (k : Known) → known_of vars code ≡ Some k → StandsFor (wanted lets t) k =
    λ k h. subst (λ n. StandsFor (wanted lets t) n) (top_is (known_of vars code) x.value k f h) x.stands in
    let g : FollowsRules vars code = record { bounded = b; answers = rw f refl } in
    let n : length code.ops ≡ length all = lines_length code.ops code.pairs b ∙ ap (λ (l : List (Line Range)). length l) e in
    let c = code_weight (λ done. block_style) 0 (λ t. 3 * cost t) (λ done. block_weighs) lets t all w in
    let a = all_weigh lets in
    record {
      exponents = refl;
      block = record {
        shallow = let i : code.depth ≤ 2048 = omega (arith, d) in i;
        stores_have = rw e (code_stores (λ done. block_style) nothing (λ done. refl) lets t all w);
        vars = vars;
        rules = g;
      };
      follows = g;
      gives = λ zs h. let m = blocks_mean vars zs code h g in let same = (top m.what m.known).same in
          m.answer ∙ ap Some (same.values (values zs) ∙ sym (whole_value (values zs) (map untyped lets) (untyped t)));
      covers = λ k h. (top k h).covered;
      root = λ k h m. let same = (top k h).same in ap (λ (f : Series). f m) same.series;
      nodes = rw e x.runs.each;
      locals = rw (e, ends) (lets_are_kept at lets x.kept x.locals x.present);
      code = rw e w;
      small = omega (arith, n, c, a, few);
    }

-- the block that is sealed from these operations, with the derivative's exponents
abbrev pub sealed_from : Pairs → Built Pair → Code
sealed_from a d = record { exps = a; ops = d.ops; pairs = map range d.bounds; depth = 2048 }

-- a block that is sealed from the operations of sound lets and a sound tree is a lowered one
pub sealed : (vars : List VarInfo) (a : Pairs) (t : Typed) (lets : List Fitted) (d : Draft Pair) (b : Built Pair) → length lets ≤ 64
    → AreSound vars [] (map typed lets) → Sound vars (map typed lets) t → ((ks : List Key) × Drafted ks (map typed lets) t d)
    → lines_of b.ops b.bounds ≡ d.code → length b.ops ≡ length b.bounds → IsLoweredBlock vars a (map typed lets) t (sealed_from a b)
sealed vars a t lets d b few sound root x e n =
    let v = x.1.lets in
    let w = x.1.root in
    let c = w.coded v.kept v.are in
    let all : List (Line Range) = v.lines ++ w.lines in
    let code : IsCodeOf (map typed lets) t (v.lines ++ w.lines) = record {
      first = v.lines;
      last = w.lines;
      kept = v.kept;
      new = c.new;
      computed = w.computed;
      lets_code = v.code;
      root_code = c.code;
      all = refl;
    } in
    let i : lines_of b.ops (map range b.bounds) ≡ v.lines ++ w.lines = lines_ranged b.ops b.bounds
    ∙ ap (λ (l : List (Line Pair)). map (told_line range) l) e ∙ w.wrote.code ∙ ap (λ l. l ++ w.lines) v.is in
    lowered_is vars (sealed_from a b) t (map typed lets) all code (simp length-map few) sound root refl i
    (simp length-map n)
