-- The blocks of stages, one after the other.
use Rattle.std.proofs.Common.{◌≡◌, ℕ, ◌+◌, ◌*◌, ◌<◌, ◌≤◌, List, [], ◌∷◌, ◌++◌, length, map, take, get_or, refl, sym, ◌∙◌, ap, subst, arith, Some}
use Rattle.std.specs.Prelude.{slice_get}
use Rattle.std.proofs.lemmas.List.{length-append, length-map, map-append, take_all, take_more}
use Rattle.std.proofs.lemmas.List.Elements.{All-nil, All-push}
use Rattle.ln_algebra.specs.Vector.{zeros}
use Rattle.ln_tree.specs.Exps.{Pairs, vector}
use Rattle.ln_tree.specs.declared.shape.VarInfo.{VarInfo}
use Rattle.ln_poly.specs.Sparse.{Sparse}
use Rattle.ln_poly.specs.Derivative.{all_covering, covering}
use Rattle.ln_code.specs.Part.{Code, ops_in_blocks}
use Rattle.ln_due.specs.Derivative.{IsDerivativeBlock}
use Rattle.ln_due.specs.Blocks.{AreBlocksOf}
use Rattle.ln_poly.proofs.Expansions.Normals.{vector-none}

ops-append : (xs ys : List Code) → ops_in_blocks (xs ++ ys) ≡ ops_in_blocks xs + ops_in_blocks ys
ops-append [] ys = omega arith
ops-append (x ∷ xs) ys = omega (arith, ops-append xs ys)

covering-append : (n : ℕ) (f : Sparse) (xs ys : List (List ℕ)) → all_covering n f (xs ++ ys) ≡ all_covering n f xs + all_covering n f ys
covering-append n f [] ys = omega arith
covering-append n f (x ∷ xs) ys = omega (arith, covering-append n f xs ys)

first-stays : (xs ys : List Code) (c : Code) → slice_get xs 0 ≡ Some c → slice_get (xs ++ ys) 0 ≡ Some c
first-stays [] ys c h = cc
first-stays (x ∷ xs) ys c h = h

module _ (IsMade : Code → Type 0) (vars : List VarInfo) (f : Sparse) (own : Code) where
  -- the first block
  pub blocks-begin : (exps : List Pairs) (old blocks : List Code) → old ≡ [] → blocks ≡ old ++ own ∷ [] → 0 < length exps
      → vector (length vars) (get_or exps 0 []) ≡ zeros (length vars) → own.exps ≡ [] → IsDerivativeBlock vars f own
      → AreBlocksOf IsMade vars f own (take 1 exps) blocks
  blocks-begin [] old blocks a e l z o b = absurd (omega arith)
  blocks-begin (x ∷ xs) old blocks a e l z o b =
      let g : own ∷ [] ≡ blocks = sym (e ∙ ap (λ bs. bs ++ own ∷ []) a) in
      let v : vector (length vars) own.exps ≡ vector (length vars) x = ap (vector (length vars)) o ∙ vector-none 0 (length vars) ∙ sym z in
      let one : AreBlocksOf IsMade vars f own (x ∷ []) (own ∷ []) = record {
        first = refl;
        vectors = ap (λ y. y ∷ []) v;
        each = All-push (IsDerivativeBlock vars f) [] own (All-nil (IsDerivativeBlock vars f)) b;
        made = λ h. All-push IsMade [] own (All-nil IsMade) h;
        few = omega arith;
      } in
      subst (λ (bs : List Code). AreBlocksOf IsMade vars f own (x ∷ []) bs) g one

  -- one block more
  pub blocks-more : (exps : List Pairs) (i : ℕ) (old blocks : List Code) (c : Code) (a : Pairs) → i < length exps → a ≡ get_or exps i a
      → blocks ≡ old ++ c ∷ [] → c.exps ≡ a → IsDerivativeBlock vars f c → IsMade c
      → length c.ops ≤ 4096 * covering (length vars) f (vector (length vars) a) + 68
      → AreBlocksOf IsMade vars f own (take i exps) old → AreBlocksOf IsMade vars f own (take (i + 1) exps) blocks
  blocks-more exps i old blocks c a l q e x b w s h =
      let t : take i exps ++ a ∷ [] ≡ take (i + 1) exps = sym (take_more exps i a l ∙ ap (λ y. take i exps ++ y ∷ []) (sym q)) in
      let m : map (vector (length vars)) (take i exps ++ a ∷ []) ≡ map (vector (length vars)) (take i exps) ++ vector (length vars) a ∷ [] =
      map-append (vector (length vars)) (take i exps) (a ∷ []) in
      let k : map (λ (d : Code). vector (length vars) d.exps) (old ++ c ∷ []) ≡ map (λ (d : Code). vector (length vars) d.exps) old
      ++ vector (length vars) c.exps ∷ [] = map-append (λ (d : Code). vector (length vars) d.exps) old (c ∷ []) in
      let n : all_covering (length vars) f (map (vector (length vars)) (take i exps ++ a ∷ []))
      ≡ all_covering (length vars) f (map (vector (length vars)) (take i exps)) + (covering (length vars) f (vector (length vars) a) + 0) =
      ap (all_covering (length vars) f) m
      ∙ covering-append (length vars) f (map (vector (length vars)) (take i exps)) (vector (length vars) a ∷ []) in
      let one : AreBlocksOf IsMade vars f own (take i exps ++ a ∷ []) (old ++ c ∷ []) = record {
        first = first-stays old (c ∷ []) own h.first;
        vectors = k ∙ ap (λ y. map (λ (d : Code). vector (length vars) d.exps) old ++ vector (length vars) y ∷ []) x
            ∙ ap (λ y. y ++ vector (length vars) a ∷ []) h.vectors ∙ sym m;
        each = All-push (IsDerivativeBlock vars f) old c h.each b;
        made = λ y. All-push IsMade old c (h.made y) w;
        few = omega (arith, h.few, s, n, ops-append old (c ∷ []), length-append (take i exps) (a ∷ []));
      } in
      subst (λ (ys : List Pairs). AreBlocksOf IsMade vars f own ys blocks) t
      (subst (λ (bs : List Code). AreBlocksOf IsMade vars f own (take i exps ++ a ∷ []) bs) (sym e) one)

  -- the end of the loop in `blocks_after`: there is a block for each of the exponents
  pub blocks-end : (exps : List Pairs) (i : ℕ) (blocks : List Code) → length exps ≤ i
      → AreBlocksOf IsMade vars f own (take i exps) blocks → AreBlocksOf IsMade vars f own exps blocks
  blocks-end exps i blocks l h = subst (λ (ys : List Pairs). AreBlocksOf IsMade vars f own ys blocks) (take_all i exps l) h

-- blocks are as many as the exponents that they have the vectors of
pub blocks-length : (n : ℕ) (blocks : List Code) (exps : List Pairs) → map (λ (c : Code). vector n c.exps) blocks ≡ map (vector n) exps
    → length blocks ≡ length exps
blocks-length n blocks exps e = omega (arith, ap length e, length-map blocks (λ (c : Code). vector n c.exps), length-map exps (vector n))
