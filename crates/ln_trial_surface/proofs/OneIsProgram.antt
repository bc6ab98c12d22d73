-- Proves that the filter and the program that push 1 keep what filters and programs keep.
use Rattle.std.proofs.Common.{◌≡◌, ◌≢◌, ℕ, zero, suc, ◌<◌, refl, sym, ◌∙◌, subst, arith, List, [], ◌∷◌, length, take, map, true, false}
use Rattle.std.proofs.Math.IntN.{pos}
use Rattle.std.specs.Prelude.{All, AllPairs}
use Rattle.std.specs.List.{range_with_len}
use Rattle.ln_tree.specs.declared.shape.Shape.{Shape}
use Rattle.ln_tree.specs.declared.shape.VarInfo.{VarInfo}
use Rattle.ln_algebra.specs.Tree as tree
use Rattle.ln_order.specs.Prefixes.{beside, joined, prefixes_of}
use Rattle.ln_code.specs.Kept.{AreOfSites, FollowsFilterRules, FollowsRules, IsFilter, IsList, IsProgram}
use Rattle.ln_code.specs.Lists.{list_of}
use Rattle.ln_trial_surface.specs.One.{one_code, one_filter, one_part}

-- what holds of one item holds of its list
all-one : {X : Type 0} (P : X → Type 0) (x : X) → P x → All P (x ∷ [])
all-one P x h zero d l = h
all-one P x h (suc k) d l = absurd (omega (arith, l))

-- one item has no other beside it
pairs-one : (n : ℕ) → AllPairs (λ i j. i ≢ j) (n ∷ [])
pairs-one n i j d l m q = absurd (omega (arith, l, m))

-- the rules on the block, over any variables
block-rules : (vars : List VarInfo) → FollowsRules vars one_code
block-rules vars = record { bounded = refl; answers = refl }

-- the rules on the filter, over any variables
filter-rules : (vars : List VarInfo) → FollowsFilterRules vars one_filter
filter-rules vars = record {
  bounded = refl;
  what = record { triple = record { k = 0; h = 1; e = 0 }; tree = tree.Num (pos 1); size = 1 };
  known = refl;
  narrow = omega arith;
}

-- the filter
pub one-filter : IsFilter one_filter
one-filter = record {
  shallow = omega arith;
  stores_have = ((λ q. absurd (let n : false ≡ true = q in cc)), tt);
  vars = [];
  rules = filter-rules [];
}

-- no site has one order
no-order : (o : List ℕ) → length o ≡ 0 → o ≡ []
no-order [] e = refl
no-order (x ∷ o) e = absurd (omega (arith, e))

-- its list is that of the empty prefix
list-at : (k : ℕ) → k ≡ 0 → joined (map (λ i. beside (prefixes_of k) ((0 ∷ []) ∷ []) (take i [])) (range_with_len 0 1)) ≡ 0 ∷ []
list-at k e = rw e refl

-- it has one block, once
one-list : IsList 1 (0 ∷ [])
one-list = record { within = all-one (λ n. n < 1) 0 (omega arith); once = pairs-one 0; filled = omega arith }

-- the program, over a shape without sites
pub one-program : (s : Shape) → s.sites ≡ 0 → IsProgram (one_part s)
one-program s e = record {
  blocks = all-one (FollowsRules s.vars) one_code (block-rules s.vars);
  filter = filter-rules s.vars;
  few = omega arith;
  of_sites = all-one (λ c. AreOfSites s.vars c.exps) one_code tt;
  prefixes = rw e refl;
  named = all-one (All (λ n. n < 1)) (0 ∷ []) (all-one (λ n. n < 1) 0 (omega arith));
  lists = λ o h.
      let n : o ≡ [] = no-order o (h.size ∙ e) in
      subst (λ z. IsList 1 (list_of (one_part s) z)) (sym n) (subst (IsList 1) (sym (list-at s.sites e)) one-list);
}
