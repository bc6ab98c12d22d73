-- Lets and kept trees in locals.
use Rattle.std.proofs.Common.{◌≡◌, ◌≢◌, inl, inr, ℕ, ◌+◌, ◌≤◌, ◌<◌, true, false, List, [], ◌∷◌, ◌++◌, length, refl, suc, arith, ◌∙◌}
use Rattle.std.proofs.Common.{length-append}
use Rattle.std.specs.Prelude.{Option, Some, slice_get, ◌==◌}
use Rattle.std.proofs.lemmas.Bool.Decides.{nat_tests}
use Rattle.std.proofs.lemmas.Option.{slice_get_within}
use Rattle.ln_bound.specs.Typed.{Typed, TLet, pair, untyped, width}
use Rattle.ln_bound.proofs.Trees.LetLists.{get_snoc}
use Rattle.ln_code.specs.Numbers.{no_locals, with_local}
use Rattle.ln_code.proofs.Building.Names.{NamesBelow, names_more}
use Rattle.ln_code.proofs.Building.Runs.{Holds, Locals, Meaning}

-- where one local is set, another has what it had
pub at_other : {V : Type 0} (l : Locals V) (v : V) (i j : ℕ) → j ≢ i → with_local l i v j ≡ l j
at_other l v i j h =
    let e : (j == i) ≡ false = grind (arith, nat_tests) in
    rw e refl

-- and it has what was set
pub at_set : {V : Type 0} (l : Locals V) (v : V) (i j : ℕ) → j ≡ i → with_local l i v j ≡ Some v
at_set l v i j h =
    let e : (j == i) ≡ true = grind (arith, nat_tests, h) in
    rw e refl

-- ---- what is in the locals

-- a tree that is kept has its value after all lets, and names only these
pub record IsKept {B V : Type 0} (m : Meaning B V) (lets : List Typed) (t : Typed) (o : Option V) : Type 0 where
  pub holds : Holds m lets t o
  pub named : NamesBelow (length lets) (untyped t)

-- each let has its value in the local of its number, one of the first 64, and each kept tree in the local of its place, from 65 on
pub record Present {B V : Type 0} (m : Meaning B V) (lets kept : List Typed) (l : Locals V) : Type 0 where
  pub lets_there : (j : ℕ) (u : Typed) → slice_get lets j ≡ Some u → Holds m lets (TLet j (pair u) (width u)) (l j)
  pub kept_there : (i : ℕ) (u : Typed) → slice_get kept i ≡ Some u → IsKept m lets u (l (65 + i))
  pub few : length lets ≤ 64

-- what a local holds another of the same value holds
pub holds_at : {B V : Type 0} {m : Meaning B V} {lets : List Typed} {t : Typed} {o p : Option V} → Holds m lets t o → p ≡ o → Holds m lets t p
holds_at h e = record { value = h.value; there = e ∙ h.there; stands = h.stands }

-- nothing is there before any operation
pub none_present : {B V : Type 0} (m : Meaning B V) → Present m [] [] no_locals
none_present m = record { lets_there = λ j u e. cc; kept_there = λ i u e. cc; few = omega arith }

-- all stays where the locals of lets and of kept trees stay
pub present_same : {B V : Type 0} (m : Meaning B V) (lets kept : List Typed) (l n : Locals V) → Present m lets kept l
    → ((j : ℕ) → j < 64 → n j ≡ l j) → ((i : ℕ) → i < length kept → n (65 + i) ≡ l (65 + i)) → Present m lets kept n
present_same m lets kept l n h e f = record { lets_there = each; kept_there = further; few = h.few }
  where
    each : (j : ℕ) (u : Typed) → slice_get lets j ≡ Some u → Holds m lets (TLet j (pair u) (width u)) (n j)
    each j u g =
        let i : j < length lets = slice_get_within lets j u g in
        let k : length lets ≤ 64 = h.few in
        holds_at (h.lets_there j u g) (e j (omega (arith, i, k)))

    further : (i : ℕ) (u : Typed) → slice_get kept i ≡ Some u → IsKept m lets u (n (65 + i))
    further i u g =
        let x = h.kept_there i u g in
        record { holds = holds_at x.holds (f i (slice_get_within kept i u g)); named = x.named }

-- one tree more is kept
pub present_kept : {B V : Type 0} (m : Meaning B V) (lets kept : List Typed) (l : Locals V) (t : Typed) (v : V) → Present m lets kept l
    → m.stands lets t v → NamesBelow (length lets) (untyped t) → Present m lets (kept ++ (t ∷ [])) (with_local l (65 + length kept) v)
present_kept m lets kept l t v h s g = record { lets_there = x.lets_there; kept_there = each; few = h.few }
  where
    x : Present m lets kept (with_local l (65 + length kept) v)
    x = present_same m lets kept l (with_local l (65 + length kept) v) h
        (λ j i. at_other l v (65 + length kept) j (λ q. absurd (omega (arith, q, i))))
        (λ i k. at_other l v (65 + length kept) (65 + i) (λ q. absurd (omega (arith, q, k))))

    new : (i : ℕ) (u : Typed) → i ≡ length kept → t ≡ u → IsKept m lets u (with_local l (65 + length kept) v (65 + i))
    new i u e r = rw (← r) (record {
      holds = record { value = v; there = at_set l v (65 + length kept) (65 + i) (omega (arith, e)); stands = s };
      named = g;
    })

    each : (i : ℕ) (u : Typed) → slice_get (kept ++ (t ∷ [])) i ≡ Some u → IsKept m lets u (with_local l (65 + length kept) v (65 + i))
    each i u e = elim (get_snoc kept t i u e) [ inl p ↦ x.kept_there i u p.1 | inr p ↦ new i u p.0 p.1 ]

-- a value stands for the same tree after one let more, and what stands for the last let stands for its name
pub record LetStands {B V : Type 0} (m : Meaning B V) (lets : List Typed) (t : Typed) : Type 0 where
  pub old : (u : Typed) (v : V) → NamesBelow (length lets) (untyped u) → m.stands lets u v → m.stands (lets ++ (t ∷ [])) u v
  pub new : (v : V) → m.stands lets t v → m.stands (lets ++ (t ∷ [])) (TLet (length lets) (pair t) (width t)) v

-- one let more
pub present_let : {B V : Type 0} (m : Meaning B V) (lets kept : List Typed) (l : Locals V) (t : Typed) (v : V) → Present m lets kept l
    → m.stands lets t v → length lets < 64 → LetStands m lets t
    → Present m (lets ++ (t ∷ [])) kept (with_local l (length lets) v)
present_let m lets kept l t v h s few k = record {
  lets_there = each;
  kept_there = λ i u e. old_kept i u (h.kept_there i u e);
  few = let n = length-append lets (t ∷ []) in omega (arith, n, few);
}
  where
    old_kept : (i : ℕ) (u : Typed) → IsKept m lets u (l (65 + i)) → IsKept m (lets ++ (t ∷ [])) u (with_local l (length lets) v (65 + i))
    old_kept i u x =
        let y = x.holds in
        let n : length (lets ++ (t ∷ [])) ≡ suc (length lets) = let a = length-append lets (t ∷ []) in omega (arith, a) in
        record {
          holds = record {
            value = y.value;
            there = at_other l v (length lets) (65 + i) (λ q. absurd (omega (arith, q, few))) ∙ y.there;
            stands = k.old u y.value x.named y.stands;
          };
          named = rw n (names_more (length lets) (untyped u) x.named);
        }

    old : (j : ℕ) (u : Typed) → j < length lets → Holds m lets (TLet j (pair u) (width u)) (l j)
        → Holds m (lets ++ (t ∷ [])) (TLet j (pair u) (width u)) (with_local l (length lets) v j)
    old j u i x = record {
      value = x.value;
      there = at_other l v (length lets) j (λ q. absurd (omega (arith, q, i))) ∙ x.there;
      stands = k.old (TLet j (pair u) (width u)) x.value i x.stands;
    }

    new : (j : ℕ) (u : Typed) → j ≡ length lets → t ≡ u → Holds m (lets ++ (t ∷ [])) (TLet j (pair u) (width u)) (with_local l (length lets) v j)
    new j u q r = rw (← r, q) (record { value = v; there = at_set l v (length lets) (length lets) refl; stands = k.new v s })

    each : (j : ℕ) (u : Typed) → slice_get (lets ++ (t ∷ [])) j ≡ Some u
        → Holds m (lets ++ (t ∷ [])) (TLet j (pair u) (width u)) (with_local l (length lets) v j)
    each j u e = elim (get_snoc lets t j u e) [ inl p ↦ old j u p.0 (h.lets_there j u p.1) | inr p ↦ new j u p.0 p.1 ]
