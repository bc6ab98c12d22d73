-- Names of lets in trees, and what trees are after their lets, with one let more.
use Rattle.std.proofs.Common.{◌≡◌, ℕ, ◌+◌, ◌*◌, ◌^◌, ◌<◌, List, [], ◌∷◌, ◌++◌, length, map, refl, ap, ap₂, arith, ◌∙◌, sym, subst, suc, pos}
use Rattle.std.proofs.Common.{length-append}
use Rattle.std.specs.Prelude.{Option, Some, None, slice_get, slice_index_or}
use Rattle.std.proofs.lemmas.Option.{slice_get_within}
use Rattle.std.proofs.lemmas.List.{map-append}
use Rattle.ln_algebra.specs.Sizes.{one}
use Rattle.ln_algebra.specs.Tree.{Tree, Num, Input, Name, Neg, Add, Sub, Mul, Pow, inlined, inlined_after}
use Rattle.ln_tree.specs.declared.shape.VarInfo.{VarInfo}
use Rattle.ln_interval.specs.Range.{Range}
use Rattle.ln_bound.specs.declared.fitted.Width.{Width}
use Rattle.ln_bound.specs.declared.fitted.Two.{Two}
use Rattle.ln_bound.specs.declared.fitted.Two.TheVariants.{Plus, Minus, Times}
use Rattle.ln_bound.specs.Sound.{CoversLet, SoundNodes, running}
use Rattle.ln_bound.specs.Typed.{Typed, TNum, TInput, TLet, TNeg, TTwo, TPow, two_of, untyped}
use Rattle.ln_bound.specs.Value.{weight_over}
use Rattle.ln_bound.proofs.Trees.LetLists.{index_new, index_old, running_length, running_more, untyped_length}

-- the lets as closed expressions
abbrev pub closed : List Typed → List Tree
closed lets = inlined_after [] (map untyped lets)

-- the running size of a tree over its lets
abbrev pub size_in : List Typed → Typed → ℕ
size_in lets t = weight_over one (running lets) (untyped t)

-- the expression of a tree with its lets in place of their names
abbrev pub tree_in : List Typed → Typed → Tree
tree_in lets t = inlined (closed lets) (untyped t)

-- ---- names

-- each name is of one of the first n lets
abbrev pub NamesBelow : ℕ → Tree → Type 0
NamesBelow n (Num c) = Unit {0}
NamesBelow n (Input v) = Unit {0}
NamesBelow n (Name j) = j < n
NamesBelow n (Neg e) = NamesBelow n e
NamesBelow n (Add e f) = NamesBelow n e × NamesBelow n f
NamesBelow n (Sub e f) = NamesBelow n e × NamesBelow n f
NamesBelow n (Mul e f) = NamesBelow n e × NamesBelow n f
NamesBelow n (Pow e m) = NamesBelow n e

-- names of the first n lets are names of the first n + 1
pub names_more : (n : ℕ) (e : Tree) → NamesBelow n e → NamesBelow (suc n) e
names_more n (Num c) h = tt
names_more n (Input v) h = tt
names_more n (Name j) h = omega (arith, h)
names_more n (Neg e) h = names_more n e h
names_more n (Add e f) h = (names_more n e h.0, names_more n f h.1)
names_more n (Sub e f) h = (names_more n e h.0, names_more n f h.1)
names_more n (Mul e f) h = (names_more n e h.0, names_more n f h.1)
names_more n (Pow e m) h = names_more n e h

names_two : (n : ℕ) (k : Two) (e f : Tree) → NamesBelow n e → NamesBelow n f → NamesBelow n (two_of k e f)
names_two n Plus e f h g = (h, g)
names_two n Minus e f h g = (h, g)
names_two n Times e f h g = (h, g)

let_within : (lets : List Typed) (j : ℕ) (o : Option Typed) (p : Range) (w : Width) → slice_get lets j ≡ o → CoversLet o p w → j < length lets
let_within lets j None p w e c = absurd c
let_within lets j (Some u) p w e c = slice_get_within lets j u e

-- the names of a sound tree
pub sound_names : (vars : List VarInfo) (lets : List Typed) (t : Typed) → SoundNodes vars lets t → NamesBelow (length lets) (untyped t)
sound_names vars lets (TNum c p w) s = tt
sound_names vars lets (TInput v p w) s = tt
sound_names vars lets (TLet j p w) s = let_within lets j (slice_get lets j) p w refl s.0
sound_names vars lets (TNeg t p w) s = sound_names vars lets t s.0
sound_names vars lets (TTwo k u t p w) s = names_two (length lets) k (untyped u) (untyped t) (sound_names vars lets u s.0) (sound_names vars lets t s.1)
sound_names vars lets (TPow t n p w) s = sound_names vars lets t s.0

-- ---- with one let more

inlined_snoc : (done ts : List Tree) (t : Tree) → inlined_after done (ts ++ (t ∷ [])) ≡ inlined_after done ts ++ (inlined (inlined_after done ts) t ∷ [])
inlined_snoc done [] t = refl
inlined_snoc done (u ∷ us) t = inlined_snoc (done ++ (inlined done u ∷ [])) us t

inlined_length : (done ts : List Tree) → length (inlined_after done ts) ≡ length done + length ts
inlined_length done [] = omega arith
inlined_length done (u ∷ us) =
    let ih = inlined_length (done ++ (inlined done u ∷ [])) us in
    let n = length-append done (inlined done u ∷ []) in
    omega (arith, ih, n)

-- the closed expressions of lets with one more
pub closed_snoc : (ts : List Typed) (t : Typed) → closed (ts ++ (t ∷ [])) ≡ closed ts ++ (tree_in ts t ∷ [])
closed_snoc ts t = ap (λ (es : List Tree). inlined_after [] es) (map-append untyped ts (t ∷ [])) ∙ inlined_snoc [] (map untyped ts) (untyped t)

-- there are as many closed expressions as lets
closed_length : (ts : List Typed) → length (closed ts) ≡ length ts
closed_length ts = let e = inlined_length [] (map untyped ts) in let f = untyped_length ts in omega (arith, e, f)

inlined_front : (ts : List Tree) (c e : Tree) → NamesBelow (length ts) e → inlined (ts ++ (c ∷ [])) e ≡ inlined ts e
inlined_front ts c (Num z) h = refl
inlined_front ts c (Input v) h = refl
inlined_front ts c (Name j) h = index_old ts c (Num (pos 0)) j h
inlined_front ts c (Neg e) h = ap Neg (inlined_front ts c e h)
inlined_front ts c (Add e f) h = ap₂ Add (inlined_front ts c e h.0) (inlined_front ts c f h.1)
inlined_front ts c (Sub e f) h = ap₂ Sub (inlined_front ts c e h.0) (inlined_front ts c f h.1)
inlined_front ts c (Mul e f) h = ap₂ Mul (inlined_front ts c e h.0) (inlined_front ts c f h.1)
inlined_front ts c (Pow e n) h = ap (λ d. Pow d n) (inlined_front ts c e h)

weight_front : (m : ℕ → ℕ) (ss : List ℕ) (s : ℕ) (e : Tree) → NamesBelow (length ss) e → weight_over m (ss ++ (s ∷ [])) e ≡ weight_over m ss e
weight_front m ss s (Num z) h = refl
weight_front m ss s (Input v) h = refl
weight_front m ss s (Name j) h = index_old ss s 0 j h
weight_front m ss s (Neg e) h = weight_front m ss s e h
weight_front m ss s (Add e f) h = ap₂ ◌+◌ (weight_front m ss s e h.0) (weight_front m ss s f h.1)
weight_front m ss s (Sub e f) h = ap₂ ◌+◌ (weight_front m ss s e h.0) (weight_front m ss s f h.1)
weight_front m ss s (Mul e f) h = ap₂ ◌*◌ (weight_front m ss s e h.0) (weight_front m ss s f h.1)
weight_front m ss s (Pow e n) h = ap (λ d. d ^ n) (weight_front m ss s e h)

-- the expression of a tree stays with a let more, where all its names are of lets before it
pub tree_front : (lets : List Typed) (t u : Typed) → NamesBelow (length lets) (untyped u) → tree_in (lets ++ (t ∷ [])) u ≡ tree_in lets u
tree_front lets t u h =
    let a : length lets ≡ length (closed lets) = sym (closed_length lets) in
    let f : NamesBelow (length (closed lets)) (untyped u) = subst (λ n. NamesBelow n (untyped u)) a h in
    ap (λ es. inlined es (untyped u)) (closed_snoc lets t) ∙ inlined_front (closed lets) (tree_in lets t) (untyped u) f

-- and so does its size
pub size_front : (lets : List Typed) (t u : Typed) → NamesBelow (length lets) (untyped u) → size_in (lets ++ (t ∷ [])) u ≡ size_in lets u
size_front lets t u h =
    let b : length lets ≡ length (running lets) = sym (running_length lets) in
    let g : NamesBelow (length (running lets)) (untyped u) = subst (λ n. NamesBelow n (untyped u)) b h in
    ap (λ ss. weight_over one ss (untyped u)) (running_more lets t) ∙ weight_front one (running lets) (size_in lets t) (untyped u) g

-- the expression of the name of the last let is that of the let
pub tree_last : (lets : List Typed) (t : Typed) (p : Range) (w : Width) → tree_in (lets ++ (t ∷ [])) (TLet (length lets) p w) ≡ tree_in lets t
tree_last lets t p w =
    ap (λ es. slice_index_or es (length lets) (Num (pos 0))) (closed_snoc lets t)
    ∙ (ap (λ i. slice_index_or (closed lets ++ (tree_in lets t ∷ [])) i (Num (pos 0))) (sym (closed_length lets))
    ∙ index_new (closed lets) (tree_in lets t) (Num (pos 0)))

-- and so is its size
pub size_last : (lets : List Typed) (t : Typed) (p : Range) (w : Width) → size_in (lets ++ (t ∷ [])) (TLet (length lets) p w) ≡ size_in lets t
size_last lets t p w =
    ap (λ ss. slice_index_or ss (length lets) 0) (running_more lets t)
    ∙ (ap (λ i. slice_index_or (running lets ++ (size_in lets t ∷ [])) i 0) (sym (running_length lets))
    ∙ index_new (running lets) (size_in lets t) 0)
