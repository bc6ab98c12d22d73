-- A call in the whole file.
use Rattle.std.proofs.Common.{◌≡◌, ◌≢◌, inl, inr, ℕ, zero, suc, ◌+◌, ◌<◌, ◌≤◌, Bool, true, false, List, [], ◌∷◌, ◌++◌, append_assoc}
use Rattle.std.proofs.Common.{length, map, get_or, take, Some, None, refl, sym, ap, ◌∙◌, arith}
use Rattle.std.specs.Prelude.{ℤ}
use Rattle.std.specs.List.{range_with_len}
use Rattle.std.proofs.lemmas.Bool.{and_right}
use Rattle.std.proofs.lemmas.List.{append-nil}
use Rattle.ln_order.specs.Prefixes.{joined}
use Rattle.ln_algebra.specs.Walk.{Member}
use Rattle.ln_csyn.specs.Tree.{Body, End, Fun}
use Rattle.ln_csyn.specs.Meaning.{Counts, Fails, Scene, answer_of, called, called_at, called_behind, is_wanted, runs, runs_behind, same_bool}
use Rattle.ln_cemit.proofs.Conditions.Names.{name_false, name_self}
use Rattle.ln_cemit.specs.Emit.{touching_index}
use Rattle.ln_cemit.specs.Walked.{body_for}
use Rattle.ln_cemit.specs.Chosen.{Answers, AreNumbers, list_of_order}
use Rattle.ln_cemit.specs.File.{AreAway, FileMeans, one_fun, one_funs, two_fun}
use Rattle.ln_cemit.proofs.Choices.Finds.{calls-are-counted}
use Rattle.ln_cemit.proofs.Choices.Orders.{finds-the-order}

-- what a body speaks of in a function with one parameter
abbrev plain : List ℤ → Scene
plain values = record { values = values; index = None; call = λ g j. Fails None }

not_wanted : (f : Fun) (indexed : Bool) (name : List ℕ) → f.name ≢ name → is_wanted f indexed name ≡ false
not_wanted f indexed name h = rw (name_false f.name name h) (and_right (same_bool f.indexed indexed) false refl)

module _ (values : List ℤ) where
  -- a call passes functions with other names
  called-past : (front fs : List Fun) (name : List ℕ) (k : Counts) → AreAway front name → called (front ++ fs) values name k ≡ called fs values name k
  called-past [] fs name k h = refl
  called-past (f ∷ front) fs name k h = rw (not_wanted f false name h.0) (called-past front fs name k h.1)

  -- and so does a call from outside
  found-past : (name : List ℕ) (index : List ℤ) (seen front fs : List Fun) → AreAway front name
      → called_behind seen (front ++ fs) name index values ≡ called_behind (seen ++ front) fs name index values
  found-past name index seen [] fs h = ap (λ z. called_behind z fs name index values) (sym (append-nil seen))
  found-past name index seen (f ∷ front) fs h =
      rw (not_wanted f true name h.0)
      (found-past name index (seen ++ f ∷ []) front fs h.1 ∙ ap (λ z. called_behind z fs name index values) (append_assoc seen (f ∷ []) front))

  module _ (block : ℕ → List ℕ) (m : ℕ) (apart : (i j : ℕ) → i < m → j < m → block i ≡ block j → i ≡ j) where
    -- a call finds the block's own function
    called-is : (i : ℕ) (bodies : List Body) (n b : ℕ) (k : Counts) → i + length bodies ≤ m → b ≡ i + n → n < length bodies
        → called (one_funs block i bodies) values (block b) k ≡ answer_of 2 (runs (plain values) [] (get_or bodies n End) k)
    called-is i [] n b k h e l = absurd (omega arith)
    called-is i (c ∷ cs) zero b k h e l = let q : b ≡ i = omega (arith, e) in rw (q, name_self (block i)) refl
    called-is i (c ∷ cs) (suc n) b k h e l =
        let f = name_false (block i) (block b) (λ z. omega (arith, apart i b (omega (arith, h)) (omega (arith, h, e, l)) z, e)) in
        let ih = called-is (suc i) cs n b k (omega (arith, h)) (omega (arith, e)) (omega (arith, l)) in
        rw f ih

    -- the function with two parameters is after them
    found-behind : (name : List ℕ) (body : Body) (index : List ℤ) (front rest : List Fun) (i : ℕ) (bodies : List Body) →
        called_behind front (one_funs block i bodies ++ two_fun name body ∷ rest) name index values
        ≡ Some (called_at 2 (runs_behind (front ++ one_funs block i bodies) body index values))
    found-behind name body index front rest i [] = rw (name_self name, append-nil front) refl
    found-behind name body index front rest i (c ∷ cs) =
        found-behind name body index (front ++ one_fun (block i) c ∷ []) rest (suc i) cs
        ∙ ap (λ fs. Some (called_at 2 (runs_behind fs body index values))) (append_assoc front (one_fun (block i) c ∷ []) (one_funs block (suc i) cs))

both-numbers : (m : ℕ) (xs ys : List ℕ) (b : ℕ) → AreNumbers m xs → AreNumbers m ys → Member (xs ++ ys) b → b < m
both-numbers m [] ys b h k i = k b i
both-numbers m (x ∷ xs) ys b h k (inl e) = h b (inl e)
both-numbers m (x ∷ xs) ys b h k (inr i) = both-numbers m xs ys b (λ c j. h c (inr j)) k i

-- the members of a list of an order are blocks
joined-numbers : (m : ℕ) (segment : List ℕ → List ℕ) (g : ℕ → List ℕ) (a n : ℕ) → ((p : List ℕ) → AreNumbers m (segment p))
    → AreNumbers m (joined (map (λ j. segment (g j)) (range_with_len a n)))
joined-numbers m segment g a zero h b i = absurd i
joined-numbers m segment g a (suc n) h b i =
    both-numbers m (segment (g a)) (joined (map (λ j. segment (g j)) (range_with_len (a + 1) n))) b (h (g a)) (joined-numbers m segment g (a + 1) n h) i

-- what is never reached does nothing
index-touched : (s : Scene) (t : Bool) (body : Body) (k : Counts) → runs s [] (touching_index t body) k ≡ runs s [] body k
index-touched s true body k = refl
index-touched s false body k = refl

-- a call of the function with two parameters returns the first sign that isn't 0 along the row's list
pub file-means : FileMeans
file-means front rest block own name touch bodies sign after segment before places indices values away blocks_away apart means b numbers fits o =
    let m : ℕ = length bodies in
    let fs : List Fun = one_funs block 0 bodies in
    let s : Scene = record { values = values; index = Some indices; call = called (front ++ fs) values } in
    let answers : Answers s block m sign after = λ c l. (
      (λ k. called-past values front fs (block c) k (blocks_away c l)
          ∙ called-is values block m apart 0 bodies c c k (omega arith) (omega arith) l ∙ ap (answer_of 2) ((means c l).says k)),
      (means c l).small,
    ) in
    let list : List ℕ = before ++ list_of_order segment (length indices) places in
    let zero_counts : Counts = record { wide = 0; calls = 0 } in
    let body : Body = body_for block own segment before (length indices) in
    let w = finds-the-order block own s m sign after segment before places indices zero_counts answers b numbers refl fits o in
    let inside : (c : ℕ) → Member list c → c < m = λ c i. both-numbers m before (list_of_order segment (length indices) places) c b
    (joined-numbers m segment (λ j. take j places) 0 (suc (length indices)) numbers) i in
    let r = calls-are-counted sign after list zero_counts (λ c i k. (means c (inside c i)).keeps k) in (
      r.0,
      found-past values name indices [] front (fs ++ two_fun name (touching_index touch body) ∷ rest) away
          ∙ found-behind values block m apart name (touching_index touch body) indices front rest 0 bodies
          ∙ ap (λ z. Some (called_at 2 z)) (index-touched s touch body zero_counts ∙ w ∙ r.1),
      r.2,
      r.1,
    )
