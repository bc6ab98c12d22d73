-- Triples and truncated numbers of trees, with one let more.
use Rattle.std.proofs.Common.{◌≡◌, ℕ, ℤ, ◌+◌, List, [], ◌∷◌, ◌++◌, length, map, pos, neg_ℤ, refl, ap, ap₂, arith, ◌∙◌, sym, subst, length-append}
use Rattle.std.specs.Prelude.{slice_index_or}
use Rattle.std.proofs.lemmas.List.{map-append}
use Rattle.ln_algebra.specs.Tree.{Tree, Num, Input, Name, Neg, Add, Sub, Mul, Pow}
use Rattle.ln_tree.specs.declared.shape.VarInfo.{VarInfo}
use Rattle.ln_interval.specs.Range.{Range}
use Rattle.ln_bound.specs.declared.fitted.Width.{Width}
use Rattle.ln_bound.specs.Typed.{Typed, TLet, untyped}
use Rattle.ln_bound.proofs.Trees.LetLists.{index_new, index_old, untyped_length}
use Rattle.ln_code.specs.declared.op.Triple.{Triple}
use Rattle.ln_code.specs.Kept.{no_triple}
use Rattle.ln_code.proofs.Building.Names.{NamesBelow}
use Rattle.ln_filter.specs.Triples.{added, let_triples, multiplied, powered, triple}
use Rattle.ln_filter.specs.Truncated.{let_numbers, number}
use Rattle.ln_filter.proofs.Operations.Style.{triple_in, triples_of, triples_snoc}

-- ---- variables with these values
module _ (vars : List VarInfo) (x : ℕ → ℤ) where
  -- the truncated numbers of lets
  abbrev pub numbers_of : List Typed → List ℤ
  numbers_of lets = let_numbers vars x [] [] (map untyped lets)

  -- the truncated number of a tree after these lets
  abbrev pub number_in : List Typed → Typed → ℤ
  number_in lets t = number vars x (triples_of vars lets) (numbers_of lets) (untyped t)

  numbers_more : (done : List Triple) (hs : List ℤ) (ts : List Tree) (t : Tree) → let_numbers vars x done hs (ts ++ (t ∷ []))
      ≡ let_numbers vars x done hs ts ++ (number vars x (let_triples vars done ts) (let_numbers vars x done hs ts) t ∷ [])
  numbers_more done hs [] t = refl
  numbers_more done hs (u ∷ us) t = numbers_more (done ++ (triple vars done u ∷ [])) (hs ++ (number vars x done hs u ∷ [])) us t

  numbers_snoc : (ts : List Typed) (t : Typed) → numbers_of (ts ++ (t ∷ [])) ≡ numbers_of ts ++ (number_in ts t ∷ [])
  numbers_snoc ts t = ap (λ (es : List Tree). let_numbers vars x [] [] es) (map-append untyped ts (t ∷ [])) ∙ numbers_more [] [] (map untyped ts) (untyped t)

  counts : (done : List Triple) (hs : List ℤ) (ts : List Tree)
      → (length (let_triples vars done ts) ≡ length done + length ts) × (length (let_numbers vars x done hs ts) ≡ length hs + length ts)
  counts done hs [] = (omega arith, omega arith)
  counts done hs (t ∷ ts) =
      let ih = counts (done ++ (triple vars done t ∷ [])) (hs ++ (number vars x done hs t ∷ [])) ts in
      let i = ih.0 in
      let j = ih.1 in
      let m = length-append done (triple vars done t ∷ []) in
      let n = length-append hs (number vars x done hs t ∷ []) in
      (omega (arith, i, m), omega (arith, j, n))

  -- there are as many triples as lets, and as many truncated numbers
  lengths : (lets : List Typed) → (length (triples_of vars lets) ≡ length lets) × (length (numbers_of lets) ≡ length lets)
  lengths lets =
      let a = counts [] [] (map untyped lets) in
      let i = a.0 in
      let j = a.1 in
      let b = untyped_length lets in
      (omega (arith, i, b), omega (arith, j, b))

  -- with one let more a tree has the triple and the number that it had, where all its names are of lets before it
  stays : (ts : List Triple) (a : Triple) (hs : List ℤ) (z : ℤ) (e : Tree) → NamesBelow (length ts) e → (triple vars (ts ++ (a ∷ [])) e ≡ triple vars ts e)
      × (length hs ≡ length ts → number vars x (ts ++ (a ∷ [])) (hs ++ (z ∷ [])) e ≡ number vars x ts hs e)
  stays ts a hs z (Num c) h = (refl, λ l. refl)
  stays ts a hs z (Input v) h = (refl, λ l. refl)
  stays ts a hs z (Name j) h = (index_old ts a no_triple j h, λ l. index_old hs z (pos 0) j (omega (arith, h, l)))
  stays ts a hs z (Neg e) h = let i = stays ts a hs z e h in (i.0, λ l. ap neg_ℤ (i.1 l))
  stays ts a hs z (Add e f) h =
      let i = stays ts a hs z e h.0 in
      let j = stays ts a hs z f h.1 in
      (ap₂ added i.0 j.0, λ l. rw (i.0, j.0, i.1 l, j.1 l) refl)
  stays ts a hs z (Sub e f) h =
      let i = stays ts a hs z e h.0 in
      let j = stays ts a hs z f h.1 in
      (ap₂ added i.0 j.0, λ l. rw (i.0, j.0, i.1 l, j.1 l) refl)
  stays ts a hs z (Mul e f) h =
      let i = stays ts a hs z e h.0 in
      let j = stays ts a hs z f h.1 in
      (ap₂ multiplied i.0 j.0, λ l. rw (i.0, j.0, i.1 l, j.1 l) refl)
  stays ts a hs z (Pow e n) h = let i = stays ts a hs z e h in (ap (λ b. powered b n) i.0, λ l. rw (i.0, i.1 l) refl)

  front : (lets : List Typed) (t u : Typed) → NamesBelow (length lets) (untyped u)
      → (triple vars (triples_of vars lets ++ (triple_in vars lets t ∷ [])) (untyped u) ≡ triple_in vars lets u)
      × (length (numbers_of lets) ≡ length (triples_of vars lets) → number vars x (triples_of vars lets ++ (triple_in vars lets t ∷ []))
      (numbers_of lets ++ (number_in lets t ∷ [])) (untyped u) ≡ number_in lets u)
  front lets t u h =
      let l = lengths lets in
      stays (triples_of vars lets) (triple_in vars lets t) (numbers_of lets) (number_in lets t) (untyped u)
      (subst (λ n. NamesBelow n (untyped u)) (sym l.0) h)

  -- so has a tree after lets
  pub triple_front : (lets : List Typed) (t u : Typed) → NamesBelow (length lets) (untyped u) → triple_in vars (lets ++ (t ∷ [])) u ≡ triple_in vars lets u
  triple_front lets t u h = let f = front lets t u h in ap (λ ts. triple vars ts (untyped u)) (triples_snoc vars lets t) ∙ f.0

  -- so is the number of a tree that names the earlier lets alone
  pub number_front : (lets : List Typed) (t u : Typed) → NamesBelow (length lets) (untyped u) → number_in (lets ++ (t ∷ [])) u ≡ number_in lets u
  number_front lets t u h =
      let l = lengths lets in
      let f = front lets t u h in
      ap₂ (λ ts hs. number vars x ts hs (untyped u)) (triples_snoc vars lets t) (numbers_snoc lets t) ∙ f.1 (l.1 ∙ sym l.0)

  -- the name of the last let has the triple and the number of the let
  pub triple_last : (lets : List Typed) (t : Typed) (p : Range) (w : Width)
      → triple_in vars (lets ++ (t ∷ [])) (TLet (length lets) p w) ≡ triple_in vars lets t
  triple_last lets t p w =
      let l = lengths lets in
      ap₂ (λ ts i. slice_index_or ts i no_triple) (triples_snoc vars lets t) (sym l.0)
      ∙ index_new (triples_of vars lets) (triple_in vars lets t) no_triple

  -- and its number is that of the let
  pub number_last : (lets : List Typed) (t : Typed) (p : Range) (w : Width) → number_in (lets ++ (t ∷ [])) (TLet (length lets) p w) ≡ number_in lets t
  number_last lets t p w =
      let l = lengths lets in
      ap₂ (λ hs i. slice_index_or hs i (pos 0)) (numbers_snoc lets t) (sym l.1)
      ∙ index_new (numbers_of lets) (number_in lets t) (pos 0)
