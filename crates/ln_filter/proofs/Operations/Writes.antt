-- What is written for a tree, and for lets, one after the other.
use Rattle.std.proofs.Common.{◌≡◌, ℕ, List, [], ◌∷◌, ◌++◌, map, refl, suc, ap, ap₂, ◌∙◌, sym, append_assoc}
use Rattle.std.specs.Prelude.{Option, Some}
use Rattle.std.proofs.lemmas.Option.{IfSome_then}
use Rattle.ln_algebra.specs.Tree.{Tree}
use Rattle.ln_tree.specs.declared.shape.VarInfo.{VarInfo}
use Rattle.ln_bound.specs.Typed.{Typed, untyped}
use Rattle.ln_code.specs.declared.draft.Draft.{Draft}
use Rattle.ln_code.specs.declared.op.Op.TheVariants.{Set}
use Rattle.ln_code.specs.declared.op.Triple.{Triple}
use Rattle.ln_code.specs.Engine.{Line}
use Rattle.ln_code.specs.Kept.{no_triple}
use Rattle.ln_code.specs.StackCode.{line}
use Rattle.ln_code.specs.Walk.{AreKeptNumbers, Coded, Puts, told_line}
use Rattle.ln_code.proofs.Building.Walks.{plain_code}
use Rattle.ln_filter.specs.Lines.{filter_lines, let_lines}
use Rattle.ln_filter.specs.Style.{filter_style}
use Rattle.ln_filter.specs.Triples.{triple}
use Rattle.ln_filter.specs.Tried.{IsTried, tried}
use Rattle.ln_filter.specs.Wrote.{LetsPut, SteadyPut, Wrote}
use Rattle.ln_filter.proofs.Operations.Style.{tree_code}
use Rattle.ln_filter.proofs.Truncation.Steady.{tried_steady}

told_same : (xs : List (Line Triple)) → map (told_line (λ (a : Triple). a)) xs ≡ xs
told_same [] = refl
told_same (x ∷ xs) = ap (λ l. x ∷ l) (told_same xs)

no_numbers : (is_number : ℕ → Typed → Type 0) (ts : List Typed) → AreKeptNumbers is_number [] ts → ts ≡ []
no_numbers is_number [] h = refl
no_numbers is_number (t ∷ ts) h = absurd h

-- what the walk writes in a scope: any tree has any number, and no subtree is kept
abbrev pub WalkPuts : List VarInfo → List Triple → Draft Triple → Draft Triple → Typed → Triple → Type 0
WalkPuts vars lets a b t z = Puts (λ (x : Triple). x) (filter_style vars lets) (λ k u. Unit {0}) ⊥ a b t z

tree_put : (vars : List VarInfo) (lets : List Triple) (t : Typed) (a b : Draft Triple) (z : Triple) → a.kept ≡ [] → WalkPuts vars lets a b t z
    → Wrote a b (filter_lines vars lets (untyped t))
tree_put vars lets t a b z e p =
    let y = filter_style vars lets in
    let m : p.more ≡ [] = p.none_kept (λ h. h) in
    let q : Coded y (λ k u. Unit {0}) [] t p.lines p.more p.computed = p.coded [] (rw e tt) in
    let n : q.new ≡ [] = no_numbers (λ k u. Unit {0}) q.new (rw m at q.are) in
    let l : p.lines ≡ filter_lines vars lets (untyped t) = plain_code y q.code refl n ∙ sym (plain_code y (tree_code vars lets t) refl refl) in
    record {
      code = sym (told_same b.code) ∙ p.wrote.code ∙ ap₂ (λ c d. c ++ d) (told_same a.code) l;
      kept = p.wrote.kept ∙ rw (e, m) refl;
    }

-- a tree for which a triple was worked out
pub steady_put : (vars : List VarInfo) (lets : List Triple) (t : Typed) (a b : Draft Triple) (x z : Triple) → a.kept ≡ []
    → IsTried vars lets (untyped t) (Some x) → WalkPuts vars lets a b t z → SteadyPut vars lets a b (untyped t) (Some z)
steady_put vars lets t a b x z e h p =
    let i : z ≡ x = p.bound ∙ (tried_steady vars lets (untyped t) x (sym h.value)).1 in
    rw i (record { tried = h.value; small = h.small; wrote = tree_put vars lets t a b z e p })

-- a let, its store, and the lets after it
pub lets_more : (vars : List VarInfo) (j : ℕ) (done : List Triple) (t : Tree) (ts : List Tree) (z : Triple) (a b c d : Draft Triple)
    (o : Option (List Triple)) → SteadyPut vars done a b t (Some z) → c.code ≡ b.code ++ (line (Set j) no_triple ∷ [])
    → LetsPut vars (suc j) (done ++ (z ∷ [])) c d ts o → LetsPut vars j done a d (t ∷ ts) o
lets_more vars j done t ts z a b c d o p s r =
    let i : triple vars done t ≡ z = (tried_steady vars done t z (sym p.tried)).1 in
    let f : Some z ≡ tried vars done t = p.tried in
    let own : List (Line Triple) = filter_lines vars done t in
    let set : List (Line Triple) = line (Set j) no_triple ∷ [] in
    let rest : List (Line Triple) = let_lines vars (suc j) (done ++ (z ∷ [])) ts in
    record {
      tried = r.tried ∙ rw (← f) refl;
      small = r.small;
      wrote = IfSome_then o r.wrote (λ xs w. record {
        code = rw i (w.code ∙ ap (λ l. l ++ rest) s ∙ append_assoc b.code set rest ∙ ap (λ l. l ++ (set ++ rest)) p.wrote.code
            ∙ append_assoc a.code own (set ++ rest));
        kept = w.kept;
      });
    }
