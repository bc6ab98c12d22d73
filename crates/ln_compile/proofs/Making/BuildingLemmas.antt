-- The programs of a table's predicates, one after the other.
use Rattle.std.proofs.Common.{◌≡◌, ℕ, ◌+◌, ◌<◌, ◌≤◌, zero, suc, true, false, List, [], ◌∷◌, ◌++◌, length, map, take, drop, get_or, refl, ap}
use Rattle.std.proofs.Common.{sym, subst, ◌∙◌, arith}
use Rattle.std.specs.Prelude.{◌≢◌, All, AllPairs, bytes_eq}
use Rattle.std.specs.List.{AllZip}
use Rattle.std.proofs.lemmas.Slice.Zip.{all_zipped_more}
use Rattle.std.proofs.lemmas.List.{drop_more, map-append, take-append-drop, take_more}
use Rattle.std.proofs.lemmas.List.Elements.{All-cons, All-nil}
use Rattle.std.proofs.lemmas.List.Kept.{AllPairs-cons}
use Rattle.ln_base.specs.Limits.{most_stages}
use Rattle.ln_tree.specs.declared.name.Name.{Name}
use Rattle.ln_tree.specs.declared.pred.Pred.{Pred}
use Rattle.ln_tree.specs.declared.table.Table.{Table}
use Rattle.ln_tree.specs.Names.{name_bytes}
use Rattle.ln_tree.specs.Table.{PredOf, TableOf, pred_of, table_of}
use Rattle.ln_tree.specs.Whole.{differ, is_whole}
use Rattle.ln_parse.specs.ReadsBack.{Every}
use Rattle.ln_parse.proofs.Wholes.WholeFrom.{differ_test}
use Rattle.ln_parse.proofs.Wholes.WholeParts.{PredParts, differing, table_parts}
use Rattle.ln_parse.proofs.ReadBack.NamePlaces.{Differ, NoneIs, same_bytes}
use Rattle.ln_code.specs.Kept.{ArePrograms}
use Rattle.ln_code.specs.Part.{Part}
use Rattle.ln_compile.specs.Accepted.{AreSound}
use Rattle.ln_compile.specs.Compiled.{AreProgramsOf, IsProgramAt}
use Rattle.ln_stage.specs.Accepted.{IsBasis}
use Rattle.ln_stage.specs.declared.accepted.Basis.{Basis}

-- ---- one more
-- the predicates, with one of them apart
pub parted : (preds : List Pred) (i : ℕ) (p : Pred) → i < length preds → p ≡ get_or preds i p
    → map pred_of preds ≡ map pred_of (take i preds) ++ pred_of p ∷ map pred_of (drop (i + 1) preds)
parted preds i p h e =
    let here : drop i preds ≡ p ∷ drop (i + 1) preds = drop_more preds i p h ∙ ap (λ z. z ∷ drop (i + 1) preds) (sym e) in
    sym (ap (map pred_of) (take-append-drop i preds)) ∙ map-append pred_of (take i preds) (drop i preds)
    ∙ ap (λ qs. map pred_of (take i preds) ++ map pred_of qs) here

-- predicates that have what they go by have no fault
pub based-sound : (ps : List PredOf) (bs : List Basis) → AllZip IsBasis ps bs → AreSound ps
based-sound [] bs a = tt
based-sound (p ∷ ps) [] a = absurd a
based-sound (p ∷ ps) (b ∷ bs) a = (a.0.expanded.sound, based-sound ps bs a.1)

-- ---- names
-- a name differs from each of these
abbrev Apart : List PredOf → List ℕ → Type 0
Apart [] u = Unit {0}
Apart (p ∷ ps) u = (p.shape_name ≢ u) × Apart ps u

none-behind : (u : List ℕ) (ps : List PredOf) (p : PredOf) (qs : List PredOf) → NoneIs u (map (λ (q : PredOf). q.shape_name) (ps ++ p ∷ qs)) → u ≢ p.shape_name
none-behind u [] p qs n e = let z : bytes_eq u u ≡ false = subst (λ v. bytes_eq u v ≡ false) (sym e) n.0 in let w : true ≡ false = sym (same_bytes u) ∙ z in cc
none-behind u (q ∷ ps) p qs n e = none-behind u ps p qs n.1 e

apart : (ps : List PredOf) (p : PredOf) (qs : List PredOf) → Differ (map (λ (q : PredOf). q.shape_name) (ps ++ p ∷ qs)) → Apart ps p.shape_name
apart [] p qs h = tt
apart (q ∷ ps) p qs h = (none-behind q.shape_name ps p qs h.0, apart ps p qs h.1)

names-apart : (ps : List PredOf) (cs : List Part) (n : Name) → AreProgramsOf ps cs → Apart ps (name_bytes n)
    → All (λ c. name_bytes c.shape.name ≢ name_bytes n) cs
names-apart [] [] n h a = All-nil (λ c. name_bytes c.shape.name ≢ name_bytes n)
names-apart [] (c ∷ cs) n h a = absurd h
names-apart (p ∷ ps) [] n h a = absurd h
names-apart (p ∷ ps) (c ∷ cs) n h a =
    All-cons (λ (d : Part). name_bytes d.shape.name ≢ name_bytes n) c cs (λ e. a.0 (sym h.0.name ∙ e)) (names-apart ps cs n h.1 a.1)

-- the name of the next predicate differs from those of the programs before it
pub name-new : (preds : List Pred) (i : ℕ) (p : Pred) (cs : List Part) (m : Name) → i < length preds → p ≡ get_or preds i p
    → differ (map (λ q. q.shape_name) (map pred_of preds)) ≡ true → name_bytes m ≡ name_bytes p.shape.name
    → AreProgramsOf (map pred_of (take i preds)) cs → All (λ c. name_bytes c.shape.name ≢ name_bytes m) cs
name-new preds i p cs m h e d q b =
    let f : differ (map (λ (z : PredOf). z.shape_name) (map pred_of (take i preds) ++ pred_of p ∷ map pred_of (drop (i + 1) preds))) ≡ true =
    subst (λ (ps : List PredOf). differ (map (λ (z : PredOf). z.shape_name) ps) ≡ true) (parted preds i p h e) d in
    let a : Apart (map pred_of (take i preds)) (name_bytes p.shape.name) = apart (map pred_of (take i preds)) (pred_of p) (map pred_of (drop (i + 1) preds))
    (differing (map (λ (z : PredOf). z.shape_name) (map pred_of (take i preds) ++ pred_of p ∷ map pred_of (drop (i + 1) preds))) f) in
    rw q (names-apart (map pred_of (take i preds)) cs p.shape.name b a)

-- ---- the names of a table's predicates differ
differ-behind : (us vs : List (List ℕ)) → Differ (us ++ vs) → Differ vs
differ-behind [] vs d = d
differ-behind (u ∷ us) vs d = differ-behind us vs d.1

-- the names of a table's predicates differ
pub names-differ : (t : TableOf) → is_whole t ≡ true → differ (map (λ p. p.shape_name) t.preds) ≡ true
names-differ t h =
    let w = table_parts t h in
    let d : Differ (map (λ (p : PredOf). p.name) t.preds) = differ-behind (map (λ c. c.name) t.params) (map (λ (p : PredOf). p.name) t.preds)
    (differ-behind (map (λ s. s.name) t.sites) (map (λ c. c.name) t.params ++ map (λ (p : PredOf). p.name) t.preds) w.names) in
    differ_test (map (λ p. p.shape_name) t.preds) (subst Differ (sym (same t.preds w.preds)) d) where
      same : (ps : List PredOf) → Every (PredParts t.sites t.params) ps → map (λ (p : PredOf). p.shape_name) ps ≡ map (λ (p : PredOf). p.name) ps
      same [] e = refl
      same (p ∷ ps) e =
          let r : map (λ (q : PredOf). q.shape_name) ps ≡ map (λ (q : PredOf). q.name) ps = same ps e.1 in
          ap (λ z. z ∷ map (λ (q : PredOf). q.shape_name) ps) e.0.shape_name ∙ ap (λ z. p.name ∷ z) r

-- ---- the programs of a table's predicates, each made on its own
-- one more, by its number
more-by-number : (ps : List PredOf) (i : ℕ) (cs : List Part) (c : Part) → i < length ps → IsProgramAt ps i c → AreProgramsOf (take i ps) cs
    → AreProgramsOf (take (suc i) ps) (cs ++ c ∷ [])
more-by-number [] i cs c h o a = absurd (omega (arith, h))
more-by-number (p ∷ ps) zero [] c h o a = (o p refl, tt)
more-by-number (p ∷ ps) zero (d ∷ cs) c h o a = absurd a
more-by-number (p ∷ ps) (suc i) [] c h o a = absurd a
more-by-number (p ∷ ps) (suc i) (d ∷ cs) c h o a = (a.0, more-by-number ps i cs c (omega (arith, h)) o a.1)

-- the programs of the first i predicates and that of number i are those of the first i + 1
pub program-more : (ps : List PredOf) (i : ℕ) (cs : List Part) (c : Part) → i < length ps → IsProgramAt ps i c
    → AreProgramsOf (take i ps) cs → AreProgramsOf (take (i + 1) ps) (cs ++ c ∷ [])
program-more ps i cs c h o a =
    let n : suc i ≡ i + 1 = omega arith in
    subst (λ m. AreProgramsOf (take m ps) (cs ++ c ∷ [])) n (more-by-number ps i cs c h o a)

-- their names differ as those of the predicates do
names-behind : (p : PredOf) (c : Part) (ps : List PredOf) (cs : List Part) → name_bytes c.shape.name ≡ p.shape_name
    → NoneIs p.shape_name (map (λ (q : PredOf). q.shape_name) ps) → AreProgramsOf ps cs
    → All (λ (d : Part). name_bytes c.shape.name ≢ name_bytes d.shape.name) cs
names-behind p c [] [] e n a = All-nil (λ (d : Part). name_bytes c.shape.name ≢ name_bytes d.shape.name)
names-behind p c [] (d ∷ cs) e n a = absurd a
names-behind p c (q ∷ ps) [] e n a = absurd a
names-behind p c (q ∷ ps) (d ∷ cs) e n a = All-cons (λ (d : Part). name_bytes c.shape.name ≢ name_bytes d.shape.name) d cs
    (λ x. none-behind p.shape_name [] q ps n (sym e ∙ x ∙ a.0.name)) (names-behind p c ps cs e n.1 a.1)

names-of-programs : (ps : List PredOf) (cs : List Part) → Differ (map (λ (p : PredOf). p.shape_name) ps) → AreProgramsOf ps cs
    → AllPairs (λ (c d : Part). name_bytes c.shape.name ≢ name_bytes d.shape.name) cs
names-of-programs [] [] d a = λ i j e l m. absurd (omega arith)
names-of-programs [] (c ∷ cs) d a = absurd a
names-of-programs (p ∷ ps) [] d a = absurd a
names-of-programs (p ∷ ps) (c ∷ cs) d a = AllPairs-cons (λ (c d : Part). name_bytes c.shape.name ≢ name_bytes d.shape.name) c cs
    (names-behind p c ps cs a.0.name d.0 a.1) (names-of-programs ps cs d.1 a.1)

-- the programs of a table's predicates, each with at most 65,536 blocks, are programs whose names differ
pub programs-of-table : (t : Table) (cs : List Part) → AreProgramsOf (map pred_of t.preds) cs → All (λ (c : Part). length c.blocks ≤ most_stages) cs
    → ArePrograms cs
programs-of-table t cs a s = record {
  names = names-of-programs (map pred_of t.preds) cs
      (differing (map (λ (p : PredOf). p.shape_name) (map pred_of t.preds)) (names-differ (table_of t.sites t.params t.preds) t.whole)) a;
  small = s;
}
