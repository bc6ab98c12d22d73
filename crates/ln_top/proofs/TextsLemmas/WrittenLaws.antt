-- The C of a source in each style, program by program, and what its calls mean.
use Rattle.std.proofs.Common.{◌≡◌, ◌≢◌, true, false, ℕ, suc, zero, ◌+◌, ◌<◌, ◌≤◌, List, [], ◌∷◌, ◌++◌, length, take, map, refl, ap, sym, ◌∙◌, subst, arith}
use Rattle.std.specs.Prelude.{All, AllPairs, bytes_eq}
use Rattle.std.specs.List.{AllZip}
use Rattle.std.proofs.lemmas.List.{length-map, take_all}
use Rattle.std.proofs.lemmas.List.Elements.{All-cons, All-nil}
use Rattle.std.proofs.lemmas.List.Kept.{AllPairs-cons}
use Rattle.ln_base.specs.Limits.{most_stages}
use Rattle.ln_tree.specs.declared.pred.Pred.{Pred}
use Rattle.ln_tree.specs.declared.table.Table.{Table}
use Rattle.ln_tree.specs.Names.{name_bytes}
use Rattle.ln_tree.specs.Row.{InRange, Row}
use Rattle.ln_tree.specs.Table.{PredOf, pred_of, table_of}
use Rattle.ln_parse.proofs.ReadBack.NamePlaces.{Differ, NoneIs, same_bytes}
use Rattle.ln_parse.proofs.Wholes.WholeParts.{differing}
use Rattle.ln_code.specs.Kept.{ArePrograms, IsProgram}
use Rattle.ln_code.specs.Part.{Part, without_filter}
use Rattle.ln_compile.specs.Accepted.{AreSound, IsSound}
use Rattle.ln_compile.specs.Compiled.{IsProgramAt, IsProgramOf}
use Rattle.ln_compile.proofs.Listing.FilteredLemmas.{programs_answer}
use Rattle.ln_compile.proofs.Making.BuildingLemmas.{names-differ}
use Rattle.ln_csyn.specs.Tree.{Fun}
use Rattle.ln_cemit.specs.declared.entry.Entry.{Entry}
use Rattle.ln_cemit.specs.declared.entry.Entry.TheVariants.{EveryRow}
use Rattle.ln_cemit.specs.Emitted.{BeginsFileAs, EntriesSay, EntrySays, IsEmittedAs}
use Rattle.ln_cemit.specs.Whole.{Entered, part_name, parts_entered}
use Rattle.ln_cemit.proofs.Writing.Whole.{begun_is_emitted_as}
use Rattle.ln_top.specs.declared.texts.written.Style.{Style}
use Rattle.ln_top.specs.declared.texts.written.Style.TheVariants as style
use Rattle.ln_top.specs.Texts.Written.{BeginsC, CallIsDue, IsCOf, IsWrittenOf, IsWrittenPart, OfNumber, promise_of, written_part}
use Rattle.ln_top.proofs.ExactLemmas.TurningLaws.{bare_reduced, call_sign, entry_signs, few_reduced, name_reduced}
use Rattle.ln_top.proofs.TextsLemmas.EmitLaws.{AreNamed, names_there, same_number}

-- ---- what is written of a program
-- it is made of the predicate's
pub written_at : (s : Style) (ps : List PredOf) (i : ℕ) (n : Entry) (c q : Part) → IsProgramAt ps i c → IsProgram c → length c.blocks ≤ most_stages
    → q ≡ written_part s n c → OfNumber ps i (λ p. IsWrittenPart s p n q)
written_at s ps i n c q a k l e p f = record { whole = c; program = a p f; kept = k; small = l; is = e }

-- it has the predicate's name
name_written : (s : Style) (n : Entry) (c : Part) → part_name (written_part s n c) ≡ part_name c
name_written style.Filtered n c = refl
name_written style.EveryRow n c = refl
name_written style.OneOrder n c = name_reduced n c

name_here : (s : Style) (p : PredOf) (n : Entry) (q : Part) → IsWrittenPart s p n q → part_name q ≡ p.shape_name
name_here s p n q r = ap part_name r.is ∙ name_written s n r.whole ∙ r.program.name

-- no more blocks
few_written : (s : Style) (n : Entry) (c : Part) → length (written_part s n c).blocks ≤ length c.blocks
few_written style.Filtered n c = omega arith
few_written style.EveryRow n c = omega arith
few_written style.OneOrder n c = few_reduced n c

-- and its filter where the C has filters alone
part_in : (s : Style) (p : PredOf) (n : Entry) (c : Part) → IsProgramOf p c → (promise_of s).part p (written_part s n c)
part_in style.Filtered p n c o = o
part_in style.EveryRow p n c o = refl
part_in style.OneOrder p n c o = bare_reduced n c

-- ---- calls
-- the call on a row returns what the row requires
call_due : (file : List Fun) (p : PredOf) (c : Part) (row : Row) → IsProgram c → IsProgramOf p c → p.shape_name ≡ p.name
    → InRange p.sites p.vars row → EntrySays file (record { entry = EveryRow; part = c }) row → CallIsDue file p row
call_due file p c row k o n range s =
    record {
      verdict = s.verdict;
      due = programs_answer p c row s.verdict k o range s.machine;
      counts = s.counts;
      called = rw (← n, ← o.name, ← same_number s.verdict.sign) s.called;
      calls = s.calls;
      narrow = s.narrow;
    }

row_there : (p : PredOf) (c : Part) (row : Row) → IsProgramOf p c → InRange p.sites p.vars row → InRange c.shape.sites c.shape.vars row
row_there p c row o range = rw (o.sites, o.vars) range

-- what the calls mean, by the style
calls_in : (s : Style) (file : List Fun) (p : Pred) (n : Entry) (c : Part) → (promise_of s).entry (pred_of p) n → IsProgram c → IsProgramOf (pred_of p) c
    → name_bytes p.shape.name ≡ name_bytes p.name → (s ≢ style.Filtered → IsSound (pred_of p))
    → ((row : Row) → InRange (written_part s n c).shape.sites (written_part s n c).shape.vars row
    → EntrySays file (record { entry = n; part = written_part s n c }) row) → (promise_of s).calls file (pred_of p) n
calls_in style.Filtered file p n c e k o name sound says = λ row range. call_due file (pred_of p) c row k o name range
    (subst (λ m. EntrySays file (record { entry = m; part = c }) row) e (says row (row_there (pred_of p) c row o range)))
calls_in style.EveryRow file p n c e k o name sound says = λ row range.
    call_sign file p EveryRow c (without_filter c) row k o name (sound (λ x. other x)) range refl (λ there v d. d)
    (subst (λ m. EntrySays file (record { entry = m; part = without_filter c }) row) e (says row (row_there (pred_of p) c row o range)))
  where
    other : style.EveryRow ≡ style.Filtered → ⊥
    other x = cc
calls_in style.OneOrder file p n c e k o name sound says = entry_signs file p n c e k o name (sound (λ x. other x)) says where
  other : style.OneOrder ≡ style.Filtered → ⊥
  other x = cc

one_written : (s : Style) (file : List Fun) (p : Pred) (n : Entry) (q : Part) → (promise_of s).entry (pred_of p) n → IsWrittenPart s (pred_of p) n q
    → name_bytes p.shape.name ≡ name_bytes p.name → (s ≢ style.Filtered → IsSound (pred_of p))
    → ((row : Row) → InRange q.shape.sites q.shape.vars row → EntrySays file (record { entry = n; part = q }) row)
    → IsWrittenOf (promise_of s) file (pred_of p) (record { entry = n; part = q })
one_written s file p n q e r name sound says = record {
  name = name_here s (pred_of p) n q r ∙ name;
  part = subst ((promise_of s).part (pred_of p)) (sym r.is) (part_in s (pred_of p) n r.whole r.program);
  entry = e;
  calls = calls_in s file p n r.whole e r.kept r.program name sound
      (subst (λ (c : Part). (row : Row) → InRange c.shape.sites c.shape.vars row → EntrySays file (record { entry = n; part = c }) row) r.is says);
}

-- so for all predicates
abbrev AreParts : Style → List PredOf → List Entered → Type 0
AreParts s = AllZip (λ p (x : Entered). (promise_of s).entry p x.entry × IsWrittenPart s p x.entry x.part)

all_written : (s : Style) (file : List Fun) (ps : List Pred) (xs : List Entered) → AreParts s (map pred_of ps) xs → AreNamed (map pred_of ps)
    → (s ≢ style.Filtered → AreSound (map pred_of ps)) → EntriesSay file xs → AllZip (IsWrittenOf (promise_of s) file) (map pred_of ps) xs
all_written s file [] [] a n d k = tt
all_written s file [] (x ∷ xs) a n d k = absurd a
all_written s file (p ∷ ps) [] a n d k = absurd a
all_written s file (p ∷ ps) (x ∷ xs) a n d k = (
  one_written s file p x.entry x.part a.0.0 a.0.1 n.0 (λ f. (d f).0) k.0,
  all_written s file ps xs a.1 n.1 (λ f. (d f).1) k.1,
)

-- ---- the programs
-- none has more blocks than fit
abbrev IsSmall : Part → Type 0
IsSmall c = length c.blocks ≤ most_stages

parts_small : (s : Style) (ps : List PredOf) (xs : List Entered) → AreParts s ps xs → All IsSmall (parts_entered xs)
parts_small s [] [] a = All-nil IsSmall
parts_small s [] (x ∷ xs) a = absurd a
parts_small s (p ∷ ps) [] a = absurd a
parts_small s (p ∷ ps) (x ∷ xs) a = All-cons IsSmall x.part (parts_entered xs) (small x.entry x.part a.0.1) (parts_small s ps xs a.1) where
  small : (n : Entry) (q : Part) → IsWrittenPart s p n q → length q.blocks ≤ most_stages
  small n q r = omega (arith, r.small, few_written s n r.whole, ap (λ (c : Part). length c.blocks) r.is)

-- their names differ, as those of the predicates do
abbrev Differs : Part → Part → Type 0
Differs c d = part_name c ≢ part_name d

other_name : (u v : List ℕ) → bytes_eq u v ≡ false → u ≢ v
other_name u v n e =
    let z : bytes_eq u u ≡ false = subst (λ w. bytes_eq u w ≡ false) (sym e) n in
    let w : true ≡ false = sym (same_bytes u) ∙ z in
    cc

names_behind : (s : Style) (u : List ℕ) (c : Part) (ps : List PredOf) (xs : List Entered) → part_name c ≡ u
    → NoneIs u (map (λ (q : PredOf). q.shape_name) ps) → AreParts s ps xs → All (Differs c) (parts_entered xs)
names_behind s u c [] [] e n a = All-nil (Differs c)
names_behind s u c [] (x ∷ xs) e n a = absurd a
names_behind s u c (p ∷ ps) [] e n a = absurd a
names_behind s u c (p ∷ ps) (x ∷ xs) e n a = All-cons (Differs c) x.part (parts_entered xs)
    (λ same. other_name u p.shape_name n.0 (sym e ∙ same ∙ name_here s p x.entry x.part a.0.1)) (names_behind s u c ps xs e n.1 a.1)

names_apart : (s : Style) (ps : List PredOf) (xs : List Entered) → Differ (map (λ (q : PredOf). q.shape_name) ps) → AreParts s ps xs
    → AllPairs Differs (parts_entered xs)
names_apart s [] [] d a = λ i j e l m. absurd (omega arith)
names_apart s [] (x ∷ xs) d a = absurd a
names_apart s (p ∷ ps) [] d a = absurd a
names_apart s (p ∷ ps) (x ∷ xs) d a = AllPairs-cons Differs x.part (parts_entered xs)
    (names_behind s p.shape_name x.part ps xs (name_here s p x.entry x.part a.0.1) d.0 a.1) (names_apart s ps xs d.1 a.1)

parts_programs : (s : Style) (t : Table) (xs : List Entered) → AreParts s (map pred_of t.preds) xs → ArePrograms (parts_entered xs)
parts_programs s t xs a = record {
  names = names_apart s (map pred_of t.preds) xs
      (differing (map (λ (p : PredOf). p.shape_name) (map pred_of t.preds)) (names-differ (table_of t.sites t.params t.preds) t.whole)) a;
  small = parts_small s (map pred_of t.preds) xs a;
}

-- ---- the C, program by program
-- no program yet
pub begun : (s : Style) (preds : List PredOf) (text : List ℕ) → BeginsFileAs text [] → BeginsC s preds 0 text
begun s preds text b = record { programs = []; are = none preds; begins = b } where
  none : (preds : List PredOf) → AreParts s (take 0 preds) []
  none [] = tt
  none (p ∷ ps) = tt

one_more : (s : Style) (ps : List PredOf) (i : ℕ) (xs : List Entered) (x : Entered) → i < length ps → OfNumber ps i (λ p. (promise_of s).entry p x.entry)
    → OfNumber ps i (λ p. IsWrittenPart s p x.entry x.part) → AreParts s (take i ps) xs → AreParts s (take (suc i) ps) (xs ++ x ∷ [])
one_more s [] i xs x h n r a = absurd (omega (arith, h))
one_more s (p ∷ ps) zero [] x h n r a = ((n p refl, r p refl), tt)
one_more s (p ∷ ps) zero (y ∷ xs) x h n r a = absurd a
one_more s (p ∷ ps) (suc i) [] x h n r a = absurd a
one_more s (p ∷ ps) (suc i) (y ∷ xs) x h n r a = (a.0, one_more s ps i xs x (omega (arith, h)) n r a.1)

-- one program after others
pub more : (s : Style) (preds : List Pred) (i : ℕ) (x : Entered) (old new : List ℕ) → i < length preds
    → OfNumber (map pred_of preds) i (λ p. (promise_of s).entry p x.entry) → OfNumber (map pred_of preds) i (λ p. IsWrittenPart s p x.entry x.part)
    → ((xs : List Entered) → BeginsFileAs old xs → BeginsFileAs new (xs ++ x ∷ []))
    → BeginsC s (map pred_of preds) i old → BeginsC s (map pred_of preds) (i + 1) new
more s preds i x old new h n r t f =
    let e : suc i ≡ i + 1 = omega arith in
    record {
      programs = f.programs ++ x ∷ [];
      are = subst (λ m. AreParts s (take m (map pred_of preds)) (f.programs ++ x ∷ [])) e
          (one_more s (map pred_of preds) i f.programs x (omega (arith, h, length-map preds pred_of)) n r f.are);
      begins = t f.programs f.begins;
    }

-- all of them
pub all : (s : Style) (t : Table) (i : ℕ) (text : List ℕ) → length t.preds ≤ i → (s ≢ style.Filtered → AreSound (map pred_of t.preds))
    → BeginsC s (map pred_of t.preds) i text → IsCOf (promise_of s) (map pred_of t.preds) text
all s t i text h sound f =
    let e : take i (map pred_of t.preds) ≡ map pred_of t.preds = take_all i (map pred_of t.preds) (omega (arith, h, length-map t.preds pred_of)) in
    let a : AreParts s (map pred_of t.preds) f.programs = subst (λ ps. AreParts s ps f.programs) e f.are in
    let c : IsEmittedAs f.programs text = begun_is_emitted_as f.programs text (parts_programs s t f.programs a) f.begins in
    record {
      file = c.file;
      text = c.text;
      programs = f.programs;
      heads = c.heads;
      written = all_written s c.file t.preds f.programs a (names_there t) sound c.says;
    }
