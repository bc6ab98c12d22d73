-- `check`: its lines one after the other, and its laws.
use Rattle.std.proofs.Common.{◌≡◌, ℕ, ◌+◌, ◌<◌, ◌≤◌, List, [], ◌∷◌, ◌++◌, map, length, option_map, take}
use Rattle.std.proofs.Common.{get_or, refl, ap, sym, ◌∙◌, subst, append_assoc, Some}
use Rattle.std.specs.Prelude.{slice_get}
use Rattle.std.proofs.lemmas.List.{append-nil, map-append, take_all, take_more}
use Rattle.std.proofs.lemmas.Option.{slice_get-map, slice_get_read}
use Rattle.ln_tree.specs.declared.pred.Pred.{Pred}
use Rattle.ln_tree.specs.Table.{PredOf, pred_of, TableOf}
use Rattle.ln_compile.specs.Compiled.{IsStageCount, IsStageCountAt}
use Rattle.ln_top.specs.Frame.Said.{line}
use Rattle.ln_top.specs.declared.frame.asked.Asked.TheVariants.{Nothing}
use Rattle.ln_top.specs.Texts.Check.{AreCounts, none, more, count_text, check_work}
use Rattle.ln_top.proofs.FrameLemmas.Laws.{IsLawful}
use Rattle.ln_top.proofs.TextsLemmas.OneCounts.{one_counts}
use Rattle.ln_top.proofs.TextsLemmas.TextLaws.{lawful as text_lawful}

count_behind : (ps : List PredOf) (p : PredOf) (n : ℕ) {texts : List ℕ} → AreCounts ps texts → IsStageCount p n
    → AreCounts (ps ++ p ∷ []) (texts ++ line (count_text p n))
count_behind [] p n none c =
    subst (λ (xs : List ℕ). AreCounts (p ∷ []) xs) (append-nil (line (count_text p n))) (more p [] n [] c none)
count_behind (q ∷ ps) p n (more q0 ps0 m texts d a) c =
    subst (λ (xs : List ℕ). AreCounts (q ∷ ps ++ p ∷ []) xs)
    (sym (append_assoc (line (count_text q m)) texts (line (count_text p n))))
    (more q (ps ++ p ∷ []) m (texts ++ line (count_text p n)) d (count_behind ps p n a c))

-- the lines in `counts` begin with none
pub counts_start : (ps : List Pred) → AreCounts (map pred_of (take 0 ps)) []
counts_start ps = none

-- the step of `counts`: the line of the next predicate is appended
pub counts_more : (ps : List Pred) (i : ℕ) (p : Pred) (n : ℕ) (texts new : List ℕ) → i < length ps → p ≡ get_or ps i p
    → AreCounts (map pred_of (take i ps)) texts → IsStageCountAt (map pred_of ps) i n
    → new ≡ texts ++ line (count_text (pred_of p) n)
    → AreCounts (map pred_of (take (i + 1) ps)) new
counts_more ps i p n texts new h e a at q =
    let there : slice_get (map pred_of ps) i ≡ Some (pred_of p) = slice_get-map pred_of ps i ∙ ap (option_map pred_of)
    (slice_get_read ps (length ps) i p refl h e) in
    let front : take (i + 1) ps ≡ take i ps ++ p ∷ [] = take_more ps i p h ∙ ap (λ z. take i ps ++ z ∷ []) (sym e) in
    let behind : map pred_of (take (i + 1) ps) ≡ map pred_of (take i ps) ++ pred_of p ∷ [] = ap (map pred_of) front
    ∙ map-append pred_of (take i ps) (p ∷ []) in
    rw (behind, q) (count_behind (map pred_of (take i ps)) (pred_of p) n a (at (pred_of p) there))

-- after the last predicate
pub counts_end : (ps : List Pred) (i : ℕ) (texts : List ℕ) → length ps ≤ i → AreCounts (map pred_of (take i ps)) texts
    → AreCounts (map pred_of ps) texts
counts_end ps i texts h a = rw (take_all i ps h) at a

-- a front and a number are appended to a text
and_number : (old a b d : List ℕ) {t u : List ℕ} → t ≡ old ++ a → u ≡ t ++ (b ++ d) → u ≡ old ++ (a ++ b ++ d)
and_number old a b d p q =
    q ∙ ap (λ z. z ++ (b ++ d)) p ∙ append_assoc old a (b ++ d) ∙ ap (λ z. old ++ z) (sym (append_assoc a b d))

-- `add_count`: a name, two numbers with their fronts, and the end of the line
pub count_appended : (old name b d e f end : List ℕ) {t u v new : List ℕ} → t ≡ old ++ name → u ≡ t ++ (b ++ d) → v ≡ u ++ (e ++ f)
    → new ≡ v ++ end → new ≡ old ++ (name ++ b ++ d ++ e ++ f ++ end)
count_appended old name b d e f end p q r s =
    s ∙ ap (λ z. z ++ end) (and_number old (name ++ b ++ d) e f (and_number old name b d p q) r)
    ∙ append_assoc old (name ++ b ++ d ++ e ++ f) end

-- the laws of a work hold for `check`
pub lawful : IsLawful Nothing check_work
lawful = text_lawful AreCounts (Unit {0}) (λ v g i x y c d.
    let preds : g.table.preds ≡ map pred_of i.table.preds = sym (ap (λ (t : TableOf). t.preds) i.is) in
    one_counts i.table.preds (rw preds at c) (rw preds at d))
