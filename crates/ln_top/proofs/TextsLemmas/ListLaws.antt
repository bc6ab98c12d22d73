-- `list`: its listing, program by program, and its laws.
use Rattle.std.proofs.Common.{◌≡◌, ℕ, ◌+◌, ◌<◌, ◌≤◌, List, [], ◌∷◌, ◌++◌, length, take, map, subst, arith}
use Rattle.std.specs.List.{AllByRecursion}
use Rattle.std.proofs.lemmas.List.{length-map, take_all}
use Rattle.std.specs.Prelude.{IfOk, Result, Ok, Err}
use Rattle.ln_tree.specs.declared.pred.Pred.{Pred}
use Rattle.ln_tree.specs.Table.{PredOf, pred_of}
use Rattle.ln_code.specs.Kept.{IsProgram}
use Rattle.ln_code.specs.Part.{Part}
use Rattle.ln_compile.specs.Compiled.{AreProgramsOf, IsProgramAt}
use Rattle.ln_compile.proofs.Making.BuildingLemmas.{program-more}
use Rattle.ln_cert.specs.Listing.{ListText}
use Rattle.ln_cert.specs.Written.{IsListable, listing_of}
use Rattle.ln_top.specs.declared.frame.asked.Asked.TheVariants.{Nothing}
use Rattle.ln_top.specs.Texts.Listing.{IsListingOf, IsListingOfFirst, list_work}
use Rattle.ln_top.proofs.FrameLemmas.Laws.{IsLawful}
use Rattle.ln_top.proofs.TextsLemmas.GoodLines.{listing_is}
use Rattle.ln_top.proofs.TextsLemmas.TextLaws.{lawful as text_lawful}

all_more : (P : Part → Type 0) (cs : List Part) (c : Part) → AllByRecursion P cs → P c → AllByRecursion P (cs ++ c ∷ [])
all_more P [] c a h = (h, tt)
all_more P (d ∷ cs) c a h = (a.0, all_more P cs c a.1 h)

-- what follows from two facts on the value of a result
pub then_both : {T E : Type 0} (r : Result T E) (P Q R : T → Type 0) → ((x : T) → P x → Q x → R x) → IfOk r P → IfOk r Q → IfOk r R
then_both (Ok x) P Q R f p q = f x p q
then_both (Err e) P Q R f p q = tt

-- the listing of no program
pub begun : (preds : List PredOf) (text : List ℕ) → ListText text 2 (listing_of []) → IsListingOfFirst preds 0 text
begun preds text t = record { programs = []; are_programs = none preds; kept = tt; listable = tt; text = t } where
  none : (preds : List PredOf) → AreProgramsOf (take 0 preds) []
  none [] = tt
  none (p ∷ ps) = tt

-- one program after others
pub more : (preds : List Pred) (i : ℕ) (c : Part) (old new : List ℕ) → i < length preds → IsProgramAt (map pred_of preds) i c → IsProgram c → IsListable c
    → ((cs : List Part) → ListText old 2 (listing_of cs) → ListText new 2 (listing_of (cs ++ c ∷ [])))
    → IsListingOfFirst (map pred_of preds) i old → IsListingOfFirst (map pred_of preds) (i + 1) new
more preds i c old new h a k l t f = record {
  programs = f.programs ++ c ∷ [];
  are_programs = program-more (map pred_of preds) i f.programs c (omega (arith, length-map preds pred_of)) a f.are_programs;
  kept = all_more IsProgram f.programs c f.kept k;
  listable = all_more IsListable f.programs c f.listable l;
  text = t f.programs f.text;
}

-- all of them
pub all : (preds : List Pred) (i : ℕ) (text : List ℕ) → length preds ≤ i → IsListingOfFirst (map pred_of preds) i text → IsListingOf (map pred_of preds) text
all preds i text h f =
    let e : take i (map pred_of preds) ≡ map pred_of preds = take_all i (map pred_of preds) (omega (arith, length-map preds pred_of)) in
    listing_is (map pred_of preds) f.programs text (subst (λ ps. AreProgramsOf ps f.programs) e f.are_programs) f.kept f.listable f.text

-- the laws of a work hold for `list`
pub lawful : IsLawful Nothing list_work
lawful = text_lawful IsListingOf ⊥ (λ v. absurd v)
