-- What the steps of a plan give: it stands for a table in memory, suits the command, and its files are within their limit.
use Rattle.std.proofs.Common.{◌≡◌, ℕ, ◌≤◌, List, [], ◌∷◌, length, Option, Some}
use Rattle.std.proofs.lemmas.List.Elements.{All-cons, All-nil}
use Rattle.ln_base.specs.Limits.{most_file}
use Rattle.ln_base.specs.Outside.{Shelf}
use Rattle.ln_tree.specs.Table.{PredOf, TableOf}
use Rattle.ln_top.specs.Frame.Source.{IsAccepted}
use Rattle.ln_top.specs.Frame.Given.{gives, Given, named}
use Rattle.ln_top.specs.Frame.Ready.{AreShort}
use Rattle.ln_top.specs.Plan.{Plan}
use Rattle.ln_top.specs.Steps as step
use Rattle.ln_top.specs.Steps.{Prepares, Each, Finds, Compiles, Reads}
use Rattle.ln_top.specs.Signature.{Asks}
use Rattle.ln_top.specs.declared.words.Command.{Command}
use Rattle.ln_top.proofs.FrameLemmas.Grounded.{AreFound, IsGrounded}

found_of : (table : List PredOf) (name : List ℕ) (p : PredOf) → Finds table name (gives p) → named name table ≡ Some p
found_of table name p (step.found _ e) = e

found_each : (table : List PredOf) (names : List (List ℕ)) (preds : List PredOf) → Each (Finds table) names (gives preds)
    → AreFound table preds
found_each table [] preds h = let e : preds ≡ [] = cc in rw e tt
found_each table (n ∷ ns) preds (step.goes p f (step.goes ps g h)) =
    let e : preds ≡ p ∷ ps = cc in
    rw e ((n, found_of table n p f), found_each table ns ps g)

short_read : (told : Option Shelf) (name bytes : List ℕ) → Reads told most_file name (gives bytes) → length bytes ≤ most_file
short_read told name bytes (step.there _ m l) = l

short_each : (told : Option Shelf) (names texts : List (List ℕ)) → Each (Reads told most_file) names (gives texts) → AreShort texts
short_each told [] texts h = let e : texts ≡ [] = cc in rw e (All-nil (λ t. length t ≤ most_file))
short_each told (n ∷ ns) texts (step.goes t r (step.goes ts f h)) =
    let e : texts ≡ t ∷ ts = cc in
    rw e (All-cons (λ t. length t ≤ most_file) t ts (short_read told n t r) (short_each told ns ts f))

accepted_of : (bytes : List ℕ) (t : TableOf) → Compiles bytes (gives t) → IsAccepted bytes t
accepted_of bytes t (step.accepted _ a) = a

-- what is given stands for a table in memory and suits the command, and the further files are within their limit
pub record IsFine (command : Command) (g : Given) : Type 0 where
  pub grounded : IsGrounded g
  pub asked : Asks command g.preds
  pub short : AreShort g.texts

-- so is the result of the steps
pub fine : (plan : Plan) (told : Option Shelf) (g : Given) → Prepares plan told (gives g) → IsFine plan.command g
fine plan told g (step.goes bytes r (step.goes table c (step.goes preds n (step.goes _ (step.suited y) (step.goes texts t h))))) =
    let a = accepted_of bytes table c in
    let e : g ≡ record { table = table; preds = preds; texts = texts } = cc in
    rw e (record {
      grounded = record { table = a.table; is = a.is; sound = a.accepted.sound; found = found_each table.preds plan.names preds n };
      asked = y;
      short = short_each told plan.files texts t;
    })
