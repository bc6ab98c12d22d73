-- `emit`: the names of its functions, and its laws.
use Rattle.std.proofs.Common.{◌≡◌, List, [], ◌∷◌, map, refl}
use Rattle.std.specs.List.{AllByRecursion}
use Rattle.ln_base.specs.declared.sign.Sign.{Sign}
use Rattle.ln_base.specs.declared.sign.Sign.TheVariants.{Minus, Zero, Plus}
use Rattle.ln_tree.specs.declared.table.Table.{Table}
use Rattle.ln_tree.specs.Table.{CoordOf, PredOf, SiteOf, TableOf, pred_of, table_of}
use Rattle.ln_parse.specs.ReadsBack.{Every}
use Rattle.ln_parse.proofs.Wholes.WholeParts.{PredParts, table_parts}
use Rattle.ln_due.specs.Due.{sign_number}
use Rattle.ln_cemit.specs.Emitted.{sign_as_number}
use Rattle.ln_top.specs.declared.frame.asked.Asked.TheVariants.{Nothing}
use Rattle.ln_top.specs.Texts.Emit.{emit_work}
use Rattle.ln_top.specs.Texts.Written.{IsCOf, with_filters}
use Rattle.ln_top.proofs.FrameLemmas.Laws.{IsLawful}
use Rattle.ln_top.proofs.TextsLemmas.TextLaws.{lawful as text_lawful}

-- the shape of each predicate has the predicate's name
abbrev pub AreNamed : List PredOf → Type 0
AreNamed = AllByRecursion (λ p. p.shape_name ≡ p.name)

named : (sites : List SiteOf) (params : List CoordOf) (ps : List PredOf) → Every (PredParts sites params) ps → AreNamed ps
named sites params [] e = tt
named sites params (p ∷ ps) e = (e.0.shape_name, named sites params ps e.1)

-- so it is in a table
pub names_there : (t : Table) → AreNamed (map pred_of t.preds)
names_there t =
    let u : TableOf = table_of t.sites t.params t.preds in
    named u.sites u.params u.preds (table_parts u t.whole).preds

-- a sign is one number
pub same_number : (s : Sign) → sign_as_number s ≡ sign_number s
same_number Minus = refl
same_number Zero = refl
same_number Plus = refl

-- the laws of a work hold for `emit`
pub lawful : IsLawful Nothing emit_work
lawful = text_lawful (IsCOf with_filters) ⊥ (λ v. absurd v)
