-- `check FILE`: the stage count of each predicate.
use Rattle.std.specs.Prelude.{ℕ, List, [], ◌∷◌, ◌++◌, codes, decimal}
use Rattle.ln_tree.specs.Table.{PredOf}
use Rattle.ln_compile.specs.Compiled.{IsStageCount}
use Rattle.ln_top.specs.Frame.Said.{Said, line}
use Rattle.ln_top.specs.Frame.Given.{Given}
use Rattle.ln_top.specs.Frame.Work.{Work}
use Rattle.ln_top.specs.Frame.Signature.{Signature}
use Rattle.ln_top.specs.Texts.Text.{Prints, source_signature, text_work}

-- `NAME sites K stages N`
abbrev pub count_text : PredOf → ℕ → List ℕ
count_text p n = p.name ++ codes " sites " ++ decimal p.sites ++ codes " stages " ++ decimal n

-- a line for each predicate, in order, with its stage count
pub data AreCounts : List PredOf → List ℕ → Type 0 where
  none : AreCounts [] []
  more : (p : PredOf) (ps : List PredOf) (n : ℕ) (texts : List ℕ) → IsStageCount p n → AreCounts ps texts
      → AreCounts (p ∷ ps) (line (count_text p n) ++ texts)

-- what is required: the lines of the predicates of the source
abbrev pub CheckSaid : Given → Said → Type 0
CheckSaid g = Prints (AreCounts g.table.preds)

-- the signature of `check`
abbrev pub check_signature : Signature
check_signature = source_signature (codes "check")

-- the work of `check`
abbrev pub check_work : Work
check_work = text_work AreCounts (Unit {0})
