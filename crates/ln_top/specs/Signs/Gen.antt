-- `gen FILE NAME SEED COUNT`: rows are made of a generator's words, and the watchers' lines go to Out.
use Rattle.std.specs.Prelude.{◌≡◌, ℕ, zero, suc, List, [], ◌∷◌, ◌++◌, length, codes}
use Rattle.rand_pcg.specs.Lcg.{Lcg}
use Rattle.rand_core.specs.Pcg32Seed.{pcg32_seed}
use Rattle.rand_pcg.specs.Pcg.{pcg64_of_seed}
use Rattle.ln_tree.specs.declared.shape.VarInfo.{VarInfo}
use Rattle.ln_tree.specs.Row.{Row}
use Rattle.ln_tree.specs.Table.{PredOf}
use Rattle.ln_code.specs.declared.verdict.Verdict.{Verdict}
use Rattle.ln_rows.specs.Record.{columns}
use Rattle.ln_watch.specs.Panel.{State, left_after, lines_at, last_lines}
use Rattle.ln_compile.specs.Filtered.{IsDue}
use Rattle.ln_top.specs.declared.frame.status.End.{End}
use Rattle.ln_top.specs.declared.frame.status.End.TheVariants.{Done}
use Rattle.ln_top.specs.Frame.Said.{Said, whole}
use Rattle.ln_top.specs.Frame.Given.{Given}
use Rattle.ln_top.specs.Signs.GenRow.{words, past, row_by}
use Rattle.ln_top.specs.Frame.Lines.{Lines}
use Rattle.ln_top.specs.Frame.Carried.{NoPart}
use Rattle.ln_top.specs.Frame.Work.{Work}
use Rattle.ln_top.specs.Frame.Signature.{Signature}
use Rattle.ln_top.specs.declared.frame.asked.Asked.TheVariants.{Nothing}

-- the generator of a seed
abbrev pub seeded : ℕ → Lcg
seeded seed = pcg64_of_seed (pcg32_seed 32 seed)

-- a row by its number, and the generator as it is before its words
pub record Draw : Type 0 where
  pub number : ℕ
  pub from : Lcg

-- the draw of the row with this number from this generator
abbrev pub draw : ℕ → Lcg → Draw
draw number from = record { number = number; from = from }

-- the row: it takes a word for each column
abbrev pub drawn : List VarInfo → Draw → Row
drawn vars d = row_by d.number vars (words (length (columns vars)) d.from)

-- this many rows after row n, each by the words after those of the one before it
abbrev pub draws : ℕ → ℕ → List VarInfo → Lcg → List Draw
draws zero n vars g = []
draws (suc k) n vars g = draw (suc n) g ∷ draws k (suc n) vars (past (length (columns vars)) g)

-- what is written for a row: on Out the lines of the watchers that are done after the verdict that it requires, on Err nothing
pub record GenStep (p : PredOf) (before : List State) (d : Draw) (out err : List ℕ) (after : List State) : Type 0 where
  pub verdict : Verdict
  pub due : IsDue p (drawn p.vars d) verdict
  pub told : out ≡ lines_at d.number verdict before
  pub silent : err ≡ []
  pub left : after ≡ left_after d.number verdict before

-- what is required: the lines of the watchers over the rows from 1 to the count, and at the end those of the remaining watchers
pub data GenSaid (seed count : ℕ) (boxes : List State) (g : Given) : Said → Type 0 where
  made : (p : PredOf) (out : List ℕ) (z : List State) → g.preds ≡ p ∷ []
      → Lines (GenStep p) boxes (draws count 0 p.vars (seeded seed)) out [] z
      → GenSaid seed count boxes g (whole Done (out ++ last_lines z))

-- how it ends, and where
pub data GenEnds (g : Given) : End → Type 0 where
  done : GenEnds g Done

-- the signature of `gen`
abbrev pub gen_signature : Signature
gen_signature = record { word = codes "gen"; form = record { least = 1; most = 1; files = 0 }; suits = Nothing }

-- the work of `gen`, with its seed and its count
abbrev pub gen_work : ℕ → ℕ → Work
gen_work seed count = record { owes = GenSaid seed count; part = λ boxes g. NoPart; ends = GenEnds; one = Unit {0} }
