-- Defines what the blocks of a program tell of a row, as lines of a trace: the filter isn't asked. `BlocksAreExplained` says that this is what
-- is explained of the row, in terms of the expression that the program carries.
use Rattle.std.specs.Prelude.{◌≡◌, ◌≢◌, ℕ, ◌++◌, ℤ, pos, List, [], ◌∷◌, Ok, Some, slice_get}
use Rattle.ln_base.specs.declared.sign.Sign.TheVariants.{Zero}
use Rattle.ln_algebra.specs.Orders.{BySmallest}
use Rattle.ln_algebra.specs.Terms.{Term}
use Rattle.ln_algebra.specs.Tree.{Tree}
use Rattle.ln_tree.specs.Exps.{IsRising, Pairs}
use Rattle.ln_tree.specs.Row.{InRange, Row}
use Rattle.ln_order.specs.Order.{IsOrder}
use Rattle.ln_code.specs.Carried.{Carries, Runs}
use Rattle.ln_code.specs.Kept.{AreOfSites}
use Rattle.ln_code.specs.Lists.{IsListOf}
use Rattle.ln_code.specs.Part.{Code, Part, block_value}
use Rattle.ln_code.specs.Verdict.{sign_of}
use Rattle.ln_rows.specs.Record.{read_row}
use Rattle.ln_trace.specs.declared.line.TraceLine.{TraceLine}
use Rattle.ln_trace.specs.declared.line.TraceLine.TheVariants as line
use Rattle.ln_trace.specs.Signs.{Explains}
use Rattle.ln_trace.specs.Text.{text_of_lines}

-- the block with this number has these exponents, which rise and are of coordinates of sites, and on the row this value
pub record BlockTells (p : Part) (zs : List ℤ) (number : ℕ) (exps : Pairs) (z : ℤ) : Type 0 where
  pub block : Code
  pub there : slice_get p.blocks number ≡ Some block
  pub same : exps ≡ block.exps
  pub rising : IsRising exps
  pub of_sites : AreOfSites p.shape.vars exps
  pub value : block_value zs block ≡ Some z

-- what the blocks with these numbers tell: exponents and value of each, up to and with the first whose value isn't 0, and its sign;
-- where all are 0 those of all, and the sign 0
pub data Tell (p : Part) (zs : List ℤ) : List ℕ → List TraceLine → Type 0 where
  none_left : Tell p zs [] (line.Sign Zero ∷ [])
  it_decides : (number : ℕ) (list : List ℕ) (exps : Pairs) (z : ℤ) → BlockTells p zs number exps z → z ≢ pos 0
      → Tell p zs (number ∷ list) (line.At exps z ∷ line.Sign (sign_of z) ∷ [])
  it_is_zero : (number : ℕ) (list : List ℕ) (exps : Pairs) (lines : List TraceLine) → BlockTells p zs number exps (pos 0) → Tell p zs list lines
      → Tell p zs (number ∷ list) (line.At exps (pos 0) ∷ lines)

-- all that the blocks of a list tell was appended to what was out
pub record IsTold (p : Part) (zs : List ℤ) (list old new : List ℕ) : Type 0 where
  pub lines : List TraceLine
  pub tell : Tell p zs list lines
  pub put : new ≡ old ++ text_of_lines lines

-- what the blocks of a list tell, with what they tell from `rest` on: so much is out
pub record IsToldTo (p : Part) (zs : List ℤ) (list old new : List ℕ) (behind : List TraceLine) : Type 0 where
  pub lines : List TraceLine
  pub tell : Tell p zs list lines
  pub put : old ++ text_of_lines lines ≡ new ++ text_of_lines behind

-- what the blocks of a list tell was appended to what was out, up to `rest`: whatever those tell
abbrev pub TellOn : Part → List ℤ → List ℕ → List ℕ → List ℕ → List ℕ → Type 0
TellOn p zs list rest old new = (behind : List TraceLine) → Tell p zs rest behind → IsToldTo p zs list old new behind

-- the lines of a row with this number: that it is a row, and what the blocks tell that the list of the row's order names
pub record BlocksTell (p : Part) (row : Row) (n : ℕ) (lines : List TraceLine) : Type 0 where
  pub places : List ℕ
  pub order : IsOrder row.index places
  pub list : List ℕ
  pub chosen : IsListOf p places list
  pub told : List TraceLine
  pub tell : Tell p row.values list told
  pub all : lines ≡ line.Row n ∷ told

-- the lines that the blocks tell of the row were appended to what was out
pub record IsToldBehind (p : Part) (row : Row) (n : ℕ) (old new : List ℕ) : Type 0 where
  pub lines : List TraceLine
  pub told : BlocksTell p row n lines
  pub put : new ≡ old ++ text_of_lines lines

-- of a program that carries an expression, the blocks tell of each row that is read what is explained of it
abbrev pub BlocksAreExplained : Type 0
BlocksAreExplained =
    (p : Part) (e : Tree) (f : List Term) (fields : List (List ℕ)) (row : Row) (n : ℕ) (lines : List TraceLine) → Runs p →
    Carries BySmallest p e f → read_row p.shape.sites p.shape.vars fields ≡ Ok row → InRange p.shape.sites p.shape.vars row →
    BlocksTell p row n lines → Explains (record { sites = p.shape.sites; vars = p.shape.vars; tree = e }) n fields lines
