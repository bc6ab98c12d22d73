-- The machine's verdict read aloud: where the filter decides its sign; else that of the first block of the row's list whose value
-- isn't 0, with the calls and the wide operations up to it.
use Rattle.std.specs.Prelude.{◌≡◌, ◌≢◌, ◌↔◌, ◌⊎◌, ℕ, ◌+◌, ◌<◌, ◌≤◌, ℤ, pos, unsigned_abs, List, length, take, Option, Some, None, slice_get}
use Rattle.ln_base.specs.declared.sign.Sign.TheVariants.{Zero}
use Rattle.ln_tree.specs.Row.{Row}
use Rattle.ln_order.specs.Order.{IsOrder}
use Rattle.ln_code.specs.declared.verdict.By.{By}
use Rattle.ln_code.specs.declared.verdict.By.TheVariants.{Filter, Stage, Nothing}
use Rattle.ln_code.specs.declared.verdict.Verdict.{Verdict}
use Rattle.ln_code.specs.Engine.{next}
use Rattle.ln_code.specs.Exact.{Held}
use Rattle.ln_code.specs.Lists.{IsListOf}
use Rattle.ln_code.specs.Part.{Code, FilterCode, Part, block_value, filter_value, sum_of, wide_at}
use Rattle.ln_code.specs.Verdict.{IsVerdict, sign_of}

-- the value of the block at place k of a list
abbrev pub value_at : List ℤ → List Code → List ℕ → ℕ → Option ℤ
value_at zs blocks list k = next (slice_get list k) (λ n. next (slice_get blocks n) (λ c. block_value zs c))

-- how many operations of the first k blocks of a list are done at 128 bits
abbrev pub wide_of_first : List Code → List ℕ → ℕ → ℕ
wide_of_first blocks list k = sum_of (wide_at blocks) (take k list)

-- block k of the list decides, after this many calls: those before it have the value 0, and it hasn't; each block up to it is called once
pub record BlockDecides (zs : List ℤ) (blocks : List Code) (list : List ℕ) (entered k : ℕ) (v : Verdict) : Type 0 where
  pub before : (i : ℕ) → i < k → value_at zs blocks list i ≡ Some (pos 0)
  pub number : ℤ
  pub value : value_at zs blocks list k ≡ Some number
  pub nonzero : number ≢ pos 0
  pub sign : v.sign ≡ sign_of number
  pub calls : v.calls ≡ entered + (k + 1)
  pub wide : v.wide ≡ wide_of_first blocks list (k + 1)

-- no block of the list decides: each has the value 0, and each is called once
pub record NoBlockDecides (zs : List ℤ) (blocks : List Code) (list : List ℕ) (entered : ℕ) (v : Verdict) : Type 0 where
  pub zeros : (i : ℕ) → i < length list → value_at zs blocks list i ≡ Some (pos 0)
  pub sign : v.sign ≡ Zero
  pub calls : v.calls ≡ entered + length list
  pub wide : v.wide ≡ wide_of_first blocks list (length list)

-- the blocks of the list, after this many calls, have this verdict, decided by this
abbrev pub BlocksTell : List ℤ → List Code → List ℕ → ℕ → Verdict → By → Type 0
BlocksTell zs blocks list entered v Filter = ⊥
BlocksTell zs blocks list entered v (Stage k) = BlockDecides zs blocks list entered k v
BlocksTell zs blocks list entered v Nothing = NoBlockDecides zs blocks list entered v

-- what the filter leaves is above its error, and so the filter decides, by one call and nothing at 128 bits
pub record FilterDecides (left : Held) (v : Verdict) : Type 0 where
  pub above : left.error < unsigned_abs left.number
  pub sign : v.sign ≡ sign_of left.number
  pub by : v.by ≡ Filter
  pub calls : v.calls ≡ 1
  pub wide : v.wide ≡ 0

-- filter and blocks have this verdict: without a filter the blocks do; with one it decides, or what it leaves isn't above its
-- error and the blocks do, after its call
abbrev pub Tell : Option FilterCode → List ℤ → List Code → List ℕ → Verdict → Type 0
Tell None zs blocks list v = BlocksTell zs blocks list 0 v v.by
Tell (Some f) zs blocks list v =
    (left : Held) × (filter_value zs f ≡ Some left)
    × (FilterDecides left v ⊎ ((unsigned_abs left.number ≤ left.error) × BlocksTell zs blocks list 1 v v.by))

-- the verdict of a part on a row: that of the filter and of the blocks of the list of the row's order
pub record IsTold (part : Part) (row : Row) (v : Verdict) : Type 0 where
  pub places : List ℕ
  pub order : IsOrder row.index places
  pub list : List ℕ
  pub chosen : IsListOf part places list
  pub told : Tell part.filter row.values part.blocks list v

-- the machine's verdict is just that
abbrev pub VerdictsAreTold : Type 0
VerdictsAreTold = (part : Part) (row : Row) (v : Verdict) → IsVerdict part row v ↔ IsTold part row v
