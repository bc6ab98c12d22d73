-- Listings, and the first line of a text at which it stops being one.
use Rattle.std.specs.Prelude.{◌≡◌, ℕ, ◌+◌, ◌≤◌, List, [], ◌∷◌, ◌++◌, length, map, codes}
use Rattle.std.proofs.Common.{◌⊎◌}
use Rattle.ln_code.specs.declared.op.Op.{Op}
use Rattle.ln_code.specs.declared.op.Triple.{Triple}
use Rattle.ln_cert.specs.declared.part.Entry.{Entry}
use Rattle.ln_cert.specs.declared.part.Part.{Part}
use Rattle.ln_cert.specs.declared.part.Part.TheVariants.{Predicate, NoFilter, Filter, FilterOp, Decide}
use Rattle.ln_cert.specs.declared.part.Part.TheVariants.{Block, BlockOp, RangeOp, End, Order, Done}
use Rattle.ln_base.specs.Lines.{joined}
use Rattle.ln_base.specs.Forms.Fault.{IsFaultOf}
use Rattle.ln_cert.specs.Text.{Each, IsLine, text_of}
use Rattle.std.specs.Prelude.{ℤ}
use Rattle.ln_base.specs.Limits.{most_file}

-- ---- the grammar: what is in the first list and not in the second is of the form
-- operations of a filter
pub data FilterOps : List Part → List Part → Type 0 where
  none : {r : List Part} → FilterOps r r
  more : {xs r : List Part} {o : Op} {t : Triple} → FilterOps xs r → FilterOps (FilterOp o t ∷ xs) r

-- operations of a block: with one bound in version 1, with a low and a high end in version 2
pub data BlockOps : ℕ → List Part → List Part → Type 0 where
  none : {v : ℕ} {r : List Part} → BlockOps v r r
  bound : {v : ℕ} {xs r : List Part} {o : Op} {b : ℕ} → v ≡ 1 → BlockOps v xs r → BlockOps v (BlockOp o b ∷ xs) r
  range : {v : ℕ} {xs r : List Part} {o : Op} {l u : ℤ} → v ≡ 2 → BlockOps v xs r → BlockOps v (RangeOp o l u ∷ xs) r

-- `nofilter`, or `filter`, operations and `decide`
pub data AFilter : List Part → List Part → Type 0 where
  nothing : {r : List Part} → AFilter (NoFilter ∷ r) r
  filter : {xs r : List Part} → FilterOps xs (Decide ∷ r) → AFilter (Filter ∷ xs) r

-- one or more blocks, each ended by `end`
pub data SomeBlocks : ℕ → List Part → List Part → Type 0 where
  last : {v n : ℕ} {exps : List (ℕ × ℕ)} {xs r : List Part} → BlockOps v xs (End ∷ r) → SomeBlocks v (Block n exps ∷ xs) r
  more : {v n : ℕ} {exps : List (ℕ × ℕ)} {xs ys r : List Part} → BlockOps v xs (End ∷ ys) → SomeBlocks v ys r →
      SomeBlocks v (Block n exps ∷ xs) r

-- one or more `order` lines
pub data SomeOrders : List Part → List Part → Type 0 where
  last : {places list : List ℕ} {r : List Part} → SomeOrders (Order places list ∷ r) r
  more : {places list : List ℕ} {xs r : List Part} → SomeOrders xs r → SomeOrders (Order places list ∷ xs) r

-- any number of predicates: the name, the filter, blocks, orders and `done`
pub data Predicates : ℕ → List Part → Type 0 where
  none : {v : ℕ} → Predicates v []
  more : {v : ℕ} {n : List ℕ} {xs ys zs r : List Part} →
      AFilter xs ys → SomeBlocks v ys zs → SomeOrders zs (Done ∷ r) → Predicates v r → Predicates v (Predicate n ∷ xs)

-- ---- the text
-- the first line names the version
abbrev pub first_line : ℕ → List ℕ
first_line v = codes "listing " ++ (48 + v) ∷ 10 ∷ []

-- the lines of a listing, as texts
abbrev pub texts_of : ℕ → List Part → List (List ℕ)
texts_of v ps = first_line v ∷ map text_of ps

-- a listing: version 1 or 2, and what its lines say after the first one
pub record IsListing (version : ℕ) (parts : List Part) : Type 0 where
  pub known : (version ≡ 1) ⊎ (version ≡ 2)
  pub form : Predicates version parts
  pub ranges : Each IsLine parts

-- the bytes are the text of this listing
pub record ListText (bytes : List ℕ) (version : ℕ) (parts : List Part) : Type 0 where
  pub listing : IsListing version parts
  pub text : bytes ≡ joined (texts_of version parts)

-- ---- entries
-- what the lines of entries say, without their numbers
abbrev pub parts_of : List Entry → List Part
parts_of es = map (λ e. e.part) es

-- each entry has the number of its line, from this one on
abbrev pub AreNumbered : ℕ → List Entry → Type 0
AreNumbered n [] = Unit {0}
AreNumbered n (e ∷ es) = (e.line ≡ n) × AreNumbered (n + 1) es

-- what a reader returns of a listing: its version, and an entry for each line after the first one
pub record Listed : Type 0 where
  pub version : ℕ
  pub entries : List Entry

-- entries of a listing of this version, with their lines, which count from 1 and the first names the version; some bytes, at most
-- 67,108,864, are its text
pub record Kept (l : Listed) : Type 0 where
  pub numbered : AreNumbered 2 l.entries
  pub bytes : List ℕ
  pub short : length bytes ≤ most_file
  pub text : ListText bytes l.version (parts_of l.entries)

-- ---- form faults
-- these lines are all of a listing
pub record IsWhole (texts : List (List ℕ)) : Type 0 where
  pub version : ℕ
  pub parts : List Part
  pub listing : IsListing version parts
  pub same : texts ≡ texts_of version parts

-- line `at`, from 1, is the first at which the lines so far are no prefix of a listing; where all lines are one and the bytes are
-- no listing, it is one more than there are lines
abbrev pub IsFormFault : List ℕ → ℕ → Type 0
IsFormFault bytes at = IsFaultOf IsWhole bytes at
