-- One block of a list.
use Rattle.std.proofs.Common.{◌≡◌, ◌≢◌, ℕ, ℤ, ◌+◌, ◌<◌, List, ◌∷◌, length, drop, drop-cons, add-one, refl, zero, suc, ap, pos, negsuc, get_or, ◌∙◌, sym}
use Rattle.std.specs.Prelude.{Option, Some, slice_get}
use Rattle.std.proofs.lemmas.Option.{slice_get-get_or}
use Rattle.ln_code.specs.declared.verdict.Verdict.{Verdict}
use Rattle.ln_code.specs.declared.verdict.By.TheVariants.{Stage}
use Rattle.ln_code.specs.Part.{Code, block_value, wide_in}
use Rattle.ln_code.specs.Verdict.{sign_of, settled}

-- a value that isn't 0 decides
pub settled_other : (z : ℤ) (place wide calls : ℕ) (rest : Option Verdict) → z ≢ pos 0
    → settled z place wide calls rest ≡ Some (record { sign = sign_of z; by = Stage place; wide = wide; calls = calls })
settled_other (pos zero) place wide calls rest h = absurd (h refl)
settled_other (pos (suc n)) place wide calls rest h = refl
settled_other (negsuc n) place wide calls rest h = refl

-- what one turn of the loop knows: block number n at place i of the list is c, whose value is z
pub record Turn (zs : List ℤ) (cs : List Code) (list : List ℕ) (i n : ℕ) (c : Code) (z : ℤ) (w : ℕ) : Type 0 where
  pub below : i < length list
  pub named : n ≡ get_or list i 0
  pub within : n < length cs
  pub block_is : c ≡ get_or cs n c
  pub value : (b : Code) → slice_get cs n ≡ Some b → block_value zs b ≡ Some z
  pub wide : w ≡ wide_in c.ops

-- the number at place i is the one of its block
pub a_turn : {zs : List ℤ} {cs : List Code} {list : List ℕ} {i : ℕ} {c : Code} {z : ℤ} {w : ℕ} → i < length list → get_or list i 0 < length cs
    → c ≡ get_or cs (get_or list i 0) c → ((b : Code) → slice_get cs (get_or list i 0) ≡ Some b → block_value zs b ≡ Some z) → w ≡ wide_in c.ops
    → Turn zs cs list i (get_or list i 0) c z w
a_turn below within is value wide = record { below = below; named = refl; within = within; block_is = is; value = value; wide = wide }

-- so the block with that number is c
pub block_there : (zs : List ℤ) (cs : List Code) (list : List ℕ) (i n : ℕ) (c : Code) (z : ℤ) (w : ℕ) → Turn zs cs list i n c z w → slice_get cs n ≡ Some c
block_there zs cs list i n c z w t = slice_get-get_or cs n c t.within ∙ ap Some (sym t.block_is)

-- the list from place i on is its number there, and then the list from the next place on
pub rest_is : (list : List ℕ) (i n : ℕ) → i < length list → n ≡ get_or list i 0 → drop i list ≡ n ∷ drop (i + 1) list
rest_is list i n h e = rw (drop-cons list i 0, ← e, add-one) refl
