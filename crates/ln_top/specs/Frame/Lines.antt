-- Defines work on records: what is written for each to both streams, one after the other. It serves every command that writes lines as they come. The
-- bytes for Out are gathered, and written in pieces.
use Rattle.std.specs.Prelude.{◌≡◌, ◌≢◌, ℕ, Bool, true, false, ◌&&◌, List, [], ◌∷◌, ◌++◌}
use Rattle.std.specs.Prelude.{Option, Result, Ok, Err}
use Rattle.ln_base.specs.Outside.{Shown, refused}
use Rattle.ln_base.specs.declared.outside.Port.{Port}
use Rattle.ln_base.specs.declared.outside.Port.TheVariants.{Out, Err as ErrPort}
use Rattle.ln_top.specs.declared.frame.status.End.{End}
use Rattle.ln_top.specs.declared.frame.status.Early.{Early}
use Rattle.ln_top.specs.declared.frame.status.Early.TheVariants.{Write, Memory}
use Rattle.ln_top.specs.Frame.Said.{Count, PutsFronts, Rises, IsCalm, Writes, put_both}

-- a step: from the state before a record, such as its watchers, to what it writes to Out and to Err and to the state after it
abbrev pub Step : Type 0 → Type 0 → Type 1
Step S R = S → R → List ℕ → List ℕ → S → Type 0

-- the bytes on both streams of records one after the other
pub data Lines {S R : Type 0} (step : Step S R) : S → List R → List ℕ → List ℕ → S → Type 0 where
  none : (s : S) → Lines step s [] [] [] s
  more : {s z : S} {rest : List R} {out err : List ℕ} (r : R) (o e : List ℕ) (m : S)
      → step s r o e m → Lines step m rest out err z → Lines step s (r ∷ rest) (o ++ out) (e ++ err) z

-- is each record good?
abbrev pub all_good : {R : Type 0} → (R → Bool) → List R → Bool
all_good good [] = true
all_good good (r ∷ rest) = good r && all_good good rest

-- these were written to both streams, or cut off by a fault of writing
abbrev pub WroteBoth : List ℕ → List ℕ → Count → Bool → Option Shown → Option Shown → Type 0
WroteBoth out err = Writes out err (λ done. done ≡ true) (λ done. done ≡ false) (λ done. ⊥)

-- a text was written to one stream, or cut off
abbrev pub WroteOn : Port → List ℕ → Count → Bool → Option Shown → Option Shown → Type 0
WroteOn Out text = WroteBoth text []
WroteOn ErrPort text = WroteBoth [] text

-- the last lines for Err were written, or cut off
abbrev pub Closes : List ℕ → End → Count → Result End Early → Option Shown → Option Shown → Type 0
Closes err end = Writes [] err (λ result. result ≡ Ok end) (λ result. result ≡ Err Write) (λ result. ⊥)

-- one record: its bytes for Out were gathered and those for Err were written; or a write was cut off; or it was given up
pub data Takes {S R : Type 0} (step : Step S R) (good : R → Bool) (s : S) (r : R)
    (held grown : List ℕ) (z : S) (puts : Count) (result : Result Bool Early) (was now : Option Shown) : Type 0 where
  took : (o e : List ℕ) → IsCalm puts → step s r o e z → result ≡ Ok (good r) → grown ≡ held ++ o
      → now ≡ put_both [] e was → Takes step good s r held grown z puts result was now
  tore : (o e : List ℕ) (m : S) → step s r o e m → Rises puts → result ≡ Err Write → PutsFronts [] e was now
      → Takes step good s r held grown z puts result was now
  left_off : IsCalm puts → result ≡ Err (Memory refused) → grown ≡ held → now ≡ was
      → Takes step good s r held grown z puts result was now

-- records of which some bytes for Out are still held: all are worked on, or a piece was cut off, or they were given up between two
pub data Gathers {S R : Type 0} (step : Step S R) (good : R → Bool) (s : S) (records : List R)
    (held : List ℕ) (z : S) (puts : Count) (result : Result Bool Early) (was now : Option Shown) : Type 0 where
  worked : (sent err : List ℕ) → IsCalm puts → Lines step s records (sent ++ held) err z → result ≡ Ok (all_good good records)
      → now ≡ put_both sent err was → Gathers step good s records held z puts result was now
  torn : (done left : List R) (out err : List ℕ) (m : S) → records ≡ done ++ left → Lines step s done out err m → Rises puts
      → PutsFronts out err was now → result ≡ Err Write → Gathers step good s records held z puts result was now
  given_up : (done left : List R) (sent err : List ℕ) (m : S) → IsCalm puts → records ≡ done ++ left
      → Lines step s done (sent ++ held) err m → now ≡ put_both sent err was → result ≡ Err (Memory refused)
      → Gathers step good s records held z puts result was now

-- what is held stays, or it was written, or cut off by a fault of writing
abbrev pub Empties : List ℕ → List ℕ → Count → Bool → Option Shown → Option Shown → Type 0
Empties held left = Writes held [] (λ done. (done ≡ true) × (left ≡ [])) (λ done. done ≡ false) (λ done. (done ≡ true) × (left ≡ held))

-- what was held was written at the end, whatever the end is but a failed write, after which nothing is written; a fault of this write decides
abbrev pub Sends : List ℕ → Result Bool Early → Count → Result Bool Early → Option Shown → Option Shown → Type 0
Sends held ran = Writes held [] (λ result. (ran ≢ Err Write) × (result ≡ ran)) (λ result. (ran ≢ Err Write) × (result ≡ Err Write))
    (λ result. (ran ≡ Err Write) × (result ≡ ran))

-- records of which nothing is held at the end: all written, or cut off within one, or given up between two
abbrev pub Ran : {S R : Type 0} → Step S R → (R → Bool) → S → List R → S → Count → Result Bool Early → Option Shown → Option Shown → Type 0
Ran step good s records = Gathers step good s records []

-- one record whose bytes are written at once: all of them, or they were cut off
pub record PutsOne {S R : Type 0} (step : Step S R) (s : S) (r : R)
    (z : S) (puts : Count) (done : Bool) (was now : Option Shown) : Type 0 where
  pub out : List ℕ
  pub err : List ℕ
  pub left : S
  pub stepped : step s r out err left
  pub wrote : WroteBoth out err puts done was now
  pub stays : done ≡ true → z ≡ left

-- every record is good
abbrev pub every : {R : Type 0} → R → Bool
every r = true

-- what such records come to: all were written, or a write failed
abbrev pub ran_of : Bool → Result Bool Early
ran_of true = Ok true
ran_of false = Err Write

-- records whose bytes are written as they come: all were written, or a write failed
abbrev pub PutsAll : {S R : Type 0} → Step S R → S → List R → S → Count → Bool → Option Shown → Option Shown → Type 0
PutsAll step s records z puts done = Ran step every s records z puts (ran_of done)
