-- The causes of stops, and what was written then.
use Rattle.std.proofs.Common.{◌≡◌, ℕ, ◌<◌, ◌≤◌, ◌⊎◌, List, [], ◌∷◌, ◌++◌, length, take, drop, refl, sym, subst, arith, inl, inr}
use Rattle.std.specs.Prelude.{Contains, Err, IfErr, IfSome, Ok, Option, Result, Some, None}
use Rattle.std.specs.Result.{IsErrAnd}
use Rattle.std.proofs.lemmas.List.{take-append-drop}
use Rattle.ln_base.specs.Limits.{most_file}
use Rattle.ln_base.specs.Outside.{IsAbsent, Rose, Shelf, Shown, appended, bytes_of}
use Rattle.ln_base.specs.declared.outside.Port.TheVariants.{Out}
use Rattle.ln_base.specs.declared.whole.ReadStop.{ReadStop}
use Rattle.ln_base.specs.declared.whole.ReadStop.TheVariants.{Fault, TooLong, NoMemory}
use Rattle.ln_csyn.specs.declared.stop.CStop.{CStop}
use Rattle.ln_csyn.specs.declared.stop.CStop.TheVariants.{NotSubset, NoMemory as OutOfMemory}
use Rattle.ln_cmean.specs.Carrying.Calls.{AreMeant}
use Rattle.ln_cmean.specs.Carrying.Stops.{IsCause, IsNoFile, IsUnwritten, of_c, of_read}
use Rattle.ln_cmean.specs.declared.program.stop.Stop.{Stop}
use Rattle.ln_cmean.specs.declared.program.stop.Stop.TheVariants.{Write}

-- the first of two words is one of them
pub first_word : (words : List (List ℕ)) (a b : List ℕ) → words ≡ a ∷ (b ∷ []) → Contains words a
first_word words a b e = subst (λ (x : List (List ℕ)). Contains x a) (sym e) (0, omega arith, refl)

-- so is the second
pub second_word : (words : List (List ℕ)) (a b : List ℕ) → words ≡ a ∷ (b ∷ []) → Contains words b
second_word words a b e = subst (λ (x : List (List ℕ)). Contains x b) (sym e) (1, omega arith, refl)

-- What a run was given, and how many faults there were before and after.
pub record Given : Type 0 where
  pub words : List (List ℕ)
  pub told : Option Shelf
  pub reads : ℕ × ℕ
  pub writes : ℕ × ℕ

-- The stop has its cause.
abbrev pub Caused : Given → Stop → Type 0
Caused g s = IsCause s g.words g.told g.reads g.writes

-- Why the file of this name wasn't read.
pub record IsUnread (g : Given) (name : List ℕ) (r : ReadStop) : Type 0 where
  pub fault : r ≡ Fault → Rose g.reads.0 g.reads.1 ⊎ IsAbsent name g.told
  pub long : r ≡ TooLong → IfSome g.told (λ shelf. IfSome (bytes_of name shelf) (λ bytes. most_file < length bytes))

-- the same where another file was read before, which changed no count of faults
pub later_unread : (g : Given) (name : List ℕ) (r : ReadStop) (told : Option Shelf) (before : ℕ) → told ≡ g.told → before ≡ g.reads.0 →
    (r ≡ Fault → Rose before g.reads.1 ⊎ IsAbsent name told) →
    (r ≡ TooLong → IfSome told (λ shelf. IfSome (bytes_of name shelf) (λ bytes. most_file < length bytes))) → IsUnread g name r
later_unread g name r told before e f h k = record {
  fault = λ q. subst (λ (x : ℕ). Rose x g.reads.1 ⊎ IsAbsent name g.told) f
      (subst (λ (t : Option Shelf). Rose before g.reads.1 ⊎ IsAbsent name t) e (h q));
  long = λ q. subst (λ (t : Option Shelf). IfSome t (λ shelf. IfSome (bytes_of name shelf) (λ bytes. most_file < length bytes))) e (k q);
}

read_cause : (g : Given) (name : List ℕ) (r : ReadStop) → Contains g.words name → IsUnread g name r → Caused g (of_read r)
read_cause g name Fault w u = by (u.fault refl) where
  by : Rose g.reads.0 g.reads.1 ⊎ IsAbsent name g.told → Caused g (of_read Fault)
  by (inl a) = inl a
  by (inr a) = inr (record { name = name; word = w; absent = a })
read_cause g name TooLong w u = record { name = name; word = w; long = u.long refl }
read_cause g name (NoMemory m) w u = tt

err_cause : (g : Given) (r : Result (Unit {0}) Stop) (s : Stop) → IsErrAnd r (λ e. e ≡ s) → Caused g s → IfErr r (Caused g)
err_cause g (Ok x) s e c = tt
err_cause g (Err x) s e c = subst (Caused g) (sym e) c

-- a file that a word names wasn't read
pub read_stopped : (g : Given) (name : List ℕ) (stop : ReadStop) (r : Result (Unit {0}) Stop) → IsErrAnd r (λ e. e ≡ of_read stop) →
    Contains g.words name → IsUnread g name stop → IfErr r (Caused g)
read_stopped g name stop r e w u = err_cause g r (of_read stop) e (read_cause g name stop w u)

c_cause : (g : Given) (file calls bytes : List ℕ) (c : CStop) → g.words ≡ file ∷ (calls ∷ []) → IfSome g.told (λ shelf. bytes_of file shelf ≡ Some bytes) →
    (c ≡ NotSubset → IsNoFile bytes) → Caused g (of_c c)
c_cause g file calls bytes NotSubset e b n = record { file = file; calls = calls; named = e; content = by g.told b } where
  by : (told : Option Shelf) → IfSome told (λ shelf. bytes_of file shelf ≡ Some bytes) →
      IfSome told (λ shelf. (x : List ℕ) × (bytes_of file shelf ≡ Some x) × IsNoFile x)
  by None h = tt
  by (Some shelf) h = (bytes, h, n refl)
c_cause g file calls bytes (OutOfMemory m) e b n = tt

-- the first file isn't of the subset
pub c_stopped : (g : Given) (file calls bytes : List ℕ) (c : CStop) (r : Result (Unit {0}) Stop) → IsErrAnd r (λ e. e ≡ of_c c) →
    g.words ≡ file ∷ (calls ∷ []) → IfSome g.told (λ shelf. bytes_of file shelf ≡ Some bytes) → (c ≡ NotSubset → IsNoFile bytes) → IfErr r (Caused g)
c_stopped g file calls bytes c r h e b n = err_cause g r (of_c c) h (c_cause g file calls bytes c e b n)

-- A part of the text was written, from its first byte on.
abbrev pub Cut : List ℕ → Option Shown → Option Shown → Type 0
Cut out was now = (n : ℕ) × (n ≤ length out) × (now ≡ appended Out (take n out) was)

-- writing the meanings failed
pub write_stopped : (words : List (List ℕ)) (told : Option Shelf) (out : List ℕ) (was now : Option Shown) (r : Result (Unit {0}) Stop)
    → IsErrAnd r (λ e. e ≡ Write) → IfSome told (λ shelf. AreMeant words shelf out) → Cut out was now
    → IfErr r (λ s. IsUnwritten s words told was now)
write_stopped words told out was now (Ok x) e m c = tt
write_stopped words told out was now (Err x) e m c = inr (e, record { part = take c.0 out; written = c.2; begins = by told m })
  where
    by : (t : Option Shelf) → IfSome t (λ shelf. AreMeant words shelf out)
        → IfSome t (λ shelf. (rest : List ℕ) × AreMeant words shelf (take c.0 out ++ rest))
    by None m = tt
    by (Some shelf) m = (drop c.0 out, subst (AreMeant words shelf) (sym (take-append-drop c.0 out)) m)
