-- Statements read one by one.
use Rattle.std.proofs.Common.{◌≡◌, ℕ, zero, suc, ◌<◌, ◌≤◌, Bool, true, false, List, [], ◌∷◌, ◌++◌, length, map}
use Rattle.std.proofs.Common.{Some, None, refl, ap, sym, ◌∙◌, subst, arith}
use Rattle.std.specs.Prelude.{codes, Option}
use Rattle.std.proofs.lemmas.List.{map-append}
use Rattle.ln_csyn.specs.Tree.{Body, End}
use Rattle.ln_csyn.specs.Grammar.{Token}
use Rattle.ln_csyn.specs.declared.tree.CStmt.{CStmt}
use Rattle.ln_csyn.specs.View.{Front, body_made, stmt_front, body_tree}
use Rattle.ln_csyn.specs.Reading.{begins as begins_text, eat, go_on, stmt_at, stmts_at, block_at, ReadStmt}
use Rattle.ln_csyn.proofs.Reading.Leaving.{fewer}
use Rattle.ln_csyn.proofs.Reading.SoundFile.{block_sound, stmt_sound}

-- these statements before a body
abbrev pub onto : List Front → Body → Body
onto [] b = b
onto (f ∷ fs) b = f (onto fs b)

-- before no statement
pub onto_end : (fs : List Front) → onto fs End ≡ body_made fs
onto_end [] = refl
onto_end (f ∷ fs) = ap f (onto_end fs)

onto_more : (fs : List Front) (f : Front) (b : Body) → onto (fs ++ f ∷ []) b ≡ onto fs (f b)
onto_more [] f b = refl
onto_more (g ∷ fs) f b = ap g (onto_more fs f b)

-- these statements before what was read
abbrev pub onto_read : List Front → Option (Body × List Token) → Option (Body × List Token)
onto_read fs None = None
onto_read fs (Some y) = Some (onto fs y.0, y.1)

-- what was read stands before what is read from here
pub record Going (stmt : ReadStmt) (ts : List Token) (fs : List Front) (rest : List Token) : Type 0 where
  pub n : ℕ
  pub room : length rest ≤ n
  pub all : stmts_at stmt (suc (length ts)) ts ≡ onto_read fs (stmts_at stmt (suc n) rest)

onto_none : (o : Option (Body × List Token)) → o ≡ onto_read [] o
onto_none None = refl
onto_none (Some y) = refl

-- at the start nothing was read
pub begins : (stmt : ReadStmt) (ts : List Token) → Going stmt ts [] ts
begins stmt ts = record { n = length ts; room = omega arith; all = onto_none (stmts_at stmt (suc (length ts)) ts) }

more_by : (fs : List Front) (f : Front) (o : Option (Body × List Token)) → onto_read fs (go_on o (λ b. Some (f b.0, b.1))) ≡ onto_read (fs ++ f ∷ []) o
more_by fs f None = refl
more_by fs f (Some y) = ap (λ (b : Body). Some (b, y.1)) (sym (onto_more fs f y.0))

step_by : (stmt : ReadStmt) (n : ℕ) (rest next : List Token) (f : Front) → eat (codes "}") rest ≡ None → stmt rest ≡ Some (f, next)
    → stmts_at stmt (suc n) rest ≡ go_on (stmts_at stmt n next) (λ b. Some (f b.0, b.1))
step_by stmt n rest next f h g = rw (h, g) refl

-- one statement further
pub goes : (stmt : ReadStmt) (ts : List Token) (fs : List Front) (rest next : List Token) (f : Front) → Going stmt ts fs rest
    → eat (codes "}") rest ≡ None → stmt rest ≡ Some (f, next) → length next < length rest → Going stmt ts (fs ++ f ∷ []) next
goes stmt ts fs rest next f g h s l = by_n g.n g.room g.all where
  by_n : (n : ℕ) → length rest ≤ n → stmts_at stmt (suc (length ts)) ts ≡ onto_read fs (stmts_at stmt (suc n) rest) → Going stmt ts (fs ++ f ∷ []) next
  by_n zero w a = absurd (omega arith)
  by_n (suc n) w a =
      record { n = n; room = omega arith; all = a ∙ ap (onto_read fs) (step_by stmt (suc n) rest next f h s) ∙ more_by fs f (stmts_at stmt (suc n) next) }

-- at a closing brace all statements were read
pub ends : (stmt : ReadStmt) (ts : List Token) (fs : List Front) (rest us : List Token) → Going stmt ts fs rest
    → eat (codes "}") rest ≡ Some us → stmts_at stmt (suc (length ts)) ts ≡ Some (body_made fs, rest)
ends stmt ts fs rest us g h =
    let e : stmts_at stmt (suc g.n) rest ≡ Some (End, rest) = rw h refl in
    g.all ∙ ap (onto_read fs) e ∙ ap (λ (b : Body). Some (b, rest)) (onto_end fs)

-- where no statement is read no statements are
pub fails : (stmt : ReadStmt) (ts : List Token) (fs : List Front) (rest : List Token) → Going stmt ts fs rest → eat (codes "}") rest ≡ None
    → stmt rest ≡ None → stmts_at stmt (suc (length ts)) ts ≡ None
fails stmt ts fs rest g h s = let e : stmts_at stmt (suc g.n) rest ≡ None = rw (h, s) refl in g.all ∙ ap (onto_read fs) e

-- by whether the first token is a closing brace
pub brace_some : (ts : List Token) (v : Bool) → v ≡ begins_text (codes "}") ts → v ≡ true → (us : List Token) × (eat (codes "}") ts ≡ Some us)
brace_some [] v e h = absurd (cc)
brace_some (t ∷ ts) v e h = (ts, rw (sym e ∙ h) refl)

-- there is none
pub brace_none : (ts : List Token) (v : Bool) → v ≡ begins_text (codes "}") ts → v ≡ false → eat (codes "}") ts ≡ None
brace_none [] v e h = refl
brace_none (t ∷ ts) v e h = rw (sym e ∙ h) refl

-- ---- as the code reads them

-- at a closing brace
pub read_ends : (stmt : ReadStmt) (ts rest : List Token) (ss : List CStmt) (v : Bool) → Going stmt ts (map stmt_front ss) rest
    → v ≡ begins_text (codes "}") rest → v ≡ true → stmts_at stmt (suc (length ts)) ts ≡ Some (body_tree ss, rest)
read_ends stmt ts rest ss v g b h = let s = brace_some rest v b h in ends stmt ts (map stmt_front ss) rest s.0 g s.1

-- where no statement is read
pub read_fails : (stmt : ReadStmt) (ts rest : List Token) (ss : List CStmt) (v : Bool) → Going stmt ts (map stmt_front ss) rest
    → v ≡ begins_text (codes "}") rest → v ≡ false → stmt rest ≡ None → stmts_at stmt (suc (length ts)) ts ≡ None
read_fails stmt ts rest ss v g b h f = fails stmt ts (map stmt_front ss) rest g (brace_none rest v b h) f

-- a statement leaves less
pub stmt_less : (o i k : ℕ) (rest next : List Token) (f : Front) → o ≡ suc i → stmt_at o i (block_at o i k) rest ≡ Some (f, next)
    → length next < length rest
stmt_less o i k rest next f q h =
    let h2 : stmt_at (suc i) i (block_at (suc i) i k) rest ≡ Some (f, next) =
    subst (λ (z : ℕ). stmt_at z i (block_at z i k) rest ≡ Some (f, next)) q h in
    fewer ((stmt_sound i k (block_at (suc i) i k) (block_sound i k) rest (f, next) h2).leaves)

-- one statement further
pub read_goes : (o i k : ℕ) (ts rest next : List Token) (ss ss' : List CStmt) (s : CStmt) (v : Bool) → o ≡ suc i
    → Going (stmt_at o i (block_at o i k)) ts (map stmt_front ss) rest → v ≡ begins_text (codes "}") rest → v ≡ false
    → stmt_at o i (block_at o i k) rest ≡ Some (stmt_front s, next) → ss' ≡ ss ++ s ∷ []
    → Going (stmt_at o i (block_at o i k)) ts (map stmt_front ss') next
read_goes o i k ts rest next ss ss' s v q g b h f m =
    let stmt : ReadStmt = stmt_at o i (block_at o i k) in
    let n = goes stmt ts (map stmt_front ss) rest next (stmt_front s) g (brace_none rest v b h) f (stmt_less o i k rest next (stmt_front s) q f) in
    let mm : map stmt_front ss' ≡ map stmt_front ss ++ stmt_front s ∷ [] = ap (map stmt_front) m ∙ map-append stmt_front ss (s ∷ []) in
    subst (λ (z : List Front). Going stmt ts z next) (sym mm) n
