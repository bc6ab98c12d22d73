-- Functions read one by one.
use Rattle.std.proofs.Common.{◌≡◌, ℕ, zero, suc, ◌<◌, ◌≤◌, ◌==◌, Bool, true, false, List, [], ◌∷◌, ◌++◌, length, map, append_assoc}
use Rattle.std.proofs.Common.{append-nil, Some, None, refl, ap, sym, ◌∙◌, subst, arith}
use Rattle.std.specs.Prelude.{Option}
use Rattle.std.proofs.lemmas.List.{map-append}
use Rattle.ln_csyn.specs.declared.tokens.Tokens.{Tokens}
use Rattle.ln_csyn.specs.declared.tree.CFun.{CFun}
use Rattle.ln_csyn.specs.Seen.{tokens_of}
use Rattle.ln_csyn.specs.Tree.{Fun}
use Rattle.ln_csyn.specs.View.{fun_tree}
use Rattle.ln_csyn.specs.Grammar.{Token}
use Rattle.ln_csyn.specs.Reading.{go_on, block_at, fun_at, funs_at, ReadBlock}
use Rattle.ln_csyn.proofs.Reading.Leaving.{fewer, leaves_fun}
use Rattle.ln_csyn.proofs.Reading.SoundFile.{fun_sound}

-- functions before those that are read
abbrev pub before : List Fun → Option (List Fun) → Option (List Fun)
before fs None = None
before fs (Some gs) = Some (fs ++ gs)

-- the invariant of the loop over functions: all of them are those read so far, and then what is read of the rest
pub record Read (block : ReadBlock) (ts : List Token) (fs : List Fun) (rest : List Token) : Type 0 where
  pub n : ℕ
  pub room : length rest ≤ n
  pub all : funs_at block (suc (length ts)) ts ≡ before fs (funs_at block (suc n) rest)

before_none : (o : Option (List Fun)) → o ≡ before [] o
before_none None = refl
before_none (Some y) = refl

-- at the start nothing was read
pub read_begins : (block : ReadBlock) (ts : List Token) → Read block ts [] ts
read_begins block ts = record { n = length ts; room = omega arith; all = before_none (funs_at block (suc (length ts)) ts) }

-- by whether tokens remain
at_end : (t : Tokens) (v : Bool) → v ≡ (length t.bytes.now == 0) → v ≡ true → tokens_of t ≡ []
at_end t v e h = rw (sym e ∙ h) refl

before_end : (t : Tokens) (v : Bool) → v ≡ (length t.bytes.now == 0) → v ≡ false → 0 < length (tokens_of t)
before_end t v e h = rw (sym e ∙ h) (omega arith)

-- at the end all functions were read
pub read_ends : (block : ReadBlock) (ts : List Token) (rest : Tokens) (ss : List CFun) (v : Bool) → Read block ts (map fun_tree ss) (tokens_of rest)
    → v ≡ (length rest.bytes.now == 0) → v ≡ true → funs_at block (suc (length ts)) ts ≡ Some (map fun_tree ss)
read_ends block ts rest ss v r e h =
    let f : funs_at block (suc r.n) (tokens_of rest) ≡ Some [] = rw (at_end rest v e h) refl in
    r.all ∙ ap (before (map fun_tree ss)) f ∙ ap (λ (z : List Fun). Some z) (append-nil (map fun_tree ss))

step_some : (block : ReadBlock) (n : ℕ) (ts us : List Token) (f : Fun) → 0 < length ts → fun_at block ts ≡ Some (f, us)
    → funs_at block (suc n) ts ≡ go_on (funs_at block n us) (λ fs. Some (f ∷ fs))
step_some block n [] us f l h = absurd (omega arith)
step_some block n (t ∷ ts) us f l h = rw h refl

step_none : (block : ReadBlock) (n : ℕ) (ts : List Token) → 0 < length ts → fun_at block ts ≡ None → funs_at block (suc n) ts ≡ None
step_none block n [] l h = absurd (omega arith)
step_none block n (t ∷ ts) l h = rw h refl

before_more : (fs : List Fun) (f : Fun) (o : Option (List Fun)) → before fs (go_on o (λ gs. Some (f ∷ gs))) ≡ before (fs ++ f ∷ []) o
before_more fs f None = refl
before_more fs f (Some gs) = ap (λ (z : List Fun). Some z) (sym (append_assoc fs (f ∷ []) gs))

-- where no function is read no file is
pub read_fails : (block : ReadBlock) (ts : List Token) (rest : Tokens) (ss : List CFun) (v : Bool) → Read block ts (map fun_tree ss) (tokens_of rest)
    → v ≡ (length rest.bytes.now == 0) → v ≡ false → fun_at block (tokens_of rest) ≡ None → funs_at block (suc (length ts)) ts ≡ None
read_fails block ts rest ss v p e l h =
    p.all ∙ ap (before (map fun_tree ss)) (step_none block p.n (tokens_of rest) (before_end rest v e l) h)

-- a function leaves less
pub fun_less : (o i k : ℕ) (rest next : List Token) (f : Fun) → 0 < k → o ≡ suc i → fun_at (block_at o i k) rest ≡ Some (f, next)
    → length next < length rest
fun_less o i zero rest next f some q h = absurd (omega arith)
fun_less o i (suc k) rest next f some q h =
    let h2 : fun_at (block_at (suc i) i (suc k)) rest ≡ Some (f, next) =
    subst (λ (z : ℕ). fun_at (block_at z i (suc k)) rest ≡ Some (f, next)) q h in
    fewer (leaves_fun (fun_sound i k rest (f, next) h2).is)

module _ (block : ReadBlock) (ts rest next : List Token) (ss ss' : List CFun) (s : CFun) (x : length next < length rest)
    (h : fun_at block rest ≡ Some (fun_tree s, next)) (m : ss' ≡ ss ++ s ∷ []) where
  goes_on : (n : ℕ) → length rest ≤ n → funs_at block (suc (length ts)) ts ≡ before (map fun_tree ss) (funs_at block (suc n) rest)
      → Read block ts (map fun_tree ss') next
  goes_on zero w a = absurd (omega arith)
  goes_on (suc n) w a =
      let f = step_some block (suc n) rest next (fun_tree s) (omega (arith, x)) h in
      let mm : map fun_tree ss' ≡ map fun_tree ss ++ fun_tree s ∷ [] = ap (map fun_tree) m ∙ map-append fun_tree ss (s ∷ []) in
      record {
        n = n;
        room = omega (arith, x);
        all = a ∙ ap (before (map fun_tree ss)) f ∙ before_more (map fun_tree ss) (fun_tree s) (funs_at block (suc n) next)
            ∙ ap (λ (hs : List Fun). before hs (funs_at block (suc n) next)) (sym mm);
      }

-- one function further
pub read_goes : (o i k : ℕ) (ts rest next : List Token) (ss ss' : List CFun) (s : CFun) → 0 < k → o ≡ suc i
    → Read (block_at o i k) ts (map fun_tree ss) rest → fun_at (block_at o i k) rest ≡ Some (fun_tree s, next) → ss' ≡ ss ++ s ∷ []
    → Read (block_at o i k) ts (map fun_tree ss') next
read_goes o i k ts rest next ss ss' s some q p h m =
    goes_on (block_at o i k) ts rest next ss ss' s (fun_less o i k rest next (fun_tree s) some q h) h m p.n p.room p.all
