-- The first line at which a text stops being of a form: there is one at most, and none in a text of the form.
use Rattle.std.proofs.Common.{◌≡◌, ℕ, ◌≤◌, ◌<◌, suc, List, [], ◌∷◌, ◌++◌, length, take, drop, ◌⊎◌, inl, inr, refl, sym, ap, ◌∙◌, subst, arith, append_assoc}
use Rattle.ln_base.specs.Lines.{lines}
use Rattle.ln_base.proofs.Texts.Lines.{nat_split, shorter, take_drop, three}
use Rattle.ln_base.specs.Forms.Fault.{IsFaultOf}
use Rattle.ln_base.specs.Prefixes.{IsPrefixOf}

module _ (P : List (List ℕ) → Type 0) where
  fewer : (m n : ℕ) (ts : List (List ℕ)) → m ≤ n → IsPrefixOf P (take n ts) → IsPrefixOf P (take m ts)
  fewer m n ts h f = (
    drop m (take n ts) ++ f.0,
    subst (λ (z : List (List ℕ)). P z) (ap (λ z. z ++ f.0) (shorter m n ts h) ∙ append_assoc (take m ts) (drop m (take n ts)) f.0) f.1,
  )

  -- the first isn't before the second
  no_earlier : (bytes : List ℕ) (m n : ℕ) → IsFaultOf P bytes m → IsFaultOf P bytes n → m < n → ⊥
  no_earlier bytes m n f g h =
      f.refused (omega (arith, f.number, g.number, g.within)) (fewer m g.before (lines bytes) (omega (arith, g.number)) g.front)

  -- two faults of the same bytes are at one line
  pub one_fault : (bytes : List ℕ) (m n : ℕ) → IsFaultOf P bytes m → IsFaultOf P bytes n → m ≡ n
  one_fault bytes m n f g = by (three m n)
    where
      by : (m < n) ⊎ ((n < m) ⊎ (m ≡ n)) → m ≡ n
      by (inl h) = absurd (no_earlier bytes m n f g h)
      by (inr (inl h)) = absurd (no_earlier bytes n m g f h)
      by (inr (inr e)) = e

  -- what has a fault is no text of the form
  pub no_whole : (bytes : List ℕ) (at : ℕ) → IsFaultOf P bytes at → P (lines bytes) → ⊥
  no_whole bytes at f w = by (nat_split f.before (length (lines bytes)) f.within)
    where
      by : (f.before < length (lines bytes)) ⊎ (f.before ≡ length (lines bytes)) → ⊥
      by (inl h) = f.refused h (drop at (lines bytes), subst (λ (x : List (List ℕ)). P x) (sym (take_drop at (lines bytes))) w)
      by (inr h) = f.unfinished h w

  -- where no text of the form begins with the first line, or there is none, the fault is at line 1
  pub fault_first : (bytes : List ℕ) → IsPrefixOf P [] → (P [] → ⊥)
      → ((t : List ℕ) (ts more : List (List ℕ)) → lines bytes ≡ t ∷ ts → P (t ∷ more) → ⊥) → IsFaultOf P bytes 1
  fault_first bytes all none f = by (lines bytes) refl
    where
      by : (ls : List (List ℕ)) → lines bytes ≡ ls → IsFaultOf P bytes 1
      by [] e =
          let l : length (lines bytes) ≡ 0 = ap length e in
          record {
            before = 0;
            number = refl;
            within = omega arith;
            front = all;
            refused = λ h. absurd (omega arith);
            unfinished = λ _ w. none (subst (λ (x : List (List ℕ)). P x) e w);
          }
      by (t ∷ ts) e =
          let l : length (lines bytes) ≡ suc (length ts) = ap length e in
          record {
            before = 0;
            number = refl;
            within = omega arith;
            front = all;
            refused = λ _ g. f t ts g.0 e (subst (λ (x : List (List ℕ)). P (take 1 x ++ g.0)) e g.1);
            unfinished = λ h. absurd (omega arith);
          }

-- of two forms whose texts with this first line are the same, the faults after it are the same
pub fault_of : (P Q : List (List ℕ) → Type 0) (bytes first : List ℕ) (ts : List (List ℕ)) (at : ℕ) → lines bytes ≡ first ∷ ts
    → ((xs : List (List ℕ)) → P xs → Q xs) → ((xs : List (List ℕ)) → Q (first ∷ xs) → P (first ∷ xs)) → IsFaultOf P bytes at → IsFaultOf Q bytes at
fault_of P Q bytes first ts at e to from f =
    let n : at ≡ suc f.before = omega (arith, f.number) in
    let r : take at (lines bytes) ≡ first ∷ take f.before ts = ap (λ x. take at x) e ∙ ap (λ k. take k (first ∷ ts)) n in
    record {
      before = f.before;
      number = f.number;
      within = f.within;
      front = (f.front.0, to _ f.front.1);
      refused = λ h g. f.refused h (
        g.0,
        subst (λ (x : List (List ℕ)). P (x ++ g.0)) (sym r)
            (from (take f.before ts ++ g.0) (subst (λ (x : List (List ℕ)). Q (x ++ g.0)) r g.1)),
      );
      unfinished = λ h w. f.unfinished h
          (subst (λ (x : List (List ℕ)). P x) (sym e) (from ts (subst (λ (x : List (List ℕ)). Q x) e w)));
    }
