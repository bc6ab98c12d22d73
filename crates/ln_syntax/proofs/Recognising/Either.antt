-- Tokens have a fault of nesting or none, and of syntax.
use Rattle.std.proofs.Common.{◌≡◌, ℕ, zero, suc, ◌+◌, ◌<◌, ◌≤◌, ◌⊎◌, inl, inr, Bool, true, false, List, [], ◌∷◌, length, take}
use Rattle.std.proofs.Common.{Option, Some, None, refl, arith, subst}
use Rattle.std.proofs.lemmas.Bool.{cases_lt}
use Rattle.ln_syntax.specs.Raw.{Token, Is, Kind, ParL, ParR}
use Rattle.ln_syntax.specs.declared.place.State.{State}
use Rattle.ln_syntax.specs.declared.place.State.TheVariants.{AnItem}
use Rattle.ln_syntax.specs.Automaton.{next_of, is_end, start, goes}
use Rattle.ln_syntax.specs.Place.{depth_behind, depth_after, IsShallow, IsNestingFault, IsText, IsSyntaxFault}
use Rattle.ln_syntax.proofs.Recognising.Depth.{ShallowTo, depth_more, shallow_more, shallow_all}
use Rattle.ln_syntax.proofs.Recognising.Fault.{walked_more, fault_at, fault_end, is_text}

-- before the end there is a token
kind_there : (ts : List Token) (i : ℕ) → i < length ts → (k : Kind) × Is ts i k
kind_there [] i h = absurd (omega arith)
kind_there (t ∷ ts) zero h = (t.kind, refl)
kind_there (t ∷ ts) (suc i) h = kind_there ts i (omega arith)

is_par : (k : Kind) → (k ≡ ParL) ⊎ (k ≡ ParL → ⊥)
is_par ParL = inl refl
is_par k = inr (λ e. cc)

behind_small : (d : ℕ) (k : Kind) → d ≤ 64 → (k ≡ ParL → d < 64) → depth_behind d k ≤ 64
behind_small d ParL h n = let p = n refl in omega arith
behind_small d ParR h n = omega arith
behind_small d k h n = h

-- up to place i parentheses are nested at most 64 deep
record To (ts : List Token) (i : ℕ) : Type 0 where
  pub shallow : ShallowTo ts i
  pub small : depth_after 0 (take i ts) ≤ 64

to_more : (ts : List Token) (i : ℕ) (k : Kind) → To ts i → Is ts i k → (k ≡ ParL → depth_after 0 (take i ts) < 64) → To ts (i + 1)
to_more ts i k t is n =
    let d = depth_after 0 (take i ts) in
    let e = depth_more ts i k d (depth_behind d k) refl is refl in
    let s = behind_small d k t.small n in
    record { shallow = shallow_more ts i k d t.shallow refl is n; small = omega (arith, e, s) }

opened : (ts : List Token) (i : ℕ) → To ts i → Is ts i ParL → 64 ≤ depth_after 0 (take i ts) → IsNestingFault ts i
opened ts i t is h = let s = t.small in record { opens = is; deep = omega arith; first = t.shallow }

depth_at : (n : ℕ) (ts : List Token) (i : ℕ) (k : Kind) → To ts i → Is ts i k
    → (To ts (i + 1) → ((k : ℕ) × IsNestingFault ts k) ⊎ IsShallow ts) → ((k : ℕ) × IsNestingFault ts k) ⊎ IsShallow ts
depth_at n ts i k t is on = elim (is_par k) [
  | inl e ↦ elim (cases_lt (depth_after 0 (take i ts)) 64) [
    | inl l ↦ on (to_more ts i k t is (λ q. l))
    | inr h ↦ inl (i, opened ts i t (subst (λ (w : Kind). Is ts i w) e is) h)
  ]
  | inr n ↦ on (to_more ts i k t is (λ q. absurd (n q)))
]

depth_from : (n : ℕ) (ts : List Token) (i : ℕ) → i + n ≡ length ts → To ts i → ((k : ℕ) × IsNestingFault ts k) ⊎ IsShallow ts
depth_from zero ts i e t =
    let q : i ≡ length ts = omega arith in
    inr (shallow_all ts (subst (λ (w : ℕ). ShallowTo ts w) q t.shallow))
depth_from (suc n) ts i e t =
    let k = kind_there ts i (omega arith) in
    depth_at n ts i k.0 t k.1 (λ u. depth_from n ts (i + 1) (omega arith) u)

-- a parenthesis is the first that is nested too deep, or none is
pub either_depth : (ts : List Token) → ((i : ℕ) × IsNestingFault ts i) ⊎ IsShallow ts
either_depth ts = depth_from (length ts) ts 0 (omega arith) (record { shallow = λ j h p. absurd (omega arith); small = omega arith })

place_end : (ts : List Token) (s : State) (d : ℕ) (v : Bool) → is_end s ≡ v → goes start (take (length ts) ts) ≡ Some (s, d)
    → ((k : ℕ) × IsSyntaxFault ts k) ⊎ IsText ts
place_end ts s d true e w = inr (is_text ts s d w e)
place_end ts s d false e w = inl (length ts, fault_end ts s d w e)

place_at : (ts : List Token) (i : ℕ) (k : Kind) (s : State) (d : ℕ) → i < length ts → Is ts i k → goes start (take i ts) ≡ Some (s, d)
    → (o : Option (State × ℕ)) → next_of s d k ≡ o
    → ((u : State) (v : ℕ) → goes start (take (i + 1) ts) ≡ Some (u, v) → ((k : ℕ) × IsSyntaxFault ts k) ⊎ IsText ts)
    → ((k : ℕ) × IsSyntaxFault ts k) ⊎ IsText ts
place_at ts i k s d h is w None e on = inl (i, fault_at ts i k s d h w is e)
place_at ts i k s d h is w (Some (u, v)) e on = on u v (walked_more ts i k s u d v w is e)

place_from : (n : ℕ) (ts : List Token) (i : ℕ) → i + n ≡ length ts → (s : State) (d : ℕ) → goes start (take i ts) ≡ Some (s, d)
    → ((k : ℕ) × IsSyntaxFault ts k) ⊎ IsText ts
place_from zero ts i e s d w =
    let q : i ≡ length ts = omega arith in
    place_end ts s d (is_end s) refl (subst (λ (m : ℕ). goes start (take m ts) ≡ Some (s, d)) q w)
place_from (suc n) ts i e s d w =
    let k = kind_there ts i (omega arith) in
    place_at ts i k.0 s d (omega arith) k.1 w (next_of s d k.0) refl (λ u v x. place_from n ts (i + 1) (omega arith) u v x)

-- the tokens are a file, or have a place at which they stop being a prefix of one
pub either_place : (ts : List Token) → ((i : ℕ) × IsSyntaxFault ts i) ⊎ IsText ts
either_place ts = place_from (length ts) ts 0 (omega arith) AnItem 0 refl
