-- Functions are found by the names of all, of which no two are the same.
use Rattle.std.proofs.Common.{◌≡◌, ℕ, zero, suc, ◌+◌, ◌<◌, ◌≤◌, not, Bool, true, false, List, [], ◌∷◌, ◌++◌, Some, None, length, take, map, refl, sym, ap}
use Rattle.std.proofs.Common.{◌∙◌, subst, arith, length-take}
use Rattle.std.specs.Prelude.{ℤ, slice_get, bytes_eq}
use Rattle.std.specs.Borrow.{Bor}
use Rattle.std.specs.List.{list_any, position, position_from}
use Rattle.std.proofs.lemmas.Bool.{and_parts, or_parts, or_left, or_right, true≢false, false_from_ne_true}
use Rattle.std.proofs.lemmas.Iterator.Adapters.{position_from-zero}
use Rattle.std.proofs.lemmas.List.{append_assoc, append-nil, take-take}
use Rattle.std.proofs.lemmas.Option.{slice_get_within}
use Rattle.std.proofs.lemmas.Slice.Eq.{bytes_eq-Decides}
use mathlib.Core.Bool.{beq}
use Rattle.ln_csyn.specs.declared.tree.CFun.{CFun}
use Rattle.ln_csyn.specs.Words.{among}
use Rattle.ln_csyn.specs.Tree.{Fun}
use Rattle.ln_csyn.specs.View.{fun_tree, body_tree}
use Rattle.ln_csyn.specs.Keeps.{distinct, names_of}
use Rattle.ln_csyn.specs.Meaning.{Counts, Fails, answer_of, runs, called, called_at, called_behind, runs_behind, same_bool, same_name}
use Rattle.ln_cmean.specs.Places.{IsFirst, test}
use Rattle.ln_cmean.specs.Room.{slots_in, most_slots}
use Rattle.ln_cmean.proofs.Named.{name_is, name_self}

-- ---- what a call finds

-- where no function has the name, a call has none
pub called_none : (fs : List CFun) (values : List ℤ) (x : List ℕ) (k : Counts) → list_any (test false x) (map fun_tree fs) ≡ false →
    called (map fun_tree fs) values x k ≡ Fails None
called_none [] values x k h = refl
called_none (f ∷ fs) values x k h =
    let p = or_parts (test false x (fun_tree f)) (list_any (test false x) (map fun_tree fs)) h in rw p.0 (called_none fs values x k p.1)

-- what is first in a list and not its head is first in the rest
first_in : (t : Fun → Bool) (e : CFun) (fs : List CFun) (i : ℕ) → IsFirst t (e ∷ fs) (suc i) → (t (fun_tree e) ≡ false) × IsFirst t fs i
first_in t e fs i h =
    let p = or_parts (t (fun_tree e)) (list_any t (map fun_tree (take i fs))) h.first in (p.0, record { passes = h.passes; first = p.1 })

-- a call is of the first function that has the name
pub called_first : (fs : List CFun) (i : ℕ) (f : CFun) (values : List ℤ) (x : List ℕ) (k : Counts) → slice_get fs i ≡ Some f → IsFirst (test false x) fs i →
    called (map fun_tree fs) values x k
    ≡ answer_of f.end (runs (record { values = values; index = None; call = λ g j. Fails None }) [] (body_tree f.body.items) k)
called_first [] i f values x k g h = cc
called_first (e ∷ fs) zero f values x k g h = let q : e ≡ f = cc in rw (q, h.passes f g) refl
called_first (e ∷ fs) (suc i) f values x k g h = let p = first_in (test false x) e fs i h in rw p.0 (called_first fs i f values x k g p.1)

behind_from : (before : List Fun) (fs : List CFun) (i : ℕ) (f : CFun) (x : List ℕ) (index values : List ℤ) → slice_get fs i ≡ Some f →
    IsFirst (test true x) fs i →
    called_behind before (map fun_tree fs) x index values
    ≡ Some (called_at f.end (runs_behind (before ++ map fun_tree (take i fs)) (body_tree f.body.items) index values))
behind_from before [] i f x index values g h = cc
behind_from before (e ∷ fs) zero f x index values g h = let q : e ≡ f = cc in rw (q, h.passes f g, append-nil before) refl
behind_from before (e ∷ fs) (suc i) f x index values g h =
    let p = first_in (test true x) e fs i h in
    rw p.0 (behind_from (before ++ fun_tree e ∷ []) fs i f x index values g p.1
    ∙ ap (λ b. Some (called_at f.end (runs_behind b (body_tree f.body.items) index values))) (append_assoc before (fun_tree e ∷ []) (map fun_tree (take i fs))))

-- the functions after the first that has the name don't matter to a call
pub behind_first : (fs : List CFun) (i : ℕ) (f : CFun) (x : List ℕ) (index values : List ℤ) → slice_get fs i ≡ Some f → IsFirst (test true x) fs i →
    called_behind [] (map fun_tree fs) x index values ≡ Some (called_at f.end (runs_behind (map fun_tree (take i fs)) (body_tree f.body.items) index values))
behind_first fs i f x index values g h = behind_from [] fs i f x index values g h

-- ---- what it needs

-- a function needs at most what the file needs
pub need_at : (fs : List CFun) (i : ℕ) (f : CFun) → slice_get fs i ≡ Some f → slots_in (body_tree f.body.items) ≤ most_slots (map fun_tree fs)
need_at [] i f g = cc
need_at (e ∷ fs) zero f g = let q : e ≡ f = cc in rw q (omega arith)
need_at (e ∷ fs) (suc i) f g = omega (arith, need_at fs i f g)

-- the functions before a place need at most what the file needs
pub need_before : (n : ℕ) (fs : List CFun) → most_slots (map fun_tree (take n fs)) ≤ most_slots (map fun_tree fs)
need_before zero fs = omega arith
need_before (suc n) [] = omega arith
need_before (suc n) (f ∷ fs) = omega (arith, need_before n fs)

-- ---- where a function is

names_take : (n : ℕ) (fs : List CFun) → names_of (map fun_tree (take n fs)) ≡ take n (names_of (map fun_tree fs))
names_take zero fs = refl
names_take (suc n) [] = refl
names_take (suc n) (f ∷ fs) = ap (λ t. f.name ∷ t) (names_take n fs)

-- the functions before one are known by the same names
pub named_before : (fs : List CFun) (names : List (List ℕ)) (n m : ℕ) → n < length fs → m ≡ n → take (length fs) names ≡ names_of (map fun_tree fs) →
    take m names ≡ names_of (map fun_tree (take n fs))
named_before fs names n m l e h =
    ap (λ k. take k names) e ∙ sym (take-take n (length fs) names (omega arith)) ∙ ap (λ ns. take n ns) h ∙ sym (names_take n fs)

get_take : {X : Type 0} (n j : ℕ) (xs : List X) → j < n → slice_get (take n xs) j ≡ slice_get xs j
get_take zero j xs l = absurd (omega (arith, l))
get_take (suc n) j [] l = refl
get_take (suc n) zero (x ∷ xs) l = refl
get_take (suc n) (suc j) (x ∷ xs) l = get_take n j xs (omega (arith, l))

name_at : (fs : List CFun) (i : ℕ) (f : CFun) → slice_get fs i ≡ Some f → slice_get (names_of (map fun_tree fs)) i ≡ Some f.name
name_at [] i f g = cc
name_at (e ∷ fs) zero f g = let q : e ≡ f = cc in rw q refl
name_at (e ∷ fs) (suc i) f g = name_at fs i f g

among_at : (xs : List (List ℕ)) (i : ℕ) (x : List ℕ) → slice_get xs i ≡ Some x → among xs x ≡ true
among_at [] i x g = cc
among_at (y ∷ xs) zero x g = let q : y ≡ x = cc in or_left (bytes_eq x y) (among xs x) ((bytes_eq-Decides x y).1 (sym q))
among_at (y ∷ xs) (suc i) x g = or_right (bytes_eq x y) (among xs x) (among_at xs i x g)

-- a name is there once
once : (xs : List (List ℕ)) (i j : ℕ) (x : List ℕ) → distinct xs ≡ true → slice_get xs i ≡ Some x → slice_get xs j ≡ Some x → i ≡ j
once [] i j x d g h = cc
once (y ∷ xs) zero zero x d g h = refl
once (y ∷ xs) zero (suc j) x d g h =
    let p = and_parts (not (among xs y)) (distinct xs) d in
    let q : y ≡ x = cc in
    absurd (true≢false (sym p.0 ∙ ap (λ b. not b) (among_at xs j y (h ∙ ap (λ z. Some z) (sym q)))))
once (y ∷ xs) (suc i) zero x d g h =
    let p = and_parts (not (among xs y)) (distinct xs) d in
    let q : y ≡ x = cc in
    absurd (true≢false (sym p.0 ∙ ap (λ b. not b) (among_at xs i y (g ∙ ap (λ z. Some z) (sym q)))))
once (y ∷ xs) (suc i) (suc j) x d g h =
    let p = and_parts (not (among xs y)) (distinct xs) d in
    ap (λ n. suc n) (once xs i j x p.1 g h)

-- where each function of the name has other parameters, none is wanted
none_wanted : (indexed : Bool) (x : List ℕ) (fs : List CFun) →
    ((i : ℕ) (f : CFun) → slice_get fs i ≡ Some f → f.name ≡ x → same_bool f.indexed indexed ≡ false) → list_any (test indexed x) (map fun_tree fs) ≡ false
none_wanted indexed x [] h = refl
none_wanted indexed x (f ∷ fs) h =
    let t : test indexed x (fun_tree f) ≡ false = false_from_ne_true (test indexed x (fun_tree f))
    (λ t. let p = and_parts (same_bool f.indexed indexed) (same_name f.name x) t in true≢false (sym p.0 ∙ h 0 f refl (name_is f.name x p.1))) in
    rw t (none_wanted indexed x fs (λ i g. h (suc i) g))

-- ---- by the names of all

same_beq : (a b : Bool) → same_bool a b ≡ beq a b
same_beq true true = refl
same_beq true false = refl
same_beq false true = refl
same_beq false false = refl

-- the index of a name is its place
index_from : (x : List ℕ) (ks : List (Bor (List ℕ))) (n i : ℕ) → position_from (λ (k : Bor (List ℕ)). bytes_eq x k.now) n ks ≡ Some i →
    (j : ℕ) × (i ≡ n + j) × (slice_get (map (λ (k : Bor (List ℕ)). k.now) ks) j ≡ Some x)
index_from x [] n i h = cc
index_from x (k ∷ ks) n i h = by_case (bytes_eq x k.now) refl (index_from x ks (n + 1) i) where
  by_case : (v : Bool) → bytes_eq x k.now ≡ v →
      (position_from (λ (k : Bor (List ℕ)). bytes_eq x k.now) (n + 1) ks ≡ Some i →
      (j : ℕ) × (i ≡ n + 1 + j) × (slice_get (map (λ (k : Bor (List ℕ)). k.now) ks) j ≡ Some x)) →
      (j : ℕ) × (i ≡ n + j) × (slice_get (map (λ (k : Bor (List ℕ)). k.now) (k ∷ ks)) j ≡ Some x)
  by_case true e go =
      let q : Some n ≡ Some i = rw e at h in
      let r : n ≡ i = cc in (0, omega (arith, r), ap (λ y. Some y) (sym ((bytes_eq-Decides x k.now).0 e)))
  by_case false e go = let r = go (rw e at h) in (suc r.0, omega (arith, r.1), r.2)

-- the place at which a set has a name is a place of the name
pub index_is : (x : List ℕ) (ks : List (Bor (List ℕ))) (i : ℕ) → position (λ (k : Bor (List ℕ)). bytes_eq x k.now) ks ≡ Some i →
    slice_get (map (λ (k : Bor (List ℕ)). k.now) ks) i ≡ Some x
index_is x ks i h =
    let r = index_from x ks 0 i (sym (position_from-zero (λ (k : Bor (List ℕ)). bytes_eq x k.now) ks) ∙ h) in
    let e : r.0 ≡ i = omega (arith, r.1) in
    subst (λ j. slice_get (map (λ (k : Bor (List ℕ)). k.now) ks) j ≡ Some x) e r.2

name_known : (fs : List CFun) (names : List (List ℕ)) (i : ℕ) (f : CFun) → take (length fs) names ≡ names_of (map fun_tree fs) →
    slice_get fs i ≡ Some f → slice_get names i ≡ Some f.name
name_known fs names i f n g =
    sym (get_take (length fs) i names (slice_get_within fs i f g)) ∙ ap (λ ns. slice_get ns i) n ∙ name_at fs i f g

-- where the set of names lacks a name, no function has it
pub unknown : (indexed : Bool) (x : List ℕ) (fs : List CFun) (names : List (List ℕ)) → take (length fs) names ≡ names_of (map fun_tree fs) →
    among names x ≡ false → list_any (test indexed x) (map fun_tree fs) ≡ false
unknown indexed x fs names n a =
    none_wanted indexed x fs
    (λ i f g e. absurd (true≢false (sym (among_at names i x (name_known fs names i f n g ∙ ap (λ y. Some y) e)) ∙ a)))

-- where the function of the name has other parameters, none is wanted
pub none_there : (indexed : Bool) (x : List ℕ) (fs : List CFun) (names : List (List ℕ)) (i : ℕ) → take (length fs) names ≡ names_of (map fun_tree fs) →
    distinct names ≡ true → slice_get names i ≡ Some x → ((f : CFun) → slice_get fs i ≡ Some f → beq f.indexed indexed ≡ false) →
    list_any (test indexed x) (map fun_tree fs) ≡ false
none_there indexed x fs names i n d h w =
    none_wanted indexed x fs
    (λ j f g e. let q : j ≡ i = once names j i x d (name_known fs names j f n g ∙ ap (λ y. Some y) e) h in
    same_beq f.indexed indexed ∙ w f (ap (λ k. slice_get fs k) (sym q) ∙ g))

-- where the function of the name has these parameters, it is the first wanted one
pub first_there : (indexed : Bool) (x : List ℕ) (fs : List CFun) (names : List (List ℕ)) (i : ℕ) (f : CFun) →
    take (length fs) names ≡ names_of (map fun_tree fs) → distinct names ≡ true → slice_get names i ≡ Some x → slice_get fs i ≡ Some f →
    beq f.indexed indexed ≡ true → IsFirst (test indexed x) fs i
first_there indexed x fs names i f n d h g w = record {
  passes = λ e p.
      let q : f ≡ e = cc in
      let r : slice_get names i ≡ Some e.name = name_known fs names i e n p in
      let y : e.name ≡ x = cc in
      rw (← q) (rw (same_beq f.indexed indexed ∙ w, ap (λ o. o.name) q ∙ y, name_self x) refl);
  first = none_wanted indexed x (take i fs)
      (λ j e p y.
      let l : j < i = omega (arith, slice_get_within (take i fs) j e p, length-take i fs) in
      let q : j ≡ i = once names j i x d (name_known fs names j e n (sym (get_take i j fs l) ∙ p) ∙ ap (λ o. Some o) y) h in
      absurd (omega (arith, l, q)));
}
