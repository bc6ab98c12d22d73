-- Lines that are judged one after the other, and the first that fails.
use Rattle.std.proofs.Common.{◌≡◌, ℕ, ◌+◌, ◌<◌, ◌≤◌, zero, suc, List, [], ◌∷◌, ◌++◌, length, take, drop, ◌⊎◌, inl, inr, refl, sym}
use Rattle.std.proofs.Common.{ap, ◌∙◌, subst, arith}
use Rattle.std.proofs.Common.{append_assoc, append-nil, length-append}
use Rattle.std.proofs.Math.Seq.{drop-append_seam, take-append_seam}
use Rattle.std.proofs.lemmas.Bool.{cases_order}
use Rattle.std.proofs.lemmas.List.{drop_all, take_all}
use Rattle.ln_base.specs.Forms.Judge.{FailsAt, Go, IsFirstFault, Judge}

-- lines that lead to a place and lines that lead on from there lead together to where those do
pub go_append : {P L : Type 0} (J : Judge P L) (p q r : P) (xs ys : List L) → Go J p xs q → Go J q ys r → Go J p (xs ++ ys) r
go_append J p q r [] ys g h = subst (λ z. Go J z ys r) g h
go_append J p q r (x ∷ xs) ys g h = (g.0, g.1, go_append J g.0 q r xs ys g.2 h)

-- the lines so far lead to a place of which this is so, and the others follow, the first of which has this number
pub record Reached {P L : Type 0} (J : Judge P L) (start : P) (Is : P → Type 0) (lines rest : List L) (n : ℕ) : Type 0 where
  pub done : List L
  pub here : P
  pub same : lines ≡ done ++ rest
  pub number : n ≡ length done + 2
  pub come : Go J start done here
  pub is : Is here

module _ {P L : Type 0} (J : Judge P L) (start : P) (Is : P → Type 0) (lines : List L) where
  -- before the first line, which is line 2 of the text
  pub reached_first : (n : ℕ) → n ≡ 2 → Is start → Reached J start Is lines lines n
  reached_first n e h = record { done = []; here = start; same = refl; number = e; come = refl; is = h }

  module _ (before : List L) (n : ℕ) (r : Reached J start Is lines before n) where
    -- the next line leads on
    pub reached_more : (Js : P → Type 0) (l : L) (rest : List L) (m : ℕ) → before ≡ l ∷ rest → m ≡ n + 1
        → ((p : P) → Is p → (q : P) × J.Rule p l q × Js q) → Reached J start Js lines rest m
    reached_more Js l rest m b e h =
        let k = h r.here r.is in
        record {
          done = r.done ++ l ∷ [];
          here = k.0;
          same = r.same ∙ ap (λ x. r.done ++ x) b ∙ sym (append_assoc r.done (l ∷ []) rest);
          number = omega (arith, e, r.number, length-append r.done (l ∷ []));
          come = go_append J start r.here k.0 r.done (l ∷ []) r.come (k.0, k.1, refl);
          is = k.2;
        }

    -- it leads nowhere, or there is none where there has to be: it is the first that fails
    pub reached_stops : (rest : List L) (m : ℕ) → before ≡ rest → m ≡ n → ((p : P) → Is p → FailsAt J p rest) → IsFirstFault J start lines m
    reached_stops rest m b e f =
        let s : lines ≡ r.done ++ rest = r.same ∙ ap (λ x. r.done ++ x) b in
        record {
          at = length r.done;
          line = e ∙ r.number;
          within = omega (arith, ap length s, length-append r.done rest);
          here = r.here;
          good = subst (λ x. Go J start x r.here) (sym (ap (take (length r.done)) s ∙ take-append_seam r.done rest)) r.come;
          fails = subst (FailsAt J r.here) (sym (ap (drop (length r.done)) s ∙ drop-append_seam r.done rest)) (f r.here r.is);
        }

    -- after the last, all lines lead to the place
    pub reached_all : before ≡ [] → (p : P) × Go J start lines p × Is p
    reached_all b =
        (r.here, subst (λ x. Go J start x r.here) (sym (r.same ∙ ap (λ x. r.done ++ x) b ∙ append-nil r.done)) r.come, r.is)

-- ---- lines that are taken one by one
-- what holds lines (each of which says one that is judged) up to those that are left
pub record Midway {P L E : Type 0} (J : Judge P L) (start : P) (F : List E → List L) (Is : P → Type 0) (Left : List E → Type 0)
    (lines : List E) (n : ℕ) : Type 0 where
  pub rest : List E
  pub left : Left rest
  pub reached : Reached J start Is (F lines) (F rest) n

module _ {P L E : Type 0} (J : Judge P L) (start : P) (F : List E → List L) (f : E → L) (one_more : (x : E) (xs : List E) → F (x ∷ xs) ≡ f x ∷ F xs)
    (Is : P → Type 0) (Left : List E → Type 0) (lines : List E) (n : ℕ) (h : Midway J start F Is Left lines n) where
  -- a line that is taken leads on
  pub midway_more : (More : List E → Type 0) (Js : P → Type 0) (x : E) (m : ℕ)
      → ((xs : List E) → Left xs → (behind : List E) × (xs ≡ x ∷ behind) × More behind) → m ≡ n + 1
      → ((p : P) → Is p → (q : P) × J.Rule p (f x) q × Js q) → Midway J start F Js More lines m
  midway_more More Js x m t e g =
      let k = t h.rest h.left in
      record {
        rest = k.0;
        left = k.2;
        reached = reached_more J start Is (F lines) (F h.rest) n h.reached Js (f x) (F k.0) m (ap F k.1 ∙ one_more x k.0) e g;
      }

  -- a line that is taken leads nowhere
  pub midway_stops : (More : List E → Type 0) (x : E) (m : ℕ) → ((xs : List E) → Left xs → (behind : List E) × (xs ≡ x ∷ behind) × More behind)
      → m ≡ n → ((p : P) → Is p → (q : P) → J.Rule p (f x) q → ⊥) → IsFirstFault J start (F lines) m
  midway_stops More x m t e g =
      let k = t h.rest h.left in
      reached_stops J start Is (F lines) (F h.rest) n h.reached (f x ∷ F k.0) m (ap F k.1 ∙ one_more x k.0) e g

-- ---- where a line leads to one place at most
module _ {P L : Type 0} (J : Judge P L) (one : (p q r : P) (l : L) → J.Rule p l q → J.Rule p l r → q ≡ r) where
  go_one : (p a b : P) (ls : List L) → Go J p ls a → Go J p ls b → a ≡ b
  go_one p a b [] g h = g ∙ sym h
  go_one p a b (l ∷ ls) g h = go_one g.0 a b ls g.2 (subst (λ x. Go J x ls b) (sym (one p g.0 h.0 l g.1 h.1)) h.2)

  none_past : (p here there : P) (ls : List L) (i j : ℕ) → i < j → j ≤ length ls → Go J p (take i ls) here → FailsAt J here (drop i ls)
      → Go J p (take j ls) there → ⊥
  none_past p here there (x ∷ ls) zero (suc j) h k g f d = f d.0 (subst (λ q. J.Rule q x d.0) (sym g) d.1)
  none_past p here there (x ∷ ls) (suc i) (suc j) h k g f d =
      none_past g.0 here there ls i j (omega (arith, h)) (omega (arith, k)) g.2 f
      (subst (λ q. Go J q (take j ls) there) (sym (one p g.0 d.0 x g.1 d.1)) d.2)
  none_past p here there ls i j h k g f d = absurd (omega (arith, h, k))

  module _ (start : P) (lines : List L) where
    -- only one line is the first that fails
    pub one_fault : (m n : ℕ) → IsFirstFault J start lines m → IsFirstFault J start lines n → m ≡ n
    one_fault m n f g = by_case (cases_order f.at g.at)
      where
        by_case : (f.at ≡ g.at) ⊎ ((f.at < g.at) ⊎ (g.at < f.at)) → m ≡ n
        by_case (inl e) = omega (arith, e, f.line, g.line)
        by_case (inr (inl l)) = absurd (none_past start f.here g.here lines f.at g.at l g.within f.good f.fails g.good)
        by_case (inr (inr l)) = absurd (none_past start g.here f.here lines g.at f.at l f.within g.good g.fails f.good)

    -- and none is where all lead to a place at which they may end
    pub not_both : (n : ℕ) (q : P) → Go J start lines q → (J.Lacks q → ⊥) → IsFirstFault J start lines n → ⊥
    not_both n q a z f = by_case (cases_order f.at (length lines))
      where
        by_case : (f.at ≡ length lines) ⊎ ((f.at < length lines) ⊎ (length lines < f.at)) → ⊥
        by_case (inl e) =
            let g : Go J start lines f.here = subst (λ ls. Go J start ls f.here) (take_all f.at lines (omega (arith, e))) f.good in
            let d : J.Lacks f.here = subst (FailsAt J f.here) (drop_all f.at lines (omega (arith, e))) f.fails in
            z (subst J.Lacks (go_one start f.here q lines g a) d)
        by_case (inr (inl l)) = none_past start f.here q lines f.at (length lines) l (omega arith) f.good f.fails
            (subst (λ ls. Go J start ls q) (sym (take_all (length lines) lines (omega arith))) a)
        by_case (inr (inr l)) = absurd (omega (arith, l, f.within))
