-- First sight through segments, and the count.
use Rattle.std.proofs.Common.{◌≡◌, ℕ, ◌≤◌, zero, suc, ◌+◌, ◌-◌, ◌*◌, inl, inr, List, [], ◌∷◌, ◌++◌, append_assoc, length}
use Rattle.std.proofs.Common.{length-append, map, refl, sym, ◌∙◌, ap, subst, arith}
use Rattle.std.proofs.lemmas.List.{append-nil, length-map, map-append}
use Rattle.std.proofs.Math.Nat.{add-mul}
use Rattle.ln_algebra.specs.Vector.{In}
use Rattle.ln_algebra.proofs.Walking.Walk.{In-append_left, In-append_right}
use Rattle.ln_tree.specs.declared.shape.VarInfo.{VarInfo}
use Rattle.ln_order.specs.Orders.{behind, firsts, orders_of, past}
use Rattle.ln_poly.specs.Sparse.{Sparse}
use Rattle.ln_stage.specs.Kept.{all_rows, list_of}
use Rattle.ln_stage.specs.Lists.{all_seen_behind, put_last, seen_behind, stage_count}
use Rattle.ln_order.specs.Prefixes.{joined, prefixes_of}
use Rattle.ln_stage.specs.SiteWalk.{front_walk, site_walk, site_walks}
use Rattle.ln_stage.specs.FirstSight.{FirstSightByPrefixes, SegmentsAreFewer, last_walk, list_along, prefix_walk, shared_count}
use Rattle.ln_stage.proofs.Sights.SightLemmas.{put-cases}
use Rattle.ln_stage.proofs.Walks.SiteWalkLemmas.{lists-are-walked-by-prefixes}

-- ---- what was seen
abbrev AllIn : List (List ℕ) → List (List ℕ) → Type 0
AllIn bs xs = (a : List ℕ) → In xs a → In bs a

put-known : (bs : List (List ℕ)) (a : List ℕ) → In bs a → put_last bs a ≡ bs
put-known bs a i = elim (put-cases bs a) [ inl k ↦ k.1 | inr k ↦ absurd (k.0 i) ]

in-put : (bs : List (List ℕ)) (b a : List ℕ) → In bs a → In (put_last bs b) a
in-put bs b a i = elim (put-cases bs b) [ inl k ↦ rw k.1 i | inr k ↦ rw k.1 (In-append_left bs (b ∷ []) a i) ]

new-put : (bs : List (List ℕ)) (a : List ℕ) → In (put_last bs a) a
new-put bs a = elim (put-cases bs a) [ inl k ↦ rw k.1 k.0 | inr k ↦ rw k.1 (In-append_right bs (a ∷ []) a (inl refl)) ]

in-behind : (bs ys : List (List ℕ)) (a : List ℕ) → In bs a → In (seen_behind bs ys) a
in-behind bs [] a i = i
in-behind bs (y ∷ ys) a i = in-behind (put_last bs y) ys a (in-put bs y a i)

in-lists : (bs : List (List ℕ)) (ls : List (List (List ℕ))) (a : List ℕ) → In bs a → In (all_seen_behind bs ls) a
in-lists bs [] a i = i
in-lists bs (l ∷ ls) a i = in-lists (seen_behind bs l) ls a (in-behind bs l a i)

all-seen : (bs xs : List (List ℕ)) → AllIn (seen_behind bs xs) xs
all-seen bs [] a i = absurd i
all-seen bs (x ∷ xs) a (inl e) = in-behind (put_last bs x) xs a (rw e (new-put bs x))
all-seen bs (x ∷ xs) a (inr i) = all-seen (put_last bs x) xs a i

behind-known : (bs xs : List (List ℕ)) → AllIn bs xs → seen_behind bs xs ≡ bs
behind-known bs [] h = refl
behind-known bs (x ∷ xs) h = ap (λ z. seen_behind z xs) (put-known bs x (h x (inl refl))) ∙ behind-known bs xs (λ a i. h a (inr i))

behind-join : (bs xs ys : List (List ℕ)) → seen_behind bs (xs ++ ys) ≡ seen_behind (seen_behind bs xs) ys
behind-join bs [] ys = refl
behind-join bs (x ∷ xs) ys = behind-join (put_last bs x) xs ys

lists-join : (bs : List (List ℕ)) (ls ms : List (List (List ℕ))) → all_seen_behind bs (ls ++ ms) ≡ all_seen_behind (all_seen_behind bs ls) ms
lists-join bs [] ms = refl
lists-join bs (l ∷ ls) ms = lists-join (seen_behind bs l) ls ms

-- ---- orders and prefixes
map-same : {A B C : Type 0} (f : B → C) (g : A → B) (h : A → C) (xs : List A) → ((x : A) → f (g x) ≡ h x) → map f (map g xs) ≡ map h xs
map-same f g h [] e = refl
map-same f g h (x ∷ xs) e = rw (e x, map-same f g h xs e) refl

-- other names for the sites
along-map : (g : ℕ → ℕ) (segment : List ℕ → List (List ℕ)) (o : List ℕ) → list_along segment (map g o) ≡ list_along (λ p. segment (map g p)) o
along-map g segment [] = refl
along-map g segment (x ∷ o) = ap (λ z. segment [] ++ z) (along-map g (λ p. segment (g x ∷ p)) o)

along-behind : (segment : List ℕ → List (List ℕ)) (x : ℕ) (o : List ℕ)
    → list_along segment (behind x o) ≡ segment [] ++ list_along (λ p. segment (behind x p)) o
along-behind segment x o = ap (λ z. segment [] ++ z) (along-map (past x) (λ p. segment (x ∷ p)) o)

-- there is an order, and each of those after a site has a first site
IsHeaded : List (List ℕ) → Type 0
IsHeaded os = (x : ℕ) × (o : List ℕ) × (us : List (List ℕ)) × (os ≡ (x ∷ o) ∷ us)

firsts-headed : (n : ℕ) (u : List ℕ) (us : List (List ℕ)) → IsHeaded (firsts (suc n) (u ∷ us))
unfolding IsHeaded
firsts-headed zero u us = (0, map (past 0) u, map (behind 0) us, refl)
firsts-headed (suc n) u us = let r = firsts-headed n u us in (r.0, r.1, r.2 ++ map (behind (suc n)) (u ∷ us), ap (λ z. z ++ map (behind (suc n)) (u ∷ us)) r.3)

orders-some : (k : ℕ) → (u : List ℕ) × (us : List (List ℕ)) × (orders_of k ≡ u ∷ us)
unfolding IsHeaded
orders-some zero = ([], [], refl)
orders-some (suc k) = let r = orders-some k in let h = firsts-headed k r.0 r.1 in (h.0 ∷ h.1, h.2, ap (firsts (suc k)) r.2 ∙ h.3)

orders-headed : (k : ℕ) → IsHeaded (firsts (suc k) (orders_of k))
orders-headed k = let r = orders-some k in subst (λ z. IsHeaded (firsts (suc k) z)) (sym r.2) (firsts-headed k r.0 r.1)

-- ---- first sight
module _ (C : List (List ℕ)) (segment : List ℕ → List (List ℕ)) where
  listed-behind : (x : ℕ) (o : List ℕ) → C ++ list_along segment (behind x o) ≡ (C ++ segment []) ++ list_along (λ p. segment (behind x p)) o
  listed-behind x o = ap (λ z. C ++ z) (along-behind segment x o) ∙ sym (append_assoc C (segment []) (list_along (λ p. segment (behind x p)) o))

  -- the first list brings all that the lists begin with
  head-brings : (bs : List (List ℕ)) (os : List (List ℕ)) → IsHeaded os → all_seen_behind bs (map (λ o. C ++ list_along segment o) os)
      ≡ all_seen_behind (seen_behind bs (C ++ segment [])) (map (λ o. C ++ list_along segment o) os)
  unfolding IsHeaded
  head-brings bs os (x, o, us, e) = rw e (ap (λ z. all_seen_behind z (map (λ o. C ++ list_along segment o) us)) first) where
    whole : C ++ (segment [] ++ list_along (λ p. segment (x ∷ p)) o) ≡ (C ++ segment []) ++ list_along (λ p. segment (x ∷ p)) o
    whole = sym (append_assoc C (segment []) (list_along (λ p. segment (x ∷ p)) o))

    split : (cs : List (List ℕ)) → seen_behind cs (C ++ (segment [] ++ list_along (λ p. segment (x ∷ p)) o))
        ≡ seen_behind (seen_behind cs (C ++ segment [])) (list_along (λ p. segment (x ∷ p)) o)
    split cs = ap (seen_behind cs) whole ∙ behind-join cs (C ++ segment []) (list_along (λ p. segment (x ∷ p)) o)

    first : seen_behind bs (C ++ (segment [] ++ list_along (λ p. segment (x ∷ p)) o))
        ≡ seen_behind (seen_behind bs (C ++ segment [])) (C ++ (segment [] ++ list_along (λ p. segment (x ∷ p)) o))
    first = split bs ∙ ap (λ z. seen_behind z (list_along (λ p. segment (x ∷ p)) o))
        (sym (behind-known (seen_behind bs (C ++ segment [])) (C ++ segment []) (all-seen bs (C ++ segment []))))
        ∙ sym (split (seen_behind bs (C ++ segment [])))

Claim : ℕ → Type 0
Claim k = (C : List (List ℕ)) (segment : List ℕ → List (List ℕ)) (bs : List (List ℕ)) → AllIn bs C
    → all_seen_behind bs (map (λ o. C ++ list_along segment o) (orders_of k)) ≡ all_seen_behind bs (map segment (prefixes_of k))

seen-firsts : (k : ℕ) → Claim k → (C : List (List ℕ)) (segment : List ℕ → List (List ℕ)) (n : ℕ) (bs : List (List ℕ)) → AllIn bs (C ++ segment [])
    → all_seen_behind bs (map (λ o. C ++ list_along segment o) (firsts n (orders_of k))) ≡ all_seen_behind bs (map segment (firsts n (prefixes_of k)))
unfolding Claim
seen-firsts k claim C segment zero bs h = refl
seen-firsts k claim C segment (suc n) bs h =
    let F : List ℕ → List (List ℕ) = λ o. C ++ list_along segment o in
    let ih = seen-firsts k claim C segment n bs h in
    let X : List (List ℕ) = all_seen_behind bs (map segment (firsts n (prefixes_of k))) in
    let left : map F (map (behind n) (orders_of k)) ≡ map (λ o. (C ++ segment []) ++ list_along (λ p. segment (behind n p)) o) (orders_of k) =
    map-same F (behind n) (λ o. (C ++ segment []) ++ list_along (λ p. segment (behind n p)) o) (orders_of k) (listed-behind C segment n) in
    let right : map segment (map (behind n) (prefixes_of k)) ≡ map (λ p. segment (behind n p)) (prefixes_of k) =
    map-same segment (behind n) (λ p. segment (behind n p)) (prefixes_of k) (λ p. refl) in
    ap (all_seen_behind bs) (map-append F (firsts n (orders_of k)) (map (behind n) (orders_of k)))
    ∙ lists-join bs (map F (firsts n (orders_of k))) (map F (map (behind n) (orders_of k)))
    ∙ ap (λ z. all_seen_behind z (map F (map (behind n) (orders_of k)))) ih
    ∙ ap (all_seen_behind X) left
    ∙ claim (C ++ segment []) (λ p. segment (behind n p)) X (λ a i. in-lists bs (map segment (firsts n (prefixes_of k))) a (h a i))
    ∙ ap (all_seen_behind X) (sym right)
    ∙ sym (lists-join bs (map segment (firsts n (prefixes_of k))) (map segment (map (behind n) (prefixes_of k))))
    ∙ ap (all_seen_behind bs) (sym (map-append segment (firsts n (prefixes_of k)) (map (behind n) (prefixes_of k))))

claim : (k : ℕ) → Claim k
unfolding Claim
claim zero C segment bs h = behind-join bs C (segment []) ∙ ap (λ z. seen_behind z (segment [])) (behind-known bs C h)
claim (suc k) C segment bs h =
    let bs' : List (List ℕ) = seen_behind bs (C ++ segment []) in
    let known : seen_behind bs (C ++ segment []) ≡ seen_behind bs (segment []) =
    behind-join bs C (segment []) ∙ ap (λ z. seen_behind z (segment [])) (behind-known bs C h) in
    let ck : Claim k = claim k in
    head-brings C segment bs (firsts (suc k) (orders_of k)) (orders-headed k)
    ∙ seen-firsts k ck C segment (suc k) bs' (all-seen bs (C ++ segment []))
    ∙ ap (λ z. all_seen_behind z (map segment (firsts (suc k) (prefixes_of k)))) known

-- ---- the count
count-join : (ls ms : List (List (List ℕ))) → stage_count (ls ++ ms) ≡ stage_count ls + stage_count ms
count-join [] ms = omega arith
count-join (l ∷ ls) ms = omega (arith, count-join ls ms)

-- each list begins with these
count-heads : (C : List (List ℕ)) (L : List ℕ → List (List ℕ)) (os : List (List ℕ))
    → stage_count (map (λ o. C ++ L o) os) ≡ length os * length C + stage_count (map L os)
count-heads C L [] = omega arith
count-heads C L (o ∷ os) =
    let ih = count-heads C L os in
    let m : suc (length os) * length C ≡ length C + length os * length C = omega (arith, add-mul 1 (length os) (length C)) in
    omega (arith, ih, m, length-append C (L o))

shares-join : (k : ℕ) (segment : List ℕ → List (List ℕ)) (ps qs : List (List ℕ))
    → shared_count k segment (ps ++ qs) ≡ shared_count k segment ps + shared_count k segment qs
shares-join k segment [] qs = omega arith
shares-join k segment (p ∷ ps) qs = omega (arith, shares-join k segment ps qs)

shares-behind : (k : ℕ) (segment : List ℕ → List (List ℕ)) (x : ℕ) (ps : List (List ℕ))
    → shared_count (suc k) segment (map (behind x) ps) ≡ shared_count k (λ p. segment (behind x p)) ps
shares-behind k segment x [] = refl
shares-behind k segment x (p ∷ ps) =
    let ih = shares-behind k segment x ps in
    let q : suc k - length (behind x p) ≡ k - length p = omega (arith, length-map p (past x)) in
    ap (λ n. length (orders_of n) * length (segment (behind x p)) + shared_count (suc k) segment (map (behind x) ps)) q
    ∙ ap (λ n. length (orders_of (k - length p)) * length (segment (behind x p)) + n) ih

CountClaim : ℕ → Type 0
CountClaim k = (segment : List ℕ → List (List ℕ)) → stage_count (map (list_along segment) (orders_of k)) ≡ shared_count k segment (prefixes_of k)

count-firsts : (k : ℕ) → CountClaim k → (segment : List ℕ → List (List ℕ)) (n : ℕ) → stage_count (map (list_along segment) (firsts n (orders_of k)))
    ≡ length (firsts n (orders_of k)) * length (segment []) + shared_count (suc k) segment (firsts n (prefixes_of k))
unfolding CountClaim
count-firsts k c segment zero = omega arith
count-firsts k c segment (suc n) =
    let ih = count-firsts k c segment n in
    let L : List ℕ → List (List ℕ) = list_along (λ p. segment (behind n p)) in
    let split : stage_count (map (list_along segment) (firsts n (orders_of k) ++ map (behind n) (orders_of k)))
    ≡ stage_count (map (list_along segment) (firsts n (orders_of k))) + stage_count (map (list_along segment) (map (behind n) (orders_of k))) =
    ap stage_count (map-append (list_along segment) (firsts n (orders_of k)) (map (behind n) (orders_of k)))
    ∙ count-join (map (list_along segment) (firsts n (orders_of k))) (map (list_along segment) (map (behind n) (orders_of k))) in
    let last : stage_count (map (list_along segment) (map (behind n) (orders_of k)))
    ≡ length (orders_of k) * length (segment []) + stage_count (map (list_along (λ p. segment (behind n p))) (orders_of k)) =
    ap stage_count (map-same (list_along segment) (behind n) (λ o. segment [] ++ list_along (λ p. segment (behind n p)) o) (orders_of k)
    (along-behind segment n)) ∙ count-heads (segment []) (list_along (λ p. segment (behind n p))) (orders_of k) in
    let size : length (firsts n (orders_of k) ++ map (behind n) (orders_of k)) ≡ length (firsts n (orders_of k)) + length (orders_of k) =
    omega (arith, length-append (firsts n (orders_of k)) (map (behind n) (orders_of k)), length-map (orders_of k) (behind n)) in
    let times : length (firsts n (orders_of k) ++ map (behind n) (orders_of k)) * length (segment [])
    ≡ length (firsts n (orders_of k)) * length (segment []) + length (orders_of k) * length (segment []) =
    ap (λ z. z * length (segment [])) size ∙ add-mul (length (firsts n (orders_of k))) (length (orders_of k)) (length (segment [])) in
    omega (
      arith,
      split,
      last,
      ih,
      times,
      c (λ p. segment (behind n p)),
      shares-join (suc k) segment (firsts n (prefixes_of k)) (map (behind n) (prefixes_of k)),
      shares-behind k segment n (prefixes_of k),
    )

count-claim : (k : ℕ) → CountClaim k
unfolding CountClaim
count-claim zero segment = omega arith
count-claim (suc k) segment =
    let c : CountClaim k = count-claim k in
    let r = count-firsts k c segment (suc k) in
    let q : suc k - 0 ≡ suc k = omega arith in
    r ∙ ap (λ n. length (orders_of n) * length (segment []) + shared_count (suc k) segment (firsts (suc k) (prefixes_of k))) (sym q)

-- through the lists of all orders and the segments of all prefixes the same vectors are first seen, and as many stages are counted
pub first-sight-by-prefixes : FirstSightByPrefixes
unfolding Claim CountClaim
first-sight-by-prefixes k segment = (claim k [] segment [] (λ a i. i), count-claim k segment)

-- ---- the walk's
walks-along : (b : ℕ) (vars : List VarInfo) (ms : List (List ℕ)) (q : List ℕ) (s : ℕ) (o : List ℕ)
    → list_along (last_walk b vars ms q s) o ≡ (site_walk b vars ms q s).0 ++ joined (site_walks b vars ms (q ++ s ∷ []) o)
walks-along b vars ms q s [] = sym (append-nil (site_walk b vars ms q s).0)
walks-along b vars ms q s (t ∷ o) = ap (λ z. (site_walk b vars ms q s).0 ++ z) (walks-along b vars ms (q ++ s ∷ []) t o)

-- the list of an order is what the walk lists at its prefixes, one after the other
pub list-along : (vars : List VarInfo) (f : Sparse) (o : List ℕ) → list_of vars f o ≡ list_along (prefix_walk 127 vars (all_rows (length vars) f)) o
list-along vars f [] = lists-are-walked-by-prefixes vars f [] ∙ append-nil (front_walk 127 vars (all_rows (length vars) f) []).0
list-along vars f (s ∷ o) = lists-are-walked-by-prefixes vars f (s ∷ o)
    ∙ ap (λ z. (front_walk 127 vars (all_rows (length vars) f) []).0 ++ z) (sym (walks-along 127 vars (all_rows (length vars) f) [] s o))

-- ---- each segment is in a list
orders-one : (k : ℕ) → 1 ≤ length (orders_of k)
orders-one k = let r = orders-some k in omega (arith, ap length r.2)

times-one : (a c : ℕ) → 1 ≤ a → c ≤ a * c
times-one zero c h = absurd (omega arith)
times-one (suc a) c h = let m : suc a * c ≡ c + a * c = omega (arith, add-mul 1 a c) in omega (arith, m)

fewer-in : (k : ℕ) (segment : List ℕ → List (List ℕ)) (ps : List (List ℕ)) → stage_count (map segment ps) ≤ shared_count k segment ps
fewer-in k segment [] = omega arith
fewer-in k segment (p ∷ ps) =
    omega (arith, fewer-in k segment ps, times-one (length (orders_of (k - length p))) (length (segment p)) (orders-one (k - length p)))

-- the stages at all prefixes, each counted once, are at most those in all lists
pub segments-are-fewer : SegmentsAreFewer
segments-are-fewer k segment = fewer-in k segment (prefixes_of k)
