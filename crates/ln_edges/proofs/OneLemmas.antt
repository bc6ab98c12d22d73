-- Records are points, or one is the first that is none.
use Rattle.std.proofs.Common.{◌≡◌, ◌≢◌, inl, inr, ℕ, zero, suc, ◌<◌, List, [], ◌∷◌, ◌++◌, length, map, Some}
use Rattle.std.proofs.Common.{refl, ap, sym, ◌∙◌, subst, arith}
use Rattle.std.specs.Prelude.{AllPairs, Contains}
use Rattle.std.proofs.lemmas.Bool.{cases_lt}
use Rattle.std.proofs.lemmas.List.{get_or_at, length-append}
use Rattle.std.proofs.lemmas.Option.{none-some, same_Some}
use Rattle.ln_tree.specs.Table.{CoordOf}
use Rattle.ln_rows.specs.Left.{Records}
use Rattle.ln_edges.specs.Points.{PointOf}
use Rattle.ln_edges.specs.Read.{IsNoPoint, IsPointFault, PointFaultIsOne, PointsAreOne, PointsHaveNoFault, SayPoints}
use Rattle.ln_edges.specs.Read.{point_in}

say_one : (cs : List CoordOf) (rs : Records) (ps qs : List PointOf) → SayPoints cs rs ps → SayPoints cs rs qs → ps ≡ qs
say_one cs [] [] [] a b = refl
say_one cs [] [] (q ∷ qs) a b = absurd b
say_one cs (r ∷ rs) (p ∷ ps) [] a b = absurd b
say_one cs (r ∷ rs) (p ∷ ps) (q ∷ qs) a b =
    ap (λ (x : PointOf). x ∷ ps) (same_Some p q (sym a.0 ∙ b.0))
    ∙ ap (λ (l : List PointOf). q ∷ l) (say_one cs rs ps qs a.1 b.1)
say_one cs rs ps qs a b = absurd a

-- records are at most one list of points
pub points-one : PointsAreOne
points-one cs rs ps qs a b = say_one cs rs ps qs a.say b.say

-- the point of a record between others
record Between (cs : List CoordOf) (bs : Records) (r : List (List ℕ)) (ps : List PointOf) : Type 0 where
  front : List PointOf
  point : PointOf
  back : List PointOf
  are : ps ≡ front ++ point ∷ back
  says : SayPoints cs bs front
  here : point_in cs r ≡ Some point

between : (cs : List CoordOf) (bs : Records) (r : List (List ℕ)) (rest : Records) (ps : List PointOf)
    → SayPoints cs (bs ++ r ∷ rest) ps
    → Between cs bs r ps
between cs [] r rest (p ∷ ps) s = record { front = []; point = p; back = ps; are = refl; says = tt; here = s.0 }
between cs (b ∷ bs) r rest (p ∷ ps) s =
    let w = between cs bs r rest ps s.1 in
    record {
      front = p ∷ w.front;
      point = w.point;
      back = w.back;
      are = ap (λ (l : List PointOf). p ∷ l) w.are;
      says = (s.0, w.says);
      here = w.here;
    }
between cs bs r rest ps s = absurd s

new_index : (front : List PointOf) (p : PointOf) (back : List PointOf)
    → AllPairs (λ x y. x.index ≢ y.index) (front ++ p ∷ back)
    → Contains (map (λ q. q.index) front) p.index → ⊥
new_index [] p back d (k, h, e) = absurd (omega (arith, h))
new_index (q ∷ qs) p back d (zero, h, e) =
    d 0 (suc (length qs)) p (omega arith) (omega (arith, length-append qs (p ∷ back)))
    (e ∙ ap (λ (x : PointOf). x.index) (sym (get_or_at qs p back p (length qs) refl)))
new_index (q ∷ qs) p back d (suc k, h, e) =
    new_index qs p back (λ i j x l m. d (suc i) (suc j) x (omega (arith, l)) (omega (arith, m)))
    (k, omega (arith, h), e)

-- records that are points have none that is no point
pub points-faultless : PointsHaveNoFault
points-faultless cs rs ps n a f =
    let w = between cs f.before f.fields f.after ps (subst (λ (x : Records). SayPoints cs x ps) f.are a.say) in
    by_fault w f.fault where
      by_fault : Between cs f.before f.fields ps → IsNoPoint cs f.points f.fields → ⊥
      by_fault w (inl e) = none-some w.point (sym e ∙ w.here)
      by_fault w (inr (p, e, c)) =
          let same : p ≡ w.point = same_Some p w.point (sym e ∙ w.here) in
          let those : f.points ≡ w.front = say_one cs f.before f.points w.front f.are_points.say w.says in
          let differ : AllPairs (λ x y. x.index ≢ y.index) (w.front ++ w.point ∷ w.back) =
          subst (λ (l : List PointOf). AllPairs (λ x y. x.index ≢ y.index) l) w.are a.differ in
          new_index w.front w.point w.back differ
          (subst (λ (x : PointOf). Contains (map (λ q. q.index) w.front) x.index) same
          (subst (λ (l : List PointOf). Contains (map (λ q. q.index) l) p.index) those c))

-- of two places in one list the earlier comes before the later
earlier : (bs cs : Records) (x y : List (List ℕ)) (xs ys : Records) → bs ++ x ∷ xs ≡ cs ++ y ∷ ys
    → length bs < length cs → (rest : Records) × (cs ≡ bs ++ x ∷ rest)
earlier bs [] x y xs ys e h = absurd (omega (arith, h))
earlier [] (c ∷ cs) x y xs ys e h = let q : x ≡ c = cc in (cs, ap (λ (z : List (List ℕ)). z ∷ cs) (sym q))
earlier (b ∷ bs) (c ∷ cs) x y xs ys e h =
    let q : b ≡ c = cc in
    let t : bs ++ x ∷ xs ≡ cs ++ y ∷ ys = cc in
    let w = earlier bs cs x y xs ys t (omega (arith, h)) in
    (w.0, ap (λ (z : List (List ℕ)). z ∷ cs) (sym q) ∙ ap (λ (l : Records). b ∷ l) w.1)

not_earlier : (cs : List CoordOf) (rs : Records) (m n : ℕ) (f : IsPointFault cs rs m) (g : IsPointFault cs rs n)
    → length f.before < length g.before → ⊥
not_earlier cs rs m n f g h =
    let w = earlier f.before g.before f.fields g.fields f.after g.after (sym f.are ∙ g.are) h in
    points-faultless cs g.before g.points m g.are_points
    (record {
      before = f.before;
      fields = f.fields;
      after = w.0;
      are = w.1;
      number = f.number;
      points = f.points;
      are_points = f.are_points;
      fault = f.fault;
    })

-- records have at most one first record that is no point
pub fault-one : PointFaultIsOne
fault-one cs rs m n f g = elim (cases_lt (length f.before) (length g.before)) [
  | inl h ↦ absurd (not_earlier cs rs m n f g h)
  | inr h ↦ elim (cases_lt (length g.before) (length f.before)) [
    | inl k ↦ absurd (not_earlier cs rs n m g f k)
    | inr k ↦ omega (arith, h, k, f.number, g.number)
  ]
]
