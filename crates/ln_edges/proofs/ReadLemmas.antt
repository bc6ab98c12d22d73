-- Proves what the reader of points needs: a point is read field by field, and the records are read one by one.
use Rattle.std.proofs.Common.{◌≡◌, ◌≢◌, ℕ, suc, ◌+◌, ◌-◌, ◌^◌, ◌<◌, ◌≤◌, List, [], ◌∷◌, ◌++◌, length, get_or}
use Rattle.std.proofs.Common.{take, drop, set, replicate, ℤ, pos}
use Rattle.std.proofs.Common.{Option, Some, None, option_map, Result, Ok, Err, refl, ap, sym, ◌∙◌, subst, arith}
use Rattle.std.proofs.Common.{add-one, drop-cons, append_assoc}
use Rattle.std.proofs.Common.{inl, inr, map, false, length-append}
use Rattle.std.specs.Prelude.{IsErr, Contains, is_some}
use Rattle.std.proofs.lemmas.Bool.{cases_lt}
use Rattle.std.proofs.lemmas.List.Quantifiers.{all_pairs_push}
use Rattle.std.proofs.lemmas.List.Elements.{Contains-get_or}
use Rattle.std.proofs.lemmas.List.{get_or-map, length-map, append-nil, drop_all, length-drop, length-set, length-take-le, take_all}
use Rattle.std.proofs.lemmas.List.{take_more_set, get_or-set_other}
use Rattle.ln_tree.specs.declared.items.Coord.{Coord}
use Rattle.ln_tree.specs.Table.{CoordOf, coord_of}
use Rattle.ln_rows.specs.Number.{number_in}
use Rattle.ln_rows.specs.declared.numbers.NumberStop.{NumberStop}
use Rattle.ln_edges.specs.declared.point.Point.{Point}
use Rattle.ln_edges.specs.Points.{PointOf, point_of}
use Rattle.ln_rows.specs.Left.{Records}
use Rattle.ln_rows.proofs.Fields.RowLemmas.{zeros}
use Rattle.ln_edges.specs.Read.{IsNoPoint, IsNextPoint, SayPoints, AreReadAs, fine, faulty}
use Rattle.ln_edges.specs.Read.{both, numbers_in, pointed, point_in}

-- the point past the end of a list
abbrev pub a_point : Point
a_point = record { index = pos 0; values = [] }

-- the numbers read so far, before those still to be read
pub ahead : List ℤ → Option (List ℤ) → Option (List ℤ)
ahead zs o = option_map (λ ys. zs ++ ys) o

ahead_none : (o : Option (List ℤ)) → o ≡ ahead [] o
unfolding ahead
ahead_none None = refl
ahead_none (Some ys) = refl

ahead_both : (zs : List ℤ) (z : ℤ) (o : Option (List ℤ)) → ahead zs (both (Ok z) o) ≡ ahead (zs ++ z ∷ []) o
unfolding ahead
ahead_both zs z None = refl
ahead_both zs z (Some ys) = ap Some (sym (append_assoc zs (z ∷ []) ys))

both_refused : (r : Result ℤ NumberStop) (o : Option (List ℤ)) → IsErr r → both r o ≡ None
both_refused (Err e) o h = refl
both_refused (Ok z) o h = absurd (cc)

both_none : (r : Result ℤ NumberStop) → both r None ≡ None
both_none (Err e) = refl
both_none (Ok z) = refl

-- the first k numbers of the fields have been read into an array, whose other places are 0
pub record ReadTo (cs : List CoordOf) (fs : List (List ℕ)) (k : ℕ) (values : List ℤ) : Type 0 where
  pub within : k ≤ length cs
  pub room : length values ≡ 32
  pub numbers : numbers_in cs fs ≡ ahead (take k values) (numbers_in (drop k cs) (drop k fs))
  pub zero : (m : ℕ) → k ≤ m → get_or values m (pos 0) ≡ pos 0

-- the beginning of the loop in `point_over`: no coordinate is read, and all places are 0
pub read_none : (cs : List CoordOf) (fs : List (List ℕ)) (values : List ℤ) → values ≡ replicate 32 (pos 0)
    → ReadTo cs fs 0 values
read_none cs fs values h = record {
  within = omega arith;
  room = ap length h;
  numbers = ahead_none (numbers_in cs fs);
  zero = λ m k. ap (λ (zs : List ℤ). get_or zs m (pos 0)) h ∙ zeros 32 m;
}

numbers_from : (cs : List CoordOf) (fs : List (List ℕ)) (k : ℕ) (c : CoordOf) → length fs ≡ length cs → k < length cs → c ≡ get_or cs k c
    → numbers_in (drop k cs) (drop k fs) ≡ both (number_in c.lo c.hi (get_or fs k [])) (numbers_in (drop (k + 1) cs) (drop (k + 1) fs))
numbers_from cs fs k c size h e =
    let front : drop k cs ≡ c ∷ drop (suc k) cs = drop-cons cs k c h
    ∙ ap (λ (x : CoordOf). x ∷ drop (suc k) cs) (sym e) in
    let field : drop k fs ≡ get_or fs k [] ∷ drop (suc k) fs = drop-cons fs k [] (omega (arith, h, size)) in
    let step : numbers_in (drop k cs) (drop k fs) ≡ both (number_in c.lo c.hi (get_or fs k [])) (numbers_in (drop (suc k) cs) (drop (suc k) fs)) =
    rw (front, field) refl in
    let next : suc k ≡ k + 1 = omega arith in
    step ∙ ap (λ (j : ℕ). both (number_in c.lo c.hi (get_or fs k [])) (numbers_in (drop j cs) (drop j fs))) next

-- the step of the loop in `point_over`: one more number is read
pub read_more : (cs : List CoordOf) (fs : List (List ℕ)) (k : ℕ) (values : List ℤ) (c : CoordOf) (z : ℤ)
    → length cs ≤ 32
    → length fs ≡ length cs
    → k < length cs → c ≡ get_or cs k c → number_in c.lo c.hi (get_or fs k []) ≡ Ok z → ReadTo cs fs k values
    → ReadTo cs fs (k + 1) (set values k z)
read_more cs fs k values c z few size h e n r =
    let there : k < length values = omega (arith, h, few, r.room) in
    let more : Option (List ℤ) = numbers_in (drop (k + 1) cs) (drop (k + 1) fs) in
    let step : numbers_in (drop k cs) (drop k fs) ≡ both (Ok z) (numbers_in (drop (k + 1) cs) (drop (k + 1) fs)) =
    numbers_from cs fs k c size h e ∙ ap (λ (o : Result ℤ NumberStop). both o more) n in
    record {
      within = omega (arith, h);
      room = length-set values k z ∙ r.room;
      numbers = r.numbers ∙ ap (ahead (take k values)) step ∙ ahead_both (take k values) z more
          ∙ ap (λ (xs : List ℤ). ahead xs more) (sym (take_more_set values k z there));
      zero = λ m l. get_or-set_other values k m z (pos 0) (omega (arith, l)) ∙ r.zero m (omega (arith, l));
    }

-- the end of the loop in `point_over` at a field that is no number in its coordinate's range: the fields have no numbers
pub read_stops : (cs : List CoordOf) (fs : List (List ℕ)) (k : ℕ) (values : List ℤ) (c : CoordOf)
    → length fs ≡ length cs → k < length cs → c ≡ get_or cs k c → IsErr (number_in c.lo c.hi (get_or fs k []))
    → ReadTo cs fs k values → numbers_in cs fs ≡ None
unfolding ahead
read_stops cs fs k values c size h e n r =
    r.numbers ∙ ap (ahead (take k values)) (numbers_from cs fs k c size h e ∙ both_refused (number_in c.lo c.hi (get_or fs k [])) _ n)

-- the end of the loop in `point_over`: the numbers of all fields are read
pub read_all : (cs : List CoordOf) (fs : List (List ℕ)) (k : ℕ) (values : List ℤ) → length fs ≡ length cs
    → length cs ≤ k → ReadTo cs fs k values → numbers_in cs fs ≡ Some (take (length cs) values)
unfolding ahead
read_all cs fs k values size h r =
    let e : k ≡ length cs = omega (arith, h, r.within) in
    let a : drop k cs ≡ [] = drop_all k cs h in
    let b : drop k fs ≡ [] = drop_all k fs (omega (arith, h, size)) in
    r.numbers ∙ rw (a, b, e) (ap Some (append-nil (take (length cs) values)))

-- the places after them are 0
pub read_zero : (cs : List CoordOf) (fs : List (List ℕ)) (k : ℕ) (values : List ℤ) → length cs ≤ k
    → ReadTo cs fs k values → (m : ℕ) → length cs ≤ m → get_or values m (pos 0) ≡ pos 0
read_zero cs fs k values h r m l = let e : k ≡ length cs = omega (arith, h, r.within) in r.zero m (omega (arith, e, l))

-- the coordinate at a place, by what it stands for
pub coord_at : (coords : List Coord) (k : ℕ) (c : Coord) → k < length coords → c ≡ get_or coords k c
    → coord_of c ≡ get_or (map coord_of coords) k (coord_of c)
coord_at coords k c h e = ap coord_of e ∙ sym (get_or-map coord_of coords k c (coord_of c) h)

-- another number of fields
other_size : (cs : List CoordOf) (fs : List (List ℕ)) → length fs ≢ length cs → numbers_in cs fs ≡ None
other_size [] [] h = absurd (h refl)
other_size (c ∷ cs) (f ∷ fs) h = rw (other_size cs fs (λ e. h (ap suc e))) (both_none (number_in c.lo c.hi f))
other_size cs fs h = refl

pointed_none : (r : Result ℤ NumberStop) → pointed r None ≡ None
pointed_none (Err e) = refl
pointed_none (Ok z) = refl

-- a record with another number of fields than the index and the coordinates is no point
pub other_point : (cs : List CoordOf) (fields : List (List ℕ)) → length fields ≢ length cs + 1
    → point_in cs fields ≡ None
other_point cs [] h = refl
other_point cs (f ∷ fs) h =
    rw (other_size cs fs (λ e. h (rw e (omega arith)))) (pointed_none (number_in (pos 0) (pos (2 ^ 63 - 1)) f))

-- the fields after the first
pub after_first : (fields : List (List ℕ)) (k : ℕ) → get_or fields (k + 1) [] ≡ get_or (drop 1 fields) k []
after_first [] k = refl
after_first (f ∷ fs) k = rw (add-one k) refl

-- there is one field fewer after the first
pub after_size : (fields : List (List ℕ)) (n : ℕ) → length fields ≡ n + 1 → length (drop 1 fields) ≡ n
after_size fields n h = omega (arith, length-drop 1 fields, h)

-- the index and the numbers that were read are the point of the record
pub point_made : (cs : List CoordOf) (fields : List (List ℕ)) (p : Point) → length fields ≡ length cs + 1
    → number_in (pos 0) (pos (2 ^ 63 - 1)) (get_or fields 0 []) ≡ Ok p.index
    → numbers_in cs (drop 1 fields) ≡ Some (take (length cs) p.values)
    → option_map (point_of (length cs)) (Some p) ≡ point_in cs fields
point_made cs [] p h n m = absurd (omega (arith, h))
point_made cs (f ∷ fs) p h n m = rw (n, m) refl

-- a record whose coordinates aren't all read is no point
pub point_refused : (cs : List CoordOf) (fields : List (List ℕ)) → numbers_in cs (drop 1 fields) ≡ None
    → point_in cs fields ≡ None
point_refused cs [] m = refl
point_refused cs (f ∷ fs) m = rw m (pointed_none (number_in (pos 0) (pos (2 ^ 63 - 1)) f))

-- a field more than a point has is enough to know that it is none
pub point_cut : (cs : List CoordOf) (fields : List (List ℕ))
    → point_in cs (take (length cs + 2) fields) ≡ point_in cs fields
point_cut cs fields = elim (cases_lt (length fields) (length cs + 2)) [
  | inl h ↦ ap (point_in cs) (take_all (length cs + 2) fields (omega (arith, h)))
  | inr h ↦
      let size : length (take (length cs + 2) fields) ≡ length cs + 2 = length-take-le (length cs + 2) fields h in
      other_point cs (take (length cs + 2) fields) (λ e. absurd (omega (arith, e, size)))
      ∙ sym (other_point cs fields (λ e. absurd (omega (arith, e, h))))
]

-- ---- records
say_push : (cs : List CoordOf) (rs : Records) (ps : List PointOf) (r : List (List ℕ)) (p : PointOf) → SayPoints cs rs ps
    → point_in cs r ≡ Some p → SayPoints cs (rs ++ r ∷ []) (ps ++ p ∷ [])
say_push cs [] [] r p s e = (e, tt)
say_push cs (x ∷ rs) (q ∷ ps) r p s e = (s.0, say_push cs rs ps r p s.1 e)
say_push cs rs ps r p s e = absurd s

-- the empty list of records is the empty list of points
pub stands_none : (cs : List CoordOf) → AreReadAs cs [] [] None
stands_none cs = fine (record { say = tt; differ = λ i j d h k. absurd (omega (arith, k)) })

-- a point more
pub stood_point : (cs : List CoordOf) (done : Records) (ps : List PointOf) (r : List (List ℕ)) (p : PointOf)
    → IsNextPoint cs ps r p
    → AreReadAs cs done ps None → AreReadAs cs (done ++ r ∷ []) (ps ++ p ∷ []) None
stood_point cs done ps r p n (fine a) = fine (record {
  say = say_push cs done ps r p a.say n.says;
  differ = all_pairs_push (λ x y. x.index ≢ y.index) ps p a.differ (λ k d h q. n.new (index_there k d h q));
}) where
  index_there : (k : ℕ) (d : PointOf) → k < length ps → (get_or ps k d).index ≡ p.index → Contains (map (λ q. q.index) ps) p.index
  index_there k d h q =
      let inner : k < length (map (λ q. q.index) ps) = omega (arith, h, length-map ps (λ (q : PointOf). q.index)) in
      subst (Contains (map (λ q. q.index) ps)) (get_or-map (λ (q : PointOf). q.index) ps k d p.index h ∙ q)
      (Contains-get_or (map (λ q. q.index) ps) k p.index inner)

-- after points, a record that is no point is the first that is none
pub stood_fault : (cs : List CoordOf) (done : Records) (ps : List PointOf) (r : List (List ℕ)) (n : ℕ)
    → n ≡ length done + 1 → IsNoPoint cs ps r → AreReadAs cs done ps None → AreReadAs cs (done ++ r ∷ []) ps (Some n)
stood_fault cs done ps r n e h (fine a) = faulty n (record {
  before = done;
  fields = r;
  after = [];
  are = refl;
  number = e;
  points = ps;
  are_points = a;
  fault = h;
})

-- where a record that is no point was found, it stays the first, whatever follows
pub stood_still : (cs : List CoordOf) (done : Records) (ps : List PointOf) (r : List (List ℕ)) (o : Option ℕ)
    → (o ≡ None → ⊥)
    → AreReadAs cs done ps o → AreReadAs cs (done ++ r ∷ []) ps o
stood_still cs done ps r None h s = absurd (h refl)
stood_still cs done ps r (Some n) h (faulty m f) = faulty n (record {
  before = f.before;
  fields = f.fields;
  after = f.after ++ r ∷ [];
  are = rw f.are (append_assoc f.before (f.fields ∷ f.after) (r ∷ []));
  number = f.number;
  points = f.points;
  are_points = f.are_points;
  fault = f.fault;
})

-- the first records have been read, and these remain
pub record Reading (cs : List CoordOf) (all left : Records) (ps : List PointOf) (fault : Option ℕ) (number : ℕ) : Type 0
  where
    pub done : Records
    pub parts : all ≡ done ++ left
    pub count : number ≡ length done
    pub few : number ≤ 256
    pub stands : AreReadAs cs done ps fault

-- ---- an index among the first points
-- none of the first i points has the index z, and there are at least i points
pub record IsNowhere (ps : List Point) (i : ℕ) (z : ℤ) : Type 0 where
  pub within : i ≤ length ps
  pub none : (k : ℕ) → k < i → (get_or ps k a_point).index ≢ z

-- no index is among the first 0 points
pub nowhere_none : (ps : List Point) (z : ℤ) → IsNowhere ps 0 z
nowhere_none ps z = record { within = omega arith; none = λ k h. absurd (omega (arith, h)) }

-- the end of the loop in `has_index`: no point has the index
pub nowhere_all : (ps : List Point) (i : ℕ) (z : ℤ) → length ps ≤ i → IsNowhere ps i z
    → Contains (map (λ p. p.index) ps) z → ⊥
nowhere_all ps i z l w (k, h, e) =
    let inner : k < length ps = omega (arith, h, length-map ps (λ (p : Point). p.index)) in
    w.none k (omega (arith, inner, l)) (sym (get_or-map (λ (p : Point). p.index) ps k a_point z inner) ∙ e)

-- the same indices by what the points stand for
pub indices_of : (n : ℕ) (ps : List Point) → map (λ q. q.index) (map (point_of n) ps) ≡ map (λ p. p.index) ps
indices_of n [] = refl
indices_of n (p ∷ ps) = ap (λ (zs : List ℤ). p.index ∷ zs) (indices_of n ps)

-- an option without a value is `None`
pub none_there : (o : Option ℕ) → false ≡ is_some o → o ≡ None
none_there None e = refl
none_there (Some n) e = absurd (cc)

-- the beginning of the loop in `read_points`: no record is read, and all remain
pub reading_none : (cs : List CoordOf) (all : Records) → Reading cs all all [] None 0
reading_none cs all = record { done = []; parts = refl; count = refl; few = omega arith; stands = stands_none cs }

-- a record more was taken
pub reading_more : (cs : List CoordOf) (all old new : Records) (ps qs : List PointOf) (r : List (List ℕ))
    (o p : Option ℕ)
    (n : ℕ) → old ≡ r ∷ new
    → n ≢ 256 → ((done : Records) → n + 1 ≡ length done + 1 → AreReadAs cs done ps o → AreReadAs cs (done ++ r ∷ []) qs p)
    → Reading cs all old ps o n
    → Reading cs all new qs p (n + 1)
reading_more cs all old new ps qs r o p n e ne f w = record {
  done = w.done ++ r ∷ [];
  parts = w.parts ∙ ap (λ (x : Records). w.done ++ x) e ∙ sym (append_assoc w.done (r ∷ []) new);
  count = ap (λ (m : ℕ). m + 1) w.count ∙ sym (length-append w.done (r ∷ []));
  few = omega (arith, ne, w.few);
  stands = f w.done (ap (λ (m : ℕ). m + 1) w.count) w.stands;
}

-- what the first fields of a record say is what it says
pub next_cut : (cs : List CoordOf) (ps : List PointOf) (all kept : List (List ℕ)) (p : PointOf)
    → kept ≡ take (length cs + 2) all → IsNextPoint cs ps kept p → IsNextPoint cs ps all p
next_cut cs ps all kept p k n = record {
  says = sym (point_cut cs all) ∙ ap (point_in cs) (sym k)
      ∙ n.says;
  new = n.new;
}

-- a record that is no point by its first fields is none by all its fields
pub fault_cut : (cs : List CoordOf) (ps : List PointOf) (all kept : List (List ℕ)) → kept ≡ take (length cs + 2) all
    → IsNoPoint cs ps kept → IsNoPoint cs ps all
fault_cut cs ps all kept k (inl e) = inl (sym (point_cut cs all) ∙ ap (point_in cs) (sym k) ∙ e)
fault_cut cs ps all kept k (inr (p, e, c)) = inr (p, sym (point_cut cs all) ∙ ap (point_in cs) (sym k) ∙ e, c)
