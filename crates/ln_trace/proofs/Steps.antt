-- Proves what each kind of line does to what is held.
use Rattle.std.proofs.Common.{◌≡◌, ◌↔◌, ℕ, zero, suc, ◌+◌, Bool, true, false, true≢false, List, [], ◌∷◌, length, map, take, refl, sym, ◌∙◌, ap, subst, Some}
use Rattle.std.proofs.Common.{None}
use Rattle.std.specs.Prelude.{Option, Ok, Err, IsTrue}
use Rattle.std.proofs.Math.IntN.{ℤ, pos, negsuc}
use Rattle.ln_base.specs.declared.sign.Sign.{Sign}
use Rattle.ln_base.specs.declared.sign.Sign.TheVariants.{Zero}
use Rattle.ln_base.proofs.Texts.Lists.{head}
use Rattle.ln_algebra.proofs.Ordering.Order.{earlier-irreflexive}
use Rattle.ln_algebra.specs.Earlier.{IndicesDiffer, IsOver, Sites}
use Rattle.ln_algebra.specs.Sign.{sign_of}
use Rattle.ln_algebra.specs.Terms.{IsNormalOf}
use Rattle.ln_algebra.specs.Tree.{InputsBelow, Tree}
use Rattle.ln_tree.specs.declared.shape.Shape.{Shape}
use Rattle.ln_tree.specs.Exps.{IsRising, Pairs, vector}
use Rattle.ln_tree.specs.Row.{InRange, Row, values}
use Rattle.ln_order.specs.Order.{IsOrder}
use Rattle.ln_order.specs.Orders.{IsOrderOf}
use Rattle.ln_order.specs.Places.{order_places}
use Rattle.ln_order.specs.Sites.{row_sites, sites_of}
use Rattle.ln_order.specs.declared.order.Order.{Order}
use Rattle.ln_order.proofs.Signs.RowSigns.{orders-differ}
use Rattle.ln_order.proofs.Signs.RowsLemmas.{order-places}
use Rattle.ln_poly.specs.Sparse.{Sparse, terms_of}
use Rattle.ln_stage.specs.Staged.{Staged}
use Rattle.ln_due.proofs.Verdicts.UniqueLemmas.{sign-number-same}
use Rattle.ln_code.specs.declared.row.Row as code
use Rattle.ln_code.specs.Kept.{AreOfSites}
use Rattle.ln_code.specs.RowOf.{row_of}
use Rattle.ln_due.specs.Due.{sign_number}
use Rattle.ln_rows.specs.Left.{Records}
use Rattle.ln_rows.specs.Record.{read_row}
use Rattle.ln_rows.specs.declared.record.RowStop.{RowStop}
use Rattle.ln_trace.specs.declared.progress.Progress.{Progress}
use Rattle.ln_trace.specs.declared.progress.Next.{Next}
use Rattle.ln_trace.specs.declared.progress.Next.TheVariants as next
use Rattle.ln_trace.specs.declared.line.TraceLine.{TraceLine}
use Rattle.ln_trace.specs.declared.line.TraceLine.TheVariants as line
use Rattle.ln_trace.specs.declared.pointer.Spot.{Spot}
use Rattle.ln_trace.specs.Here.{PlaceStep, HasPoly, IsAtRow, IsCase, IsHere, IsInRow, IsNextOf, Step, subject_of}
use Rattle.ln_trace.specs.Left.{IsSpot, left_at}
use Rattle.ln_trace.specs.Next.{IsLastOf, MayBeNext}
use Rattle.ln_trace.specs.Told.{IsNext, Stood}
use Rattle.ln_trace.specs.ToldLaw.{IsLeft}
use Rattle.ln_trace.specs.Trace.{Between, Place, RowNext, Rule, Within}
use Rattle.ln_trace.proofs.Premises.{all-from, all-to, next-may, left-first, sites-over, spot-first}
use Rattle.ln_trace.proofs.Telling.{none-left}

-- the order of a row in range is one of its sites
pub order-of : (s : Shape) (r : code.Row) (places : List ℕ) → InRange s.sites s.vars (row_of s.sites s.vars r)
    → IsOrder (row_of s.sites s.vars r).index places → IsOrderOf s.sites places
order-of s r places range order = subst (λ (k : ℕ). IsOrderOf k places) range.size (order-places (row_of s.sites s.vars r).index places order)

-- ---- signs
zero-sign : (z : ℤ) → sign_of z ≡ pos 0 → z ≡ pos 0
zero-sign (pos zero) e = refl
zero-sign (pos (suc k)) e = cc
zero-sign (negsuc k) e = cc

-- a value is 0 where its sign is
pub zero-where : (b0 : Bool) (t : Sign) (z : ℤ) → (b0 ≡ true) ↔ (t ≡ Zero) → sign_number t ≡ sign_of z → (b0 ≡ true) ↔ (z ≡ pos 0)
zero-where b0 t z h e = (
  λ b. zero-sign z (sym e ∙ ap sign_number (h.0 b)),
  λ q. h.1 (sign-number-same t Zero (e ∙ ap sign_of q)),
)

some-last : (n : ℕ) (o : Option Pairs) (b0 : Bool) (stood : Stood) → IsLastOf n o b0 stood → (o ≡ None → ⊥) → stood ≡ [] → ⊥
some-last n None b0 stood l h e = h refl
some-last n (Some a) b0 [] l h e = l
some-last n (Some a) b0 (p ∷ stood) l h e = cc

none-last : (n : ℕ) (o : Option Pairs) (b0 : Bool) (p : List ℕ × ℤ) (stood : Stood) → IsLastOf n o b0 (p ∷ stood) → o ≡ None → ⊥
none-last n None b0 p stood l e = l
none-last n (Some a) b0 p stood l e = cc

last-zero : (n : ℕ) (o : Option Pairs) (b0 : Bool) (p : List ℕ × ℤ) (stood : Stood) → IsLastOf n o b0 (p ∷ stood) → (b0 ≡ true) ↔ (p.1 ≡ pos 0)
last-zero n None b0 p stood l = absurd l
last-zero n (Some a) b0 p stood l = l.2

map-none : (n : ℕ) (xs : List Pairs) → map (vector n) xs ≡ [] → xs ≡ []
map-none n [] e = refl
map-none n (x ∷ xs) e = cc

none-map : (n : ℕ) (xs : List Pairs) → xs ≡ [] → map (vector n) xs ≡ []
none-map n xs e = ap (map (vector n)) e

-- a row that was read is in range
pub row-range : (s : Shape) (x : Next) (old rows : Records) (r : code.Row) → x ≡ next.Read → IsNextOf s.sites s.vars x old rows r
    → InRange s.sites s.vars (row_of s.sites s.vars r)
row-range s x old rows r q y = (subst (λ (z : Next). IsNextOf s.sites s.vars z old rows r) q y).3

module _ (s : Shape) (f : Sparse) (st : Staged) (old : Records) (d : Progress) where
  refuses : (l : TraceLine) (rows : Records) (new : Progress)
      → ((e : Tree) (here : Place) → IsHere s e st old d here → (q : Place) → Rule (subject_of s e) here l q → ⊥) → Step s f st old d l false rows new
  refuses l rows new h = record { holds = λ e. cc; gone = λ e here p i. h e here i }

  -- a line fails that fails between records and within a row
  fails : (l : TraceLine) (rows : Records) (new : Progress)
      → ((e : Tree) (left : Records) → (d.inside ≡ false) × (old ≡ left) → (q : Place) → Rule (subject_of s e) (Between d.seen left) l q → ⊥)
      → ((e : Tree) (seen : ℕ) (left : Records) (row : Row) (stood : Stood) → d.inside ≡ true → IsInRow s e st d row stood → (q : Place)
      → Rule (subject_of s e) (Within seen left row stood) l q → ⊥) → Step s f st old d l false rows new
  fails l rows new h g = refuses l rows new go where
    go : (e : Tree) (here : Place) → IsHere s e st old d here → (q : Place) → Rule (subject_of s e) here l q → ⊥
    go e (Between seen left) i = subst (λ (k : ℕ). (q : Place) → Rule (subject_of s e) (Between k left) l q → ⊥) i.1 (h e left (i.0, i.2))
    go e (Within seen left row stood) i = g e seen left row stood i.0 i.3

  -- ---- `refused`
  -- `refused` fails within a row, or where its number isn't the next one
  pub refused-elsewhere : (n : ℕ) (rows : Records) (new : Progress) → ((d.inside ≡ false) × (n ≡ d.seen + 1) → ⊥)
      → Step s f st old d (line.Refused n) false rows new
  refused-elsewhere n rows new h = fails (line.Refused n) rows new (λ e left i q r. h (i.0, r.number)) (λ e seen left row stood i k q r. r)

  -- `refused` fails where no record is next, or the next one is a row
  pub refused-other : (n : ℕ) (x : Next) (rows : Records) (r : code.Row) (new : Progress) → (x ≡ next.Fault → ⊥)
      → IsNextOf s.sites s.vars x old rows r → Step s f st old d (line.Refused n) false rows new
  refused-other n x rows r new other k = fails (line.Refused n) rows new
      (λ e left i q z. go x other k z.fields z.behind (i.1 ∙ z.next) z.stop z.refused) (λ e seen left row stood i k q r. r) where
        go : (x : Next) → (x ≡ next.Fault → ⊥) → IsNextOf s.sites s.vars x old rows r → (fields : List (List ℕ)) (behind : Records) → old ≡ fields ∷ behind
            → (stop : RowStop) → read_row s.sites s.vars fields ≡ Err stop → ⊥
        go next.Nothing other k fields behind e stop t = cc
        go next.Fault other k fields behind e stop t = other refl
        go next.Read other k fields behind e stop t =
            let same : k.0 ≡ fields = head (sym k.1 ∙ e) in
            let both : Ok (row_of s.sites s.vars r) ≡ Err stop = sym k.2 ∙ ap (read_row s.sites s.vars) same ∙ t in cc

  -- where no row is open, `refused` with the number of the next record leads on if that record is invalid
  pub refused-goes : (n : ℕ) (x : Next) (rows : Records) (r : code.Row) → d.inside ≡ false → n ≡ d.seen + 1 → x ≡ next.Fault
      → IsNextOf s.sites s.vars x old rows r
      → Step s f st old d (line.Refused n) true rows
      (record { inside = d.inside; seen = n; row = r; order = d.order; spot = d.spot; last = d.last; sign = d.sign })
  refused-goes n x rows r b m q y = record { holds = λ t i. cc; gone = go } where
    k : IsNextOf s.sites s.vars next.Fault old rows r
    k = subst (λ (z : Next). IsNextOf s.sites s.vars z old rows r) q y

    go : (e : Tree) (here : Place) → HasPoly s e f → IsHere s e st old d here → PlaceStep s e st here (line.Refused n) true rows
        (record { inside = d.inside; seen = n; row = r; order = d.order; spot = d.spot; last = d.last; sign = d.sign })
    go e (Between seen left) p i =
        let c : n ≡ seen + 1 = m ∙ ap (λ j. j + 1) i.1 in
        (Between (seen + 1) rows, record { number = c; fields = k.0; behind = rows; next = sym i.2 ∙ k.1; stop = k.2; refused = k.3; to = refl }, (b, c, refl))
    go e (Within seen left row stood) p i = cc

  -- ---- `row`
  -- `row` fails within a row, or where its number isn't the next one
  pub row-elsewhere : (n : ℕ) (rows : Records) (new : Progress) → ((d.inside ≡ false) × (n ≡ d.seen + 1) → ⊥) → Step s f st old d (line.Row n) false rows new
  row-elsewhere n rows new h = fails (line.Row n) rows new (λ e left i q r. h (i.0, r.number)) (λ e seen left row stood i k q r. r)

  -- `row` fails where no record is next, or the next one is invalid
  pub row-other : (n : ℕ) (x : Next) (rows : Records) (r : code.Row) (new : Progress) → (x ≡ next.Read → ⊥)
      → IsNextOf s.sites s.vars x old rows r → Step s f st old d (line.Row n) false rows new
  row-other n x rows r new other k = fails (line.Row n) rows new
      (λ e left i q z. go x other k z.fields z.behind (i.1 ∙ z.next) z.row z.read) (λ e seen left row stood i k q r. r) where
        go : (x : Next) → (x ≡ next.Read → ⊥) → IsNextOf s.sites s.vars x old rows r → (fields : List (List ℕ)) (behind : Records) → old ≡ fields ∷ behind
            → (row : Row) → read_row s.sites s.vars fields ≡ Ok row → ⊥
        go next.Nothing other k fields behind e row t = cc
        go next.Read other k fields behind e row t = other refl
        go next.Fault other k fields behind e row t =
            let same : k.0 ≡ fields = head (sym k.1 ∙ e) in
            let both : Err k.2 ≡ Ok row = sym k.3 ∙ ap (read_row s.sites s.vars) same ∙ t in cc

  -- what is held after `row`: an open row with its number and order, at the beginning of the order's list, where no vector stood
  abbrev pub opened : ℕ → code.Row → Order → Progress
  opened n r o =
      record { inside = true; seen = n; row = r; order = o; spot = record { sites = 0; at = 0 }; last = record { exps = None; zero = true }; sign = d.sign }

  -- where no row is open, `row` with the number of the next record opens it if that record is a row
  pub row-goes : (n : ℕ) (x : Next) (rows : Records) (r : code.Row) (o : Order) (new : Progress) → IsCase s f st → d.inside ≡ false
      → n ≡ d.seen + 1 → x ≡ next.Read → IsNextOf s.sites s.vars x old rows r → IsOrder (take s.sites r.index) (order_places o)
      → new ≡ opened n r o → Step s f st old d (line.Row n) true rows new
  row-goes n x rows r o new c b m q y order w = subst (λ (z : Progress). Step s f st old d (line.Row n) true rows z) (sym w)
      (record { holds = λ t i. record { range = k.3; order = order; spot = spot-first s f st c (order_places o) of }; gone = go })
    where
      k : IsNextOf s.sites s.vars next.Read old rows r
      k = subst (λ (z : Next). IsNextOf s.sites s.vars z old rows r) q y

      of : IsOrderOf s.sites (order_places o)
      of = order-of s r (order_places o) k.3 order

      go : (e : Tree) (here : Place) → HasPoly s e f → IsHere s e st old d here → PlaceStep s e st here (line.Row n) true rows (opened n r o)
      go e (Between seen left) p i =
          let j : n ≡ seen + 1 = m ∙ ap (λ y. y + 1) i.1 in (
            Within (seen + 1) rows (row_of s.sites s.vars r) [],
            record { number = j; fields = k.0; behind = rows; next = sym i.2 ∙ k.1; row = row_of s.sites s.vars r; read = k.2; to = refl },
            (refl, j, refl, record { held = refl; last = refl; sign = tt; left = left-first s f st c (order_places o) of e p }),
          )
      go e (Within seen left row stood) p i = cc

  -- ---- `at`
  -- `at` fails outside a row
  pub at-outside : (a : Pairs) (z : ℤ) (rows : Records) (new : Progress) → d.inside ≡ false → Step s f st old d (line.At a z) false rows new
  at-outside a z rows new b = fails (line.At a z) rows new (λ e left i q r. r) (λ e seen left row stood i k q r. true≢false (sym i ∙ b))

  -- `at` fails where its variables don't rise, or one of them is no coordinate of a site
  pub at-unread : (a : Pairs) (z : ℤ) (rows : Records) (new : Progress) → (IsRising a → AreOfSites s.vars a → ⊥)
      → Step s f st old d (line.At a z) false rows new
  at-unread a z rows new h = fails (line.At a z) rows new (λ e left i q r. r) (λ e seen left row stood i k q r. h r.rising r.of_sites)

  -- what the test of a line means
  abbrev pub Tests : Bool → Pairs → ℤ → List ℤ → Type 0
  Tests ok a z zs = (e : Tree) (stood : Stood) (r : Row) → r.values ≡ zs → InRange s.sites s.vars r →
      IsOrder r.index (order_places d.order) → IndicesDiffer (sites_of s.vars (order_places d.order)) →
      InputsBelow (length s.vars) e → IsNormalOf (length s.vars) e (terms_of (length s.vars) f) →
      IsOver (length s.vars) (row_sites s.vars r.index) (vector (length s.vars) a) →
      IsLastOf (length s.vars) d.last.exps d.last.zero stood →
      IsLeft (length s.vars) (sites_of s.vars (order_places d.order)) e stood
      (map (vector (length s.vars)) (left_at st (order_places d.order) d.spot)) →
      IsTrue ok ↔ IsNext (length s.vars) (row_sites s.vars r.index) (values zs) e stood (vector (length s.vars) a) z

  -- a test keeps its meaning where its result, its value and the row's values are replaced by equal ones
  pub tests-of : (r ok : Bool) (a : Pairs) (w z : ℤ) (zs ys : List ℤ) → r ≡ ok → w ≡ z → zs ≡ ys → Tests r a w zs → Tests ok a z ys
  tests-of r ok a w z zs ys p e q t = subst (λ (o : Bool). Tests o a z ys) p (subst (λ (y : ℤ). Tests r a y ys) e (subst (λ (xs : List ℤ). Tests r a w xs) q t))

  differ-at : IsAtRow s st d → IndicesDiffer (sites_of s.vars (order_places d.order))
  differ-at at = orders-differ s.sites s.vars (order_places d.order) s.kept (order-of s d.row (order_places d.order) at.range at.order)

  fits : (ok : Bool) (a : Pairs) (z : ℤ) → IsAtRow s st d → AreOfSites s.vars a → Tests ok a z (take (length s.vars) d.row.values)
      → (e : Tree) → HasPoly s e f → (row : Row) (stood : Stood) → IsInRow s e st d row stood
      → IsTrue ok ↔ RowNext (subject_of s e) row stood (vector (length s.vars) a) z
  fits ok a z at sites t e p row stood i =
      subst (λ (w : Row). IsTrue ok ↔ RowNext (subject_of s e) w stood (vector (length s.vars) a) z) i.held
      (t e stood (row_of s.sites s.vars d.row) refl at.range at.order (differ-at at) p.inputs p.normal
      (sites-over s.vars (row_of s.sites s.vars d.row).index a sites) i.last i.left)

  -- `at` fails where its test comes to false
  pub at-refused : (a : Pairs) (z : ℤ) (rows : Records) (new : Progress) → IsAtRow s st d → AreOfSites s.vars a
      → Tests false a z (take (length s.vars) d.row.values) → Step s f st old d (line.At a z) false rows new
  at-refused a z rows new at sites t = record { holds = λ e. cc; gone = go } where
    go : (e : Tree) (here : Place) → HasPoly s e f → IsHere s e st old d here → (q : Place) → Rule (subject_of s e) here (line.At a z) q → ⊥
    go e (Between seen left) p i q r = r
    go e (Within seen left row stood) p i q r = true≢false (sym ((fits false a z at sites t e p row stood i.3).1 r.next))

  -- what passing on means
  abbrev pub Passes : Pairs → Spot → Type 0
  Passes a spot = (e : Tree) (stood : Stood) (z : ℤ) → IndicesDiffer (sites_of s.vars (order_places d.order)) →
      IsOver (length s.vars) (sites_of s.vars (order_places d.order)) (vector (length s.vars) a) →
      MayBeNext (length s.vars) (sites_of s.vars (order_places d.order)) e stood (vector (length s.vars) a) →
      IsLeft (length s.vars) (sites_of s.vars (order_places d.order)) e stood
      (map (vector (length s.vars)) (left_at st (order_places d.order) d.spot)) →
      IsLeft (length s.vars) (sites_of s.vars (order_places d.order)) e ((vector (length s.vars) a, z) ∷ stood)
      (map (vector (length s.vars)) (left_at st (order_places d.order) spot))

  -- what is held after `at`: these exponents as the last ones, whether their value is 0, its sign, and the place in the list
  abbrev pub behind : Pairs → Spot → Bool → Sign → Progress
  behind a spot b0 t =
      record { inside = d.inside; seen = d.seen; row = d.row; order = d.order; spot = spot; last = record { exps = Some a; zero = b0 }; sign = t }

  -- `at` leads on where its test comes to true, and the place is moved to where the remaining stages begin
  pub at-goes : (a : Pairs) (z : ℤ) (spot : Spot) (b0 : Bool) (t : Sign) (new : Progress) → IsAtRow s st d → IsRising a → AreOfSites s.vars a
      → Tests true a z (take (length s.vars) d.row.values)
      → IsSpot st (order_places d.order) spot → Passes a spot → (b0 ≡ true) ↔ (t ≡ Zero) → sign_number t ≡ sign_of z → d.inside ≡ true
      → new ≡ behind a spot b0 t → Step s f st old d (line.At a z) true old new
  at-goes a z spot b0 t new at rising sites test is pass flag number b w = subst (λ (y : Progress). Step s f st old d (line.At a z) true old y)
      (sym w) (record { holds = λ y i. record { range = at.range; order = at.order; spot = is }; gone = go })
    where
      go : (e : Tree) (here : Place) → HasPoly s e f → IsHere s e st old d here → PlaceStep s e st here (line.At a z) true old (behind a spot b0 t)
      go e (Between seen left) p i = cc
      go e (Within seen left row stood) p i =
          let n : ℕ = length s.vars in
          let places : List ℕ = order_places d.order in
          let goes : RowNext (subject_of s e) row stood (vector (length s.vars) a) z = (fits true a z at sites test e p row stood i.3).0 refl in
          let range : InRange s.sites s.vars row = subst (InRange s.sites s.vars) i.3.held at.range in
          let order : IsOrder row.index (order_places d.order) = subst (λ (w : Row). IsOrder w.index (order_places d.order)) i.3.held at.order in
          let over : IsOver (length s.vars) (sites_of s.vars (order_places d.order)) (vector (length s.vars) a) =
          record { size = goes.over.size; of_sites = goes.over.of_sites } in
          let may : MayBeNext (length s.vars) (sites_of s.vars (order_places d.order)) e stood (vector (length s.vars) a) =
          next-may s row (order_places d.order) range order e stood row.values (vector (length s.vars) a) z goes in (
            Within seen left row ((vector (length s.vars) a, z) ∷ stood),
            record { rising = rising; of_sites = sites; next = goes; to = refl },
            (
              i.0,
              i.1,
              i.2,
              record {
                held = i.3.held;
                last = (refl, goes.zeros, zero-where b0 t z flag number);
                sign = number;
                left = pass e stood z (differ-at at) over may i.3.left;
              },
            ),
          )

  -- a line says the exponents that were read of it
  pub at-of : (a x : Pairs) (w z : ℤ) (ok : Bool) (new : Progress) → x ≡ a → w ≡ z → Step s f st old d (line.At x w) ok old new
      → Step s f st old d (line.At a z) ok old new
  at-of a x w z ok new q e h =
      subst (λ (y : Pairs). Step s f st old d (line.At y z) ok old new) q (subst (λ (y : ℤ). Step s f st old d (line.At x y) ok old new) e h)

  -- ---- `sign`
  -- `sign` fails outside a row
  pub sign-outside : (t : Sign) (rows : Records) (new : Progress) → d.inside ≡ false → Step s f st old d (line.Sign t) false rows new
  sign-outside t rows new b = fails (line.Sign t) rows new (λ e left i q r. r) (λ e seen left row stood i k q r. true≢false (sym i ∙ b))

  -- `sign` fails where no vector stood before it, or its sign isn't that of the last value
  pub sign-unsaid : (t : Sign) (rows : Records) (new : Progress) → ((d.last.exps ≡ None → ⊥) × (t ≡ d.sign) → ⊥)
      → Step s f st old d (line.Sign t) false rows new
  sign-unsaid t rows new h = fails (line.Sign t) rows new (λ e left i q r. r) go where
    go : (e : Tree) (seen : ℕ) (left : Records) (row : Row) (stood : Stood) → d.inside ≡ true → IsInRow s e st d row stood → (q : Place)
        → Rule (subject_of s e) (Within seen left row stood) (line.Sign t) q → ⊥
    go e seen left row [] b i q r = r.signed
    go e seen left row (p ∷ stood) b i q r =
        h (λ o. none-last (length s.vars) d.last.exps d.last.zero p stood i.last o, sign-number-same t d.sign (r.signed.0 ∙ sym i.sign))

  -- `sign` fails where the last value is 0 and some stage remains
  pub sign-too-soon : (t : Sign) (rows : Records) (new : Progress) → IsAtRow s st d
      → ((d.last.zero ≡ true → left_at st (order_places d.order) d.spot ≡ []) → ⊥) → Step s f st old d (line.Sign t) false rows new
  sign-too-soon t rows new at h = refuses (line.Sign t) rows new go where
    go : (e : Tree) (here : Place) → IsHere s e st old d here → (q : Place) → Rule (subject_of s e) here (line.Sign t) q → ⊥
    go e (Between seen left) i q r = r
    go e (Within seen left row []) i q r = r.signed
    go e (Within seen left row (p ∷ stood)) i q r =
        let range : InRange s.sites s.vars row = subst (InRange s.sites s.vars) i.3.held at.range in
        let order : IsOrder row.index (order_places d.order) = subst (λ (w : Row). IsOrder w.index (order_places d.order)) i.3.held at.order in
        let sites : Sites = sites_of s.vars (order_places d.order) in
        h (λ z. map-none (length s.vars) (left_at st (order_places d.order) d.spot)
        ((none-left (length s.vars) (sites_of s.vars (order_places d.order)) e (earlier-irreflexive (sites_of s.vars (order_places d.order)))
        (p ∷ stood) _ i.3.left).1
        (all-to s row (order_places d.order) range order e (p ∷ stood)
        (r.signed.1 ((last-zero (length s.vars) d.last.exps d.last.zero p stood i.3.last).0 z)))))

  -- what is held after `sign`: the same, with no row open
  abbrev pub closed : Progress
  closed = record { inside = false; seen = d.seen; row = d.row; order = d.order; spot = d.spot; last = d.last; sign = d.sign }

  -- `sign` closes the row where its sign is that of the last value, and this value isn't 0 or no stage remains
  pub sign-goes : (t : Sign) → IsAtRow s st d → d.inside ≡ true → (d.last.exps ≡ None → ⊥) → t ≡ d.sign
      → (d.last.zero ≡ true → left_at st (order_places d.order) d.spot ≡ []) → Step s f st old d (line.Sign t) true old closed
  sign-goes t at b some same whole = record { holds = λ y i. cc; gone = go } where
    go : (e : Tree) (here : Place) → HasPoly s e f → IsHere s e st old d here → PlaceStep s e st here (line.Sign t) true old closed
    go e (Between seen left) p i = cc
    go e (Within seen left row []) p i = absurd (some-last (length s.vars) d.last.exps d.last.zero [] i.3.last some refl)
    go e (Within seen left row (p ∷ stood)) h i =
        let range : InRange s.sites s.vars row = subst (InRange s.sites s.vars) i.3.held at.range in
        let order : IsOrder row.index (order_places d.order) = subst (λ (w : Row). IsOrder w.index (order_places d.order)) i.3.held at.order in (
          Between seen left,
          record {
            signed = (
              ap sign_number same ∙ i.3.sign,
              λ z. all-from s row (order_places d.order) range order e (p ∷ stood)
                  ((none-left (length s.vars) (sites_of s.vars (order_places d.order)) e
                  (earlier-irreflexive (sites_of s.vars (order_places d.order))) (p ∷ stood) _ i.3.left).0
                  (none-map (length s.vars) (left_at st (order_places d.order) d.spot)
                  (whole ((last-zero (length s.vars) d.last.exps d.last.zero p stood i.3.last).1 z)))),
            );
            to = refl;
          },
          (refl, i.1, i.2),
        )
