-- Lines at their places, and the loop.
use Rattle.std.proofs.Common.{◌≡◌, ◌↔◌, ℕ, ◌+◌, Bool, true, false, List, [], ◌∷◌, ◌++◌, length, refl, sym, ap, subst, ◌∙◌, append-nil, length-append}
use Rattle.std.proofs.lemmas.Option.{get_or_from_slice_get, none-some, same_Some, slice_get-map, slice_get_within}
use Rattle.std.specs.Option.{option_map}
use Rattle.std.specs.Prelude.{All, IsTrue, None, Option, Some, if◌then◌else◌, slice_get}
use Rattle.std.proofs.lemmas.List.{length-map}
use Rattle.ln_base.proofs.Forms.Judging.{Midway, Reached}
use Rattle.ln_base.proofs.Forms.Walk.{goes_none}
use Rattle.ln_tree.specs.Names.{name_bytes}
use Rattle.ln_order.specs.Orders.{orders_of}
use Rattle.ln_order.specs.Places.{order_places}
use Rattle.ln_verify.specs.BlockRules.{Version}
use Rattle.ln_verify.specs.Judge.{Go, IsValid, Lacks, judge_of}
use Rattle.ln_verify.specs.Line.{Between, InBlock, InFilter, LineRule, Named, Ordering, Outside, PartRule, Piece, Place, Rule, Spot, Subject, Within, Written}
use Rattle.ln_cert.specs.declared.part.Entry.{Entry}
use Rattle.ln_cert.specs.declared.part.Part.{Part}
use Rattle.ln_cert.specs.Listing.{parts_of}
use Rattle.ln_cert.specs.declared.part.Part.TheVariants.{Predicate, NoFilter, Filter, FilterOp, Decide, Block, BlockOp, RangeOp, End, Order, Done}
use Rattle.ln_cert.specs.declared.part.State.{State}
use Rattle.ln_cert.specs.declared.part.State.TheVariants as form
use Rattle.ln_cert.specs.Reading.{after, goes, list_rules, may}
use Rattle.ln_cert.specs.Text.{part_kind}
use Rattle.ln_code.specs.declared.op.Triple.{Triple}
use Rattle.ln_code.specs.Engine.{Line}
use Rattle.ln_verify.specs.declared.case.Case.{Case}
use Rattle.ln_verify.specs.declared.progress.Progress.{Progress}
use Rattle.ln_verify.specs.Here.{Finished, HaveForm, IsCase, IsHere, Leads, MayStand, PlaceStep, state_at, state_of, subject_of, subjects_of}
use Rattle.ln_verify.proofs.Values.Ranges.{not-true}

-- the subject with the number of a case is that of the case
pub subject-at : (cs : List Case) (i : ℕ) (c : Case) → slice_get cs i ≡ Some c → slice_get (subjects_of cs) i ≡ Some (subject_of c)
subject-at cs i c e = slice_get-map subject_of cs i ∙ ap (option_map subject_of) e

-- ---- the form
after-block : (f : Option (List (Line Triple))) (bs : List Piece) (b : Piece) → state_at (Between f (bs ++ b ∷ [])) ≡ form.Blocks
after-block f [] b = refl
after-block f (c ∷ bs) b = refl

line-leads : (v : Version) (p : Subject) (s t : Spot) (line : Part) → LineRule v p s line t → state_at t ≡ after (part_kind line)
line-leads v p Named t NoFilter r = ap state_at r
line-leads v p Named t Filter r = ap state_at r
line-leads v p (InFilter lines s) t (FilterOp op a) r = ap state_at r.2
line-leads v p (InFilter lines s) t Decide r = ap state_at r.to
line-leads v p (Between f bs) t (Block k a) r = ap state_at r.to
line-leads v p (Between f bs) t (Order places list) r = ap state_at r.to
line-leads v p (InBlock f bs a lines s) t (BlockOp op b) r = ap state_at r.1.2
line-leads v p (InBlock f bs a lines s) t (RangeOp op l u) r = ap state_at r.1.2
line-leads v p (InBlock f bs a lines s) t End r = ap state_at r.to ∙ after-block f bs (record { exps = a; lines = lines })
line-leads v p (Ordering w) t (Order places list) r = ap state_at r.to
line-leads v p s t line r = absurd r

part-leads : (v : Version) (p : Subject) (parts : List Written) (s : Spot) (line : Part) (q : Place) → PartRule v p parts s line q
    → state_of q ≡ after (part_kind line)
part-leads v p parts (Ordering w) Done q r = ap state_of r.to
part-leads v p parts s line q r = ap state_of r.2 ∙ line-leads v p s r.0 line r.1

-- the rule on a line leads to a place where the grammar is where it is after that line
leads : (v : Version) (ps : List Subject) (here : Place) (line : Part) (q : Place) → Rule v ps here line q → state_of q ≡ after (part_kind line)
leads v ps (Outside parts) (Predicate name) q r = ap state_of r.to
leads v ps (Outside parts) line q r = absurd r
leads v ps (Within parts s) line q r = part-leads v r.0 parts s line q r.2

-- where the next line leads to the end, it is allowed, and the others lead there from the state after it
goes-on : (v : Version) (s : State) (line : Part) (rest : List Part) → goes v.number (Some s) (line ∷ rest) ≡ Some form.Top
    → MayStand v s line × (goes v.number (Some (after (part_kind line))) rest ≡ Some form.Top)
goes-on v s line rest e = by (may v.number s (part_kind line)) e
  where
    by : (b : Bool) → goes v.number (if b then Some (after (part_kind line)) else None) rest ≡ Some form.Top
        → (b ≡ true) × (goes v.number (Some (after (part_kind line))) rest ≡ Some form.Top)
    by true e = (refl, e)
    by false e = absurd (none-some form.Top (sym (goes_none (list_rules v.number) rest) ∙ e))

-- lines of the form that lead to a place by their rules leave lines that end the form from there
left-goes : (v : Version) (ps : List Subject) (p q : Place) (xs ys : List Part) → Go v ps p xs q
    → goes v.number (Some (state_of p)) (xs ++ ys) ≡ Some form.Top → goes v.number (Some (state_of q)) ys ≡ Some form.Top
left-goes v ps p q [] ys g e = subst (λ z. goes v.number (Some (state_of z)) ys ≡ Some form.Top) (sym g) e
left-goes v ps p q (x ∷ xs) ys g e =
    left-goes v ps g.0 q xs ys g.2 (subst (λ z. goes v.number (Some z) (xs ++ ys) ≡ Some form.Top) (sym (leads v ps p x g.0 g.1))
    (goes-on v (state_of p) x (xs ++ ys) e).1)

-- ---- a line
-- a line with a name leads into the part of the next predicate where it is that predicate's
pub named-part : (v : Version) (cs : List Case) (d : Progress) (c : Case) (name : List ℕ) (ok : Bool) (here : Place) → slice_get cs d.parts ≡ Some c
    → (IsTrue ok ↔ (name_bytes c.shape.now.name ≡ name)) → MayStand v (state_of here) (Predicate name) → IsHere (subjects_of cs) d here
    → PlaceStep v (subjects_of cs) here (Predicate name) ok d
named-part v cs d c name true (Outside parts) g n m i =
    let there : slice_get (subjects_of cs) (length parts) ≡ Some (subject_of c) =
    subst (λ k. slice_get (subjects_of cs) k ≡ Some (subject_of c)) i (subject-at cs d.parts c g) in
    (Within parts Named, record { subject = subject_of c; there = there; named = n.0 refl; to = refl }, (i, subject_of c, there, tt))
named-part v cs d c name false (Outside parts) g n m i =
    let there : slice_get (subjects_of cs) (length parts) ≡ Some (subject_of c) =
    subst (λ k. slice_get (subjects_of cs) k ≡ Some (subject_of c)) i (subject-at cs d.parts c g) in
    λ q r. not-true _ (n.1 (ap (λ (x : Subject). x.name) (same_Some (subject_of c) r.subject (sym there ∙ r.there)) ∙ r.named))
named-part v cs d c name ok (Within parts (Between f (b ∷ bs))) g n m i = cc
named-part v cs d c name ok (Within parts s) g n m i = cc

-- a case has as many orders as there are orders of its sites
pub case-orders : (c : Case) → IsCase c → length c.orders ≡ length (orders_of c.shape.now.sites)
case-orders c k = sym (length-map c.orders order_places) ∙ ap length k.ordered

-- ---- within a part
-- the predicate at hand is that of the number of parts
at-hand : (ps : List Subject) (i j : ℕ) (p q : Subject) → i ≡ j → slice_get ps i ≡ Some p → slice_get ps j ≡ Some q → p ≡ q
at-hand ps i j p q e f g = same_Some p q (sym f ∙ ap (λ k. slice_get ps k) e ∙ g)

part-yes : (v : Version) (p : Subject) (parts : List Written) (s t : Spot) (line : Part) → LineRule v p s line t → PartRule v p parts s line (Within parts t)
part-yes v p parts (Ordering w) t Done r = absurd r
part-yes v p parts s t line r = (t, r, refl)

part-no : (v : Version) (p : Subject) (parts : List Written) (s : Spot) (line : Part) (q : Place) → (line ≡ Done → ⊥)
    → ((t : Spot) → LineRule v p s line t → ⊥) → PartRule v p parts s line q → ⊥
part-no v p parts (Ordering w) Done q n h r = absurd (n refl)
part-no v p parts s line q n h r = h r.0 r.1

-- a line other than `done` leads the listing where it leads the part of the predicate at hand
pub within-part : (v : Version) (cs : List Case) (old new : Progress) (c : Case) (line : Part) (ok : Bool) (here : Place) → slice_get cs old.parts ≡ Some c
    → ((name : List ℕ) → line ≡ Predicate name → ⊥) → (line ≡ Done → ⊥) → Leads v (subject_of c) old line ok new → MayStand v (state_of here) line
    → IsHere (subjects_of cs) old here → PlaceStep v (subjects_of cs) here line ok new
within-part v cs old new c (Predicate name) ok (Outside parts) g a n h m i = absurd (a name refl)
within-part v cs old new c line ok (Outside parts) g a n h m i = cc
within-part v cs old new c line true (Within parts s) g a n h m i =
    let ps : List Subject = subjects_of cs in
    let e : subject_of c ≡ i.1 = at-hand ps old.parts (length parts) (subject_of c) i.1 i.0 (subject-at cs old.parts c g) i.2 in
    let r = subst (λ (p : Subject). Leads v p old line true new) e h s m i.3 in
    (Within parts r.1.0, (i.1, i.2, part-yes v i.1 parts s r.1.0 line r.1.1), (r.0 ∙ i.0, i.1, i.2, r.1.2))
within-part v cs old new c line false (Within parts s) g a n h m i =
    let ps : List Subject = subjects_of cs in
    let e : subject_of c ≡ i.1 = at-hand ps old.parts (length parts) (subject_of c) i.1 i.0 (subject-at cs old.parts c g) i.2 in
    let r = subst (λ (p : Subject). Leads v p old line false new) e h s m i.3 in
    (λ q k. part-no v i.1 parts s line q n r.1 (subst (λ (p : Subject). PartRule v p parts s line q) (same_Some k.0 i.1 (sym k.1 ∙ i.2)) k.2))

-- and so does `done`
pub done-part : (v : Version) (cs : List Case) (old new : Progress) (c : Case) (ok : Bool) (here : Place) → slice_get cs old.parts ≡ Some c
    → Finished (subject_of c) old ok new → MayStand v (state_of here) Done → IsHere (subjects_of cs) old here → PlaceStep v (subjects_of cs) here Done ok new
done-part v cs old new c true (Within parts (Ordering w)) g h m i =
    let ps : List Subject = subjects_of cs in
    let e : subject_of c ≡ i.1 = at-hand ps old.parts (length parts) (subject_of c) i.1 i.0 (subject-at cs old.parts c g) i.2 in
    let f = subst (λ (p : Subject). Finished p old true new) e h in (
      Outside (parts ++ w ∷ []),
      (i.1, i.2, record { all = sym i.3.2 ∙ f.0; to = refl }),
      f.1 ∙ ap (λ n. n + 1) i.0 ∙ sym (length-append parts (w ∷ [])),
    )
done-part v cs old new c false (Within parts (Ordering w)) g h m i =
    let ps : List Subject = subjects_of cs in
    λ q k.
    let e : subject_of c ≡ k.0 = at-hand ps old.parts (length parts) (subject_of c) k.0 i.0 (subject-at cs old.parts c g) k.1 in
    subst (λ (p : Subject). Finished p old false new) e h (i.3.2 ∙ k.2.all)
done-part v cs old new c ok (Within parts (Between f (b ∷ bs))) g h m i = cc
done-part v cs old new c ok (Within parts s) g h m i = cc
done-part v cs old new c ok (Outside parts) g h m i = cc

-- ---- the loop
module _ (v : Version) (ps : List Subject) (d : Progress) where
  -- where a predicate lacks its part, the lines may not end
  pub here-lacks : (d.parts ≡ length ps → ⊥) → (here : Place) → IsHere ps d here → Lacks ps here
  here-lacks a (Outside parts) i = λ e. a (i ∙ e)
  here-lacks a (Within parts s) i = tt

  module _ (lines rest : List Part) (n : ℕ) (whole : HaveForm v lines) (r : Reached (judge_of v ps) (Outside []) (IsHere ps d) lines rest n) where
    -- the lines that are left end the form from the place that those before lead to
    left-form : goes v.number (Some (state_of r.here)) rest ≡ Some form.Top
    left-form = left-goes v ps (Outside []) r.here r.done rest r.come (subst (HaveForm v) r.same whole)

    -- the next line is allowed there
    pub allowed : (line : Part) (behind : List Part) → rest ≡ line ∷ behind
        → Reached (judge_of v ps) (Outside []) (λ p. MayStand v (state_of p) line × IsHere ps d p) lines rest n
    allowed line behind e = record {
      done = r.done;
      here = r.here;
      same = r.same;
      number = r.number;
      come = r.come;
      is = (
        (goes-on v (state_of r.here) line behind (subst (λ z. goes v.number (Some (state_of r.here)) z ≡ Some form.Top) e left-form)).0,
        r.is,
      );
    }

    -- at the end of the file, after the parts of all predicates, the lines are valid
    pub here-whole : rest ≡ [] → d.parts ≡ length ps → IsValid v ps lines
    here-whole z o =
        go r.here (subst (λ x. goes v.number (Some (state_of r.here)) x ≡ Some form.Top) z left-form) r.is
        (subst (λ x. Go v ps (Outside []) x r.here) (sym (r.same ∙ ap (λ x. r.done ++ x) z ∙ append-nil r.done)) r.come)
      where
        go : (here : Place) → Some (state_of here) ≡ Some form.Top → IsHere ps d here → Go v ps (Outside []) lines here → IsValid v ps lines
        go (Outside parts) e h g = record { parts = parts; good = g; all = sym h ∙ o }
        go (Within parts (Between f (b ∷ bs))) e h g = cc
        go (Within parts s) e h g = cc

-- lines of the form that are taken one by one lead to a place where the next one is allowed
pub midway-allowed : (v : Version) (ps : List Subject) (d : Progress) (Left More : List Entry → Type 0) (es : List Entry) (n : ℕ) (x : Entry)
    → HaveForm v (parts_of es) → Midway (judge_of v ps) (Outside []) parts_of (IsHere ps d) Left es n
    → ((xs : List Entry) → Left xs → (behind : List Entry) × (xs ≡ x ∷ behind) × More behind)
    → Midway (judge_of v ps) (Outside []) parts_of (λ p. MayStand v (state_of p) x.part × IsHere ps d p) Left es n
midway-allowed v ps d Left More es n x whole m t =
    let k = t m.rest m.left in
    record {
      rest = m.rest;
      left = m.left;
      reached = allowed v ps d (parts_of es) (parts_of m.rest) n whole m.reached x.part (parts_of k.0) (ap parts_of k.1);
    }
