-- The bytes of a listing, and where they stop being one.
use Rattle.std.proofs.Common.{◌≡◌, ℕ, ◌+◌, List, [], ◌∷◌, ◌++◌, drop, ◌⊎◌, inl, inr, refl, sym, ap, ◌∙◌, subst, arith, length, length-append}
use Rattle.std.specs.Prelude.{codes, Option, Some, None}
use Rattle.ln_base.specs.Lines.{joined, lines}
use Rattle.ln_base.proofs.Texts.Lines.{joined_lines}
use Rattle.ln_base.proofs.Texts.Lists.{head, rest}
use Rattle.ln_base.specs.declared.lines.stop.TextStop.{TextStop}
use Rattle.ln_base.specs.declared.lines.stop.TextStop.TheVariants.{Form, NoMemory}
use Rattle.ln_base.specs.Forms.Form as form
use Rattle.ln_base.specs.Forms.Unread.{IsFirst, NoFirst}
use Rattle.ln_base.specs.Forms.Unread as left
use Rattle.ln_base.proofs.Forms.Fault.{one_whole}
use Rattle.ln_base.proofs.Forms.OneFault.{fault_first, fault_of, no_whole}
use Rattle.ln_base.proofs.Forms.OneFault as fault
use Rattle.ln_base.proofs.Forms.Walk.{lines_of_text}
use Rattle.ln_cert.specs.declared.part.Part.{Part}
use Rattle.ln_cert.specs.declared.part.State.{State}
use Rattle.ln_cert.specs.Listing.{IsFormFault, IsWhole, ListText, first_line, texts_of, AreNumbered, parts_of}
use Rattle.ln_cert.specs.Reading.{list_rules}
use Rattle.ln_cert.specs.Stop.{Stops}
use Rattle.ln_cert.specs.Unread.{IsOpened, AreLeft, HaveEntries, IsTaken, Takes, Unread, rest_of}
use Rattle.ln_cert.proofs.Reading.OneLine.{list_sound}
use Rattle.ln_cert.proofs.Reading.Walk.{is_form, whole}
use Rattle.ln_base.specs.Forms.Source as source
use Rattle.ln_base.proofs.Forms.Left as all
use Rattle.ln_cert.specs.declared.part.Entry.{Entry}

-- a version that a listing may have
abbrev Known : ℕ → Type 0
Known v = (v ≡ 1) ⊎ (v ≡ 2)

version_of : (v w : ℕ) → first_line v ≡ first_line w → v ≡ w
version_of v w e = let h : 48 + v ≡ 48 + w = head (rest (rest (rest (rest (rest (rest (rest (rest e)))))))) in omega arith

-- lines that lead from the start back to it are a listing, and those of a listing do so
to_whole : (v : ℕ) → Known v → (texts : List (List ℕ)) → form.IsWhole (list_rules v) texts → IsWhole texts
to_whole v k texts w =
    record { version = v; parts = w.read; listing = record { known = k; form = is_form v w.read k w.leads; ranges = w.ranges }; same = w.same }

of_whole : (v : ℕ) (xs : List (List ℕ)) → IsWhole (first_line v ∷ xs) → form.IsWhole (list_rules v) (first_line v ∷ xs)
of_whole v xs w = subst (λ n. form.IsWhole (list_rules n) (first_line v ∷ xs)) (sym (version_of v w.version (head w.same)))
    (record { read = w.parts; ranges = w.listing.ranges; leads = whole w.version w.listing.form; same = w.same })

first_behind : (v : ℕ) → Known v → (more : List ℕ) → lines (first_line v ++ more) ≡ first_line v ∷ lines more
first_behind v (inl e) more = subst (λ n. lines (first_line n ++ more) ≡ first_line n ∷ lines more) (sym e) refl
first_behind v (inr e) more = subst (λ n. lines (first_line n ++ more) ≡ first_line n ∷ lines more) (sym e) refl

-- the lines of the text of a listing are all of it
whole_of : (bs : List ℕ) (v : ℕ) (ps : List Part) → ListText bs v ps → form.IsWhole (list_rules v) (lines bs)
whole_of bs v ps t = record {
  read = ps;
  ranges = t.listing.ranges;
  leads = whole v t.listing.form;
  same = ap lines t.text ∙ lines_of_text (list_rules v) (list_sound v) (first_behind v t.listing.known) ps t.listing.ranges;
}

-- what has a form fault is the text of no listing
pub no_text : (bs : List ℕ) (at v : ℕ) (ps : List Part) → IsFormFault bs at → ListText bs v ps → ⊥
no_text bs at v ps f t = no_whole IsWhole bs at f (to_whole v t.listing.known (lines bs) (whole_of bs v ps t))

-- bytes are the text of one listing at most
pub one_text : (bs : List ℕ) (v w : ℕ) (xs ys : List Part) → ListText bs v xs → ListText bs w ys → (v ≡ w) × (xs ≡ ys)
unfolding whole_of
one_text bs v w xs ys s t =
    let k = version_of v w (head (sym (whole_of bs v xs s).same ∙ (whole_of bs w ys t).same)) in
    let u : ListText bs v ys = subst (λ n. ListText bs n ys) (sym k) t in
    (k, one_whole (list_rules v) (list_sound v) (lines bs) (whole_of bs v xs s) (whole_of bs v ys u))

-- bytes have one form fault at most
pub one_fault : (bytes : List ℕ) (m n : ℕ) → IsFormFault bytes m → IsFormFault bytes n → m ≡ n
one_fault bytes m n f g = fault.one_fault IsWhole bytes m n f g

-- a form fault is why no listing is read of the bytes
stops_at : (bs : List ℕ) (at : ℕ) → IsFormFault bs at → Stops bs (Form at)
stops_at bs at f = (f, λ v ps t. no_text bs at v ps f t)

-- where the reader of lines stops after the first line, no listing is read
pub stops : (bs : List ℕ) (v behind : ℕ) (e : TextStop) → Known v → lines bs ≡ first_line v ∷ lines (drop behind bs) → left.Stops (list_rules v) bs e
    → Stops bs e
stops bs v behind (Form at) k q f =
    stops_at bs at (fault_of (form.IsWhole (list_rules v)) IsWhole bs (first_line v) (lines (drop behind bs)) at q (to_whole v k) (of_whole v) f)
stops bs v behind (NoMemory m) k q f = tt

-- where it doesn't, the bytes are a listing
pub opened : (bs : List ℕ) (v : ℕ) (r : left.Unread State) → Known v → left.IsOpened (list_rules v) bs r
    → IsOpened bs (record { version = v; state = r.state; line = r.line; text = r.text })
unfolding to_whole
opened bs v r k o = record {
  parts = o.whole.read;
  listing = record { listing = (to_whole v k (lines bs) o.whole).listing; text = sym (joined_lines bs) ∙ ap joined o.whole.same };
  left = o.left;
  second = o.second;
}

-- ---- the first line
-- where the bytes begin with no first line of a listing, the form fault is at line 1
none_first : (bs : List ℕ) → ((v : ℕ) (ts : List (List ℕ)) → Known v → lines bs ≡ first_line v ∷ ts → ⊥) → Stops bs (Form 1)
none_first bs f = stops_at bs 1 (fault_first IsWhole bs
    (texts_of 2 [], to_whole 2 (inr refl) (texts_of 2 []) (record { read = []; ranges = tt; leads = refl; same = refl }))
    (λ w. let e = w.same in absurd (cc)) (λ t ts more e w. f w.version ts w.listing.known (e ∙ ap (λ (x : List ℕ). x ∷ ts) (head w.same))))

-- it is another
pub other_first : (bs first : List ℕ) (count : ℕ) → IsFirst bs first count → ((v : ℕ) → Known v → first ≡ first_line v → ⊥) → Stops bs (Form 1)
other_first bs first count h f = none_first bs (λ v ts k e. f v k (head (sym h.same ∙ e)))

-- it has no line feed
pub open_first : (bs : List ℕ) → NoFirst bs → Stops bs (Form 1)
open_first bs f = none_first bs (λ v ts k e. f (codes "listing " ++ (48 + v) ∷ []) ts e)

-- with one entry more at the end, its line is the last one
parts_more : (es : List Entry) (e : Entry) → parts_of (es ++ (e ∷ [])) ≡ parts_of es ++ (e.part ∷ [])
parts_more [] e = refl
parts_more (x ∷ es) e = ap (λ w. x.part ∷ w) (parts_more es e)

-- entries stay numbered when one more is appended with the next number
numbered_more : (n : ℕ) (es : List Entry) (e : Entry) → AreNumbered n es → e.line ≡ n + length es → AreNumbered n (es ++ (e ∷ []))
numbered_more n [] e a l = (omega arith, tt)
numbered_more n (x ∷ es) e a l = (a.0, numbered_more (n + 1) es e a.1 (omega arith))

-- what the loop keeps
pub record Gathered (old now : Unread) (es : List Entry) : Type 0 where
  pub parts : all.Gathered (list_rules old.version) (list_rules now.version) (rest_of old) (rest_of now) (parts_of es)
  pub numbered : AreNumbered old.line es
  pub counted : now.line ≡ old.line + length es

-- the step of that loop: one more line is taken
pub gathered_more : (old u w : Unread) (es ds : List Entry) (e : Entry) → Gathered old u es → IsTaken u e w → ds ≡ es ++ (e ∷ []) → Gathered old w ds
gathered_more old u w es ds e g t q = record {
  parts = all.gathered_more (list_rules old.version) (list_rules u.version) (list_rules w.version) (rest_of old) (rest_of u) (rest_of w)
      (parts_of es) (parts_of ds) e.part g.parts t.goes_on (ap parts_of q ∙ parts_more es e);
  numbered = subst (AreNumbered old.line) (sym q) (numbered_more old.line es e g.numbered (t.number ∙ g.counted));
  counted = omega (arith, t.next, g.counted, ap length q, length-append es (e ∷ []));
}

no_entry : (es : List Entry) → parts_of es ≡ [] → es ≡ []
no_entry [] e = refl
no_entry (x ∷ es) e = cc

-- the next entry is taken where the next line is, and none is left where no line is
pub takes_entry : (u w : Unread) (o : Option Entry) → Takes u o w
    → source.Takes (λ (e : Entry). e) HaveEntries (λ (x : Unread). x.line) (λ (x : Unread). length x.text) u o w
takes_entry u w None t = (λ es h. no_entry es (t.0 (parts_of es) h.0), ap (λ (x : Unread). x.line) t.1)
takes_entry u w (Some e) t = record { goes_on = go; number = t.next; smaller = t.shorter } where
  go : (es : List Entry) → HaveEntries u es → (behind : List Entry) × (es ≡ e ∷ behind) × HaveEntries w behind
  go [] h = let k = t.goes_on [] h.0 in let f : [] ≡ e.part ∷ k.behind = k.first in absurd (cc)
  go (x ∷ es) h =
      let k = t.goes_on (x.part ∷ parts_of es) h.0 in
      let p : x.part ≡ e.part = head k.first in
      let l : x.line ≡ e.line = h.1.0 ∙ sym t.number in (
        es,
        λ i. record { line = l i; part = p i } ∷ es,
        (subst (AreLeft w) (sym (rest k.first)) k.left, subst (λ n. AreNumbered n es) (sym t.next) h.1.1),
      )
