-- Listings of a table: its subjects, and the two results.
use Rattle.std.proofs.Common.{◌≡◌, ◌↔◌, ℕ, ◌<◌, ◌≤◌, ◌+◌, Bool, List, [], ◌∷◌, ◌++◌, length, map, take, get_or, refl, sym, ◌∙◌, ap, arith, subst, if◌then◌else◌}
use Rattle.std.proofs.Common.{◌&&◌, ◌⊎◌, inl, inr, true}
use Rattle.std.specs.Prelude.{All, None, Option, Some, Err, IfErr, Ok, Result}
use Rattle.std.proofs.lemmas.Bool.{ne_eqb, and_parts}
use Rattle.std.proofs.lemmas.List.{length-map, take_all, take_more}
use Rattle.std.proofs.lemmas.Option.{none-some, same_Some}
use Rattle.std.proofs.lemmas.List.Elements.{All-nil, All-push}
use Rattle.ln_base.specs.Limits.{most_file}
use Rattle.ln_base.proofs.Forms.Walk.{few_lines, goes_none}
use Rattle.ln_tree.specs.declared.pred.Pred.{Pred}
use Rattle.ln_tree.specs.declared.shape.Shape.{Shape}
use Rattle.ln_tree.specs.Names.{name_bytes}
use Rattle.ln_tree.specs.Table.{PredOf, pred_of, CoordOf, SiteOf}
use Rattle.ln_poly.specs.Expansion.{IsNormal}
use Rattle.ln_poly.specs.OfPred.{root_of}
use Rattle.ln_cert.specs.declared.part.Entry.{Entry}
use Rattle.ln_cert.specs.Listing.{Kept, Listed, parts_of, AreNumbered, IsFormFault, ListText}
use Rattle.ln_cert.specs.declared.part.Part.TheVariants.{Predicate}
use Rattle.ln_cert.specs.Reading.{goes, list_rules}
use Rattle.ln_cert.specs.declared.part.State.{State}
use Rattle.ln_cert.specs.declared.part.State.TheVariants.{Top}
use Rattle.ln_cert.proofs.Reading.Walk.{whole}
use Rattle.ln_verify.specs.BlockRules.{Version, version_1, version_2}
use Rattle.ln_verify.specs.Here.{HaveForm, IsAnswer, IsCase, subject_of, subjects_of}
use Rattle.ln_verify.specs.Judge.{IsFirstFault, IsValid}
use Rattle.ln_verify.specs.Line.{Subject}
use Rattle.ln_verify.specs.Verified.{AreSubjectsOf, IsFaultFor, IsSubjectOf, IsValidFor, judged_of, rules_of, IsTextFaultFor, IsValidTextFor, form, rule}
use Rattle.ln_verify.specs.Verified.{PartsAreNamed}
use Rattle.ln_verify.specs.declared.case.Case.{Case}
use Rattle.ln_verify.specs.declared.listings.Judged.{Judged}
use Rattle.ln_verify.specs.declared.listings.Judged.TheVariants.{Valid, Invalid}
use Rattle.ln_verify.proofs.Validity.One.{one-answer}
use Rattle.ln_stage.proofs.Results.SamePoly.{one-normal}
use Rattle.ln_cert.specs.declared.part.Part.{Part}
use Rattle.ln_base.specs.declared.lines.stop.TextStop.{TextStop as ListStop}
use Rattle.ln_base.specs.declared.lines.stop.TextStop.TheVariants.{Form}
use Rattle.ln_cert.specs.Stop.{Stops}
use Rattle.ln_cert.specs.Unread.{AreLeft, HaveEntries, IsOpened, Unread}
use Rattle.ln_cert.proofs.Reading.Whole.{no_text, one_fault, one_text}
use Rattle.std.specs.List.{list_all}
use Rattle.std.proofs.lemmas.Slice.Eq.{bytes_eq-Decides}
use Rattle.ln_tree.specs.Whole.{pred_whole}

-- ---- a predicate has one subject
subject-one : (p : PredOf) (s t : Subject) → IsSubjectOf p s → IsSubjectOf p t → s ≡ t
subject-one p s t h k =
    let a : s.name ≡ t.name = h.name ∙ sym k.name in
    let b : s.sites ≡ t.sites = h.sites ∙ sym k.sites in
    let c : s.vars ≡ t.vars = h.vars ∙ sym k.vars in
    let d : s.poly ≡ t.poly = one-normal (length p.vars) (root_of p) s.poly t.poly h.normal k.normal in
    λ i. record { name = a i; sites = b i; vars = c i; poly = d i }

-- and so predicates have one list of subjects
pub subjects-one : (ps : List PredOf) (ss ts : List Subject) → AreSubjectsOf ps ss → AreSubjectsOf ps ts → ss ≡ ts
subjects-one [] [] [] h k = refl
subjects-one [] [] ts h k = absurd k
subjects-one (p ∷ ps) (s ∷ ss) [] h k = absurd k
subjects-one (p ∷ ps) (s ∷ ss) (t ∷ ts) h k = let a = subject-one p s t h.0 k.0 in let b = subjects-one ps ss ts h.1 k.1 in λ i. a i ∷ b i
subjects-one ps ss ts h k = absurd h

-- ---- the loop over the predicates
-- a case with the shape of a predicate and its normal polynomial has its subject
pub case-subject : (p : Pred) (c : Case) → c.shape.now ≡ p.shape → IsNormal (length p.shape.vars) (root_of (pred_of p)) c.poly.now
    → IsSubjectOf (pred_of p) (subject_of c)
case-subject p c e n =
    record { name = ap (λ (s : Shape). name_bytes s.name) e; sites = ap (λ (s : Shape). s.sites) e; vars = ap (λ (s : Shape). s.vars) e; normal = n }

subjects-more : (ps : List Pred) (p : Pred) (cs : List Case) (c : Case) → AreSubjectsOf (map pred_of ps) (subjects_of cs)
    → IsSubjectOf (pred_of p) (subject_of c) → AreSubjectsOf (map pred_of (ps ++ p ∷ [])) (subjects_of (cs ++ c ∷ []))
subjects-more [] p [] c h k = (k, tt)
subjects-more (q ∷ ps) p (b ∷ cs) c h k = (h.0, subjects-more ps p cs c h.1 k)
subjects-more ps p cs c h k = absurd h

subjects-next : (ps : List Pred) (i : ℕ) (p : Pred) (cs : List Case) (c : Case) → i < length ps → p ≡ get_or ps i p
    → AreSubjectsOf (map pred_of (take i ps)) (subjects_of cs) → IsSubjectOf (pred_of p) (subject_of c)
    → AreSubjectsOf (map pred_of (take (i + 1) ps)) (subjects_of (cs ++ c ∷ []))
subjects-next ps i p cs c l e h k =
    let q : take i ps ++ p ∷ [] ≡ take (i + 1) ps = ap (λ (x : Pred). take i ps ++ x ∷ []) e ∙ sym (take_more ps i p l) in
    subst (λ (xs : List Pred). AreSubjectsOf (map pred_of xs) (subjects_of (cs ++ c ∷ []))) q (subjects-more (take i ps) p cs c h k)

-- what the loop keeps: a case for each of the first predicates
abbrev pub Made : List Pred → ℕ → List Case → Type 0
Made ps i cs = All IsCase cs × AreSubjectsOf (map pred_of (take i ps)) (subjects_of cs)

-- before the first predicate there is no case
pub cases-first : (ps : List Pred) (cs : List Case) → cs ≡ [] → Made ps 0 cs
cases-first ps cs e = subst (Made ps 0) (sym e) (All-nil IsCase, tt)

-- the step of the loop in `cases_of`: one case more
pub cases-next : (ps : List Pred) (i : ℕ) (p : Pred) (cs ds : List Case) (c : Case) → i < length ps → p ≡ get_or ps i p → ds ≡ cs ++ c ∷ []
    → Made ps i cs → IsCase c → IsSubjectOf (pred_of p) (subject_of c) → Made ps (i + 1) ds
cases-next ps i p cs ds c l e q h k s = subst (Made ps (i + 1)) (sym q) (All-push IsCase cs c h.0 k, subjects-next ps i p cs c l e h.1 s)

-- at the end of the loop there is a case for each predicate
pub cases-whole : (ps : List Pred) (i : ℕ) (cs : List Case) → length ps ≤ i → Made ps i cs → AreSubjectsOf (map pred_of ps) (subjects_of cs)
cases-whole ps i cs l h = subst (λ (xs : List Pred). AreSubjectsOf (map pred_of xs) (subjects_of cs)) (take_all i ps l) h.1

-- ---- versions
-- the rules of a listing of version 1 are those of version 1
pub rules-1 : (n : ℕ) → n ≡ 1 → version_1 ≡ rules_of n
rules-1 n e = sym (ap rules_of e)

-- the rules of a listing of any other version are those of version 2
pub rules-2 : (n : ℕ) → (n ≡ 1 → ⊥) → version_2 ≡ rules_of n
rules-2 n h = sym (ap (λ (b : Bool). if b then version_1 else version_2) (ne_eqb n 1 h))

-- ---- the two results
-- the result is right about a listing for these predicates
abbrev pub IsRight : List PredOf → Listed → Judged → Type 0
IsRight ps l j = ((j ≡ Valid) ↔ IsValidFor ps l) × ((n : ℕ) → (j ≡ Invalid n) ↔ IsFaultFor ps l n)

module _ (ps : List PredOf) (l : Listed) (v : Version) (ss : List Subject) (e : v ≡ rules_of l.version) (those : AreSubjectsOf ps ss) where
  own : (P : Version → List Subject → Type 0) (ts : List Subject) → AreSubjectsOf ps ts → P (rules_of l.version) ts → P v ss
  own P ts h p = subst (λ (w : Version). P w ss) (sym e) (subst (P (rules_of l.version)) (subjects-one ps ts ss h those) p)

  own-fault : (n : ℕ) → IsFaultFor ps l n → IsFirstFault v ss (parts_of l.entries) n
  own-fault n k = own (λ w ts. IsFirstFault w ts (parts_of l.entries) n) k.subjects k.those k.fault

  -- the result for what was judged of the lines is right
  pub judged-right : (o : Option ℕ) → IsAnswer v ss (parts_of l.entries) o → IsRight ps l (judged_of o)
  judged-right None h = (
    (λ q. record { subjects = ss; those = those; valid = subst (λ (w : Version). IsValid w ss (parts_of l.entries)) e h }, λ k. refl),
    λ n. (λ q. cc, λ k. absurd (one-answer.not_both v ss (parts_of l.entries) n h (own-fault n k))),
  )
  judged-right (Some m) h = (
    (
      λ q. cc,
      λ k. absurd (one-answer.not_both v ss (parts_of l.entries) m
          (own (λ w ts. IsValid w ts (parts_of l.entries)) k.subjects k.those k.valid) h),
    ),
    λ n. (
      λ q. let i : m ≡ n = cc in
          record {
            subjects = ss;
            those = those;
            fault = subst (λ (w : Version). IsFirstFault w ss (parts_of l.entries) n) e (subst (IsFirstFault v ss (parts_of l.entries)) i h);
          },
      λ k. ap Invalid (one-answer.one v ss (parts_of l.entries) m n h (own-fault n k)),
    ),
  )

-- where entries were judged, which are the listing's, with the cases that were made, the result is right about the listing
pub verified : (ps : List PredOf) (l : Listed) (v : Version) (cs xs : List Case) (es : List Entry) (o : Option ℕ) (j : Judged) → v ≡ rules_of l.version
    → AreSubjectsOf ps (subjects_of cs) → xs ≡ cs → es ≡ l.entries → j ≡ judged_of o → IsAnswer v (subjects_of xs) (parts_of es) o → IsRight ps l j
verified ps l v cs xs es o j e those a b q h =
    subst (IsRight ps l) (sym q) (judged-right ps l v (subjects_of cs) e those o
    (subst (λ (ys : List Entry). IsAnswer v (subjects_of cs) (parts_of ys) o) b (subst (λ (ys : List Case). IsAnswer v (subjects_of ys) (parts_of es) o) a h)))

-- a listing has no more lines than its text has bytes
pub entries-few : (l : Listed) → Kept l → length l.entries ≤ most_file
entries-few l k = omega (
  arith,
  k.short,
  few_lines (list_rules l.version) k.bytes (parts_of l.entries) k.text.text,
  length-map l.entries (λ (e : Entry). e.part),
)

-- ---- the form
-- the rules of a version have its number
number-is : (v : Version) (n : ℕ) → v ≡ rules_of n → (n ≡ 1) ⊎ (n ≡ 2) → v.number ≡ n
number-is v n e (inl k) = ap (λ (r : Version). r.number) e ∙ subst (λ m. (rules_of m).number ≡ m) (sym k) refl
number-is v n e (inr k) = ap (λ (r : Version). r.number) e ∙ subst (λ m. (rules_of m).number ≡ m) (sym k) refl

-- the lines of a listing are of the form of its rules
pub form-entries : (v : Version) (l : Listed) (es : List Entry) → v ≡ rules_of l.version → Kept l → es ≡ l.entries → HaveForm v (parts_of es)
form-entries v l es e k s =
    let n : v.number ≡ l.version = number-is v l.version e k.text.listing.known in
    subst (λ (ys : List Entry). HaveForm v (parts_of ys)) (sym s)
    (subst (λ m. goes m (Some Top) (parts_of l.entries) ≡ Some Top) (sym n) (whole l.version k.text.listing.form))

-- what leads to the end of a listing, and does so from the top, is read from the top
from-top : (n : ℕ) (s : State) (xs : List Part) → goes n (Some Top) xs ≡ Some Top → goes n (Some s) xs ≡ Some Top → s ≡ Top
from-top n s [] h e = same_Some s Top e
from-top n Top (x ∷ xs) h e = refl
from-top n s (Predicate name ∷ xs) h e = absurd (none-some Top (sym (goes_none (list_rules n) xs) ∙ e))
from-top n s (x ∷ xs) h e = absurd (none-some Top (sym (goes_none (list_rules n) xs) ∙ h))

-- and so are those that are left of its text
pub form-left : (bs : List ℕ) (v : Version) (u : Unread) (es : List Entry) → v ≡ rules_of u.version → IsOpened bs u → HaveEntries u es
    → HaveForm v (parts_of es)
form-left bs v u es e w h =
    let n : v.number ≡ u.version = number-is v u.version e w.listing.listing.known in
    let top : u.state ≡ Top = from-top u.version u.state w.parts (whole u.version w.listing.listing.form) w.left.ends in
    subst (λ m. goes m (Some Top) (parts_of es) ≡ Some Top) (sym n) (subst (λ s. goes u.version (Some s) (parts_of es) ≡ Some Top) top h.0.ends)

-- the result is right about bytes for these predicates
abbrev pub IsRightText : List PredOf → List ℕ → Judged → Type 0
IsRightText ps bs j = ((j ≡ Valid) ↔ IsValidTextFor ps bs) × ((n : ℕ) → (j ≡ Invalid n) ↔ IsTextFaultFor ps bs n)

-- what is judged of a listing is judged of its version and its lines
module _ (ps : List PredOf) (bs : List ℕ) (l : Listed) (t : ListText bs l.version (parts_of l.entries)) where
  as-one : (k : Listed) → ListText bs k.version (parts_of k.entries) → (P : ℕ → List Part → Type 0) → P k.version (parts_of k.entries)
      → P l.version (parts_of l.entries)
  as-one k x P p =
      let e = one_text bs k.version l.version (parts_of k.entries) (parts_of l.entries) x t in
      subst (P l.version) e.1 (subst (λ (n : ℕ). P n (parts_of k.entries)) e.0 p)

  text-valid : IsValidTextFor ps bs → IsValidFor ps l
  text-valid h = record {
    subjects = h.valid.subjects;
    those = h.valid.those;
    valid = as-one h.listing h.text (λ n xs. IsValid (rules_of n) h.valid.subjects xs) h.valid.valid;
  }

  text-fault : (n : ℕ) → IsTextFaultFor ps bs n → IsFaultFor ps l n
  text-fault n (form f) = absurd (no_text bs n l.version (parts_of l.entries) f t)
  text-fault n (rule k x f) =
      record { subjects = f.subjects; those = f.those; fault = as-one k x (λ m xs. IsFirstFault (rules_of m) f.subjects xs n) f.fault }

  -- a result that is right about a listing is right about the bytes of its text
  pub text-right : (j : Judged) → IsRight ps l j → IsRightText ps bs j
  text-right j r = (
    (λ q. record { listing = l; text = t; valid = r.0.0 q }, λ k. r.0.1 (text-valid k)),
    λ n. (λ q. rule l t ((r.1 n).0 q), λ f. (r.1 n).1 (text-fault n f)),
  )

-- where the form fails, the result is right that says so: the bytes are no listing, and this is their only first fault
module _ (ps : List PredOf) (bs : List ℕ) (m : ℕ) (f : IsFormFault bs m) where
  same : (n : ℕ) → IsTextFaultFor ps bs n → m ≡ n
  same n (form g) = one_fault bs m n f g
  same n (rule k t g) = absurd (no_text bs m k.version (parts_of k.entries) f t)

  -- the result `Invalid` with the line at which they stop being a listing
  pub form-right : IsRightText ps bs (Invalid m)
  form-right = (
    (λ q. cc, λ k. absurd (no_text bs m k.listing.version (parts_of k.listing.entries) f k.text)),
    λ n. (λ q. let i : m ≡ n = cc in form (subst (IsFormFault bs) i f), λ k. ap Invalid (same n k)),
  )

-- what stops the reader of lines is a form fault
pub form-of : {L : Type 0} (bs : List ℕ) (r : Result L ListStop) (e : ListStop) (at : ℕ) → r ≡ Err e → e ≡ Form at
    → IfErr r (λ x. Stops bs x) → IsFormFault bs at
form-of bs (Ok l) e at i j h = cc
form-of bs (Err x) e at i j h = let k : x ≡ Form at = cc in (subst (Stops bs) k h).0

-- lines as entries, of which the first has this number
abbrev numbered : ℕ → List Part → List Entry
numbered n [] = []
numbered n (p ∷ ps) = record { line = n; part = p } ∷ numbered (n + 1) ps

parts-back : (n : ℕ) (ps : List Part) → parts_of (numbered n ps) ≡ ps
parts-back n [] = refl
parts-back n (p ∷ ps) = ap (λ (xs : List Part). p ∷ xs) (parts-back (n + 1) ps)

are-numbered : (n : ℕ) (ps : List Part) → AreNumbered n (numbered n ps)
are-numbered n [] = tt
are-numbered n (p ∷ ps) = (refl, are-numbered (n + 1) ps)

-- where the lines of an opened listing were judged with the cases that were made, the result is right about the bytes
pub verified-lines : (ps : List PredOf) (bs : List ℕ) (u : Unread) (v : Version) (cs xs : List Case) (o : Option ℕ) (j : Judged) → IsOpened bs u
    → v ≡ rules_of u.version → AreSubjectsOf ps (subjects_of cs) → xs ≡ cs → j ≡ judged_of o
    → ((es : List Entry) → HaveEntries u es → IsAnswer v (subjects_of xs) (parts_of es) o) → IsRightText ps bs j
verified-lines ps bs u v cs xs o j w e those a q h =
    let es : List Entry = numbered 2 w.parts in
    let l : Listed = record { version = u.version; entries = es } in
    let b : w.parts ≡ parts_of es = sym (parts-back 2 w.parts) in
    text-right ps bs l (subst (ListText bs u.version) b w.listing) j (verified ps l v cs xs es o j e those a refl q
    (h es (subst (AreLeft u) b w.left, subst (λ (n : ℕ). AreNumbered n es) (sym w.second) (are-numbered 2 w.parts))))

-- the first of two tests that hold
first : (a b : Bool) → (a && b) ≡ true → a ≡ true
first a b h = (and_parts a b h).0

-- and the second
second : (a b : Bool) → (a && b) ≡ true → b ≡ true
second a b h = (and_parts a b h).1

-- the shape of a predicate of a table has its name
shape-named : (S : List SiteOf) (P : List CoordOf) (p : PredOf) → pred_whole S P p ≡ true → p.shape_name ≡ p.name
shape-named S P p h =
    let few = first _ _ (first _ _ (first _ _ (first _ _ (first _ _ h)))) in
    (bytes_eq-Decides p.shape_name p.name).0 (first _ _ (first _ _ (first _ _ (first _ _ few))))

each-named : (S : List SiteOf) (P : List CoordOf) (ps : List PredOf) (ss : List Subject) → list_all (pred_whole S P) ps ≡ true → AreSubjectsOf ps ss
    → map (λ (s : Subject). s.name) ss ≡ map (λ (p : PredOf). p.name) ps
each-named S P [] [] h a = refl
each-named S P (p ∷ ps) (s ∷ ss) h a =
    let q = and_parts (pred_whole S P p) (list_all (pred_whole S P) ps) h in
    let here : s.name ≡ p.name = a.0.name ∙ shape-named S P p q.0 in
    let rest = each-named S P ps ss q.1 a.1 in
    λ i. here i ∷ rest i
each-named S P ps ss h a = absurd a

-- in a table the name by which a part is judged is that of its predicate
pub parts_named : PartsAreNamed
parts_named t ss h a = each-named t.sites t.params t.preds ss (second _ _ (first _ _ (first _ _ h))) a
