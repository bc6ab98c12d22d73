-- `verify`: what it requires is carried out by a whole text; a listing is valid or has one fault, and where it ends.
use Rattle.std.proofs.Common.{◌≡◌, ℕ, List, [], ◌∷◌, ◌++◌, refl, ap, subst, Option, Some, None}
use Rattle.std.specs.Prelude.{MatchOption, Result, codes, decimal}
use Rattle.ln_base.specs.Outside.{Shown}
use Rattle.ln_tree.specs.Table.{PredOf}
use Rattle.ln_cert.specs.Listing.{IsFormFault, Listed, parts_of}
use Rattle.ln_cert.proofs.Reading.Whole.{no_text, one_fault, one_text}
use Rattle.ln_verify.specs.Judge.{IsFirstFault}
use Rattle.ln_verify.specs.Line.{Subject}
use Rattle.ln_verify.specs.Verified.{AreSubjectsOf, IsFaultFor, IsTextFaultFor, IsValidFor, IsValidTextFor, rules_of}
use Rattle.ln_verify.specs.Verified as of_text
use Rattle.ln_verify.proofs.Judging.Subjects.{subjects-one}
use Rattle.ln_verify.proofs.Validity.One.{one-answer}
use Rattle.ln_top.specs.declared.frame.status.End.{End}
use Rattle.ln_top.specs.declared.frame.status.End.TheVariants.{Done, Invalid}
use Rattle.ln_top.specs.declared.frame.status.Early.{Early}
use Rattle.ln_top.specs.Frame.Said.{Said, Count, line, whole}
use Rattle.ln_top.specs.Frame.Carried.{CarriesOut, NoPart, PutsText}
use Rattle.ln_top.specs.Frame.Given.{Given}
use Rattle.ln_top.specs.Frame.Work as kind_of
use Rattle.ln_top.specs.Frame.Work.{IsWorkEnd}
use Rattle.ln_top.proofs.FrameLemmas.Carry.{text_carried}
use Rattle.ln_top.proofs.FrameLemmas.Laws.{IsLawful, shape_objects}
use Rattle.ln_top.specs.Judges.Verify.{IsListed, HasValid, HasFault, form, rule, VerifySaid, valid, invalid, VerifyEnds, done, faulty, verify_work}
use Rattle.ln_top.specs.declared.frame.asked.Asked.TheVariants.{Nothing}

-- one file has one text
same_file : (g : Given) (a b : List ℕ) → g.texts ≡ a ∷ [] → g.texts ≡ b ∷ [] → a ≡ b
same_file g a b h k = cc

-- two listings of one file are one
same_listed : (g : Given) (l k : Listed) → IsListed g l → IsListed g k
    → (l.version ≡ k.version) × (parts_of l.entries ≡ parts_of k.entries)
same_listed g l k a b =
    one_text a.bytes l.version k.version (parts_of l.entries) (parts_of k.entries) a.text
    (rw (same_file g a.bytes b.bytes a.file b.file) b.text)

-- a fault is one of any listing of the file, over any subjects of the predicates
fault_of : (ps : List PredOf) (l k : Listed) (n : ℕ) (ss : List Subject) → AreSubjectsOf ps ss → l.version ≡ k.version
    → parts_of l.entries ≡ parts_of k.entries → IsFaultFor ps k n → IsFirstFault (rules_of l.version) ss (parts_of l.entries) n
fault_of ps l k n ss those a b f = rw (a, b, subjects-one ps ss f.subjects those f.those) f.fault

-- a listing isn't valid and at fault
neither : (ps : List PredOf) (l k : Listed) (n : ℕ) → l.version ≡ k.version → parts_of l.entries ≡ parts_of k.entries
    → IsValidFor ps l → IsFaultFor ps k n → ⊥
neither ps l k n a b h f =
    one-answer.not_both (rules_of l.version) h.subjects (parts_of l.entries) n h.valid (fault_of ps l k n h.subjects h.those a b f)

-- and has one first fault
one_rule : (ps : List PredOf) (l k : Listed) (m n : ℕ) → l.version ≡ k.version → parts_of l.entries ≡ parts_of k.entries
    → IsFaultFor ps l m → IsFaultFor ps k n → m ≡ n
one_rule ps l k m n a b h f =
    one-answer.one (rules_of l.version) h.subjects (parts_of l.entries) m n h.fault (fault_of ps l k n h.subjects h.those a b f)

formed : (g : Given) (bytes : List ℕ) (l : Listed) (n : ℕ) → g.texts ≡ bytes ∷ [] → IsFormFault bytes n → IsListed g l → ⊥
formed g bytes l n e f a =
    no_text bytes n l.version (parts_of l.entries) f (rw (same_file g bytes a.bytes e a.file) a.text)

not_valid : (g : Given) (n : ℕ) → HasValid g → HasFault g n → ⊥
not_valid g n h (form bytes e f) = formed g bytes h.listing n e f h.listed
not_valid g n h (rule k b f) = let s = same_listed g h.listing k h.listed b in neither g.table.preds h.listing k n s.0 s.1 h.valid f

one_line : (g : Given) (m n : ℕ) → HasFault g m → HasFault g n → m ≡ n
one_line g m n (form bytes e f) (form others h k) =
    one_fault bytes m n f (rw (same_file g bytes others e h) k)
one_line g m n (form bytes e f) (rule l b k) = absurd (formed g bytes l m e f b)
one_line g m n (rule l a h) (form bytes e f) = absurd (formed g bytes l n e f a)
one_line g m n (rule l a h) (rule k b f) = let s = same_listed g l k a b in one_rule g.table.preds l k m n s.0 s.1 h f

-- what it requires is one
pub one_said : (g : Given) (a b : Said) → VerifySaid g a → VerifySaid g b → a ≡ b
one_said g a b (valid h) (valid k) = refl
one_said g a b (valid h) (invalid n k) = absurd (not_valid g n h k)
one_said g a b (invalid m h) (valid k) = absurd (not_valid g m k h)
one_said g a b (invalid m h) (invalid n k) = ap (λ (x : ℕ). whole Invalid (line (codes "invalid " ++ decimal x))) (one_line g m n h k)

tells : (g : Given) (a : Said) → VerifySaid g a → VerifyEnds g a.end
tells g a (valid h) = done h
tells g a (invalid n h) = faulty n h

one : (g : Given) (a b : End) → VerifyEnds g a → VerifyEnds g b → a ≡ b
one g a b (done h) (done k) = refl
one g a b (done h) (faulty n k) = absurd (not_valid g n h k)
one g a b (faulty m h) (done k) = absurd (not_valid g m k h)
one g a b (faulty m h) (faulty n k) = refl

kind : (g : Given) (e : End) → VerifyEnds g e → IsWorkEnd e
kind g e (done h) = kind_of.done
kind g e (faulty n h) = kind_of.invalid

-- the laws of a work hold for `verify`
pub lawful : IsLawful Nothing verify_work
lawful = record {
  tells = λ boxes. tells;
  single = one;
  kind = kind;
  objects = shape_objects;
  said = λ v boxes g i q. one_said g;
}

-- ---- from the code
-- what was judged are the bytes of the file
pub text_valid : (g : Given) (bytes : List ℕ) (ps : List PredOf) → g.texts ≡ bytes ∷ [] → ps ≡ g.table.preds
    → IsValidTextFor ps bytes → HasValid g
text_valid g bytes ps e q h = record {
  listing = h.listing;
  listed = record { bytes = bytes; file = e; text = h.text };
  valid = subst (λ (x : List PredOf). IsValidFor x h.listing) q h.valid;
}

-- a fault that was found in the bytes of the file is the fault of what is given
pub text_fault : (g : Given) (bytes : List ℕ) (ps : List PredOf) (at : ℕ) → g.texts ≡ bytes ∷ [] → ps ≡ g.table.preds
    → IsTextFaultFor ps bytes at → HasFault g at
text_fault g bytes ps at e q (of_text.form f) = form bytes e f
text_fault g bytes ps at e q (of_text.rule l t f) =
    rule l (record { bytes = bytes; file = e; text = t }) (subst (λ (x : List PredOf). IsFaultFor x l at) q f)

-- what was found is what is said
none_of : (g : Given) (o : Option ℕ) → ((at : ℕ) → o ≡ Some at → ⊥)
    → MatchOption o (HasValid g) (λ at. HasFault g at) → HasValid g
none_of g None n h = h
none_of g (Some at) n h = absurd (n at refl)

-- where no fault was found, writing the line `valid` carries out what is required
pub valid_carried : (g : Given) (o : Option ℕ) (puts : Count) (result : Result End Early) (was now : Option Shown)
    → ((at : ℕ) → o ≡ Some at → ⊥) → MatchOption o (HasValid g) (λ at. HasFault g at)
    → PutsText (line (codes "valid")) Done puts result was now → CarriesOut (VerifySaid g) NoPart ⊥ ⊥ puts result was now
valid_carried g o puts result was now n h p =
    text_carried (VerifySaid g) NoPart ⊥ ⊥ puts Done (line (codes "valid")) result was now (valid (none_of g o n h)) p

-- where a fault was found, writing the line `invalid LINE` carries out what is required
pub fault_carried : (g : Given) (o : Option ℕ) (at : ℕ) (text : List ℕ) (puts : Count) (result : Result End Early)
    (was now : Option Shown) → o ≡ Some at → MatchOption o (HasValid g) (λ k. HasFault g k)
    → text ≡ line (codes "invalid " ++ decimal at) → PutsText text Invalid puts result was now
    → CarriesOut (VerifySaid g) NoPart ⊥ ⊥ puts result was now
fault_carried g o at text puts result was now e h t p =
    text_carried (VerifySaid g) NoPart ⊥ ⊥ puts Invalid (line (codes "invalid " ++ decimal at)) result was now
    (invalid at (rw e at h)) (rw t at p)
