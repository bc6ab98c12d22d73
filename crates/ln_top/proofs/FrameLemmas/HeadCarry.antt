-- Proves what is carried out after a first text that was written.
use Rattle.std.proofs.Common.{◌≡◌, ◌⊎◌, ℕ, true, false, List, [], ◌++◌, refl, ap, ◌∙◌, inl, inr, Option, Err, Result}
use Rattle.ln_base.specs.Outside.{Shown}
use Rattle.ln_top.specs.declared.frame.status.End.{End}
use Rattle.ln_top.specs.declared.frame.status.Early.{Early}
use Rattle.ln_top.specs.declared.frame.status.Early.TheVariants.{Write}
use Rattle.ln_top.specs.Frame.Said.{Said, broke, put_both, stayed, wrote}
use Rattle.ln_top.specs.Frame.Carried as c
use Rattle.ln_top.specs.Frame.Carried.{CarriesOut, LeavesFronts, LeavesPart, of_owed, of_part, of_read}
use Rattle.ln_top.specs.Frame.Lines.{WroteBoth}
use Rattle.ln_top.proofs.FrameLemmas.Loops.{Streams, faults_in}
use Rattle.ln_top.proofs.FrameLemmas.LinesLaws.{both_twice, broke_off, front_behind, fronts_wider, rises_from}

-- what is said after a first text on Out
abbrev pub after_head : List ℕ → Said → Said
after_head head said = record { end = said.end; out = head ++ said.out; err = said.err }

-- a command that begins with a first text on Out: the text, what is required in all and after it, and the part that may be left in all
-- and after it
pub record Headed : Type 1 where
  pub head : List ℕ
  pub owes : Said → Type 0
  pub rest : Said → Type 0
  pub part : List ℕ → List ℕ → Type 0
  pub more : List ℕ → List ℕ → Type 0

-- what a command has to show: what is required after the first text is required with it, parts too, and something is required
pub record IsHeaded (h : Headed) : Type 0 where
  pub whole : (said : Said) → h.rest said → h.owes (after_head h.head said)
  pub parts : (out err : List ℕ) → h.more out err → h.part (h.head ++ out) err
  pub alone : h.part h.head []
  pub said : Said
  pub owed : h.rest said

-- prefixes that were written after the text
fronts_after : {h : Headed} {was mid now : Option Shown} → IsHeaded h → mid ≡ put_both h.head [] was
    → LeavesFronts h.rest (⊥ ⊎ ⊥) mid now → LeavesFronts h.owes (⊥ ⊎ ⊥) was now
fronts_after {h = h} {was = was} i m (of_owed said out err o f g e) =
    of_owed (after_head h.head said) (h.head ++ out) err (i.whole said o) (front_behind h.head said.out out f) g
    (e ∙ ap (put_both out err) m ∙ both_twice h.head [] out err was)
fronts_after i m (of_read err (inl x) f e) = absurd x
fronts_after i m (of_read err (inr x) f e) = absurd x

-- a part that was left after the text
part_after : {h : Headed} {was mid now : Option Shown} → IsHeaded h → mid ≡ put_both h.head [] was
    → LeavesPart h.rest h.more mid now → LeavesPart h.owes h.part was now
part_after {h = h} i m (c.nothing e) =
    of_part (after_head h.head i.said) h.head [] i.alone (i.whole i.said i.owed) (record { rest = i.said.out; is = refl })
    (record { rest = i.said.err; is = refl }) (e ∙ m)
part_after {h = h} {was = was} i m (of_part said out err p o f g e) =
    of_part (after_head h.head said) (h.head ++ out) err (i.parts out err p) (i.whole said o) (front_behind h.head said.out out f) g
    (e ∙ ap (put_both out err) m ∙ both_twice h.head [] out err was)

-- the text was written, and the rest was carried out after it
pub head_carried : {h : Headed} {result : Result End Early} {was mid now : Streams} → IsHeaded h
    → WroteBoth h.head [] (faults_in was mid) true was.shown mid.shown
    → CarriesOut h.rest h.more ⊥ ⊥ (faults_in mid now) result mid.shown now.shown
    → CarriesOut h.owes h.part ⊥ ⊥ (faults_in was now) result was.shown now.shown
head_carried i (broke d p f) k = cc
head_carried i (stayed q d e) k = absurd d
head_carried {h = h} {was = was} i (wrote p d m) (c.ended said q o r e) =
    c.ended (after_head h.head said) (q ∙ p) (i.whole said o) r
    (e ∙ ap (put_both said.out said.err) m ∙ both_twice h.head [] said.out said.err was.shown)
head_carried i (wrote p d m) (c.unread q (inl a) r e) = absurd a
head_carried i (wrote p d m) (c.unread q (inr a) r e) = absurd a
head_carried {was = was} {mid = mid} {now = now} i (wrote p d m) (c.cut q l r) =
    c.cut (rises_from was.faults mid.faults now.faults p q) (fronts_after i m l) r
head_carried i (wrote p d m) (c.short q l r) = c.short (q ∙ p) (part_after i m l) r

-- the text was cut off
pub head_cut : {h : Headed} {was now : Streams} → IsHeaded h → WroteBoth h.head [] (faults_in was now) false was.shown now.shown
    → CarriesOut h.owes h.part ⊥ ⊥ (faults_in was now) (Err Write) was.shown now.shown
head_cut {h = h} {was = was} {now = now} i w =
    let p = broke_off h.head [] (faults_in was now) was.shown now.shown w in
    let f = fronts_wider h.head [] i.said.out i.said.err was.shown now.shown p.1 in
    c.cut p.0 (of_owed (after_head h.head i.said) f.o f.e (i.whole i.said i.owed) f.of_out f.of_err f.shown) refl
