-- The text of the file of programs, program by program.
use Rattle.std.proofs.Common.{◌≡◌, ℕ, ◌+◌, ◌<◌, ◌≤◌, List, [], ◌∷◌, ◌++◌, append_assoc, append-nil, get_or, length, map, take, refl, sym, ap, ◌∙◌, subst}
use Rattle.std.proofs.lemmas.List.{map-append, take_all, take_more}
use Rattle.ln_code.specs.Kept.{ArePrograms, IsProgram}
use Rattle.ln_code.specs.Part.{Part}
use Rattle.ln_csyn.specs.Tree.{Fun}
use Rattle.ln_csyn.specs.Text.{first_line}
use Rattle.ln_csyn.specs.Layout.{Lays, laid_funs, laid_text}
use Rattle.ln_csyn.proofs.Writing.Lays.{laid_more}
use Rattle.ln_cemit.specs.Emitted.{AreKept, BeginsFile, BeginsFileAs, BegunIsEmitted, IsEmitted}
use Rattle.ln_cemit.specs.File.{one_funs}
use Rattle.ln_cemit.specs.Whole.{Entered, bodies_of, every_row, file_of, funs_before, numbered, outer_fun, part_name, parts_entered}
use Rattle.ln_cemit.proofs.Choices.Says.{file_is_emitted}

kept_more : (xs : List Entered) (x : Entered) → AreKept (parts_entered xs) → IsProgram x.part → AreKept (parts_entered (xs ++ x ∷ []))
kept_more [] x k h = (h, tt)
kept_more (y ∷ xs) x k h = (k.0, kept_more xs x k.1 h)

-- the first line
pub begun : (a b d : List ℕ) → a ≡ b ++ d → b ≡ [] → d ≡ first_line → BeginsFile a []
begun a b d e f g =
    let h : a ≡ first_line = e ∙ ap (λ z. z ++ d) f ∙ g in
    record { text = λ more. ap (λ z. z ++ laid_funs (file_of more) []) h; kept = tt }

-- the functions of a program, and others after them
funs_then : (x : Entered) (rest : List Fun) → funs_before x [] ++ rest ≡ funs_before x rest
funs_then x rest = append_assoc (one_funs (numbered (part_name x.part) x.part.filter) 0 (bodies_of x.part.filter x.part.blocks)) (outer_fun x ∷ []) rest

-- one program more
pub one_after : (old new : List ℕ) (x : Entered) → Lays old new (funs_before x []) → IsProgram x.part → (xs : List Entered) → BeginsFileAs old xs
    → BeginsFileAs new (xs ++ x ∷ [])
one_after old new x h k xs b = record {
  text = λ more.
      h.is (laid_funs (file_of more) [])
      ∙ ap (λ z. old ++ z) (sym (laid_more (funs_before x []) (file_of more) []) ∙ ap (λ z. laid_funs z []) (funs_then x (file_of more)))
      ∙ b.text (x ∷ more) ∙ ap (λ z. laid_text (file_of z)) (sym (append_assoc xs (x ∷ []) more));
  kept = kept_more xs x b.kept k;
}

-- the same where each has `ln_NAME`
pub one_for_every_row : (old new : List ℕ) (p : Part)
    → ((xs : List Entered) → BeginsFileAs old xs → BeginsFileAs new (xs ++ every_row p ∷ [])) → (ps : List Part) → BeginsFile old ps
    → BeginsFile new (ps ++ p ∷ [])
one_for_every_row old new p f ps b = subst (BeginsFileAs new) (sym (map-append every_row ps (p ∷ []))) (f (map every_row ps) b)

whole_file : (bytes : List ℕ) (xs : List Entered) → BeginsFileAs bytes xs → bytes ≡ laid_text (file_of xs)
whole_file bytes xs b = sym (append-nil bytes) ∙ b.text [] ∙ ap (λ z. laid_text (file_of z)) (append-nil xs)

-- the text of the file of programs, begun and appended to, is what is promised of their C
pub begun_is_emitted_as : BegunIsEmitted
begun_is_emitted_as xs bytes a b = file_is_emitted xs bytes a b.kept (whole_file bytes xs b)

parts_back : (ps : List Part) → parts_entered (map every_row ps) ≡ ps
parts_back [] = refl
parts_back (p ∷ ps) = ap (λ qs. p ∷ qs) (parts_back ps)

-- the same where each has `ln_NAME`
pub begun_is_emitted : (ps : List Part) (bytes : List ℕ) → ArePrograms ps → BeginsFile bytes ps → IsEmitted ps bytes
begun_is_emitted ps bytes a b = begun_is_emitted_as (map every_row ps) bytes (subst ArePrograms (sym (parts_back ps)) a) b

-- a loop over programs, by those that are written
pub more_begun : (now : List ℕ) (ps : List Part) (i : ℕ) (p : Part) → i < length ps → p ≡ get_or ps i p
    → BeginsFile now (take i ps ++ p ∷ []) → BeginsFile now (take (i + 1) ps)
more_begun now ps i p h e b = subst (λ z. BeginsFile now z) (ap (λ q. take i ps ++ q ∷ []) e ∙ sym (take_more ps i p h)) b

-- the end of the loop in `emit`: the text is the file of all programs
pub all_begun : (now : List ℕ) (ps : List Part) (i : ℕ) → length ps ≤ i → BeginsFile now (take i ps) → BeginsFile now ps
all_begun now ps i h b = subst (λ z. BeginsFile now z) (take_all i ps h) b
