-- Proves what known bytes do over several writes and reads.
use Rattle.std.proofs.Common.{◌≡◌, ℕ, ◌+◌, ◌-◌, List, ◌++◌, length, take, drop, refl, ap, sym, subst, ◌∙◌, Some, None}
use Rattle.std.proofs.Common.{Option, length-drop}
use Rattle.std.proofs.Math.Seq.{take-add, take-length, drop-append_seam}
use Rattle.std.proofs.lemmas.List.{drop-drop}
use Rattle.std.proofs.KnownBytes.{Appends-trans}
use Rattle.std.specs.Io.KnownBytes.{Appends, Consumes}
use Rattle.ln_disk.specs.Flow.{Passes}

take_part : (bytes : List ℕ) (done n : ℕ) → take done bytes ++ take n (drop done bytes) ≡ take (done + n) bytes
take_part bytes done n = rw take-add refl

-- one more write after the first `done` bytes
pub writes_more : (a b c : Option (List ℕ)) (bytes : List ℕ) (done n : ℕ) → Appends a b (take done bytes)
    → Appends b c (take n (take (length bytes - done) (drop done bytes))) → Appends a c (take (done + n) bytes)
writes_more a b c bytes done n f w =
    let all : take (length bytes - done) (drop done bytes) ≡ drop done bytes = rw (← length-drop done bytes) (take-length (drop done bytes)) in
    let v : Appends b c (take n (drop done bytes)) = subst (λ (r : List ℕ). Appends b c (take n r)) all w in
    subst (λ (r : List ℕ). Appends a c r) (take_part bytes done n) (Appends-trans a b c (take done bytes) (take n (drop done bytes)) f v)

-- one more read after the bytes that are passed over
pub passes_more : (a b c : Option (List ℕ)) (bs : List ℕ) (done n : ℕ) → length bs ≡ n → Passes a b done → Consumes b c bs → Passes a c (done + n)
passes_more None b c bs done n e p w = tt
passes_more (Some xs) None c bs done n e p w = absurd p
passes_more (Some xs) (Some ys) None bs done n e p w = absurd w
passes_more (Some xs) (Some ys) (Some zs) bs done n e p w =
    let gone : drop (length bs) ys ≡ zs = ap (drop (length bs)) w ∙ drop-append_seam bs zs in
    sym gone ∙ ap (λ k. drop k ys) e ∙ ap (drop n) p ∙ drop-drop n done xs
