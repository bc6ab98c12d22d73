-- The heads of the functions of the emitted file.
use Rattle.std.proofs.Common.{◌≡◌, ℕ, suc, List, [], ◌∷◌, ◌++◌, length, map, refl, ap, ◌∙◌, sym, append_assoc, Option, Some, None}
use Rattle.std.proofs.lemmas.List.{map-append}
use Rattle.ln_code.specs.Part.{Code, FilterCode, Part}
use Rattle.ln_csyn.specs.Tree.{Fun}
use Rattle.ln_csyn.specs.Lines.{SameFun, SameUpToLines, none, one}
use Rattle.ln_cemit.specs.File.{one_funs}
use Rattle.ln_cemit.specs.Heads.{Head, block_heads, filter_heads, head, heads_as, inner, outer}
use Rattle.ln_cemit.specs.Names.{block_name, filter_name}
use Rattle.ln_cemit.specs.Whole.{Entered, block_body, bodies_of, file_of, numbered, outer_fun, outer_name, part_name}

-- those of blocks alone
plain-heads : (x : List ℕ) (cs : List Code) (i : ℕ) → map head (one_funs (numbered x None) i (map block_body cs)) ≡ block_heads x i (length cs)
plain-heads x [] i = refl
plain-heads x (c ∷ cs) i = ap (λ (hs : List Head). inner (block_name x i) ∷ hs) (plain-heads x cs (suc i))

-- those of blocks after a filter
later-heads : (x : List ℕ) (f : FilterCode) (cs : List Code) (i : ℕ)
    → map head (one_funs (numbered x (Some f)) (suc i) (map block_body cs)) ≡ block_heads x i (length cs)
later-heads x f [] i = refl
later-heads x f (c ∷ cs) i = ap (λ (hs : List Head). inner (block_name x i) ∷ hs) (later-heads x f cs (suc i))

inner-heads : (x : List ℕ) (o : Option FilterCode) (cs : List Code)
    → map head (one_funs (numbered x o) 0 (bodies_of o cs)) ≡ filter_heads x o ++ block_heads x 0 (length cs)
inner-heads x None cs = plain-heads x cs 0
inner-heads x (Some f) cs = ap (λ (hs : List Head). inner (filter_name x) ∷ hs) (later-heads x f cs 0)

glued : (fs bs hs : List Head) (o : Head) → (fs ++ bs) ++ (o ∷ hs) ≡ (fs ++ (bs ++ (o ∷ []))) ++ hs
glued fs bs hs o =
    append_assoc fs bs (o ∷ hs)
    ∙ ap (λ (z : List Head). fs ++ z) (sym (append_assoc bs (o ∷ []) hs))
    ∙ sym (append_assoc fs (bs ++ (o ∷ [])) hs)

-- those of the file
pub heads-file : (xs : List Entered) → map head (file_of xs) ≡ heads_as xs
heads-file [] = refl
heads-file (x ∷ xs) =
    let p : Part = x.part in
    map-append head (one_funs (numbered (part_name p) p.filter) 0 (bodies_of p.filter p.blocks)) (outer_fun x ∷ file_of xs)
    ∙ ap (λ (hs : List Head). hs ++ (outer (outer_name x) ∷ map head (file_of xs))) (inner-heads (part_name p) p.filter p.blocks)
    ∙ ap (λ (hs : List Head). (filter_heads (part_name p) p.filter ++ block_heads (part_name p) 0 (length p.blocks)) ++ (outer (outer_name x) ∷ hs))
    (heads-file xs)
    ∙ glued (filter_heads (part_name p) p.filter) (block_heads (part_name p) 0 (length p.blocks)) (heads_as xs) (outer (outer_name x))

same-head : (f g : Fun) → SameFun f g → head f ≡ head g
same-head f g s = rw (s.own, s.name, s.indexed) refl

-- files that are the same up to lines have the same heads
pub same-heads : {fs gs : List Fun} → SameUpToLines fs gs → map head fs ≡ map head gs
same-heads none = refl
same-heads (one {f = f} {g = g} {fs = fs} {gs = gs} s r) =
    ap (λ (h : Head). h ∷ map head fs) (same-head f g s) ∙ ap (λ (hs : List Head). head g ∷ hs) (same-heads r)
