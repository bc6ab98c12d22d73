-- Two files are the same up to lines exactly where their flat files are one.
use Rattle.std.proofs.Common.{◌≡◌, List, [], ◌∷◌, refl, ap, sym, ◌∙◌, subst}
use Rattle.ln_csyn.specs.Tree.{Body, End, Decl, Group, If, Return, Fun}
use Rattle.ln_csyn.specs.Lines.{SameBody, SameFun, SameUpToLines, end, decl, group, when, return, none, one}
use Rattle.ln_csyn.specs.Spelling.{flat, flat_fun, flat_file}
use Rattle.ln_csyn.specs.Laws.{FlatIsSame, ReadBack}
use Rattle.ln_csyn.proofs.Lexing.Scanned.{one_text}

-- a body is the same as its flat one
to_flat : (b : Body) → SameBody b (flat b)
to_flat End = end
to_flat (Decl l t x e b) = decl (to_flat b)
to_flat (Group l a b) = group (to_flat a) (to_flat b)
to_flat (If l e a b) = when (to_flat a) (to_flat b)
to_flat (Return l e b) = return (to_flat b)

turned : {b c : Body} → SameBody b c → SameBody c b
turned end = end
turned (decl s) = decl (turned s)
turned (group s r) = group (turned s) (turned r)
turned (when s r) = when (turned s) (turned r)
turned (return s) = return (turned s)

joined : {a b c : Body} → SameBody a b → SameBody b c → SameBody a c
joined end s = s
joined (decl r) (decl s) = decl (joined r s)
joined (group q r) (group s t) = group (joined q s) (joined r t)
joined (when q r) (when s t) = when (joined q s) (joined r t)
joined (return r) (return s) = return (joined r s)

-- the same bodies have one flat body
one_flat : {b c : Body} → SameBody b c → flat b ≡ flat c
one_flat end = refl
one_flat (decl s) = rw (one_flat s) refl
one_flat (group s r) = rw (one_flat s, one_flat r) refl
one_flat (when s r) = rw (one_flat s, one_flat r) refl
one_flat (return s) = rw (one_flat s) refl

one_flat_fun : (f g : Fun) → SameFun f g → flat_fun f ≡ flat_fun g
one_flat_fun f g s = rw (s.own, s.name, s.indexed, one_flat s.body) refl

-- files that are the same up to lines have one flat file
pub one_flat_file : {fs gs : List Fun} → SameUpToLines fs gs → flat_file fs ≡ flat_file gs
one_flat_file none = refl
one_flat_file (one {f = f} {g = g} s r) = rw (one_flat_fun f g s, one_flat_file r) refl

-- functions with one flat function are the same
same_fun : (f g : Fun) → flat_fun f ≡ flat_fun g → SameFun f g
same_fun f g h = record {
  own = ap (λ (z : Fun). z.own) h;
  name = ap (λ (z : Fun). z.name) h;
  indexed = ap (λ (z : Fun). z.indexed) h;
  body = joined (subst (λ (z : Body). SameBody f.body z) (ap (λ (z : Fun). z.body) h) (to_flat f.body)) (turned (to_flat g.body));
}

-- files with one flat file are the same up to lines
pub same_file : (fs gs : List Fun) → flat_file fs ≡ flat_file gs → SameUpToLines fs gs
same_file [] [] h = none
same_file [] (g ∷ gs) h = absurd (cc)
same_file (f ∷ fs) [] h = absurd (cc)
same_file (f ∷ fs) (g ∷ gs) h =
    let p : flat_fun f ≡ flat_fun g = cc in
    let q : flat_file fs ≡ flat_file gs = cc in
    one (same_fun f g p) (same_file fs gs q)

flat_again : (b : Body) → flat (flat b) ≡ flat b
flat_again b = sym (one_flat (to_flat b))

flat_fun_again : (f : Fun) → flat_fun (flat_fun f) ≡ flat_fun f
flat_fun_again f = rw (flat_again f.body) refl

-- a flat file is its own flat file
pub flat_file_again : (fs : List Fun) → flat_file (flat_file fs) ≡ flat_file fs
flat_file_again [] = refl
flat_file_again (f ∷ fs) = rw (flat_fun_again f, flat_file_again fs) refl

-- both ways
pub flat_is_same : FlatIsSame
flat_is_same fs gs = (one_flat_file, same_file fs gs)

-- what is read of a text is its one file
pub read_back : ReadBack
read_back bytes fs gs c d = same_file gs fs (ap flat_file (one_text bytes gs (flat_file fs) d c) ∙ flat_file_again fs)
