-- Proves that a number stands for one tree alone, and still does when more subtrees are numbered.
use Rattle.std.proofs.Common.{◌≡◌, ℕ, List, [], ◌∷◌, ◌++◌, refl, zero, suc, ap, ap₂, arith, ◌∙◌, sym, subst, length, map, get_or, ◌<◌}
use Rattle.std.specs.Prelude.{Some, slice_get}
use Rattle.std.proofs.lemmas.List.{length-map}
use Rattle.ln_interval.specs.Range.{Range}
use Rattle.ln_bound.specs.declared.fitted.Width.{Width}
use Rattle.ln_bound.specs.Typed.{Typed, TNum, TInput, TLet, TNeg, TTwo, TPow, operation}
use Rattle.ln_lower.specs.declared.distinct.Key.{Key}
use Rattle.ln_lower.specs.declared.distinct.KeyOp.{KeyOp}
use Rattle.ln_lower.specs.declared.distinct.KeyOp.TheVariants.{Number, Variable, Name, Opposite, Both, Raised}
use Rattle.ln_bound.specs.declared.fitted.Fitted.{Fitted}
use Rattle.ln_bound.specs.View.{typed}
use Rattle.ln_code.proofs.Building.Walks.{all_append, all_length}
use Rattle.ln_lower.specs.Distinct.{key, IsNumberOf, AreNumbersOf, Extends, Added, Numbered}

-- ---- one number, one tree

-- a tree with this operation over operands of these numbers, in this range and width
abbrev IsRoot : List Key → KeyOp → Range → Width → Typed → Type 0
IsRoot ks (Number c) p w t = t ≡ TNum c p w
IsRoot ks (Variable v) p w t = t ≡ TInput v p w
IsRoot ks (Name j) p w t = t ≡ TLet j p w
IsRoot ks (Opposite a) p w t = (s : Typed) × (t ≡ TNeg s p w) × IsNumberOf ks a s
IsRoot ks (Both o a b) p w t = (r : Typed) × (s : Typed) × (t ≡ TTwo o r s p w) × IsNumberOf ks a r × IsNumberOf ks b s
IsRoot ks (Raised a n) p w t = (s : Typed) × (t ≡ TPow s n p w) × IsNumberOf ks a s

abbrev IsRooted : List Key → Key → Typed → Type 0
IsRooted ks x t = IsRoot ks x.op (record { low = x.low; high = x.high }) x.width t

same_root : (ks : List Key) (k : ℕ) (x y : Key) (t : Typed) → slice_get ks k ≡ Some x → slice_get ks k ≡ Some y → IsRooted ks x t → IsRooted ks y t
same_root ks k x y t a b h =
    let e : Some x ≡ Some y = sym a ∙ b in
    let f : x ≡ y = cc in
    subst (λ z. IsRooted ks z t) f h

-- a tree with a number has the root that is noted for it
rooted : (ks : List Key) (t : Typed) (k : ℕ) (x : Key) → slice_get ks k ≡ Some x → IsNumberOf ks k t → IsRooted ks x t
rooted ks (TNum c p w) k x e s = same_root ks k (key (Number c) p w) x (TNum c p w) s e refl
rooted ks (TInput v p w) k x e s = same_root ks k (key (Variable v) p w) x (TInput v p w) s e refl
rooted ks (TLet j p w) k x e s = same_root ks k (key (Name j) p w) x (TLet j p w) s e refl
rooted ks (TNeg t p w) k x e s = same_root ks k (key (Opposite s.0) p w) x (TNeg t p w) s.1 e (t, refl, s.2)
rooted ks (TTwo o t u p w) k x e s = same_root ks k (key (Both o s.0 s.1) p w) x (TTwo o t u p w) s.2 e (t, u, refl, s.3, s.4)
rooted ks (TPow t n p w) k x e s = same_root ks k (key (Raised s.0 n) p w) x (TPow t n p w) s.1 e (t, refl, s.2)

-- a number is one tree alone
pub unique : (ks : List Key) (t u : Typed) (k : ℕ) → IsNumberOf ks k t → IsNumberOf ks k u → t ≡ u
unique ks (TNum c p w) u k x y = sym (rooted ks u k (key (Number c) p w) x y)
unique ks (TInput v p w) u k x y = sym (rooted ks u k (key (Variable v) p w) x y)
unique ks (TLet j p w) u k x y = sym (rooted ks u k (key (Name j) p w) x y)
unique ks (TNeg t p w) u k x y =
    let r = rooted ks u k (key (Opposite x.0) p w) x.1 y in
    ap (λ s. TNeg s p w) (unique ks t r.0 x.0 x.2 r.2) ∙ sym r.1
unique ks (TTwo o s t p w) u k x y =
    let r = rooted ks u k (key (Both o x.0 x.1) p w) x.2 y in
    ap₂ (λ a b. TTwo o a b p w) (unique ks s r.0 x.0 x.3 r.3) (unique ks t r.1 x.1 x.4 r.4) ∙ sym r.2
unique ks (TPow t n p w) u k x y =
    let r = rooted ks u k (key (Raised x.0 n) p w) x.1 y in
    ap (λ s. TPow s n p w) (unique ks t r.0 x.0 x.2 r.2) ∙ sym r.1

-- ---- more numbers

-- a number that is a tree is that tree still in a list that extends the first
pub stands_more : (ks ls : List Key) (t : Typed) (k : ℕ) → Extends ks ls → IsNumberOf ks k t → IsNumberOf ls k t
stands_more ks ls (TNum c p w) k e s = e k (key (Number c) p w) s
stands_more ks ls (TInput v p w) k e s = e k (key (Variable v) p w) s
stands_more ks ls (TLet j p w) k e s = e k (key (Name j) p w) s
stands_more ks ls (TNeg t p w) k e s = (s.0, e k (key (Opposite s.0) p w) s.1, stands_more ks ls t s.0 e s.2)
stands_more ks ls (TTwo o u t p w) k e s = (s.0, s.1, e k (key (Both o s.0 s.1) p w) s.2, stands_more ks ls u s.0 e s.3, stands_more ks ls t s.1 e s.4)
stands_more ks ls (TPow t n p w) k e s = (s.0, e k (key (Raised s.0 n) p w) s.1, stands_more ks ls t s.0 e s.2)

-- a list extends a first one where it extends a second one that extends the first
pub extends_then : (ks ls ms : List Key) → Extends ks ls → Extends ls ms → Extends ks ms
extends_then ks ls ms a b k x h = b k x (a k x h)

-- ---- trees

-- a negation is numbered where its operand is and then the subtree of its root is added
pub numbered_neg : {ks ls ms : List Key} {a k : ℕ} {t u : Typed} {p : Range} {w : Width} → u ≡ TNeg t p w → Numbered ks ls a t
    → Added ls ms k (key (Opposite a) p w) → Numbered ks ms k u
numbered_neg {ks = ks} {ls = ls} {ms = ms} {a = a} {k = k} {t = t} e n d = subst (λ v. Numbered ks ms k v) (sym e) (record {
  stands = (a, d.there, stands_more ls ms t a d.more n.stands);
  more = extends_then ks ls ms n.more d.more;
})

-- a power is numbered where its base is and then the subtree of its root is added
pub numbered_pow : {ks ls ms : List Key} {a k : ℕ} {t u : Typed} {n : ℕ} {p : Range} {w : Width} → u ≡ TPow t n p w → Numbered ks ls a t
    → Added ls ms k (key (Raised a n) p w) → Numbered ks ms k u
numbered_pow {ks = ks} {ls = ls} {ms = ms} {a = a} {k = k} {t = t} e m d = subst (λ v. Numbered ks ms k v) (sym e) (record {
  stands = (a, d.there, stands_more ls ms t a d.more m.stands);
  more = extends_then ks ls ms m.more d.more;
})

-- a sum, difference or product is numbered where its operands are, one after the other, and then the subtree of its root is added
pub numbered_two : {ks ls ms ns : List Key} {a b k : ℕ} {s t u : Typed} {p : Range} {w : Width} → u ≡ TTwo (operation u) s t p w
    → Numbered ks ls a s → Numbered ls ms b t → Added ms ns k (key (Both (operation u) a b) p w) → Numbered ks ns k u
numbered_two {ks = ks} {ls = ls} {ms = ms} {ns = ns} {a = a} {b = b} {k = k} {s = s} {t = t} e m n d =
    let more = extends_then ls ms ns n.more d.more in
    subst (λ v. Numbered ks ns k v) (sym e) (record {
      stands = (a, b, d.there, stands_more ls ns s a more m.stands, stands_more ms ns t b d.more n.stands);
      more = extends_then ks ls ns m.more more;
    })

-- ---- several trees

all_more : (ks ls : List Key) (ns : List ℕ) (ts : List Typed) → Extends ks ls → AreNumbersOf ks ns ts → AreNumbersOf ls ns ts
all_more ks ls [] [] e a = tt
all_more ks ls (n ∷ ns) (t ∷ ts) e a = (stands_more ks ls t n e a.0, all_more ks ls ns ts e a.1)
all_more ks ls _ _ e a = absurd a

-- one tree more
pub next_stands : (ks ls : List Key) (ns os : List ℕ) (ts us : List Typed) (k : ℕ) (t : Typed) → us ≡ ts ++ (t ∷ [])
    → os ≡ ns ++ (k ∷ []) → Numbered ks ls k t → AreNumbersOf ks ns ts → AreNumbersOf ls os us
next_stands ks ls ns os ts us k t e f n a = rw (e, f) (all_append (IsNumberOf ls) ns (k ∷ []) ts (t ∷ []) (all_more ks ls ns ts n.more a) (n.stands, tt))

-- the same trees after one more
pub stand_behind : (ks ls : List Key) (ns : List ℕ) (ts : List Typed) (k : ℕ) (t : Typed) → Numbered ks ls k t → AreNumbersOf ks ns ts → AreNumbersOf ls ns ts
stand_behind ks ls ns ts k t n a = all_more ks ls ns ts n.more a

-- the number of the tree at a place
pub stands_at : (ks : List Key) (ns : List ℕ) (us : List Fitted) (j : ℕ) (u : Fitted) → AreNumbersOf ks ns (map typed us) → j < length us
    → u ≡ get_or us j u → IsNumberOf ks (get_or ns j 0) (typed u)
stands_at ks [] [] j u a h e = absurd (omega arith)
stands_at ks (m ∷ ms) (v ∷ vs) zero u a h e = rw e a.0
stands_at ks (m ∷ ms) (v ∷ vs) (suc j) u a h e = stands_at ks ms vs j u a.1 (omega arith) e
stands_at ks _ _ j u a h e = absurd a

-- there are as many numbers as trees
pub stand_length : (ks : List Key) (ns : List ℕ) (us : List Fitted) → AreNumbersOf ks ns (map typed us) → length ns ≡ length us
stand_length ks ns us a = all_length (IsNumberOf ks) ns (map typed us) a ∙ length-map us typed
