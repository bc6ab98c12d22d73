-- No line has two readings, and what is read of a line.
use Rattle.std.proofs.Common.{◌≡◌, ℕ, ◌≤◌, Bool, true, false, ℤ, pos, negsuc, unsigned_abs, List, [], ◌∷◌, ◌++◌, map, Some, None, refl, sym, ap, ◌∙◌, subst}
use Rattle.std.proofs.Common.{arith, ◌<◌, length}
use Rattle.std.specs.Prelude.{if◌then◌else◌, decimal, codes}
use Rattle.ln_code.specs.declared.op.Op.{Op}
use Rattle.ln_code.specs.declared.op.Op.TheVariants as op
use Rattle.ln_code.specs.declared.op.Triple.{Triple}
use Rattle.ln_cert.specs.declared.part.Kind.{Kind}
use Rattle.ln_cert.specs.declared.part.Kind.TheVariants as kind
use Rattle.ln_cert.specs.declared.part.Part.{Part}
use Rattle.ln_cert.specs.declared.part.Part.TheVariants.{Predicate, NoFilter, Filter, FilterOp, Decide, Block, BlockOp, RangeOp, End, Order, Done}
use Rattle.ln_cert.specs.declared.part.State.{State}
use Rattle.ln_cert.specs.declared.part.Verb.{Verb}
use Rattle.ln_cert.specs.Text.{IsBound, IsExponent, IsLine, IsNumber, IsOp, IsRange, IsTriple, args_of, certificate, exponent_word, part_kind, number_words}
use Rattle.ln_cert.specs.Text.{range_words, takes_off, triple_words, verb_of, word_of, words_of, Each, IsPlace}
use Rattle.ln_cert.specs.Reading.{HasArgs, IsRead, NoArgs, Refuses, after, good, kind_in, may, next_of, list_rules}
use Rattle.ln_base.proofs.Texts.Halves.{same_exponent}
use Rattle.ln_cert.proofs.Reading.FirstWords.{complete, one_kind, sound}
use Rattle.ln_base.proofs.Texts.Lists.{head, rest, same_map}
use Rattle.ln_base.proofs.Texts.Numbers.{decimal_injective, signed_injective, no_byte}
use Rattle.ln_base.proofs.Forms.Colon.{same_before}
use Rattle.ln_base.proofs.Texts.Lines.{words_line_end}
use Rattle.ln_base.specs.Forms.Form.{AreSound, Finish}
use Rattle.ln_cert.specs.declared.part.State.TheVariants.{Top, Opened, InFilter, Planned, InBlock, Blocks, Orders}
use Rattle.ln_cert.proofs.Texts.Plain.{args_plain, first_plain, read_words}

-- ---- up to a colon

-- a place isn't written as a colon
pub no_colon : (n : ℕ) → n ≤ 4 → decimal n ≡ codes ":" → ⊥
no_colon n h e = omega (arith, (no_byte n 58 [] (omega arith) e).1)

-- the places before a colon, and what follows it, are known
pub same_front : (ps qs : List ℕ) (r s : List (List ℕ)) → Each IsPlace ps → Each IsPlace qs
    → map decimal ps ++ codes ":" ∷ r ≡ map decimal qs ++ codes ":" ∷ s → (ps ≡ qs) × (r ≡ s)
same_front ps qs r s p q e =
    same_before decimal IsPlace no_colon (λ x y h k i. decimal_injective x y (omega (arith, h)) (omega (arith, k)) i) ps qs r s p q e

-- ---- operations
-- operations of the same verb with the same number are the same, and so are the words after the number
pub same_op : (o u : Op) (r s : List (List ℕ)) → verb_of o ≡ verb_of u → IsOp o → IsOp u → number_words o ++ r ≡ number_words u ++ s → (o ≡ u) × (r ≡ s)
same_op (op.Push c) (op.Push d) r s v p q e = (ap op.Push (signed_injective c d p q (head e)), rest e)
same_op (op.Input c) (op.Input d) r s v p q e = (ap op.Input (decimal_injective c d (omega arith) (omega arith) (head e)), rest e)
same_op (op.Get c) (op.Get d) r s v p q e = (ap op.Get (decimal_injective c d (omega arith) (omega arith) (head e)), rest e)
same_op (op.Set c) (op.Set d) r s v p q e = (ap op.Set (decimal_injective c d (omega arith) (omega arith) (head e)), rest e)
same_op (op.Cut c) (op.Cut d) r s v p q e = (ap op.Cut (decimal_injective c d (omega arith) (omega arith) (head e)), rest e)
same_op (op.Add w) (op.Add x) r s v p q e = let k : w ≡ x = cc in (ap op.Add k, e)
same_op (op.Sub w) (op.Sub x) r s v p q e = let k : w ≡ x = cc in (ap op.Sub k, e)
same_op (op.Mul w) (op.Mul x) r s v p q e = let k : w ≡ x = cc in (ap op.Mul k, e)
same_op (op.Neg w) (op.Neg x) r s v p q e = let k : w ≡ x = cc in (ap op.Neg k, e)
same_op o u r s v p q e = absurd (cc)

one_triple : (v : Verb) (t u : Triple) → IsTriple v t → IsTriple v u → triple_words t ≡ triple_words u → t ≡ u
one_triple v t u p q e =
    let a : decimal t.k ≡ decimal u.k = cc in
    let b : decimal t.h ≡ decimal u.h = cc in
    let c : decimal t.e ≡ decimal u.e = cc in
    let x = decimal_injective t.k u.k (omega (arith, p.0)) (omega (arith, q.0)) a in
    let y = decimal_injective t.h u.h (omega (arith, p.1)) (omega (arith, q.1)) b in
    let z = decimal_injective t.e u.e (omega (arith, p.2)) (omega (arith, q.2)) c in
    λ i. record { k = x i; h = y i; e = z i }

-- what is the same where it takes off, and where it doesn't
same_certificate : (A : Type 0) (v : Verb) (a b : A) (ws us : List (List ℕ)) → (takes_off v ≡ true → a ≡ b) → (ws ≡ us → a ≡ b)
    → certificate v ws ≡ certificate v us → a ≡ b
same_certificate A v a b ws us f g e = by (takes_off v) refl e
  where
    by : (t : Bool) → takes_off v ≡ t → (if t then [] else ws) ≡ (if t then [] else us) → a ≡ b
    by true q e = f q
    by false q e = g e

same_triple : (v : Verb) (t u : Triple) → IsTriple v t → IsTriple v u → certificate v (triple_words t) ≡ certificate v (triple_words u) → t ≡ u
same_triple v t u p q e = same_certificate Triple v t u (triple_words t) (triple_words u) (λ z. p.3 z ∙ sym (q.3 z)) (one_triple v t u p q) e

same_bound : (v : Verb) (a b : ℕ) → IsBound v a → IsBound v b → certificate v (decimal a ∷ []) ≡ certificate v (decimal b ∷ []) → a ≡ b
same_bound v a b p q e = same_certificate ℕ v a b (decimal a ∷ []) (decimal b ∷ []) (λ z. p.1 z ∙ sym (q.1 z)) (λ h. decimal_injective a b p.0 q.0 (head h)) e

is_zero : (z : ℤ) → unsigned_abs z ≡ 0 → z ≡ pos 0
is_zero (pos n) e = ap pos e
is_zero (negsuc n) e = absurd (omega arith)

same_low : (v : Verb) (l u k w : ℤ) → IsRange v l u → IsRange v k w → certificate v (range_words l u) ≡ certificate v (range_words k w) → l ≡ k
same_low v l u k w p q e = same_certificate ℤ v l k (range_words l u) (range_words k w) (λ z. is_zero l (p.2 z).0 ∙ sym (is_zero k (q.2 z).0))
    (λ h. signed_injective l k p.0 q.0 (head h)) e

same_high : (v : Verb) (l u k w : ℤ) → IsRange v l u → IsRange v k w → certificate v (range_words l u) ≡ certificate v (range_words k w) → u ≡ w
same_high v l u k w p q e = same_certificate ℤ v u w (range_words l u) (range_words k w)
    (λ z. is_zero u (p.2 z).1 ∙ sym (is_zero w (q.2 z).1)) (λ h. signed_injective u w p.1 q.1 (head (rest h))) e

-- ---- arguments
in_filter : {x y : Verb} → kind.FilterOp x ≡ kind.FilterOp y → x ≡ y
in_filter e = cc

in_bound : {x y : Verb} → kind.BlockOp x ≡ kind.BlockOp y → x ≡ y
in_bound e = cc

in_range : {x y : Verb} → kind.RangeOp x ≡ kind.RangeOp y → x ≡ y
in_range e = cc

same_filter : (o u : Op) (t s : Triple) → verb_of o ≡ verb_of u → IsLine (FilterOp o t) → IsLine (FilterOp u s)
    → args_of (FilterOp o t) ≡ args_of (FilterOp u s) → FilterOp o t ≡ FilterOp u s
same_filter o u t s k p q e =
    let a = same_op o u (certificate (verb_of o) (triple_words t)) (certificate (verb_of u) (triple_words s)) k p.0 q.0 e in
    let b = same_triple (verb_of o) t s p.2 (subst (λ v. IsTriple v s) (sym k) q.2) (a.1 ∙ ap (λ v. certificate v (triple_words s)) (sym k)) in
    λ i. FilterOp (a.0 i) (b i)

same_bounded : (o u : Op) (b c : ℕ) → verb_of o ≡ verb_of u → IsLine (BlockOp o b) → IsLine (BlockOp u c)
    → args_of (BlockOp o b) ≡ args_of (BlockOp u c) → BlockOp o b ≡ BlockOp u c
same_bounded o u b c k p q e =
    let a = same_op o u (certificate (verb_of o) (decimal b ∷ [])) (certificate (verb_of u) (decimal c ∷ [])) k p.0 q.0 e in
    let x = same_bound (verb_of o) b c p.2 (subst (λ v. IsBound v c) (sym k) q.2) (a.1 ∙ ap (λ v. certificate v (decimal c ∷ [])) (sym k)) in
    λ i. BlockOp (a.0 i) (x i)

same_ranged : (o u : Op) (l h k w : ℤ) → verb_of o ≡ verb_of u → IsLine (RangeOp o l h) → IsLine (RangeOp u k w)
    → args_of (RangeOp o l h) ≡ args_of (RangeOp u k w) → RangeOp o l h ≡ RangeOp u k w
same_ranged o u l h k w v p q e =
    let a = same_op o u (certificate (verb_of o) (range_words l h)) (certificate (verb_of u) (range_words k w)) v p.0 q.0 e in
    let r : IsRange (verb_of o) k w = subst (λ x. IsRange x k w) (sym v) q.2 in
    let c : certificate (verb_of o) (range_words l h) ≡ certificate (verb_of o) (range_words k w) = a.1 ∙ ap (λ x. certificate x (range_words k w)) (sym v) in
    let x = same_low (verb_of o) l h k w p.2 r c in
    let y = same_high (verb_of o) l h k w p.2 r c in
    λ i. RangeOp (a.0 i) (x i) (y i)

number : (m n : ℕ) → m ≤ 65535 → n ≤ 65535 → decimal m ≡ decimal n → m ≡ n
number m n p q e = decimal_injective m n (omega arith) (omega arith) e

-- lines of one kind with the same arguments are the same
pub same_args : (x y : Part) → part_kind x ≡ part_kind y → IsLine x → IsLine y → args_of x ≡ args_of y → x ≡ y
same_args (Predicate m) (Predicate n) k p q e = ap Predicate (head e)
same_args NoFilter NoFilter k p q e = refl
same_args Filter Filter k p q e = refl
same_args (FilterOp o t) (FilterOp u s) k p q e = same_filter o u t s (in_filter k) p q e
same_args Decide Decide k p q e = refl
same_args (Block m a) (Block n b) k p q e =
    let x = number m n p.0 q.0 (head e) in
    let y = same_map exponent_word IsExponent same_exponent a b p.1 q.1 (rest e) in
    λ i. Block (x i) (y i)
same_args (BlockOp o b) (BlockOp u c) k p q e = same_bounded o u b c (in_bound k) p q e
same_args (RangeOp o l h) (RangeOp u j w) k p q e = same_ranged o u l h j w (in_range k) p q e
same_args End End k p q e = refl
same_args (Order ps xs) (Order qs ys) k p q e =
    let f = same_front ps qs (map decimal xs) (map decimal ys) p.0 q.0 e in
    let y = same_map decimal IsNumber number xs ys p.1 q.1 f.1 in
    λ i. Order (f.0 i) (y i)
same_args Done Done k p q e = refl
same_args x y k p q e = absurd (cc)

good_line : (p : Part) → IsLine p → good (part_kind p) ≡ true
good_line (Predicate n) p = refl
good_line NoFilter p = refl
good_line Filter p = refl
good_line (FilterOp o t) p = p.1
good_line Decide p = refl
good_line (Block n exps) p = refl
good_line (BlockOp o b) p = p.1
good_line (RangeOp o l u) p = p.1
good_line End p = refl
good_line (Order places list) p = refl
good_line Done p = refl

-- ---- one line
-- a line that leads on is allowed in the state, and leads where its kind leads
pub live : (v : ℕ) (s : State) (p : Part) (t : State) → next_of v s p ≡ Some t → (may v s (part_kind p) ≡ true) × (t ≡ after (part_kind p))
live v s p t e = by (may v s (part_kind p)) e
  where
    by : (b : Bool) → (if b then Some (after (part_kind p)) else None) ≡ Some t → (b ≡ true) × (t ≡ after (part_kind p))
    by true e = (refl, cc)
    by false e = absurd (cc)

-- lines that are allowed in one state and have the same words are the same
pub same_line : (v : ℕ) (s : State) (x y : Part) (t u : State) → next_of v s x ≡ Some t → next_of v s y ≡ Some u → IsLine x → IsLine y
    → words_of x ≡ words_of y → x ≡ y
same_line v s x y t u a b p q e =
    let k = one_kind v s (part_kind x) (part_kind y) (live v s x t a).0 (good_line x p) (live v s y u b).0 (good_line y q) (head e) in
    same_args x y k p q (rest e)

-- ---- what the reader of a line finds
-- where the first word has a kind in this state and the other words are its arguments, the line is read
pub found : (v : ℕ) (s : State) (k : Kind) (w : List ℕ) (args ws : List (List ℕ)) (p : Part) → ws ≡ w ∷ args → kind_in v s w ≡ Some k
    → HasArgs k args p → IsRead v s ws p (after k)
found v s k w args ws p e g h =
    let r = sound v s w k g in
    record {
      spelled = e ∙ (λ i. (r.word ∙ ap word_of (sym h.kind)) i ∷ h.args i);
      range = h.range;
      goes = ap (λ (b : Bool). if b then Some (after (part_kind p)) else None) (subst (λ x. may v s x ≡ true) (sym h.kind) r.may)
          ∙ ap (λ x. Some (after x)) h.kind;
    }

-- words are refused where no line in the state begins with the first of them
pub no_kind : (v : ℕ) (s : State) (w : List ℕ) (args ws : List (List ℕ)) → ws ≡ w ∷ args → kind_in v s w ≡ None → Refuses v s ws
no_kind v s w args ws e g p t r =
    let a : w ≡ word_of (part_kind p) = head (sym e ∙ r.spelled) in
    let b = complete v s (part_kind p) (live v s p t r.goes).0 (good_line p r.range) in
    let c : None ≡ Some (part_kind p) = sym g ∙ ap (kind_in v s) a ∙ b in absurd (cc)

-- words are refused where the first is that of a kind and the others are none of its arguments
pub no_args : (v : ℕ) (s : State) (k : Kind) (w : List ℕ) (args ws : List (List ℕ)) → ws ≡ w ∷ args → kind_in v s w ≡ Some k → NoArgs k args → Refuses v s ws
no_args v s k w args ws e g h p t r =
    let a : w ≡ word_of (part_kind p) = head (sym e ∙ r.spelled) in
    let b = complete v s (part_kind p) (live v s p t r.goes).0 (good_line p r.range) in
    let c : Some (part_kind p) ≡ Some k = sym b ∙ ap (kind_in v s) (sym a) ∙ g in
    h p (record { kind = let d : part_kind p ≡ k = cc in d; args = rest (sym e ∙ r.spelled); range = r.range })

empty : (xs : List ℕ) → map decimal xs ≡ [] → 0 < length xs → ⊥
empty [] e h = omega arith
empty (x ∷ xs) e h = absurd (cc)

-- places and a colon, and nothing after them, are no arguments of an `order` line
pub no_list : (all : List (List ℕ)) (sites : List ℕ) (behind : List (List ℕ)) → Each IsPlace sites
    → all ≡ map decimal sites ++ codes ":" ∷ behind → behind ≡ [] → NoArgs kind.Order all
no_list all sites behind p e f (Order ps xs) h =
    let s = same_front ps sites (map decimal xs) behind h.range.0 p (sym h.args ∙ e) in empty xs (s.1 ∙ f) h.range.2
no_list all sites behind p e f q h = absurd (let k = h.kind in cc)

-- places and a colon, and words after them that are no list of blocks, are no arguments of an `order` line
pub no_numbers : (all : List (List ℕ)) (sites : List ℕ) (behind : List (List ℕ)) → Each IsPlace sites
    → all ≡ map decimal sites ++ codes ":" ∷ behind → ((ns : List ℕ) → Each IsNumber ns → behind ≡ map decimal ns → ⊥) → NoArgs kind.Order all
no_numbers all sites behind p e f (Order ps xs) h =
    let s = same_front ps sites (map decimal xs) behind h.range.0 p (sym h.args ∙ e) in f xs h.range.1 (sym s.1)
no_numbers all sites behind p e f q h = absurd (let k = h.kind in cc)

ordered : (v : ℕ) → Finish (list_rules v) Blocks
ordered v = record { last = Order [] (0 ∷ []) ∷ Done ∷ []; ranges = ((tt, (omega arith, tt), omega arith), (tt, tt)); leads = refl }

planned : (v : ℕ) → Finish (list_rules v) Planned
unfolding ordered
planned v = record { last = Block 0 [] ∷ End ∷ (ordered v).last; ranges = ((omega arith, tt), (tt, (ordered v).ranges)); leads = refl }

-- lines that end a listing from a state
finish : (v : ℕ) (s : State) → Finish (list_rules v) s
unfolding ordered planned
finish v Top = record { last = []; ranges = tt; leads = refl }
finish v Opened = record { last = NoFilter ∷ (planned v).last; ranges = (tt, (planned v).ranges); leads = refl }
finish v InFilter = record { last = Decide ∷ (planned v).last; ranges = (tt, (planned v).ranges); leads = refl }
finish v Planned = planned v
finish v InBlock = record { last = End ∷ (ordered v).last; ranges = (tt, (ordered v).ranges); leads = refl }
finish v Blocks = ordered v
finish v Orders = record { last = Done ∷ []; ranges = (tt, tt); leads = refl }

-- the rules of listings are as the reader of lines needs them
pub list_sound : (v : ℕ) → AreSound (list_rules v)
list_sound v = record {
  read = read_words;
  alone = λ p rest q. words_line_end (word_of (part_kind p)) (args_of p) rest (first_plain (part_kind p), args_plain p q);
  one = same_line v;
  finish = finish v;
}
