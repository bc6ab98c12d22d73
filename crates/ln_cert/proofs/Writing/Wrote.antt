-- Lines appended one after the other.
use Rattle.std.proofs.Common.{◌≡◌, ℕ, zero, suc, ◌+◌, ◌≤◌, ◌<◌, List, [], ◌∷◌, ◌++◌, length, get_or, drop, map, Some, refl, sym, ap, ◌∙◌, subst, arith}
use Rattle.std.proofs.Common.{append_assoc, append-nil, drop-cons, ℤ, ◌^◌, unsigned_abs, Bool, false, Option, None, IfNone}
use Rattle.std.proofs.lemmas.List.{drop_all}
use Rattle.ln_interval.specs.declared.pair.Pair.{Pair}
use Rattle.ln_interval.specs.View.{range}
use Rattle.ln_code.specs.declared.op.Op.{Op}
use Rattle.ln_code.specs.declared.op.Triple.{Triple}
use Rattle.ln_code.specs.Engine.{Line}
use Rattle.ln_code.specs.Part.{Code, FilterCode, lines_of}
use Rattle.ln_cert.specs.declared.part.Part.{Part}
use Rattle.ln_cert.specs.declared.part.Part.TheVariants.{Filter, Decide, Block, RangeOp, End, Order}
use Rattle.ln_base.specs.Lines.{joined, parted}
use Rattle.ln_cert.specs.Text.{Each, IsLine, text_of, certificate, range_words, triple_words, IsRange, takes_off}
use Rattle.ln_cert.specs.Writing.{PutsLine, Puts}
use Rattle.ln_cert.specs.Written.{InBlock, WroteParts, block_lines, filter_line, filter_parts, range_line}
use Rattle.std.specs.Prelude.{codes, decimal, if◌then◌else◌}
use Rattle.std.specs.Fmt.{signed_decimal}
use Rattle.ln_cert.specs.declared.part.Verb.{Verb}
use Rattle.ln_base.proofs.Texts.Putting.{line_is, signed_put, puts_then}

-- no lines were appended to a text that is the same
pub nothing : (a : List ℕ) → WroteParts a a []
nothing a = record { text = sym (append-nil a); ranges = tt }

joined_append : (ps qs : List Part) → joined (map text_of (ps ++ qs)) ≡ joined (map text_of ps) ++ joined (map text_of qs)
joined_append [] qs = refl
joined_append (p ∷ ps) qs = ap (λ z. text_of p ++ z) (joined_append ps qs) ∙ sym (append_assoc (text_of p) (joined (map text_of ps)) (joined (map text_of qs)))

each_both : (ps qs : List Part) → Each IsLine ps → Each IsLine qs → Each IsLine (ps ++ qs)
each_both [] qs p q = q
each_both (x ∷ ps) qs p q = (p.0, each_both ps qs p.1 q)

-- lines appended after others are appended with them
pub after : (a b c : List ℕ) (ps qs : List Part) → WroteParts a b ps → WroteParts b c qs → WroteParts a c (ps ++ qs)
after a b c ps qs p q = record {
  text = q.text ∙ ap (λ z. z ++ joined (map text_of qs)) p.text ∙ append_assoc a (joined (map text_of ps)) (joined (map text_of qs))
      ∙ ap (λ z. a ++ z) (sym (joined_append ps qs));
  ranges = each_both ps qs p.ranges q.ranges;
}

-- one line was appended, and what it says is within the ranges
pub one : (a b : List ℕ) (p : Part) → PutsLine a b p → IsLine p → WroteParts a b (p ∷ [])
one a b p e r = record { text = e ∙ ap (λ z. a ++ z) (sym (append-nil (text_of p))); ranges = (r, tt) }

-- ---- a loop by the remaining lines
-- where the remaining lines are appended to the text so far, all lines have been appended to the text at the start
abbrev pub Left : List ℕ → List ℕ → List Part → List Part → Type 0
Left start now rest all = (d : List ℕ) → WroteParts now d rest → WroteParts start d all

-- the step of such a loop: the first of the remaining lines were appended
pub go_on : (start now new : List ℕ) (p rest all : List Part) → Left start now (p ++ rest) all → WroteParts now new p → Left start new rest all
go_on start now new p rest all f w d q = f d (after now new d p rest w q)

-- the end of such a loop: no line remains, so all were appended
pub at_end : (start now : List ℕ) (rest all : List Part) → Left start now rest all → rest ≡ [] → WroteParts start now all
at_end start now rest all f e = f now (subst (λ ps. WroteParts now now ps) (sym e) (nothing now))

-- ---- loops over operations
lines_at : {B : Type 0} (os : List Op) (bs : List B) (i : ℕ) (o : Op) (b : B) → i < length os → i < length bs
    → lines_of (drop i os) (drop i bs) ≡ record { op = get_or os i o; bound = get_or bs i b } ∷ lines_of (drop (suc i) os) (drop (suc i) bs)
lines_at os bs i o b h k = rw (drop-cons os i o h, drop-cons bs i b k) refl

-- what holds of each operation with its bound holds of the one at a place
pub each_at : {B : Type 0} (P : Line B → Type 0) (os : List Op) (bs : List B) (i : ℕ) (o : Op) (b : B) → i < length os → i < length bs
    → Each P (lines_of os bs) → P (record { op = get_or os i o; bound = get_or bs i b })
each_at P [] bs i o b h k p = absurd (omega arith)
each_at P (x ∷ os) [] i o b h k p = absurd (omega arith)
each_at P (x ∷ os) (y ∷ bs) zero o b h k p = p.0
each_at P (x ∷ os) (y ∷ bs) (suc i) o b h k p = each_at P os bs i o b (omega arith) (omega arith) p.1

-- a loop over operations with their bounds has come to number i: with the lines of those from there on all lines are appended
abbrev pub LinesLeft : {B : Type 0} → (Line B → Part) → List ℕ → List ℕ → List Op → List B → ℕ → Type 0
LinesLeft f start now os bs i = Left start now (map f (lines_of (drop i os) (drop i bs))) (map f (lines_of os bs))

-- the line of operation number i with its bound was appended
pub record WroteOp {B : Type 0} (f : Line B → Part) (now new : List ℕ) (os : List Op) (bs : List B) (i : ℕ) : Type 0 where
  pub op : Op
  pub bound : B
  pub op_there : i < length os
  pub bound_there : i < length bs
  pub wrote : WroteParts now new (f (record { op = get_or os i op; bound = get_or bs i bound }) ∷ [])

-- the step of a loop over operations: the line of one more was appended
pub more_lines : {B : Type 0} (f : Line B → Part) (start now new : List ℕ) (os : List Op) (bs : List B) (i : ℕ)
    → LinesLeft f start now os bs i → WroteOp f now new os bs i → LinesLeft f start new os bs (i + 1)
more_lines {B} f start now new os bs i left w =
    let x : Line B = record { op = get_or os i w.op; bound = get_or bs i w.bound } in
    let n : suc i ≡ i + 1 = omega arith in
    let e : map f (lines_of (drop i os) (drop i bs)) ≡ f x ∷ map f (lines_of (drop (i + 1) os) (drop (i + 1) bs)) =
    ap (map f) (lines_at os bs i w.op w.bound w.op_there w.bound_there) ∙ ap (λ m. f x ∷ map f (lines_of (drop m os) (drop m bs))) n in
    go_on start now new (f x ∷ []) (map f (lines_of (drop (i + 1) os) (drop (i + 1) bs))) (map f (lines_of os bs))
    (subst (λ z. Left start now z (map f (lines_of os bs))) e left) w.wrote

-- the end of a loop over operations: the lines of all were appended
pub no_lines : {B : Type 0} (f : Line B → Part) (start now : List ℕ) (os : List Op) (bs : List B) (i : ℕ) → length os ≤ i
    → LinesLeft f start now os bs i → WroteParts start now (map f (lines_of os bs))
no_lines f start now os bs i h left =
    at_end start now (map f (lines_of (drop i os) (drop i bs))) (map f (lines_of os bs)) left (ap (λ z. map f (lines_of z (drop i bs))) (drop_all i os h))

-- the range of a pair that is read
pub range_get : (ps : List Pair) (i : ℕ) (r : Pair) → i < length ps → r ≡ get_or ps i r → get_or (map range ps) i (range r) ≡ range r
range_get [] i r h e = absurd (omega arith)
range_get (p ∷ ps) zero r h e = ap range (sym e)
range_get (p ∷ ps) (suc i) r h e = range_get ps i r (omega arith) e

-- there are as many ranges as pairs
pub long_ranges : (ps : List Pair) → length (map range ps) ≡ length ps
long_ranges [] = refl
long_ranges (p ∷ ps) = let h = long_ranges ps in omega arith

-- where each operation of a block is as `InBlock` has it, so is the one at a place, with its range
pub range_at : (os : List Op) (ps : List Pair) (i : ℕ) (o : Op) (r : Pair) → i < length os → i < length ps → r ≡ get_or ps i r
    → Each InBlock (lines_of os (map range ps)) → InBlock (record { op = get_or os i o; bound = range r })
range_at os ps i o r h k e p =
    let l = long_ranges ps in
    subst (λ z. InBlock (record { op = get_or os i o; bound = z })) (range_get ps i r k e) (each_at InBlock os (map range ps) i o (range r) h (omega arith) p)

-- the line of an operation with a pair was appended, and so was that with the pair's range
pub range_wrote : (now new : List ℕ) (os : List Op) (ps : List Pair) (i : ℕ) (o : Op) (r : Pair) → i < length os → i < length ps → r ≡ get_or ps i r
    → WroteParts now new (RangeOp (get_or os i o) r.low r.high ∷ []) → WroteOp range_line now new os (map range ps) i
range_wrote now new os ps i o r h k e w =
    let l = long_ranges ps in
    record {
      op = o;
      bound = range r;
      op_there = h;
      bound_there = omega arith;
      wrote = subst (λ z. WroteParts now new (range_line (record { op = get_or os i o; bound = z }) ∷ [])) (sym (range_get ps i r k e)) w;
    }

-- ---- filters and blocks
-- the parts of a filter were appended one after the other: `filter`, its operations and `decide`
pub some_filter : (a b c d : List ℕ) (f : FilterCode) (os : List Op) (ts : List Triple) → os ≡ f.ops → ts ≡ f.triples
    → WroteParts a b (Filter ∷ []) → WroteParts b c (map filter_line (lines_of os ts)) → WroteParts c d (Decide ∷ []) → WroteParts a d (filter_parts (Some f))
some_filter a b c d f os ts p q x y z =
    after a b d (Filter ∷ []) (map filter_line (lines_of f.ops f.triples) ++ Decide ∷ []) x
    (after b c d (map filter_line (lines_of f.ops f.triples)) (Decide ∷ []) (subst (λ w. WroteParts b c (map filter_line w)) (λ i. lines_of (p i) (q i)) y) z)

-- the parts of block number n were appended one after the other: its first line, its operations and `end`
pub record WroteBlock (n : ℕ) (c : Code) (old new : List ℕ) : Type 0 where
  pub after_head : List ℕ
  pub after_lines : List ℕ
  pub head : WroteParts old after_head (Block n c.exps ∷ [])
  pub lines : WroteParts after_head after_lines (map range_line (lines_of c.ops c.pairs))
  pub end : WroteParts after_lines new (End ∷ [])

-- the lines of a block's parts, one after the other, are those of the block
pub block_wrote : (n : ℕ) (c : Code) (old new : List ℕ) → WroteBlock n c old new → WroteParts old new (block_lines n c)
block_wrote n c old new w =
    let x : List Part = map range_line (lines_of c.ops c.pairs) in
    after old w.after_head new (Block n c.exps ∷ []) (x ++ End ∷ []) w.head (after w.after_head w.after_lines new x (End ∷ []) w.lines w.end)

shown : (v : Verb) (ws : List (List ℕ)) → takes_off v ≡ false → certificate v ws ≡ ws
shown v ws e = ap (λ (t : Bool). if t then [] else ws) e

-- where no two ends were read of words, they are no certificate of an operation that takes nothing off
pub no_ends : (v : Verb) (ws : List (List ℕ)) (o : Option (ℤ × ℤ)) → takes_off v ≡ false →
    IfNone o ((l u : ℤ) → unsigned_abs l < 2 ^ 127 → unsigned_abs u < 2 ^ 127 → ws ≡ range_words l u → ⊥) →
    IfNone o ((l u : ℤ) → IsRange v l u → ws ≡ certificate v (range_words l u) → ⊥)
no_ends v ws (Some x) e f = tt
no_ends v ws None e f = λ l u r q. f l u r.0 r.1 (q ∙ shown v (range_words l u) e)

-- three numbers, appended one after the other, are a triple
pub triple_put : (a b c d : List ℕ) (t : Triple) → Puts a b (λ r. decimal t.k ∷ r) → Puts b c (λ r. decimal t.h ∷ r) → Puts c d (λ r. decimal t.e ∷ r)
    → Puts a d (λ r. triple_words t ++ r)
triple_put a b c d t p q r =
    puts_then p (puts_then q r)

-- two numbers, appended one after the other, are the ends of a range
pub ends_put : (a b c : List ℕ) (l u x y : ℤ) → Puts a b (λ r. signed_decimal x ∷ r) → x ≡ l → Puts b c (λ r. signed_decimal y ∷ r) → y ≡ u
    → Puts a c (λ r. range_words l u ++ r)
ends_put a b c l u x y p e q f = puts_then (signed_put a b x l p e) (signed_put b c y u q f)

-- a certificate was appended, and so was that with equal ends
pub certificate_put : (a b : List ℕ) (v : Verb) (l u x y : ℤ) → Puts a b (λ r. certificate v (range_words x y) ++ r) → x ≡ l → y ≡ u
    → Puts a b (λ r. certificate v (range_words l u) ++ r)
certificate_put a b v l u x y p e f =
    subst (λ z. Puts a b (λ r. certificate v (range_words z u) ++ r)) e (subst (λ z. Puts a b (λ r. certificate v (range_words x z) ++ r)) f p)

-- the parts of an `order` line were appended one after the other: its word, the places, a colon, the list and a line feed
pub record PutOrder (old new ps xs : List ℕ) : Type 0 where
  pub after_word : List ℕ
  pub after_places : List ℕ
  pub after_colon : List ℕ
  pub after_list : List ℕ
  pub word : after_word ≡ old ++ codes "order"
  pub places : Puts after_word after_places (λ r. map decimal ps ++ r)
  pub colon : Puts after_places after_colon (λ r. codes ":" ∷ r)
  pub list : Puts after_colon after_list (λ r. map decimal xs ++ r)
  pub end : new ≡ after_list ++ (10 ∷ [])

-- its parts, one after the other, are an `order` line
pub order_line : (old new ps xs : List ℕ) → PutOrder old new ps xs → PutsLine old new (Order ps xs)
order_line old new ps xs o =
    let m : Puts o.after_word o.after_list (λ r. map decimal ps ++ (codes ":" ∷ (map decimal xs ++ r))) =
    puts_then o.places (puts_then o.colon o.list) in
    line_is old o.after_word o.after_list new (codes "order") (λ r. map decimal ps ++ (codes ":" ∷ (map decimal xs ++ r))) o.word m o.end
    ∙ ap (λ z. old ++ (parted (codes "order" ∷ (map decimal ps ++ (codes ":" ∷ z))) ++ (10 ∷ []))) (append-nil (map decimal xs))
