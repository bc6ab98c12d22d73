-- Proves that what the blocks of a program tell of a row is what is explained of it.
use Rattle.std.proofs.Common.{◌≡◌, ◌≢◌, ℕ, ◌<◌, suc, List, [], ◌∷◌, ◌++◌, length, refl, sym, ◌∙◌, ap, subst, get_or, map, ◌+◌, ◌≤◌, drop, take, arith}
use Rattle.std.proofs.Common.{append_assoc, append-nil, drop-cons}
use Rattle.std.proofs.Math.IntN.{ℤ, pos}
use Rattle.std.proofs.lemmas.List.{get_or-map, drop_all}
use Rattle.std.proofs.lemmas.Option.{get_or_from_slice_get, slice_get_within, slice_get-get_or}
use Rattle.ln_base.specs.declared.sign.Sign.{Sign}
use Rattle.ln_base.specs.declared.sign.Sign.TheVariants.{Zero}
use Rattle.ln_algebra.specs.Earlier.{Sites}
use Rattle.ln_algebra.specs.Orders.{BySmallest}
use Rattle.ln_algebra.specs.Sign.{or_else, perturbed, sign_along}
use Rattle.ln_algebra.specs.Sign as signs
use Rattle.ln_algebra.specs.Tree.{Tree}
use Rattle.ln_tree.specs.declared.shape.VarInfo.{VarInfo}
use Rattle.ln_tree.specs.Exps.{Pairs, vector, IsRising}
use Rattle.ln_tree.specs.Row.{values, Row}
use Rattle.ln_order.proofs.Signs.RowSigns.{row-stages}
use Rattle.ln_order.specs.Rows.{RowStages}
use Rattle.ln_order.specs.Sites.{row_sites}
use Rattle.ln_code.proofs.Verdicts.Machine.{list-within, no_code}
use Rattle.ln_code.specs.Carried.{stage_at, vectors}
use Rattle.ln_code.specs.Part.{Code, Part, block_value}
use Rattle.ln_code.specs.Verdict.{sign_of}
use Rattle.ln_code.proofs.Exponents.{sites-above}
use Rattle.ln_due.proofs.Parts.BlockLemmas.{Computes, list-computes, some-same}
use Rattle.ln_due.proofs.Verdicts.DueLemmas.{sign-same}
use Rattle.ln_due.specs.Due.{sign_number}
use Rattle.ln_due.specs.DueLaw.{HasValue}
use Rattle.ln_trace.specs.declared.line.TraceLine.{TraceLine}
use Rattle.ln_trace.specs.declared.line.TraceLine.TheVariants as line
use Rattle.ln_trace.specs.Explain.{BlockTells, BlocksAreExplained, Tell, it_decides, it_is_zero, none_left, IsTold, IsToldBehind, TellOn}
use Rattle.ln_trace.specs.Signs.{AreOf, Explains, a_row, at_lines}
use Rattle.ln_trace.specs.Told.{stop_at, up_to_first}
use Rattle.ln_trace.proofs.Telling.{behind-nonzero, stop-nonzero}
use Rattle.std.specs.Prelude.{Some, codes}
use Rattle.ln_order.proofs.Signs.RowsLemmas.{order-places}
use Rattle.ln_order.specs.Order.{IsOrder}
use Rattle.ln_order.specs.Orders.{IsOrderOf}
use Rattle.ln_code.proofs.Verdicts.Prefixed.{list_ends, list_goes}
use Rattle.ln_code.specs.Kept.{AreOfSites, IsProgram}
use Rattle.ln_code.specs.Lists.{list_from, list_of, segment_of}
use Rattle.ln_trace.specs.Text.{text_of_line, text_of_lines}
use Rattle.std.specs.Fmt.{signed_decimal}
use Rattle.ln_base.specs.Exponents.{exponent_word}
use Rattle.ln_base.specs.Lines.{Puts}
use Rattle.ln_base.proofs.Texts.Putting.{line_is, signed_put, puts_then}

-- ---- one block
-- the block with this number tells its exponents and its value
pub block-tells : (p : Part) (zs : List ℤ) (number : ℕ) (block : Code) (exps : Pairs) (z : ℤ) → IsProgram p → number < length p.blocks
    → block ≡ get_or p.blocks number block → exps ≡ block.exps → IsRising exps → block_value zs block ≡ Some z → BlockTells p zs number exps z
block-tells p zs number block exps z k h is same rising v =
    let sited : AreOfSites p.shape.vars block.exps = subst (λ (c : Code). AreOfSites p.shape.vars c.exps) (sym is) (k.of_sites number block h) in
    record {
      block = block;
      there = slice_get-get_or p.blocks number block h ∙ ap (λ c. Some c) (sym is);
      same = same;
      rising = rising;
      of_sites = subst (AreOfSites p.shape.vars) (sym same) sited;
      value = v;
    }

-- a block whose value is 0 leaves the sign to those after it
pub zero-on : (p : Part) (zs : List ℤ) (number : ℕ) (exps : Pairs) (z : ℤ) (old new : List ℕ) → BlockTells p zs number exps z → z ≡ pos 0
    → new ≡ old ++ text_of_line (line.At exps z) → (rest : List ℕ) → TellOn p zs (number ∷ rest) rest old new
zero-on p zs number exps z old new b h q rest behind t =
    let c : BlockTells p zs number exps (pos 0) = subst (BlockTells p zs number exps) h b in
    let r : new ≡ old ++ text_of_line (line.At exps (pos 0)) = q ∙ ap (λ y. old ++ text_of_line (line.At exps y)) h in
    record {
      lines = line.At exps (pos 0) ∷ behind;
      tell = it_is_zero number rest exps behind c t;
      put = sym (append_assoc old (text_of_line (line.At exps (pos 0))) (text_of_lines behind)) ∙ ap (λ y. y ++ text_of_lines behind) (sym r);
    }

-- another decides
pub other-told : (p : Part) (zs : List ℤ) (number : ℕ) (exps : Pairs) (z : ℤ) (old now new : List ℕ) → BlockTells p zs number exps z → z ≢ pos 0
    → now ≡ old ++ text_of_line (line.At exps z) → new ≡ now ++ text_of_line (line.Sign (sign_of z)) → (rest : List ℕ) → IsTold p zs (number ∷ rest) old new
other-told p zs number exps z old now new b h q r rest = record {
  lines = line.At exps z ∷ line.Sign (sign_of z) ∷ [];
  tell = it_decides number rest exps z b h;
  put = r ∙ ap (λ y. y ++ text_of_line (line.Sign (sign_of z))) q ∙ append_assoc old (text_of_line (line.At exps z)) (text_of_line (line.Sign (sign_of z)))
      ∙ ap (λ y. old ++ (text_of_line (line.At exps z) ++ y)) (sym (append-nil (text_of_line (line.Sign (sign_of z)))));
}

-- ---- one after the other
-- with the whole list still to come, nothing is appended yet
pub nothing-on : (p : Part) (zs : List ℤ) (list : List ℕ) (old : List ℕ) → TellOn p zs list list old old
nothing-on p zs list old behind t = record { lines = behind; tell = t; put = refl }

-- lines that are out up to one place of a list, and then from there up to another, are out up to the other
pub on-on : (p : Part) (zs : List ℤ) (list next rest old now new : List ℕ) → TellOn p zs list next old now → TellOn p zs next rest now new
    → TellOn p zs list rest old new
on-on p zs list next rest old now new f g behind t =
    let a = g behind t in
    let b = f a.lines a.tell in
    record { lines = b.lines; tell = b.tell; put = b.put ∙ a.put }

-- lines that are out up to one place, and then all from there on, are all
pub on-told : (p : Part) (zs : List ℤ) (list next old now new : List ℕ) → TellOn p zs list next old now → IsTold p zs next now new → IsTold p zs list old new
on-told p zs list next old now new f a =
    let b = f a.lines a.tell in
    record { lines = b.lines; tell = b.tell; put = a.put ∙ sym b.put }

-- ---- a segment
ahead : (segment rest : List ℕ) (i n : ℕ) → i < length segment → n ≡ get_or segment i 0 → drop i segment ++ rest ≡ n ∷ (drop (i + 1) segment ++ rest)
ahead segment rest i n h e =
    let w : suc i ≡ i + 1 = omega arith in
    ap (λ y. y ++ rest) (drop-cons segment i 0 h ∙ ap (λ j. get_or segment i 0 ∷ drop j segment) w ∙ ap (λ m. m ∷ drop (i + 1) segment) (sym e))

module _ (p : Part) (zs : List ℤ) (segment old now new : List ℕ) (i n : ℕ) (h : i < length segment) (e : n ≡ get_or segment i 0)
    (so_far : (rest : List ℕ) → TellOn p zs (segment ++ rest) (drop i segment ++ rest) old now) where
  here : (rest : List ℕ) → TellOn p zs (segment ++ rest) (n ∷ (drop (i + 1) segment ++ rest)) old now
  here rest = subst (λ (y : List ℕ). TellOn p zs (segment ++ rest) y old now) (ahead segment rest i n h e) (so_far rest)

  -- with the line of one more block of a segment, what is out goes up to the block after it
  pub segment-on : ((rest : List ℕ) → TellOn p zs (n ∷ rest) rest now new) → (rest : List ℕ)
      → TellOn p zs (segment ++ rest) (drop (i + 1) segment ++ rest) old new
  segment-on f rest = on-on p zs (segment ++ rest) (n ∷ (drop (i + 1) segment ++ rest)) (drop (i + 1) segment ++ rest) old now new
      (here rest) (f (drop (i + 1) segment ++ rest))

  -- where a block of a segment decides, all is out, whatever blocks come after the segment
  pub segment-told : ((rest : List ℕ) → IsTold p zs (n ∷ rest) now new) → (rest : List ℕ) → IsTold p zs (segment ++ rest) old new
  segment-told f rest = on-told p zs (segment ++ rest) (n ∷ (drop (i + 1) segment ++ rest)) old now new (here rest) (f (drop (i + 1) segment ++ rest))

-- after the last block of a segment, what is out is what the whole segment tells
pub segment-end : (p : Part) (zs : List ℤ) (segment old now : List ℕ) (i : ℕ) → length segment ≤ i
    → ((rest : List ℕ) → TellOn p zs (segment ++ rest) (drop i segment ++ rest) old now) → (rest : List ℕ) → TellOn p zs (segment ++ rest) rest old now
segment-end p zs segment old now i h f rest = subst (λ (y : List ℕ). TellOn p zs (segment ++ rest) (y ++ rest) old now) (drop_all i segment h) (f rest)

-- ---- the list of an order
module _ (p : Part) (zs : List ℤ) (o segment list old now new : List ℕ) (j : ℕ) (h : j ≤ length o)
    (there : segment ≡ segment_of p (take j o)) (so_far : TellOn p zs list (list_from p o j) old now) where
  from-here : TellOn p zs list (segment ++ list_from p o (j + 1)) old now
  from-here = subst (λ (y : List ℕ). TellOn p zs list y old now) (list_goes p o j h ∙ ap (λ y. y ++ list_from p o (j + 1)) (sym there)) so_far

  -- with the lines of one more segment, what is out goes up to the next segment of the order's list
  pub list-on : ((rest : List ℕ) → TellOn p zs (segment ++ rest) rest now new) → TellOn p zs list (list_from p o (j + 1)) old new
  list-on f = on-on p zs list (segment ++ list_from p o (j + 1)) (list_from p o (j + 1)) old now new from-here (f (list_from p o (j + 1)))

  -- where a segment decides, all lines of the order's list are out
  pub list_told : ((rest : List ℕ) → IsTold p zs (segment ++ rest) now new) → IsTold p zs list old new
  list_told f = on-told p zs list (segment ++ list_from p o (j + 1)) old now new from-here (f (list_from p o (j + 1)))

-- past the last segment the sign 0 ends what the list tells
pub list-end : (p : Part) (zs : List ℤ) (o list old now new : List ℕ) (j : ℕ) → length o < j → TellOn p zs list (list_from p o j) old now
    → new ≡ now ++ text_of_line (line.Sign Zero) → IsTold p zs list old new
list-end p zs o list old now new j h f q = on-told p zs list [] old now new (subst (λ (y : List ℕ). TellOn p zs list y old now) (list_ends p o j h) f) (record {
  lines = line.Sign Zero ∷ [];
  tell = none_left;
  put = q ∙ ap (λ y. now ++ y) (sym (append-nil (text_of_line (line.Sign Zero))));
})

-- ---- a row
-- the `row` line, and then the lines of the blocks in the list of the row's order, are the lines of that row
pub row-told : (p : Part) (row : Row) (n : ℕ) (o now new : List ℕ) → length row.index ≡ p.shape.sites → IsOrder row.index o
    → now ≡ text_of_line (line.Row n) → IsTold p row.values (list_of p o) now new → IsToldBehind p row n [] new
row-told p row n o now new size r q t = record {
  lines = line.Row n ∷ t.lines;
  told = record {
    places = o;
    order = r;
    list = list_of p o;
    chosen = record { order = subst (λ k. IsOrderOf k o) size (order-places row.index o r); list_is = refl };
    told = t.lines;
    tell = t.tell;
    all = refl;
  };
  put = t.put ∙ ap (λ y. y ++ text_of_lines t.lines) q;
}

-- and so the lines of a row are appended to what was out before it
pub told-behind : (p : Part) (row : Row) (n : ℕ) (old text new : List ℕ) → IsToldBehind p row n [] text → new ≡ old ++ text → IsToldBehind p row n old new
told-behind p row n old text new t q = record { lines = t.lines; told = t.told; put = q ∙ ap (λ y. old ++ y) t.put }

-- the word `at`, the exponents, a colon, the value and a line feed are the text of an `at` line
pub at_is : (old a b c d new t u : List ℕ) (exps : List (ℕ × ℕ)) (z x : ℤ) → a ≡ old ++ t → t ≡ codes "at"
    → Puts a b (λ r. map exponent_word exps ++ r) → Puts b c (λ r. u ∷ r) → u ≡ codes ":" → Puts c d (λ r. signed_decimal x ∷ r) → x ≡ z
    → new ≡ d ++ (10 ∷ []) → new ≡ old ++ text_of_line (line.At exps z)
at_is old a b c d new t u exps z x e f p q g s h n =
    let k : Puts b c (λ r. codes ":" ∷ r) = subst (λ w. Puts b c (λ r. w ∷ r)) g q in
    line_is old a d new (codes "at") (λ r. map exponent_word exps ++ (codes ":" ∷ (signed_decimal z ∷ r))) (e ∙ ap (λ w. old ++ w) f)
    (puts_then p (puts_then k (signed_put c d x z s h))) n

-- what is written along a list of vectors
pub record Along (vars : List VarInfo) (sites : Sites) (x : ℕ → ℤ) (e : Tree) (list : List (List ℕ)) (lines : List TraceLine) : Type 0 where
  pub pairs : List (Pairs × ℤ)
  pub sign : Sign
  pub all : lines ≡ at_lines pairs ++ line.Sign sign ∷ []
  pub are : AreOf vars pairs (up_to_first sites x e list)
  pub right : sign_number sign ≡ sign_along sites x e list

module _ (p : Part) (e : Tree) (zs : List ℤ) (sites : Sites) where
  abbrev x : ℕ → ℤ
  x = values zs

  abbrev vars : List VarInfo
  vars = p.shape.vars

  -- a block has the exponents of its stage, and the coefficient there
  at-stage : (k : ℕ) (exps : Pairs) (z : ℤ) → HasValue p k zs (perturbed sites x e (stage_at p k)) → BlockTells p zs k exps z →
      (vector (length vars) exps ≡ stage_at p k) × (z ≡ perturbed sites x e (stage_at p k))
  at-stage k exps z h t =
      let b : h.block ≡ t.block = some-same h.block t.block (sym h.there ∙ t.there) in
      let g : get_or p.blocks k no_code ≡ t.block = get_or_from_slice_get p.blocks k t.block no_code t.there in
      let i : k < length p.blocks = slice_get_within p.blocks k t.block t.there in
      let m : get_or (map (λ (c : Code). c.exps) p.blocks) k [] ≡ t.block.exps =
      get_or-map (λ (c : Code). c.exps) p.blocks k no_code [] i ∙ ap (λ (c : Code). c.exps) g in
      (ap (vector (length vars)) (t.same ∙ sym m), some-same z (perturbed sites x e (stage_at p k)) (sym t.value ∙ ap (block_value zs) (sym b) ∙ h.value))

  -- the lines of a list of blocks are its stages with their coefficients, up to the first that isn't 0, and the sign along them
  pub along : {ks : List ℕ} {lines : List TraceLine} → Tell p zs ks lines → Computes p e zs sites ks → Along vars sites x e (vectors p ks) lines
  along none_left c = record { pairs = []; sign = Zero; all = refl; are = tt; right = refl }
  along (it_decides k ks exps z t n) c =
      let s = at-stage k exps z c.0 t in
      let P : ℤ = perturbed sites x e (stage_at p k) in
      let m : P ≢ pos 0 = λ q. n (s.1 ∙ q) in
      let rest : List (List ℕ × ℤ) = up_to_first sites x e (vectors p ks) in
      record {
        pairs = (exps, z) ∷ [];
        sign = sign_of z;
        all = refl;
        are = (t.rising, sites-above vars exps t.of_sites, s.0, s.1, subst (AreOf vars []) (sym (stop-nonzero P rest m)) tt);
        right = sign-same z ∙ ap signs.sign_of s.1 ∙ sym (behind-nonzero P (sign_along sites x e (vectors p ks)) m);
      }
  along (it_is_zero k ks exps more t behind) c =
      let s = at-stage k exps (pos 0) c.0 t in
      let ih = along behind c.1 in
      let rest : List (List ℕ × ℤ) = up_to_first sites x e (vectors p ks) in
      record {
        pairs = (exps, pos 0) ∷ ih.pairs;
        sign = ih.sign;
        all = ap (λ (l : List TraceLine). line.At exps (pos 0) ∷ l) ih.all;
        are = (t.rising, sites-above vars exps t.of_sites, s.0, s.1, subst (λ y. AreOf vars ih.pairs (stop_at y rest)) s.1 ih.are);
        right = subst (λ y. sign_number ih.sign ≡ or_else (signs.sign_of y) (sign_along sites x e (vectors p ks))) s.1 ih.right;
      }

-- what the blocks tell is what is explained
pub blocks-explained : BlocksAreExplained
blocks-explained p e f fields row n lines program carries read r t = subst (Explains (record { sites = p.shape.sites; vars = p.shape.vars; tree = e }) n fields)
    (sym all) (a_row row (vectors p t.list) told.pairs told.sign read stages told.are told.right)
  where
    stages : RowStages BySmallest p.shape.vars e row (vectors p t.list)
    stages = row-stages BySmallest p.shape row t.places e (vectors p t.list) r t.order (carries.lists t.places t.list t.chosen)

    computes : Computes p e row.values (row_sites p.shape.vars row.index) t.list
    computes = list-computes p e f row.values (row_sites p.shape.vars row.index) program BySmallest carries r.values t.list
        (list-within p t.places t.list program t.chosen) (λ a i. (stages.stages a i).over)

    told : Along p.shape.vars (row_sites p.shape.vars row.index) (values row.values) e (vectors p t.list) t.told
    told = along p e row.values (row_sites p.shape.vars row.index) t.tell computes

    all : lines ≡ line.Row n ∷ at_lines told.pairs ++ line.Sign told.sign ∷ []
    all = t.all ∙ ap (λ (l : List TraceLine). line.Row n ∷ l) told.all
