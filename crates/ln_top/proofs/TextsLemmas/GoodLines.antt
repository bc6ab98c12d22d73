-- The listing of compiled programs is the lines of good parts, and so it is valid.
use Rattle.std.proofs.Common.{◌≡◌, ℕ, suc, List, [], ◌∷◌, ◌++◌, length, map, refl, sym, ◌∙◌, ap, subst}
use Rattle.std.proofs.lemmas.Slice.Zip.{AllZip-long}
use Rattle.std.specs.List.{AllZip}
use Rattle.std.specs.Prelude.{Option, Some, None}
use Rattle.ln_algebra.specs.Orders.{BySmallest}
use Rattle.ln_tree.specs.Table.{PredOf}
use Rattle.ln_order.specs.Orders.{orders_of}
use Rattle.ln_poly.specs.Sparse.{Sparse, terms_of}
use Rattle.ln_code.specs.Carried.{Carries}
use Rattle.ln_code.specs.Lists.{list_of}
use Rattle.ln_code.specs.Part.{Code, FilterCode, Part, lines_of}
use Rattle.ln_compile.specs.Accepted.{root_of}
use Rattle.ln_compile.specs.Compiled.{AreProgramsOf, IsProgramOf}
use Rattle.ln_cemit.specs.Emitted.{AreKept}
use Rattle.ln_cert.specs.declared.part.Entry.{Entry}
use Rattle.ln_cert.specs.declared.part.Part.{Part as Said}
use Rattle.ln_cert.specs.declared.part.Part.TheVariants.{Predicate, Block, End, Order, Done}
use Rattle.ln_cert.specs.Listing.{ListText, parts_of}
use Rattle.ln_cert.specs.Written as cert
use Rattle.ln_cert.specs.Written.{blocks_lines, listing_of, program_lines}
use Rattle.ln_verify.specs.BlockRules.{version_2}
use Rattle.ln_verify.specs.Good.{AreGoodParts, all_lines, block_lines, triple_parts, order_lines, part_lines, range_line}
use Rattle.ln_verify.specs.Judge.{Go}
use Rattle.ln_verify.specs.Line.{Outside, Subject, Written}
use Rattle.ln_verify.specs.Verified.{AreSubjectsOf}
use Rattle.ln_verify.specs.Good.{IsGoodPart}
use Rattle.ln_verify.proofs.Judging.Put.{parts-go}
use Rattle.ln_top.specs.Texts.Listing.{AreListable, IsListingOf, PartIsDue}
use Rattle.ln_top.proofs.TextsLemmas.GoodParts.{good_part, lines_in, piece_of, subject_of, written_of}
use Rattle.ln_top.proofs.TextsLemmas.ListedParts.{part_due}

-- ---- the lines of one program
filter_same : (o : Option FilterCode) → cert.filter_parts o ≡ triple_parts (lines_in o)
filter_same None = refl
filter_same (Some f) = refl

append_more : {A : Type 0} (xs ys : List A) (x : A) → (xs ++ x ∷ []) ++ ys ≡ xs ++ x ∷ ys
append_more [] ys x = refl
append_more (z ∷ xs) ys x = ap (λ w. z ∷ w) (append_more xs ys x)

blocks_same : (k : ℕ) (cs : List Code) → blocks_lines k cs ≡ block_lines k (map piece_of cs)
blocks_same k [] = refl
blocks_same k (c ∷ cs) =
    let r = blocks_same (suc k) cs in
    let a : (map range_line (lines_of c.ops c.pairs) ++ End ∷ []) ++ blocks_lines (suc k) cs ≡ map range_line
    (lines_of c.ops c.pairs) ++ End ∷ blocks_lines (suc k) cs = append_more (map range_line (lines_of c.ops c.pairs))
    (blocks_lines (suc k) cs) End in
    ap (λ z. Block k c.exps ∷ z) a ∙ ap (λ z. Block k c.exps ∷ (map range_line (lines_of c.ops c.pairs) ++ (End ∷ z))) r

orders_same : (p : Part) (os : List (List ℕ)) → cert.order_lines p os ≡ order_lines os (map (list_of p) os)
orders_same p [] = refl
orders_same p (o ∷ os) = ap (λ z. Order o (list_of p o) ∷ z) (orders_same p os)

lines_same : (p : Part) (f : Sparse) → program_lines p ≡ part_lines (subject_of p f) (written_of p)
lines_same p f =
    let name = (subject_of p f).name in
    let a = filter_same p.filter in
    let b = blocks_same 0 p.blocks in
    let c = orders_same p (orders_of p.shape.sites) in
    λ i. Predicate name ∷ (a i ++ (b i ++ (c i ++ Done ∷ [])))

-- ---- all of them
-- the subjects of the predicates; the programs' listing is the lines of their parts, and each part is valid by version 2
pub record Goods (ps : List PredOf) (parts : List Part) : Type 0 where
  pub subjects : List Subject
  pub those : AreSubjectsOf ps subjects
  pub lines : listing_of parts ≡ all_lines subjects (map written_of parts)
  pub good : AreGoodParts version_2 subjects (map written_of parts)

carries_here : (p : PredOf) (part : Part) (o : IsProgramOf p part)
    → Carries BySmallest part (root_of p) (terms_of (length part.shape.vars) o.poly)
carries_here p part o = subst (λ (n : ℕ). Carries BySmallest part (root_of p) (terms_of n o.poly)) (sym (ap length o.vars)) o.carries

-- compiled programs that can be listed have good parts, and the listing of the programs is the lines of these
pub goods : (ps : List PredOf) (parts : List Part) → AreProgramsOf ps parts → AreKept parts → AreListable parts → Goods ps parts
goods [] [] a k l = record { subjects = []; those = tt; lines = refl; good = tt }
goods [] (c ∷ cs) a k l = absurd a
goods (p ∷ ps) [] a k l = absurd a
goods (p ∷ ps) (c ∷ cs) a k l =
    let o : IsProgramOf p c = a.0 in
    let r = goods ps cs a.1 k.1 l.1 in
    record {
      subjects = subject_of c o.poly ∷ r.subjects;
      those = (record { name = o.name; sites = o.sites; vars = o.vars; normal = o.normal }, r.those);
      lines =
          ap (λ z. z ++ listing_of cs) (lines_same c o.poly)
          ∙ ap (λ z. part_lines (subject_of c o.poly) (written_of c) ++ z) r.lines;
      good = (good_part c (root_of p) o.poly k.0 (carries_here p c o) l.0 o.small, r.good);
    }

-- ---- the listing
parts_due : (ps : List PredOf) (parts : List Part) → AreProgramsOf ps parts → AreKept parts → AllZip PartIsDue ps (map written_of parts)
parts_due [] [] a k = tt
parts_due [] (c ∷ cs) a k = absurd a
parts_due (p ∷ ps) [] a k = absurd a
parts_due (p ∷ ps) (c ∷ cs) a k = (part_due p c k.0 a.0, parts_due ps cs a.1 k.1)

-- lines with their numbers, from n on
abbrev entries_from : ℕ → List Said → List Entry
entries_from n [] = []
entries_from n (x ∷ xs) = record { line = n; part = x } ∷ entries_from (suc n) xs

entries_back : (n : ℕ) (xs : List Said) → parts_of (entries_from n xs) ≡ xs
entries_back n [] = refl
entries_back n (x ∷ xs) = ap (λ z. x ∷ z) (entries_back (suc n) xs)

-- the text of a listing of compiled programs is that of a valid listing whose parts have the verdicts that rows require
pub listing_is : (ps : List PredOf) (parts : List Part) (bytes : List ℕ) → AreProgramsOf ps parts → AreKept parts
    → AreListable parts → ListText bytes 2 (listing_of parts) → IsListingOf ps bytes
listing_is ps parts bytes a k l t =
    let g : Goods ps parts = goods ps parts a k l in
    let ws : List Written = map written_of parts in
    let e : parts_of (entries_from 2 (listing_of parts)) ≡ listing_of parts = entries_back 2 (listing_of parts) in
    record {
      listing = record { version = 2; entries = entries_from 2 (listing_of parts) };
      second = refl;
      text = subst (λ (xs : List Said). ListText bytes 2 xs) (sym e) t;
      valid = record {
        subjects = g.subjects;
        those = g.those;
        valid = record {
          parts = ws;
          good =
              subst (λ (xs : List Said). Go version_2 g.subjects (Outside []) xs (Outside (map written_of parts)))
              (sym (e ∙ g.lines)) (parts-go [] g.subjects [] (map written_of parts) refl g.good);
          all = AllZip-long (IsGoodPart version_2) g.subjects (map written_of parts) g.good;
        };
      };
      due = parts_due ps parts a k;
      programs = parts;
      are_programs = a;
      kept = k;
      lines = e;
    }
