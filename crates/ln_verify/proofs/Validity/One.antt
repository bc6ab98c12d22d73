-- A line leads to one place at most; so a listing is valid or has one first fault, and not both.
use Rattle.std.proofs.Common.{◌≡◌, List, [], ◌∷◌, ◌++◌, sym, ◌∙◌, ap, subst}
use Rattle.ln_base.proofs.Forms.Judging.{not_both, one_fault}
use Rattle.ln_due.proofs.Parts.BlockLemmas.{some-same}
use Rattle.ln_verify.specs.BlockRules.{Version, balanced}
use Rattle.ln_verify.specs.Line.{Between, InBlock, InFilter, LineRule, Named, Ordering, Outside, PartRule, Place, Rule, Spot, Subject, Within, Written}
use Rattle.ln_verify.specs.Judge.{judge_of}
use Rattle.ln_verify.specs.Law.{OneAnswer}
use Rattle.ln_cert.specs.declared.part.Part.{Part}
use Rattle.ln_cert.specs.declared.part.Part.TheVariants.{Predicate, NoFilter, Filter, FilterOp, Decide, Block, BlockOp, RangeOp, End, Order, Done}

line-one : (v : Version) (p : Subject) (s : Spot) (line : Part) (t t' : Spot) → LineRule v p s line t → LineRule v p s line t' → t ≡ t'
line-one v p Named NoFilter t t' r r' = r ∙ sym r'
line-one v p Named Filter t t' r r' = r ∙ sym r'
line-one v p (InFilter lines s) (FilterOp op b) t t' r r' =
    r.2 ∙ ap (InFilter (lines ++ record { op = op; bound = b } ∷ [])) (some-same r.0 r'.0 (sym r.1.0 ∙ r'.1.0)) ∙ sym r'.2
line-one v p (InFilter lines s) Decide t t' r r' = r.to ∙ sym r'.to
line-one v p (Between f bs) (Block k a') t t' r r' = r.to ∙ sym r'.to
line-one v p (Between f bs) (Order places list) t t' r r' = r.to ∙ sym r'.to
line-one v p (InBlock f bs a lines s) (BlockOp op b) t t' r r' =
    r.1.2 ∙ ap (InBlock f bs a (lines ++ record { op = op; bound = balanced b } ∷ [])) (some-same r.1.0 r'.1.0 (sym r.1.1.0 ∙ r'.1.1.0)) ∙ sym r'.1.2
line-one v p (InBlock f bs a lines s) (RangeOp op lo hi) t t' r r' =
    r.1.2 ∙ ap (InBlock f bs a (lines ++ record { op = op; bound = record { low = lo; high = hi } } ∷ []))
    (some-same r.1.0 r'.1.0 (sym r.1.1.0 ∙ r'.1.1.0)) ∙ sym r'.1.2
line-one v p (InBlock f bs a lines s) End t t' r r' = r.to ∙ sym r'.to
line-one v p (Ordering w) (Order places list) t t' r r' = r.to ∙ sym r'.to
line-one v p s line t t' r r' = absurd r

part-one : (v : Version) (p : Subject) (parts : List Written) (s : Spot) (line : Part) (q q' : Place) → PartRule v p parts s line q
    → PartRule v p parts s line q' → q ≡ q'
part-one v p parts (Ordering w) Done q q' r r' = r.to ∙ sym r'.to
part-one v p parts s line q q' r r' = r.2 ∙ ap (Within parts) (line-one v p s line r.0 r'.0 r.1 r'.1) ∙ sym r'.2

-- a line leads to one place at most
rule-one : (v : Version) (ps : List Subject) (here q q' : Place) (line : Part) → Rule v ps here line q → Rule v ps here line q' → q ≡ q'
rule-one v ps (Outside parts) q q' (Predicate name) r r' = r.to ∙ sym r'.to
rule-one v ps (Outside parts) q q' line r r' = absurd r
rule-one v ps (Within parts s) q q' line (p, g, r) (p', g', r') =
    let e : p ≡ p' = some-same p p' (sym g ∙ g') in
    part-one v p parts s line q q' r (subst (λ (z : Subject). PartRule v z parts s line q') (sym e) r')

-- a listing has one first fault at most, and none where it is valid
pub one-answer : OneAnswer
one-answer = record {
  one = λ v ps lines m n f g. one_fault (judge_of v ps) (rule-one v ps) (Outside []) lines m n f g;
  not_both = λ v ps lines n h f. not_both (judge_of v ps) (rule-one v ps) (Outside []) lines n (Outside h.parts) h.good (λ z. z h.all) f;
}
