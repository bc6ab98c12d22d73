-- What `list` guarantees from the bytes on follows from what it does by the table.
use Rattle.std.proofs.Common.{◌≡◌, inl, ℕ, Option, Some, None, pos, refl, ap, sym, ◌∙◌, subst}
use Rattle.std.specs.Prelude.{map, IfSome, Result, List, [], ◌∷◌, ◌++◌, All, option_map}
use Rattle.std.proofs.lemmas.List.Elements.{All-cons, All-head, All-nil, All-tail}
use Rattle.ln_base.specs.Lines.{joined}
use Rattle.ln_base.specs.Outside.{Rose, Shelf, Shown}
use Rattle.ln_cert.specs.Listing.{texts_of}
use Rattle.ln_cert.specs.Written.{listing_of}
use Rattle.ln_code.specs.Part.{Part}
use Rattle.ln_top.specs.Frame.Said.{Count, status_of}
use Rattle.ln_top.specs.declared.frame.status.Early.{Early}
use Rattle.ln_top.specs.declared.frame.status.End.{End}
use Rattle.ln_top.specs.declared.frame.status.Status.{Status}
use Rattle.ln_top.proofs.Steps.TopLaws.{Carried, exactly}
use Rattle.ln_top.specs.Causes.{EndsExactly}
use Rattle.ln_top.specs.Plan.{plan_of}
use Rattle.ln_top.specs.declared.words.Command.TheVariants.{List as ListCommand}
use Rattle.ln_tree.specs.declared.shape.VarInfo.{VarInfo}
use Rattle.ln_tree.specs.Table.{PredOf, TableOf}
use Rattle.ln_watch.specs.Panel.{State}
use Rattle.ln_top.proofs.GuaranteeLemmas.ByTable as by_table
use Rattle.ln_top.specs.Guarantee as told
use Rattle.ln_top.specs.Guarantee.{ListWritesListing, Predicate}
use Rattle.ln_top.proofs.GuaranteeLemmas.ByTableLaws.{list_by_table, source_text, text_plan}
use Rattle.ln_top.proofs.GuaranteeLemmas.Range.{vars_sites}
use Rattle.ln_top.proofs.GuaranteeLemmas.Run.{only_params, row_there}
use Rattle.ln_top.proofs.GuaranteeLemmas.Signs.{sign_there}
use Rattle.ln_top.proofs.GuaranteeLemmas.Walk.{Agreed, AreAgreed, all_agreed}

part_for : (t : TableOf) (p : Predicate) (q : PredOf) (part : Part) → q.name ≡ p.name → Agreed t p q → by_table.IsPartFor q part → told.IsPartFor p part
part_for t p q part n a h = record {
  name = h.name ∙ n;
  rows = λ fields ns zs f d.
      let g = h.rows (record { index = map pos ns; values = zs }) (row_there t p q fields ns zs a f d).1 in
      record {
        verdict = g.verdict;
        answers = g.answers;
        has = λ v m. sign_there q p ns zs v.sign
            (record { sites = ap (map (λ (i : VarInfo). i.site)) a.vars ∙ vars_sites 0 0 p.args; root = a.root }) (g.perturbed v m);
        only = λ v m z. only_params t p q v.sign a (g.never_zero v m) z;
      };
}

abbrev TablePair : PredOf × Part → Type 0
TablePair x = by_table.IsPartFor x.0 x.1

abbrev DeclaredPair : Predicate × Part → Type 0
DeclaredPair x = told.IsPartFor x.0 x.1

record Paired (ps : List Predicate) (xs : List (PredOf × Part)) : Type 0 where
  parts : List (Predicate × Part)
  of : map (λ x. x.0) parts ≡ ps
  to : map (λ x. x.1) parts ≡ map (λ x. x.1) xs
  are : All DeclaredPair parts

paired : (t : TableOf) (done : List PredOf) (ps : List Predicate) (xs : List (PredOf × Part)) → AreAgreed t done ps (map (λ x. x.0) xs)
    → All TablePair xs → Paired ps xs
paired t done [] [] a k = record { parts = []; of = refl; to = refl; are = All-nil DeclaredPair }
paired t done [] (x ∷ xs) a k = absurd a
paired t done (p ∷ ps) [] a k = absurd a
paired t done (p ∷ ps) (x ∷ xs) a k =
    let r = paired t (done ++ x.0 ∷ []) ps xs a.3 (All-tail TablePair x xs k) in
    record {
      parts = (p, x.1) ∷ r.parts;
      of = ap (λ (z : List Predicate). p ∷ z) r.of;
      to = ap (λ (z : List Part). x.1 ∷ z) r.to;
      are = All-cons DeclaredPair (p, x.1) r.parts (part_for t p x.0 x.1 a.0 a.2 (All-head TablePair x xs k)) r.are;
    }

-- so what is promised of the table is promised of what the source declares
list_from_table : (words : List (List ℕ)) (shelf : Shelf) (result : Status) (reads puts : Type 0) (was now : Option Shown)
    → EndsExactly words shelf result reads puts → by_table.ListWritesListing words shelf result was now
    → ListWritesListing words shelf result was now
list_from_table words shelf result reads puts was now ends list = λ file source ps w a d o.
    let x = source_text words shelf (text_plan ListCommand file) result reads puts source (ap plan_of w) (λ preds. tt) (inl o) ends a in
    let put = list file source x.0 w a
    (record { tokens = x.1.tokens; lexed = x.1.lexed; items = x.1.items; spelt = x.1.spelt; says = x.1.says }) o in
    let r = paired x.0 [] ps put.parts (subst (λ (z : List PredOf). AreAgreed x.0 [] ps z) (sym put.of) (all_agreed source ps x.0 x.1 d)) put.are in
    record {
      parts = r.parts;
      of = r.of;
      are = r.are;
      out = put.out ∙ ap (λ (z : List Part). option_map (λ (s : Shown). s.out ++ joined (texts_of 2 (listing_of z))) was) (sym r.to);
    }

-- the clause
pub list_signs : {words : List (List ℕ)} {told : Option Shelf} {boxes : List State} {reads : Type 0} {puts : Count} {r : Result End Early}
    {result : Status} {was now : Option Shown} → result ≡ status_of r → Carried words told boxes reads puts r was now
    → IfSome told (λ shelf. ListWritesListing words shelf result was now)
list_signs {told = None} e h = tt
list_signs {words = words} {told = Some shelf} {boxes = boxes} {reads = reads} {puts = puts} {r = r} {result = result} {was = was} {now = now} e h =
    list_from_table words shelf result reads (Rose puts.before puts.after) was now (exactly words shelf boxes reads puts r result was now e h)
    (list_by_table e h)
