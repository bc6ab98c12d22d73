-- What `emit` guarantees from the bytes on follows from what it does by the table.
use Rattle.std.proofs.Common.{◌≡◌, inl, ℕ, suc, arith, Bool, true, false, cond, Option, Some, None, ℤ, pos, refl, ap, ◌∙◌, subst}
use Rattle.std.specs.Prelude.{map, IfSome, Result, List, [], ◌∷◌, Contains, bytes_eq}
use Rattle.std.specs.List.{find}
use Rattle.ln_base.proofs.Texts.Lists.{equal_bytes}
use Rattle.ln_base.specs.Outside.{Rose, Shelf, Shown}
use Rattle.ln_cemit.specs.Names.{call_name}
use Rattle.ln_csyn.specs.Meaning.{CCall, Signed}
use Rattle.ln_csyn.specs.Tree.{Fun}
use Rattle.ln_due.specs.Due.{sign_number}
use Rattle.ln_top.specs.Frame.Said.{Count, status_of}
use Rattle.ln_top.specs.declared.frame.status.Early.{Early}
use Rattle.ln_top.specs.declared.frame.status.End.{End}
use Rattle.ln_top.specs.declared.frame.status.Status.{Status}
use Rattle.ln_top.proofs.Steps.TopLaws.{Carried, exactly}
use Rattle.ln_top.specs.Causes.{EndsExactly}
use Rattle.ln_top.specs.Plan.{plan_of}
use Rattle.ln_top.specs.declared.words.Command.TheVariants.{Emit}
use Rattle.ln_tree.specs.declared.shape.VarInfo.{VarInfo}
use Rattle.ln_tree.specs.Table.{PredOf, TableOf}
use Rattle.ln_watch.specs.Panel.{State}
use Rattle.ln_top.proofs.GuaranteeLemmas.ByTable as by_table
use Rattle.ln_top.specs.Guarantee as told
use Rattle.ln_top.specs.Guarantee.{EmitWritesC, AreRowFields, Predicate, sites_after}
use Rattle.ln_top.proofs.GuaranteeLemmas.ByTableLaws.{emit_by_table, source_text, text_plan}
use Rattle.ln_top.proofs.GuaranteeLemmas.Range.{vars_sites}
use Rattle.ln_top.proofs.GuaranteeLemmas.Run.{only_params, row_there}
use Rattle.ln_top.proofs.GuaranteeLemmas.Signs.{sign_there}
use Rattle.ln_top.proofs.GuaranteeLemmas.Walk.{Agreed, in_table}

find_test : {A : Type 0} (p : A → Bool) (xs : List A) (y : A) → find p xs ≡ Some y → (p y ≡ true) × Contains xs y
find_test p [] y h = absurd (cc)
find_test {A} p (x ∷ xs) y h = go (p x) refl h (find_test p xs y)
  where
    go : (b : Bool) → p x ≡ b → cond b (Some x) (find p xs) ≡ Some y → (find p xs ≡ Some y → (p y ≡ true) × Contains xs y)
        → (p y ≡ true) × Contains (x ∷ xs) y
    go true e k ih = let q : x ≡ y = cc in (subst (λ (z : A). p z ≡ true) q e, (0, omega arith, q))
    go false e k ih = let r = ih k in (r.0, (suc r.1.0, omega (arith, r.1.1), r.1.2))

call_means : (file : List Fun) (t : TableOf) (p : Predicate) (q : PredOf) (ns : List ℕ) (zs : List ℤ) → q.name ≡ p.name → Agreed t p q
    → by_table.CallMeansSign file q (record { index = map pos ns; values = zs }) → told.CallMeansSign file p ns zs
call_means file t p q ns zs n a c = record {
  sign = sign_number c.sign;
  counts = c.counts;
  called = subst (λ (w : List ℕ). CCall file (call_name w) (map pos ns) zs ≡ Some (Signed (sign_number c.sign) c.counts)) n c.called;
  has = sign_there q p ns zs c.sign (record { sites = ap (map (λ (i : VarInfo). i.site)) a.vars ∙ vars_sites 0 0 p.args; root = a.root }) c.perturbed;
  only = only_params t p q c.sign a c.never_zero;
}

-- so what is promised of the table is promised of what the source declares
emit_from_table : (words : List (List ℕ)) (shelf : Shelf) (result : Status) (reads puts : Type 0) (was now : Option Shown)
    → EndsExactly words shelf result reads puts → by_table.EmitWritesC words shelf result was now → EmitWritesC words shelf result was now
emit_from_table words shelf result reads puts was now ends emit = λ file source ps w a d o.
    let x = source_text words shelf (text_plan Emit file) result reads puts source (ap plan_of w) (λ preds. tt) (inl o) ends a in
    let put = emit file source x.0 w a
    (record { tokens = x.1.tokens; lexed = x.1.lexed; items = x.1.items; spelt = x.1.spelt; says = x.1.says }) o in
    record {
      bytes = put.bytes;
      file = put.file;
      text = put.text;
      calls = λ p fields ns zs c f k.
          let i = in_table source ps p x.0 x.1 d c in
          let there = find_test (λ (r : PredOf). bytes_eq r.name p.name) x.0.preds i.q i.found in
          let range = (row_there x.0 p i.q fields ns zs i.agreed f k).1 in
          call_means put.file x.0 p i.q ns zs (equal_bytes i.q.name p.name there.0) i.agreed
          (put.calls i.q (record { index = map pos ns; values = zs }) there.1 range);
      out = put.out;
    }

-- the clause
pub emit_signs : {words : List (List ℕ)} {told : Option Shelf} {boxes : List State} {reads : Type 0} {puts : Count} {r : Result End Early}
    {result : Status} {was now : Option Shown} → result ≡ status_of r → Carried words told boxes reads puts r was now
    → IfSome told (λ shelf. EmitWritesC words shelf result was now)
emit_signs {told = None} e h = tt
emit_signs {words = words} {told = Some shelf} {boxes = boxes} {reads = reads} {puts = puts} {r = r} {result = result} {was = was} {now = now} e h =
    emit_from_table words shelf result reads (Rose puts.before puts.after) was now (exactly words shelf boxes reads puts r result was now e h)
    (emit_by_table e h)
