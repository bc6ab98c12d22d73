-- What `run` guarantees from the bytes on follows from what it does by the table.
use Rattle.std.proofs.Common.{◌≡◌, ◌⊎◌, inl, inr, ℕ, suc, arith, Option, Some, None, ℤ, pos, refl, ap, sym, ◌∙◌, subst}
use Rattle.std.specs.Prelude.{map, ◌≢◌, List, [], ◌∷◌, ◌++◌, All, AllPairs, Contains, IfSome, Result}
use Rattle.std.proofs.lemmas.List.Elements.{All-cons, All-nil}
use Rattle.ln_base.specs.Outside.{Rose, Shelf, Shown}
use Rattle.ln_base.specs.declared.sign.Sign.{Sign}
use Rattle.ln_base.specs.declared.sign.Sign.TheVariants.{Minus, Plus, Zero}
use Rattle.ln_due.specs.Due.{sign_number}
use Rattle.ln_top.specs.Frame.Given.{named}
use Rattle.ln_top.specs.Frame.Said.{Count, status_of}
use Rattle.ln_top.specs.declared.frame.status.Early.{Early}
use Rattle.ln_top.specs.declared.frame.status.End.{End}
use Rattle.ln_top.specs.declared.frame.status.Status.{Status}
use Rattle.ln_top.specs.Causes.{EndsExactly}
use Rattle.ln_top.specs.Perturbed.{NotZeroWithoutParams}
use Rattle.ln_top.specs.Plan.{plan_of}
use Rattle.ln_top.proofs.Steps.TopLaws.{Carried, exactly}
use Rattle.ln_watch.specs.Panel.{State}
use Rattle.ln_top.proofs.GuaranteeLemmas.ByTableLaws.{run_by_table, run_plan, source_text}
use Rattle.ln_rows.specs.Left.{Records}
use Rattle.ln_top.specs.Target.Line.{sign_text}
use Rattle.ln_tree.specs.declared.shape.VarInfo.{VarInfo}
use Rattle.ln_tree.specs.Row.{InRange}
use Rattle.ln_tree.specs.Table.{PredOf, TableOf}
use Rattle.ln_top.proofs.GuaranteeLemmas.ByTable as by_table
use Rattle.ln_top.proofs.GuaranteeLemmas.ByTable.{FieldsSay}
use Rattle.ln_top.specs.Guarantee as told
use Rattle.ln_top.specs.Guarantee.{AreRowFields, Predicate, sites_after, RunWritesSigns}
use Rattle.ln_top.proofs.GuaranteeLemmas.Range.{in_range, sites_in, vars_sites}
use Rattle.ln_top.proofs.GuaranteeLemmas.Rows.{fields_say}
use Rattle.ln_top.proofs.GuaranteeLemmas.Signs.{sign_there}
use Rattle.ln_top.proofs.GuaranteeLemmas.Walk.{Agreed, in_table}

-- some variable is a param, or none is
some_param : (vars : List VarInfo) → Contains (map (λ (i : VarInfo). i.site) vars) None ⊎ All (λ (i : VarInfo). i.site ≢ None) vars
some_param [] = inr (All-nil (λ (i : VarInfo). i.site ≢ None))
some_param (i ∷ is) = go i.site refl (some_param is)
  where
    later : Contains (map (λ (i : VarInfo). i.site) is) None → Contains (i.site ∷ map (λ (i : VarInfo). i.site) is) None
    later c = (suc c.0, omega (arith, c.1), c.2)

    go : (o : Option ℕ) → i.site ≡ o → Contains (map (λ (i : VarInfo). i.site) is) None ⊎ All (λ (i : VarInfo). i.site ≢ None) is
        → Contains (i.site ∷ map (λ (i : VarInfo). i.site) is) None ⊎ All (λ (i : VarInfo). i.site ≢ None) (i ∷ is)
    go None e r = inl (0, omega arith, e)
    go (Some s) e (inl c) = inl (later c)
    go (Some s) e (inr a) = inr (All-cons (λ (i : VarInfo). i.site ≢ None) i is (λ q. cc) a)

-- the sign whose number is 0
is_zero : (s : Sign) → sign_number s ≡ pos 0 → s ≡ Zero
is_zero Minus h = absurd (cc)
is_zero Zero h = refl
is_zero Plus h = absurd (cc)

abbrev byte_of : Sign → ℕ
byte_of Minus = 45
byte_of Zero = 48
byte_of Plus = 43

is_byte : (s : Sign) → told.IsByteOf (sign_number s) (byte_of s)
is_byte Minus = told.minus
is_byte Zero = told.zero
is_byte Plus = told.plus

text_is : (s : Sign) (rest : List ℕ) → sign_text s ++ 32 ∷ rest ≡ byte_of s ∷ 32 ∷ rest
text_is Minus rest = refl
text_is Zero rest = refl
text_is Plus rest = refl

-- without a param the sign isn't 0
pub only_params : (t : TableOf) (p : Predicate) (q : PredOf) (s : Sign) → Agreed t p q → NotZeroWithoutParams q s → sign_number s ≡ pos 0
    → Contains (sites_after 0 p.args) None
only_params t p q s a n z =
    let sites : map (λ (i : VarInfo). i.site) q.vars ≡ sites_after 0 p.args =
    ap (map (λ (i : VarInfo). i.site)) a.vars ∙ vars_sites 0 0 p.args in
    subst (λ (l : List (Option ℕ)). Contains l None) sites (param (some_param q.vars) (is_zero s z))
  where
    param : Contains (map (λ (i : VarInfo). i.site) q.vars) None ⊎ All (λ (i : VarInfo). i.site ≢ None) q.vars → s ≡ Zero
        → Contains (map (λ (i : VarInfo). i.site) q.vars) None
    param (inl c) z = c
    param (inr a) z = absurd (n a z)

begins : (t : TableOf) (p : Predicate) (q : PredOf) (ns : List ℕ) (zs : List ℤ) (text : List ℕ) → Agreed t p q
    → by_table.BeginsWithSign q (record { index = map pos ns; values = zs }) text → told.BeginsWithSign p ns zs text
begins t p q ns zs text a b =
    let sites : map (λ (i : VarInfo). i.site) q.vars ≡ sites_after 0 p.args =
    ap (map (λ (i : VarInfo). i.site)) a.vars ∙ vars_sites 0 0 p.args in
    record {
      sign = sign_number b.sign;
      has = sign_there q p ns zs b.sign (record { sites = sites; root = a.root }) b.perturbed;
      only = only_params t p q b.sign a b.never_zero;
      byte = byte_of b.sign;
      of = is_byte b.sign;
      rest = b.rest;
      is = b.is ∙ text_is b.sign b.rest;
    }

-- a row of the declared arguments is one of the predicate of the table
pub row_there : (t : TableOf) (p : Predicate) (q : PredOf) (fields : List (List ℕ)) (ns : List ℕ) (zs : List ℤ) → Agreed t p q
    → AreRowFields p.args fields ns zs
    → AllPairs (λ m n. m ≢ n) ns → FieldsSay q.vars fields (map pos ns) zs × InRange q.sites q.vars (record { index = map pos ns; values = zs })
row_there t p q fields ns zs a f d = (
  subst (λ (vs : List VarInfo). FieldsSay vs fields (map pos ns) zs) (sym a.vars) (fields_say f 0 0 a.coords),
  subst (λ (m : ℕ). InRange m q.vars (record { index = map pos ns; values = zs })) (sym a.sites)
      (subst (λ (vs : List VarInfo). InRange (sites_in p.args) vs (record { index = map pos ns; values = zs })) (sym a.vars) (in_range f d)),
)

are_lines : (t : TableOf) (p : Predicate) (q : PredOf) → Agreed t p q → {records : Records} {lines : List ℕ} → by_table.AreSignLines q records lines
    → told.AreSignLines p records lines
are_lines t p q a by_table.no_line = told.none
are_lines t p q a (by_table.a_line {fields = fields} text n f rest) =
    told.more text n (λ ns zs m d.
    let r = row_there t p q fields ns zs a m d in
    begins t p q ns zs text a (f (record { index = map pos ns; values = zs }) r.0 r.1)) (are_lines t p q a rest)

-- what is promised of the table is promised of what the source declares
run_from_table : (words : List (List ℕ)) (shelf : Shelf) (result : Status) (reads puts : Type 0) (was now : Option Shown)
    → EndsExactly words shelf result reads puts → by_table.RunWritesSigns words shelf result was now → RunWritesSigns words shelf result was now
run_from_table words shelf result reads puts was now ends run = λ file name rows source text ps p records w a b d c n r o.
    let x = source_text words shelf (run_plan file name rows) result reads puts source (ap plan_of w) (λ preds. tt) o ends a in
    let i = in_table source ps p x.0 x.1 d c in
    let is_named : named name x.0.preds ≡ Some i.q = ap (λ (z : List ℕ). named z x.0.preds) (sym n) ∙ i.found in
    let put = run file name rows source text x.0 i.q records w a b
    (record { tokens = x.1.tokens; lexed = x.1.lexed; items = x.1.items; spelt = x.1.spelt; says = x.1.says }) is_named
    (r ∙ ap (λ (z : List (List ℕ)). z ∷ records) (sym i.agreed.cols)) o in
    record { lines = put.lines; are = are_lines x.0 p i.q i.agreed put.are; out = put.out }

-- the clause
pub run_signs : {words : List (List ℕ)} {told : Option Shelf} {boxes : List State} {reads : Type 0} {puts : Count} {r : Result End Early}
    {result : Status} {was now : Option Shown} → result ≡ status_of r → Carried words told boxes reads puts r was now
    → IfSome told (λ shelf. RunWritesSigns words shelf result was now)
run_signs {told = None} e h = tt
run_signs {words = words} {told = Some shelf} {boxes = boxes} {reads = reads} {puts = puts} {r = r} {result = result} {was = was} {now = now} e h =
    run_from_table words shelf result reads (Rose puts.before puts.after) was now (exactly words shelf boxes reads puts r result was now e h)
    (run_by_table e h)
