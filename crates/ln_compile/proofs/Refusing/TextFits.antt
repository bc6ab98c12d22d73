-- The expressions of a text are expressions of the language.
use Rattle.std.proofs.Common.{◌≡◌, ℕ, suc, true, List, [], ◌∷◌, ◌++◌, length, map, refl, ap, sym, ◌∙◌, subst, arith, append_assoc, length-append}
use Rattle.std.specs.List.{AllByRecursion}
use Rattle.std.proofs.lemmas.Bool.{and_from}
use Rattle.ln_base.specs.declared.span.Span.{Span}
use Rattle.ln_lex.specs.declared.token.Token.{Token}
use Rattle.ln_lex.proofs.Slices.{stand_slices}
use Rattle.ln_syntax.specs.declared.raw.RawArg.{RawArg}
use Rattle.ln_syntax.specs.declared.raw.RawLet.{RawLet}
use Rattle.ln_syntax.specs.declared.raw.Places.{Places}
use Rattle.ln_syntax.specs.Raw.{Item, SiteItem, ParamItem, PredItem}
use Rattle.ln_syntax.proofs.Spellings.OneTree.{one_tree}
use Rattle.ln_names.specs.Limits.{Each}
use Rattle.ln_names.specs.Rules.{scope}
use Rattle.ln_tree.specs.Fits.{is_fit, lets_fit}
use Rattle.ln_tree.specs.Formula.{Formula, tree}
use Rattle.ln_tree.specs.Table.{CoordOf, PredOf, SiteOf, TableOf}
use Rattle.ln_tree.specs.declared.shape.VarInfo.{VarInfo}
use Rattle.ln_parse.specs.Fault.{IsFaultless}
use Rattle.ln_parse.specs.Ready.{ReadyItem, ReadyLet, ReadyPred, ReadyValue, Declares}
use Rattle.ln_parse.specs.Says.{LetsSay, PredSays, PredsSay, Says, params_said, resolved, sites_said, vars_behind}
use Rattle.ln_parse.specs.Text.{TextOf}
use Rattle.ln_parse.proofs.Expressions.Fitting.{Sees, fits, said}
use Rattle.ln_parse.proofs.Building.Kept.{declared, sees}
use Rattle.ln_parse.proofs.Building.Readiness.{faultless_ready}
use Rattle.ln_compile.specs.Weighed.{IsFitPred}

-- the number of lets and the variables
abbrev vars_of : List ℕ → List Item → List RawArg → List SiteOf → List CoordOf → List VarInfo
vars_of bytes is args S P = vars_behind S P 0 0 (said bytes is args)

-- what tokens say is fit
value-fit : (bytes : List ℕ) (ts : List Token) (is : List Item) (args : List RawArg) (ls : List RawLet) (p : Places) (x : Formula)
    (S : List SiteOf) (P : List CoordOf) → Sees bytes is args S P
    → Says bytes ts (scope is args ls) p x → ReadyValue bytes ts (scope is args ls) p
    → is_fit (length (vars_of bytes is args S P)) (length ls) (tree (vars_of bytes is args S P) x) ≡ true
value-fit bytes ts is args ls p x S P g s v =
    let vars = vars_of bytes is args S P in
    let t = (one_tree s.derives s.ends v.derives v.ends).tree in
    let q : resolved bytes (scope is args ls) v.tree ≡ x = ap (resolved bytes (scope is args ls)) (sym t) ∙ s.means in
    subst (λ (w : Formula). is_fit (length vars) (length ls) (tree vars w) ≡ true) q (fits bytes is args ls S P v.tree g v.fit)

-- so are the lets, of which there are as many as the tokens have
lets-fit : (bytes : List ℕ) (ts : List Token) (is : List Item) (args : List RawArg) (before ls : List RawLet) (xs : List Formula)
    (S : List SiteOf) (P : List CoordOf) → Sees bytes is args S P
    → LetsSay bytes ts is args before ls xs → Each (ReadyLet bytes ts is args) before ls
    → (lets_fit (length (vars_of bytes is args S P)) (length before) (map (tree (vars_of bytes is args S P)) xs) ≡ true) × (length xs ≡ length ls)
lets-fit bytes ts is args before [] [] S P g s e = (refl, refl)
lets-fit bytes ts is args before [] (x ∷ xs) S P g s e = absurd s
lets-fit bytes ts is args before (l ∷ ls) [] S P g s e = absurd s
lets-fit bytes ts is args before (l ∷ ls) (x ∷ xs) S P g s e =
    let vars = vars_of bytes is args S P in
    let a = value-fit bytes ts is args before l.value x S P g s.0 e.0.value in
    let r = lets-fit bytes ts is args (before ++ (l ∷ [])) ls xs S P g s.1 e.1 in
    let n : length (before ++ (l ∷ [])) ≡ suc (length before) = length-append before (l ∷ []) ∙ (omega arith) in
    let b = subst (λ (w : ℕ). lets_fit (length vars) w (map (tree vars) xs) ≡ true) n r.0 in
    (and_from _ _ a b, ap suc r.1)

-- a predicate that tokens say
pred-fit : (bytes : List ℕ) (ts : List Token) (is : List Item) (t : TableOf) (name : Span) (args : List RawArg) (ls : List RawLet) (root : Places) (p : PredOf)
    → Declares bytes is t.sites t.params → ReadyPred bytes ts is name args ls root → PredSays bytes ts is t name args ls root p → IsFitPred p
pred-fit bytes ts is t name args ls root p d r s =
    let g = sees bytes is args t.sites t.params d r.args in
    let w : vars_of bytes is args t.sites t.params ≡ p.vars = ap (vars_behind t.sites t.params 0 0) (sym s.args_are) ∙ sym s.vars_are in
    let m = lets-fit bytes ts is args [] ls p.lets t.sites t.params g s.lets_are r.lets in
    let f = value-fit bytes ts is args ls root p.root t.sites t.params g s.root_is r.root in
    let k =
    subst (λ (n : ℕ). is_fit (length (vars_of bytes is args t.sites t.params)) n (tree (vars_of bytes is args t.sites t.params) p.root) ≡ true) (sym m.1) f in
    record {
      lets = subst (λ (u : List VarInfo). lets_fit (length u) 0 (map (tree u) p.lets) ≡ true) w m.0;
      root = subst (λ (u : List VarInfo). is_fit (length u) (length p.lets) (tree u p.root) ≡ true) w k;
    }

-- the predicates that items say
preds-fit : (bytes : List ℕ) (ts : List Token) (t : TableOf) (all before is : List Item) (ps : List PredOf) → t.sites ≡ sites_said bytes all
    → t.params ≡ params_said bytes all → Each (ReadyItem bytes ts) [] all → before ++ is ≡ all → Each (ReadyItem bytes ts) before is
    → PredsSay bytes ts before t is ps → AllByRecursion IsFitPred ps
preds-fit bytes ts t all before [] [] es ep ra q r s = tt
preds-fit bytes ts t all before [] (p ∷ ps) es ep ra q r s = absurd s
preds-fit bytes ts t all before (SiteItem n cs ∷ is) ps es ep ra q r s =
    preds-fit bytes ts t all (before ++ (SiteItem n cs ∷ [])) is ps es ep ra (append_assoc before (SiteItem n cs ∷ []) is ∙ q) r.1 s
preds-fit bytes ts t all before (ParamItem n x ∷ is) ps es ep ra q r s =
    preds-fit bytes ts t all (before ++ (ParamItem n x ∷ [])) is ps es ep ra (append_assoc before (ParamItem n x ∷ []) is ∙ q) r.1 s
preds-fit bytes ts t all before (PredItem n args ls root ∷ is) [] es ep ra q r s = absurd s
preds-fit bytes ts t all before (PredItem n args ls root ∷ is) (p ∷ ps) es ep ra q r s =
    let d = declared bytes ts before (PredItem n args ls root ∷ is) all t.sites t.params q es ep ra in (
      pred-fit bytes ts before t n args ls root p d r.0 s.0,
      preds-fit bytes ts t all (before ++ (PredItem n args ls root ∷ [])) is ps es ep ra (append_assoc before (PredItem n args ls root ∷ []) is ∙ q) r.1 s.1,
    )

-- the predicates of a text
pub text-fits : (bytes : List ℕ) (t : TableOf) → TextOf bytes t → AllByRecursion IsFitPred t.preds
text-fits bytes t x =
    let f : IsFaultless bytes x.tokens x.items = record { lexed = x.lexed; few = x.few; shallow = x.shallow; spelt = x.spelt; clean = x.clean } in
    let r = faultless_ready bytes x.tokens x.items (stand_slices bytes 0 x.tokens x.lexed.to x.lexed.tokens) f in
    preds-fit bytes x.tokens t x.items [] x.items t.preds x.says.sites_are x.says.params_are r.each refl r.each x.says.preds_are
