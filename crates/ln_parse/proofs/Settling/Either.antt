-- All bytes have a table or a first fault.
use Rattle.std.proofs.Common.{◌≡◌, ℕ, suc, ◌≤◌, ◌⊎◌, inl, inr, List, [], ◌∷◌, ◌++◌, length, Option, Some, None, refl}
use Rattle.ln_base.specs.Limits.{most_tokens}
use Rattle.ln_syntax.specs.Raw.{Token, Item, Is, item_name, Semi}
use Rattle.ln_lex.specs.Answers as lexed
use Rattle.ln_lex.specs.Tokens.{Lexed}
use Rattle.ln_lex.proofs.HasAnswer.{has_answer}
use Rattle.ln_names.specs.Rules.{RawArg, RawLet, Scope, scope}
use Rattle.ln_syntax.specs.Expression.{IsExpr}
use Rattle.ln_syntax.specs.File.{Lets, Items, Spelt, no_let, a_let, site, param, predicate, no_item, an_item}
use Rattle.ln_syntax.specs.Place.{IsShallow}
use Rattle.ln_syntax.proofs.Recognising.Either.{either_depth, either_place}
use Rattle.ln_names.specs.declared.faults.Found.{Found}
use Rattle.ln_names.specs.Visits.{file_visits, first_fault}
use Rattle.ln_names.proofs.FirstFault.{is_first, is_clean}
use Rattle.ln_parse.specs.Says.{Formula, CoordOf, SiteOf, PredOf, TableOf, Says, LetsSay, PredsSay, ItemsSay, resolved, sites_said, params_said}
use Rattle.ln_parse.specs.declared.source.ParseStop.{ParseStop}
use Rattle.ln_parse.specs.Fault as fault
use Rattle.ln_parse.specs.Fault.{TextFault}
use Rattle.ln_parse.specs.Text.{TextOf}
use Rattle.ln_parse.proofs.Building.Predicates.{PredAt, pred_said, one_pred}

-- an expression before a semicolon says a formula
value_said : (bytes : List ℕ) (ts : List Token) (s : Scope) (i j : ℕ) → IsExpr ts i j → Is ts j Semi
    → (x : Formula) × Says bytes ts s (record { from = i; to = j }) x
value_said bytes ts s i j e h = (resolved bytes s e.0, record { tree = e.0; derives = e.1; ends = h; means = refl })

-- lets say formulas
lets_said : (bytes : List ℕ) (ts : List Token) (is : List Item) (args : List RawArg) (before : List RawLet) {i k : ℕ} {ls : List RawLet}
    → Lets ts i k ls → (xs : List Formula) × LetsSay bytes ts is args before ls xs
lets_said bytes ts is args before no_let = ([], tt)
lets_said bytes ts is args before {ls = l ∷ ls} (a_let a b c e h on) =
    let v = value_said bytes ts (scope is args before) _ _ e h in
    let r = lets_said bytes ts is args (before ++ (l ∷ [])) on in
    (v.0 ∷ r.0, (v.1, r.1))

-- what predicates say with any table that has these site types and params
record Preds (bytes : List ℕ) (ts : List Token) (ss : List SiteOf) (cs : List CoordOf) (before is : List Item) : Type 0 where
  pub preds : List PredOf
  pub say : (t : TableOf) → t.sites ≡ ss → t.params ≡ cs → PredsSay bytes ts before t is preds

preds_said : (bytes : List ℕ) (ts : List Token) (ss : List SiteOf) (cs : List CoordOf) (before : List Item) {i k : ℕ} {is : List Item}
    → Items ts i k is → Preds bytes ts ss cs before is
preds_said bytes ts ss cs before no_item = record { preds = []; say = λ t p q. tt }
preds_said bytes ts ss cs before {is = x ∷ xs} (an_item (site a b c d e) on) =
    let r = preds_said bytes ts ss cs (before ++ (x ∷ [])) on in
    record { preds = r.preds; say = r.say }
preds_said bytes ts ss cs before {is = x ∷ xs} (an_item (param a b c d e) on) =
    let r = preds_said bytes ts ss cs (before ++ (x ∷ [])) on in
    record { preds = r.preds; say = r.say }
preds_said bytes ts ss cs before {is = x ∷ xs} (an_item (predicate {k = k} {l = m} {args = args} {ls = ls} a b c d e f g h v s z) on) =
    let l = lets_said bytes ts before args [] g in
    let y = value_said bytes ts (scope before args ls) (suc k) m v s in
    let here : PredAt = record {
      bytes = bytes;
      ts = ts;
      before = before;
      name = item_name x;
      args = args;
      lets = ls;
      root = record { from = suc k; to = m };
    } in
    let r = preds_said bytes ts ss cs (before ++ (x ∷ [])) on in
    record {
      preds = pred_said here ss cs l.0 y.0 ∷ r.preds;
      say = λ t m n. (one_pred here t ss cs l.0 y.0 m n l.1 y.1, r.say t m n);
    }

-- items say a table
items_said : (bytes : List ℕ) (ts : List Token) (is : List Item) → Spelt ts is → (t : TableOf) × ItemsSay bytes ts is t
items_said bytes ts is h =
    let ss = sites_said bytes is in
    let cs = params_said bytes is in
    let r = preds_said bytes ts ss cs [] h in
    let t : TableOf = record { sites = ss; params = cs; preds = r.preds } in
    (t, record { sites_are = refl; params_are = refl; preds_are = r.say t refl refl })

-- a table or a first fault
abbrev Judged : List ℕ → Type 0
Judged bytes = ((t : TableOf) × TextOf bytes t) ⊎ ((e : ParseStop) × TextFault bytes e)

named : (bytes : List ℕ) (ts : List Token) (is : List Item) → Lexed bytes ts → length ts ≤ most_tokens → IsShallow ts → Spelt ts is
    → (o : Option Found) → first_fault bytes (file_visits ts is) ≡ o → Judged bytes
named bytes ts is l w s p (Some f) e = inr (_, fault.names l w s p (is_first bytes (file_visits ts is) f e))
named bytes ts is l w s p None e =
    let r = items_said bytes ts is p in
    inl (r.0, record { tokens = ts; lexed = l; few = w; shallow = s; items = is; spelt = p; clean = is_clean bytes (file_visits ts is) e; says = r.1 })

spelled : (bytes : List ℕ) (ts : List Token) → Lexed bytes ts → length ts ≤ most_tokens → Judged bytes
spelled bytes ts l w = elim (either_depth ts) [
  | inl d ↦ inr (_, fault.nesting l w d.1)
  | inr s ↦ elim (either_place ts) [
    | inl p ↦ inr (_, fault.syntax l w s p.1)
    | inr t ↦ named bytes ts t.0 l w s t.1 (first_fault bytes (file_visits ts t.0)) refl
  ]
]

-- all bytes have a table or a first fault
pub either : (bytes : List ℕ) → Judged bytes
either bytes = elim (has_answer bytes) [
  | lexed.tokens ts l w ↦ spelled bytes ts l w
  | lexed.fault at f ↦ inr (_, fault.lexical f)
  | lexed.limit at f ↦ inr (_, fault.tokens f)
]
