-- A text has one result: one table, or one fault, and not both.
use Rattle.std.proofs.Common.{◌≡◌, inl, inr, ℕ, List, [], ◌∷◌, ◌++◌, refl, ap, sym, ◌∙◌, subst}
use Rattle.std.specs.Prelude.{count_by}
use Rattle.ln_syntax.specs.Raw.{Token, Item, SiteItem, ParamItem, PredItem, span_at}
use Rattle.ln_lex.proofs.OneAnswer.{one_list, one_fault as one_lex_fault, one_limit, list_or_fault, list_or_limit, fault_or_limit}
use Rattle.ln_names.specs.Rules.{RawArg, RawLet, Places, scope}
use Rattle.ln_syntax.specs.File.{Spelt}
use Rattle.ln_syntax.specs.Place.{IsShallow, IsNestingFault, IsSyntaxFault}
use Rattle.ln_syntax.proofs.Recognising.Depth.{one_depth, no_depth}
use Rattle.ln_syntax.proofs.Recognising.Fault.{one_place, no_text}
use Rattle.ln_syntax.proofs.Spellings.OneSpelling.{one_spelling}
use Rattle.ln_syntax.proofs.Spellings.OneTree.{one_tree}
use Rattle.ln_names.specs.declared.faults.Found.{Found}
use Rattle.ln_names.specs.declared.faults.LimitWhat.TheVariants.{Tokens, Nesting}
use Rattle.ln_names.specs.Visits.{file_visits}
use Rattle.ln_names.specs.First.{FirstFault, NoFault}
use Rattle.ln_names.proofs.FirstFault.{first_of, none_of_clean}
use Rattle.ln_parse.specs.Says.{Formula, CoordOf, SiteOf, PredOf, TableOf, Says, LetsSay, PredSays, PredsSay, ItemsSay, resolved, vars_behind, is_site_said}
use Rattle.ln_parse.specs.declared.source.ParseStop.{ParseStop}
use Rattle.ln_parse.specs.declared.source.ParseStop.TheVariants.{Lexical, Limit, Syntax}
use Rattle.ln_parse.specs.Text.{TextOf}
use Rattle.ln_parse.proofs.Building.Predicates.{PredAt, same_pred}
use Rattle.ln_parse.specs.Fault.{TextFault, IsRefusal, IsWithoutTable, lexical, tokens, nesting, syntax, names, one_byte, place_of, stop_of}

made_table : (s s2 : List SiteOf) (p p2 : List CoordOf) (q q2 : List PredOf) → s ≡ s2 → p ≡ p2 → q ≡ q2
    → ◌≡◌ {A = TableOf} (record { sites = s; params = p; preds = q }) (record { sites = s2; params = p2; preds = q2 })
made_table s s2 p p2 q q2 a b c = rw (a, b, c) refl

-- the tokens of an expression say one formula
says_one : (bytes : List ℕ) (ts : List Token) (is : List Item) (args : List RawArg) (ls : List RawLet) (p : Places) (x y : Formula)
    → Says bytes ts (scope is args ls) p x → Says bytes ts (scope is args ls) p y → x ≡ y
says_one bytes ts is args ls p x y a b = sym a.means ∙ ap (resolved bytes (scope is args ls)) (one_tree a.derives a.ends b.derives b.ends).tree ∙ b.means

lets_one : (bytes : List ℕ) (ts : List Token) (is : List Item) (args : List RawArg) (before ls : List RawLet) (xs ys : List Formula)
    → LetsSay bytes ts is args before ls xs → LetsSay bytes ts is args before ls ys → xs ≡ ys
lets_one bytes ts is args before [] [] [] a b = refl
lets_one bytes ts is args before [] [] (y ∷ ys) a b = absurd b
lets_one bytes ts is args before [] (x ∷ xs) ys a b = absurd a
lets_one bytes ts is args before (l ∷ ls) [] ys a b = absurd a
lets_one bytes ts is args before (l ∷ ls) (x ∷ xs) [] a b = absurd b
lets_one bytes ts is args before (l ∷ ls) (x ∷ xs) (y ∷ ys) a b =
    let e = says_one bytes ts is args before l.value x y a.0 b.0 in
    let f = lets_one bytes ts is args (before ++ (l ∷ [])) ls xs ys a.1 b.1 in
    rw (e, f) refl

-- the tokens of a predicate say one predicate of tables with the same site types and params
pred_one : (r : PredAt) (t u : TableOf) (p q : PredOf) → t.sites ≡ u.sites → t.params ≡ u.params
    → PredSays r.bytes r.ts r.before t r.name r.args r.lets r.root p → PredSays r.bytes r.ts r.before u r.name r.args r.lets r.root q → p ≡ q
pred_one r t u p q s e a b =
    let g : p.args ≡ q.args = a.args_are ∙ sym b.args_are in
    same_pred p q (record {
      name = a.name_is ∙ sym b.name_is;
      at = a.at_is ∙ sym b.at_is;
      args = g;
      shape_name = a.shape_is ∙ sym b.shape_is;
      sites = a.sites_are ∙ ap (count_by is_site_said) g ∙ sym b.sites_are;
      vars = a.vars_are ∙ ap (λ (w : List SiteOf). vars_behind w t.params 0 0 p.args) s
          ∙ ap (λ (w : List CoordOf). vars_behind u.sites w 0 0 p.args) e ∙ ap (vars_behind u.sites u.params 0 0) g ∙ sym b.vars_are;
      let_names = a.names_are ∙ sym b.names_are;
      lets = lets_one r.bytes r.ts r.before r.args [] r.lets p.lets q.lets a.lets_are b.lets_are;
      root = says_one r.bytes r.ts r.before r.args r.lets r.root p.root q.root a.root_is b.root_is;
    })

preds_one : (bytes : List ℕ) (ts : List Token) (before : List Item) (t u : TableOf) (is : List Item) (ps qs : List PredOf)
    → t.sites ≡ u.sites → t.params ≡ u.params → PredsSay bytes ts before t is ps → PredsSay bytes ts before u is qs → ps ≡ qs
preds_one bytes ts before t u [] [] [] s r a b = refl
preds_one bytes ts before t u [] [] (q ∷ qs) s r a b = absurd b
preds_one bytes ts before t u [] (p ∷ ps) qs s r a b = absurd a
preds_one bytes ts before t u (SiteItem n cs ∷ is) ps qs s r a b = preds_one bytes ts (before ++ (SiteItem n cs ∷ [])) t u is ps qs s r a b
preds_one bytes ts before t u (ParamItem n g ∷ is) ps qs s r a b = preds_one bytes ts (before ++ (ParamItem n g ∷ [])) t u is ps qs s r a b
preds_one bytes ts before t u (PredItem n as' ls root ∷ is) [] qs s r a b = absurd a
preds_one bytes ts before t u (PredItem n as' ls root ∷ is) (p ∷ ps) [] s r a b = absurd b
preds_one bytes ts before t u (PredItem n as' ls root ∷ is) (p ∷ ps) (q ∷ qs) s r a b =
    let here : PredAt = record { bytes = bytes; ts = ts; before = before; name = n; args = as'; lets = ls; root = root } in
    let e = pred_one here t u p q s r a.0 b.0 in
    let f = preds_one bytes ts (before ++ (PredItem n as' ls root ∷ [])) t u is ps qs s r a.1 b.1 in
    rw (e, f) refl

items_one : (bytes : List ℕ) (ts : List Token) (is : List Item) (t u : TableOf) → ItemsSay bytes ts is t → ItemsSay bytes ts is u → t ≡ u
items_one bytes ts is t u a b =
    let s = a.sites_are ∙ sym b.sites_are in
    let p = a.params_are ∙ sym b.params_are in
    made_table t.sites u.sites t.params u.params t.preds u.preds s p (preds_one bytes ts [] t u is t.preds u.preds s p a.preds_are b.preds_are)

-- a text has one table
pub one_table : (bytes : List ℕ) (t u : TableOf) → TextOf bytes t → TextOf bytes u → t ≡ u
one_table bytes t u a b =
    let q = one_list bytes a.tokens b.tokens a.lexed b.lexed in
    let spelt = subst (λ (w : List Token). Spelt w b.items) (sym q) b.spelt in
    let says = subst (λ (w : List Token). ItemsSay bytes w b.items u) (sym q) b.says in
    let e = one_spelling a.tokens a.items b.items a.spelt spelt in
    items_one bytes a.tokens a.items t u a.says (subst (λ (w : List Item). ItemsSay bytes a.tokens w u) (sym e) says)

-- two faults of one pass are one
two_deep : (ts us : List Token) (i j : ℕ) → ts ≡ us → IsNestingFault ts i → IsNestingFault us j → span_at ts i ≡ span_at us j
two_deep ts us i j q a b =
    let e = one_depth ts i j a (subst (λ (w : List Token). IsNestingFault w j) (sym q) b) in
    ap (span_at ts) e ∙ ap (λ (w : List Token). span_at w j) q

two_places : (bytes : List ℕ) (ts us : List Token) (i j : ℕ) → ts ≡ us → IsSyntaxFault ts i → IsSyntaxFault us j → place_of bytes ts i ≡ place_of bytes us j
two_places bytes ts us i j q a b =
    let e = one_place ts i j a (subst (λ (w : List Token). IsSyntaxFault w j) (sym q) b) in
    ap (place_of bytes ts) e ∙ ap (λ (w : List Token). place_of bytes w j) q

one_name : (bytes : List ℕ) (ts : List Token) (is : List Item) (f g : Found) → FirstFault bytes ts is f → FirstFault bytes ts is g → f ≡ g
one_name bytes ts is f g d e = let a = first_of bytes (file_visits ts is) f d in let b = first_of bytes (file_visits ts is) g e in cc

two_names : (bytes : List ℕ) (ts us : List Token) (is js : List Item) (f g : Found) → ts ≡ us → Spelt ts is → Spelt us js
    → FirstFault bytes ts is f → FirstFault bytes us js g → stop_of f.fault f.at ≡ stop_of g.fault g.at
two_names bytes ts us is js f g q s r a b =
    let r2 = subst (λ (w : List Token). Spelt w js) (sym q) r in
    let b2 = subst (λ (w : List Token). FirstFault bytes w js g) (sym q) b in
    let e = one_spelling ts is js s r2 in
    let b3 = subst (λ (w : List Item). FirstFault bytes ts w g) (sym e) b2 in
    ap (λ (w : Found). stop_of w.fault w.at) (one_name bytes ts is f g a b3)

-- a pass that finds a fault isn't followed by another
deep_or_shallow : (ts us : List Token) (i : ℕ) → ts ≡ us → IsNestingFault ts i → IsShallow us → ⊥
deep_or_shallow ts us i q a b = no_depth ts i a (subst IsShallow (sym q) b)

fault_or_spelt : (ts us : List Token) (i : ℕ) (is : List Item) → ts ≡ us → IsSyntaxFault ts i → Spelt us is → ⊥
fault_or_spelt ts us i is q a b = no_text ts i a (is, subst (λ (w : List Token). Spelt w is) (sym q) b)

fault_or_clean : (bytes : List ℕ) (ts us : List Token) (is js : List Item) (f : Found) → ts ≡ us → Spelt ts is → Spelt us js
    → FirstFault bytes ts is f → NoFault bytes us js → ⊥
fault_or_clean bytes ts us is js f q s r a b =
    let r2 = subst (λ (w : List Token). Spelt w js) (sym q) r in
    let b2 = subst (λ (w : List Token). NoFault bytes w js) (sym q) b in
    let e = one_spelling ts is js s r2 in
    let b3 = subst (λ (w : List Item). NoFault bytes ts w) (sym e) b2 in
    let x = first_of bytes (file_visits ts is) f a in
    let y = none_of_clean bytes (file_visits ts is) b3 in cc

-- a text has one fault
pub one_fault : (bytes : List ℕ) {e f : ParseStop} → TextFault bytes e → TextFault bytes f → e ≡ f
one_fault bytes (lexical {at = i} a) (lexical {at = j} b) = ap (λ (w : ℕ). Lexical (one_byte w)) (one_lex_fault bytes i j a b)
one_fault bytes (lexical {at = i} a) (tokens {at = j} b) = absurd (fault_or_limit bytes i j a b)
one_fault bytes (lexical {at = i} a) (nesting {ts = us} l m n) = absurd (list_or_fault bytes us i l a)
one_fault bytes (lexical {at = i} a) (syntax {ts = us} l m s n) = absurd (list_or_fault bytes us i l a)
one_fault bytes (lexical {at = i} a) (names {ts = us} l m s p n) = absurd (list_or_fault bytes us i l a)
one_fault bytes (tokens {at = i} a) (lexical {at = j} b) = absurd (fault_or_limit bytes j i b a)
one_fault bytes (tokens {at = i} a) (tokens {at = j} b) = ap (λ (w : ℕ). Limit Tokens (one_byte w)) (one_limit bytes i j a b)
one_fault bytes (tokens {at = i} a) (nesting {ts = us} l m n) = absurd (list_or_limit bytes us i l m a)
one_fault bytes (tokens {at = i} a) (syntax {ts = us} l m s n) = absurd (list_or_limit bytes us i l m a)
one_fault bytes (tokens {at = i} a) (names {ts = us} l m s p n) = absurd (list_or_limit bytes us i l m a)
one_fault bytes (nesting {ts = ts} k n d) (lexical {at = j} b) = absurd (list_or_fault bytes ts j k b)
one_fault bytes (nesting {ts = ts} k n d) (tokens {at = j} b) = absurd (list_or_limit bytes ts j k n b)
one_fault bytes (nesting {ts = ts} {k = i} k n d) (nesting {ts = us} {k = j} l m e) = ap (Limit Nesting) (two_deep ts us i j (one_list bytes ts us k l) d e)
one_fault bytes (nesting {ts = ts} {k = i} k n d) (syntax {ts = us} l m s e) = absurd (deep_or_shallow ts us i (one_list bytes ts us k l) d s)
one_fault bytes (nesting {ts = ts} {k = i} k n d) (names {ts = us} l m s p e) = absurd (deep_or_shallow ts us i (one_list bytes ts us k l) d s)
one_fault bytes (syntax {ts = ts} k n r d) (lexical {at = j} b) = absurd (list_or_fault bytes ts j k b)
one_fault bytes (syntax {ts = ts} k n r d) (tokens {at = j} b) = absurd (list_or_limit bytes ts j k n b)
one_fault bytes (syntax {ts = ts} k n r d) (nesting {ts = us} {k = j} l m e) = absurd (deep_or_shallow us ts j (one_list bytes us ts l k) e r)
one_fault bytes (syntax {ts = ts} {k = i} k n r d) (syntax {ts = us} {k = j} l m s e) = ap Syntax (two_places bytes ts us i j (one_list bytes ts us k l) d e)
one_fault bytes (syntax {ts = ts} {k = i} k n r d) (names {ts = us} {is = is} l m s p e) = absurd (fault_or_spelt ts us i is (one_list bytes ts us k l) d p)
one_fault bytes (names {ts = ts} k n r o d) (lexical {at = j} b) = absurd (list_or_fault bytes ts j k b)
one_fault bytes (names {ts = ts} k n r o d) (tokens {at = j} b) = absurd (list_or_limit bytes ts j k n b)
one_fault bytes (names {ts = ts} k n r o d) (nesting {ts = us} {k = j} l m e) = absurd (deep_or_shallow us ts j (one_list bytes us ts l k) e r)
one_fault bytes (names {ts = ts} {is = is} k n r o d) (syntax {ts = us} {k = j} l m s e) = absurd (fault_or_spelt us ts j is (one_list bytes us ts l k) e o)
one_fault bytes (names {ts = ts} {is = is} {f = f} k n r o d) (names {ts = us} {is = js} {f = g} l m s p e) =
    two_names bytes ts us is js f g (one_list bytes ts us k l) o p d e

-- a text with a table has no fault
pub no_fault : (bytes : List ℕ) (t : TableOf) {e : ParseStop} → TextOf bytes t → TextFault bytes e → ⊥
no_fault bytes t a (lexical {at = j} b) = list_or_fault bytes a.tokens j a.lexed b
no_fault bytes t a (tokens {at = j} b) = list_or_limit bytes a.tokens j a.lexed a.few b
no_fault bytes t a (nesting {ts = us} {k = j} l m e) = deep_or_shallow us a.tokens j (one_list bytes us a.tokens l a.lexed) e a.shallow
no_fault bytes t a (syntax {ts = us} {k = j} l m s e) = fault_or_spelt us a.tokens j a.items (one_list bytes us a.tokens l a.lexed) e a.spelt
no_fault bytes t a (names {ts = us} {is = js} {f = g} l m s p e) =
    fault_or_clean bytes us a.tokens js a.items g (one_list bytes us a.tokens l a.lexed) p a.spelt e a.clean

-- a text with a table is refused only when out of memory
pub memory_alone : (bytes : List ℕ) (e : ParseStop) → IsRefusal bytes e → IsWithoutTable bytes e
memory_alone bytes e (inl f) t a = absurd (no_fault bytes t a f)
memory_alone bytes e (inr m) t a = m
