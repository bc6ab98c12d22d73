-- How many tokens the canonical text of a whole table has.
use Rattle.std.proofs.Common.{◌≡◌, ℕ, suc, ◌+◌, ◌*◌, ◌<◌, Bool, true, false, List, [], ◌∷◌, length, refl, arith, codes}
use Rattle.std.specs.Prelude.{ℤ, pos, int_lt, unsigned_abs}
use Rattle.ln_lex.specs.declared.token.Kind.TheVariants.{ParR, BraceL, BraceR, Semi, Dots}
use Rattle.ln_parse.specs.Written.{Formula, CoordOf, SiteOf, ArgOf, SiteArg, ParamArg, PredOf, TableOf, Naming, naming}
use Rattle.ln_tree.specs.Whole.{tokens_of, total, end_tokens, range_tokens, site_tokens, param_tokens, pred_tokens, text_tokens}
use Rattle.ln_parse.specs.Canonical.{Lexeme, gap, line, word, signed, minus_if, number, each, ranged, coord, site, param, arg, further, args, lets, root, pred}
use Rattle.ln_parse.specs.Canonical.{lexemes}
use Rattle.ln_parse.specs.ReadsBack.{Every}
use Rattle.ln_parse.specs.WholeTable.{PredKept}
use Rattle.ln_parse.proofs.Texts.Nested.{words, whole_words}
use Rattle.ln_parse.proofs.Wholes.WholeParts.{PredParts}

signed_words : (z : ℤ) (v : Bool) → int_lt z (pos 0) ≡ v → (rest : List Lexeme) → words (minus_if v (number (unsigned_abs z) rest)) ≡ end_tokens z + words rest
signed_words z true h rest = rw h (omega arith)
signed_words z false h rest = rw h (omega arith)

ranged_words : (c : CoordOf) (rest : List Lexeme) → words (ranged c rest) ≡ range_tokens c + words rest
ranged_words c rest =
    let b = signed_words c.hi (int_lt c.hi (pos 0)) refl (word Semi (codes ";") ∷ rest) in
    let a = signed_words c.lo (int_lt c.lo (pos 0)) refl (gap ∷ word Dots (codes "..") ∷ gap ∷ signed c.hi (word Semi (codes ";") ∷ rest)) in omega arith

each_words : {A : Type 0} (f : A → List Lexeme → List Lexeme) (c : A → ℕ) (xs : List A)
    → ((x : A) (rest : List Lexeme) → words (f x rest) ≡ c x + words rest) → (rest : List Lexeme) → words (each f xs rest) ≡ total c xs + words rest
each_words f c [] h rest = omega arith
each_words f c (x ∷ xs) h rest = let a = h x (each f xs rest) in let b = each_words f c xs h rest in omega arith

site_words : (s : SiteOf) (rest : List Lexeme) → words (site s rest) ≡ site_tokens s + words rest
site_words s rest = let a = each_words coord range_tokens s.coords (λ c r. ranged_words c (gap ∷ r)) (word BraceR (codes "}") ∷ line ∷ rest) in omega arith

param_words : (c : CoordOf) (rest : List Lexeme) → words (param c rest) ≡ param_tokens c + words rest
param_words c rest = let a = ranged_words c (line ∷ rest) in omega arith

arg_words : (t : TableOf) (a : ArgOf) (rest : List Lexeme) → words (arg t a rest) ≡ 3 + words rest
arg_words t (SiteArg n s) rest = omega arith
arg_words t (ParamArg p) rest = omega arith

further_words : (t : TableOf) (xs : List ArgOf) (rest : List Lexeme) → words (each (further t) xs rest) ≡ 4 * length xs + words rest
further_words t [] rest = omega arith
further_words t (a ∷ xs) rest = let p = arg_words t a (each (further t) xs rest) in let q = further_words t xs rest in omega arith

args_words : (t : TableOf) (xs : List ArgOf) (rest : List Lexeme) → 0 < length xs → suc (words (args t xs rest)) ≡ 4 * length xs + words rest
args_words t [] rest h = absurd (omega arith)
args_words t (a ∷ xs) rest h = let p = arg_words t a (each (further t) xs rest) in let q = further_words t xs rest in omega arith

lets_words : (n : Naming) (us : List (List ℕ)) (es : List Formula) (rest : List Lexeme) → length us ≡ length es
    → words (lets n us es rest) ≡ total (λ e. 4 + tokens_of n.args 0 e) es + words rest
lets_words n [] [] rest h = omega arith
lets_words n [] (e ∷ es) rest h = absurd (omega arith)
lets_words n (u ∷ us) [] rest h = absurd (omega arith)
lets_words n (u ∷ us) (e ∷ es) rest h =
    let b = lets_words n us es rest (omega arith) in
    let a = whole_words n e (word Semi (codes ";") ∷ gap ∷ lets n us es rest) in omega arith

pred_words : (t : TableOf) (p : PredOf) → 0 < length p.args → length p.let_names ≡ length p.lets → (rest : List Lexeme)
    → words (pred t p rest) ≡ pred_tokens p + words rest
pred_words t p h m rest =
    let n = naming t p in
    let c = whole_words n p.root (word Semi (codes ";") ∷ gap ∷ word BraceR (codes "}") ∷ line ∷ rest) in
    let b = lets_words n p.let_names p.lets (root n p.root rest) m in
    let a = args_words t p.args (word ParR (codes ")") ∷ gap ∷ word BraceL (codes "{") ∷ gap ∷ lets n p.let_names p.lets (root n p.root rest)) h in omega arith

preds_words : (t : TableOf) (ps : List PredOf) → Every PredKept ps → Every (PredParts t.sites t.params) ps → words (each (pred t) ps []) ≡ total pred_tokens ps
preds_words t [] k h = refl
preds_words t (p ∷ ps) k h = let a = pred_words t p h.0.some k.0.as_many (each (pred t) ps []) in let b = preds_words t ps k.1 h.1 in omega arith

-- the tokens of the canonical text are counted
pub table_words : (t : TableOf) → Every PredKept t.preds → Every (PredParts t.sites t.params) t.preds → words (lexemes t []) ≡ text_tokens t
table_words t k h =
    let c = preds_words t t.preds k h in
    let b = each_words param param_tokens t.params param_words (each (pred t) t.preds []) in
    let a = each_words site site_tokens t.sites site_words (each param t.params (each (pred t) t.preds [])) in omega arith
