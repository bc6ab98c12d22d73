-- The tokens of an expression have no fault where its names are short and known, and its numbers within the limits.
use Rattle.std.proofs.Common.{◌≡◌, ℕ, ◌+◌, ◌-◌, ◌<◌, ◌≤◌, ◌^◌, ◌==◌, ◌&&◌, ◌||◌, nat_lt, true, false, List, [], ◌∷◌, ◌++◌, length, None, refl, ap, subst, arith}
use Rattle.std.specs.Prelude.{bytes_eq, find}
use Rattle.std.specs.List.{list_any}
use Rattle.std.proofs.lemmas.Bool.Decides.{nat_tests}
use Rattle.ln_syntax.specs.Raw.{Span, Token, Is, text, Semi}
use Rattle.ln_names.specs.Rules.{RawArg, RawLet, RawCoord, Scope, Use, InputNode, OperatorNode, is_site_arg, is_param_arg, coords_of, fault_at}
use Rattle.ln_syntax.specs.Expression.{Tree, TNum, TName, TInput, TNeg, TAdd, TSub, TMul, TPow, Derives, Sum}
use Rattle.ln_names.specs.Numbers as numbers
use Rattle.ln_base.specs.Limits.{most_literal}
use Rattle.ln_names.specs.Nodes.{Begins}
use Rattle.ln_names.specs.Visits.{Visit, visit, nodes, expr_visits}
use Rattle.ln_names.specs.First.{Clean}
use Rattle.ln_names.proofs.Machine.{tokens_of}
use Rattle.ln_names.proofs.Trees.{Judged, judge, judged}
use Rattle.ln_parse.specs.Written.{Written, WNum, WName, WInput, WNeg, WAdd, WSub, WMul, WPow, spelling}
use Rattle.ln_parse.proofs.Expressions.Counts.{count_of}

-- its names are of at most 32 bytes and stand for something in scope, its numbers are within the limits
abbrev pub Meant : List ℕ → Scope → Written → Type 0
Meant bytes s (WNum n) = n < 2 ^ 127
Meant bytes s (WName t) = (length t ≤ 32) × ((list_any (λ (l : RawLet). bytes_eq (text bytes l.name) t) s.lets
    || list_any (λ (a : RawArg). is_param_arg a && bytes_eq (text bytes a.name) t) s.args) ≡ true)
Meant bytes s (WInput t x) =
    (length t ≤ 32) × (length x ≤ 32) × (list_any (λ (a : RawArg). is_site_arg a && bytes_eq (text bytes a.name) t) s.args ≡ true)
    × (list_any (λ (c : RawCoord). bytes_eq (text bytes c.name) x)
    (coords_of bytes s.items (find (λ (a : RawArg). is_site_arg a && bytes_eq (text bytes a.name) t) s.args)) ≡ true)
Meant bytes s (WNeg e) = Meant bytes s e
Meant bytes s (WAdd e f) = Meant bytes s e × Meant bytes s f
Meant bytes s (WSub e f) = Meant bytes s e × Meant bytes s f
Meant bytes s (WMul e f) = Meant bytes s e × Meant bytes s f
Meant bytes s (WPow e n) = Meant bytes s e × (n ≤ 16)

-- visits without a fault, and more of them, have none
pub clean_join : (bytes : List ℕ) (vs ws : List Visit) → Clean bytes vs → Clean bytes ws → Clean bytes (vs ++ ws)
clean_join bytes [] ws c d = d
clean_join bytes (v ∷ vs) ws c d = (c.0, clean_join bytes vs ws c.1 d)

-- a number isn't below one that is at most it
pub not_over : (a b : ℕ) → b ≤ a → nat_lt a b ≡ false
not_over a b h = grind (arith, nat_tests)

-- and doesn't equal one that is above it
pub not_at : (n m : ℕ) → n < m → (n == m) ≡ false
not_at n m h = grind (arith, nat_tests)

-- one more visit without a fault
clean_more : (bytes : List ℕ) (vs : List Visit) (u : Use) (at : Span) → Clean bytes vs → fault_at bytes u at ≡ None → Clean bytes (vs ++ (visit u at ∷ []))
clean_more bytes vs u at c f = clean_join bytes vs (visit u at ∷ []) c (f, tt)

module _ (bytes : List ℕ) (s : Scope) where
  -- the tokens of a tree have no fault, after nodes that leave room
  clean_of : (e : Tree) (j : Judged) → Meant bytes s (spelling bytes e) → Clean bytes j.visits → (judged s e j).count ≤ 2048
      → Clean bytes (judged s e j).visits
  clean_of (TNum at) j m c l =
      clean_more bytes j.visits _ at c (rw (not_over most_literal (numbers.number bytes at) (omega arith), not_at j.count 2048 (omega arith)) refl)
  clean_of (TName at) j m c l = clean_more bytes j.visits _ at c (rw (not_over 32 _ m.0, not_at j.count 2048 (omega arith), m.1) refl)
  clean_of (TInput at x) j m c l =
      clean_more bytes (judge j (InputNode j.count s) at 1).visits _ x
      (clean_more bytes j.visits _ at c (rw (not_over 32 _ m.0, not_at j.count 2048 (omega arith), m.2) refl)) (rw (not_over 32 _ m.1, m.3) refl)
  clean_of (TNeg at e) j m c l =
      let o = judge j (OperatorNode j.count) at 1 in
      let a = count_of bytes s e o in
      clean_of e o m (clean_more bytes j.visits _ at c (rw (not_at j.count 2048 (omega arith)) refl)) l
  clean_of (TAdd at e f) j m c l =
      let o = judged s e j in
      let p = judge o (OperatorNode o.count) at 1 in
      let a = count_of bytes s f p in
      clean_of f p m.1 (clean_more bytes o.visits _ at (clean_of e j m.0 c (omega arith)) (rw (not_at o.count 2048 (omega arith)) refl)) l
  clean_of (TSub at e f) j m c l =
      let o = judged s e j in
      let p = judge o (OperatorNode o.count) at 1 in
      let a = count_of bytes s f p in
      clean_of f p m.1 (clean_more bytes o.visits _ at (clean_of e j m.0 c (omega arith)) (rw (not_at o.count 2048 (omega arith)) refl)) l
  clean_of (TMul at e f) j m c l =
      let o = judged s e j in
      let p = judge o (OperatorNode o.count) at 1 in
      let a = count_of bytes s f p in
      clean_of f p m.1 (clean_more bytes o.visits _ at (clean_of e j m.0 c (omega arith)) (rw (not_at o.count 2048 (omega arith)) refl)) l
  clean_of (TPow at e n) j m c l =
      let o = judged s e j in
      clean_more bytes (judge o (OperatorNode o.count) at 1).visits _ n
      (clean_more bytes o.visits _ at (clean_of e j m.0 c (omega arith)) (rw (not_at o.count 2048 (omega arith)) refl))
      (rw (not_over most_literal (numbers.number bytes n) (omega (arith, m.1)), not_over 16 _ m.1) refl)

-- the tokens of an expression
pub value_clean : (bytes : List ℕ) (s : Scope) {ts : List Token} {i j : ℕ} {e : Tree} → Derives ts Sum i j e → Is ts j Semi → Begins ts i
    → Meant bytes s (spelling bytes e) → (n : ℕ) → n + nodes ts i (j - i) ≤ 2048 → Clean bytes (expr_visits ts s n i (j - i))
value_clean bytes s {ts = ts} {e = e} d h b m n l =
    let o : Judged = record { visits = []; count = n } in
    let v = tokens_of ts s n d h b in
    let a = ap (λ (w : Judged). w.count) v in
    subst (λ (w : Judged). Clean bytes w.visits) v (clean_of bytes s e o m tt (omega arith))
