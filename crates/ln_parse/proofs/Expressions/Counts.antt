-- How many nodes an expression has, by its tokens.
use Rattle.std.proofs.Common.{◌≡◌, ℕ, ◌+◌, ◌-◌, List, [], Option, Some, None, ap, refl, arith}
use Rattle.std.specs.Prelude.{position}
use Rattle.ln_syntax.specs.Raw.{Span, Token, Is, same, Semi}
use Rattle.ln_syntax.specs.Expression.{Tree, TNum, TName, TInput, TNeg, TAdd, TSub, TMul, TPow, Derives, Sum}
use Rattle.ln_names.specs.Nodes.{Begins}
use Rattle.ln_names.specs.Rules.{Scope, OperatorNode}
use Rattle.ln_names.specs.Visits.{nodes}
use Rattle.ln_names.proofs.Machine.{tokens_of}
use Rattle.ln_names.proofs.Trees.{Judged, judge, judged}
use Rattle.ln_parse.specs.Says.{node_count, resolved, name_of}

one_node : (bytes : List ℕ) (s : Scope) (at : Span) (o : Option ℕ) → node_count (name_of bytes s at o) ≡ 1
one_node bytes s at None = refl
one_node bytes s at (Some j) = refl

-- the tokens of a tree are as many nodes more as the tree has
pub count_of : (bytes : List ℕ) (s : Scope) (e : Tree) (j : Judged) → (judged s e j).count ≡ j.count + node_count (resolved bytes s e)
count_of bytes s (TNum at) j = refl
count_of bytes s (TName at) j = let a = one_node bytes s at (position (λ l. same bytes l.name at) s.lets) in omega arith
count_of bytes s (TInput at x) j = omega arith
count_of bytes s (TNeg at e) j = let a = count_of bytes s e (judge j (OperatorNode j.count) at 1) in omega arith
count_of bytes s (TAdd at e f) j =
    let l = judged s e j in let a = count_of bytes s e j in let b = count_of bytes s f (judge l (OperatorNode l.count) at 1) in omega arith
count_of bytes s (TSub at e f) j =
    let l = judged s e j in let a = count_of bytes s e j in let b = count_of bytes s f (judge l (OperatorNode l.count) at 1) in omega arith
count_of bytes s (TMul at e f) j =
    let l = judged s e j in let a = count_of bytes s e j in let b = count_of bytes s f (judge l (OperatorNode l.count) at 1) in omega arith
count_of bytes s (TPow at e n) j = let a = count_of bytes s e j in omega arith

-- the nodes of an expression are those of its tokens
pub node_count_is : (bytes : List ℕ) (s : Scope) {ts : List Token} {i j : ℕ} {e : Tree} → Derives ts Sum i j e → Is ts j Semi → Begins ts i
    → node_count (resolved bytes s e) ≡ nodes ts i (j - i)
node_count_is bytes s {ts = ts} {e = e} d h b =
    let o : Judged = record { visits = []; count = 0 } in
    let a = ap (λ (w : Judged). w.count) (tokens_of ts s 0 d h b) in
    let c = count_of bytes s e o in omega arith
