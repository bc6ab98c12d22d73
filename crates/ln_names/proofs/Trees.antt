-- The tokens of an expression that the rules speak of, by its tree.
use Rattle.std.proofs.Common.{◌≡◌, ℕ, zero, suc, ◌+◌, List, [], ◌∷◌, ◌++◌, Option, Some, None, refl, ap, ◌∙◌, arith, append_assoc, add-one}
use Rattle.std.proofs.lemmas.List.{append-nil}
use Rattle.ln_syntax.specs.Raw.{Span, Token, span_at}
use Rattle.ln_syntax.specs.Expression.{Tree, TNum, TName, TInput, TNeg, TAdd, TSub, TMul, TPow}
use Rattle.ln_names.specs.declared.roles.Role.{Role}
use Rattle.ln_names.specs.Rules.{Scope, Use, NumberNode, NameNode, InputNode, InputCoord, OperatorNode, ExponentOf}
use Rattle.ln_names.specs.Visits.{Visit, visit, role_at, is_node, is_node_at, role_use, token_visits, expr_visits, nodes}

-- the tokens that were judged, and how many of them are nodes
pub record Judged : Type 0 where
  pub visits : List Visit
  pub count : ℕ

-- one more token, and the number of nodes that it is
abbrev pub judge : Judged → Use → Span → ℕ → Judged
judge j u at n = record { visits = j.visits ++ (visit u at ∷ []); count = j.count + n }

-- the tokens of a tree, in order of the text
abbrev pub judged : Scope → Tree → Judged → Judged
judged s (TNum at) j = judge j (NumberNode j.count) at 1
judged s (TName at) j = judge j (NameNode j.count s) at 1
judged s (TInput at x) j = judge (judge j (InputNode j.count s) at 1) (InputCoord s at) x 0
judged s (TNeg at e) j = judged s e (judge j (OperatorNode j.count) at 1)
judged s (TAdd at e f) j = let l = judged s e j in judged s f (judge l (OperatorNode l.count) at 1)
judged s (TSub at e f) j = let l = judged s e j in judged s f (judge l (OperatorNode l.count) at 1)
judged s (TMul at e f) j = let l = judged s e j in judged s f (judge l (OperatorNode l.count) at 1)
judged s (TPow at e n) j = let l = judged s e j in judge (judge l (OperatorNode l.count) at 1) ExponentOf n 0

-- the token at place k, which has this role
abbrev pub judge_by : List Token → Scope → ℕ → Option Role → Judged → Judged
judge_by ts s k None j = j
judge_by ts s k (Some r) j = judge j (role_use ts s j.count k r) (span_at ts k) (is_node r)

-- n tokens from place k on
abbrev pub judges : List Token → Scope → ℕ → ℕ → Judged → Judged
judges ts s k zero j = j
judges ts s k (suc n) j = judges ts s (suc k) n (judge_by ts s k (role_at ts k) j)

-- the tokens so far, and the rules' visits of those that follow
abbrev with : Judged → List Visit → ℕ → Judged
with j vs n = record { visits = j.visits ++ vs; count = j.count + n }

one_judged : (ts : List Token) (s : Scope) (k : ℕ) (r : Option Role) (j : Judged) → judge_by ts s k r j ≡ with j (token_visits ts s j.count k r) (is_node_at r)
one_judged ts s k None j = let a = append-nil j.visits in let b : j.count + 0 ≡ j.count = omega arith in rw (a, b) refl
one_judged ts s k (Some r) j = refl

-- the tokens that are judged are the rules' visits
pub judges_visits : (ts : List Token) (s : Scope) (n k : ℕ) (j : Judged) → judges ts s k n j ≡ with j (expr_visits ts s j.count k n) (nodes ts k n)
judges_visits ts s zero k j = let a = append-nil j.visits in let b : j.count + 0 ≡ j.count = omega arith in rw (a, b) refl
judges_visits ts s (suc n) k j =
    let r = role_at ts k in
    let a = append_assoc j.visits (token_visits ts s j.count k r) (expr_visits ts s (j.count + is_node_at r) (suc k) n) in
    let b : j.count + is_node_at r + nodes ts (suc k) n ≡ j.count + (is_node_at r + nodes ts (suc k) n) = omega arith in
    judges_visits ts s n (suc k) (judge_by ts s k r j)
    ∙ ap (λ (o : Judged). with o (expr_visits ts s o.count (suc k) n) (nodes ts (suc k) n)) (one_judged ts s k r j) ∙ rw (a, b, add-one k) refl
