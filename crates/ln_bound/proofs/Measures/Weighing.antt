-- Nodes with their weights, one after the other.
use Rattle.std.proofs.Common.{ℕ, ◌≤◌, ◌<◌, List, [], ◌∷◌, ◌++◌, Option, ap, ◌∙◌, sym, append_assoc}
use Rattle.ln_base.specs.declared.span.Span.{Span}
use Rattle.ln_bound.specs.declared.weigh.BoundStop.{BoundStop}
use Rattle.ln_bound.specs.declared.weigh.BoundStop.TheVariants.{Bound, NoMemory}
use Rattle.ln_bound.specs.Light.{most, AreLight}
use Rattle.ln_bound.specs.Stop.{StopsWeighing, IsHeavyOrNoMemory, IsHeavy}

-- nodes: where each is in the source, and its weight
abbrev pub Nodes : Type 0
Nodes = List (Span × ℕ)

-- both are light
pub light_both : (xs ys : Nodes) → AreLight xs → AreLight ys → AreLight (xs ++ ys)
light_both [] ys h g = g
light_both (x ∷ xs) ys h g = (h.0, light_both xs ys h.1 g)

-- one more node is light
pub light_behind : (xs : Nodes) (at : Span) (w : ℕ) → AreLight xs → w ≤ most → AreLight (xs ++ (at, w) ∷ [])
light_behind xs at w h l = light_both xs ((at, w) ∷ []) h (l, tt)

-- the first whose weight is too large stays the first where more follow
pub stop_before : (xs ys : Nodes) (s : BoundStop) → StopsWeighing xs s → StopsWeighing (xs ++ ys) s
stop_before xs ys (Bound at) f = record {
  before = f.before;
  weight = f.weight;
  after = f.after ++ ys;
  stands = ap (λ (zs : Nodes). zs ++ ys) f.stands ∙ append_assoc f.before ((at, f.weight) ∷ f.after) ys;
  light = f.light;
  heavy = f.heavy;
}
stop_before xs ys (NoMemory m) f = tt

-- it is the first after light ones
pub stop_behind : (xs ys : Nodes) (s : BoundStop) → AreLight xs → StopsWeighing ys s → StopsWeighing (xs ++ ys) s
stop_behind xs ys (Bound at) l f = record {
  before = xs ++ f.before;
  weight = f.weight;
  after = f.after;
  stands = ap (λ (zs : Nodes). xs ++ zs) f.stands ∙ sym (append_assoc xs f.before ((at, f.weight) ∷ f.after));
  light = light_both xs f.before l f.light;
  heavy = f.heavy;
}
stop_behind xs ys (NoMemory m) l f = tt

-- a node whose weight is too large, after light ones
pub stop_here : (xs : Nodes) (at : Span) (w : ℕ) (o : Option ℕ) (s : BoundStop) → AreLight xs → (IsHeavy o → most < w)
    → IsHeavyOrNoMemory at o s → StopsWeighing (xs ++ (at, w) ∷ []) s
stop_here xs at w o (Bound t) l h e =
    record { before = xs; weight = w; after = []; stands = ap (λ (u : Span). xs ++ (u, w) ∷ []) (sym e.0); light = l; heavy = h e.1 }
stop_here xs at w o (NoMemory m) l h e = tt
