-- Lists of pairs that rise.
use Rattle.std.proofs.Common.{ℕ, ◌<◌, [], ◌∷◌, ◌++◌}
use Rattle.ln_tree.specs.Exps.{Pairs, AllAbove, IsAbove, IsRising}

-- a pair above v at the end
pub all_above-push : (v : ℕ) (ps : Pairs) (w e : ℕ) → v < w → AllAbove v ps → AllAbove v (ps ++ ((w, e) ∷ []))
all_above-push v [] w e l a = (l, tt)
all_above-push v (p ∷ ps) w e l a = (a.0, all_above-push v ps w e l a.1)

-- rising pairs go on with a pair above them
pub rising-push : (ps : Pairs) (w e : ℕ) → IsRising ps → IsAbove ps w → 0 < e → e < 128 → IsRising (ps ++ ((w, e) ∷ []))
rising-push [] w e r a p s = (p, s, tt, tt)
rising-push (x ∷ xs) w e r a p s = (r.0, r.1, all_above-push x.0 xs w e a.0 r.2, rising-push xs w e r.3 a.1 p s)
