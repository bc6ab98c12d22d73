-- What operations push is small where each node is.
use Rattle.std.proofs.Common.{List, [], ◌∷◌, ℕ}
use Rattle.ln_algebra.specs.Tree.{Tree}
use Rattle.ln_bound.specs.declared.fitted.Width.{Width}
use Rattle.ln_code.specs.FilterRules.{FilterKnown}
use Rattle.ln_code.specs.Pushes.{Pushed}
use Rattle.ln_filter.specs.Nodes as filter
use Rattle.ln_due.specs.Small.{AreSmall, IsSmall, filter_tree}
use Rattle.ln_due.proofs.Parts.Smallness.{small-same}

-- in a filter
pub filter-pushes-small : (n : ℕ) (is_node : Tree → Width → Type 0) (ps : List (Pushed FilterKnown))
    → ((e : Tree) (v : Width) → is_node e v → IsSmall n e) → filter.PushNodes is_node ps → AreSmall filter_tree n ps
filter-pushes-small n is_node [] h ns = tt
filter-pushes-small n is_node (p ∷ ps) h ns =
    (small-same n p.value.tree ns.0.node ns.0.same (h ns.0.node ns.0.width ns.0.there), filter-pushes-small n is_node ps h ns.1)
