-- The pairs that the machine finds are the edges.
use Rattle.std.proofs.Common.{◌≡◌, List, pos, refl, subst}
use Rattle.ln_base.specs.declared.sign.Sign.{Sign}
use Rattle.ln_base.specs.declared.sign.Sign.TheVariants.{Plus}
use Rattle.ln_algebra.specs.Orders.{BySmallest}
use Rattle.ln_algebra.specs.Terms.{Term}
use Rattle.ln_algebra.specs.Tree.{Tree}
use Rattle.ln_tree.specs.Row.{InRange, Row}
use Rattle.ln_order.specs.Rows.{RowSign}
use Rattle.ln_order.proofs.Signs.RowSigns.{row_sign-unique}
use Rattle.ln_code.proofs.Verdicts.Machine.{rows-have}
use Rattle.ln_code.specs.Carried.{Carries, Runs}
use Rattle.ln_code.specs.Part.{Part}
use Rattle.ln_due.proofs.Verdicts.Composition.{signs-perturbed}
use Rattle.ln_due.specs.Due.{sign_number}
use Rattle.ln_edges.specs.Edges.{Edge, IsPlus}
use Rattle.ln_edges.specs.Law.{LinesAreOfEdges, MachineFindsEdges}
use Rattle.ln_edges.specs.Lines.{ProgramEdge, edge_line}
use Rattle.ln_edges.proofs.PairLemmas.{lines_by}
use Rattle.ln_edges.proofs.RowLemmas.{for_in_range}

plus_number : (s : Sign) → sign_number s ≡ pos 1 → s ≡ Plus
plus_number Plus e = refl
plus_number s e = absurd (cc)

-- the machine's plus on a row in range is the perturbed one, and the other way round
to_perturbed : (p : Part) (e : Tree) (f : List Term) (row : Row) → Runs p → Carries BySmallest p e f
    → InRange p.shape.sites p.shape.vars row → IsPlus p row → RowSign BySmallest p.shape.vars e row (pos 1)
to_perturbed p e f row r c h (v, is, plus) =
    subst (λ (s : Sign). RowSign BySmallest p.shape.vars e row (sign_number s)) plus
    (signs-perturbed BySmallest p e f row v r c h is)

from_perturbed : (p : Part) (e : Tree) (f : List Term) (row : Row) → Runs p → Carries BySmallest p e f
    → InRange p.shape.sites p.shape.vars row → RowSign BySmallest p.shape.vars e row (pos 1) → IsPlus p row
from_perturbed p e f row r c h s =
    let x = rows-have p row r h in (
      x.0,
      x.1,
      plus_number x.0.sign (row_sign-unique BySmallest p.shape e row (sign_number x.0.sign) (pos 1) h
          (signs-perturbed BySmallest p e f row x.0 r c h x.1) s),
    )

-- two different points are an edge by the machine exactly where they are one by the perturbed sign of the expression
pub machine_finds : MachineFindsEdges
machine_finds p e f ps i j r c a h g n = (
  λ m. record {
    first = h;
    second = g;
    differ = n;
    around = λ k l x y. to_perturbed p e f _ r c
        (for_in_range p.shape.sites p.shape.vars ps i j k a h g l n x y) (m k l x y);
  },
  λ m k l x y. from_perturbed p e f _ r c (for_in_range p.shape.sites p.shape.vars ps i j k a h g l n x y)
      (m.around k l x y),
)

-- the lines of the edges by the machine are the lines of the edges
pub lines_are : LinesAreOfEdges
lines_are p e f ps text r c a =
    lines_by (ProgramEdge p ps) (Edge p.shape.vars e ps) (edge_line ps) text
    (λ i j h. (machine_finds p e f ps i j r c a h.first h.second h.differ).0 h.around)
    (λ i j h. record {
      first = h.first;
      second = h.second;
      differ = h.differ;
      around = (machine_finds p e f ps i j r c a h.first h.second h.differ).1 h;
    })
