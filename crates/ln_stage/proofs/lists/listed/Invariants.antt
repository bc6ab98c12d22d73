use Rattle.std.proofs.Common.{drop, length, map}
use Rattle.ln_order.specs.Fronts.{front_places}
use Rattle.ln_stage.specs.Graded.{cut_by, segment_by}
use Rattle.ln_stage.specs.Visit.{AreCutsFor}
use Rattle.ln_stage.proofs.Results.ListedLemmas.{IsUpTo}
use Rattle.ln_stage.proofs.lists.listed.Given as goal

abbrev pub invariant-prefixes : goal.invariant-prefixes
invariant-prefixes l = record {
  so_far : IsUpTo (segment_by l.by_degree l.s.sites l.s.vars l.f) l.s.sites (length l.s.vars) l.f l.fn.tally (map front_places l.prefixes)
      (map front_places (drop l.p-index l.prefixes)) l.most l.tally l.segments l.count;
  cuts : AreCutsFor (cut_by l.by_degree l.s.sites l.s.vars l.f) (map front_places (drop l.p-index l.prefixes)) l.cuts;
}
