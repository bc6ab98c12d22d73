use Rattle.std.proofs.Common.{◌∙◌, length, sym}
use Rattle.std.specs.Prelude.{◌&&◌, nat_lt}
use Rattle.std.proofs.lemmas.Bool.{or_parts}
use Rattle.ln_order.specs.Fronts.{front_places}
use Rattle.ln_stage.proofs.Degrees.GradedLists.{left-out}
use Rattle.ln_stage.proofs.Walks.TurnLemmas.{ends-same}
use Rattle.ln_stage.proofs.visits.visit_by.Goals as goal

pub returns-then-is_left_out-clause-ok : goal.returns-then-is_left_out-clause-ok
returns-then-is_left_out-clause-ok c = ends-same (sym (left-out c.args.by_degree c.args.cut c.args.s.now.sites c.args.s.now.vars c.args.f.now
    (front_places c.args.p.now) c.requires.before c.if-is_left_out.ensures))

pub visit_from-requires-clause-start : goal.visit_from-requires-clause-start
visit_from-requires-clause-start c = c.in_ok-w.ensures

pub visit_from-requires-clause-before : goal.visit_from-requires-clause-before
visit_from-requires-clause-before c = sym c.requires.before ∙ (or_parts c.args.cut
    (c.args.by_degree && nat_lt (length (front_places c.args.p.now)) c.args.s.now.sites) (sym c.if-is_left_out.ensures)).0

pub visit_from-requires-clause-whole : goal.visit_from-requires-clause-whole
visit_from-requires-clause-whole c =
    (or_parts c.args.cut (c.args.by_degree && nat_lt (length (front_places c.args.p.now)) c.args.s.now.sites) (sym c.if-is_left_out.ensures)).1
