use Rattle.std.proofs.Common.{◌≡◌, ◌+◌, ◌∙◌, ap, length, rules, set}
use Rattle.ln_order.specs.Fronts.{front_places}
use Rattle.ln_stage.specs.Graded.{cut_by}
use Rattle.ln_stage.specs.Tally.{Tallied, next_list}
use Rattle.ln_stage.specs.Visit.{AreCuts, cut_in}
use Rattle.ln_stage.proofs.Walks.VisitLemmas.{cut-of, cuts-more}
use Rattle.ln_stage.proofs.lists.segment.Goals as goal

pub visit_by-requires-clause-before : goal.visit_by-requires-clause-before
visit_by-requires-clause-before c =
    c.before-cut.ensures ∙ ap (λ n. cut_in c.args.cuts.now n) (ap length c.places-n.ensures.value)
    ∙ cut-of (cut_by c.args.by_degree c.args.s.now.sites c.args.s.now.vars c.args.f.now) (front_places c.args.p.now) c.args.cuts.now c.requires.cuts

pub returns-clause-list : goal.returns-clause-list
returns-clause-list c = c.take_list.ensures.list ∙ ap (λ (t : Tallied). t.list) c.in_ok-here.ensures.ok.seen

pub returns-clause-rest : goal.returns-clause-rest
returns-clause-rest c = c.take_list.ensures.rest ∙ ap next_list c.in_ok-here.ensures.ok.seen

pub returns-clause-cuts : goal.returns-clause-cuts
returns-clause-cuts c =
    let p = front_places c.args.p.now in
    let six : length c.args.cuts.now ≡ 6 = search rules in
    let all : AreCuts (cut_by c.args.by_degree c.args.s.now.sites c.args.s.now.vars c.args.f.now) (length (front_places c.args.p.now) + 1)
    (front_places c.args.p.now) (set c.args.cuts.now (length c.places-n.result.now) c.in_ok-here.here) =
    rw (ap length c.places-n.ensures.value) (cuts-more (cut_by c.args.by_degree c.args.s.now.sites c.args.s.now.vars c.args.f.now)
    (front_places c.args.p.now) c.args.cuts.now c.in_ok-here.here six c.places-n.ensures.few c.requires.cuts c.in_ok-here.ensures.ok.cut) in
    all
