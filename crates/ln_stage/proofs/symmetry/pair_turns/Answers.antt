use Rattle.std.proofs.Common.{◌≡◌, true, false, rules}
use Rattle.ln_order.proofs.Exchanging.Shifts.{shifts-alike}
use Rattle.ln_stage.proofs.Testing.Pairs.{pair_no, pair_unlike, pair_yes}
use Rattle.ln_stage.proofs.symmetry.pair_turns.Goals as goal

pub returns-then-not-is_shift-clause-no : goal.returns-then-not-is_shift-clause-no
returns-then-not-is_shift-clause-no c =
    let q : c.is_shift.result ≡ false = search rules in
    λ sites laid l no. pair_unlike sites c.args.vars.now c.args.j c.shift_of-d.result c.args.y c.args.f.now c.is_shift.result laid l
    c.shift_of-d.ensures.is c.is_shift.ensures q

pub all_have_partners-requires-clause-form : goal.all_have_partners-requires-clause-form
all_have_partners-requires-clause-form c = rw (c.terms.ensures.value) c.terms.ensures.form

pub all_have_partners-requires-clause-within : goal.all_have_partners-requires-clause-within
all_have_partners-requires-clause-within c =
    let q : c.is_shift.result ≡ true = search rules in
    (shifts-alike c.args.vars.now c.args.j c.shift_of-d.result (c.is_shift.ensures.0 q)).within

pub returns-clause-yes : goal.returns-clause-yes
returns-clause-yes c =
    let q : c.is_shift.result ≡ true = search rules in
    λ yes. pair_yes c.args.vars.now c.args.j c.shift_of-d.result c.args.y c.args.f.now c.is_shift.result c.all_have_partners.result
    c.shift_of-d.ensures.is c.is_shift.ensures q (rw (c.terms.ensures.value) at c.all_have_partners.ensures) yes

pub returns-clause-no : goal.returns-clause-no
returns-clause-no c =
    λ sites laid l no. pair_no sites c.args.vars.now c.args.j c.shift_of-d.result c.args.y c.args.f.now c.all_have_partners.result laid l
    c.shift_of-d.ensures.is (rw (c.terms.ensures.value) at c.all_have_partners.ensures) no
