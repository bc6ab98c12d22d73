use Rattle.std.proofs.Common.{◌∙◌, [], Some, sym, ap, map, length, get_or, arith}
use Rattle.std.proofs.lemmas.Option.{slice_get-get_or}
use Rattle.ln_csyn.specs.Meaning.{called_at, runs_behind}
use Rattle.ln_csyn.specs.View.{fun_tree, body_tree}
use Rattle.ln_cmean.specs.Room.{most_slots}
use Rattle.ln_cmean.proofs.Named.{none-behind}
use Rattle.ln_cmean.proofs.Places.{behind_first, need_at, need_before}
use Rattle.ln_cmean.proofs.calling.call_in.Goals as goal

pub returns-in_default-clause-meaning : goal.returns-in_default-clause-meaning
returns-in_default-clause-meaning c =
    sym (none-behind [] (map fun_tree c.args.all.now.funs.now) c.args.name.now c.args.index.now c.args.values.now c.in_default.ensures.none)

pub call_two-requires-clause-room : goal.call_two-requires-clause-room
call_two-requires-clause-room c =
    let fs = c.args.all.now.funs.now in
    let g = slice_get-get_or fs c.in-Some.at c.index-all-at.result c.in-Some.ensures.within in
    record {
      based = omega (arith, c.leave.ensures.base);
      fit = omega (
        arith,
        ap (λ ys. length ys) c.leave.ensures.slots,
        c.leave.ensures.capacity,
        c.requires,
        need_at fs c.in-Some.at _ g,
        need_before c.in-Some.at fs,
        ap (λ xs. most_slots (map fun_tree xs)) c.before-2.ensures,
      );
    }

pub returns-clause-meaning : goal.returns-clause-meaning
returns-clause-meaning c =
    let fs = c.args.all.now.funs.now in
    let g = slice_get-get_or fs c.in-Some.at c.index-all-at.result c.in-Some.ensures.within in
    let f = get_or fs c.in-Some.at c.index-all-at.result in
    let x = c.args.name.now in
    let index = c.args.index.now in
    let values = c.args.values.now in
    c.call_two.ensures.meaning
    ∙ ap (λ xs. Some (called_at f.end (runs_behind (map fun_tree xs) (body_tree f.body.items) index values))) c.before-2.ensures
    ∙ sym (behind_first fs c.in-Some.at f x index values g c.in-Some.ensures.some)
