use Rattle.std.specs.Prelude.{[], ◌∷◌, codes, decimal}
use Rattle.ln_tree.specs.Table.{pred_of}
use Rattle.ln_top.proofs.TextsLemmas.CheckLaws.{count_appended}
use Rattle.ln_top.proofs.texts.check.add_count.Goals as goal

pub returns : goal.returns
returns c =
    let name = rw c.bytes.ensures at c.in_ok-extend_from_slice.ensures.items in
    let sites = rw c.from.ensures at c.in_ok-add_number.ensures in
    let p = pred_of c.args.p.now in
    count_appended c.args.text.now.items p.name (codes " sites ") (decimal p.sites) (codes " stages ") (decimal c.args.count) (10 ∷ [])
    name sites c.in_ok-add_number-2.ensures c.in_ok-push.ensures.items
