use Rattle.std.proofs.Common.{take, ap, subst, arith}
use Rattle.ln_syntax.specs.Raw.{Item, item, items}
use Rattle.ln_parse.specs.Ready.{ReadyItem}
use Rattle.ln_parse.proofs.Building.Loops.{item_index}
use Rattle.ln_parse.proofs.build.params.Goals as goal

pub param-requires : goal.param-requires
param-requires c =
    let its = c.args.its.now in
    let e = item_index (ReadyItem c.args.bytes.now c.requires.tokens) its c.items.it-index c.it-item.result c.requires.each (omega arith) c.it-item.is in
    subst (λ (w : Item). ReadyItem c.args.bytes.now c.requires.tokens (items (take c.items.it-index its)) w) (ap item c.in-Param.is) e
