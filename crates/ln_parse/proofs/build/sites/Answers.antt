use Rattle.std.proofs.Common.{List, take, Some, ◌∙◌, ap, sym, subst, arith}
use Rattle.ln_parse.specs.Says.{RawCoord, site_said, site_of}
use Rattle.ln_syntax.specs.Raw.{Item, SiteItem, item, items}
use Rattle.ln_parse.specs.Ready.{ReadyItem, ReadySite}
use Rattle.ln_parse.proofs.Building.Loops.{item_index}
use Rattle.ln_parse.proofs.Building.Said.{no_site, said_more, said_skip}
use Rattle.ln_parse.proofs.build.sites.Goals as goal
use Rattle.ln_parse.proofs.build.sites.Goals.{in-Site+in_ok-site+in_ok-push, in_default}

pub site-requires : goal.site-requires
site-requires c =
    let its = c.args.its.now in
    let e = item_index (ReadyItem c.args.bytes.now c.requires.tokens) its c.items.it-index c.it-item.result c.requires.each (omega arith) c.it-item.is in
    let f = subst (λ (w : Item). ReadyItem c.args.bytes.now c.requires.tokens (items (take c.items.it-index its)) w) (ap item c.in-Site.is) e in
    subst (λ (w : List RawCoord). ReadySite c.args.bytes.now c.in-Site.name w) (sym c.deref.ensures.value) f

pub items-preserved : goal.items-preserved
items-preserved c =
    let its = c.args.its.now in
    let i = c.items.it-index in
    let x = c.it-item.result in
    let says = site_said c.args.bytes.now in
    let skip = said_skip says site_of its i x c.items.sites c.match-it.sites (omega arith) c.it-item.is in
    elim c.match-it.branch [
      | in-Site+in_ok-site+in_ok-push w ↦
          said_more says site_of its i x c.items.sites c.match-it.sites (omega arith) c.it-item.is w.in_ok-site.field-0
          (ap (λ x. says (item x)) w.in-Site.is ∙ ap (λ (cs : List RawCoord). says (SiteItem w.in-Site.name cs)) (sym w.deref.ensures.value)
          ∙ ap (λ s. Some s) (sym w.in_ok-site.ensures)) (w.sites-is ∙ w.in_ok-push.ensures.ok) c.items.invariant
      | in_default w ↦ skip (no_site _ _ w.in_default.not-Site) w.sites-is c.items.invariant
    ]
